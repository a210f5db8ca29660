use Rattle.bz_check.proofs.AllTests.{tests_tell}
use Rattle.bz_check.proofs.laws.all_tests_tell.Goals as goal

pub returns : goal.returns
returns c = tests_tell
