use Rattle.bz_std.proofs.CutNumbers.{bare_is_wide, fits_narrow}
use Rattle.bz_std.proofs.cuts.wide_cuts_do_not_fit.Goals as goal

pub returns : goal.returns
returns c = record { of_cut = fits_narrow; of_bare = bare_is_wide }
