use Rattle.bz_model.proofs.MeetingParts.{feasible_is_meeting}
use Rattle.bz_model.proofs.laws.feasible_is_meeting_all_parts.Goals as goal

pub returns : goal.returns
returns c = feasible_is_meeting
