-- Rules that are judged after those before them hold.
use Rattle.std.proofs.Common.{◌≡◌, false, refl, inl, inr}
use Rattle.std.specs.Prelude.{Option, Some, None, Result, Ok, Err, ◌∷◌}
use Rattle.bz_first.specs.Tests.{IsFirstFault, Judges}
use Rattle.bz_history.specs.States.{State, is_done}
use Rattle.bz_rules.specs.declared.refused.Refused.{Refused}
use Rattle.bz_rules.specs.declared.refused.Refused.TheVariants as refused
use Rattle.bz_rules.specs.Rules.{Rules, is_running, where_there}

-- the rules of what is there, in a search that isn't done
pub judged_there : {X T : Type 0} (t : State) (o : Option X) (x : X) (rules : X → Rules) (r : Result T Refused) → is_done t ≡ false → o ≡ Some x → Judges (rules x) r → Judges (is_running t ∷ where_there o rules) r
judged_there t o x rules (Ok y) running is h = rw is (running, h)
judged_there t o x rules (Err f) running is h = rw is (inr (running, h))

-- nothing has the number
pub nowhere : {X : Type 0} (t : State) (o : Option X) (rules : X → Rules) → is_done t ≡ false → o ≡ None → IsFirstFault (is_running t ∷ where_there o rules) refused.Unfit
nowhere t o rules running is = rw is (inr (running, inl (λ h. h, refl)))
