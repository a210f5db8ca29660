-- A pivot, refused or not, leaves a tableau of the program.
use Rattle.std.specs.Prelude.{ℕ, ◌≡◌, Bool, Result, Ok, Err, IfOk, OnErr}
use Rattle.std.proofs.Common.{sym, subst, ◌∙◌}
use Rattle.bz_tableau.specs.Pivots.{IsPivoted}
use Rattle.bz_tableau.specs.Programs.{lp_equations}
use Rattle.bz_tableau.specs.Tables.{Table, IsTableauOf}
use Rattle.bz_tableau.specs.declared.programs.Lp.{Lp}

pub stays_tableau : {T E : Type 0} (relaxed : Bool) (lp : Lp) (old new : Table) (r e : ℕ) (o : Result T E) → IfOk o (λ _. IsPivoted old r e new) → OnErr o (new ≡ old) → IsTableauOf relaxed lp old → IsTableauOf relaxed lp new
stays_tableau relaxed lp old new r e (Ok x) p u h = record { relaxed_is = p.relaxed ∙ h.relaxed_is; table = p.tableau (lp_equations relaxed lp) h.table }
stays_tableau relaxed lp old new r e (Err x) p u h = subst (λ (t : Table). IsTableauOf relaxed lp t) (sym u) h
