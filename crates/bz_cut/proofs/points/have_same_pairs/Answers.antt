use Rattle.std.proofs.Common.{◌≡◌, ℕ, ℤ, nat_eq, int_eq, ◌&&◌, ap}
use Rattle.std.specs.Bool.{Decides}
use Rattle.std.proofs.lemmas.Bool.Decides.{Decides-and, Decides-eqb, Decides-int_eq, Decides-like}
use Rattle.std.proofs.lemmas.Slice.Eq.{slice_eq-Decides}
use Rattle.bz_cut.proofs.points.have_same_pairs.Goals as goal

pairs_decide : (a b : ℕ × ℤ) → Decides (nat_eq a.0 b.0 && int_eq a.1 b.1) (a ≡ b)
pairs_decide a b = Decides-like _ (λ (h : (a.0 ≡ b.0) × (a.1 ≡ b.1)). (λ k. (h.0 k, h.1 k))) (λ h. (ap (λ (p : ℕ × ℤ). p.0) h, ap (λ (p : ℕ × ℤ). p.1) h)) (Decides-and (nat_eq a.0 b.0) (int_eq a.1 b.1) (Decides-eqb a.0 b.0) (Decides-int_eq a.1 b.1))

pub returns : goal.returns
returns c = slice_eq-Decides pairs_decide c.args.a.now c.args.b.now c.eq.result (rw (c.as_slice.ensures.value, c.as_slice-2.ensures.value) at c.eq.ensures)
