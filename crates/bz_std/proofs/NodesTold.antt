-- What a program tells of its node: sides that make the same rows have the same number at each index.
use Rattle.std.specs.Prelude.{ℕ, zero, suc, ◌+◌, ◌<◌, ◌≡◌, nat_lt, ℤ, pos, ◌+ℤ◌, ◌*ℤ◌, neg_ℤ, List, [], ◌∷◌, ◌++◌, length, map}
use Rattle.std.specs.List.{AllByRecursion}
use Rattle.std.proofs.Common.{refl, ap, sym, subst, ◌∙◌, arith, inl, inr}
use Rattle.std.proofs.lemmas.Bool.{cases_Bool, ltb-true, ltb-false}
use Rattle.std.proofs.lemmas.Int.{ints}
use Rattle.bz_algebra.specs.Sums.{dot, coef, upto, AllBelow}
use Rattle.bz_algebra.proofs.Ring.{add_zero, zero_add}
use Rattle.bz_algebra.proofs.SumLemmas.{coef_append, coef_beyond, dot_all, upto_same}
use Rattle.bz_model.specs.declared.Ineq.{Ineq}
use Rattle.bz_model.specs.declared.Master.{Master}
use Rattle.bz_model.specs.declared.Model.{Model}
use Rattle.bz_model.specs.Decomposed.{IsDecomposed}
use Rattle.bz_model.specs.Parting.{blocks_of, inner_cost, terms_in, width_of}
use Rattle.bz_model.specs.Points.{coordinate}
use Rattle.bz_cut.specs.declared.Cut.{Cut}
use Rattle.bz_cut.specs.declared.Mode.{Mode}
use Rattle.bz_cut.specs.declared.Mode.TheVariants as mode
use Rattle.bz_cut.specs.Fits.{FitsEquation}
use Rattle.bz_cut.specs.Rows.{AreMultipliers, own_at, master_at, rhs_at}
use Rattle.bz_num.specs.Fold.{IsNarrowSum, pairs_at}
use Rattle.bz_tree.specs.declared.Leaf.{Leaf}
use Rattle.bz_tree.specs.Boxes.{Box}
use Rattle.bz_tree.specs.Leaves.{LeafHolds, sides_of}
use Rattle.bz_tree.specs.TreeFits.{FitsLeaf}
use Rattle.bz_tableau.specs.declared.programs.Lp.{Lp}
use Rattle.bz_std.specs.LowestForms.{MeetsNode}
use Rattle.bz_std.specs.Posed.{Line, Posed}
use Rattle.bz_std.specs.Tasks.{moved, node, node_cost, side_line}
use Rattle.bz_std.specs.Told.{IsOfBoth}
use Rattle.bz_std.proofs.LeavesMade.{cost_on_eta}
use Rattle.bz_std.proofs.MeetingSides.{SideHolds, met_by_sides, sides_of_met}
use Rattle.bz_std.proofs.Moved.{coef_moved, coef_moved_before}
use Rattle.bz_std.proofs.OnePosed.{first_or, one_posed, rest_of}
use Rattle.bz_std.proofs.PosedTasks.{IsSide, sides_fit}

-- both inequalities have the same number at each index, and the same right side
record SaysSame (i k : Ineq) : Type 0 where
  master : (j : ℕ) → coef i.master j ≡ coef k.master j
  own : (j : ℕ) → coef i.own j ≡ coef k.own j
  rhs : i.rhs ≡ k.rhs

abbrev SaySame : List Ineq → List Ineq → Type 0
SaySame [] [] = Unit {0}
SaySame [] (k ∷ ks) = ⊥
SaySame (i ∷ is) [] = ⊥
SaySame (i ∷ is) (k ∷ ks) = SaysSame i k × SaySame is ks

-- ---- by number
same_count : (is ks : List Ineq) → SaySame is ks → length is ≡ length ks
same_count [] [] h = refl
same_count [] (k ∷ ks) h = absurd h
same_count (i ∷ is) [] h = absurd h
same_count (i ∷ is) (k ∷ ks) h = ap suc (same_count is ks h.1)

same_master : (is ks : List Ineq) → SaySame is ks → (j n : ℕ) → coef (master_at is n) j ≡ coef (master_at ks n) j
same_master [] [] h j n = refl
same_master [] (k ∷ ks) h j n = absurd h
same_master (i ∷ is) [] h j n = absurd h
same_master (i ∷ is) (k ∷ ks) h j zero = h.0.master j
same_master (i ∷ is) (k ∷ ks) h j (suc n) = same_master is ks h.1 j n

same_own : (is ks : List Ineq) → SaySame is ks → (j n : ℕ) → coef (own_at is n) j ≡ coef (own_at ks n) j
same_own [] [] h j n = refl
same_own [] (k ∷ ks) h j n = absurd h
same_own (i ∷ is) [] h j n = absurd h
same_own (i ∷ is) (k ∷ ks) h j zero = h.0.own j
same_own (i ∷ is) (k ∷ ks) h j (suc n) = same_own is ks h.1 j n

same_right : (is ks : List Ineq) → SaySame is ks → (n : ℕ) → rhs_at is n ≡ rhs_at ks n
same_right [] [] h n = refl
same_right [] (k ∷ ks) h n = absurd h
same_right (i ∷ is) [] h n = absurd h
same_right (i ∷ is) (k ∷ ks) h zero = h.0.rhs
same_right (i ∷ is) (k ∷ ks) h (suc n) = same_right is ks h.1 n

module _ (m : Model) (part : List ℕ) (d : IsDecomposed m part) where
  abbrev width : ℕ
  width = width_of part 0

  -- ---- sides that make the same row
  in_front : (i : Ineq) (j : ℕ) → j < width → coef (side_line width i).terms j ≡ coef i.master j
  in_front i j l = coef_append i.master (moved width i.own) j ∙ ap (λ (t : ℤ). coef i.master j +ℤ t) (coef_moved_before width i.own j l) ∙ add_zero (coef i.master j)

  behind : (i : Ineq) (j : ℕ) → IsSide m part d i → coef (side_line width i).terms (width + j) ≡ coef i.own j
  behind i j f = coef_append i.master (moved width i.own) (width + j)
      ∙ rw (coef_beyond width i.master (width + j) f.master (omega arith), coef_moved width i.own j) (zero_add (coef i.own j))

  says_same : (i k : Ineq) → IsSide m part d i → IsSide m part d k → side_line width i ≡ side_line width k → SaysSame i k
  says_same i k f g h = record {
    master = λ j. elim (cases_Bool (nat_lt j width)) [
      | inl t ↦ sym (in_front i j (ltb-true j width t)) ∙ ap (λ (l : Line). coef l.terms j) h ∙ in_front k j (ltb-true j width t)
      | inr t ↦ coef_beyond width i.master j f.master (ltb-false j width t) ∙ sym (coef_beyond width k.master j g.master (ltb-false j width t))
    ];
    own = λ j. sym (behind i j f) ∙ ap (λ (l : Line). coef l.terms (width + j)) h ∙ behind k j g;
    rhs = ap (λ (l : Line). l.rhs) h;
  }

  say_same : (is ks : List Ineq) → AllByRecursion (IsSide m part d) is → AllByRecursion (IsSide m part d) ks → map (side_line width) is ≡ map (side_line width) ks → SaySame is ks
  say_same [] [] f g h = tt
  say_same [] (k ∷ ks) f g h = absurd (omega (arith, ap length h))
  say_same (i ∷ is) [] f g h = absurd (omega (arith, ap length h))
  say_same (i ∷ is) (k ∷ ks) f g h = (says_same i k f.0 g.0 (ap (first_or (side_line width i)) h), say_same is ks f.1 g.1 (ap rest_of h))

  -- they hold at the same points
  same_dot : (n : ℕ) (es gs : List (ℕ × ℤ)) (x : ℕ → ℤ) → AllBelow n es → AllBelow n gs → ((j : ℕ) → coef es j ≡ coef gs j) → dot es x ≡ dot gs x
  same_dot n es gs x b c h = dot_all n es x b ∙ upto_same n _ _ (λ j l. ap (λ (t : ℤ). t *ℤ x j) (h j)) ∙ sym (dot_all n gs x c)

  side_kept : (point : Master) (i k : Ineq) → IsSide m part d i → IsSide m part d k → SaysSame i k → SideHolds point i → SideHolds point k
  unfolding SideHolds
  side_kept point i k f g s h =
      rw (
        ← same_dot width i.master k.master (coordinate point.x) f.master g.master s.master,
        ← same_dot (blocks_of part) i.own k.own (coordinate point.eta) f.own g.own s.own,
        ← s.rhs,
      ) h

  sides_kept : (point : Master) (is ks : List Ineq) → AllByRecursion (IsSide m part d) is → AllByRecursion (IsSide m part d) ks → SaySame is ks → AllByRecursion (SideHolds point) is → AllByRecursion (SideHolds point) ks
  sides_kept point [] [] f g s h = tt
  sides_kept point [] (k ∷ ks) f g s h = absurd s
  sides_kept point (i ∷ is) [] f g s h = absurd s
  sides_kept point (i ∷ is) (k ∷ ks) f g s h = (side_kept point i k f.0 g.0 s.0 h.0, sides_kept point is ks f.1 g.1 s.1 h.1)

  -- ---- a cost is of one mode
  costs_differ : 0 < blocks_of part → node_cost m part mode.Cost ≡ [] → ⊥
  costs_differ l h =
      let one : coef (node_cost m part mode.Cost) (width + 0) ≡ pos 1 = cost_on_eta m part d 0 l in
      omega (arith, ints, one, ap (λ (es : List (ℕ × ℤ)). coef es (width + 0)) h)

  one_cost_mode : (way kind : Mode) → 0 < blocks_of part → node_cost m part way ≡ node_cost m part kind → way ≡ kind
  one_cost_mode mode.Cost mode.Cost l h = refl
  one_cost_mode mode.Cost mode.Point l h = absurd (costs_differ l h)
  one_cost_mode mode.Point mode.Cost l h = absurd (costs_differ l (sym h))
  one_cost_mode mode.Point mode.Point l h = refl

module _ (m : Model) (part : List ℕ) (box other : Box) (cuts others : List Cut) (way kind : Mode) (lp : Lp)
    (h : IsOfBoth m part box other cuts others way kind lp) where
  pub posed_told : node m part box cuts way ≡ node m part other others kind
  posed_told = one_posed _ _ lp h.program h.program_of_other

  abbrev sides : List Ineq
  sides = sides_of m part box cuts

  abbrev of_other : List Ineq
  of_other = sides_of m part other others

  same : SaySame sides of_other
  same = say_same m part h.decomposed sides of_other
      (sides_fit m part h.decomposed box cuts h.cuts_of_split)
      (sides_fit m part h.decomposed other others h.others_of_split)
      (ap (λ (q : Posed). q.rows) posed_told)

  master_told : (j : ℕ) → ◌≡◌ {A = ℕ → ℤ} (λ n. coef (master_at sides n) j) (λ n. coef (master_at of_other n) j)
  master_told j = λ k n. same_master sides of_other same j n k

  own_told : (j : ℕ) → ◌≡◌ {A = ℕ → ℤ} (λ n. coef (own_at sides n) j) (λ n. coef (own_at of_other n) j)
  own_told j = λ k n. same_own sides of_other same j n k

  right_told : rhs_at sides ≡ rhs_at of_other
  right_told = λ k n. same_right sides of_other same n k

  pub leaf_holds_told : (leaf : Leaf) → LeafHolds m part box cuts leaf → LeafHolds m part other others leaf
  leaf_holds_told leaf l = record {
    lambda = subst (λ (n : ℕ). AreMultipliers n leaf.lambda) (same_count sides of_other same) l.lambda;
    delta = l.delta;
    master = λ i b. ap (λ (f : ℕ → ℤ). dot leaf.lambda f) (sym (master_told i)) ∙ l.master i b;
    etas = λ b k. ap (λ (f : ℕ → ℤ). dot leaf.lambda f) (sym (own_told b)) ∙ l.etas b k;
    rhs = ap (λ (f : ℕ → ℤ). dot leaf.lambda f) (sym right_told) ∙ l.rhs;
    empty = l.empty;
  }

  pub leaf_fits_told : (leaf : Leaf) → FitsLeaf m part box cuts leaf → FitsLeaf m part other others leaf
  leaf_fits_told leaf l = record {
    master = λ i b. subst (λ (f : ℕ → ℤ). FitsEquation leaf.lambda f (leaf.delta *ℤ coef (terms_in part 0 (inner_cost m)) i)) (master_told i) (l.master i b);
    etas = λ b k. subst (λ (f : ℕ → ℤ). IsNarrowSum (pairs_at leaf.lambda f)) (own_told b) (l.etas b k);
    rhs = subst (λ (f : ℕ → ℤ). IsNarrowSum (pairs_at leaf.lambda f)) right_told l.rhs;
  }

  pub met_told : (point : Master) → MeetsNode m part box cuts point → MeetsNode m part other others point
  met_told point k = met_by_sides m part other others point
      (sides_kept m part h.decomposed point sides of_other
      (sides_fit m part h.decomposed box cuts h.cuts_of_split)
      (sides_fit m part h.decomposed other others h.others_of_split)
      same (sides_of_met m part box cuts point k))

  pub mode_told : 0 < blocks_of part → way ≡ kind
  mode_told l = one_cost_mode m part h.decomposed way kind l (ap (λ (q : Posed). q.cost) posed_told)
