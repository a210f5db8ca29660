-- The steps of a phase: the choice of the column that enters, and the comparison of the rows that may leave.
use Rattle.std.specs.Prelude.{ℕ, zero, suc, ◌-◌, ◌<◌, ◌≤◌, ◌≡◌, ◌≢◌, ◌⊎◌, ℤ, pos, ◌-ℤ◌, ◌*ℤ◌, ◌≤ℤ◌, ◌<ℤ◌, List, length, Option, None, Some, MatchOption, unsigned_abs, max, true, false, not, ◌==◌}
use Rattle.std.specs.Ordering.{int_cmp, ordering_index, MatchOrdering}
use Rattle.std.proofs.Common.{refl, ap, sym, subst, ◌∙◌, arith, inl, inr, Ordering, Less, Equal, Greater}
use Rattle.std.proofs.Math.IntN.{*ℤ_comm}
use Rattle.std.proofs.lemmas.Bool.{cases_eq}
use Rattle.std.proofs.lemmas.Cmp.{int_ranked}
use Rattle.std.proofs.lemmas.Int.{ints, by_lt_z}
use Rattle.bz_algebra.specs.Tableaus.{side}
use Rattle.bz_algebra.proofs.Bounded.{below_suc, by_lt}
use Rattle.bz_algebra.proofs.Ring.{positive-ne}
use Rattle.bz_tableau.specs.Laws.{place}
use Rattle.bz_tableau.specs.Tables.{Table, shown, factor_column}
use Rattle.bz_lex.specs.Lexicographic.{lead, IsAbove, AreLevel}
use Rattle.bz_lex.specs.Phases.{IsEntering, IsGreatestOf, IsGreatestSize, IsChosen, IsChosenOf, IsChoiceOf, IsOnPhase, IsRowAbove, AreRowsLevel, LeavesOf}
use Rattle.bz_lex.specs.Shown.{HasLeastCost}
use Rattle.bz_lex.specs.TableStages.{shown_order}
use Rattle.bz_lex.proofs.LexLeaving.{leaving_first, leaving_still, leaving_next}
use Rattle.bz_lex.proofs.TablesOnTheWay.{own_before, side_is, not_factor, table_not_level}

-- ---- the greatest size
-- of the last row alone
pub greatest_last : (t : Table) (column n : ℕ) → IsGreatestOf t column (λ i. (i < 0) ⊎ (i ≡ n)) (unsigned_abs (shown t n column))
greatest_last t column n = record {
  row = n;
  counts = inr refl;
  reached = refl;
  greatest = λ i c. elim c [
    | inl b ↦ absurd (omega arith)
    | inr e ↦ omega (arith, ap (λ (k : ℕ). unsigned_abs (shown t k column)) e)
  ];
}

-- of one row more
pub greatest_more : (t : Table) (column n m size : ℕ) → IsGreatestOf t column (λ i. (i < m) ⊎ (i ≡ n)) size → IsGreatestOf t column (λ i. (i < suc m) ⊎ (i ≡ n)) (max size (unsigned_abs (shown t m column)))
greatest_more t column n m size g = by_lt size (unsigned_abs (shown t m column))
    (λ l. record {
      row = m;
      counts = inl (omega arith);
      reached = omega arith;
      greatest = λ i c. elim c [
        | inl b ↦ below_suc m (λ k. unsigned_abs (shown t k column) ≤ max size (unsigned_abs (shown t m column))) (λ k d. omega (arith, g.greatest k (inl d))) (omega arith) i b
        | inr e ↦ omega (arith, g.greatest i (inr e))
      ];
    })
    (λ l. record {
      row = g.row;
      counts = elim g.counts [ inl b ↦ inl (omega arith) | inr e ↦ inr e ];
      reached = omega (arith, g.reached);
      greatest = λ i c. elim c [
        | inl b ↦ below_suc m (λ k. unsigned_abs (shown t k column) ≤ max size (unsigned_abs (shown t m column))) (λ k d. omega (arith, g.greatest k (inl d))) (omega arith) i b
        | inr e ↦ omega (arith, g.greatest i (inr e))
      ];
    })

pub greatest_all : (t : Table) (column n size : ℕ) → n ≡ length t.basis → IsGreatestOf t column (λ i. (i < n) ⊎ (i ≡ n)) size → IsGreatestSize t column size
greatest_all t column n size e g = record {
  row = g.row;
  counts = elim g.counts [ inl b ↦ omega arith | inr f ↦ omega arith ];
  reached = g.reached;
  greatest = λ i b. g.greatest i (elim (cases_eq i n) [ inl f ↦ inr f | inr d ↦ inl (omega arith) ]);
}

-- one size is the greatest
pub greatest_same : (t : Table) (column : ℕ) (Counts : ℕ → Type 0) (size other : ℕ) → IsGreatestOf t column Counts size → IsGreatestOf t column Counts other → size ≡ other
greatest_same t column Counts size other a b = omega (arith, a.reached, b.reached, a.greatest b.row b.counts, b.greatest a.row a.counts)

-- ---- the choice
-- where the objective row isn't negative in the next column
pub choice_same : (t : Table) (m : ℕ) (choice : Option (ℕ × ℕ)) → IsChoiceOf m t choice → (pos 0) ≤ℤ (shown t (length t.basis) m) → IsChoiceOf (suc m) t choice
choice_same t m None c h = below_suc m (λ j. IsEntering t j → ⊥) c (λ e. omega (arith, ints, e.falls))
choice_same t m (Some b) c h = record {
  entering = c.entering;
  size_is = c.size_is;
  least = λ j other l e. below_suc m (λ k. IsEntering t k → IsGreatestSize t k other → b.1 ≤ other) (λ k d. c.least k other d) (λ f. absurd (omega (arith, ints, f.falls))) j l e;
  first = c.first;
}

-- where its greatest size is no less
pub choice_kept : (t : Table) (m column least size : ℕ) → IsChosenOf m t column least → IsGreatestSize t m size → least ≤ size → IsChosenOf (suc m) t column least
choice_kept t m column least size c g l = record {
  entering = c.entering;
  size_is = c.size_is;
  least = λ j other b e. below_suc m (λ k. IsEntering t k → IsGreatestSize t k other → least ≤ other) (λ k d. c.least k other d)
      (λ f h. omega (arith, greatest_same t m (λ i. i ≤ length t.basis) size other g h, l)) j b e;
  first = c.first;
}

-- where it is less, or no column came before
pub choice_new : (t : Table) (m size : ℕ) (choice : Option (ℕ × ℕ)) → m < factor_column t → IsChoiceOf m t choice → (shown t (length t.basis) m) <ℤ (pos 0) → IsGreatestSize t m size → ((b : ℕ × ℕ) → choice ≡ Some b → size < b.1) → IsChosenOf (suc m) t m size
choice_new t m size choice b c h g l = record {
  entering = record { inside = b; falls = h };
  size_is = g;
  least = λ j other d e. below_suc m (λ k. IsEntering t k → IsGreatestSize t k other → size ≤ other) (λ k d f q. omega (arith, before choice c l other k d f q))
      (λ f k. omega (arith, greatest_same t m (λ i. i ≤ length t.basis) size other g k)) j d e;
  first = λ j other d e q. before choice c l other j d e q;
}
  where
    before : (o : Option (ℕ × ℕ)) → IsChoiceOf m t o → ((p : ℕ × ℕ) → o ≡ Some p → size < p.1) → (other k : ℕ) → k < m → IsEntering t k → IsGreatestSize t k other → size < other
    before None n f other k d e q = absurd (n k d e)
    before (Some p) n f other k d e q = omega (arith, f p refl, n.least k other d e q)

pub second_is : (choice : Option (ℕ × ℕ)) (column least size : ℕ) → choice ≡ Some (column, least) → size < least → (b : ℕ × ℕ) → choice ≡ Some b → size < b.1
second_is choice column least size e l b f = subst (λ (o : Option (ℕ × ℕ)). MatchOption o (Unit {0}) (λ p. size < p.1)) (sym e ∙ f) l

-- the choice of all columns
pub chosen_all : (t : Table) (column size : ℕ) → IsChosenOf (factor_column t) t column size → IsChosen t column
chosen_all t column size c = record {
  entering = c.entering;
  least = λ own j other g e h. omega (arith, greatest_same t column (λ i. i ≤ length t.basis) own size g c.size_is, c.least j other e.inside e h);
  first = λ own j other g e h b. omega (arith, greatest_same t column (λ i. i ≤ length t.basis) own size g c.size_is, c.first j other b e h);
}

pub none_chosen : (t : Table) → ((j : ℕ) → j < factor_column t → IsEntering t j → ⊥) → HasLeastCost t
none_chosen t n j b = by_lt_z (shown t (length t.basis) j) (pos 0) (λ h. absurd (n j b (record { inside = b; falls = h }))) (λ h. h)

-- ---- the order of the phase
module _ (first : List ℕ) (t : Table) (g : IsOnPhase first t) where
  pub first_count : length first ≡ length t.basis
  first_count = g.stage.count

  pub first_inside : (k : ℕ) → k < length first → place first k < factor_column t
  first_inside k b = omega (
    arith,
    subst (λ (j : ℕ). j < side g.system) (own_before t.slack first k b) (g.stage.stage.first_basis.columns.in_range k (omega (arith, g.stage.stage.last, g.stage.count))),
    side_is g.system t g.stage.table,
    not_factor g.system first t g.met g.stage k (omega (arith, g.stage.count)),
  )

  -- rows at different places aren't level
  pub rows_differ : (column i k : ℕ) → column < factor_column t → i < length t.basis → k < length t.basis → i ≢ k → (pos 0) <ℤ (shown t k column) → AreRowsLevel t first column i k → ⊥
  rows_differ column i k e b c d h = table_not_level g.system first t g.met g.stage column i k (λ f. omega arith) b c d (positive-ne (shown t k column) h)

pub order_later : (t : Table) (first : List ℕ) (k : ℕ) → k ≢ 0 → shown_order t first k ≡ place first (k - 1)
order_later t first zero n = absurd (n refl)
order_later t first (suc k) n = ap (place first) (back k)
  where
    back : (j : ℕ) → j ≡ suc j - 1
    back j = omega arith

-- ---- the order of two rows
-- as the products of their numbers are ordered
lead_ranked : (a b c d : ℤ) (o : Ordering) → MatchOrdering o ((a *ℤ d) <ℤ (c *ℤ b)) (a *ℤ d ≡ c *ℤ b) ((c *ℤ b) <ℤ (a *ℤ d)) → MatchOrdering o ((pos 0) <ℤ ((b *ℤ c) -ℤ (d *ℤ a))) ((d *ℤ a) -ℤ (b *ℤ c) ≡ pos 0) ((pos 0) <ℤ ((d *ℤ a) -ℤ (b *ℤ c)))
lead_ranked a b c d Less h = omega (arith, ints, *ℤ_comm a d, *ℤ_comm c b, h)
lead_ranked a b c d Equal h = omega (arith, ints, *ℤ_comm a d, *ℤ_comm c b, h)
lead_ranked a b c d Greater h = omega (arith, ints, *ℤ_comm a d, *ℤ_comm c b, h)

-- by how much the one leads, the other is behind
behind : (places : ℕ → ℕ) (c : ℕ) (v w : ℕ → ℤ) (k : ℕ) → lead places c v w k ≡ pos 0 → lead places c w v k ≡ pos 0
behind places c v w k e = omega (arith, ints, e)

-- the first place where they aren't level tells the order
pub rows_told : (n k : ℕ) (places : ℕ → ℕ) (c : ℕ) (v w : ℕ → ℤ) (o : Ordering) → k < n → AreLevel k places c v w → o ≡ int_cmp (v (places k) *ℤ w c) (w (places k) *ℤ v c) → o ≢ Equal
    → MatchOrdering o (IsAbove n places c w v) (AreLevel n places c v w) (IsAbove n places c v w)
rows_told n k places c v w o b z e d = told o (lead_ranked (v (places k)) (v c) (w (places k)) (w c) o (int_ranked (v (places k) *ℤ w c) (w (places k) *ℤ v c) o e)) d
  where
    told : (p : Ordering) → MatchOrdering p ((pos 0) <ℤ (lead places c w v k)) (lead places c v w k ≡ pos 0) ((pos 0) <ℤ (lead places c v w k)) → p ≢ Equal → MatchOrdering p (IsAbove n places c w v) (AreLevel n places c v w) (IsAbove n places c v w)
    told Less h f = record { place = k; inside = b; positive = h; before = λ j l. behind places c v w j (z j l) }
    told Equal h f = absurd (f refl)
    told Greater h f = record { place = k; inside = b; positive = h; before = z }

-- at this place they are level too
pub rows_level : (k : ℕ) (places : ℕ → ℕ) (c : ℕ) (v w : ℕ → ℤ) (o : Ordering) → AreLevel k places c v w → o ≡ int_cmp (v (places k) *ℤ w c) (w (places k) *ℤ v c) → o ≡ Equal → AreLevel (suc k) places c v w
rows_level k places c v w o z e d = below_suc k (λ j. lead places c v w j ≡ pos 0) z
    (subst (λ (p : Ordering). MatchOrdering p ((pos 0) <ℤ (lead places c w v k)) (lead places c v w k ≡ pos 0) ((pos 0) <ℤ (lead places c v w k))) d
    (lead_ranked (v (places k)) (v c) (w (places k)) (w c) o (int_ranked (v (places k) *ℤ w c) (w (places k) *ℤ v c) o e)))

-- the test of an order
pub not_equal : (o : Ordering) → not (ordering_index o == ordering_index Equal) ≡ true → o ≢ Equal
not_equal Less e f = absurd cc
not_equal Equal e f = absurd cc
not_equal Greater e f = absurd cc

pub is_equal : (o : Ordering) → not (ordering_index o == ordering_index Equal) ≡ false → o ≡ Equal
is_equal Less e = absurd cc
is_equal Equal e = refl
is_equal Greater e = absurd cc

-- ---- the row that leaves
-- where the next row isn't positive in the column
pub leaves_same : (m : ℕ) (t : Table) (first : List ℕ) (column : ℕ) (found : Option ℕ) → LeavesOf m t first column found → (shown t m column) ≤ℤ (pos 0) → LeavesOf (suc m) t first column found
leaves_same m t first column None f h = below_suc m (λ i. (shown t i column) ≤ℤ (pos 0)) f h
leaves_same m t first column (Some r) f h = leaving_still m (suc (length t.basis)) (shown_order t first) (shown t) column r f (λ p. absurd (omega (arith, ints, p, h)))

-- where it is the first that is
pub leaves_first : (m : ℕ) (t : Table) (first : List ℕ) (column : ℕ) → ((i : ℕ) → i < m → (shown t i column) ≤ℤ (pos 0)) → (pos 0) <ℤ (shown t m column) → LeavesOf (suc m) t first column (Some m)
leaves_first m t first column f h = leaving_first m (suc (length t.basis)) (shown_order t first) (shown t) column f h

module _ (m : ℕ) (t : Table) (first : List ℕ) (column r : ℕ) (l : LeavesOf m t first column (Some r)) (h : (pos 0) <ℤ (shown t m column)) where
  -- where it is below the one that leaves so far
  pub leaves_lower : IsRowAbove t first column r m → LeavesOf (suc m) t first column (Some m)
  leaves_lower a = leaving_next m (suc (length t.basis)) (shown_order t first) (shown t) column r l h a

  -- where it isn't
  pub leaves_kept : (o : Ordering) → IsOnPhase first t → column < factor_column t → m < length t.basis → MatchOrdering o (IsRowAbove t first column r m) (AreRowsLevel t first column m r) (IsRowAbove t first column m r) → (o ≡ Equal) ⊎ (o ≡ Greater) → LeavesOf (suc m) t first column (Some r)
  leaves_kept o g b c a e = leaving_still m (suc (length t.basis)) (shown_order t first) (shown t) column r l (λ p. above o a e)
    where
      above : (q : Ordering) → MatchOrdering q (IsRowAbove t first column r m) (AreRowsLevel t first column m r) (IsRowAbove t first column m r) → (q ≡ Equal) ⊎ (q ≡ Greater) → IsRowAbove t first column m r
      above Less f i = elim i [ inl k ↦ absurd cc | inr k ↦ absurd cc ]
      above Equal f i = absurd (rows_differ first t g column m r b c (omega (arith, c, l.inside)) (λ k. omega (arith, l.inside)) l.positive f)
      above Greater f i = f
