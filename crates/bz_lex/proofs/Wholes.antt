-- Solutions of a program's equations: numbers for each column that meet the rows of a basis meet each row, and the other way.
use Rattle.std.specs.Prelude.{ℕ, zero, suc, ◌+◌, ◌-◌, ◌<◌, ◌≤◌, ◌≡◌, ◌≢◌, ◌⊎◌, ℤ, pos, ◌+ℤ◌, ◌-ℤ◌, ◌*ℤ◌, ◌<ℤ◌, cond, eqb, ltb}
use Rattle.std.proofs.Common.{refl, ap, sym, subst, ◌∙◌, arith, inl, inr}
use Rattle.std.proofs.lemmas.Bool.{cases_eq, eq-eqb, ne_eqb, lt-ltb, le-ltb}
use Rattle.std.proofs.lemmas.Int.{ints}
use Rattle.std.proofs.Math.IntN.{*ℤ_comm}
use Rattle.bz_algebra.specs.Sums.{upto}
use Rattle.bz_algebra.specs.Tableaus.{Equations, side, IsCombination, IsTableau}
use Rattle.bz_algebra.proofs.Bounded.{by_lt, below_suc, all_or_some, choose}
use Rattle.bz_algebra.proofs.Programs.{own, own_is, own_row}
use Rattle.bz_algebra.proofs.Ring.{*ℤ_assoc, mul_add, mul_sub, mul_left, mul_right, mul_zero, zero_mul, one_mul, add_zero, zero_add, cancel_left, mul_positive, positive-ne}
use Rattle.bz_algebra.proofs.SumLemmas.{upto_same, upto_add, upto_scale, upto_scale_right, upto_rows, upto_swap, upto_split, upto_only}
use Rattle.bz_tableau.proofs.Basics.{made_of_rows}
use Rattle.bz_tableau.specs.Points.{IsOutside, terms}

-- ---- sums of two numbers
-- f where it isn't at b
without : ℕ → (ℕ → ℤ) → ℕ → ℤ
without b f j = cond (eqb j b) (pos 0) (f j)

without_at : (b : ℕ) (f : ℕ → ℤ) → without b f b ≡ pos 0
unfolding without
without_at b f = rw (eq-eqb b b refl)

without_off : (b : ℕ) (f : ℕ → ℤ) (j : ℕ) → j ≢ b → without b f j ≡ f j
unfolding without
without_off b f j n = rw (ne_eqb j b n)

-- f at b alone
alone : ℕ → (ℕ → ℤ) → ℕ → ℤ
alone b f j = cond (eqb j b) (f j) (pos 0)

alone_at : (b : ℕ) (f : ℕ → ℤ) → alone b f b ≡ f b
unfolding alone
alone_at b f = rw (eq-eqb b b refl)

alone_off : (b : ℕ) (f : ℕ → ℤ) (j : ℕ) → j ≢ b → alone b f j ≡ pos 0
unfolding alone
alone_off b f j n = rw (ne_eqb j b n)

parted : (b : ℕ) (f : ℕ → ℤ) (j : ℕ) → f j ≡ without b f j +ℤ alone b f j
parted b f j = elim (cases_eq j b) [
  | inl e ↦ subst (λ (k : ℕ). f k ≡ without b f k +ℤ alone b f k) (sym e) (rw (without_at b f, alone_at b f) (sym (zero_add (f b))))
  | inr n ↦ rw (without_off b f j n, alone_off b f j n) (sym (add_zero (f j)))
]

-- a sum of which only the numbers at a and b aren't 0
pub upto_two : (n a b : ℕ) (f : ℕ → ℤ) → a < n → b < n → a ≢ b → ((j : ℕ) → j < n → j ≢ a → j ≢ b → f j ≡ pos 0) → upto n f ≡ f a +ℤ f b
upto_two n a b f l m d h =
    upto_same n f (λ j. without b f j +ℤ alone b f j) (λ j k. parted b f j)
    ∙ upto_add n (without b f) (alone b f)
    ∙ (λ k. first k +ℤ second k)
  where
    first : upto n (without b f) ≡ f a
    first = upto_only n a (without b f) l (λ j k e. elim (cases_eq j b) [
      | inl g ↦ ap (without b f) g ∙ without_at b f
      | inr g ↦ without_off b f j g ∙ h j k e g
    ]) ∙ without_off b f a d

    second : upto n (alone b f) ≡ f b
    second = upto_only n b (alone b f) m (λ j k e. alone_off b f j e) ∙ alone_at b f

-- ---- a multiple of all basic entries
pub total_of : (ℕ → ℤ) → ℕ → ℤ
total_of e zero = pos 1
total_of e (suc n) = total_of e n *ℤ e n

pub total_positive : (e : ℕ → ℤ) (n : ℕ) → ((k : ℕ) → k < n → (pos 0) <ℤ (e k)) → (pos 0) <ℤ (total_of e n)
unfolding total_of
total_positive e zero h = omega (arith, ints)
total_positive e (suc n) h = mul_positive (total_of e n) (e n) (total_positive e n (λ k b. h k (omega arith))) (h n (omega arith))

pub total_times : (e : ℕ → ℤ) (n : ℕ) (k : ℕ) → k < n → (q : ℤ) × (q *ℤ e k ≡ total_of e n)
unfolding total_of
total_times e zero k b = absurd (omega arith)
total_times e (suc n) k b = below_suc n (λ k. (q : ℤ) × (q *ℤ e k ≡ total_of e n *ℤ e n))
    (λ k l. let f = total_times e n k l in (f.0 *ℤ e n, mul_right f.0 (e n) (e k) ∙ ap (λ (t : ℤ). t *ℤ e n) f.1))
    (total_of e n, refl)
    k b

-- ---- from the rows of a basis to all combinations
module _ (s : Equations) (basis : ℕ → ℕ) (w : ℕ → ℕ → ℤ) (t : IsTableau s basis w) where
  entries : ℕ → ℤ
  entries k = w k (basis k)

  entries_positive : (k : ℕ) → k < s.rows → (pos 0) <ℤ (entries k)
  unfolding entries
  entries_positive k b = (t.rows k b).positive

  total : ℤ
  total = total_of entries s.rows

  positive_total : (pos 0) <ℤ total
  unfolding total
  positive_total = total_positive entries s.rows entries_positive

  times_all : (times : ℕ → ℤ) × ((k : ℕ) → k < s.rows → times k *ℤ w k (basis k) ≡ total)
  unfolding entries total
  times_all = choose s.rows (pos 0) (λ k q. q *ℤ w k (basis k) ≡ total_of entries s.rows) (total_times entries s.rows)

  combinations : (f : ℕ → ℤ) (r : ℤ) → ((k : ℕ) → k < s.rows → upto (side s) (λ j. w k j *ℤ f j) ≡ w k (side s) *ℤ r) → (v : ℕ → ℤ) → IsCombination s v → upto (side s) (λ j. v j *ℤ f j) ≡ v (side s) *ℤ r
  combinations f r h v c = cancel_left total _ _ (positive-ne total positive_total)
      (sym (upto_scale (side s) total (λ j. v j *ℤ f j))
      ∙ upto_same (side s) _ _ (λ j b. sym (*ℤ_assoc total (v j) (f j)) ∙ ap (λ (z : ℤ). z *ℤ f j) (made j (omega arith)) ∙ sym (upto_scale_right s.rows (λ k. taken k *ℤ w k j) (f j)))
      ∙ upto_swap (side s) s.rows (λ j k. (taken k *ℤ w k j) *ℤ f j)
      ∙ upto_same s.rows _ _ (λ k b. upto_same (side s) _ _ (λ j l. *ℤ_assoc (taken k) (w k j) (f j)) ∙ upto_scale (side s) (taken k) (λ j. w k j *ℤ f j) ∙ ap (λ (z : ℤ). taken k *ℤ z) (h k b) ∙ sym (*ℤ_assoc (taken k) (w k (side s)) r))
      ∙ upto_scale_right s.rows (λ k. taken k *ℤ w k (side s)) r
      ∙ ap (λ (z : ℤ). z *ℤ r) (sym (made (side s) (omega arith)))
      ∙ *ℤ_assoc total (v (side s)) r)
    where
      taken : ℕ → ℤ
      taken k = v (basis k) *ℤ times_all.0 k

      made : (j : ℕ) → j ≤ side s → total *ℤ v j ≡ upto s.rows (λ k. taken k *ℤ w k j)
      made j b = made_of_rows s basis w total times_all.0 v t times_all.1 c j b

-- ---- a row of its own
-- what a row of its own comes to: its terms and its slack
pub own_sum : (s : Equations) (f : ℕ → ℤ) (i : ℕ) → i < s.rows → upto (side s) (λ j. own s i j *ℤ f j) ≡ terms s f i +ℤ f (s.slack + i)
own_sum s f i b =
    upto_split s.slack s.rows (λ j. own s i j *ℤ f j)
    ∙ (λ k. upto_same s.slack (λ j. own s i j *ℤ f j) (λ j. s.entry i j *ℤ f j) (λ j l. ap (λ (z : ℤ). z *ℤ f j) ((own_is s i b).columns j l)) k
    +ℤ slack_alone k)
  where
    slack_alone : upto s.rows (λ l. own s i (s.slack + l) *ℤ f (s.slack + l)) ≡ f (s.slack + i)
    slack_alone = upto_only s.rows i (λ l. own s i (s.slack + l) *ℤ f (s.slack + l)) b (λ l m n. ap (λ (z : ℤ). z *ℤ f (s.slack + l)) ((own_is s i b).others l m n) ∙ zero_mul (f (s.slack + l)))
        ∙ ap (λ (z : ℤ). z *ℤ f (s.slack + i)) ((own_is s i b).own) ∙ one_mul (f (s.slack + i))

-- ---- from the rows to all combinations
-- numbers that meet each row as an equation meet each combination of the rows
pub balance : (s : Equations) (f : ℕ → ℤ) (r : ℤ) → ((i : ℕ) → i < s.rows → terms s f i +ℤ f (s.slack + i) ≡ s.right i *ℤ r) → (v : ℕ → ℤ) → IsCombination s v → upto (side s) (λ j. v j *ℤ f j) ≡ v (side s) *ℤ r
balance s f r h v c =
    upto_split s.slack s.rows (λ j. v j *ℤ f j)
    ∙ (λ k. columns k +ℤ upto s.rows (λ i. v (s.slack + i) *ℤ f (s.slack + i)))
    ∙ sym (upto_add s.rows (λ i. v (s.slack + i) *ℤ terms s f i) (λ i. v (s.slack + i) *ℤ f (s.slack + i)))
    ∙ upto_same s.rows _ _ (λ i b. sym (mul_add (v (s.slack + i)) (terms s f i) (f (s.slack + i))) ∙ ap (λ (z : ℤ). v (s.slack + i) *ℤ z) (h i b) ∙ sym (*ℤ_assoc (v (s.slack + i)) (s.right i) r))
    ∙ upto_scale_right s.rows (λ i. v (s.slack + i) *ℤ s.right i) r
    ∙ ap (λ (z : ℤ). z *ℤ r) (sym c.right)
  where
    columns : upto s.slack (λ j. v j *ℤ f j) ≡ upto s.rows (λ i. v (s.slack + i) *ℤ terms s f i)
    columns = upto_same s.slack _ _ (λ j b. ap (λ (z : ℤ). z *ℤ f j) (c.columns j b)) ∙ upto_rows s.slack s.rows (λ i. v (s.slack + i)) s.entry f

-- ---- the whole of what a basis says
-- t at c and 0 elsewhere
pub only_at : ℕ → ℤ → ℕ → ℤ
only_at c t j = cond (eqb j c) t (pos 0)

pub only_here : (c : ℕ) (t : ℤ) → only_at c t c ≡ t
unfolding only_at
only_here c t = rw (eq-eqb c c refl)

pub only_off : (c : ℕ) (t : ℤ) (j : ℕ) → j ≢ c → only_at c t j ≡ pos 0
unfolding only_at
only_off c t j n = rw (ne_eqb j c n)

pub only_zero : (c j : ℕ) → only_at c (pos 0) j ≡ pos 0
only_zero c j = elim (cases_eq j c) [ inl e ↦ ap (only_at c (pos 0)) e ∙ only_here c (pos 0) | inr n ↦ only_off c (pos 0) j n ]

-- f has, over r, in each basic column what the rows say where the column c outside the basis is at t and the others outside are 0
pub record IsWhole (s : Equations) (basis : ℕ → ℕ) (w : ℕ → ℕ → ℤ) (r : ℤ) (c : ℕ) (t : ℤ) (f : ℕ → ℤ) : Type 0 where
  pub outside : (j : ℕ) → j < side s → IsOutside s basis j → f j ≡ only_at c t j
  pub basic : (k : ℕ) → k < s.rows → f (basis k) *ℤ w k (basis k) ≡ (w k (side s) *ℤ r) -ℤ (w k c *ℤ t)

-- the column c is outside the basis, or nothing is there
abbrev pub IsFreeColumn : Equations → (ℕ → ℕ) → ℕ → ℤ → Type 0
IsFreeColumn s basis c t = ((c < side s) × IsOutside s basis c) ⊎ (t ≡ pos 0)

module _ (s : Equations) (basis : ℕ → ℕ) (w : ℕ → ℕ → ℤ) (tableau : IsTableau s basis w) where
  -- each column stands at a place or is outside
  pub basic_or_not : (j : ℕ) → IsOutside s basis j ⊎ ((k : ℕ) × (k < s.rows) × (basis k ≡ j))
  basic_or_not j = all_or_some s.rows (λ k. basis k ≢ j) (λ k. basis k ≡ j) (λ k. elim (cases_eq (basis k) j) [ inl e ↦ inr e | inr n ↦ inl n ])

  whole_row : (r : ℤ) (c : ℕ) (t : ℤ) (f : ℕ → ℤ) → IsFreeColumn s basis c t → IsWhole s basis w r c t f → (k : ℕ) → k < s.rows → upto (side s) (λ j. w k j *ℤ f j) ≡ w k (side s) *ℤ r
  whole_row r c t f (inl free) h k b =
      upto_two (side s) (basis k) c (λ j. w k j *ℤ f j) (tableau.columns.in_range k b) free.0 (free.1 k b) (λ j l n m. nothing j l n m (basic_or_not j))
      ∙ (λ i. at_place i +ℤ at_column i)
      ∙ back (w k (side s) *ℤ r) (w k c *ℤ t)
    where
      at_place : w k (basis k) *ℤ f (basis k) ≡ (w k (side s) *ℤ r) -ℤ (w k c *ℤ t)
      at_place = *ℤ_comm (w k (basis k)) (f (basis k)) ∙ h.basic k b

      at_column : w k c *ℤ f c ≡ w k c *ℤ t
      at_column = ap (λ (z : ℤ). w k c *ℤ z) (h.outside c free.0 free.1 ∙ only_here c t)

      back : (a b : ℤ) → (a -ℤ b) +ℤ b ≡ a
      back a b = omega (arith, ints)

      nothing : (j : ℕ) → j < side s → j ≢ basis k → j ≢ c → IsOutside s basis j ⊎ ((i : ℕ) × (i < s.rows) × (basis i ≡ j)) → w k j *ℤ f j ≡ pos 0
      nothing j l n m (inl o) = ap (λ (z : ℤ). w k j *ℤ z) (h.outside j l o ∙ only_off c t j m) ∙ mul_zero (w k j)
      nothing j l n m (inr p) = ap (λ (z : ℤ). z *ℤ f j) (subst (λ (i : ℕ). w k i ≡ pos 0) p.2 ((tableau.rows k b).cleared p.0 p.1 (λ e. n (sym p.2 ∙ ap basis e)))) ∙ zero_mul (f j)
  whole_row r c t f (inr e) h k b =
      upto_only (side s) (basis k) (λ j. w k j *ℤ f j) (tableau.columns.in_range k b) (λ j l n. nothing j l n (basic_or_not j))
      ∙ *ℤ_comm (w k (basis k)) (f (basis k)) ∙ h.basic k b ∙ ap (λ (z : ℤ). (w k (side s) *ℤ r) -ℤ (w k c *ℤ z)) e
      ∙ less_nothing (w k (side s) *ℤ r) (w k c)
    where
      less_nothing : (a b : ℤ) → a -ℤ (b *ℤ pos 0) ≡ a
      less_nothing a b = omega (arith, ints, mul_zero b)

      nothing : (j : ℕ) → j < side s → j ≢ basis k → IsOutside s basis j ⊎ ((i : ℕ) × (i < s.rows) × (basis i ≡ j)) → w k j *ℤ f j ≡ pos 0
      nothing j l n (inl o) = ap (λ (z : ℤ). w k j *ℤ z) (h.outside j l o ∙ ap (λ (z : ℤ). only_at c z j) e ∙ only_zero c j) ∙ mul_zero (w k j)
      nothing j l n (inr p) = ap (λ (z : ℤ). z *ℤ f j) (subst (λ (i : ℕ). w k i ≡ pos 0) p.2 ((tableau.rows k b).cleared p.0 p.1 (λ g. n (sym p.2 ∙ ap basis g)))) ∙ zero_mul (f j)

  -- it meets each row as an equation
  pub whole_meets : (r : ℤ) (c : ℕ) (t : ℤ) (f : ℕ → ℤ) → IsFreeColumn s basis c t → IsWhole s basis w r c t f → (i : ℕ) → i < s.rows → terms s f i +ℤ f (s.slack + i) ≡ s.right i *ℤ r
  whole_meets r c t f free h i b =
      sym (own_sum s f i b)
      ∙ combinations s basis w tableau f r (whole_row r c t f free h) (own s i) (own_row s i (own s i) b (own_is s i b)).combination
      ∙ ap (λ (z : ℤ). z *ℤ r) ((own_is s i b).right)

-- ---- from the columns before the slacks to all
-- z before the slacks, and in each slack what its row leaves
pub extended : Equations → (ℕ → ℤ) → ℤ → ℕ → ℤ
extended s z r j = cond (ltb j s.slack) (z j) ((s.right (j - s.slack) *ℤ r) -ℤ terms s z (j - s.slack))

pub extended_before : (s : Equations) (z : ℕ → ℤ) (r : ℤ) (j : ℕ) → j < s.slack → extended s z r j ≡ z j
unfolding extended
extended_before s z r j b = rw (lt-ltb j s.slack b)

pub extended_slack : (s : Equations) (z : ℕ → ℤ) (r : ℤ) (i : ℕ) → extended s z r (s.slack + i) ≡ (s.right i *ℤ r) -ℤ terms s z i
unfolding extended
extended_slack s z r i = rw (le-ltb (s.slack + i) s.slack (omega arith)) (ap (λ (k : ℕ). (s.right k *ℤ r) -ℤ terms s z k) back)
  where
    back : (s.slack + i) - s.slack ≡ i
    back = omega arith

-- the extension meets each row as an equation
pub extended_meets : (s : Equations) (z : ℕ → ℤ) (r : ℤ) (i : ℕ) → terms s (extended s z r) i +ℤ extended s z r (s.slack + i) ≡ s.right i *ℤ r
extended_meets s z r i =
    (λ k. upto_same s.slack (λ j. s.entry i j *ℤ extended s z r j) (λ j. s.entry i j *ℤ z j) (λ j b. ap (λ (y : ℤ). s.entry i j *ℤ y) (extended_before s z r j b)) k +ℤ extended_slack s z r i k)
    ∙ back (terms s z i) (s.right i *ℤ r)
  where
    back : (a b : ℤ) → a +ℤ (b -ℤ a) ≡ b
    back a b = omega (arith, ints)

-- z has, over r, in each column before the slacks what the rows of the basis say
pub record IsHalf (s : Equations) (basis : ℕ → ℕ) (w : ℕ → ℕ → ℤ) (r : ℤ) (c : ℕ) (t : ℤ) (z : ℕ → ℤ) : Type 0 where
  pub outside : (j : ℕ) → j < s.slack → IsOutside s basis j → z j ≡ only_at c t j
  pub basic : (k : ℕ) → k < s.rows → basis k < s.slack → z (basis k) *ℤ w k (basis k) ≡ (w k (side s) *ℤ r) -ℤ (w k c *ℤ t)

module _ (s : Equations) (basis : ℕ → ℕ) (w : ℕ → ℕ → ℤ) (tableau : IsTableau s basis w) (r : ℤ) (c : ℕ) (t : ℤ) (z : ℕ → ℤ) (free : IsFreeColumn s basis c t) (half : IsHalf s basis w r c t z) where
  -- how many times the whole is taken, so that each column has a whole number
  many : ℤ
  many = total s basis w tableau

  positive_many : (pos 0) <ℤ many
  unfolding many
  positive_many = positive_total s basis w tableau

  times : (times : ℕ → ℤ) × ((k : ℕ) → k < s.rows → times k *ℤ w k (basis k) ≡ many)
  unfolding many
  times = times_all s basis w tableau

  said : ℕ → ℤ
  said k = (w k (side s) *ℤ r) -ℤ (w k c *ℤ t)

  -- the number of a column
  record IsNumber (j : ℕ) (y : ℤ) : Type 0 where
    pub outside : IsOutside s basis j → y ≡ many *ℤ only_at c t j
    pub basic : (k : ℕ) → k < s.rows → basis k ≡ j → y ≡ times.0 k *ℤ said k

  number_of : (j : ℕ) → IsOutside s basis j ⊎ ((k : ℕ) × (k < s.rows) × (basis k ≡ j)) → (y : ℤ) × IsNumber j y
  number_of j (inl o) = (many *ℤ only_at c t j, record { outside = λ g. refl; basic = λ k b e. absurd (o k b e) })
  number_of j (inr p) = (
    times.0 p.0 *ℤ said p.0,
    record {
      outside = λ o. absurd (o p.0 p.1 p.2);
      basic = λ k b e. ap (λ (i : ℕ). times.0 i *ℤ said i) (tableau.columns.different p.0 k p.1 b (p.2 ∙ sym e));
    },
  )

  numbers : (y : ℕ → ℤ) × ((j : ℕ) → j < side s → IsNumber j (y j))
  numbers = choose (side s) (pos 0) IsNumber (λ j b. number_of j (basic_or_not s basis w tableau j))

  more_said : (a b r' t' m : ℤ) → m *ℤ ((a *ℤ r') -ℤ (b *ℤ t')) ≡ (a *ℤ (m *ℤ r')) -ℤ (b *ℤ (m *ℤ t'))
  more_said a b r' t' m = mul_sub m (a *ℤ r') (b *ℤ t') ∙ (λ i. mul_left m a r' i -ℤ mul_left m b t' i)

  times_said : (k : ℕ) → k < s.rows → numbers.0 (basis k) *ℤ w k (basis k) ≡ many *ℤ said k
  times_said k b = ap (λ (y : ℤ). y *ℤ w k (basis k)) ((numbers.1 (basis k) (tableau.columns.in_range k b)).basic k b refl)
      ∙ mul_right (times.0 k) (said k) (w k (basis k)) ∙ ap (λ (y : ℤ). y *ℤ said k) (times.1 k b)

  scaled_only : (j : ℕ) → many *ℤ only_at c t j ≡ only_at c (many *ℤ t) j
  scaled_only j = elim (cases_eq j c) [
    | inl e ↦ subst (λ (i : ℕ). many *ℤ only_at c t i ≡ only_at c (many *ℤ t) i) (sym e) (ap (λ (y : ℤ). many *ℤ y) (only_here c t) ∙ sym (only_here c (many *ℤ t)))
    | inr n ↦ ap (λ (y : ℤ). many *ℤ y) (only_off c t j n) ∙ mul_zero many ∙ sym (only_off c (many *ℤ t) j n)
  ]

  whole_numbers : IsWhole s basis w (many *ℤ r) c (many *ℤ t) numbers.0
  unfolding said
  whole_numbers = record {
    outside = λ j b o. (numbers.1 j b).outside o ∙ scaled_only j;
    basic = λ k b. times_said k b ∙ more_said (w k (side s)) (w k c) r t many;
  }

  free_many : IsFreeColumn s basis c (many *ℤ t)
  free_many = elim free [ inl f ↦ inl f | inr e ↦ inr (ap (λ (y : ℤ). many *ℤ y) e ∙ mul_zero many) ]

  at_place : (k : ℕ) → k < s.rows → basis k < s.slack → numbers.0 (basis k) ≡ many *ℤ z (basis k)
  unfolding said
  at_place k l m = (numbers.1 (basis k) (tableau.columns.in_range k l)).basic k l refl
      ∙ ap (λ (y : ℤ). times.0 k *ℤ y) (sym (half.basic k l m) ∙ *ℤ_comm (z (basis k)) (w k (basis k)))
      ∙ sym (*ℤ_assoc (times.0 k) (w k (basis k)) (z (basis k)))
      ∙ ap (λ (y : ℤ). y *ℤ z (basis k)) (times.1 k l)

  -- before the slacks they are those of z
  before : (j : ℕ) → j < s.slack → numbers.0 j ≡ many *ℤ z j
  before j b = elim (basic_or_not s basis w tableau j) [
    | inl o ↦ (numbers.1 j (omega arith)).outside o ∙ ap (λ (y : ℤ). many *ℤ y) (sym (half.outside j b o))
    | inr p ↦ subst (λ (i : ℕ). numbers.0 i ≡ many *ℤ z i) p.2 (at_place p.0 p.1 (subst (λ (i : ℕ). i < s.slack) (sym p.2) b))
  ]

  slack_number : (i : ℕ) → i < s.rows → numbers.0 (s.slack + i) ≡ many *ℤ ((s.right i *ℤ r) -ℤ terms s z i)
  slack_number i b = what_is_left (terms s numbers.0 i) (numbers.0 (s.slack + i)) _ (whole_meets s basis w tableau (many *ℤ r) c (many *ℤ t) numbers.0 free_many whole_numbers i b)
      ∙ (λ k. mul_left (s.right i) many r k -ℤ terms_before k)
      ∙ sym (mul_sub many (s.right i *ℤ r) (terms s z i))
    where
      what_is_left : (a b d : ℤ) → a +ℤ b ≡ d → b ≡ d -ℤ a
      what_is_left a b d e = omega (arith, ints)

      terms_before : terms s numbers.0 i ≡ many *ℤ terms s z i
      terms_before = upto_same s.slack _ _ (λ j l. ap (λ (y : ℤ). s.entry i j *ℤ y) (before j l) ∙ mul_left (s.entry i j) many (z j)) ∙ upto_scale s.slack many (λ j. s.entry i j *ℤ z j)

  each_number : (j : ℕ) → j < side s → many *ℤ extended s z r j ≡ numbers.0 j
  each_number j b = by_lt j s.slack
      (λ l. ap (λ (y : ℤ). many *ℤ y) (extended_before s z r j l) ∙ sym (before j l))
      (λ l. let e : s.slack + (j - s.slack) ≡ j = omega arith in
      subst (λ (i : ℕ). many *ℤ extended s z r i ≡ numbers.0 i) e (ap (λ (y : ℤ). many *ℤ y) (extended_slack s z r (j - s.slack)) ∙ sym (slack_number (j - s.slack) (omega arith))))

  extended_whole : IsWhole s basis w r c t (extended s z r)
  unfolding said
  extended_whole = record {
    outside = λ j b o. cancel_left many _ _ (positive-ne many positive_many) (each_number j b ∙ (numbers.1 j b).outside o);
    basic = λ k b. cancel_left many _ _ (positive-ne many positive_many)
        (sym (*ℤ_assoc many (extended s z r (basis k)) (w k (basis k))) ∙ ap (λ (y : ℤ). y *ℤ w k (basis k)) (each_number (basis k) (tableau.columns.in_range k b)) ∙ times_said k b);
  }

-- what the rows of a basis say before the slacks they say of the slacks too
pub whole_of_half : (s : Equations) (basis : ℕ → ℕ) (w : ℕ → ℕ → ℤ) (r : ℤ) (c : ℕ) (t : ℤ) (z : ℕ → ℤ) → IsTableau s basis w → IsFreeColumn s basis c t → IsHalf s basis w r c t z → IsWhole s basis w r c t (extended s z r)
whole_of_half s basis w r c t z tableau free half = extended_whole s basis w tableau r c t z free half
