-- What is decided of the numbers of a line: whether they are as many as its word asks for, and in order.
use Rattle.std.proofs.Common.{◌≡◌, ◌∷◌, ◌++◌, ◌∙◌, [], ℕ, suc, ◌+◌, ◌<◌, ◌≤◌, ◌^◌, inl, inr, ℤ, pos, negsuc, List, Bool, true, false, length, drop, ap, sym, refl, subst, arith, append-nil, bytes_eq}
use Rattle.std.specs.Bool.{Decides}
use Rattle.std.specs.Int.RustNames.{unsigned_abs}
use Rattle.std.proofs.lemmas.Bool.{cases_eq}
use Rattle.std.proofs.lemmas.Slice.Eq.{bytes_eq-Decides}
use Rattle.bz_algebra.specs.Numbers.{IsNarrow}
use Rattle.bz_cut.proofs.CutDecided.{narrow_told}
use Rattle.bz_first.proofs.Deciding.{Told, at_most_told, both, less_told}
use Rattle.bz_num.specs.Row.{IsEntryFrom, IsSparse, IsSparseFrom}
use Rattle.bz_cert.specs.declared.records.Verdict.{Verdict}
use Rattle.bz_cert.specs.declared.records.Verdict.TheVariants.{Optimal, Infeasible, Unbounded}
use Rattle.bz_cert.specs.declared.words.Word.{Word}
use Rattle.bz_cert.specs.CertText.{sparse_numbers}
use Rattle.bz_cert.specs.CertFaults.{AreEnough, AreInOrder, AreOfCut, AreOfLeaf, BreaksTree, EndsTree, IsIndex, IsTooMany, Standing, number_at}
use Rattle.bz_cert.proofs.ListIndexes.{index_below}
use Rattle.bz_cert.proofs.ListLemmas.{same_head, same_tail}
use Rattle.bz_cert.proofs.SparseLists.{pair_numbers, same_index, same_list}

pub from_test : (b : Bool) (P : Type 0) → Decides b P → Told P
from_test true P d = inl (d.0 refl)
from_test false P d = inr (λ p. let t : false ≡ true = d.1 p in absurd (cc))

pub bytes_told : (xs ys : List ℕ) → Told (xs ≡ ys)
bytes_told xs ys = from_test (bytes_eq xs ys) (xs ≡ ys) (bytes_eq-Decides xs ys)

pub index_told : (z : ℤ) → Told (IsIndex z)
index_told (pos n) = by (less_told n (2 ^ 32))
  where
    by : Told (n < 2 ^ 32) → Told (IsIndex (pos n))
    by (inl l) = inl (n, refl, l)
    by (inr never) = inr (λ h. never (index_below n h))
index_told (negsuc n) = inr (λ h. let e : negsuc n ≡ pos h.0 = h.1 in absurd (cc))

entry_told : (low : ℕ) (e : ℕ × ℤ) → Told (IsEntryFrom low e)
entry_told low e = by (at_most_told low e.0) (less_told 0 (unsigned_abs e.1)) (narrow_told e.1)
  where
    by : Told (low ≤ e.0) → Told (0 < unsigned_abs e.1) → Told (IsNarrow e.1) → Told (IsEntryFrom low e)
    by (inl a) (inl b) (inl d) = inl (record { column = a; some = b; narrow = d })
    by (inl a) (inl b) (inr n) = inr (λ h. n h.narrow)
    by (inl a) (inr n) d = inr (λ h. n h.some)
    by (inr n) b d = inr (λ h. n h.column)

sparse_from_told : (low : ℕ) (es : List (ℕ × ℤ)) → Told (IsSparseFrom low es)
sparse_from_told low [] = inl tt
sparse_from_told low (e ∷ es) = both (entry_told low e) (λ h. sparse_from_told (suc e.0) es)

-- so many pairs stand in front of the numbers
abbrev HasPairs : ℕ → List ℤ → Type 0
HasPairs count numbers = (es : List (ℕ × ℤ)) × (rest : List ℤ) × (numbers ≡ pair_numbers es ++ rest) × (length es ≡ count)

too_short : (count : ℕ) (numbers : List ℤ) → length numbers < 2 → HasPairs (suc count) numbers → ⊥
too_short count numbers short ([], rest, e, many) = let m : 0 ≡ suc count = many in absurd (omega arith)
too_short count numbers short (e ∷ es, rest, is, many) = absurd (omega (arith, short, ap length is))

none_further : (count i : ℕ) (z : ℤ) (ns : List ℤ) → (HasPairs count ns → ⊥) → HasPairs (suc count) (pos i ∷ z ∷ ns) → ⊥
none_further count i z ns none ([], rest, e, many) = let m : 0 ≡ suc count = many in absurd (omega arith)
none_further count i z ns none (e ∷ es, rest, is, many) =
    let m : suc (length es) ≡ suc count = many in none (es, rest, same_tail _ _ _ _ (same_tail _ _ _ _ is), omega arith)

below_zero : (count n : ℕ) (z : ℤ) (ns : List ℤ) → HasPairs (suc count) (negsuc n ∷ z ∷ ns) → ⊥
below_zero count n z ns ([], rest, e, many) = let m : 0 ≡ suc count = many in absurd (omega arith)
below_zero count n z ns (e ∷ es, rest, is, many) = let first : negsuc n ≡ pos e.0 = same_head _ _ _ _ is in absurd (cc)

pairs_told : (count : ℕ) (numbers : List ℤ) → Told (HasPairs count numbers)
pairs_told Prim.Native.Nat.zero numbers = inl ([], numbers, refl, refl)
pairs_told (suc count) [] = inr (too_short count [] (omega arith))
pairs_told (suc count) (n ∷ []) = inr (too_short count (n ∷ []) (omega arith))
pairs_told (suc count) (pos i ∷ z ∷ ns) = by (pairs_told count ns)
  where
    by : Told (HasPairs count ns) → Told (HasPairs (suc count) (pos i ∷ z ∷ ns))
    by (inl (es, rest, e, many)) = inl ((i, z) ∷ es, rest, ap (λ t. pos i ∷ z ∷ t) e, ap suc many)
    by (inr none) = inr (none_further count i z ns none)
pairs_told (suc count) (negsuc n ∷ z ∷ ns) = inr (below_zero count n z ns)

-- a sparse list stands in front of the numbers
abbrev HasList : List ℤ → Type 0
HasList numbers = (es : List (ℕ × ℤ)) × (rest : List ℤ) × (numbers ≡ sparse_numbers es ++ rest)

list_told : (numbers : List ℤ) → Told (HasList numbers)
list_told [] = inr (λ h. absurd (omega (arith, ap length h.2)))
list_told (pos n ∷ ns) = by (pairs_told n ns)
  where
    by : Told (HasPairs n ns) → Told (HasList (pos n ∷ ns))
    by (inl (es, rest, e, many)) =
        inl (es, rest, ap (λ t. pos n ∷ t) e ∙ ap (λ k. pos k ∷ (pair_numbers es ++ rest)) (sym many))
    by (inr none) = inr (λ h. none (h.0, h.1, same_tail _ _ _ _ h.2, sym (same_index n (length h.0) (same_head _ _ _ _ h.2))))
list_told (negsuc n ∷ ns) = inr (λ h. let e : negsuc n ≡ pos (length h.0) = same_head _ _ _ _ h.2 in absurd (cc))

-- the numbers are a sparse list
abbrev IsList : List ℤ → Type 0
IsList numbers = (es : List (ℕ × ℤ)) × (numbers ≡ sparse_numbers es)

alone_told : (numbers : List ℤ) → Told (IsList numbers)
alone_told numbers = by (list_told numbers)
  where
    by : Told (HasList numbers) → Told (IsList numbers)
    by (inl (es, [], e)) = inl (es, e ∙ append-nil (sparse_numbers es))
    by (inl (es, n ∷ ns, e)) =
        inr (λ h. absurd (omega (arith, ap length (same_list es h.0 (n ∷ ns) [] (sym e ∙ h.1 ∙ sym (append-nil (sparse_numbers h.0)))).1)))
    by (inr none) = inr (λ h. none (h.0, [], h.1 ∙ sym (append-nil (sparse_numbers h.0))))

-- the numbers are two sparse lists
abbrev AreLists : List ℤ → Type 0
AreLists numbers = (alpha : List (ℕ × ℤ)) × (mu : List (ℕ × ℤ)) × (numbers ≡ sparse_numbers alpha ++ sparse_numbers mu)

lists_told : (numbers : List ℤ) → Told (AreLists numbers)
lists_told numbers = by (list_told numbers)
  where
    behind : (es : List (ℕ × ℤ)) (rest : List ℤ) → numbers ≡ sparse_numbers es ++ rest → Told (IsList rest) → Told (AreLists numbers)
    behind es rest e (inl (fs, k)) = inl (es, fs, e ∙ ap (λ t. sparse_numbers es ++ t) k)
    behind es rest e (inr none) = inr (λ h. none (h.1, (same_list es h.0 rest (sparse_numbers h.1) (sym e ∙ h.2)).1))

    by : Told (HasList numbers) → Told (AreLists numbers)
    by (inl (es, rest, e)) = behind es rest e (alone_told rest)
    by (inr none) = inr (λ h. none (h.0, sparse_numbers h.1, h.2))

of_cut_told : (numbers : List ℤ) → Told (AreOfCut numbers)
of_cut_told [] = inr (λ cut. absurd (omega (arith, ap length cut.numbers_are)))
of_cut_told (a ∷ []) = inr (λ cut. absurd (omega (arith, ap length cut.numbers_are)))
of_cut_told (a ∷ b ∷ []) = inr (λ cut. absurd (omega (arith, ap length cut.numbers_are)))
of_cut_told (a ∷ b ∷ d ∷ []) = inr (λ cut. absurd (omega (arith, ap length cut.numbers_are)))
of_cut_told (a ∷ b ∷ d ∷ e ∷ ns) = by (lists_told ns)
  where
    by : Told (AreLists ns) → Told (AreOfCut (a ∷ b ∷ d ∷ e ∷ ns))
    by (inl (alpha, mu, is)) =
        inl (record { block = a; p0 = b; beta = d; gcd = e; alpha = alpha; mu = mu; numbers_are = ap (λ t. a ∷ b ∷ d ∷ e ∷ t) is })
    by (inr none) = inr (λ cut. none (cut.alpha, cut.mu, ap (drop 4) cut.numbers_are))

of_leaf_told : (numbers : List ℤ) → Told (AreOfLeaf numbers)
of_leaf_told [] = inr (λ leaf. absurd (omega (arith, ap length leaf.numbers_are)))
of_leaf_told (a ∷ []) = inr (λ leaf. absurd (omega (arith, ap length leaf.numbers_are)))
of_leaf_told (a ∷ b ∷ ns) = by (alone_told ns)
  where
    by : Told (IsList ns) → Told (AreOfLeaf (a ∷ b ∷ ns))
    by (inl (lambda, is)) = inl (record { delta = a; bound = b; lambda = lambda; numbers_are = ap (λ t. a ∷ b ∷ t) is })
    by (inr none) = inr (λ leaf. none (leaf.lambda, ap (drop 2) leaf.numbers_are))

pub enough_told : (word : Word) (numbers : List ℤ) → Told (AreEnough word numbers)
enough_told Word.Master numbers = at_most_told 1 (length numbers)
enough_told Word.Eta numbers = inl tt
enough_told Word.Block numbers = at_most_told 2 (length numbers)
enough_told Word.Value numbers = cases_eq (length numbers) 1
enough_told Word.Ray numbers = inl tt
enough_told Word.Cuts numbers = cases_eq (length numbers) 1
enough_told Word.Cut numbers = of_cut_told numbers
enough_told Word.Split numbers = cases_eq (length numbers) 3
enough_told Word.Leaf numbers = of_leaf_told numbers
enough_told Word.End numbers = cases_eq (length numbers) 0

-- the lists of a cut are told by its numbers
same_cut_lists : (numbers : List ℤ) (h k : AreOfCut numbers) → (h.alpha ≡ k.alpha) × (h.mu ≡ k.mu)
same_cut_lists numbers h k =
    let e : sparse_numbers h.alpha ++ sparse_numbers h.mu ≡ sparse_numbers k.alpha ++ sparse_numbers k.mu =
    ap (drop 4) (sym h.numbers_are ∙ k.numbers_are) in
    let first : (h.alpha ≡ k.alpha) × (sparse_numbers h.mu ≡ sparse_numbers k.mu) = same_list h.alpha k.alpha _ _ e in
    (first.0, (same_list h.mu k.mu [] [] (append-nil _ ∙ first.1 ∙ sym (append-nil _))).0)

same_leaf_list : (numbers : List ℤ) (h k : AreOfLeaf numbers) → h.lambda ≡ k.lambda
same_leaf_list numbers h k =
    let e : sparse_numbers h.lambda ≡ sparse_numbers k.lambda = ap (drop 2) (sym h.numbers_are ∙ k.numbers_are) in
    (same_list h.lambda k.lambda [] [] (append-nil _ ∙ e ∙ sym (append-nil _))).0

cut_order_told : (before : Standing) (numbers : List ℤ) → Told (AreOfCut numbers) → Told (AreInOrder before Word.Cut numbers)
cut_order_told before numbers (inr none) = inr (λ order. none order.0)
cut_order_told before numbers (inl cut) = by (sparse_from_told 0 cut.alpha) (sparse_from_told 0 cut.mu)
  where
    by : Told (IsSparse cut.alpha) → Told (IsSparse cut.mu) → Told (AreInOrder before Word.Cut numbers)
    by (inl a) (inl m) = inl (cut, a, m)
    by (inl a) (inr none) = inr (λ order. none (subst IsSparse (same_cut_lists numbers order.0 cut).1 order.2))
    by (inr none) m = inr (λ order. none (subst IsSparse (same_cut_lists numbers order.0 cut).0 order.1))

leaf_order_told : (before : Standing) (numbers : List ℤ) → Told (AreOfLeaf numbers) → Told (AreInOrder before Word.Leaf numbers)
leaf_order_told before numbers (inr none) = inr (λ order. none order.0)
leaf_order_told before numbers (inl leaf) = by (sparse_from_told 0 leaf.lambda)
  where
    by : Told (IsSparse leaf.lambda) → Told (AreInOrder before Word.Leaf numbers)
    by (inl s) = inl (leaf, s)
    by (inr none) = inr (λ order. none (subst IsSparse (same_leaf_list numbers order.0 leaf) order.1))

pub order_told : (before : Standing) (word : Word) (numbers : List ℤ) → Told (AreInOrder before word numbers)
order_told before Word.Block numbers = cases_eq (number_at 0 numbers) (suc before.blocks)
order_told before Word.Cut numbers = cut_order_told before numbers (of_cut_told numbers)
order_told before Word.Leaf numbers = leaf_order_told before numbers (of_leaf_told numbers)
order_told before _ numbers = inl tt

pub many_told : (before : Standing) (word : Word) (numbers : List ℤ) → Told (IsTooMany before word numbers)
many_told before Word.Cuts numbers = less_told 65535 (number_at 0 numbers)
many_told before Word.Split numbers = at_most_told 65535 (before.splits + before.leaves)
many_told before Word.Leaf numbers = at_most_told 65535 (before.splits + before.leaves)
many_told before _ numbers = inr (λ h. h)

not_told : {P : Type 0} → Told P → Told (P → ⊥)
not_told (inl p) = inr (λ n. n p)
not_told (inr n) = inl n

ends_told : (verdict : Verdict) (before : Standing) → Told (EndsTree verdict before)
ends_told Optimal before = not_told (cases_eq before.leaves (suc before.splits))
ends_told Infeasible before = not_told (cases_eq before.leaves (suc before.splits))
ends_told Unbounded before = inr (λ h. h)

pub tree_told : (verdict : Verdict) (before : Standing) (word : Word) → Told (BreaksTree verdict before word)
tree_told verdict before Word.End = ends_told verdict before
tree_told verdict before Word.Split = cases_eq before.leaves (suc before.splits)
tree_told verdict before Word.Leaf = cases_eq before.leaves (suc before.splits)
tree_told verdict before _ = inr (λ h. h)
