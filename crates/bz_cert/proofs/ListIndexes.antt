-- The counts and indexes of sparse lists among numbers.
use Rattle.std.proofs.Common.{◌≡◌, ◌∷◌, ◌++◌, ◌∙◌, [], ℕ, suc, ◌-◌, ◌*◌, ℤ, pos, nat_abs, List, length, take, drop, get_or, arith, ◌<◌, ◌≤◌, ◌^◌, ap, sym, refl, subst, append-nil}
use Rattle.std.specs.List.{AllByRecursion}
use Rattle.std.proofs.Math.Seq.{take-length}
use Rattle.bz_algebra.specs.Sums.{AllBelow}
use Rattle.bz_num.specs.Row.{IsSparse}
use Rattle.bz_cut.specs.declared.Cut.{Cut}
use Rattle.bz_cert.specs.declared.words.Word.{Word}
use Rattle.bz_cert.specs.CertFaults.{AreInOrder, AreOfCut, AreOfLeaf, IsIndex, Standing, alternate, behind_list, indexes_of, list_indexes, lists_indexes}
use Rattle.bz_cert.specs.CertReading.{AreTwoLists, BeginsWithList}
use Rattle.bz_cert.specs.CertText.{IsWritableCut, cut_line, sparse_numbers}
use Rattle.bz_cert.proofs.ListLemmas.{all_apart}
use Rattle.bz_cert.proofs.SparseLists.{pair_numbers, same_index, same_list}

-- an index that is a natural number
pub index_below : (n : ℕ) → IsIndex (pos n) → n < 2 ^ 32
index_below n h = subst (λ (k : ℕ). k < 2 ^ 32) (sym (same_index n h.0 h.1)) h.2

-- what an index is
pub index_is : (z : ℤ) → IsIndex z → z ≡ pos (nat_abs z)
index_is z h = subst (λ (k : ℤ). k ≡ pos (nat_abs k)) (sym h.1) refl

pub size_below : (z : ℤ) → IsIndex z → nat_abs z < 2 ^ 32
size_below z h = subst (λ (k : ℤ). nat_abs k < 2 ^ 32) (sym h.1) h.2

double_suc : (n : ℕ) → 2 * suc n ≡ suc (suc (2 * n))
double_suc n = omega arith

-- the indexes of the pairs in front are in their range
pairs_below : (es : List (ℕ × ℤ)) (rest : List ℤ) → AllByRecursion IsIndex (alternate (take (2 * length es) (pair_numbers es ++ rest))) →
    AllBelow (2 ^ 32) es
pairs_below [] rest h = tt
pairs_below (e ∷ es) rest h =
    let k : AllByRecursion IsIndex (alternate (take (suc (suc (2 * length es))) (pos e.0 ∷ e.1 ∷ (pair_numbers es ++ rest)))) =
    subst (λ (m : ℕ). AllByRecursion IsIndex (alternate (take m (pos e.0 ∷ e.1 ∷ (pair_numbers es ++ rest))))) (double_suc (length es)) h in
    (index_below e.0 k.0, pairs_below es rest k.1)

behind_pairs : (es : List (ℕ × ℤ)) (rest : List ℤ) → drop (2 * length es) (pair_numbers es ++ rest) ≡ rest
behind_pairs [] rest = refl
behind_pairs (e ∷ es) rest =
    ap (λ m. drop m (pos e.0 ∷ e.1 ∷ (pair_numbers es ++ rest))) (double_suc (length es)) ∙ behind_pairs es rest

-- what stands behind a list in front
pub behind_is : (es : List (ℕ × ℤ)) (rest : List ℤ) → behind_list (sparse_numbers es ++ rest) ≡ rest
behind_is es rest = behind_pairs es rest

-- a list in front whose count and indexes are in their range
pub list_in_range : (es : List (ℕ × ℤ)) (rest numbers : List ℤ) → numbers ≡ sparse_numbers es ++ rest →
    AllByRecursion IsIndex (list_indexes numbers) → BeginsWithList es numbers rest
list_in_range es rest numbers e h =
    let k : AllByRecursion IsIndex (list_indexes (sparse_numbers es ++ rest)) = subst (λ (ns : List ℤ). AllByRecursion IsIndex (list_indexes ns)) e h in
    record { laid_out = e; count = index_below (length es) k.0; indexes = pairs_below es rest k.1 }

-- two lists, which are all of the numbers
lists_in_range : (alpha mu : List (ℕ × ℤ)) (numbers : List ℤ) → numbers ≡ sparse_numbers alpha ++ sparse_numbers mu →
    AllByRecursion IsIndex (lists_indexes numbers) → AreTwoLists alpha mu numbers
lists_in_range alpha mu numbers e h =
    let both : AllByRecursion IsIndex (list_indexes numbers) × AllByRecursion IsIndex (list_indexes (behind_list numbers)) =
    all_apart IsIndex (list_indexes numbers) (list_indexes (behind_list numbers)) h in
    let first : BeginsWithList alpha numbers (sparse_numbers mu) = list_in_range alpha (sparse_numbers mu) numbers e both.0 in
    let behind : behind_list numbers ≡ sparse_numbers mu ++ [] = ap behind_list e ∙ behind_is alpha (sparse_numbers mu) ∙ sym (append-nil (sparse_numbers mu)) in
    let second : BeginsWithList mu (behind_list numbers) [] = list_in_range mu [] (behind_list numbers) behind both.1 in
    record {
      laid_out = e;
      first_count = first.count;
      first_indexes = first.indexes;
      second_count = second.count;
      second_indexes = second.indexes;
    }

-- what is behind the first numbers of a line
pub behind_two : (numbers : List ℤ) → 2 ≤ length numbers → take (length numbers - 2) (drop 2 numbers) ≡ drop 2 numbers
behind_two [] l = absurd (omega arith)
behind_two (a ∷ []) l = absurd (omega arith)
behind_two (a ∷ b ∷ ns) l = let e : suc (suc (length ns)) - 2 ≡ length ns = omega arith in ap (λ k. take k ns) e ∙ take-length ns

pub behind_four : (numbers : List ℤ) → 4 ≤ length numbers → take (length numbers - 4) (drop 4 numbers) ≡ drop 4 numbers
behind_four [] l = absurd (omega arith)
behind_four (a ∷ []) l = absurd (omega arith)
behind_four (a ∷ b ∷ []) l = absurd (omega arith)
behind_four (a ∷ b ∷ d ∷ []) l = absurd (omega arith)
behind_four (a ∷ b ∷ d ∷ e ∷ ns) l =
    let s : suc (suc (suc (suc (length ns)))) - 4 ≡ length ns = omega arith in ap (λ k. take k ns) s ∙ take-length ns

first_two : (numbers : List ℤ) → 2 ≤ length numbers → numbers ≡ get_or numbers 0 (pos 0) ∷ get_or numbers 1 (pos 0) ∷ drop 2 numbers
first_two [] l = absurd (omega arith)
first_two (a ∷ []) l = absurd (omega arith)
first_two (a ∷ b ∷ ns) l = refl

first_four : (numbers : List ℤ) → 4 ≤ length numbers → numbers
    ≡ get_or numbers 0 (pos 0) ∷ get_or numbers 1 (pos 0) ∷ get_or numbers 2 (pos 0) ∷ get_or numbers 3 (pos 0) ∷ drop 4 numbers
first_four [] l = absurd (omega arith)
first_four (a ∷ []) l = absurd (omega arith)
first_four (a ∷ b ∷ []) l = absurd (omega arith)
first_four (a ∷ b ∷ d ∷ []) l = absurd (omega arith)
first_four (a ∷ b ∷ d ∷ e ∷ ns) l = refl

first_index : (numbers : List ℤ) → 4 ≤ length numbers → AllByRecursion IsIndex (take 1 numbers) → IsIndex (get_or numbers 0 (pos 0))
first_index [] l h = absurd (omega arith)
first_index (a ∷ ns) l h = h.0

-- the cut is that of the first four numbers, whatever its lists are
pub record IsCutOf (numbers : List ℤ) (cut : Cut) : Type 0 where
  pub block : cut.block ≡ nat_abs (get_or numbers 0 (pos 0))
  pub p0 : cut.p0 ≡ get_or numbers 1 (pos 0)
  pub beta : cut.beta ≡ get_or numbers 2 (pos 0)
  pub gcd : cut.gcd ≡ get_or numbers 3 (pos 0)

pub cut_is : (numbers : List ℤ) (cut : Cut) → IsCutOf numbers cut → 4 ≤ length numbers → AllByRecursion IsIndex (indexes_of Word.Cut numbers) →
    AreTwoLists cut.alpha cut.mu (take (length numbers - 4) (drop 4 numbers)) → IsSparse cut.alpha → IsSparse cut.mu →
    (numbers ≡ (cut_line cut).numbers) × IsWritableCut cut
cut_is numbers cut is long indexes two sa sm =
    let front : AllByRecursion IsIndex (take 1 numbers) = (all_apart IsIndex (take 1 numbers) (lists_indexes (drop 4 numbers)) indexes).0 in
    let index : IsIndex (get_or numbers 0 (pos 0)) = first_index numbers long front in
    let lists : List ℤ = sparse_numbers cut.alpha ++ sparse_numbers cut.mu in (
      first_four numbers long
          ∙ ap (λ k. k ∷ get_or numbers 1 (pos 0) ∷ get_or numbers 2 (pos 0) ∷ get_or numbers 3 (pos 0) ∷ drop 4 numbers) (index_is _ index)
          ∙ ap (λ ns. pos (nat_abs (get_or numbers 0 (pos 0))) ∷ get_or numbers 1 (pos 0) ∷ get_or numbers 2 (pos 0) ∷ get_or numbers 3 (pos 0) ∷ ns)
          (sym (behind_four numbers long) ∙ two.laid_out)
          ∙ ap (λ n. pos n ∷ get_or numbers 1 (pos 0) ∷ get_or numbers 2 (pos 0) ∷ get_or numbers 3 (pos 0) ∷ lists) (sym is.block)
          ∙ ap (λ z. pos cut.block ∷ z ∷ get_or numbers 2 (pos 0) ∷ get_or numbers 3 (pos 0) ∷ lists) (sym is.p0)
          ∙ ap (λ z. pos cut.block ∷ cut.p0 ∷ z ∷ get_or numbers 3 (pos 0) ∷ lists) (sym is.beta)
          ∙ ap (λ z. pos cut.block ∷ cut.p0 ∷ cut.beta ∷ z ∷ lists) (sym is.gcd),
      record {
        block = subst (λ (n : ℕ). n < 2 ^ 32) (sym is.block) (size_below _ index);
        alpha = record { sparse = sa; indexes = two.first_indexes; count = two.first_count };
        mu = record { sparse = sm; indexes = two.second_indexes; count = two.second_count };
      },
    )

-- where the numbers are those of a cut, two lists stand behind the first four
pub lists_of_cut : (numbers : List ℤ) → 4 ≤ length numbers → AllByRecursion IsIndex (indexes_of Word.Cut numbers) → (cut : AreOfCut numbers) →
    AreTwoLists cut.alpha cut.mu (take (length numbers - 4) (drop 4 numbers))
lists_of_cut numbers long indexes cut =
    let all : AllByRecursion IsIndex (lists_indexes (drop 4 numbers)) = (all_apart IsIndex (take 1 numbers) (lists_indexes (drop 4 numbers)) indexes).1 in
    subst (λ (ns : List ℤ). AreTwoLists cut.alpha cut.mu ns) (sym (behind_four numbers long))
    (lists_in_range cut.alpha cut.mu (drop 4 numbers) (ap (drop 4) cut.numbers_are) all)

pub list_of_leaf : (numbers : List ℤ) → 2 ≤ length numbers → AllByRecursion IsIndex (indexes_of Word.Leaf numbers) → (leaf : AreOfLeaf numbers) →
    BeginsWithList leaf.lambda (take (length numbers - 2) (drop 2 numbers)) []
list_of_leaf numbers long indexes leaf =
    subst (λ (ns : List ℤ). BeginsWithList leaf.lambda ns []) (sym (behind_two numbers long))
    (list_in_range leaf.lambda [] (drop 2 numbers) (ap (drop 2) leaf.numbers_are ∙ sym (append-nil (sparse_numbers leaf.lambda))) indexes)

-- two lists that are the same numbers
pub same_lists : (es fs gs hs : List (ℕ × ℤ)) (numbers : List ℤ) → AreTwoLists es fs numbers → AreTwoLists gs hs numbers → (es ≡ gs) × (fs ≡ hs)
same_lists es fs gs hs numbers h k =
    let first : (es ≡ gs) × (sparse_numbers fs ≡ sparse_numbers hs) = same_list es gs _ _ (sym h.laid_out ∙ k.laid_out) in
    (first.0, (same_list fs hs [] [] (append-nil _ ∙ first.1 ∙ sym (append-nil _))).0)

-- the numbers are those of a cut, where two lists stand behind the first four
pub of_cut : (numbers : List ℤ) (alpha mu : List (ℕ × ℤ)) → 4 ≤ length numbers → AreTwoLists alpha mu (take (length numbers - 4) (drop 4 numbers)) →
    AreOfCut numbers
of_cut numbers alpha mu long two = record {
  block = get_or numbers 0 (pos 0);
  p0 = get_or numbers 1 (pos 0);
  beta = get_or numbers 2 (pos 0);
  gcd = get_or numbers 3 (pos 0);
  alpha = alpha;
  mu = mu;
  numbers_are = first_four numbers long
      ∙ ap (λ ns. get_or numbers 0 (pos 0) ∷ get_or numbers 1 (pos 0) ∷ get_or numbers 2 (pos 0) ∷ get_or numbers 3 (pos 0) ∷ ns)
      (sym (behind_four numbers long) ∙ two.laid_out);
}

-- the two lists of a cut whose lists are sparse are sparse
pub sparse_of_cut : (before : Standing) (numbers : List ℤ) (alpha mu : List (ℕ × ℤ)) → 4 ≤ length numbers → AllByRecursion IsIndex (indexes_of Word.Cut numbers) →
    AreTwoLists alpha mu (take (length numbers - 4) (drop 4 numbers)) → AreInOrder before Word.Cut numbers → IsSparse alpha × IsSparse mu
sparse_of_cut before numbers alpha mu long indexes two order =
    let same : (order.0.alpha ≡ alpha) × (order.0.mu ≡ mu) =
    same_lists _ _ _ _ _ (lists_of_cut numbers long indexes order.0) two in
    (subst IsSparse same.0 order.1, subst IsSparse same.1 order.2)

pub of_leaf : (numbers : List ℤ) (lambda : List (ℕ × ℤ)) (rest : List ℤ) → 2 ≤ length numbers →
    BeginsWithList lambda (take (length numbers - 2) (drop 2 numbers)) rest → rest ≡ [] → AreOfLeaf numbers
of_leaf numbers lambda rest long list none = record {
  delta = get_or numbers 0 (pos 0);
  bound = get_or numbers 1 (pos 0);
  lambda = lambda;
  numbers_are = first_two numbers long
      ∙ ap (λ ns. get_or numbers 0 (pos 0) ∷ get_or numbers 1 (pos 0) ∷ ns)
      (sym (behind_two numbers long) ∙ list.laid_out ∙ ap (λ t. sparse_numbers lambda ++ t) none ∙ append-nil (sparse_numbers lambda));
}

pub sparse_of_leaf : (before : Standing) (numbers : List ℤ) (lambda : List (ℕ × ℤ)) (rest : List ℤ) → 2 ≤ length numbers →
    AllByRecursion IsIndex (indexes_of Word.Leaf numbers) → BeginsWithList lambda (take (length numbers - 2) (drop 2 numbers)) rest →
    AreInOrder before Word.Leaf numbers → IsSparse lambda
sparse_of_leaf before numbers lambda rest long indexes list order =
    let k : BeginsWithList order.0.lambda (take (length numbers - 2) (drop 2 numbers)) [] = list_of_leaf numbers long indexes order.0 in
    subst IsSparse (same_list order.0.lambda lambda [] rest (sym k.laid_out ∙ list.laid_out)).0 order.1
