-- The lists of the parts' columns while columns are added one by one.
use Rattle.std.specs.Prelude.{ℕ, suc, ◌+◌, ◌<◌, ◌≤◌, ◌≡◌, max, eqb, nat_lt, List, [], ◌∷◌, ◌++◌, length, take, drop, get_or, slice_index, slice_index_or}
use Rattle.std.proofs.Common.{ap, sym, subst, ◌∙◌, arith, inl, inr}
use Rattle.std.proofs.Math.Seq.{get_or-append_seam}
use Rattle.std.proofs.Math.ListN.{get_or-append}
use Rattle.std.proofs.lemmas.Bool.{cases_Bool, cases_eq, ltb-true, ltb-false}
use Rattle.std.proofs.lemmas.List.{get_or_default, length-append, length-take}
use Rattle.std.proofs.lemmas.List.Sums.{count_by-le-length}
use Rattle.bz_model.specs.declared.kept.Kept.{Kept}
use Rattle.bz_model.specs.declared.records.Ineq.{Ineq}
use Rattle.bz_model.specs.declared.records.Model.{Model}
use Rattle.bz_model.specs.Parting.{part_of, blocks_of, columns_of, position_of, inequalities_of}
use Rattle.bz_model.specs.PartLists.{AreJoined, ListsAre, only_at}
use Rattle.bz_model.specs.Splits.{IsKept}
use Rattle.bz_model.proofs.Positions.{part_within_blocks, length-columns_of}
use Rattle.bz_model.proofs.Sparse.{left_at}
use Rattle.bz_model.proofs.Joins.{columns_push, join_known}

-- ---- the greatest part
blocks_cons : (b : ℕ) (bs : List ℕ) → blocks_of (b ∷ bs) ≡ max b (blocks_of bs)
blocks_cons b bs = elim (cases_Bool (nat_lt b (blocks_of bs))) [
  | inl t ↦ rw t (omega (arith, ltb-true b (blocks_of bs) t))
  | inr t ↦ rw t (omega (arith, ltb-false b (blocks_of bs) t))
]

pub blocks_left : (part : List ℕ) (i : ℕ) → i < length part → blocks_of (drop i part) ≡ max (get_or part i 0) (blocks_of (drop (i + 1) part))
blocks_left part i l = ap blocks_of (left_at part i 0 l) ∙ blocks_cons (get_or part i 0) (drop (i + 1) part)

-- ---- columns one by one
-- the first i columns have their positions, and the lists hold them by part
pub record ArePlaced (part : List ℕ) (i : ℕ) (positions : List ℕ) (columns : List (List ℕ)) : Type 0 where
  pub count : length positions ≡ i
  pub each : (j : ℕ) → j < i → slice_index positions j ≡ position_of part j
  pub lists : ListsAre (suc (blocks_of part)) (columns_of (take i part)) columns

-- there is a list for the part of each column
pub placed_room : (part : List ℕ) (j : ℕ) {i : ℕ} {positions : List ℕ} {columns : List (List ℕ)} → ArePlaced part i positions columns → part_of part j < length columns
placed_room part j a = let l : part_of part j ≤ blocks_of part = part_within_blocks part j in omega (arith, a.lists.count)

-- the list of the next column's part is as long as the column's position
pub placed_length : (part : List ℕ) (i : ℕ) (positions : List ℕ) (columns : List (List ℕ)) (xs : List ℕ) → ArePlaced part i positions columns → xs ≡ slice_index_or columns (part_of part i) xs → length xs ≡ position_of part i
placed_length part i positions columns xs a e =
    ap length (e ∙ get_or_default columns (part_of part i) xs [] (placed_room part i a) ∙ a.lists.each (part_of part i) (let l : part_of part i ≤ blocks_of part = part_within_blocks part i in omega arith))
    ∙ length-columns_of (take i part) (part_of part i)

-- a position is at most the column's number
pub position_small : (part : List ℕ) (i : ℕ) → position_of part i ≤ i
position_small part i = let l = count_by-le-length (λ c. eqb c (part_of part i)) (take i part) in omega (arith, l, length-take i part)

pub placed_more : (part : List ℕ) (i n : ℕ) (positions : List ℕ) {columns next : List (List ℕ)} → ArePlaced part i positions columns → i < length part → n ≡ position_of part i → AreJoined columns next (only_at (part_of part i) (i ∷ [])) → ArePlaced part (i + 1) (positions ++ n ∷ []) next
placed_more part i n positions {columns} {next} a l e j = record {
  count = length-append positions (n ∷ []) ∙ omega (arith, a.count);
  each = λ k m. elim (cases_eq k i) [
    | inl t ↦ subst (λ (j : ℕ). slice_index (positions ++ n ∷ []) j ≡ position_of part j) (sym t) (subst (λ (j : ℕ). slice_index (positions ++ n ∷ []) j ≡ n) a.count (get_or-append_seam positions n [] 0) ∙ e)
    | inr d ↦ get_or-append positions (n ∷ []) 0 k (omega (arith, a.count)) ∙ a.each k (omega arith)
  ];
  lists = join_known (columns_of (take (i + 1) part)) a.lists j (λ b m. sym (columns_push part i b l));
}

-- ---- what is kept
-- the list of a part that is kept is the list of its inequalities
pub kept_inequalities : (m : Model) (part : List ℕ) {kept : Kept} (b : ℕ) (xs : List Ineq) → IsKept m part kept → b ≤ blocks_of part → xs ≡ slice_index_or kept.inequalities.items b xs → xs ≡ inequalities_of m part b
kept_inequalities m part {kept} b xs k l e =
    let within : b < length kept.inequalities.items = omega (arith, k.inequalities_are.count) in
    e ∙ get_or_default kept.inequalities.items b xs [] within ∙ k.inequalities_are.each b (omega arith)
