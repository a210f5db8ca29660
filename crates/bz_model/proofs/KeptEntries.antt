-- The numbers by position that a split keeps.
use Rattle.std.proofs.Common.{◌≡◌, sym, ◌∙◌, ap, subst, ℕ, zero, suc, ◌+◌, ◌<◌, ◌≤◌, ◌^◌, List, [], ◌∷◌, length, get_or, arith, ℤ, inl, inr}
use Rattle.std.specs.Prelude.{slice_index_or}
use Rattle.std.specs.List.{AllByRecursion, enumerate_from}
use Rattle.std.proofs.Math.ListN.{get_or-eq_default}
use Rattle.std.proofs.lemmas.Bool.{cases_lt}
use Rattle.bz_algebra.specs.Sums.{AllBelow, coef}
use Rattle.bz_algebra.proofs.SumLemmas.{coef_beyond}
use Rattle.bz_model.specs.declared.entries.ByPosition.{ByPosition}
use Rattle.bz_model.specs.declared.entries.Terms.{Terms}
use Rattle.bz_model.specs.declared.entries.Terms.TheVariants.{Own, Master}
use Rattle.bz_model.specs.declared.records.Ineq.{Ineq}
use Rattle.bz_model.specs.declared.records.Model.{Model}
use Rattle.bz_model.specs.Entries.{AreEntries, AreEntryLists, ArePartEntries, HasEntries, IsEntriesAt, RowsFit, rows_of, width_at, width_in}
use Rattle.bz_model.specs.Parting.{blocks_of, inequalities_of, width_of}
use Rattle.bz_model.specs.PartLists.{AreColumnLists, AreInequalityLists}
use Rattle.bz_model.specs.Rows.{master_at, own_at, terms_at}
use Rattle.bz_model.specs.Splits.{FitsPart}
use Rattle.bz_model.specs.Strict.{HasItsColumns}
use Rattle.bz_model.proofs.Inequalities.{inequalities_fit, length-inequalities}
use Rattle.bz_model.proofs.Positions.{length-columns_of}

-- the widths of the parts are the lengths of their lists
width_kept : (part : List ℕ) (columns : List (List ℕ)) (b : ℕ) → AreColumnLists part columns → b ≤ blocks_of part → width_in columns b ≡ width_of part b
width_kept part columns b k l = ap length (k.each b (omega (arith, l))) ∙ length-columns_of part b

own_fit : (part : List ℕ) (b : ℕ) (rows : List Ineq) → AllByRecursion (FitsPart part b) rows → AllByRecursion (λ i. AllBelow (width_of part b) i.own) rows
own_fit part b [] h = tt
own_fit part b (i ∷ is) h = (h.0.own, own_fit part b is h.1)

master_fit : (part : List ℕ) (b : ℕ) (rows : List Ineq) → AllByRecursion (FitsPart part b) rows → AllByRecursion (λ i. AllBelow (width_of part 0) i.master) rows
master_fit part b [] h = tt
master_fit part b (i ∷ is) h = (h.0.master, master_fit part b is h.1)

part_fits : (m : Model) (part : List ℕ) (b : ℕ) → HasItsColumns m → length part ≡ length m.columns → RowsFit (width_of part b) (width_of part 0) (inequalities_of m part b)
part_fits m part b h n =
    let fit : AllByRecursion (FitsPart part b) (inequalities_of m part b) = inequalities_fit m part b h n in
    let rows : length m.rows < 2 ^ 28 = m.few_rows in
    let columns : length m.columns < 2 ^ 28 = m.few_columns in
    record {
      own = own_fit part b (inequalities_of m part b) fit;
      master = master_fit part b (inequalities_of m part b) fit;
      few = omega (arith, length-inequalities m part b, rows, columns);
    }

-- the inequalities of each list speak of positions below the widths of their parts
pub parts_fit : (m : Model) (part : List ℕ) (columns : List (List ℕ)) (inequalities : List (List Ineq)) → HasItsColumns m → length part ≡ length m.columns → AreColumnLists part columns → AreInequalityLists m part inequalities
    → (b : ℕ) → b < length inequalities → RowsFit (width_in columns b) (width_in columns 0) (slice_index_or inequalities b [])
parts_fit m part columns inequalities h n k i b l =
    let within : b ≤ blocks_of part = omega (arith, i.count, l) in
    rw (width_kept part columns b k within, width_kept part columns 0 k (omega arith), i.each b (omega (arith, within))) (part_fits m part b h n)

-- what holds of each item and its number
all_numbered_then : {X : Type 0} (P Q : ℕ × X → Type 0) (n end : ℕ) (xs : List X) → n + length xs ≤ end → ((b : ℕ) (x : X) → b < end → P (b, x) → Q (b, x)) → AllByRecursion P (enumerate_from n xs) → AllByRecursion Q (enumerate_from n xs)
all_numbered_then P Q n end [] l f h = tt
all_numbered_then P Q n end (x ∷ xs) l f h = (f n x (omega (arith, l)) h.0, all_numbered_then P Q (n + 1) end xs (omega (arith, l)) f h.1)

-- the lists are those of the parts
pub entries_kept : (m : Model) (part : List ℕ) (columns : List (List ℕ)) (inequalities : List (List Ineq)) (lists : List ByPosition) → AreColumnLists part columns → AreInequalityLists m part inequalities
    → AreEntryLists columns inequalities lists → ArePartEntries m part lists
entries_kept m part columns inequalities lists k i a = record {
  count = a.count ∙ i.count;
  each = all_numbered_then
      (λ e. HasEntries (width_in columns e.0) (width_in columns 0) (slice_index_or inequalities e.0 []) e.1)
      (λ e. HasEntries (width_of part e.0) (width_of part 0) (inequalities_of m part e.0) e.1)
      0 (suc (blocks_of part)) lists (omega (arith, a.count, i.count))
      (λ b x l h. rw (← width_kept part columns b k (omega (arith, l)), ← width_kept part columns 0 k (omega arith), ← i.each b l) h)
      a.each;
}

-- an item and its number
item_at : {X : Type 0} (P : ℕ × X → Type 0) (n : ℕ) (xs : List X) (b : ℕ) (x : X) → b < length xs → x ≡ get_or xs b x → AllByRecursion P (enumerate_from n xs) → P (n + b, x)
item_at P n [] b x l e h = absurd (omega (arith, l))
item_at P n (y ∷ xs) zero x l e h = let z : n ≡ n + 0 = omega arith in subst (λ (k : ℕ). P (k, x)) z (subst (λ (w : _). P (n, w)) (sym e) h.0)
item_at P n (y ∷ xs) (suc b) x l e h = let z : (n + 1) + b ≡ n + suc b = omega arith in subst (λ (k : ℕ). P (k, x)) z (item_at P (n + 1) xs b x (omega (arith, l)) e h.1)

part_at : (m : Model) (part : List ℕ) (lists : List ByPosition) (b : ℕ) (x : ByPosition) → ArePartEntries m part lists → b ≤ blocks_of part → x ≡ get_or lists b x → HasEntries (width_of part b) (width_of part 0) (inequalities_of m part b) x
part_at m part lists b x a l e =
    let within : b < length lists = omega (arith, a.count, l) in
    let there = item_at (λ e. HasEntries (width_of part e.0) (width_of part 0) (inequalities_of m part e.0) e.1) 0 lists b x within e a.each in
    let z : 0 + b ≡ b = omega arith in
    subst (λ (k : ℕ). HasEntries (width_of part k) (width_of part 0) (inequalities_of m part k) x) z there

chosen_at : (part : List ℕ) (b : ℕ) (rows : List Ineq) (x : ByPosition) (which : Terms) → HasEntries (width_of part b) (width_of part 0) rows x → AreEntries (width_at which part b) (terms_at which rows) (rows_of which x)
chosen_at part b rows x Own h = record { count = h.own.count; each = λ i l n. h.own.each i l n }
chosen_at part b rows x Master h = record { count = h.master.count; each = λ i l n. h.master.each i l n }

own_below : (w : ℕ) (rows : List Ineq) (n : ℕ) → AllByRecursion (λ i. AllBelow w i.own) rows → AllBelow w (own_at rows n)
own_below w [] n h = tt
own_below w (i ∷ is) zero h = h.0
own_below w (i ∷ is) (suc n) h = own_below w is n h.1

master_below : (w : ℕ) (rows : List Ineq) (n : ℕ) → AllByRecursion (λ i. AllBelow w i.master) rows → AllBelow w (master_at rows n)
master_below w [] n h = tt
master_below w (i ∷ is) zero h = h.0
master_below w (i ∷ is) (suc n) h = master_below w is n h.1

terms_below : (part : List ℕ) (b : ℕ) (rows : List Ineq) (which : Terms) (n : ℕ) → RowsFit (width_of part b) (width_of part 0) rows → AllBelow (width_at which part b) (terms_at which rows n)
terms_below part b rows Own n h = own_below (width_of part b) rows n h.own
terms_below part b rows Master n h = master_below (width_of part 0) rows n h.master

-- there is a list for each position
pub width_told : (m : Model) (part : List ℕ) (lists : List ByPosition) (b : ℕ) (x : ByPosition) (which : Terms) → ArePartEntries m part lists → b ≤ blocks_of part → x ≡ get_or lists b x → length (rows_of which x) ≡ width_at which part b
width_told m part lists b x which a l e = (chosen_at part b (inequalities_of m part b) x which (part_at m part lists b x a l e)).count

-- it is that of the position, and past the last position there is nothing
pub entries_told : (m : Model) (part : List ℕ) (lists : List ByPosition) (b : ℕ) (x : ByPosition) (which : Terms) → HasItsColumns m → length part ≡ length m.columns → ArePartEntries m part lists → b ≤ blocks_of part → x ≡ get_or lists b x
    → (i : ℕ) → IsEntriesAt (terms_at which (inequalities_of m part b)) i (slice_index_or (rows_of which x) i [])
entries_told m part lists b x which h c a l e i n =
    let at : AreEntries (width_at which part b) (terms_at which (inequalities_of m part b)) (rows_of which x) = chosen_at part b (inequalities_of m part b) x which (part_at m part lists b x a l e) in
    elim (cases_lt i (width_at which part b)) [
      | inl w ↦ at.each i w n
      | inr w ↦
          let past : length (rows_of which x) ≤ i = omega (arith, at.count, w) in
          ap (λ (es : List (ℕ × ℤ)). coef es n) (get_or-eq_default (rows_of which x) [] past)
          ∙ sym (coef_beyond (width_at which part b) (terms_at which (inequalities_of m part b) n) i (terms_below part b (inequalities_of m part b) which n (part_fits m part b h c)) w)
    ]
