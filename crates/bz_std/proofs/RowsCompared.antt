-- A row compared with the columns of terms, entry by entry.
use Rattle.std.proofs.Common.{◌≡◌, ◌≢◌, refl, sym, ◌∙◌, ap, subst, ℕ, zero, suc, ◌+◌, ◌*◌, ◌<◌, ◌≤◌, List, [], ◌∷◌, ◌++◌, length, drop, get_or, arith, ℤ, pos, negsuc, neg_ℤ, append-nil}
use Rattle.std.proofs.lemmas.List.{drop-drop, drop_at, length-append, length-drop}
use Rattle.bz_algebra.specs.Sums.{AllBelow}
use Rattle.bz_num.specs.Row.{entry_at}
use Rattle.bz_model.proofs.Sparse.{left_at, none_left}
use Rattle.bz_cut.specs.declared.Cut.{Cut}
use Rattle.bz_tree.specs.Leaves.{side_of_cut}
use Rattle.bz_tableau.specs.declared.programs.LpRow.{LpRow}
use Rattle.bz_std.specs.Compared.{BeginsWith, IsPairAt}
use Rattle.bz_std.specs.Posed.{IsRowOf, Line, line_of, line_over_columns, over_columns}
use Rattle.bz_std.specs.Tasks.{side_line}
use Rattle.bz_std.proofs.OnePosed.{rest_of}
use Rattle.bz_std.proofs.OverColumns.{over_append}

pub length-over : (terms : List (ℕ × ℤ)) → length (over_columns terms) ≡ 2 * length terms
length-over [] = refl
length-over (e ∷ es) = let rest : length (over_columns es) ≡ 2 * length es = length-over es in omega (arith, rest)

-- ---- a row that begins with terms is long enough
pub begins_long : (row terms : List (ℕ × ℤ)) → BeginsWith row terms → 2 * length terms ≤ length row
begins_long row terms h = omega (arith, ap length h, length-append (over_columns terms) (drop (2 * length terms) row), length-over terms)

-- ---- two entries more
-- what begins with a pair at a place is the pair and what comes after it
pair_here : (row rest : List (ℕ × ℤ)) (at v : ℕ) (z : ℤ) → drop at row ≡ (2 * v, z) ∷ (2 * v + 1, neg_ℤ z) ∷ rest → drop (at + 2) row ≡ rest
pair_here row rest at v z h = sym (drop-drop 2 at row) ∙ ap (drop 2) h

pub pair_made : (row rest : List (ℕ × ℤ)) (at v : ℕ) (z : ℤ) → drop at row ≡ (2 * v, z) ∷ (2 * v + 1, neg_ℤ z) ∷ rest → IsPairAt row at v z
pair_made row rest at v z h = h ∙ ap (λ (ts : List (ℕ × ℤ)). (2 * v, z) ∷ (2 * v + 1, neg_ℤ z) ∷ ts) (sym (pair_here row rest at v z h))

-- the row begins with the terms exactly where what is left of it begins with what is left of them
pub record StillBegins (row terms : List (ℕ × ℤ)) (k : ℕ) : Type 0 where
  pub up : drop (2 * k) row ≡ over_columns (drop k terms) ++ drop (2 * length terms) row → BeginsWith row terms
  pub down : BeginsWith row terms → drop (2 * k) row ≡ over_columns (drop k terms) ++ drop (2 * length terms) row

pub begins_start : (row terms : List (ℕ × ℤ)) → StillBegins row terms 0
begins_start row terms = record { up = λ h. h; down = λ h. h }

module _ (row terms : List (ℕ × ℤ)) (k : ℕ) (l : k < length terms) where
  abbrev here : ℕ × ℤ
  here = get_or terms k (0, pos 0)

  -- what is left begins with this term
  coming : over_columns (drop k terms) ++ drop (2 * length terms) row ≡ (2 * here.0, here.1) ∷ (2 * here.0 + 1, neg_ℤ here.1) ∷ (over_columns (drop (k + 1) terms) ++ drop (2 * length terms) row)
  coming = ap (λ (ts : List (ℕ × ℤ)). over_columns ts ++ drop (2 * length terms) row) (left_at terms k (0, pos 0) l)

  further : 2 * k + 2 ≡ 2 * (k + 1)
  further = omega arith

  pub begins_next : IsPairAt row (2 * k) here.0 here.1 → StillBegins row terms k → StillBegins row terms (k + 1)
  begins_next p s =
      let after : drop (2 * k) row ≡ (2 * here.0, here.1) ∷ (2 * here.0 + 1, neg_ℤ here.1) ∷ drop (2 * (k + 1)) row = p ∙ ap (λ (n : ℕ). (2 * here.0, here.1) ∷ (2 * here.0 + 1, neg_ℤ here.1) ∷ drop n row) further in
      record {
        up = λ h. s.up (after ∙ ap (λ (ts : List (ℕ × ℤ)). (2 * here.0, here.1) ∷ (2 * here.0 + 1, neg_ℤ here.1) ∷ ts) h ∙ sym coming);
        down = λ b. ap (λ (ts : List (ℕ × ℤ)). rest_of (rest_of ts)) (sym after ∙ s.down b ∙ coming);
      }

  pub begins_fail : (IsPairAt row (2 * k) here.0 here.1 → ⊥) → StillBegins row terms k → BeginsWith row terms → ⊥
  begins_fail p s b = p (pair_made row (over_columns (drop (k + 1) terms) ++ drop (2 * length terms) row) (2 * k) here.0 here.1 (s.down b ∙ coming))

pub begins_end : (row terms : List (ℕ × ℤ)) (k : ℕ) → length terms ≤ k → k ≤ length terms → StillBegins row terms k → BeginsWith row terms
begins_end row terms k l u s =
    let same : k ≡ length terms = omega arith in
    s.up (ap (λ (n : ℕ). drop (2 * n) row) same ∙ ap (λ (ts : List (ℕ × ℤ)). over_columns ts ++ drop (2 * length terms) row) (sym (none_left terms k l)))

-- ---- terms and more
pub begins_more : (row terms more : List (ℕ × ℤ)) → BeginsWith row terms → drop (2 * length terms) row ≡ over_columns more → row ≡ over_columns (terms ++ more)
begins_more row terms more b h = b ∙ ap (λ (ts : List (ℕ × ℤ)). over_columns terms ++ ts) h ∙ sym (over_append terms more)

pub more_left : (row terms more : List (ℕ × ℤ)) → row ≡ over_columns (terms ++ more) → drop (2 * length terms) row ≡ over_columns more
more_left row terms more h = ap (drop (2 * length terms)) (h ∙ over_append terms more) ∙ drop_at (over_columns terms) (over_columns more) (2 * length terms) (length-over terms)

pub more_begins : (row terms more : List (ℕ × ℤ)) → row ≡ over_columns (terms ++ more) → BeginsWith row terms
more_begins row terms more h = h ∙ over_append terms more ∙ ap (λ (ts : List (ℕ × ℤ)). over_columns terms ++ ts) (sym (more_left row terms more h))

-- ---- the whole row
pub whole_row : (row terms : List (ℕ × ℤ)) → length row ≡ 2 * length terms → BeginsWith row terms → row ≡ over_columns terms
whole_row row terms l b = b ∙ ap (λ (ts : List (ℕ × ℤ)). over_columns terms ++ ts) (none_left row (2 * length terms) (omega arith)) ∙ append-nil (over_columns terms)

pub whole_begins : (row terms : List (ℕ × ℤ)) → row ≡ over_columns terms → BeginsWith row terms
whole_begins row terms h = more_begins row terms [] (h ∙ ap over_columns (sym (append-nil terms)))

-- ---- one variable at the end
pub none_after : (row : List (ℕ × ℤ)) (at : ℕ) → at ≤ length row → drop at row ≡ [] → length row ≡ at
none_after row at l h = omega (arith, sym (length-drop at row) ∙ ap length h)

pub entry_none : (v : ℕ) (z : ℤ) → z ≡ pos 0 → over_columns (entry_at v z) ≡ []
entry_none v z e = rw e refl

pub entry_one : (v : ℕ) (z : ℤ) → z ≢ pos 0 → over_columns (entry_at v z) ≡ (2 * v, z) ∷ (2 * v + 1, neg_ℤ z) ∷ []
entry_one v (pos zero) n = absurd (n refl)
entry_one v (pos (suc k)) n = refl
entry_one v (negsuc k) n = refl

module _ (row : List (ℕ × ℤ)) (at v : ℕ) (z : ℤ) (inside : at ≤ length row) where
  pub ends_none : z ≡ pos 0 → length row ≡ at → drop at row ≡ over_columns (entry_at v z)
  ends_none e l = none_left row at (omega (arith, l)) ∙ sym (entry_none v z e)

  pub none_ends : z ≡ pos 0 → drop at row ≡ over_columns (entry_at v z) → length row ≡ at
  none_ends e h = none_after row at inside (h ∙ entry_none v z e)

  pub ends_one : z ≢ pos 0 → length row ≡ at + 2 → IsPairAt row at v z → drop at row ≡ over_columns (entry_at v z)
  ends_one n l p = p ∙ ap (λ (ts : List (ℕ × ℤ)). (2 * v, z) ∷ (2 * v + 1, neg_ℤ z) ∷ ts) (none_left row (at + 2) (omega arith)) ∙ sym (entry_one v z n)

  pub one_long : z ≢ pos 0 → drop at row ≡ over_columns (entry_at v z) → length row ≡ at + 2
  one_long n h = omega (arith, sym (length-drop at row) ∙ ap length (h ∙ entry_one v z n))

  pub one_ends : z ≢ pos 0 → drop at row ≡ over_columns (entry_at v z) → IsPairAt row at v z
  one_ends n h = pair_made row [] at v z (h ∙ entry_one v z n)

-- ---- lines
pub line_is : (row : LpRow) (line : Line) → row.rhs ≡ line.rhs → row.terms ≡ over_columns line.terms → IsRowOf line row
line_is row line a b = λ k. record { terms = b k; rhs = a k }

pub line_rhs : (row : LpRow) (line : Line) → IsRowOf line row → row.rhs ≡ line.rhs
line_rhs row line h = ap (λ (l : Line). l.rhs) h

pub line_terms : (row : LpRow) (line : Line) → IsRowOf line row → row.terms ≡ over_columns line.terms
line_terms row line h = ap (λ (l : Line). l.terms) h
