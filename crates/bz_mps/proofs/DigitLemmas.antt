-- The digits that decimals have behind their points.
use Rattle.std.proofs.Common.{ℕ, ◌≤◌, max, ℤ, pos, negsuc, ◌≡◌, refl, sym, subst, arith, List, [], ◌∷◌, Option, Some, None, fold}
use Rattle.std.specs.Prelude.{option_to_list}
use Rattle.std.specs.Int.RustNames.{unsigned_abs}
use Rattle.std.specs.List.{AllByRecursion}
use Rattle.std.specs.Option.{ForSome}
use Rattle.std.proofs.lemmas.Int.{ints}
use Rattle.bz_num.specs.declared.Dec.{Dec}
use Rattle.bz_num.specs.Decimals.{IsWithinLimits}
use Rattle.bz_facts.specs.declared.Entry.{Entry}
use Rattle.bz_mps.specs.NumbersMade.{IsScalable}
use Rattle.bz_mps.specs.RowsMade.{AreScalable}
use Rattle.bz_mps.specs.ScaledRows.{decimals_of, digits_behind_point, most_digits}

-- the greatest number of digits, from k on
abbrev pub most_from : ℕ → List Dec → ℕ
most_from k ds = fold (λ k d. max k (digits_behind_point d)) k ds

from_below : (k : ℕ) (ds : List Dec) → k ≤ most_from k ds
from_below k [] = omega arith
from_below k (d ∷ ds) = let more = from_below (max k (digits_behind_point d)) ds in omega arith

pub each_below : (k : ℕ) (ds : List Dec) → AllByRecursion (λ d. digits_behind_point d ≤ most_from k ds) ds
each_below k [] = tt
each_below k (d ∷ ds) = (let more = from_below (max k (digits_behind_point d)) ds in omega arith, each_below (max k (digits_behind_point d)) ds)

few_digits : (d : Dec) → IsWithinLimits d → digits_behind_point d ≤ 30
few_digits d h = by d.exp refl h.exp
  where
    by : (z : ℤ) → d.exp ≡ z → unsigned_abs z ≤ 30 → digits_behind_point d ≤ 30
    by (pos n) same few = rw same (grind (arith, ints))
    by (negsuc n) same few = rw same few

few_from : (k : ℕ) (ds : List Dec) → k ≤ 30 → AllByRecursion IsWithinLimits ds → most_from k ds ≤ 30
few_from k [] h a = h
few_from k (d ∷ ds) h a = let here = few_digits d a.0 in few_from (max k (digits_behind_point d)) ds (omega arith) a.1

pub few_most : (ds : List Dec) → AllByRecursion IsWithinLimits ds → most_digits ds ≤ 30
few_most ds h = few_from 0 ds (omega arith) h

scalable_all : (k : ℕ) (ds : List Dec) → k ≤ 30 → AllByRecursion IsWithinLimits ds → AllByRecursion (λ d. digits_behind_point d ≤ k) ds → AllByRecursion (IsScalable k) ds
scalable_all k [] few h g = tt
scalable_all k (d ∷ ds) few h g = (record { few = few; within = h.0; behind = g.0 }, scalable_all k ds few h.1 g.1)

each_scalable : (ds : List Dec) → AllByRecursion IsWithinLimits ds → AllByRecursion (IsScalable (most_digits ds)) ds
each_scalable ds h = scalable_all (most_digits ds) ds (few_most ds h) h (each_below 0 ds)

-- each number of a row is whole once it is ten to the greatest number of digits as large
pub record RowScalable (k : ℕ) (entries : List Entry) (rhs : Dec) (range : Option Dec) : Type 0 where
  pub few : k ≤ 30
  pub entries_are : AreScalable k entries
  pub rhs_is : IsScalable k rhs
  pub range_is : ForSome range (IsScalable k)

row_parts : (k : ℕ) (entries : List Entry) (rhs : Dec) (range : Option Dec) → k ≤ 30 → AllByRecursion (IsScalable k) (decimals_of entries rhs range) → RowScalable k entries rhs range
row_parts k [] rhs range few h = record { few = few; entries_are = tt; rhs_is = h.0; range_is = in_range range h.1 }
  where
    in_range : (range : Option Dec) → AllByRecursion (IsScalable k) (option_to_list range) → ForSome range (IsScalable k)
    in_range None h = λ x e. absurd cc
    in_range (Some d) h = λ x e. let same : d ≡ x = cc in subst (IsScalable k) same h.0
row_parts k (e ∷ es) rhs range few h =
    let rest = row_parts k es rhs range few h.1 in record { few = few; entries_are = (h.0, rest.entries_are); rhs_is = rest.rhs_is; range_is = rest.range_is }

pub row_scalable : (k : ℕ) (entries : List Entry) (rhs : Dec) (range : Option Dec) → k ≡ most_digits (decimals_of entries rhs range) → AllByRecursion IsWithinLimits (decimals_of entries rhs range) → RowScalable k entries rhs range
row_scalable k entries rhs range e h =
    subst (λ k. RowScalable k entries rhs range) (sym e)
    (row_parts (most_digits (decimals_of entries rhs range)) entries rhs range (few_most (decimals_of entries rhs range) h) (each_scalable (decimals_of entries rhs range) h))
