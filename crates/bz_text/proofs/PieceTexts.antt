-- Putting pieces one after another puts their whole text.
use Rattle.std.proofs.Common.{◌≡◌, ℕ, ℤ, pos, negsuc, ◌<ℤ◌, arith, ◌+◌, ◌<◌, ◌≤◌, List, [], ◌++◌, length, get_or, drop, Option, Some, None, ap, append_assoc, sym, ◌∷◌, add-one}
use Rattle.std.proofs.lemmas.Bool.{ne_eqb}
use Rattle.std.proofs.lemmas.Int.{ints}
use Rattle.std.proofs.lemmas.List.{append-nil}
use Rattle.std.proofs.Math.ListN.{drop_of_length-le}
use Rattle.std.proofs.Math.Seq.{drop-cons}
use Rattle.std.specs.Fmt.{signed_decimal}
use Rattle.std.specs.Int.RustNames.{unsigned_abs}
use Rattle.std.specs.Prelude.{Result, Ok, Err, IsErr}
use Rattle.bz_io.specs.declared.faults.FaultCount.{FaultCount}
use Rattle.bz_io.specs.Faults.{HasRisen}
use Rattle.bz_io.specs.Sink.{Takes, TakesPrefix}
use Rattle.bz_io.specs.Told.{WhereTold}
use Rattle.bz_text.specs.declared.pieces.Piece.{Piece}
use Rattle.bz_text.specs.Pieces.{piece_text, pieces_text}
use Rattle.bz_text.specs.Putting.{Puts}
use Rattle.bz_text.specs.Texts.{fraction_line, line}
use Rattle.bz_text.proofs.Puts.{prefix_before, prefix_behind, takes_behind}

-- once the rest is taken behind what was taken so far, the whole is taken
pub record Finishes (rest all : List ℕ) (first then : Option (List ℕ)) : Type 0 where
  pub whole : (now : Option (List ℕ)) → WhereTold (Takes rest) then now → WhereTold (Takes all) first now
  pub part : (now : Option (List ℕ)) → WhereTold (TakesPrefix rest) then now → WhereTold (TakesPrefix all) first now

pub starts : (all : List ℕ) (first : Option (List ℕ)) → Finishes all all first first
starts all first = record { whole = λ now h. h; part = λ now h. h }

-- one piece more
pub goes_on : (piece rest all : List ℕ) (first then later : Option (List ℕ)) → Finishes (piece ++ rest) all first then → WhereTold (Takes piece) then later → Finishes rest all first later
goes_on piece rest all first then later f taken = record {
  whole = λ now h. f.whole now (takes_behind piece rest then later now taken h);
  part = λ now h. f.part now (prefix_behind piece rest then later now taken h);
}

pub breaks_off : (piece rest all : List ℕ) (first then now : Option (List ℕ)) → Finishes (piece ++ rest) all first then → WhereTold (TakesPrefix piece) then now → WhereTold (TakesPrefix all) first now
breaks_off piece rest all first then now f taken = f.part now (prefix_before piece rest then now taken)

nothing_more : (then : Option (List ℕ)) → WhereTold (Takes []) then then
nothing_more None = tt
nothing_more (Some bytes) = sym (append-nil bytes)

pub ends : (all : List ℕ) (first then : Option (List ℕ)) → Finishes [] all first then → WhereTold (Takes all) first then
ends all first then f = f.whole then (nothing_more then)

-- the text of what is left of some pieces
pub text_next : (pieces : List Piece) (i : ℕ) (d : Piece) → i < length pieces → pieces_text (drop i pieces) ≡ piece_text (get_or pieces i d) ++ pieces_text (drop (i + 1) pieces)
text_next pieces i d l =
    let left : drop i pieces ≡ get_or pieces i d ∷ drop (i + 1) pieces = rw add-one (drop-cons pieces i d l) in
    ap pieces_text left

pub text_none : (pieces : List Piece) (i : ℕ) → length pieces ≤ i → pieces_text (drop i pieces) ≡ []
text_none pieces i l = ap pieces_text (drop_of_length-le pieces l)

-- a rise behind calls that went well
pub risen_first : (first then now : FaultCount) → then.number ≡ first.number → HasRisen then now → HasRisen first now
risen_first first then now same risen = record {
  rise = λ below. rw (← same) (risen.rise (rw same below));
  full = λ above. rw (← same) (risen.full (rw same above));
  last = risen.last;
}

-- a piece could not be put whole, behind those before it
pub breaks : {S T E : Type 0} (taken : S → Option (List ℕ)) (faults : S → FaultCount) (first then now : S) (piece rest all : List ℕ) (r : Result T E) → IsErr r
    → Finishes (piece ++ rest) all (taken first) (taken then) → (faults then).number ≡ (faults first).number → WhereTold (TakesPrefix piece) (taken then) (taken now) → HasRisen (faults then) (faults now)
    → Puts taken faults first now all r
breaks taken faults first then now piece rest all (Ok _) is f same prefix risen = absurd cc
breaks taken faults first then now piece rest all (Err _) is f same prefix risen = record {
  ok = tt;
  failed = breaks_off piece rest all (taken first) (taken then) (taken now) f prefix;
  count = risen_first (faults first) (faults then) (faults now) same risen;
}

-- every piece was put
pub finished : {S T E : Type 0} (taken : S → Option (List ℕ)) (faults : S → FaultCount) (first then : S) (all : List ℕ) (x : T) → Finishes [] all (taken first) (taken then) → (faults then).number ≡ (faults first).number
    → Puts {E = E} taken faults first then all (Ok x)
finished taken faults first then all x f same = record { ok = ends all (taken first) (taken then) f; failed = tt; count = same }

-- the pieces of a line, read as one line
pub two_pieces : (a b : List ℕ) → a ++ (b ++ 10 ∷ []) ≡ line (a ++ b)
two_pieces a b = simp append_assoc

pub with_number : (a b n : List ℕ) → a ++ (b ++ (32 ∷ (n ++ 10 ∷ []))) ≡ line (a ++ b ++ (32 ∷ n))
with_number a b n = simp append_assoc

pub two_numbers : (a b n m : List ℕ) → a ++ (b ++ (32 ∷ (n ++ (32 ∷ (m ++ 10 ∷ []))))) ≡ line (a ++ b ++ (32 ∷ n) ++ (32 ∷ m))
two_numbers a b n m = simp append_assoc

-- a number above 0 is 1 where its size is 1
pub is_one : (z : ℤ) → pos 0 <ℤ z → unsigned_abs z ≡ 1 → z ≡ pos 1
is_one (pos n) above size = ap pos size
is_one (negsuc n) above size = absurd (omega (arith, ints, above))

-- the pieces of a fraction's line: with the denominator 1, and with another
pub with_whole : (a : List ℕ) (num den n : ℤ) → n ≡ num → unsigned_abs den ≡ 1 →
    a ++ (32 ∷ (signed_decimal n ++ 10 ∷ [])) ≡ fraction_line a num den
with_whole a num den n same one = rw (same, one) (simp (append_assoc, append-nil))

pub with_fraction : (a : List ℕ) (num den n d : ℤ) → n ≡ num → d ≡ den → (unsigned_abs den ≡ 1 → ⊥) →
    a ++ (32 ∷ (signed_decimal n ++ (47 ∷ (signed_decimal d ++ 10 ∷ [])))) ≡ fraction_line a num den
with_fraction a num den n d same too other = rw (same, too, ne_eqb (unsigned_abs den) 1 other) (simp append_assoc)
