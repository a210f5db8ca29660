-- What a desk in memory holds after its files changed.
use Rattle.std.proofs.Common.{◌≡◌, ◌≢◌, ℕ, ◌≤◌, Bool, true, false, List, [], ◌∷◌, ◌++◌, length, get_or, set, find, position, bytes_eq, Option, Some, None, option_map, Vec, Global, refl, sym, ◌∙◌, ap, arith, inl, inr}
use Rattle.std.specs.List.{position_or_len}
use Rattle.std.specs.Option.{option_or}
use Rattle.std.proofs.lemmas.Bool.{cases_Bool, false_from_ne_true}
use Rattle.std.proofs.lemmas.Bool.Decides.{nat_tests}
use Rattle.std.proofs.lemmas.List.Quantifiers.{position-Some}
use Rattle.std.proofs.lemmas.List.Sums.{position_or_len_is}
use Rattle.std.proofs.lemmas.List.Folds.{find-set, find_past, find-append, find_at}
use Rattle.std.proofs.lemmas.Option.{slice_get_past}
use Rattle.std.proofs.lemmas.Slice.Eq.{bytes_eq-Decides}
use Rattle.bz_io.specs.Desk.{Holds}
use Rattle.bz_io.specs.MemDesk.{texts_of, contents_of}

abbrev File : Type 0
File = Vec ℕ Global × Vec ℕ Global

abbrev has_name : List ℕ → File → Bool
has_name name file = bytes_eq file.0.items name

abbrev text : File → List ℕ
text file = file.1.items

-- the text of the first file with the name, before the files are seen as texts and after
pub contents_of-texts_of : (files : List (Vec ℕ Global × Vec ℕ Global)) (name : List ℕ) → contents_of (texts_of files) name ≡ option_map (λ file. file.1.items) (find (λ file. bytes_eq file.0.items name) files)
contents_of-texts_of [] name = refl
contents_of-texts_of (file ∷ files) name =
    elim (cases_Bool (bytes_eq file.0.items name)) [ inl e ↦ rw e refl | inr e ↦ rw e (contents_of-texts_of files name) ]

-- bytes equal themselves
same_bytes : (xs : List ℕ) → bytes_eq xs xs ≡ true
same_bytes xs = (bytes_eq-Decides xs xs).1 refl

-- different bytes are told apart
other_bytes : (xs ys : List ℕ) → ys ≢ xs → bytes_eq xs ys ≡ false
other_bytes xs ys apart = false_from_ne_true _ (λ e. apart (sym ((bytes_eq-Decides xs ys).0 e)))

-- where no file has the name, none is found
find_none : (p : File → Bool) (files : List File) → position p files ≡ None → find p files ≡ None
find_none p files none =
    let past : length files ≤ position_or_len p files = grind (arith, nat_tests) in
    find_at p files ∙ slice_get_past files (position_or_len p files) past

-- where no file has the name, it holds nothing
pub holds_nothing : (files : List (Vec ℕ Global × Vec ℕ Global)) (name : List ℕ) → position (λ file. bytes_eq file.0.items name) files ≡ None → contents_of (texts_of files) name ≡ None
holds_nothing files name none = contents_of-texts_of files name ∙ ap (option_map text) (find_none (has_name name) files none)

-- the first file with the name gets the text
pub holds_set : (files : List (Vec ℕ Global × Vec ℕ Global)) (at : ℕ) (named : Vec ℕ Global) (new : Vec ℕ Global) (name : List ℕ) → position (λ file. bytes_eq file.0.items name) files ≡ Some at → (d : Vec ℕ Global × Vec ℕ Global) → named ≡ (get_or files at d).0 → Holds name new.items (contents_of (texts_of files)) (contents_of (texts_of (set files at (named, new))))
holds_set files at named new name found d is =
    let there = position-Some (has_name name) files at d found in
    let place : position_or_len (has_name name) files ≡ at = position_or_len_is (has_name name) files at d (omega arith) there.2 (λ _. there.1) in
    let same : named.items ≡ name = ap (λ (v : Vec ℕ Global). v.items) is ∙ (bytes_eq-Decides (get_or files at d).0.items name).0 there.1 in
    let its_own : bytes_eq named.items name ≡ true = (bytes_eq-Decides named.items name).1 same in
    record {
      named = contents_of-texts_of (set files at (named, new)) name
          ∙ ap (option_map text) (find-set (has_name name) files at (named, new) (sym place) there.0 its_own);
      others = λ other apart.
          let not_there : bytes_eq (get_or files at d).0.items other ≡ false = rw (sym (ap (λ (v : Vec ℕ Global). v.items) is), same) (other_bytes name other apart) in
          let not_new : bytes_eq named.items other ≡ false = rw same (other_bytes name other apart) in
          contents_of-texts_of (set files at (named, new)) other
          ∙ ap (option_map text) (find_past (has_name other) files at (named, new) d not_there not_new)
          ∙ sym (contents_of-texts_of files other);
    }

-- nothing is added to what was found
or_none : (found : Option File) → option_or found None ≡ found
or_none None = refl
or_none (Some file) = refl

-- a file behind the others, none of which has its name
pub holds_push : (files : List (Vec ℕ Global × Vec ℕ Global)) (named : Vec ℕ Global) (new : Vec ℕ Global) → position (λ file. bytes_eq file.0.items named.items) files ≡ None → Holds named.items new.items (contents_of (texts_of files)) (contents_of (texts_of (files ++ (named, new) ∷ [])))
holds_push files named new none = record {
  named =
      contents_of-texts_of (files ++ (named, new) ∷ []) named.items
      ∙ ap (option_map text) (find-append (has_name named.items) files ((named, new) ∷ []))
      ∙ rw (find_none (has_name named.items) files none, same_bytes named.items) refl;
  others = λ other apart.
      contents_of-texts_of (files ++ (named, new) ∷ []) other
      ∙ ap (option_map text) (find-append (has_name other) files ((named, new) ∷ []))
      ∙ rw (other_bytes named.items other apart) (ap (option_map text) (or_none _))
      ∙ sym (contents_of-texts_of files other);
}
