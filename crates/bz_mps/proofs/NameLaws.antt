-- The names of a model's columns.
use Rattle.std.proofs.Common.{ℕ, ◌+◌, ◌≡◌, refl, sym, ◌∙◌, subst, arith, Bool, true, false, cond, fold, map, List, [], ◌∷◌, ◌++◌}
use Rattle.std.specs.Prelude.{length, bytes_eq, IfOk, Result, Ok, Err}
use Rattle.std.specs.List.{AllZip, IsDistinct, enumerate_from, zip}
use Rattle.std.proofs.lemmas.Cmp.{nat_list_eq_equiv}
use Rattle.bz_lines.specs.NameLists.{is_among, with_name}
use Rattle.bz_model.specs.declared.Column.{Column}
use Rattle.bz_model.specs.declared.Model.{Model}
use Rattle.bz_facts.specs.declared.BoundLine.{BoundLine}
use Rattle.bz_facts.specs.declared.Facts.{Facts}
use Rattle.bz_facts.specs.declared.MpsStop.{MpsStop}
use Rattle.bz_facts.specs.FactTexts.{IsFactsOf, lines_read}
use Rattle.bz_facts.specs.LineFacts.{columns_named}
use Rattle.bz_facts.proofs.SoundLists.{distinct-push}
use Rattle.bz_mps.specs.FactModel.{IsColumnOf, IsModelOf, ModelOf, end_tests}
use Rattle.bz_mps.specs.TestAnswers.{Tests}

turned : (x y : List ℕ) → bytes_eq x y ≡ bytes_eq y x
turned x y = nat_list_eq_equiv.symm x y

none_distinct : IsDistinct bytes_eq []
unfolding IsDistinct
none_distinct = tt

names_distinct : (names named : List (List ℕ)) → IsDistinct bytes_eq names → IsDistinct bytes_eq (fold with_name names named)
names_distinct names [] h = h
names_distinct names (n ∷ named) h = names_distinct (with_name names n) named (by (is_among names n) refl)
  where
    by : (b : Bool) → is_among names n ≡ b → IsDistinct bytes_eq (cond b names (names ++ n ∷ []))
    by true e = h
    by false e = distinct-push bytes_eq turned names n h e

same_names : (bounds : List BoundLine) (i : ℕ) (names : List (List ℕ)) (marks : List Bool) (columns : List Column) → length names ≡ length marks
    → AllZip (IsColumnOf bounds) (enumerate_from i (zip names marks)) columns → map (λ c. c.name) columns ≡ names
same_names bounds i [] [] [] e h = refl
same_names bounds i [] [] (c ∷ cs) e h = absurd h
same_names bounds i [] (m ∷ ms) columns e h = absurd (omega arith)
same_names bounds i (n ∷ ns) [] columns e h = absurd (omega arith)
same_names bounds i (n ∷ ns) (m ∷ ms) [] e h = absurd h
same_names bounds i (n ∷ ns) (m ∷ ms) (c ∷ cs) e h = (λ j. h.0.named j ∷ same_names bounds (i + 1) ns ms cs (omega arith) h.1 j)

-- no two columns of a text's model have one name
pub model-names : (text : List ℕ) (f : Facts) (m : Model) → IsFactsOf text f → length f.integers ≡ length f.columns → IsModelOf f m → IsDistinct bytes_eq (map (λ c. c.name) m.columns)
model-names text f m are same h =
    subst (IsDistinct bytes_eq) (sym (same_names f.bounds 0 f.columns f.integers m.columns (sym same) h.columns ∙ are.facts.columns))
    (names_distinct [] (columns_named (lines_read text)) none_distinct)

-- what a maker of models answers to the facts of a text is the text's model
pub model_read : (text : List ℕ) (f : Facts) (r : Result Model MpsStop) → IsFactsOf text f → IfOk r (IsModelOf f) → Tests (end_tests f) r → IfOk r (ModelOf text)
model_read text f (Ok m) are h t = record { facts = f; are = are; ends = t; model = h }
model_read text f (Err e) are h t = tt
