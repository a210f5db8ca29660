use Rattle.std.proofs.Common.{Bor, List, ℕ, true, false, ◌∙◌, ap, sym, map}
use Rattle.std.specs.Prelude.{is_some}
use Rattle.std.specs.Str.Parse.{digits_value}
use Rattle.bz_lines.specs.FieldLists.{field}
use Rattle.bz_part.proofs.PartitionLemmas.{known_line, lookup_among, none_from}
use Rattle.bz_part.proofs.part_text.column_on.Goals as goal

pub returns-then-is_some : goal.returns-then-is_some
returns-then-is_some c = record {
  fresh = tt;
  tested = known_line _ _ c.args.line.now.number c.args.line.now.header _ c.in-Some.name.now c.in-Some.digits.now true
      (ap (map (λ f. f.now)) (sym c.as_slice.ensures) ∙ c.in-Some.ensures.two) c.in-Some-find.ensures.there
      (sym (lookup_among c.in-Some.name.now c.args.numbers.now) ∙ ap is_some (sym c.find-2.ensures) ∙ sym c.is_some.ensures ∙ c.if-is_some.true);
}

pub returns-in-Ok : goal.returns-in-Ok
returns-in-Ok c =
    let fields = ap (map {B = List ℕ} (λ (f : Bor (List ℕ)). f.now)) (sym c.as_slice.ensures) ∙ c.in-Some.ensures.two in
    record {
      fresh = sym c.find-2.ensures ∙ none_from _ (sym c.is_some.ensures ∙ c.if-is_some.false);
      tested = (
        known_line _ _ c.args.line.now.number c.args.line.now.header _ c.in-Some.name.now c.in-Some.digits.now false fields c.in-Some-find.ensures.there
            (sym (lookup_among c.in-Some.name.now c.args.numbers.now) ∙ ap is_some (sym c.find-2.ensures) ∙ sym c.is_some.ensures ∙ c.if-is_some.false)
            ∙ c.in-Ok.ensures.0,
        (sym (ap (field 0) fields), c.in-Ok.ensures.1 ∙ sym (ap (λ fs. digits_value 10 (field 1 fs)) fields)),
      );
    }

pub returns-in-Err : goal.returns-in-Err
returns-in-Err c = record {
  fresh = tt;
  tested = known_line _ _ c.args.line.now.number c.args.line.now.header _ c.in-Some.name.now c.in-Some.digits.now false
      (ap (map (λ f. f.now)) (sym c.as_slice.ensures) ∙ c.in-Some.ensures.two) c.in-Some-find.ensures.there
      (sym (lookup_among c.in-Some.name.now c.args.numbers.now) ∙ ap is_some (sym c.find-2.ensures) ∙ sym c.is_some.ensures ∙ c.if-is_some.false)
      ∙ c.in-Err.ensures;
}
