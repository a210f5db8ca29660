use Rattle.std.proofs.Common.{◌∙◌, Global, Vec, ap, subst, sym, map, List, ℕ}
use Rattle.bz_lines.specs.LineReader.{to_come}
use Rattle.bz_lines.specs.NameLists.{is_among}
use Rattle.bz_model.specs.declared.records.Column.{Column}
use Rattle.bz_part.specs.Partition.{Assigns, IsGap, HasNoGap, names_of}
use Rattle.bz_part.proofs.PartitionTheorem.{SameNames, assigned, columns_stop, gap_stops, head_stops, is_partition}
use Rattle.bz_part.proofs.part_text.read_part.Goals as goal

pub returns-in_err-first-clause-reads : goal.returns-in_err-first-clause-reads
returns-in_err-first-clause-reads c =
    head_stops _ _ _ (to_come c.new-lines.result) _ _ c.from_residual-in_err-first.result (sym (ap to_come c.new-lines.ensures))
    c.from_residual-in_err-first.ensures.1 c.in_err-first.ensures

pub returns-in_err-numbers-clause-reads : goal.returns-in_err-numbers-clause-reads
returns-in_err-numbers-clause-reads c =
    let same : SameNames c.in_ok-known.known (names_of c.args.model.now) =
    λ name. c.in_ok-known.ensures name ∙ ap (λ (cs : List Column). is_among (map (λ k. k.name) cs) name) c.as_slice-columns.ensures in
    columns_stop _ _ _ c.in_ok-known.known (to_come c.new-lines.result) _ c.in_ok-first.first _ c.from_residual-in_err-numbers.result (sym (ap to_come c.new-lines.ensures))
    same c.from_residual-in_err-numbers.ensures.1 c.in_ok-first.ensures c.in_err-numbers.ensures

pub returns-in-Some-clause-reads : goal.returns-in-Some-clause-reads
returns-in-Some-clause-reads c =
    let same : SameNames c.in_ok-known.known (names_of c.args.model.now) =
    λ name. c.in_ok-known.ensures name ∙ ap (λ (cs : List Column). is_among (map (λ k. k.name) cs) name) c.as_slice-columns.ensures in
    let part : Assigns c.args.text.now c.args.model.now c.in_ok-part.part.items =
    assigned _ _ c.in_ok-known.known (to_come c.new-lines.result) _ c.in_ok-first.first c.in_ok-numbers.numbers c.as_slice-columns.result.now _
    (sym (ap to_come c.new-lines.ensures)) same c.in_ok-first.ensures c.in_ok-numbers.ensures c.as_slice-columns.ensures c.in_ok-part.ensures in
    gap_stops {V = Vec ℕ Global} (λ part. part.items) _ _ _ c.in-Some.block _ part (subst (λ (p : List ℕ). IsGap p c.in-Some.block) c.as_slice.ensures.value c.in-Some.ensures) c.at_line.ensures

pub returns-clause-reads : goal.returns-clause-reads
returns-clause-reads c =
    let same : SameNames c.in_ok-known.known (names_of c.args.model.now) =
    λ name. c.in_ok-known.ensures name ∙ ap (λ (cs : List Column). is_among (map (λ k. k.name) cs) name) c.as_slice-columns.ensures in
    record {
      assigned = assigned _ _ c.in_ok-known.known (to_come c.new-lines.result) _ c.in_ok-first.first c.in_ok-numbers.numbers c.as_slice-columns.result.now _
          (sym (ap to_come c.new-lines.ensures)) same c.in_ok-first.ensures c.in_ok-numbers.ensures c.as_slice-columns.ensures c.in_ok-part.ensures;
      whole = subst HasNoGap c.as_slice.ensures.value c.in-None.ensures;
    }

pub returns-clause-partition : goal.returns-clause-partition
returns-clause-partition c = is_partition c.args.text.now c.args.model.now _ (returns-clause-reads c)
