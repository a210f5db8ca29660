use Rattle.std.proofs.Common.{rules, ◌≡◌, ◌≤◌, [], ℕ, get_or, length, slice_index_or, subst, sym}
use Rattle.bz_model.specs.Entries.{IsEntriesAt, width_at}
use Rattle.bz_model.specs.Parting.{blocks_of, inequalities_of}
use Rattle.bz_model.specs.Rows.{terms_at}
use Rattle.bz_model.specs.Splits.{Decomposition, IsSplit}
use Rattle.bz_model.proofs.KeptEntries.{entries_told, width_told}
use Rattle.bz_model.proofs.splitting.Split.entries.Goals as goal

pub returns-clause-width : goal.returns-clause-width
returns-clause-width c =
    let m = c.self.inside.model in
    let part = c.self.inside.part in
    let within : c.args.part ≤ blocks_of part = subst (λ (d : Decomposition). c.args.part ≤ blocks_of d.part) (sym c.self.view_is) c.requires in
    let entry : c.index-as_slice-part.result ≡ get_or c.self.inside.kept.entries c.args.part c.index-as_slice-part.result = rw c.as_slice.ensures at c.index-as_slice-part.is in
    subst (λ (d : Decomposition). length c.chosen_rows.result.now ≡ width_at c.args.which d.part c.args.part) c.self.view_is
    (rw c.chosen_rows.ensures (width_told m part c.self.inside.kept.entries c.args.part c.index-as_slice-part.result c.args.which c.self.invariant.1.entries_are within entry))

pub returns-clause-each : goal.returns-clause-each
returns-clause-each c =
    let m = c.self.inside.model in
    let part = c.self.inside.part in
    let split : IsSplit (record { model = m; part = part }) = c.self.invariant.0 in
    let within : c.args.part ≤ blocks_of part = subst (λ (d : Decomposition). c.args.part ≤ blocks_of d.part) (sym c.self.view_is) c.requires in
    let entry : c.index-as_slice-part.result ≡ get_or c.self.inside.kept.entries c.args.part c.index-as_slice-part.result = rw c.as_slice.ensures at c.index-as_slice-part.is in
    subst (λ (d : Decomposition). (i : ℕ) → IsEntriesAt (terms_at c.args.which (inequalities_of d.model d.part c.args.part)) i (slice_index_or c.chosen_rows.result.now i [])) c.self.view_is
    (rw c.chosen_rows.ensures (entries_told m part c.self.inside.kept.entries c.args.part c.index-as_slice-part.result c.args.which split.indexes split.partition.numbers c.self.invariant.1.entries_are within entry))
