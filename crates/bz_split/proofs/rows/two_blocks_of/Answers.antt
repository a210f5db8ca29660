use Rattle.std.proofs.Common.{inl, inr, pos}
use Rattle.bz_model.proofs.Sparse.{below_at}
use Rattle.bz_split.proofs.TwoBlocks.{none_found, two_found}
use Rattle.bz_split.proofs.rows.two_blocks_of.Goals as goal

pub bounds-part-entry : goal.bounds-part-entry
bounds-part-entry c =
    below_at _ c.as_slice-entry-items.result.now c.loop-entry.entry-index (0, pos 0) (rw c.as_slice-entry-items.ensures.value c.requires) c.loop-entry-test.true

pub returns-then-b-home : goal.returns-then-b-home
returns-then-b-home c =
    two_found c.args.part.now c.args.terms.now c.as_slice-entry-items.result.now c.home-home.result c.loop-entry.entry-index (0, pos 0)
    c.home-home.ensures c.as_slice-entry-items.ensures.value c.loop-entry-test.true c.loop-entry.invariant
    (λ h. elim h [ inl z ↦ c.if-b-ne0.true z | inr e ↦ c.if-b-home.true e ])

pub returns : goal.returns
returns c =
    none_found c.args.part.now c.args.terms.now c.as_slice-entry-items.result.now c.home-home.result c.loop-entry.entry-index
    c.home-home.ensures c.as_slice-entry-items.ensures.value c.loop-entry-test.false c.loop-entry.invariant
