-- A row taken -1 times and no other row.
use Rattle.std.proofs.Common.{pos, negsuc, length}
use Rattle.bz_tableau.proofs.SparseRows.{merged_below, negated_narrow, negated_of}
use Rattle.bz_tableau.proofs.next.negated_line.Goals as goal

pub from_terms-requires-clause-sparse : goal.from_terms-requires-clause-sparse
from_terms-requires-clause-sparse c =
    let made = rw c.in-Some.is at c.in_ok-new.ensures in
    made.sparse

pub from_terms-requires-clause-below : goal.from_terms-requires-clause-below
from_terms-requires-clause-below c =
    let made = rw c.in-Some.is at c.in_ok-new.ensures in
    rw c.width.ensures (merged_below (negsuc 0) c.terms-terms.result.now (pos 0) c.terms-terms.result.now c.in-Some.new (length c.args.pivot.now) c.terms-terms.ensures.below c.terms-terms.ensures.below made)

pub unreachable-requires : goal.unreachable-requires
unreachable-requires c =
    let wide = rw c.in-None.is at c.in_ok-new.ensures in
    negated_narrow c.terms-terms.result.now c.terms-terms.ensures.sparse wide

pub returns : goal.returns
returns c =
    let made = rw c.in-Some.is at c.in_ok-new.ensures in
    rw (c.from_terms.ensures, c.width.ensures) (negated_of c.args.pivot.now c.terms-terms.result.now c.in-Some.new c.terms-terms.ensures.value made)
