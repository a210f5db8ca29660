-- The divided row keeps its columns.
use Rattle.bz_tableau.proofs.Reductions.{divided_below, divided_sparse, reduced_spread}
use Rattle.bz_tableau.proofs.reducing.reduced_line.Goals as goal

pub from_terms-requires-clause-below : goal.from_terms-requires-clause-below
from_terms-requires-clause-below c = divided_below c.args.width c.primitive.result c.args.terms c.primitive.new.row c.primitive.ensures.numbers c.requires.below

pub from_terms-requires-clause-sparse : goal.from_terms-requires-clause-sparse
from_terms-requires-clause-sparse c = divided_sparse c.primitive.result c.args.terms c.primitive.new.row c.primitive.new.rhs c.args.width c.args.own c.primitive.ensures.sign c.primitive.ensures.numbers c.primitive.ensures.side c.primitive.ensures.reduced c.requires.sparse c.requires.below c.requires.inside c.requires.positive

pub returns : goal.returns
returns c = rw c.from_terms.ensures (reduced_spread c.primitive.result c.args.terms c.primitive.new.row c.primitive.new.rhs c.args.width c.args.own c.primitive.ensures.sign c.primitive.ensures.numbers c.primitive.ensures.side c.primitive.ensures.reduced c.requires.sparse c.requires.below c.requires.inside c.requires.positive)
