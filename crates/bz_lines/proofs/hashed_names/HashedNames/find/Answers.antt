use Rattle.bz_lines.proofs.NameLemmas.{found_place, found_there, found_nothing}
use Rattle.bz_lines.proofs.hashed_names.HashedNames.find.Goals as goal

pub returns-clause-place : goal.returns-clause-place
returns-clause-place c = found_place _ c.args.name.now c.self.inside.set.keys _ c.get_index_of.ensures.index c.self.view_is

pub returns-clause-there : goal.returns-clause-there
returns-clause-there c = found_there _ c.args.name.now c.self.inside.set.keys _ c.get_index_of.ensures.found c.self.view_is

pub returns-clause-absent : goal.returns-clause-absent
returns-clause-absent c = found_nothing _ c.args.name.now c.self.inside.set.keys _ c.get_index_of.ensures.found c.self.view_is
