use Rattle.std.proofs.Common.{◌≡◌, ◌∙◌, ℕ, ◌<◌, ◌^◌, rules, subst, sym}
use Rattle.bz_tree.specs.Integers.{integer_at}
use Rattle.bz_core.proofs.SplitSides.{place_found, place_is_found, places_are_few}
use Rattle.bz_core.proofs.planning_nodes.place_of.Goals as goal

pub unreachable-requires : goal.unreachable-requires
unreachable-requires c =
    let found = place_found c.args.split.now.model c.args.split.now.part c.args.wanted c.requires in
    let positions = c.in_ok-positions.ensures.positions in
    search (found, positions, rules)

pub overflow_cast-result : goal.overflow_cast-result
overflow_cast-result c =
    let k : ℕ = integer_at c.args.split.now.model c.args.split.now.part c.args.wanted in
    let is : c.in-Some.place ≡ k =
    place_is_found c.args.split.now.model c.args.split.now.part c.args.wanted c.as_slice.result.now c.integer_column.result c.in-Some.place c.requires
    (c.as_slice.ensures.value ∙ c.in_ok-positions.ensures.positions) c.integer_column.ensures c.in-Some.is in
    let few : c.in-Some.place < 2 ^ 32 = subst (λ (n : ℕ). n < 2 ^ 32) (sym is) (places_are_few c.args.split.now.model k c.requires) in
    search (few, rules)

pub returns : goal.returns
returns c =
    place_is_found c.args.split.now.model c.args.split.now.part c.args.wanted c.as_slice.result.now c.integer_column.result c.in-Some.place c.requires
    (c.as_slice.ensures.value ∙ c.in_ok-positions.ensures.positions) c.integer_column.ensures c.in-Some.is
