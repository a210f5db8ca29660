-- How wide the parts of a split are.
use Rattle.std.proofs.Common.{◌≡◌, ℕ, ◌+◌, ◌*◌, ◌<◌, ◌≤◌, List, [], ◌∷◌, ◌^◌, length, map, nat_eq, arith}
use Rattle.std.specs.List.{AllByRecursion}
use Rattle.std.proofs.lemmas.List.Sums.{count_by-le-length}
use Rattle.std.proofs.lemmas.List.{length-append, length-map}
use Rattle.bz_algebra.specs.Sums.{AllBelow, coef}
use Rattle.bz_model.specs.declared.Master.{Master}
use Rattle.bz_model.specs.Strict.{size_of}
use Rattle.bz_cut.specs.declared.Mode.{Mode}
use Rattle.bz_cut.specs.declared.Mode.TheVariants as mode
use Rattle.bz_std.specs.Tasks.{cost_lines, own_line, separation}
use Rattle.bz_model.specs.declared.Ineq.{Ineq}
use Rattle.bz_model.specs.Limits.{list_limit}
use Rattle.bz_model.specs.Parting.{blocks_of, inequalities_of, width_of}
use Rattle.bz_model.specs.Splits.{Decomposition, FitsPart, IsSplit}
use Rattle.bz_num.specs.Row.{IsSparse}
use Rattle.bz_model.specs.Parting.{inner_cost, terms_in}
use Rattle.bz_model.proofs.Sparse.{sparse_negated, sparse_terms_in}
use Rattle.bz_model.proofs.PartCosts.{negated_where}
use Rattle.bz_model.proofs.InnerCosts.{cost_terms_within, cost_within, decomposed}
use Rattle.bz_std.proofs.Listed.{listed, listed_all}
use Rattle.bz_std.proofs.OverColumns.{below_up}

pub width_few : (d : Decomposition) (b : ℕ) → IsSplit d → width_of d.part b < list_limit
width_few d b s =
    let most : width_of d.part b ≤ length d.part = count_by-le-length (λ c. nat_eq c b) d.part in
    let few : length d.model.columns < list_limit = d.model.few_columns in
    omega (arith, s.partition.numbers)

pub inequalities_few : (d : Decomposition) (b : ℕ) → IsSplit d → b ≤ blocks_of d.part → length (inequalities_of d.model d.part b) < list_limit
inequalities_few d b s h = let small = s.strict.small b h in omega arith

pub own_within : (n b : ℕ) (part : List ℕ) (is : List Ineq) → width_of part b ≤ n → AllByRecursion (FitsPart part b) is → AllByRecursion (λ i. AllBelow n i.own) is
own_within n b part [] l h = tt
own_within n b part (i ∷ is) l h = (below_up (width_of part b) n i.own l h.0.own, own_within n b part is l h.1)

pub master_within : (b : ℕ) (part : List ℕ) (is : List Ineq) → AllByRecursion (FitsPart part b) is → AllByRecursion (λ i. AllBelow (width_of part 0) i.master) is
master_within b part [] h = tt
master_within b part (i ∷ is) h = (h.0.master, master_within b part is h.1)

-- the cost of a part is the list of its numbers
pub listed_cost : (d : Decomposition) (b : ℕ) → IsSplit d → IsSparse d.model.cost → listed (coef (terms_in d.part b (inner_cost d.model))) (width_of d.part b) ≡ terms_in d.part b (inner_cost d.model)
listed_cost d b s h =
    let sparse : IsSparse (terms_in d.part b (inner_cost d.model)) = sparse_terms_in d.part b (inner_cost d.model) (cost_within d.model d.part (decomposed d s)) (negated_where d.model.maximise IsSparse d.model.cost (sparse_negated d.model.cost) h) in
    listed_all (width_of d.part b) (terms_in d.part b (inner_cost d.model)) sparse (cost_terms_within d.model d.part b (decomposed d s))

-- a separation has a row for each inequality, and one more
pub separation_rows_few : (d : Decomposition) (b : ℕ) (point : Master) (way : Mode) → IsSplit d → b ≤ blocks_of d.part → length (separation d.model d.part point b way).rows < 2 ^ 28
separation_rows_few d b point way s h =
    let small : size_of d.model d.part b ≤ 1024 = s.strict.small b h in
    let rows : length (map (own_line point) (inequalities_of d.model d.part b)) ≡ length (inequalities_of d.model d.part b) = length-map (inequalities_of d.model d.part b) (own_line point) in
    let whole : length (separation d.model d.part point b way).rows ≡ length (map (own_line point) (inequalities_of d.model d.part b)) + length (cost_lines d.model d.part point b way) = length-append (map (own_line point) (inequalities_of d.model d.part b)) (cost_lines d.model d.part point b way) in
    let one : length (cost_lines d.model d.part point b way) ≤ 1 = at_most_one way in
    omega arith
  where
    at_most_one : (way : Mode) → length (cost_lines d.model d.part point b way) ≤ 1
    at_most_one mode.Cost = omega arith
    at_most_one mode.Point = omega arith
