-- Certificates of the three verdicts that pass.
--     optimal: examples/one.*, minimise 2 x + 3 y where 2 x + y >= 1, x is an integer from 0 to 1 in the master, and y >= 0 is in block 1. At x = 1, y = 0 the value is 2. The tree splits x at 0 and 1; its leaves have the bounds 3 and 2
--     unbounded: the same where -y is minimised: from x = 1, y = 0 along y
--     infeasible: 2 x = 1 where x is an integer from 0 to 1, in the master. The tree splits x at 0 and 1, and both leaves are empty
use Rattle.std.specs.Prelude.{ℕ, zero, suc, ℤ, pos, negsuc, true, false, List, [], ◌∷◌, Some, None, ◌<◌, ◌≤◌, ◌≡◌}
use Rattle.std.specs.Option.{ForSome}
use Rattle.std.proofs.Common.{refl, subst, arith, inl, inr, length, ◌^◌}
use Rattle.std.proofs.lemmas.Int.{ints}
use Rattle.bz_algebra.specs.Fractions.{whole}
use Rattle.bz_algebra.specs.Numbers.{IsNarrow}
use Rattle.bz_algebra.specs.Sums.{AllBelow}
use Rattle.bz_num.specs.declared.Frac.{Frac}
use Rattle.bz_model.specs.declared.Column.{Column}
use Rattle.bz_model.specs.declared.Model.{Model}
use Rattle.bz_model.specs.declared.Parts.{Parts}
use Rattle.bz_model.specs.declared.Row.{Row}
use Rattle.bz_model.specs.Points.{IsInfeasible, IsOptimal, IsUnbounded}
use Rattle.bz_model.specs.Strict.{size_of}
use Rattle.bz_cut.specs.declared.Cut.{Cut}
use Rattle.bz_tree.specs.declared.Leaf.{Leaf}
use Rattle.bz_tree.specs.Boxes.{Box, IsRootBox}
use Rattle.bz_model.specs.PartPoints.{HasShape, IsPointOf}
use Rattle.bz_cut.specs.Cuts.{IsValid}
use Rattle.bz_model.specs.Decomposed.{IsDecomposed}
use Rattle.bz_tree.specs.Leaves.{LeafHolds}
use Rattle.bz_tree.specs.declared.TreeNode.{TreeNode}
use Rattle.bz_tree.specs.Verdicts.{PassesInfeasible, PassesUnbounded, PassesOptimal}
use Rattle.bz_model.specs.Stated.{objective_of}
use Rattle.bz_tree.specs.Trees.{Tree, IsSplitOf, with_lower, with_upper}
use Rattle.bz_pass.proofs.Judging.{tree_optimal, tree_refutes}
use Rattle.bz_pass.proofs.Rays.{ray_unbounded}

pub some_narrow : (a : ℤ) → IsNarrow a → ForSome (Some a) IsNarrow
some_narrow a h x e = let g : a ≡ x = cc in subst (λ (t : ℤ). IsNarrow t) g h

pub none_narrow : ForSome None IsNarrow
none_narrow x e = absurd cc

-- ---- the models
abbrev fraction : (n : ℕ) → IsNarrow (pos n) → Frac
fraction n h = record { num = pos n; den = pos 1; positive = omega (arith, ints); narrow_num = h; narrow_den = omega arith }

abbrev binary : Column
binary = record { name = []; integer = true; lower = Some (fraction 0 (omega arith)); upper = Some (fraction 1 (omega arith)) }

abbrev continuous : Column
continuous = record { name = []; integer = false; lower = Some (fraction 0 (omega arith)); upper = None }

abbrev model : (columns : List Column) → length columns < 2 ^ 28 → Row → List (ℕ × ℤ) → Model
model columns few row cost = record {
  columns = columns;
  rows = row ∷ [];
  objective = [];
  cost = cost;
  constant = pos 0;
  scale = pos 1;
  maximise = false;
  constant_narrow = omega arith;
  scale_positive = omega (arith, ints);
  few_columns = few;
  few_rows = omega arith;
}

one_only : (P : ℕ → Type 0) → P 0 → (i : ℕ) → i < 1 → P i
one_only P h zero l = h
one_only P h (suc i) l = absurd (omega arith)

-- the box from 0 to 1
abbrev root : Box
root = record { lower = pos 0 ∷ []; upper = pos 1 ∷ [] }

-- ---- optimal
abbrev link : Row
link = record { name = []; terms = (0, pos 2) ∷ (1, pos 1) ∷ []; lower = Some (pos 1); upper = None; lower_narrow = some_narrow (pos 1) (omega arith); upper_narrow = none_narrow }

abbrev two : List (ℕ × ℤ) → Model
two cost = model (binary ∷ continuous ∷ []) (omega arith) link cost

abbrev costs : List (ℕ × ℤ)
costs = (0, pos 2) ∷ (1, pos 3) ∷ []

abbrev part : List ℕ
part = 0 ∷ 1 ∷ []

abbrev parts : Parts
parts = record {
  master = record {
    den = pos 1;
    x = pos 1 ∷ [];
    eta = pos 0 ∷ [];
    den_narrow = omega arith;
    x_narrow = (omega arith, tt);
    eta_narrow = (omega arith, tt);
  };
  blocks = record { times = pos 1; y = pos 0 ∷ []; times_narrow = omega arith; y_narrow = (omega arith, tt) } ∷ [];
}

-- -eta <= 0
abbrev cut_of_bound : Cut
cut_of_bound = record {
  block = 1;
  mu = (1, pos 3) ∷ [];
  gcd = pos 1;
  alpha = [];
  p0 = pos 1;
  beta = pos 0;
  gcd_narrow = omega arith;
  p0_narrow = omega arith;
  beta_narrow = omega arith;
}

-- -6 x - eta <= -3
abbrev cut_of_row : Cut
cut_of_row = record {
  block = 1;
  mu = (0, pos 3) ∷ [];
  gcd = pos 1;
  alpha = (0, negsuc 5) ∷ [];
  p0 = pos 1;
  beta = negsuc 2;
  gcd_narrow = omega arith;
  p0_narrow = omega arith;
  beta_narrow = omega arith;
}

abbrev cuts : List Cut
cuts = cut_of_bound ∷ cut_of_row ∷ []

abbrev leaf_below : Leaf
leaf_below = record { lambda = (0, pos 4) ∷ (3, pos 1) ∷ []; delta = pos 1; bound = pos 3; delta_narrow = omega arith; bound_narrow = omega arith }

abbrev leaf_above : Leaf
leaf_above = record { lambda = (1, pos 2) ∷ (2, pos 1) ∷ []; delta = pos 1; bound = pos 2; delta_narrow = omega arith; bound_narrow = omega arith }

abbrev tree : Tree
tree = Tree.fork 0 (pos 0) (pos 1) (Tree.tip leaf_below) (Tree.tip leaf_above)

abbrev nodes : List TreeNode
nodes = TreeNode.Split 0 (pos 0) (pos 1) ∷ TreeNode.Leaf leaf_below ∷ TreeNode.Leaf leaf_above ∷ []

shape : HasShape (two costs) part parts
shape = record {
  point = record {
    master = record { den = omega (arith, ints); x = refl };
    blocks = refl;
    each = ((omega (arith, ints), refl), tt);
  };
  eta = refl;
}

is_root : (cost : List (ℕ × ℤ)) → IsRootBox (two cost) root
is_root cost = record {
  lowers = refl;
  uppers = refl;
  rounded = ((record { at_least = omega (arith, ints); least = omega (arith, ints) }, record { at_most = omega (arith, ints); greatest = omega (arith, ints) }), tt);
}

cuts_valid : IsValid (two costs) part cut_of_bound × IsValid (two costs) part cut_of_row
cuts_valid = (
  record {
    block = (omega arith, omega arith);
    alpha = tt;
    mu = ((omega arith, omega (arith, ints)), tt);
    p0 = omega (arith, ints);
    gcd = omega (arith, ints);
    own = one_only _ refl;
    master = one_only _ refl;
    rhs = refl;
  },
  record {
    block = (omega arith, omega arith);
    alpha = (omega arith, tt);
    mu = ((omega arith, omega (arith, ints)), tt);
    p0 = omega (arith, ints);
    gcd = omega (arith, ints);
    own = one_only _ refl;
    master = one_only _ refl;
    rhs = refl;
  },
)

splits : IsSplitOf (two costs) part 0 0 (pos 0) (pos 1)
splits = record { column = (0, binary); is_column = refl; at_position = refl; next = refl }

below_holds : LeafHolds (two costs) part (with_upper 0 (pos 0) root) cuts leaf_below
below_holds = record {
  lambda = ((omega arith, omega (arith, ints)), ((omega arith, omega (arith, ints)), tt));
  delta = omega (arith, ints);
  master = one_only _ refl;
  etas = one_only _ refl;
  rhs = refl;
  empty = λ z. omega (arith, ints);
}

above_holds : LeafHolds (two costs) part (with_lower 0 (pos 1) root) cuts leaf_above
above_holds = record {
  lambda = ((omega arith, omega (arith, ints)), ((omega arith, omega (arith, ints)), tt));
  delta = omega (arith, ints);
  master = one_only _ refl;
  etas = one_only _ refl;
  rhs = refl;
  empty = λ z. omega (arith, ints);
}

pub second_passes : PassesOptimal (two costs) part parts (pos 2) cuts nodes
second_passes = record {
  shape = shape;
  master = tt;
  root = root;
  is_root = is_root costs;
  integers = (record { whole = (pos 1, refl); at_least = omega (arith, ints); at_most = omega (arith, ints) }, tt);
  blocks = (record { rows = (omega (arith, ints), (omega (arith, ints), tt)); cost = omega (arith, ints) }, tt);
  value = refl;
  cuts = (cuts_valid.0, (cuts_valid.1, tt));
  tree = tree;
  is_tree = refl;
  holds = (0, splits, below_holds, above_holds);
  bounds = ((λ l. omega (arith, ints)), (λ l. omega (arith, ints)));
}

small : (cost : List (ℕ × ℤ)) (b : ℕ) → b ≤ 1 → size_of (two cost) part b ≤ 1024
small cost zero l = omega arith
small cost (suc zero) l = omega arith
small cost (suc (suc b)) l = absurd (omega arith)

decomposed : (cost : List (ℕ × ℤ)) → AllBelow 2 cost → IsDecomposed (two cost) part
decomposed cost h = record {
  columns = record { rows = ((omega arith, (omega arith, tt)), tt); cost = h };
  partition = record { numbers = refl; used = λ b l u. (1, omega arith, omega arith); few = omega arith };
  strict = record {
    rows = ((inl refl, (inr refl, tt)), tt);
    columns = (record { integer = refl; bounded = λ e. (refl, refl) }, (record { integer = tt; bounded = λ e. absurd (omega arith) }, tt));
    small = small cost;
  };
}

point : (cost : List (ℕ × ℤ)) → IsPointOf (two cost) part parts (pos 1 ∷ pos 0 ∷ []) (pos 1)
point cost = record {
  positive = omega (arith, ints);
  numbers = refl;
  master = one_only _ refl;
  blocks = (one_only _ refl, tt);
}

-- the point is optimal, with the objective 2
pub second_is_optimal : IsOptimal (two costs) (pos 1 ∷ pos 0 ∷ []) (pos 1)
second_is_optimal = (tree_optimal (two costs) part parts (pos 2) cuts nodes (pos 1 ∷ pos 0 ∷ []) (pos 1) (decomposed costs (omega arith, (omega arith, tt))) second_passes (point costs)).0

pub second_states : objective_of (two costs) (pos 2) (pos 1) ≡ whole (pos 2)
second_states = refl

-- ---- unbounded
abbrev falling : List (ℕ × ℤ)
falling = (1, negsuc 0) ∷ []

pub ray_passes : PassesUnbounded (two falling) part parts (pos 0 ∷ pos 1 ∷ [])
ray_passes = record {
  shape = record { master = record { den = omega (arith, ints); x = refl }; blocks = refl; each = ((omega (arith, ints), refl), tt) };
  master = tt;
  root = root;
  is_root = is_root falling;
  integers = (record { whole = (pos 1, refl); at_least = omega (arith, ints); at_most = omega (arith, ints) }, tt);
  blocks = ((omega (arith, ints), (omega (arith, ints), tt)), tt);
  falls = record {
    numbers = refl;
    rows = (record { at_least = omega (arith, ints); at_most = tt }, tt);
    columns = (record { at_least = omega (arith, ints); at_most = omega (arith, ints); integer = refl }, (record { at_least = omega (arith, ints); at_most = tt; integer = tt }, tt));
    cost = omega (arith, ints);
  };
}

pub ray_is_unbounded : IsUnbounded (two falling)
ray_is_unbounded = ray_unbounded (two falling) part parts (pos 0 ∷ pos 1 ∷ []) (decomposed falling (omega arith, tt)) ray_passes

-- ---- infeasible
abbrev odd : Row
odd = record { name = []; terms = (0, pos 2) ∷ []; lower = Some (pos 1); upper = Some (pos 1); lower_narrow = some_narrow (pos 1) (omega arith); upper_narrow = some_narrow (pos 1) (omega arith) }

abbrev half : Model
half = model (binary ∷ []) (omega arith) odd []

abbrev alone : List ℕ
alone = 0 ∷ []

-- -2 x <= -1 with twice x <= 0, and 2 x <= 1 with twice -x <= -1
abbrev empty_below : Leaf
empty_below = record { lambda = (1, pos 1) ∷ (2, pos 2) ∷ []; delta = pos 0; bound = pos 1; delta_narrow = omega arith; bound_narrow = omega arith }

abbrev empty_above : Leaf
empty_above = record { lambda = (0, pos 1) ∷ (3, pos 2) ∷ []; delta = pos 0; bound = pos 1; delta_narrow = omega arith; bound_narrow = omega arith }

below_is_empty : LeafHolds half alone (with_upper 0 (pos 0) root) [] empty_below
below_is_empty = record {
  lambda = ((omega arith, omega (arith, ints)), ((omega arith, omega (arith, ints)), tt));
  delta = omega (arith, ints);
  master = one_only _ refl;
  etas = λ b l. absurd (omega arith);
  rhs = refl;
  empty = λ z. omega (arith, ints);
}

above_is_empty : LeafHolds half alone (with_lower 0 (pos 1) root) [] empty_above
above_is_empty = record {
  lambda = ((omega arith, omega (arith, ints)), ((omega arith, omega (arith, ints)), tt));
  delta = omega (arith, ints);
  master = one_only _ refl;
  etas = λ b l. absurd (omega arith);
  rhs = refl;
  empty = λ z. omega (arith, ints);
}

pub half_passes : PassesInfeasible half alone [] (TreeNode.Split 0 (pos 0) (pos 1) ∷ TreeNode.Leaf empty_below ∷ TreeNode.Leaf empty_above ∷ [])
half_passes = record {
  cuts = tt;
  root = root;
  is_root = record {
    lowers = refl;
    uppers = refl;
    rounded = ((record { at_least = omega (arith, ints); least = omega (arith, ints) }, record { at_most = omega (arith, ints); greatest = omega (arith, ints) }), tt);
  };
  tree = Tree.fork 0 (pos 0) (pos 1) (Tree.tip empty_below) (Tree.tip empty_above);
  is_tree = refl;
  holds = (0, record { column = (0, binary); is_column = refl; at_position = refl; next = refl }, below_is_empty, above_is_empty);
  empty = (refl, refl);
}

small_alone : (b : ℕ) → b ≤ 0 → size_of half alone b ≤ 1024
small_alone zero l = omega arith
small_alone (suc b) l = absurd (omega arith)

half_decomposed : IsDecomposed half alone
half_decomposed = record {
  columns = record { rows = ((omega arith, tt), tt); cost = tt };
  partition = record { numbers = refl; used = λ b l u. absurd (omega arith); few = omega arith };
  strict = record {
    rows = ((inl refl, tt), tt);
    columns = (record { integer = refl; bounded = λ e. (refl, refl) }, tt);
    small = small_alone;
  };
}

pub half_is_infeasible : IsInfeasible half
half_is_infeasible = tree_refutes half alone [] _ half_decomposed half_passes
