use Rattle.std.proofs.Common.{rules, ◌≡◌, ap, ◌<◌, [], ◌∷◌, ◌++◌, of_z}
use Rattle.std.specs.Int.{w128}
use Rattle.std.specs.Int.RustNames.{unsigned_abs}
use Rattle.bz_num.proofs.Pushed.{pushed}
use Rattle.bz_num.proofs.Quotients.{nonzero_size}
use Rattle.bz_num.proofs.row.SparseRow.push.Goals as goal

pub invariant_of-self : goal.invariant_of-self
invariant_of-self c =
    let some : 0 < unsigned_abs c.args.number = nonzero_size c.args.number (λ e. c.if-number-ne0.true (ap (of_z w128) e)) in
    let items : c.push.new.self.items ≡ c.self.inside.entries.items ++ (c.args.column, c.args.number) ∷ [] = search rules in
    rw items (pushed c.args.column c.args.number c.self.inside.entries.items c.self.invariant (search rules) some c.requires.narrow)
