use Rattle.std.proofs.Common.{[], ◌∷◌, pos, rules, FitsSigned, to_z-of_z}
use Rattle.std.specs.Int.{w128}
use Rattle.bz_cert.proofs.Written.{numbers_on, ok_also}
use Rattle.bz_cert.proofs.line_writers.write_cut_front.Goals as goal

pub returns-clause-text : goal.returns-clause-text
returns-clause-text c =
    let cut = c.args.cut.now in
    let p0_fits : FitsSigned w128 c.args.cut.now.p0 = search rules in
    let beta_fits : FitsSigned w128 c.args.cut.now.beta = search rules in
    let gcd_fits : FitsSigned w128 c.args.cut.now.gcd = search rules in
    ok_also c.write_number-2.result _ _
    (λ last. numbers_on _ _ _ (pos cut.block ∷ cut.p0 ∷ []) (cut.beta ∷ cut.gcd ∷ []) (rw (to_z-of_z p0_fits) at c.in_ok-write_pair.ensures.text)
    (numbers_on _ _ _ (cut.beta ∷ []) (cut.gcd ∷ []) (rw (to_z-of_z beta_fits) at c.in_ok-write_number.ensures) last))
    (rw (to_z-of_z gcd_fits) at c.write_number-2.ensures)
