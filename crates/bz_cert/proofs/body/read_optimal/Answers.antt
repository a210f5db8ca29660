use Rattle.std.proofs.Common.{◌≡◌, ◌∷◌, ◌∙◌, [], rules, FitsSigned, to_z-of_z}
use Rattle.std.specs.Int.{w128}
use Rattle.bz_cert.specs.declared.records.Verdict.{Verdict}
use Rattle.bz_model.specs.declared.Master.{Master}
use Rattle.bz_cert.specs.declared.words.Word.{Word}
use Rattle.bz_cert.specs.CertReading.{ReadsLine, advance}
use Rattle.bz_cert.specs.CertText.{line_with}
use Rattle.bz_cert.specs.CertPhases.{start}
use Rattle.bz_cert.proofs.Phases.{fails_later, fails_now}
use Rattle.bz_cert.proofs.Refusals.{handed_on}
use Rattle.bz_cert.proofs.Bodies.{eta_fine, eta_read, first_of_point, master_fine, optimal_body, optimal_blocks, optimal_bound, optimal_eta, optimal_master, point_read, value_read}
use Rattle.bz_cert.proofs.body.read_optimal.Goals as goal

pub returns-in_err-den : goal.returns-in_err-den
returns-in_err-den c = handed_on _ _ _ _ _ c.from_residual.ensures.1 c.in_err-den.ensures (λ number kind h.
    fails_now Verdict.Optimal start _ _ number kind (h Verdict.Optimal start optimal_master (master_fine Verdict.Optimal start)))

pub returns-in_err-eta : goal.returns-in_err-eta
returns-in_err-eta c = handed_on _ _ _ _ _ c.from_residual-in_err-eta.ensures.1 c.in_err-eta.ensures (λ number kind h.
    fails_later Verdict.Optimal start _ _ _ _ _ number kind (point_read Verdict.Optimal _ _ _ _ _ _ optimal_master c.in_ok-den.ensures)
    (fails_now Verdict.Optimal _ _ _ number kind (h Verdict.Optimal _ (optimal_eta c.in_ok-den.field-0.den c.in_ok-den.field-0.x.items) (eta_fine Verdict.Optimal (advance start (first_of_point c.in_ok-den.field-0.den c.in_ok-den.field-0.x.items))))))

pub returns-in_err-blocks : goal.returns-in_err-blocks
returns-in_err-blocks c = handed_on _ _ _ _ _ c.from_residual-in_err-blocks.ensures.1 c.in_err-blocks.ensures (λ number kind h.
    fails_later Verdict.Optimal start _ _ _ _ _ number kind (eta_read _ _ _ _ _ _ _ _ _ c.in_ok-den.ensures c.in_ok-eta.ensures)
    (h Verdict.Optimal _ (optimal_blocks c.in_ok-den.field-0.den c.in_ok-den.field-0.x.items c.in_ok-eta.eta.items)))

pub returns-in_err-cuts : goal.returns-in_err-cuts
returns-in_err-cuts c = handed_on _ _ _ _ _ c.from_residual-in_err-cuts.ensures.1 c.in_err-cuts.ensures (λ number kind h.
    fails_later Verdict.Optimal start _ _ _ _ _ number kind
    (value_read _ _ _ _ _ _ _ _ _ _ _ _ _ c.in_ok-den.ensures c.in_ok-eta.ensures c.in_ok-blocks.ensures)
    (h Verdict.Optimal _ (optimal_bound c.in_ok-den.field-0.den c.in_ok-den.field-0.x.items c.in_ok-eta.eta.items c.in_ok-blocks.field-0.blocks.items c.in_ok-blocks.field-0.value)))

pub master_part-requires-clause-den : goal.master_part-requires-clause-den
master_part-requires-clause-den c = let f : FitsSigned w128 c.in_ok-den.field-0.den = search rules in rw (to_z-of_z f) c.in_ok-den.ensures.begins.narrow.0

pub master_part-requires-clause-x : goal.master_part-requires-clause-x
master_part-requires-clause-x c = c.in_ok-den.ensures.begins.narrow.1

pub master_part-requires-clause-eta : goal.master_part-requires-clause-eta
master_part-requires-clause-eta c = c.in_ok-eta.ensures.begins.narrow

pub returns : goal.returns
returns c =
    let f : FitsSigned w128 c.in_ok-den.field-0.den = search rules in
    let g : FitsSigned w128 c.in_ok-blocks.field-0.value = search rules in
    let m : Master = c.master_part.result in
    let den : m.den ≡ c.in_ok-den.field-0.den = rw (to_z-of_z f) at c.master_part.ensures.den in
    let point : ReadsLine c.args.at.lines c.args.at.rest.now (line_with Word.Master (m.den ∷ m.x)) c.in_ok-den.field-0.behind.lines c.in_ok-den.field-0.behind.rest.now =
    rw (den, c.master_part.ensures.x) c.in_ok-den.ensures in
    let eta : ReadsLine c.in_ok-den.field-0.behind.lines c.in_ok-den.field-0.behind.rest.now (line_with Word.Eta m.eta) c.in_ok-eta.behind.lines c.in_ok-eta.behind.rest.now =
    rw c.master_part.ensures.eta c.in_ok-eta.ensures in
    let ray : c.from_vec-2.result ≡ [] = c.from_vec-2.ensures ∙ c.new.ensures.items in
    rw (to_z-of_z g, c.from_vec.ensures, ray, c.from_vec-3.ensures, c.from_vec-4.ensures)
    (optimal_body m _ _ _ _ _ _ _ _ _ _ _ _ point eta c.in_ok-blocks.ensures c.in_ok-cuts.ensures)
