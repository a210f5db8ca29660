use Rattle.std.proofs.Common.{◌≡◌, ◌∷◌, ◌∙◌, [], rules, refl, inl, FitsSigned, to_z-of_z}
use Rattle.std.specs.Int.{w128}
use Rattle.bz_cert.specs.declared.records.Verdict.{Verdict}
use Rattle.bz_model.specs.declared.Master.{Master}
use Rattle.bz_cert.specs.declared.words.Word.{Word}
use Rattle.bz_cert.specs.CertReading.{ReadsLine, advance_all}
use Rattle.bz_cert.specs.CertText.{line_with}
use Rattle.bz_cert.specs.CertPhases.{start}
use Rattle.bz_cert.proofs.Phases.{fails_later, fails_now}
use Rattle.bz_cert.proofs.Refusals.{handed_on}
use Rattle.bz_cert.proofs.Bodies.{end_of_ray, master_fine, no_other, point_read, ray_ends, ray_read, unbounded_blocks, unbounded_body, unbounded_end, unbounded_lines, unbounded_master}
use Rattle.bz_cert.proofs.body.read_unbounded.Goals as goal

pub returns-in_err-den : goal.returns-in_err-den
returns-in_err-den c = handed_on _ _ _ _ _ c.from_residual.ensures.1 c.in_err-den.ensures (λ number kind h.
    fails_now Verdict.Unbounded start _ _ number kind (h Verdict.Unbounded start unbounded_master (master_fine Verdict.Unbounded start)))

pub returns-in_err-blocks : goal.returns-in_err-blocks
returns-in_err-blocks c = handed_on _ _ _ _ _ c.from_residual-in_err-blocks.ensures.1 c.in_err-blocks.ensures (λ number kind h.
    fails_later Verdict.Unbounded start _ _ _ _ _ number kind (point_read Verdict.Unbounded _ _ _ _ _ _ unbounded_master c.in_ok-den.ensures)
    (h Verdict.Unbounded _ (unbounded_blocks c.in_ok-den.field-0.den c.in_ok-den.field-0.x.items)))

pub returns-in_err-end : goal.returns-in_err-end
returns-in_err-end c = handed_on _ _ _ _ _ c.from_residual-in_err-end.ensures.1 c.in_err-end.ensures (λ number kind h.
    fails_later Verdict.Unbounded start _ _ _ _ _ number kind (ray_read _ _ _ _ _ _ _ _ _ _ c.in_ok-den.ensures c.in_ok-blocks.ensures)
    (fails_now Verdict.Unbounded _ _ _ number kind
    (h Verdict.Unbounded _ (unbounded_end c.in_ok-den.field-0.den c.in_ok-den.field-0.x.items c.in_ok-blocks.field-0.blocks.items c.in_ok-blocks.field-0.ray.items) (inl refl) (λ t. t) (no_other (advance_all start (unbounded_lines c.in_ok-den.field-0.den c.in_ok-den.field-0.x.items c.in_ok-blocks.field-0.blocks.items c.in_ok-blocks.field-0.ray.items))))))

pub returns-in_err-finish : goal.returns-in_err-finish
returns-in_err-finish c = handed_on _ _ _ _ _ c.from_residual-in_err-finish.ensures.1 c.in_err-finish.ensures (λ number kind h.
    fails_later Verdict.Unbounded start _ _ _ _ _ number kind
    (end_of_ray _ _ _ _ _ _ _ _ _ _ _ _ c.in_ok-den.ensures c.in_ok-blocks.ensures c.in_ok-end.ensures)
    (fails_now Verdict.Unbounded _ _ _ number kind
    (h Verdict.Unbounded _ (ray_ends c.in_ok-den.field-0.den c.in_ok-den.field-0.x.items c.in_ok-blocks.field-0.blocks.items c.in_ok-blocks.field-0.ray.items))))

pub master_part-requires-clause-den : goal.master_part-requires-clause-den
master_part-requires-clause-den c = let f : FitsSigned w128 c.in_ok-den.field-0.den = search rules in rw (to_z-of_z f) c.in_ok-den.ensures.begins.narrow.0

pub master_part-requires-clause-x : goal.master_part-requires-clause-x
master_part-requires-clause-x c = c.in_ok-den.ensures.begins.narrow.1

pub master_part-requires-clause-eta : goal.master_part-requires-clause-eta
master_part-requires-clause-eta c = rw c.new.ensures.items tt

pub returns : goal.returns
returns c =
    let f : FitsSigned w128 c.in_ok-den.field-0.den = search rules in
    let m : Master = c.master_part.result in
    let den : m.den ≡ c.in_ok-den.field-0.den = rw (to_z-of_z f) at c.master_part.ensures.den in
    let point : ReadsLine c.args.at.lines c.args.at.rest.now (line_with Word.Master (m.den ∷ m.x)) c.in_ok-den.field-0.behind.lines c.in_ok-den.field-0.behind.rest.now =
    rw (den, c.master_part.ensures.x) c.in_ok-den.ensures in
    let cuts : c.from_vec-3.result ≡ [] = c.from_vec-3.ensures ∙ c.new-2.ensures.items in
    let tree : c.from_vec-4.result ≡ [] = c.from_vec-4.ensures ∙ c.new-3.ensures.items in
    rw (c.from_vec.ensures, c.from_vec-2.ensures, cuts, tree)
    (unbounded_body m _ _ _ _ _ _ _ _ _ _ point c.in_ok-blocks.ensures c.in_ok-end.ensures c.in_ok-finish.ensures (c.master_part.ensures.eta ∙ c.new.ensures.items))
