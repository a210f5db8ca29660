use Rattle.std.proofs.Common.{◌≡◌, ◌∙◌, ◌+◌, ℤ, List, rules, ap, subst, sym, IsTrue}
use Rattle.bz_cert.specs.declared.faults.CertKind.{CertKind}
use Rattle.bz_cert.specs.declared.words.Word.{Word}
use Rattle.bz_cert.specs.CertFaults.{BreaksTree}
use Rattle.bz_cert.specs.CertReading.{BeginsWithCertLine, NumbersFail, tree_words}
use Rattle.bz_cert.specs.CertText.{line_with, node_line}
use Rattle.bz_cert.proofs.Refusals.{faulted, handed_on}
use Rattle.bz_cert.proofs.Failing.{breaks_tree, failing_is, lacks_feed, line_of_numbers, no_numbers, node_few, node_fine, node_line_numbers, node_word, numbers_fail, passes}
use Rattle.bz_cert.proofs.line_readers.read_node.Goals as goal

pub returns-in_err-word : goal.returns-in_err-word
returns-in_err-word c = handed_on _ _ _ _ _ c.from_residual.ensures.1 c.in_err-word.ensures (λ number kind h verdict before awaits end partial nodes. h verdict before awaits)

pub returns-then-is : goal.returns-then-is
returns-then-is c =
    let same : c.in_ok-word.field-0.word ≡ Word.End = c.is.ensures.0 (search rules) in
    faulted _ _ _ _ c.fault.ensures (λ verdict before awaits end partial nodes.
    breaks_tree verdict before tree_words _ _ c.in_ok-word.field-0.word _ _ awaits c.in_ok-word.ensures.1 c.in_ok-word.ensures.0
    (subst (BreaksTree verdict before) (sym same) end))

pub returns-in_err-numbers : goal.returns-in_err-numbers
returns-in_err-numbers c =
    let other : c.in_ok-word.field-0.word ≡ Word.End → ⊥ = λ e. let t : IsTrue c.is.result = c.is.ensures.1 e in absurd (cc (t, c.if-is.false)) in
    handed_on _ _ _ _ _ c.from_residual-in_err-numbers.ensures.1 c.in_err-numbers.ensures (λ number kind h verdict before awaits end partial nodes.
    failing_is verdict before _ _ number _ kind CertKind.Number h.0 h.1
    (no_numbers verdict before tree_words _ _ c.in_ok-word.field-0.word _ _ awaits c.in_ok-word.ensures.1 c.in_ok-word.ensures.0
    (node_fine verdict before _ (node_word _ c.in_ok-word.ensures.1 other) partial) h.2))

pub returns-in_err-node : goal.returns-in_err-node
returns-in_err-node c =
    let other : c.in_ok-word.field-0.word ≡ Word.End → ⊥ = λ e. let t : IsTrue c.is.result = c.is.ensures.1 e in absurd (cc (t, c.if-is.false)) in
    let begins : BeginsWithCertLine c.args.at.rest.now (line_with c.in_ok-word.field-0.word c.in_ok-numbers.numbers.items) c.in_ok-word.field-0.from_feed.now =
    line_of_numbers _ _ _ _ _ c.in_ok-word.ensures.0 c.in_ok-numbers.ensures in
    handed_on _ _ _ _ _ c.from_residual-in_err-node.ensures.1 c.in_err-node.ensures (λ number kind h verdict before awaits end partial nodes.
    numbers_fail verdict before tree_words _ _ c.in_ok-word.field-0.word _ _ number kind awaits c.in_ok-word.ensures.1 begins
    (node_fine verdict before _ (node_word _ c.in_ok-word.ensures.1 other) partial)
    (subst (λ (ns : List ℤ). NumbersFail (c.args.at.lines + 1) before c.in_ok-word.field-0.word ns number kind) c.as_slice.ensures.value (h before nodes)))

pub returns-in_err-behind : goal.returns-in_err-behind
returns-in_err-behind c =
    let other : c.in_ok-word.field-0.word ≡ Word.End → ⊥ = λ e. let t : IsTrue c.is.result = c.is.ensures.1 e in absurd (cc (t, c.if-is.false)) in
    let begins : BeginsWithCertLine c.args.at.rest.now (line_with c.in_ok-word.field-0.word c.in_ok-numbers.numbers.items) c.in_ok-word.field-0.from_feed.now =
    line_of_numbers _ _ _ _ _ c.in_ok-word.ensures.0 c.in_ok-numbers.ensures in
    let e : node_line c.in_ok-node.node ≡ line_with c.in_ok-word.field-0.word c.in_ok-numbers.numbers.items =
    c.in_ok-node.ensures.0 ∙ ap (line_with c.in_ok-word.field-0.word) c.as_slice.ensures.value in
    handed_on _ _ _ _ _ c.from_residual-in_err-behind.ensures.1 c.in_err-behind.ensures (λ number kind h verdict before awaits end partial nodes.
    failing_is verdict before _ _ number _ kind CertKind.End h.0 h.1
    (lacks_feed verdict before _ _ (line_with c.in_ok-word.field-0.word c.in_ok-numbers.numbers.items) _ begins
    (passes verdict before tree_words _ c.in_ok-word.field-0.word _ _ awaits c.in_ok-word.ensures.1 begins
    (node_fine verdict before _ (node_word _ c.in_ok-word.ensures.1 other) partial)
    (node_few before _ _ c.args.nodes (node_word _ c.in_ok-word.ensures.1 other) nodes c.in_ok-node.ensures.2)
    (node_line_numbers before _ _ e c.in_ok-node.ensures.1).0 (node_line_numbers before _ _ e c.in_ok-node.ensures.1).1) h.2))
