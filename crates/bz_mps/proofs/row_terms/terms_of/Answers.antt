use Rattle.std.proofs.Common.{arith, take, subst, sym, ap, ◌∙◌, ◌≡◌, not}
use Rattle.std.specs.Prelude.{length}
use Rattle.std.proofs.Math.Seq.{take-length}
use Rattle.bz_num.specs.Row.{IsSparse}
use Rattle.bz_mps.specs.ScaledRows.{has_wide_term, terms_by}
use Rattle.bz_mps.proofs.TermLemmas.{scalable_at, sparse_terms, wide_at}
use Rattle.bz_mps.proofs.row_terms.terms_of.Goals as goal

pub push_term-requires : goal.push_term-requires
push_term-requires c = scalable_at c.args.digits c.args.entries.now c.loop-entry.entry-index _ c.requires.scalable c.loop-entry-test.true

pub returns-then-not-fits : goal.returns-then-not-fits
returns-then-not-fits c = wide_at c.args.digits c.args.entries.now c.loop-entry.entry-index _ c.loop-entry-test.true
    (sym c.in_ok-fits.ensures.fits ∙ ap not c.if-not-fits.true)

pub from_vec-requires : goal.from_vec-requires
from_vec-requires c =
    let end : c.loop-entry.entry-index ≡ length c.args.entries.now = omega arith in
    let all : take c.loop-entry.entry-index c.args.entries.now ≡ c.args.entries.now = ap (λ n. take n c.args.entries.now) end ∙ take-length c.args.entries.now in
    subst IsSparse (sym (c.loop-entry.invariant.terms ∙ ap (terms_by c.args.digits) all))
    (sparse_terms c.args.digits 0 c.args.entries.now c.requires.rising (sym (ap (λ es. has_wide_term (terms_by c.args.digits es)) all) ∙ c.loop-entry.invariant.narrow))
