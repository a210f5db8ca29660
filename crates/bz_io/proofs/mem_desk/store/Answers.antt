use Rattle.std.proofs.Common.{ap, inr, sym, ℕ, Vec, Global, Result, Ok, Err, OnErr}
use Rattle.bz_io.proofs.Texts.{holds_nothing, holds_set, holds_push}
use Rattle.bz_io.proofs.mem_desk.store.Goals as goal

pub returns-in-Some-clause-ok : goal.returns-in-Some-clause-ok
returns-in-Some-clause-ok c =
    rw (← c.in_ok-text.ensures.ok)
    (holds_set c.args.files.now.items c.in-Some.at c.index_mut-file.result.now.0 c.in_ok-text.text c.args.name.now
    (rw (c.deref.ensures.value) at (sym c.in-Some.ensures))
    c.index_mut-file.result.now
    (ap (λ (file : Vec ℕ Global × Vec ℕ Global). file.0) c.index_mut-file.ensures.value))

pub returns-in_ok-push-in-None-clause-ok : goal.returns-in_ok-push-in-None-clause-ok
returns-in_ok-push-in-None-clause-ok c =
    rw (c.in_ok-push-in-None.ensures.items, ← c.in_ok-text.ensures.ok, ← c.in_ok-name-in-None.ensures.items)
    (holds_push c.args.files.now.items c.in_ok-name-in-None.name c.in_ok-text.text
    (rw (c.deref.ensures.value, ← c.in_ok-name-in-None.ensures.items) at (sym c.in-None.ensures)))

-- what holds anyway
on_err : {T E : Type 0} {P : Type 0} (answer : Result T E) → P → OnErr answer P
on_err (Ok _) p = tt
on_err (Err _) p = p

pub returns-in_err-name-in-None-clause-cause : goal.returns-in_err-name-in-None-clause-cause
returns-in_err-name-in-None-clause-cause c =
    on_err _ (inr (holds_nothing c.args.files.now.items c.args.name.now (rw (c.deref.ensures.value) at (sym c.in-None.ensures))))

pub returns-in_err-push-in-None-clause-cause : goal.returns-in_err-push-in-None-clause-cause
returns-in_err-push-in-None-clause-cause c =
    on_err _ (inr (holds_nothing c.args.files.now.items c.args.name.now (rw (c.deref.ensures.value) at (sym c.in-None.ensures))))
