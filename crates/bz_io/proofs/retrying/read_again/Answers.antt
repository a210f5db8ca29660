use Rattle.std.proofs.Common.{rules, inl, ◌≡◌, ◌≢◌}
use Rattle.std.specs.IoError.{error_kind}
use Rattle.std.specs.declared.io.ErrorKind.TheVariants as kind
use Rattle.bz_io.proofs.Tries.{interrupts_more}
use Rattle.bz_io.proofs.retrying.read_again.Goals as goal

pub loop-tries-preserved : goal.loop-tries-preserved
loop-tries-preserved g c =
    let interrupted : error_kind c.in-Err.error ≡ kind.Interrupted = search rules in
    record {
      tried = interrupts_more (g.R.TryRead.may_read) c.loop-tries.tries (c.args.from.now, c.args.piece.now) (c.loop-tries.from, c.loop-tries.piece) (c.try_read.new.self, c.try_read.new.piece) c.in-Err.error
          c.loop-tries.invariant.tried c.in-Err.ensures interrupted;
    }

pub returns-in-Ok : goal.returns-in-Ok
returns-in-Ok g c = inl (record {
  tries = c.loop-tries.tries;
  then = (c.loop-tries.from, c.loop-tries.piece);
  interrupted = c.loop-tries.invariant.tried;
  answered = c.in-Ok.ensures;
  other = tt;
})

pub returns-then-not-is_interrupted : goal.returns-then-not-is_interrupted
returns-then-not-is_interrupted g c =
    let other : error_kind c.in-Err.error ≢ kind.Interrupted = search rules in
    inl (record {
      tries = c.loop-tries.tries;
      then = (c.loop-tries.from, c.loop-tries.piece);
      interrupted = c.loop-tries.invariant.tried;
      answered = c.in-Err.ensures;
      other = other;
    })
