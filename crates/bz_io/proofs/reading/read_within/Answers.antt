use Rattle.std.proofs.Common.{◌+◌, ◌-◌, ◌≡◌, ◌≤◌, length, arith, rules}
use Rattle.bz_io.proofs.Readings.{reads_too_long, reads_without_memory}
use Rattle.bz_io.proofs.reading.read_within.Goals as goal

pub returns-then-count-room-clause-all : goal.returns-then-count-room-clause-all
returns-then-count-room-clause-all g c =
    let fits : c.in-Ok.count ≤ length c.read.new.piece = c.in-Ok.ensures.within.0 in
    let held : c.len.result ≡ length c.chunks.bytes.items = search rules in
    let room : length c.read.new.piece ≤ (c.args.limit - c.len.result) + 1 = search (arith, rules) in
    reads_too_long _ _ _ _ _ _ _ _ c.chunks.invariant.read c.in-Ok.ensures.bytes.0 fits (omega (arith, held, c.if-count-room.true)) (omega (arith, held, room, fits, c.chunks.invariant.within)) c.in-Ok.ensures.failed

pub returns-then-is_err-clause-all : goal.returns-then-is_err-clause-all
returns-then-is_err-clause-all g c =
    let fits : c.in-Ok.count ≤ length c.read.new.piece = c.in-Ok.ensures.within.0 in
    let held : c.len.result ≡ length c.chunks.bytes.items = search rules in
    let room : length c.read.new.piece ≤ (c.args.limit - c.len.result) + 1 = search (arith, rules) in
    reads_without_memory _ _ _ _ _ _ _ _ c.chunks.invariant.read c.in-Ok.ensures.bytes.0 fits (omega (arith, c.if-count-eq0.false)) (omega (arith, held, room, fits, c.chunks.invariant.within)) c.in-Ok.ensures.failed
