-- A sink in memory: what it is at a moment, and what a put leaves of it.
use Rattle.std.specs.Prelude.{ℕ, ◌+◌, ◌==◌, min, Bool, true, false, List, [], ◌++◌, take, Result, Ok, Err}
use Rattle.std.specs.List.{list_any}
use Rattle.bz_io.specs.Faults.{faults_after, last_count, no_faults}
use Rattle.bz_io.specs.declared.faults.FaultCount.{FaultCount}

-- The bytes taken, how many more there is room for without new memory, the size of a piece, the numbers of the puts
-- that fail, the number of the next put and the count of faults.
pub record MemSinkState : Type 0 where
  pub taken : List ℕ
  pub room : ℕ
  pub piece : ℕ
  pub fails : List ℕ
  pub puts : ℕ
  pub faults : FaultCount

-- a sink that has taken nothing
abbrev pub new_sink : ℕ → List ℕ → MemSinkState
new_sink piece fails = record { taken = []; room = 0; piece = piece; fails = fails; puts = 0; faults = no_faults }

-- the next put is one of those that fail
abbrev pub next_put_fails : MemSinkState → Bool
next_put_fails sink = list_any (λ number. number == sink.puts) sink.fails

-- the sink after a put that left this room: one put more, and the first bytes of the piece taken or one fault more
abbrev pub after_put : {E : Type 0} → MemSinkState → List ℕ → ℕ → Result ℕ E → MemSinkState
after_put sink bytes room (Ok count) = record sink { taken = sink.taken ++ take count bytes; room = room; puts = min (sink.puts + 1) last_count; faults = faults_after sink.faults false }
after_put sink bytes room (Err _) = record sink { room = room; puts = min (sink.puts + 1) last_count; faults = faults_after sink.faults true }
