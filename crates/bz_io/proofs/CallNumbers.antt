-- The numbers of calls, one call after another.
use Rattle.std.proofs.Common.{◌≡◌, ℕ, ◌+◌, ◌≤◌, ap, arith}
use Rattle.std.specs.Prelude.{◌==◌}
use Rattle.std.specs.List.{list_any}
use Rattle.bz_io.specs.Faults.{last_count}
use Rattle.bz_io.specs.MemDesk.{MemDeskState, call_fails, call_number}

-- the next call has the count's number
pub number_now : (calls : ℕ) → calls ≤ last_count → calls ≡ call_number (calls + 0)
number_now calls le = omega arith

-- the call after so many more, counted before a call and after it
number_later : (calls n : ℕ) → call_number (call_number (calls + 1) + n) ≡ call_number (calls + (1 + n))
number_later calls n = omega arith

-- after one call the coming ones are those of before without the first
pub fails_later : (before after : MemDeskState) → after.fails ≡ before.fails → after.calls ≡ call_number (before.calls + 1) → (n : ℕ) → call_fails after n ≡ call_fails before (1 + n)
fails_later before after fails calls n =
    rw (fails, calls) (ap (λ (k : ℕ). list_any (λ number. number == k) before.fails) (number_later before.calls n))
