-- Counts of faults. A device raises its count by one at each fault; a count that stands at the last value of a
-- `u64` stays there.
use Rattle.std.specs.Prelude.{◌≡◌, ℕ, ◌+◌, ◌-◌, ◌^◌, ◌<◌, ◌≤◌, nat_lt, if◌then◌else◌, Bool, true, false, Result, Ok, Err}
use Rattle.bz_io.specs.declared.faults.FaultCount.{FaultCount}

-- the last value of a count
abbrev pub last_count : ℕ
last_count = 2 ^ 64 - 1

-- the count after one more, which stays at the last value
abbrev pub counted_up : ℕ → ℕ
counted_up count = if nat_lt count last_count then count + 1 else count

-- a device before its first call
abbrev pub no_faults : FaultCount
no_faults = record { number = 0; last_failed = false }

-- the count after a call that was a fault or wasn't
abbrev pub faults_after : FaultCount → Bool → FaultCount
faults_after faults true = record { number = counted_up faults.number; last_failed = true }
faults_after faults false = record { number = faults.number; last_failed = false }

-- Of some calls the last was a fault and the others weren't: the count rose by exactly one, or stands at the last value.
pub record HasRisen (before after : FaultCount) : Type 0 where
  pub rise : before.number < last_count → after.number ≡ before.number + 1
  pub full : last_count ≤ before.number → after.number ≡ before.number
  pub last : after.last_failed ≡ true

-- one call, which was a fault or wasn't
abbrev pub Counts : Bool → FaultCount → FaultCount → Type 0
Counts true before after = HasRisen before after
Counts false before after = (after.number ≡ before.number) × (after.last_failed ≡ false)

-- some calls that end with the first fault: with one fault where they fail, else without
abbrev pub CountsFault : {T E : Type 0} → Result T E → FaultCount → FaultCount → Type 0
CountsFault (Ok _) before after = after.number ≡ before.number
CountsFault (Err _) before after = HasRisen before after
