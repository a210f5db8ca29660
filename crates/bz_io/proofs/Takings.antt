-- What a sink has taken after one put more.
use Rattle.std.proofs.Common.{◌≡◌, ℕ, ◌+◌, ◌-◌, ◌≤◌, List, ◌++◌, length, take, drop, Option, Some, None, sym, ◌∙◌, append_assoc, arith, append-nil}
use Rattle.std.proofs.lemmas.List.{take_rest, drop-take, take-take, take-append-drop}
use Rattle.bz_io.specs.Told.{WhereTold}
use Rattle.bz_io.specs.Sink.{Takes, TakesNothing, TakesPrefix}

-- before the first put nothing was taken
pub takes_none : (known : Option (List ℕ)) (bytes : List ℕ) → WhereTold (Takes (take 0 bytes)) known known
takes_none None bytes = tt
takes_none (Some taken) bytes = sym (append-nil taken)

-- a list's front, and more of it
take-add : (n m : ℕ) (xs : List ℕ) → take n xs ++ take m (drop n xs) ≡ take (n + m) xs
take-add n m xs =
    let fits : n ≤ n + m = omega arith in
    rw (← drop-take n m xs, ← take-take n (n + m) xs fits) (take-append-drop n (take (n + m) xs))

-- a piece is taken behind the first bytes
pub takes_more : (bytes : List ℕ) (sent count : ℕ) (first then now : Option (List ℕ)) → WhereTold (Takes (take sent bytes)) first then → WhereTold (Takes (take count (take (length bytes - sent) (drop sent bytes)))) then now → WhereTold (Takes (take (sent + count) bytes)) first now
takes_more bytes sent count None then now p q = tt
takes_more bytes sent count (Some first) (Some then) (Some now) p q =
    rw (q, p, take_rest, append_assoc, take-add)
takes_more bytes sent count (Some first) None now p q = absurd p
takes_more bytes sent count (Some first) (Some then) None p q = absurd q

-- a failed put leaves the first bytes taken
pub takes_prefix : (bytes : List ℕ) (sent : ℕ) (first then now : Option (List ℕ)) → sent ≤ length bytes → WhereTold (Takes (take sent bytes)) first then → WhereTold TakesNothing then now → WhereTold (TakesPrefix bytes) first now
takes_prefix bytes sent None then now fits p q = tt
takes_prefix bytes sent (Some first) (Some then) (Some now) fits p q = record { count = sent; within = fits; taken = q ∙ p }
takes_prefix bytes sent (Some first) None now fits p q = absurd p
takes_prefix bytes sent (Some first) (Some then) None fits p q = absurd q
