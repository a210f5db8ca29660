-- What a sink has taken after several calls of `put_all`.
use Rattle.std.proofs.Common.{◌≡◌, ℕ, ◌+◌, List, ◌++◌, length, Option, Some, None, Result, append_assoc, arith, length-append}
use Rattle.std.proofs.lemmas.List.{take-append-le}
use Rattle.std.proofs.Math.Seq.{take-append-add}
use Rattle.bz_io.specs.declared.faults.FaultCount.{FaultCount}
use Rattle.bz_io.specs.Told.{WhereTold}
use Rattle.bz_io.specs.Sink.{Takes, TakesPrefix}
use Rattle.bz_text.specs.Putting.{Puts}

-- the first pieces were taken, and then a prefix of the next
pub prefix_behind : (xs ys : List ℕ) (first then now : Option (List ℕ)) → WhereTold (Takes xs) first then → WhereTold (TakesPrefix ys) then now → WhereTold (TakesPrefix (xs ++ ys)) first now
prefix_behind xs ys None then now p q = tt
prefix_behind xs ys (Some first) (Some then) (Some now) p q = record {
  count = length xs + q.count;
  within = rw (length-append xs ys) (omega (arith, q.within));
  taken = rw (take-append-add xs ys q.count, q.taken, p, append_assoc);
}
prefix_behind xs ys (Some first) None now p q = absurd p
prefix_behind xs ys (Some first) (Some then) None p q = absurd q

-- a prefix of the first pieces was taken
pub prefix_before : (xs ys : List ℕ) (first now : Option (List ℕ)) → WhereTold (TakesPrefix xs) first now → WhereTold (TakesPrefix (xs ++ ys)) first now
prefix_before xs ys None now p = tt
prefix_before xs ys (Some first) (Some now) p = record {
  count = p.count;
  within = rw (length-append xs ys) (omega (arith, p.within));
  taken = rw (take-append-le p.count xs ys p.within) p.taken;
}
prefix_before xs ys (Some first) None p = absurd p

-- one piece was taken behind another
pub takes_behind : (xs ys : List ℕ) (first then now : Option (List ℕ)) → WhereTold (Takes xs) first then → WhereTold (Takes ys) then now → WhereTold (Takes (xs ++ ys)) first now
takes_behind xs ys None then now p q = tt
takes_behind xs ys (Some first) (Some then) (Some now) p q = rw (q, p, append_assoc)
takes_behind xs ys (Some first) None now p q = absurd p
takes_behind xs ys (Some first) (Some then) None p q = absurd q

-- a put of the text is a put of what it reads as
pub puts_as : {S T E : Type 0} {taken : S → Option (List ℕ)} {faults : S → FaultCount} {first last : S} {text other : List ℕ} {r : Result T E} → text ≡ other → Puts taken faults first last text r → Puts taken faults first last other r
puts_as e p = record { ok = rw (← e) p.ok; failed = rw (← e) p.failed; count = p.count }
