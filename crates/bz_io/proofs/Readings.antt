-- What a reader has given after one read more.
use Rattle.std.proofs.Common.{◌≡◌, ℕ, ◌+◌, ◌<◌, ◌≤◌, Bool, false, List, ◌++◌, length, take, Option, Some, None, Err, ap, refl, ◌∙◌, append_assoc, arith, length-append}
use Rattle.std.proofs.lemmas.List.{length-take-le}
use Rattle.std.specs.Io.KnownBytes.{Consumes}
use Rattle.bz_io.specs.declared.desk.LoadError.TheVariants.{TooLong, OutOfMemory}
use Rattle.bz_io.specs.Told.{IfTold}
use Rattle.bz_io.specs.Reading.{ReadsAll}

-- a read behind others
consumes_more : (first then now : Option (List ℕ)) (bytes more : List ℕ) → Consumes first then bytes → Consumes then now more → Consumes first now (bytes ++ more)
consumes_more None then now bytes more p q = tt
consumes_more (Some first) None now bytes more p q = absurd p
consumes_more (Some first) (Some then) None bytes more p q = absurd q
consumes_more (Some first) (Some then) (Some now) bytes more p q = p ∙ ap (λ (rest : List ℕ). bytes ++ rest) q ∙ append_assoc' bytes more now
  where
    append_assoc' : (xs ys zs : List ℕ) → xs ++ (ys ++ zs) ≡ (xs ++ ys) ++ zs
    append_assoc' xs ys zs = simp append_assoc

-- what was there is as long as what was consumed
consumes_within : (first now : Option (List ℕ)) (bytes : List ℕ) (least : ℕ) → Consumes first now bytes → least < length bytes → IfTold first (λ left. least < length left)
consumes_within None now bytes least p lt = tt
consumes_within (Some first) None bytes least p lt = absurd p
consumes_within (Some first) (Some now) bytes least p lt = rw (p, length-append) (omega (arith, lt))

-- With one read of some bytes more, all the bytes are more than the limit, by one at most: there is too much.
pub reads_too_long : (first then now : Option (List ℕ)) (failed : Bool) (bytes piece : List ℕ) (count limit : ℕ) → Consumes first then bytes → Consumes then now (take count piece) → count ≤ length piece → limit < length bytes + count → length bytes + count ≤ limit + 1 → failed ≡ false
    → ReadsAll first now failed limit (Err TooLong)
reads_too_long first then now failed bytes piece count limit p q fits more most well =
    let all : Consumes first now (bytes ++ take count piece) = consumes_more first then now bytes (take count piece) p q in
    let long : length (bytes ++ take count piece) ≡ length bytes + count = rw (length-append, length-take-le count piece fits) refl in
    record {
      text = consumes_within first now (bytes ++ take count piece) limit all (omega (arith, long));
      cause = (λ e. absurd cc, λ t. absurd cc);
      most = (bytes ++ take count piece, all, omega (arith, long));
    }

-- or it isn't empty, and there is no memory
pub reads_without_memory : (first then now : Option (List ℕ)) (failed : Bool) (bytes piece : List ℕ) (count limit : ℕ) → Consumes first then bytes → Consumes then now (take count piece) → count ≤ length piece → 0 < count → length bytes + count ≤ limit + 1 → failed ≡ false
    → ReadsAll first now failed limit (Err OutOfMemory)
reads_without_memory first then now failed bytes piece count limit p q fits more most well =
    let all : Consumes first now (bytes ++ take count piece) = consumes_more first then now bytes (take count piece) p q in
    let long : length (bytes ++ take count piece) ≡ length bytes + count = rw (length-append, length-take-le count piece fits) refl in
    record {
      text = consumes_within first now (bytes ++ take count piece) 0 all (omega (arith, long));
      cause = (λ e. absurd cc, λ t. absurd cc);
      most = (bytes ++ take count piece, all, omega (arith, long));
    }
