-- How a text fails in its two first lines.
use Rattle.std.proofs.Common.{◌≡◌, ◌∷◌, ◌++◌, ◌∙◌, [], ℕ, List, inl, inr, ap, sym, refl, append-nil, append_assoc}
use Rattle.bz_cert.specs.declared.faults.CertKind.{CertKind}
use Rattle.bz_cert.specs.declared.records.Verdict.{Verdict}
use Rattle.bz_cert.specs.CertText.{first_line, head_bytes, verdict_line}
use Rattle.bz_cert.specs.CertFaults.{BeginsWith, IsCertFault}

-- where no line feed stands, nothing is left
pub nothing_left : (from_feed : List ℕ) → BeginsWith 10 from_feed → ((behind : List ℕ) → from_feed ≡ 10 ∷ behind → ⊥) → from_feed ≡ []
nothing_left [] h none = refl
nothing_left (b ∷ bs) h none = absurd (none bs (ap (λ x. x ∷ bs) h))

-- a line and what is left from its end on
line_joined : (rest line from_feed known left : List ℕ) → rest ≡ line ++ from_feed → line ≡ known → from_feed ≡ left → rest ≡ known ++ left
line_joined rest line from_feed known left joined is feed = joined ∙ ap (λ l. l ++ from_feed) is ∙ ap (λ f. known ++ f) feed

pub first_open : (text line from_feed : List ℕ) → text ≡ line ++ from_feed → line ≡ first_line → from_feed ≡ [] → IsCertFault text 1 CertKind.End
first_open text line from_feed joined is none =
    IsCertFault.ends (inr (inl (line_joined text line from_feed first_line [] joined is none ∙ append-nil first_line, refl))) refl

pub first_alone : (text line from_feed rest : List ℕ) → text ≡ line ++ from_feed → line ≡ first_line → from_feed ≡ 10 ∷ rest → rest ≡ [] →
    IsCertFault text 1 CertKind.End
first_alone text line from_feed rest joined is feed none =
    IsCertFault.ends (inr (inr (inl (line_joined text line from_feed first_line (10 ∷ []) joined is (feed ∙ ap (λ r. 10 ∷ r) none), refl)))) refl

pub first_joined : (text line from_feed rest : List ℕ) → text ≡ line ++ from_feed → line ≡ first_line → from_feed ≡ 10 ∷ rest → text ≡ first_line ++ 10 ∷ rest
first_joined text line from_feed rest joined is feed = line_joined text line from_feed first_line (10 ∷ rest) joined is feed

pub second_open : (text rest line from_feed : List ℕ) (verdict : Verdict) → text ≡ first_line ++ 10 ∷ rest → rest ≡ line ++ from_feed → line ≡ verdict_line verdict →
    from_feed ≡ [] → IsCertFault text 2 CertKind.End
second_open text rest line from_feed verdict front joined is none =
    IsCertFault.ends (inr (inr (inr (
      verdict,
      front ∙ ap (λ r. first_line ++ 10 ∷ r)
          (line_joined rest line from_feed (verdict_line verdict) [] joined is none ∙ append-nil (verdict_line verdict)),
      refl,
    )))) refl

pub second_joined : (text rest line from_feed behind : List ℕ) (verdict : Verdict) → text ≡ first_line ++ 10 ∷ rest → rest ≡ line ++ from_feed →
    line ≡ verdict_line verdict → from_feed ≡ 10 ∷ behind → text ≡ head_bytes verdict ++ behind
second_joined text rest line from_feed behind verdict front joined is feed =
    front ∙ ap (λ r. first_line ++ 10 ∷ r) (line_joined rest line from_feed (verdict_line verdict) (10 ∷ behind) joined is feed) ∙ grouped
  where
    grouped : first_line ++ 10 ∷ (verdict_line verdict ++ 10 ∷ behind) ≡ head_bytes verdict ++ behind
    grouped = ap (λ r. first_line ++ 10 ∷ r) (sym (append_assoc (verdict_line verdict) (10 ∷ []) behind))
