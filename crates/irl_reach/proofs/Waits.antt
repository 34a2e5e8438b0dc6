-- Where nothing waits all is done.
use Rattle.std.proofs.Common.{◌≡◌, ◌∙◌, ℕ, ◌≤◌, Bool, true, false, cond, List, [], ◌∷◌, length, refl, sym, ap, arith, inl, inr}
use Rattle.std.specs.List.{Contains, filter}
use Rattle.irl_events.specs.Events.{Progress}
use Rattle.irl_fate.specs.Counting.{count_fate, is_fresh, is_last, is_queued}
use Rattle.irl_fate.specs.Fates.{fate_of}
use Rattle.irl_fate.specs.Kept.{is_done, is_front}
use Rattle.irl_fate.specs.declared.fate.Fate.{Fate}
use Rattle.irl_fate.specs.declared.fate.Fate.TheVariants.{Fresh, Queue, Last, Front, Done}
use Rattle.irl_offer.specs.declared.outcome.Outcome.{Outcome}
use Rattle.irl_reach.proofs.Members.{filter_passes, member_cases, no_member}

abbrev IsDone : Fate → Type 0
IsDone fate = (outcome : Outcome) × (fate ≡ Done outcome)

done_of : (fate : Fate) → is_done fate ≡ true → IsDone fate
done_of Fresh h = absurd (cc)
done_of (Queue i) h = absurd (cc)
done_of Last h = absurd (cc)
done_of Front h = absurd (cc)
done_of (Done outcome) h = (outcome, refl)

done_else : (fate : Fate) → is_fresh fate ≡ false → is_queued fate ≡ false → is_last fate ≡ false → is_front fate ≡ false → IsDone fate
done_else Fresh fresh queued last front = absurd (cc)
done_else (Queue i) fresh queued last front = absurd (cc)
done_else Last fresh queued last front = absurd (cc)
done_else Front fresh queued last front = absurd (cc)
done_else (Done outcome) fresh queued last front = (outcome, refl)

-- of a count of none, and of all
fails : (test : ℕ → Bool) (numbers : List ℕ) (n : ℕ) → length (filter test numbers) ≡ 0 → Contains numbers n → test n ≡ false
fails test numbers n none there = by (test n) refl
  where
    by : (b : Bool) → test n ≡ b → b ≡ false
    by true e =
        let among = (filter_passes test numbers n there e).1 in
        absurd (omega (arith, among, none))
    by false e = refl

fewer : (test : ℕ → Bool) (numbers : List ℕ) → length (filter test numbers) ≤ length numbers
fewer test [] = omega arith
fewer test (m ∷ numbers) = by (test m) (fewer test numbers)
  where
    by : (b : Bool) → length (filter test numbers) ≤ length numbers → length (cond b (m ∷ filter test numbers) (filter test numbers)) ≤ length (m ∷ numbers)
    by true less = omega (arith, less)
    by false less = omega (arith, less)

passes : (test : ℕ → Bool) (numbers : List ℕ) (n : ℕ) → length (filter test numbers) ≡ length numbers → Contains numbers n → test n ≡ true
passes test [] n all there = absurd (no_member n there)
passes test (m ∷ numbers) n all there = by (test m) refl all (passes test numbers n) (fewer test numbers)
  where
    by : (b : Bool) → test m ≡ b → length (cond b (m ∷ filter test numbers) (filter test numbers)) ≡ length (m ∷ numbers)
        → (length (filter test numbers) ≡ length numbers → Contains numbers n → test n ≡ true) → length (filter test numbers) ≤ length numbers → test n ≡ true
    by true e all later less = elim (member_cases m numbers n there) [
      | inl same ↦ sym (ap test same) ∙ e
      | inr rest ↦ later (omega (arith, all)) rest
    ]
    by false e all later less = absurd (omega (arith, all, less))

module _ (x : Progress) (numbers : List ℕ) (n : ℕ) where
  pub none_waits : count_fate is_fresh x numbers ≡ 0 → count_fate is_queued x numbers ≡ 0 → count_fate is_last x numbers ≡ 0 → count_fate is_front x numbers ≡ 0 → Contains numbers n
      → (outcome : Outcome) × (fate_of x n ≡ Done outcome)
  none_waits fresh queued last front there =
      let at : (Fate → Bool) → ℕ → Bool = λ test m. test (fate_of x m) in
      done_else (fate_of x n) (fails (at is_fresh) numbers n fresh there) (fails (at is_queued) numbers n queued there) (fails (at is_last) numbers n last there)
      (fails (at is_front) numbers n front there)

  pub all_done : count_fate is_done x numbers ≡ length numbers → Contains numbers n → (outcome : Outcome) × (fate_of x n ≡ Done outcome)
  all_done all there = done_of (fate_of x n) (passes (λ m. is_done (fate_of x m)) numbers n all there)
