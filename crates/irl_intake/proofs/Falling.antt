-- How many offers of a bay are unjudged in all.
use Rattle.std.proofs.Common.{◌≡◌, ⊎_elim, ℕ, zero, suc, ◌<◌, subst, arith}
use Rattle.std.proofs.Math.Nat.{eq-or-lt_of_le}
use Rattle.irl_bay.specs.Drum.{Drum, IsDrum, pending_at}
use Rattle.irl_schedule.specs.Schedule.{IsDue}
use Rattle.irl_intake.specs.Advancing.{pending_below, pending_in}

none_below : (drum : Drum) → ((b : ℕ) → pending_at drum b ≡ 0) → (n : ℕ) → pending_below drum n ≡ 0
none_below drum none zero = omega arith
none_below drum none (suc n) = omega (arith, none_below drum none n, none n)

some_below : (drum : Drum) (b n : ℕ) → b < n → 0 < pending_at drum b → 0 < pending_below drum n
some_below drum b zero within some = absurd (omega (arith, within))
some_below drum b (suc n) within some = ⊎_elim
    (λ (same : b ≡ n). let here : 0 < pending_at drum n = subst (λ (k : ℕ). 0 < pending_at drum k) same some in omega (arith, here))
    (λ (less : b < n). omega (arith, some_below drum b n less some))
    (eq-or-lt_of_le {n = b} {m = n} (omega (arith, within)))

-- a merge that was due leaves fewer
pub falls : (old new : Drum) → IsDrum old → IsDue old → ((b : ℕ) → pending_at new b ≡ 0) → pending_in new < pending_in old
falls old new law due judged =
    let some : 0 < pending_below old old.settings.buckets = some_below old due.0 old.settings.buckets due.1 (omega (arith, due.2, law.settings.sizes.trigger)) in
    omega (arith, some, none_below new judged new.settings.buckets)
