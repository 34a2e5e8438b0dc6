-- Steps of the schedule, none of which hands an offer in.
use Rattle.std.specs.Prelude.{◌≡◌, ℕ, ◌+◌, ◌<◌, ◌≤◌, List, [], length, Result, IsErrOf}
use Rattle.std.specs.Option.{ForSome}
use Rattle.irl_base.specs.Faults.{HasCause}
use Rattle.irl_base.specs.declared.fault.Fault.{Fault}
use Rattle.irl_base.specs.declared.fault.Fault.TheVariants.{Damaged, Failed, Full}
use Rattle.irl_offer.specs.Tuple.{Tuple}
use Rattle.irl_model.specs.Book.{Book}
use Rattle.irl_bay.specs.Drum.{durable_at}
use Rattle.irl_bay.specs.Holding.{Holds}
use Rattle.irl_bay.specs.Spoilt.{IsSpoiltAt}
use Rattle.irl_schedule.specs.Feeding.{Moment, Stays, Feeds, Stranded, HeldNone}

-- The store has failed since: of each book that the bay held, where its store tells. Several merges may have run.
abbrev pub Breaks : (ℕ → ℕ) → List Tuple → Moment → Moment → Type 0
Breaks uneven news old new = ForSome old.store.files (λ _. (x : Book) → Holds old.store.images old.drum x
    → Stranded 0 uneven news old new x)

-- how many offers of a bucket were handed in: it has them, or they wait
abbrev pub handed_at : Moment → ℕ → ℕ
handed_at now b = durable_at now.drum b + length (now.waits b)

-- Why a fault is answered at a moment, by which the bay went on from an earlier one: each is answered only where it is
-- so.
pub record HasGround (answered : Fault → Type 0) (old new : Moment) : Type 0 where
  -- what waits of this bucket, a whole array at most, doesn't fit
  pub full : (n : ℕ) → answered (Full n) → (n < new.drum.settings.buckets) × (1 ≤ length (new.waits n))
      × (length (new.waits n) ≤ new.drum.settings.array) × (new.drum.settings.cap < handed_at new n)
  -- damage is named only where it is, and never where the bay held a book
  pub damaged : (f at : ℕ) → answered (Damaged f at)
      → ForSome new.store.files (λ files. IsSpoiltAt new.drum files f at)
  pub whole : (f at : ℕ) → answered (Damaged f at) → HeldNone old
  pub cause : HasCause (answered Failed) old.store.faults new.store.faults

-- Some steps, each of which but the last was done.
pub record Steps {A : Type 0} (result : Result A Fault) (uneven : ℕ → ℕ) (old new : Moment) : Type 0 where
  pub stays : Stays old new
  pub fed : (IsErrOf result Failed → ⊥) → Feeds 0 uneven [] old new
  pub stranded : IsErrOf result Failed → Breaks uneven [] old new
  -- whatever is answered, none is lost and none comes
  pub counts : (b : ℕ) → handed_at new b ≡ handed_at old b
  pub ground : HasGround (IsErrOf result) old new
