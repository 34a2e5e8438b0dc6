-- What is done before an offer of a bucket is taken in, and at the end of an input.
use Rattle.std.specs.Prelude.{◌≡◌, ◌≢◌, ◌↔◌, ℕ, zero, suc, ◌+◌, ◌<◌, ◌≤◌, [], length, Option, None, Some, IfSome, Result, Ok, Err, IfOk, OnOk, OnErr, IsErrOf}
use Rattle.irl_base.specs.declared.fault.Fault.{Fault}
use Rattle.irl_base.specs.declared.fault.Fault.TheVariants.{Full}
use Rattle.irl_model.specs.Book.{Book}
use Rattle.irl_disk.specs.declared.store.Store.{Ghosts}
use Rattle.irl_bay.specs.Drum.{Drum, pending_at}
use Rattle.irl_bay.specs.Holding.{Holds}
use Rattle.irl_schedule.specs.Feeding.{Moment, moment, Stays, Feeds}
use Rattle.irl_schedule.specs.Schedule.{IsDue, none_more, one_more}
use Rattle.irl_schedule.specs.Scheduling.{Schedules}
use Rattle.irl_schedule.specs.Arrays.{waiting_at}
use Rattle.irl_intake.specs.declared.intake.Intake.{Intake}
use Rattle.irl_intake.specs.declared.next.Next.{Next}
use Rattle.irl_intake.specs.declared.next.Next.TheVariants.{Merged, Ready}

-- an intake at one moment: its bay of URLs, and the offers that wait in its arrays
abbrev pub moment_of : {S : Type 0} {tells : Ghosts S} → Intake S tells → Moment
moment_of {S} {tells} intake = moment (tells.told intake.yard.store) intake.yard.parts.urls
    (waiting_at intake.arrays.items)

-- the store was only read: the bay and its book stay
pub record IsStill (old new : Moment) : Type 0 where
  pub kept : new.drum ≡ old.drum
  pub holds : (book : Book) → Holds old.store.images old.drum book → Holds new.store.images new.drum book
  pub fed : Feeds 0 none_more [] old new
  pub stays : Stays old new

-- how many offers are unjudged in all
abbrev pub pending_below : Drum → ℕ → ℕ
pending_below drum zero = 0
pending_below drum (suc b) = pending_below drum b + pending_at drum b

abbrev pub pending_in : Drum → ℕ
pending_in drum = pending_below drum drum.settings.buckets

-- How many cuts may be early, and how many records of a bucket's live journal uneven: none before an offer of a bucket,
-- and one at the end of an input, but where a merge alone ran.
abbrev pub early_at : Option ℕ → Result Next Fault → ℕ
early_at (Some b) result = 0
early_at None (Ok Merged) = 0
early_at None (Ok Ready) = 1
early_at None (Err fault) = 1

abbrev pub uneven_at : Option ℕ → Result Next Fault → ℕ → ℕ
uneven_at (Some b) result = none_more
uneven_at None (Ok Merged) = none_more
uneven_at None (Ok Ready) = one_more
uneven_at None (Err fault) = one_more

-- there is room for an offer of the bucket; at the end nothing waits, and nothing is unjudged
abbrev pub IsReady : Option ℕ → Moment → Type 0
IsReady (Some b) now = length (now.waits b) < now.drum.settings.array
IsReady None now = ((b : ℕ) → now.waits b ≡ []) × ((b : ℕ) → b < now.drum.settings.buckets → pending_at now.drum b ≡ 0)

-- a flush comes next: of the bucket's array, which is full; at the end of one in which an offer waits
abbrev pub IsWaiting : Option ℕ → Moment → Type 0
IsWaiting (Some b) now = now.drum.settings.array ≤ length (now.waits b)
IsWaiting None now = (b : ℕ) × (b < now.drum.settings.buckets) × (1 ≤ length (now.waits b))

-- The arrays before this one are flushed, and from it on all waits as it did.
pub record StopsAt (n : ℕ) (old new : Moment) : Type 0 where
  pub within : n ≤ old.drum.settings.buckets
  pub before : (c : ℕ) → c < n → new.waits c ≡ []
  pub behind : (c : ℕ) → n ≤ c → new.waits c ≡ old.waits c

-- The merge that is due, and nothing else: no cut is early and no record uneven, nothing is flushed, and so no bucket
-- is full.
pub record MergesAlone (result : Result Next Fault) (old new : Moment) : Type 0 where
  pub schedules : Schedules result 0 none_more [] old new
  pub waits : (c : ℕ) → new.waits c ≡ old.waits c
  pub full : (n : ℕ) → IsErrOf result (Full n) → ⊥
  pub settled : OnOk result (IsDue new.drum → ⊥)

-- A step before an offer of this bucket, or at the end of an input, by its answer.
pub record Advances (result : Result Next Fault) (bucket : Option ℕ) (old new : Moment) : Type 0 where
  pub ready : IfOk result (λ next. next ≡ Ready → IsReady bucket new)
  -- where a merge is due and a flush comes next, it runs alone
  pub merged : IfOk result (λ next. (next ≡ Merged) ↔ (IsDue old.drum × IsWaiting bucket old))
  pub alone : IsDue old.drum → IsWaiting bucket old → MergesAlone result old new
  -- fewer offers are unjudged in all then, and all waits as it did
  pub falls : IfOk result (λ next. next ≡ Merged → pending_in new.drum < pending_in old.drum)
  pub waiting : IfOk result (λ next. next ≡ Merged → (c : ℕ) → new.waits c ≡ old.waits c)
  -- before an offer no other array is flushed, and none is due from then on where the array was full
  pub others : IfSome bucket (λ b. (c : ℕ) → c ≢ b → new.waits c ≡ old.waits c)
  pub settled : IfSome bucket (λ b. OnOk result (old.drum.settings.array ≤ length (old.waits b) → IsDue new.drum → ⊥))
  pub full : IfSome bucket (λ b. (n : ℕ) → IsErrOf result (Full n) → n ≡ b)
  -- at the end the arrays are flushed in the order of the buckets, and none behind one that is refused: `Full` names it
  pub ordered : bucket ≡ None → OnErr result ((n : ℕ) × StopsAt n old new
      × ((m : ℕ) → IsErrOf result (Full m) → m ≡ n))

-- A step of a flush of all that waits, by its answer: nothing merges behind the flushes.
pub record FlushesWaiting (result : Result Next Fault) (old new : Moment) : Type 0 where
  pub ready : IfOk result (λ next. next ≡ Ready → (b : ℕ) → new.waits b ≡ [])
  -- where a merge is due and an offer waits, it runs alone
  pub merged : IfOk result (λ next. (next ≡ Merged) ↔ (IsDue old.drum × IsWaiting None old))
  pub alone : IsDue old.drum → IsWaiting None old → MergesAlone result old new
  -- fewer offers are unjudged in all then, and all waits as it did
  pub falls : IfOk result (λ next. next ≡ Merged → pending_in new.drum < pending_in old.drum)
  pub waiting : IfOk result (λ next. next ≡ Merged → (c : ℕ) → new.waits c ≡ old.waits c)
  -- the arrays are flushed in the order of the buckets, and none behind one that is refused: `Full` names it
  pub ordered : OnErr result ((n : ℕ) × StopsAt n old new × ((m : ℕ) → IsErrOf result (Full m) → m ≡ n))
