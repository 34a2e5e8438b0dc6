-- Calls of the schedule of a bay one after the other, which may add several cuts.
use Rattle.std.specs.Prelude.{◌≡◌, ◌⊎◌, ℕ, ◌+◌, ◌<◌, ◌≤◌, List, length, Result, Ok, OnOk, IsErrOf, true}
use Rattle.std.specs.Option.{ForSome}
use Rattle.irl_base.specs.Faults.{HasCause}
use Rattle.irl_base.specs.declared.fault.Fault.{Fault}
use Rattle.irl_base.specs.declared.fault.Fault.TheVariants.{Damaged, Failed, Full}
use Rattle.irl_offer.specs.Tuple.{Tuple}
use Rattle.irl_array.specs.Waiting.{Waiting}
use Rattle.irl_model.specs.Book.{Book, IsPrefixOf}
use Rattle.irl_disk.specs.Images.{Told}
use Rattle.irl_bay.specs.Drum.{Drum, IsDrum, durable_at}
use Rattle.irl_bay.specs.Holding.{Holds, IsLong}
use Rattle.irl_bay.specs.Spoilt.{IsSpoiltAt}
use Rattle.irl_schedule.specs.Feeding.{Moment, moment, Stays, Feeds, Stranded, HeldNone}
use Rattle.irl_schedule.specs.Schedule.{none_more}
use Rattle.irl_schedule.specs.Arrays.{AreArrays, waiting_at}

-- where the store failed, the files stand for a book, of each book that the bay held
abbrev pub StrandsEach : ℕ → (ℕ → ℕ) → List Tuple → Moment → Moment → Type 0
StrandsEach early uneven news old new = ForSome old.store.files (λ _. (x : Book)
    → Holds old.store.images old.drum x → Stranded early uneven news old new x)

-- They hand these offers in, and the last of them may be refused. Of damage in files that aren't the bay's `elsewhere`
-- tells.
pub record RunsSchedule {A : Type 0} (result : Result A Fault) (elsewhere : ℕ → ℕ
    → Type 0) (early : ℕ) (uneven : ℕ → ℕ) (news : List Tuple) (old new : Moment) : Type 0 where
  pub stays : Stays old new
  -- no offer is lost, but where the store fails
  pub fed : (IsErrOf result Failed → ⊥) → Feeds early uneven news old new
  pub stranded : IsErrOf result Failed → StrandsEach early uneven news old new
  -- the offers that wait of this bucket don't fit
  pub full : (n : ℕ) → IsErrOf result (Full n) → (n < old.drum.settings.buckets) × (1 ≤ length (new.waits n))
      × (old.drum.settings.cap < durable_at new.drum n + length (new.waits n))
  -- damage is named only where it is, and of the bay's files never where it held a book
  pub damaged : (f at : ℕ) → IsErrOf result (Damaged f at) → elsewhere f at
      ⊎ (HeldNone old × ForSome new.store.files (λ files. IsSpoiltAt new.drum files f at))
  pub cause : HasCause (IsErrOf result Failed) old.store.faults new.store.faults

-- no damage elsewhere
abbrev pub nowhere : ℕ → ℕ → Type 0
nowhere f at = ⊥

-- A bay with an array in front of each bucket, and what waits in them.
abbrev pub moment_with : Told → Drum → List Waiting → Moment
moment_with store drum arrays = moment store drum (waiting_at arrays)

-- A bay after calls that may end its soundness, where `failed` says that a fault of the store was answered.
pub record StaysOpen (failed : Type 0) (new : Drum) (after : Told) : Type 0 where
  pub drum : IsDrum new
  pub sound : (failed → ⊥) → new.is_sound ≡ true
  -- a sound bay may be asked again
  pub long : new.is_sound ≡ true → ForSome after.files (λ files. IsLong new files)

-- Such calls over a bay and its arrays, by the answer of the last.
pub record Feeding {A : Type 0} (result : Result A Fault) (elsewhere : ℕ → ℕ
    → Type 0) (early : ℕ) (uneven : ℕ → ℕ) (news : List Tuple) (was now : List Waiting) (old new : Drum)
    (before after : Told) : Type 0 where
  pub runs : RunsSchedule result elsewhere early uneven news (moment_with before old was) (moment_with after new now)
  pub arrays : AreArrays new.settings now
  pub goes_on : StaysOpen (IsErrOf result Failed) new after

-- An array takes in these offers: the bay and its store stay.
abbrev pub Takes : List Tuple → List Waiting → List Waiting → Drum → Told → Type 0
Takes news was now drum store = Feeding {A = Unit {0}} (Ok tt) nowhere 0 none_more news was now drum drum store store

-- Offers that are handed in one after the other, by the answer: all of them, or those before one that was refused.
pub record HandsIn {A : Type 0} (result : Result A Fault) (elsewhere : ℕ → ℕ
    → Type 0) (offers : List Tuple) (was now : List Waiting) (old new : Drum) (before after : Told) : Type 0 where
  pub news : List Tuple
  pub front : IsPrefixOf news offers
  pub all : OnOk result (news ≡ offers)
  pub feeding : Feeding result elsewhere 0 none_more news was now old new before after
