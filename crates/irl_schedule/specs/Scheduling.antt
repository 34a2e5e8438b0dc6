-- What a call of the schedule does, whatever it answers: one record, which each call cites, and each layer that hands
-- it on.
use Rattle.std.specs.Prelude.{◌≡◌, ℕ, ◌+◌, ◌<◌, ◌≤◌, List, length, Result, OnErr, IsErrOf}
use Rattle.std.specs.Option.{ForSome}
use Rattle.irl_base.specs.Faults.{HasCause}
use Rattle.irl_base.specs.declared.fault.Fault.{Fault}
use Rattle.irl_base.specs.declared.fault.Fault.TheVariants.{Damaged, Failed, Full}
use Rattle.irl_offer.specs.Tuple.{Tuple}
use Rattle.irl_bay.specs.Drum.{durable_at}
use Rattle.irl_bay.specs.Spoilt.{IsSpoiltAt}
use Rattle.irl_schedule.specs.Feeding.{Moment, Moves, Stays, AddsCut, Feeds, Strands, HeldNone}

-- Of the cuts that are added at most `early` come before a bucket had enough offers, and of the records of a bucket's
-- live journal at most so many are uneven; these offers are handed in.
pub record Schedules {A : Type 0} (result : Result A Fault) (early : ℕ) (uneven : ℕ → ℕ) (news : List Tuple)
    (old new : Moment) : Type 0 where
  pub stays : Stays old new
  -- a call that isn't refused by the store loses no offer
  pub fed : (IsErrOf result Failed → ⊥) → Feeds early uneven news old new
  -- one that is leaves files that stand for a book with some of the offers that waited
  pub stranded : IsErrOf result Failed → Strands early uneven news old new
  -- whatever is answered, a bucket's offers wait as they did, or its count of durable ones has risen by theirs
  pub moves : (b : ℕ) → Moves old new b
  -- it adds one cut at most, by which all is judged, and a refused call has judged nothing
  pub cut : AddsCut old.drum new.drum
  pub judged_kept : OnErr result ((new.drum.cuts ≡ old.drum.cuts) × (new.drum.last ≡ old.drum.last))
  -- the offers that wait of this bucket don't fit
  pub full : (n : ℕ) → IsErrOf result (Full n) → (n < old.drum.settings.buckets) × (1 ≤ length (new.waits n))
      × (old.drum.settings.cap < durable_at new.drum n + length (new.waits n))
  -- damage is named only where it is, and never where the bay held a book
  pub damaged : (f at : ℕ) → IsErrOf result (Damaged f at)
      → ForSome new.store.files (λ files. IsSpoiltAt new.drum files f at)
  pub whole : (f at : ℕ) → IsErrOf result (Damaged f at) → HeldNone old
  pub cause : HasCause (IsErrOf result Failed) old.store.faults new.store.faults
