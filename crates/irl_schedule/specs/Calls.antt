-- What each call asks of a bay and an array, and what it does by its answer, beside `Schedules`. The store is seen as a
-- whole here. Each layer that hands a call on says it by these records.
use Rattle.std.specs.Prelude.{◌≡◌, ◌⊎◌, ◌↔◌, ℕ, ◌<◌, ◌≤◌, Bool, true, false, [], length, Result, Ok, IfOk, OnOk, OnErr, IsOk, IsErrOf}
use Rattle.irl_array.specs.Waiting.{Waiting}
use Rattle.irl_base.specs.declared.fault.Fault.{Fault}
use Rattle.irl_base.specs.declared.fault.Fault.TheVariants.{Damaged, Full, Memory}
use Rattle.irl_disk.specs.Images.{Told}
use Rattle.irl_bay.specs.Drum.{Drum, SomePending, pending_at}
use Rattle.irl_bay.specs.Merges.{KeepsBook}
use Rattle.irl_schedule.specs.Feeding.{IsArrayOf, OnlyFlushes}
use Rattle.irl_schedule.specs.Schedule.{IsDue}

-- ---- merges
-- Running the merge that is due.
pub record MergesIfDue {S : Type 0} (result : Result Bool Fault) (old new : Drum) (before after : S) : Type 0 where
  -- it answers whether it ran, which it does exactly where one is due; then nothing is unjudged
  pub ran : IfOk result (λ ran. (ran ≡ true) ↔ IsDue old)
  pub judged : IfOk result (λ ran. ran ≡ true → (b : ℕ) → pending_at new b ≡ 0)
  -- where none is due nothing is done
  pub idle : (IsDue old → ⊥) → (result ≡ Ok false) × (new ≡ old) × (after ≡ before)
  pub ready : OnOk result (IsDue new → ⊥)

-- Judging what is left.
pub record MergesRest {S : Type 0} (result : Result Unit Fault) (old new : Drum) (before after : S) : Type 0 where
  pub judged : OnOk result ((b : ℕ) → b < old.settings.buckets → pending_at new b ≡ 0)
  -- where nothing is unjudged nothing is done
  pub idle : (SomePending old → ⊥) → IsOk result × (new ≡ old) × (after ≡ before)

-- a merge that is refused and may be asked again leaves the bay as it was, and its book
abbrev pub MergeKeeps : {A : Type 0} → Result A Fault → Drum → Drum → Told → Told → Type 0
MergeKeeps result old new before after = IsErrOf result Memory ⊎ ((f at : ℕ) × IsErrOf result (Damaged f at))
    → KeepsBook old new before after

-- ---- room that is made
-- What it asks: an array in front of a bucket, and that no merge is due where it is full.
pub record MayMakeRoom (b : ℕ) (array : Waiting) (drum : Drum) : Type 0 where
  pub bucket : b < drum.settings.buckets
  pub array_is : IsArrayOf drum.settings b array
  pub ready : drum.settings.array ≤ length array.items → IsDue drum → ⊥

-- A full array is flushed, and a merge runs that is due then.
pub record MakesRoom {S : Type 0} (result : Result Unit Fault) (b : ℕ) (was now : Waiting) (old new : Drum)
    (before after : S) : Type 0 where
  pub array : IsArrayOf old.settings b now
  pub room : OnOk result (length now.items < old.settings.array)
  -- with room in the array nothing is done
  pub idle : length was.items < old.settings.array → IsOk result × (new ≡ old) × (after ≡ before) × (now ≡ was)
  pub ready : OnOk result (old.settings.array ≤ length was.items → IsDue new → ⊥)
  -- a full bucket changes nothing, and want of memory nothing, but where the array was flushed before
  pub full : (n : ℕ) → IsErrOf result (Full n) → (new ≡ old) × (after ≡ before) × (now ≡ was)
  pub memory : IsErrOf result Memory → ((new ≡ old) × (after ≡ before) × (now ≡ was)) ⊎ (now.items ≡ [])

-- ---- the flush of an array, whole or not
-- What it asks: an array in front of a bucket, which no merge is due for where an offer waits.
pub record MayFlushSome (b : ℕ) (array : Waiting) (drum : Drum) : Type 0 where
  pub bucket : b < drum.settings.buckets
  pub array_is : IsArrayOf drum.settings b array
  pub ready : 1 ≤ length array.items → pending_at drum b < drum.settings.trigger

pub record FlushesSome {S : Type 0} (result : Result Unit Fault) (b : ℕ) (was now : Waiting) (old new : Drum)
    (before after : S) : Type 0 where
  pub array : IsArrayOf old.settings b now
  pub emptied : OnOk result (now.items ≡ [])
  pub kept : OnErr result (now ≡ was)
  pub counts : OnlyFlushes b old new
  -- where no offer waits nothing is done
  pub idle : was.items ≡ [] → IsOk result × (new ≡ old) × (after ≡ before) × (now ≡ was)
  -- a full bucket and want of memory change nothing
  pub full : (n : ℕ) → IsErrOf result (Full n) → (new ≡ old) × (after ≡ before)
  pub memory : IsErrOf result Memory → (new ≡ old) × (after ≡ before)
