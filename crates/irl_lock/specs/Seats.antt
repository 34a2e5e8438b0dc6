-- Seats of a table, as functions over them ask for them.
use Rattle.std.specs.Prelude.{◌≡◌, ℕ, ◌+◌, ◌≤◌, ◌<◌, [], ◌∷◌, None, Some, Result, Err, OnOk, IsErrOf, length}
use Rattle.atomic_table.specs.Seated.{TableId}
use Rattle.irl_base.specs.declared.fault.Fault.{Fault}
use Rattle.irl_base.specs.declared.fault.Fault.TheVariants.{Failed}
use Rattle.irl_array.specs.Waiting.{Waiting}
use Rattle.irl_disk.specs.declared.store.Store.{Ghosts}
use Rattle.irl_bay.specs.Drum.{durable_at}
use Rattle.irl_schedule.specs.Feeding.{IsArrayOf, Waits, with_waiting}
use Rattle.irl_schedule.specs.Schedule.{none_more}
use Rattle.irl_yard.specs.Holding.{IsSound, StaysSound}
use Rattle.irl_yard.specs.Moments.{moment_at}
use Rattle.irl_yard.specs.declared.yard.Yard.{Yard}
use Rattle.irl_desk.specs.Closing.{last_after}
use Rattle.irl_desk.specs.Stepping.{Steps}
use Rattle.irl_lock.specs.Books.{buckets_of}
use Rattle.irl_lock.specs.Rule.{kept_of}
use Rattle.irl_lock.specs.declared.held.Bin.{Bin}
use Rattle.irl_lock.specs.declared.held.Held.TheVariants.{InBin, InYard}
use Rattle.irl_lock.specs.declared.held.Stand.{Stand}
use Rattle.irl_lock.specs.declared.view.View.{View}

module _ {S : Type 0} {tells : Ghosts S} where
  -- A seat of the table that was made of this store: it has a part, and knows the store as it was opened.
  pub record IsOn (table : TableId) (opening : Yard S tells) (own : TableId) (view : View S tells) : Type 0 where
    pub own_is : own ≡ table
    pub words : table.words ≡ (buckets_of opening + 1) + buckets_of opening
    pub slots : table.slots ≡ buckets_of opening + 1
    pub opening_is : view.opening ≡ kept_of opening
    pub part : 1 ≤ view.known.parts

  -- ---- room that is made, under a bucket's turn and the store's
  -- What it asks: the store, which is sound unless it stopped, and an array of the bucket, which goes on behind what
  -- the store has.
  pub record MayRefill (b : ℕ) (bin : Bin) (stand : Stand S tells) : Type 0 where
    pub bucket : b < buckets_of stand.yard
    pub sound : stand.last ≡ None → IsSound stand.yard.parts
    pub array : IsArrayOf stand.yard.parts.urls.settings b bin.array
    pub first : bin.first ≡ durable_at stand.yard.parts.urls b

  -- in front of each bucket no more offers wait than the setting says
  abbrev pub FewWaitIn : Yard S tells → Waits → Type 0
  FewWaitIn yard waits = (b : ℕ) → b < buckets_of yard → length (waits b) ≤ yard.parts.urls.settings.array

  -- What it does in front of a store that goes on, whatever waits elsewhere meanwhile.
  pub record GivesRoom (result : Result (Unit {0}) Fault) (b : ℕ) (was now : Waiting) (old new : Yard S tells) : Type 0
    where
      pub steps : (others : Waits) → FewWaitIn old others
          → Steps result none_more (moment_at old (with_waiting others b was.items))
          (moment_at new (with_waiting others b now.items))
      pub rest : new.parts.rest ≡ old.parts.rest
      pub sound : StaysSound (IsErrOf result Failed) new.parts
      pub array : IsArrayOf old.parts.urls.settings b now
      pub room : OnOk result (length now.items < old.parts.urls.settings.array)

  -- What it does, whatever waits elsewhere meanwhile. After the fault by which the store stopped nothing is done, and
  -- it is answered again.
  pub record Refills (result : Result (Unit {0}) Fault) (b : ℕ) (was now : Bin) (old new : Stand S tells) : Type 0 where
    pub again : (fault : Fault) → old.last ≡ Some fault → (result ≡ Err fault) × (new ≡ old) × (now ≡ was)
    pub steps : old.last ≡ None → (others : Waits) → FewWaitIn old.yard others
        → Steps result none_more (moment_at old.yard (with_waiting others b was.array.items))
        (moment_at new.yard (with_waiting others b now.array.items))
    pub last : old.last ≡ None → new.last ≡ last_after None result
    pub rest : new.yard.parts.rest ≡ old.yard.parts.rest
    pub sound : old.last ≡ None → StaysSound (IsErrOf result Failed) new.yard.parts
    pub array : IsArrayOf old.yard.parts.urls.settings b now.array
    pub first : now.first ≡ durable_at new.yard.parts.urls b
    pub room : OnOk result (length now.array.items < old.yard.parts.urls.settings.array)

  -- room was made under both turns, and this is what the store and the bucket's bin have now
  abbrev pub HasRefilled : ℕ → ℕ → Bin → Stand S tells → View S tells → Type 0
  HasRefilled last b bin stand view = (result : Result (Unit {0}) Fault) × (was : Bin) × (old : Stand S tells)
      × Refills result b was bin old stand × (view.turns ≡ (last, InYard old) ∷ (b, InBin was) ∷ [])
