-- What a merge, and reading what is judged, leave of an open store, over states: the bay's own records stand beside
-- these.
use Rattle.std.specs.Prelude.{◌≡◌, ◌⊎◌, ℕ, ◌<◌, List, [], Result, IfOk, OnOk, OnErr, IsErrOf}
use Rattle.std.specs.Option.{ForSome}
use Rattle.irl_base.specs.declared.fault.Fault.{Fault}
use Rattle.irl_base.specs.declared.fault.Fault.TheVariants.{Damaged, Failed, Memory}
use Rattle.irl_model.specs.Book.{Book}
use Rattle.irl_events.specs.State.{State}
use Rattle.irl_disk.specs.Images.{Told, Leaves}
use Rattle.irl_layout.specs.Commits.{HasLiveRecords}
use Rattle.irl_bay.specs.Drum.{Drum}
use Rattle.irl_bay.specs.Merges.{MergeMayLeave}
use Rattle.irl_yard.specs.declared.parts.Parts.{Parts}
use Rattle.irl_yard.specs.Standing.{HasState}
use Rattle.irl_yard.specs.Holding.{IsSound, HoldsState, HasOneOf, HasJournal, with_cut}

-- what a stop at any moment of a merge leaves of the bay, over a store that tells so
abbrev pub MergeLeaves : {S : Type 0} → (S → Told) → Result ℕ Fault → Drum → S → S → Type 0
MergeLeaves told result urls before after = MergeMayLeave (IsErrOf result Failed) urls (told before) (told after)

-- A merge of the URLs, over states.
pub record MergesState (result : Result ℕ Fault) (was now : Parts) (before after : Told) : Type 0 where
  -- the store holds the state with the cut
  pub holds : OnOk result (ForSome before.files (λ _. (state : State) → HoldsState before.images was state
      → HoldsState after.images now (with_cut state)))
  -- want of memory and damage leave the state, and damage is never named where one is held
  pub memory : IsErrOf result Memory → (state : State) → HoldsState before.images was state
      → HoldsState after.images now state
  pub damaged : (f at : ℕ) → IsErrOf result (Damaged f at) → (state : State) → HoldsState before.images was state
      → HoldsState after.images now state
  pub whole : (f at : ℕ) → IsErrOf result (Damaged f at) → ForSome before.files (λ _. (state : State)
      → HoldsState before.images was state → ⊥)
  -- a stop at any moment leaves files that stand for the state, with the cut or without
  pub stops : (state : State) → HoldsState before.images was state
      → Leaves before after (HasOneOf state (with_cut state))
  -- where it is refused and may be asked again, the live journals keep their records
  pub records : OnErr result (IsSound now → (state : State) (b : ℕ) (payloads : List (List ℕ))
      → b < was.urls.settings.buckets → HoldsState before.images was state
      → HasJournal before.images was.urls b payloads → HasJournal after.images now.urls b payloads)
  -- a stop leaves each as it was or empty
  pub records_stop : (state : State) (b : ℕ) (payloads : List (List ℕ)) → b < was.urls.settings.buckets
      → HoldsState before.images was state → HasJournal before.images was.urls b payloads
      → Leaves before after (λ image. HasLiveRecords was.urls.base was.urls.settings.buckets b payloads image
      ⊎ HasLiveRecords was.urls.base was.urls.settings.buckets b [] image)

-- Judged offers that are read, over states. The bay and the state stay, whatever is answered.
pub record ReadsState {A : Type 0} (result : Result A Fault) (gives : A → Book → Type 0) (was now : Parts)
    (before after : Told) : Type 0 where
  pub value : IfOk result (λ found. ForSome before.files (λ _. (state : State) → HoldsState before.images was state
      → gives found state.urls))
  pub whole : (f at : ℕ) → IsErrOf result (Damaged f at) → ForSome before.files (λ _. (state : State)
      → HoldsState before.images was state → ⊥)
  pub same : now.urls ≡ was.urls
  pub holds : (state : State) → HoldsState before.images was state → HoldsState after.images now state
  pub stops : (state : State) → HoldsState before.images was state → Leaves before after (HasState state)
