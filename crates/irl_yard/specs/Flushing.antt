-- What a flush leaves of an open store, over states: the bay's own records stand beside this one.
use Rattle.std.specs.Prelude.{◌≢◌, ◌⊎◌, ℕ, ◌<◌, List, [], ◌∷◌, ◌++◌, Result, OnOk, IsErrOf}
use Rattle.irl_base.specs.declared.fault.Fault.{Fault}
use Rattle.irl_base.specs.declared.fault.Fault.TheVariants.{Failed}
use Rattle.irl_offer.specs.Tuple.{Tuple}
use Rattle.irl_events.specs.State.{State}
use Rattle.irl_disk.specs.Images.{Told, Leaves}
use Rattle.irl_layout.specs.Commits.{HasLiveRecords}
use Rattle.irl_layout.specs.Runs.{run_bytes}
use Rattle.irl_bay.specs.Drum.{Drum}
use Rattle.irl_bay.specs.Flushing.{FlushMayLeave}
use Rattle.irl_yard.specs.declared.parts.Parts.{Parts}
use Rattle.irl_yard.specs.Holding.{IsSound, HoldsState, HasOneOf, HasJournal, with_offers}

-- what a stop at any moment of a flush leaves of the bay, over a store that tells so
abbrev pub FlushLeaves : {S : Type 0} → (S → Told) → Result Unit Fault → ℕ → List Tuple → Drum → S → S → Type 0
FlushLeaves told result b news urls before after = FlushMayLeave (IsErrOf result Failed) b news urls (told before)
    (told after)

-- A flush of a bucket of the URLs, over states.
pub record FlushesState (result : Result Unit Fault) (b : ℕ) (news : List Tuple) (was now : Parts)
    (before after : Told) : Type 0 where
  -- the store holds the state with the offers at the end of the bucket's list
  pub holds : OnOk result ((state : State) → HoldsState before.images was state
      → HoldsState after.images now (with_offers b news state))
  -- a stop at any moment leaves files that stand for the state, with the offers or without
  pub stops : (state : State) → HoldsState before.images was state
      → Leaves before after (HasOneOf state (with_offers b news state))
  -- and the bucket's live journal as it was, or with one record more, of all these offers
  pub gains : (state : State) (payloads : List (List ℕ)) → HoldsState before.images was state
      → HasJournal before.images was.urls b payloads → Leaves before after (λ image.
      HasLiveRecords was.urls.base was.urls.settings.buckets b payloads image
      ⊎ HasLiveRecords was.urls.base was.urls.settings.buckets b (payloads ++ run_bytes news ∷ []) image)
  -- the live journals of the other buckets keep their records
  pub records : IsSound now → (state : State) (c : ℕ) (payloads : List (List ℕ)) → c ≢ b
      → c < was.urls.settings.buckets → HoldsState before.images was state
      → HasJournal before.images was.urls c payloads → HasJournal after.images now.urls c payloads
  pub records_stop : (state : State) (c : ℕ) (payloads : List (List ℕ)) → c ≢ b → c < was.urls.settings.buckets
      → HoldsState before.images was state → HasJournal before.images was.urls c payloads
      → Leaves before after (HasLiveRecords was.urls.base was.urls.settings.buckets c payloads)
