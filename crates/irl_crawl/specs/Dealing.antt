-- Dealing the pages that are next out among the workers, with the notes on their hosts.
use Rattle.std.specs.Prelude.{◌≡◌, ◌++◌, ℕ, List, [], ◌∷◌, false, Some, Result, OnOk, IsErrOf, slice_get}
use Rattle.std.specs.List.{AllByRecursion, Contains, flat_map}
use Rattle.std.specs.List.Sorted.{IsPermutation}
use Rattle.std.specs.Option.{ForSome}
use Rattle.irl_base.specs.Faults.{HasCause}
use Rattle.irl_base.specs.declared.fault.Fault.{Fault}
use Rattle.irl_base.specs.declared.fault.Fault.TheVariants.{Damaged, Failed, Full}
use Rattle.irl_disk.specs.Images.{Told, LeavesSame}
use Rattle.irl_events.specs.Events.{Happened}
use Rattle.irl_events.specs.State.{State}
use Rattle.irl_key.specs.declared.web.Work.{Work}
use Rattle.irl_offer.specs.declared.note.Note.{Note}
use Rattle.irl_polite.specs.Schedule.{Schedule, loaded}
use Rattle.irl_reach.specs.Along.{notes_in}
use Rattle.irl_yard.specs.Holding.{HoldsState, IsSound}
use Rattle.irl_yard.specs.declared.parts.Parts.{Parts}
use Rattle.irl_crawl.specs.Refusing.{IsBrokenAt}
use Rattle.irl_crawl.specs.Serving.{IsServedAt, KeepsNumbers}
use Rattle.irl_crawl.specs.declared.dealing.Share.{Share}
use Rattle.irl_crawl.specs.declared.hosts.Hosts.{Hosts}

-- ---- an open store
-- Calls that only look at it, by the answer of the last one: whatever state it holds stays, and so does what a stop
-- leaves.
pub record OnlyLooks {A : Type 0} (result : Result A Fault) (was now : Parts) (before after : Told) : Type 0 where
  pub urls : now.urls ≡ was.urls
  pub rest : now.rest ≡ was.rest
  pub files : after.files ≡ before.files
  pub stops : LeavesSame before after
  pub holds : (x : State) → HoldsState before.images was x → HoldsState after.images now x
  -- it may be asked again, but where it failed, which it did only where its count of faults rose
  pub sound : (IsErrOf result Failed → ⊥) → IsSound now
  pub unsound : IsErrOf result Failed → IsSound now → ⊥
  pub cause : HasCause (IsErrOf result Failed) before.faults after.faults
  -- room is never lacking, and damage is named only where it is, and of no state
  pub full : (n : ℕ) → IsErrOf result (Full n) → ⊥
  pub spoilt : (f at : ℕ) → IsErrOf result (Damaged f at) → ForSome after.files (λ files. IsBrokenAt now files f at)
  pub whole : (f at : ℕ) → IsErrOf result (Damaged f at) → ForSome before.files (λ _. (x : State)
      → HoldsState before.images was x → ⊥)

-- ---- shares
-- the items of all shares
abbrev pub dealt : List Share → List Work
dealt shares = flat_map (λ share. share.items.items) shares

-- notes of events
abbrev pub AreNotesIn : List Happened → List Note → Type 0
AreNotesIn events notes = AllByRecursion (λ note. Contains (notes_in events) note) notes

abbrev pub HaveNotesIn : List Happened → List Share → Type 0
HaveNotesIn events shares = AllByRecursion (λ share. AreNotesIn events share.notes.items) shares

-- each worker has only items that it serves
abbrev pub HaveServed : Hosts → ℕ → List Share → Type 0
HaveServed hosts workers shares = (at : ℕ) (share : Share) → slice_get shares at ≡ Some share
    → AllByRecursion (IsServedAt hosts workers at) share.items.items

-- Notes of the state are put behind others, or none.
pub record AddsNotes (result : Result Unit Fault) (was now : Parts) (before after : Told) (old new : List Note)
    : Type 0 where
  pub looks : OnlyLooks result was now before after
  pub notes : OnOk result (ForSome before.files (λ _. (x : State) → HoldsState before.images was x
      → AreNotesIn x.events old → AreNotesIn x.events new))

-- Items are dealt out, with notes of the state.
pub record Deals (result : Result Unit Fault) (works : List Work) (was now : Parts) (before after : Told)
    (old new : List Share) : Type 0 where
  pub looks : OnlyLooks result was now before after
  pub items : OnOk result (IsPermutation (dealt new) (dealt old ++ works))
  pub notes : OnOk result (ForSome before.files (λ _. (x : State) → HoldsState before.images was x
      → HaveNotesIn x.events old → HaveNotesIn x.events new))

-- hosts keep their numbers, and each worker has still only items that it serves
pub record ServesOn (result : Result Unit Fault) (workers : ℕ) (was now : Hosts) (old new : List Share) : Type 0 where
  pub numbers : KeepsNumbers was now
  pub served : OnOk result (HaveServed was workers old → HaveServed now workers new)

-- ---- fronts
-- a front is loaded with a share, and awaits no robots file
pub record TakesShare (share : Share) (old new : Schedule) : Type 0 where
  pub is : new ≡ loaded old share.items.items share.notes.items
  pub ready : (name : List ℕ) → new.awaited name ≡ false

-- the first ones are loaded with these shares, and the others are as they were
abbrev pub HaveTaken : List Share → List Schedule → List Schedule → Type 0
HaveTaken [] olds news = news ≡ olds
HaveTaken (share ∷ shares) [] news = ⊥
HaveTaken (share ∷ shares) (old ∷ olds) [] = ⊥
HaveTaken (share ∷ shares) (old ∷ olds) (new ∷ news) = TakesShare share old new × HaveTaken shares olds news

abbrev pub SomeHaveTaken : List Schedule → List Schedule → Type 0
SomeHaveTaken olds news = (shares : List Share) × HaveTaken shares olds news
