-- From books to states: what calls over the bay of URLs make of the state that an open store holds. No file changes
-- but the bay's, so the rest of the state stays.
use Rattle.std.specs.Option.{ForSome}
use Rattle.std.specs.Prelude.{◌≡◌}
use Rattle.irl_offer.specs.declared.settings.Kind.{Kind}
use Rattle.irl_offer.specs.declared.settings.Settings.{Settings}
use Rattle.irl_model.specs.Book.{Book, IsFront}
use Rattle.irl_events.specs.State.{State, IsFrontState}
use Rattle.irl_disk.specs.Disk.{Files}
use Rattle.irl_disk.specs.Images.{Leaves}
use Rattle.irl_bay.specs.Holding.{Holds}
use Rattle.irl_bay.specs.Standing.{Stands, IsBookOf}
use Rattle.irl_schedule.specs.Feeding.{Moment, FewUnjudged, HasBetween}
use Rattle.irl_ledger.specs.Crawling.{MayFollow}
use Rattle.irl_yard.specs.Holding.{HoldsUrls}
use Rattle.irl_yard.specs.Standing.{HasState, IsStateOf, with_urls}

-- a joint image stands for the state with a book between two, in which unjudged offers don't pile up
abbrev pub HasStateBetween : Settings → State → Book → Book → Files → Type 0
HasStateBetween settings state x y image = (z : Book) × HasState (with_urls z state) image × IsFront x z × IsFront z y
    × FewUnjudged settings x z

-- a state with a book that may follow another's in a store of this kind
abbrev pub IsWithBook : Kind → State → State → Type 0
IsWithBook kind state later = (book : Book) × MayFollow kind state.urls book × (later ≡ with_urls book state)

-- From a moment at which the store held this state to a later one: a book stands for the state with it, where it may
-- follow the state's in a store of this kind.
pub record LiftsBooks (state : State) (old new : Moment) : Type 0 where
  -- one that the bay holds then,
  pub holds : (book : Book) → MayFollow old.drum.settings.kind state.urls book
      → Holds new.store.images new.drum book
      → HoldsUrls new.store.images new.drum (with_urls book state)
  -- that its told files stand for,
  pub told : (book : Book) → MayFollow old.drum.settings.kind state.urls book
      → ForSome new.store.files (Stands old.drum.base old.drum.settings book)
      → ForSome new.store.files (HasState (with_urls book state))
  -- or that a stop leaves, in the time between or from then on
  pub stops : (x y : Book) → MayFollow old.drum.settings.kind state.urls x
      → MayFollow old.drum.settings.kind state.urls y
      → Leaves old.store new.store (HasBetween old.drum.base old.drum.settings x y)
      → Leaves old.store new.store (HasStateBetween old.drum.settings state x y)
  pub now : (x y : Book) (image : Files) → MayFollow old.drum.settings.kind state.urls x
      → MayFollow old.drum.settings.kind state.urls y → new.store.images image
      → HasBetween old.drum.base old.drum.settings x y image → HasStateBetween old.drum.settings state x y image
  -- a front of a book makes a front of a state, and a book of the bay a state that files may stand for
  pub fronts : (x y : Book) → IsFront x y → IsFrontState (with_urls x state) (with_urls y state)
  pub legal : (book : Book) → MayFollow old.drum.settings.kind state.urls book → IsBookOf old.drum.settings book
      → IsStateOf old.drum.settings (with_urls book state)
