-- A call that settles URLs: what it asks, and that no page counts as done whose links are lost.
use Rattle.std.specs.Prelude.{◌≡◌, ℕ, ◌+◌, ◌<◌, List, [], ◌∷◌, ◌++◌, Some, slice_get, slice_index, slice_index_or}
use Rattle.std.specs.List.{AllByRecursion}
use Rattle.std.specs.Option.{ForSome}
use Rattle.irl_offer.specs.declared.done.Done.{Done}
use Rattle.irl_offer.specs.Tuple.{Tuple}
use Rattle.irl_offer.specs.declared.place.Place.{Place}
use Rattle.irl_offer.specs.declared.receipt.Receipt.{Receipt}
use Rattle.irl_model.specs.Book.{Book, lengths_of}
use Rattle.irl_events.specs.Events.{Event, Settle, Happened}
use Rattle.irl_events.specs.State.{State, IsFrontState}
use Rattle.irl_disk.specs.Disk.{Files}
use Rattle.irl_disk.specs.Images.{Told, Leaves}
use Rattle.irl_bay.specs.Drum.{Drum, durables}
use Rattle.irl_ledger.specs.Settling.{MaySettle as LedgerMaySettle, outcomes_of}
use Rattle.irl_yard.specs.declared.parts.Parts.{Parts}
use Rattle.irl_yard.specs.declared.parts.Rest.{Rest}
use Rattle.irl_yard.specs.declared.parts.Rest.TheVariants.{Plain, Crawl}
use Rattle.irl_yard.specs.Holding.{HoldsState}
use Rattle.irl_yard.specs.Standing.{HasState}

-- URLs of the front of a crawl, the offers of whose links are flushed
abbrev pub MaySettle : Drum → Rest → List Done → Type 0
MaySettle urls Plain done = ⊥
MaySettle urls (Crawl ledger) done = LedgerMaySettle urls ledger done

-- the event: what came of each, and how many offers each bucket of URLs has
abbrev pub settle_of : Drum → List Done → Event
settle_of urls done = Settle (durables urls) (outcomes_of done)

-- ---- what is kept
-- an offer stands in its bucket's list at the number of a receipt
abbrev pub StandsAt : Book → Receipt → Tuple → Type 0
StandsAt urls receipt offer =
    (place : ℕ) × ((slice_index urls.firsts receipt.bucket + place ≡ receipt.number)
    × (slice_get (slice_index_or urls.lists receipt.bucket []) place ≡ Some offer))

-- the list has the offer of a receipt
abbrev pub HasOffer : Book → Receipt → Type 0
HasOffer urls receipt = (receipt.number < slice_index (lengths_of urls) receipt.bucket)
    × ((offer : Tuple) × StandsAt urls receipt offer)

-- the offers of the links of what is done stand in the lists of URLs
abbrev pub HasLinks : List Done → Book → Type 0
HasLinks done urls = AllByRecursion (λ d. AllByRecursion (HasOffer urls) d.receipts) done

-- those of the first book stand in the second, each where it stood
abbrev pub StayLinks : List Done → Book → Book → Type 0
StayLinks done was now = AllByRecursion (λ d.
    AllByRecursion (λ r. (offer : Tuple) → StandsAt was r offer → StandsAt now r offer) d.receipts) done

-- these files stand for a state with this book of URLs, and so they have the links
pub record HaveLinks (done : List Done) (book : Book) (files : Files) : Type 0 where
  pub state : State
  pub stand : HasState state files
  pub urls_are : state.urls ≡ book
  pub links : HasLinks done state.urls

-- No page counts as done whose links are lost.
pub record KeepsLinks (done : List Done) (was : Parts) (before after : Told) : Type 0 where
  -- they are there when the URLs are settled,
  pub held : (state : State) → HoldsState before.images was state → HasLinks done state.urls
  -- a stop at any moment of the call leaves them, and so does each from then on; and they are told
  pub stops : (state : State) → HoldsState before.images was state → Leaves before after (HaveLinks done state.urls)
  pub left : (state : State) (image : Files) → HoldsState before.images was state → after.images image
      → HaveLinks done state.urls image
  pub told : (state : State) → HoldsState before.images was state
      → ForSome after.files (HaveLinks done state.urls)
  -- whatever becomes of the store has them, each where it stood
  pub stay : (state later : State) → HoldsState before.images was state → IsFrontState state later
      → HasLinks done later.urls × StayLinks done state.urls later.urls
  -- and so has each store, whenever that is, one of whose events settled these URLs
  pub ever : (state : State) (files : Files) (earlier later : List Happened) (places : List Place)
      → HasState state files → state.events ≡ earlier ++ (settle_of was.urls done, places) ∷ later
      → HasLinks done state.urls
