-- Offers on their way into a bay: those that wait in front of it, and what the book is that the bay holds.
use Rattle.std.specs.Prelude.{◌≡◌, ◌≢◌, ◌⊎◌, ℕ, ◌+◌, ◌-◌, ◌<◌, ◌≤◌, nat_eq, if◌then◌else◌, max, List, [], ◌∷◌, ◌++◌, length, slice_index, slice_index_or}
use Rattle.std.specs.List.{All}
use Rattle.std.specs.Option.{ForSome}
use Rattle.irl_array.specs.Waiting.{Waiting}
use Rattle.irl_offer.specs.Buckets.{bucket_of}
use Rattle.irl_offer.specs.declared.settings.Settings.{Settings}
use Rattle.irl_offer.specs.Tuple.{Tuple}
use Rattle.irl_model.specs.Book.{Book, judged_cut, lengths_of, part, IsFront, IsPrefixOf}
use Rattle.irl_disk.specs.Disk.{Files, TellsOnly, ChangesOnly}
use Rattle.irl_disk.specs.Images.{Told, Leaves, LeavesBy}
use Rattle.irl_layout.specs.BayFiles.{IsFileOf}
use Rattle.irl_bay.specs.Drum.{Drum, durable_at, pending_at}
use Rattle.irl_bay.specs.Holding.{Holds}
use Rattle.irl_bay.specs.Standing.{Stands, IsBookOf}
use Rattle.irl_schedule.specs.Schedule.{early_cuts, HaveRecords, AddsUneven, LeavesUneven}

-- ---- what waits
-- the offers that wait in front of each bucket
abbrev pub Waits : Type 0
Waits = ℕ → List Tuple

-- these in front of a bucket, and what waits elsewhere
abbrev pub with_waiting : Waits → ℕ → List Tuple → Waits
with_waiting others b offers c = if nat_eq c b then offers else others c

-- an array in front of a bucket: it has offers of the bucket, at most as many as the setting says
pub record IsArrayOf (settings : Settings) (b : ℕ) (array : Waiting) : Type 0 where
  pub room : array.room ≡ settings.array
  pub few : length array.items ≤ settings.array
  pub offers : All (λ offer. bucket_of settings.buckets offer.key ≡ b) array.items

-- ---- a book
-- a bucket's list in a book, and how many offers it has had from the beginning of time
abbrev pub list_at : Book → ℕ → List Tuple
list_at book b = slice_index_or book.lists b []

abbrev pub length_at : Book → ℕ → ℕ
length_at book b = slice_index book.firsts b + length (list_at book b)

-- how many of them aren't judged yet
abbrev pub unjudged_at : Book → ℕ → ℕ
unjudged_at book b = length_at book b - slice_index (judged_cut book) b

-- the offers of a bucket that were handed in: those of its list, and behind them those that wait
abbrev pub handed_in : Book → Waits → ℕ → List Tuple
handed_in book waits b = list_at book b ++ waits b

-- from one book to a later one unjudged offers never pile up: a bucket has a trigger and an array less one at most, or
-- as many as before
abbrev pub FewUnjudged : Settings → Book → Book → Type 0
FewUnjudged settings x y = (b : ℕ) → b < settings.buckets
    → unjudged_at y b ≤ max (settings.trigger + settings.array - 1) (unjudged_at x b)

-- From one book to a later one: the first is a front of the second. A list that has grown is within the cap, of the
-- cuts behind the first book's at most so many were made before a bucket had enough new offers, and unjudged offers
-- don't pile up.
pub record Grows (settings : Settings) (early : ℕ) (x y : Book) : Type 0 where
  pub front : IsFront x y
  pub fits : (b : ℕ) → b < settings.buckets → (list_at y b ≡ list_at x b) ⊎ (length_at y b ≤ settings.cap)
  pub cuts : List (List ℕ)
  pub cuts_are : y.cuts ≡ x.cuts ++ cuts
  pub early_are : early_cuts settings.trigger (judged_cut x) cuts ≤ early
  pub waits : FewUnjudged settings x y

-- a book with the cuts of another, or with one more, by which all that it has is judged
abbrev pub CutsOnce : Book → Book → Type 0
CutsOnce x y = (y.cuts ≡ x.cuts) ⊎ (y.cuts ≡ x.cuts ++ lengths_of y ∷ [])

-- no offer is lost: each bucket has those that it had, in its list or waiting, and these behind them
abbrev pub Keeps : Settings → Book → Waits → Book → Waits → List Tuple → Type 0
Keeps settings x was y now news = (b : ℕ) → b < settings.buckets
    → handed_in y now b ≡ handed_in x was b ++ part settings.buckets b news

-- each list is a prefix of the offers that were handed in
abbrev pub TakesWaiting : Settings → Book → Waits → Book → List Tuple → Type 0
TakesWaiting settings x was y news = (b : ℕ) → b < settings.buckets
    → IsPrefixOf (list_at y b) (handed_in x was b ++ part settings.buckets b news)

-- a joint image's bay has a book between two, in which unjudged offers don't pile up
abbrev pub HasBetween : ℕ → Settings → Book → Book → Files → Type 0
HasBetween base settings x y image = (z : Book) × Stands base settings z image × IsFront x z × IsFront z y
    × FewUnjudged settings x z

-- ---- what a call leaves
-- a bay at one moment, and what waits in front of it
pub record Moment : Type 1 where
  pub store : Told
  pub drum : Drum
  pub waits : Waits

abbrev pub moment : Told → Drum → Waits → Moment
moment store drum waits = record { store = store; drum = drum; waits = waits }

-- a bucket's offers wait as they did, or its count of durable offers has risen by theirs
abbrev pub Moves : Moment → Moment → ℕ → Type 0
Moves old new b = ((new.waits b ≡ old.waits b) × (durable_at new.drum b ≡ durable_at old.drum b))
    ⊎ ((new.waits b ≡ []) × (durable_at new.drum b ≡ durable_at old.drum b + length (old.waits b)))

-- a merge adds one cut, by which all is judged; without one the last commit stays
abbrev pub AddsCut : Drum → Drum → Type 0
AddsCut old new = ((new.cuts ≡ old.cuts) × (new.last ≡ old.last))
    ⊎ ((new.cuts ≡ old.cuts + 1) × ((b : ℕ) → pending_at new b ≡ 0))

-- no count of a bay falls: how many cuts it has, how many offers are judged, and how many each bucket has
pub record CountsGrow (old new : Drum) : Type 0 where
  pub cuts : old.cuts ≤ new.cuts
  pub judged : old.last.judged ≤ new.last.judged
  pub durable : (b : ℕ) → durable_at old b ≤ durable_at new b

-- Whatever is answered, and whatever the files stand for.
pub record Stays (old new : Moment) : Type 0 where
  pub settings : new.drum.settings ≡ old.drum.settings
  pub base : new.drum.base ≡ old.drum.base
  pub grows : CountsGrow old.drum new.drum
  -- only files of the bay change
  pub others : TellsOnly (IsFileOf old.drum.base old.drum.settings.buckets) old.store.files new.store.files
  pub others_stop : LeavesBy (ChangesOnly (IsFileOf old.drum.base old.drum.settings.buckets)) old.store new.store
  -- unjudged offers never pile up
  pub bound : (b : ℕ) → b < old.drum.settings.buckets
      → pending_at new.drum b ≤ max (old.drum.settings.trigger + old.drum.settings.array - 1) (pending_at old.drum b)

-- At most this bucket was flushed: no cut is added, and no other bucket has more.
pub record OnlyFlushes (b : ℕ) (old new : Drum) : Type 0 where
  pub last : new.last ≡ old.last
  pub cuts : new.cuts ≡ old.cuts
  pub others : (c : ℕ) → c ≢ b → durable_at new c ≡ durable_at old c

-- From a moment at which the bay held a book to a later one, with these offers handed in.
pub record Fed (early : ℕ) (uneven : ℕ → ℕ) (news : List Tuple) (old new : Moment) (x : Book) : Type 0 where
  -- the bay holds a later book
  pub book : Book
  pub holds : Holds new.store.images new.drum book
  pub grows : Grows old.drum.settings early x book
  -- no offer is lost
  pub keeps : Keeps old.drum.settings x old.waits book new.waits news
  -- a stop at any moment left a book between the two
  pub stops : Leaves old.store new.store (HasBetween old.drum.base old.drum.settings x book)
  -- the live journals have at most so many uneven records more, and so they had at any moment
  pub records : (was : ℕ → List (List ℕ)) → HaveRecords old.store.images old.drum was → (now : ℕ → List (List ℕ))
      × HaveRecords new.store.images new.drum now
      × AddsUneven uneven old.drum.settings.buckets old.drum.settings.array was now
  pub records_stop : (was : ℕ → List (List ℕ)) → HaveRecords old.store.images old.drum was
      → Leaves old.store new.store (LeavesUneven uneven old.drum was)

-- To one at which the store has failed: the bay's files stand for one book, and a stop at any moment left one between
-- the book before and another, for whose record a failed write may have been enough. That one is a book of the bay too.
pub record Stranded (early : ℕ) (uneven : ℕ → ℕ) (news : List Tuple) (old new : Moment) (x : Book) : Type 0 where
  pub book : Book
  pub most : Book
  pub told : ForSome new.store.files (Stands old.drum.base old.drum.settings book)
  pub grows : Grows old.drum.settings early x book
  pub may_grow : Grows old.drum.settings early x most
  pub front : IsFront book most
  pub legal : IsBookOf old.drum.settings most
  -- what was acknowledged by then: no offer is lost to it, and a stop from now on leaves no less
  pub kept : Book
  pub kept_grows : Grows old.drum.settings early x kept
  pub kept_front : IsFront kept book
  pub kept_legal : IsBookOf old.drum.settings kept
  pub keeps : Keeps old.drum.settings x old.waits kept new.waits news
  pub now : (image : Files) → new.store.images image → HasBetween old.drum.base old.drum.settings kept most image
  -- both have only offers that were handed in
  pub takes : TakesWaiting old.drum.settings x old.waits most news
  pub stops : Leaves old.store new.store (HasBetween old.drum.base old.drum.settings x most)
  pub records_stop : (was : ℕ → List (List ℕ)) → HaveRecords old.store.images old.drum was
      → Leaves old.store new.store (LeavesUneven uneven old.drum was)

-- The same of each book that the bay held, where its store tells. At a failure what is kept of it has no cut more, and
-- the one that is told and the greatest that a stop left have one at most, by which all that they have is judged.
abbrev pub Feeds : ℕ → (ℕ → ℕ) → List Tuple → Moment → Moment → Type 0
Feeds early uneven news old new = ForSome old.store.files (λ _. (x : Book)
    → Holds old.store.images old.drum x → Fed early uneven news old new x)

abbrev pub Strands : ℕ → (ℕ → ℕ) → List Tuple → Moment → Moment → Type 0
Strands early uneven news old new = ForSome old.store.files (λ _. (x : Book)
    → Holds old.store.images old.drum x → (stranded : Stranded early uneven news old new x)
    × (stranded.kept.cuts ≡ x.cuts) × CutsOnce x stranded.book × CutsOnce x stranded.most)

-- the bay held no book
abbrev pub HeldNone : Moment → Type 0
HeldNone old = ForSome old.store.files (λ _. (x : Book) → Holds old.store.images old.drum x → ⊥)
