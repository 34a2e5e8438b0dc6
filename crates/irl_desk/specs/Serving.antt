-- What a desk does between two moments: offers are handed in, each gets its receipt, and no other is lost.
use Rattle.std.specs.Prelude.{◌≡◌, ℕ, ◌+◌, ◌<◌, List, [], ◌∷◌, ◌++◌, length, map, Option, None, Some, Result, Ok, Err, ⊤}
use Rattle.std.specs.List.{AllByRecursion}
use Rattle.irl_array.specs.Waiting.{Waiting}
use Rattle.irl_base.specs.declared.fault.Fault.{Fault}
use Rattle.irl_base.specs.declared.fault.Fault.TheVariants.{Failed}
use Rattle.irl_offer.specs.Buckets.{bucket_of}
use Rattle.irl_offer.specs.Offering.{Entered, IsTakenBy}
use Rattle.irl_offer.specs.Tuple.{Tuple}
use Rattle.irl_offer.specs.declared.receipt.Receipt.{Receipt}
use Rattle.irl_key.specs.Links.{IsCanonicalText}
use Rattle.irl_model.specs.Book.{part}
use Rattle.irl_disk.specs.Images.{Told}
use Rattle.irl_disk.specs.declared.store.Store.{Ghosts}
use Rattle.irl_schedule.specs.Arrays.{AreArrays, waiting_at}
use Rattle.irl_schedule.specs.Feeding.{Moment, moment, Stays, Feeds}
use Rattle.irl_schedule.specs.Schedule.{none_more}
use Rattle.irl_yard.specs.Holding.{StaysSound}
use Rattle.irl_yard.specs.declared.parts.Parts.{Parts}
use Rattle.irl_desk.specs.Stepping.{Breaks, HasGround, handed_at}
use Rattle.irl_desk.specs.declared.desk.Desk.{Desk}

-- ---- at one moment
-- the store, what is kept in memory of it, and what waits; what was entered, and the last fault but want of memory
pub record Serving (S : Type 0) : Type 0 where
  pub store : S
  pub parts : Parts
  pub arrays : List Waiting
  pub entries : List Entered
  pub last : Option Fault

-- that of a desk
abbrev pub serving_of : {S : Type 0} {tells : Ghosts S} → Desk S tells → Serving S
serving_of {S} {tells} desk = record {
  store = desk.intake.yard.store;
  parts = desk.intake.yard.parts;
  arrays = desk.intake.arrays.items;
  entries = map (λ taken. record { receipt = taken.value.receipt; offer = taken.value.offer }) desk.entries.items;
  last = desk.last;
}

abbrev pub moment_at : {S : Type 0} → (S → Told) → Serving S → Moment
moment_at {S} told x = moment (told x.store) x.parts.urls (waiting_at x.arrays)

-- nothing waits, nothing was entered, and no fault was answered
pub record IsFresh {S : Type 0} (x : Serving S) : Type 0 where
  pub empty : (b : ℕ) → waiting_at x.arrays b ≡ []
  pub entries : x.entries ≡ []
  pub last : x.last ≡ None

-- ---- receipts
abbrev pub offers_in : List Entered → List Tuple
offers_in entries = map (λ one. one.offer) entries

-- That of an offer which is handed in behind these, where each bucket had so many before them: the number behind all
-- that its bucket got.
abbrev pub receipt_behind : ℕ → (ℕ → ℕ) → List Tuple → Tuple → Receipt
receipt_behind buckets had before offer = record {
  bucket = bucket_of buckets offer.key;
  number = had (bucket_of buckets offer.key) + length (part buckets (bucket_of buckets offer.key) before);
}

-- so each of them has its own, of one of so many buckets, behind these and those before it
abbrev pub AreNumbered : ℕ → (ℕ → ℕ) → List Tuple → List Entered → Type 0
AreNumbered buckets had before [] = ⊤
AreNumbered buckets had before (one ∷ more) = ((one.receipt ≡ receipt_behind buckets had before one.offer)
    × (one.receipt.bucket < buckets)) × AreNumbered buckets had (before ++ one.offer ∷ []) more

-- ---- between two moments
-- These were entered, and the last fault is the one of the later moment; none was answered before.
pub record Enters {S : Type 0} (told : S → Told) (uneven : ℕ → ℕ) (news : List Entered) (old new : Serving S) : Type 0
  where
    pub entries : new.entries ≡ old.entries ++ news
    pub stays : Stays (moment_at told old) (moment_at told new)
    -- nothing changes beside the bay of URLs
    pub rest : new.parts.rest ≡ old.parts.rest
    pub arrays : AreArrays new.parts.urls.settings new.arrays
    -- only a failure of the store ends the soundness
    pub sound : StaysSound (new.last ≡ Some Failed) new.parts
    -- each was one that the store takes, and has its receipt
    pub taken : AllByRecursion (IsTakenBy IsCanonicalText old.parts.urls.settings.kind) (offers_in news)
    pub numbered : AreNumbered old.parts.urls.settings.buckets (handed_at (moment_at told old)) [] news
    -- they were handed in, and nothing else
    pub counts : (b : ℕ) → handed_at (moment_at told new) b
        ≡ handed_at (moment_at told old) b + length (part old.parts.urls.settings.buckets b (offers_in news))
    pub fed : (new.last ≡ Some Failed → ⊥)
        → Feeds 0 uneven (offers_in news) (moment_at told old) (moment_at told new)
    pub broken : new.last ≡ Some Failed → Breaks uneven (offers_in news) (moment_at told old) (moment_at told new)
    pub ground : HasGround (λ fault. new.last ≡ Some fault) (moment_at told old) (moment_at told new)

-- These were entered; after a fault but want of memory nothing is done.
pub record Serves {S : Type 0} (told : S → Told) (news : List Entered) (old new : Serving S) : Type 0 where
  pub enters : old.last ≡ None → Enters told none_more news old new
  pub again : (fault : Fault) → old.last ≡ Some fault → (news ≡ []) × (new ≡ old)

-- ---- several calls
-- what one entered, and what it left
pub record Stage (S : Type 0) : Type 0 where
  pub news : List Entered
  pub left : Serving S

abbrev pub ServesInTurn : {S : Type 0} → (S → Told) → List (Stage S) → Serving S → Serving S → Type 0
ServesInTurn {S} told [] old new = new ≡ old
ServesInTurn {S} told (stage ∷ more) old new = Serves told stage.news old stage.left
    × ServesInTurn told more stage.left new

-- calls made the one of the other, each of which served what it entered
abbrev pub Follows : {S : Type 0} → (S → Told) → Serving S → Serving S → Type 0
Follows {S} told old new = (stages : List (Stage S)) × ServesInTurn told stages old new

-- ---- one call
-- what an answer enters
abbrev pub entered_by : Result Receipt (Fault × Tuple) → Tuple → List Entered
entered_by (Ok receipt) offer = record { receipt = receipt; offer = offer } ∷ []
entered_by (Err refusal) offer = []
