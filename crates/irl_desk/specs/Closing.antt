-- What closing a desk leaves, and so what the desk did from the yard that it was made of to the one that comes back.
use Rattle.std.specs.Prelude.{◌≡◌, ℕ, ◌+◌, ◌<◌, ◌≤◌, List, [], ◌++◌, length, slice_get, slice_index, Option, None, Some, Result, Ok, Err, OnOk, OnErr, IsErrOf}
use Rattle.std.specs.List.{AllByRecursion, Any}
use Rattle.std.specs.Option.{ForSome}
use Rattle.irl_array.specs.Waiting.{Waiting}
use Rattle.irl_base.specs.declared.fault.Fault.{Fault}
use Rattle.irl_base.specs.declared.fault.Fault.TheVariants.{Failed, Full}
use Rattle.irl_offer.specs.Offering.{Entered, fault_or}
use Rattle.irl_offer.specs.Tuple.{Tuple}
use Rattle.irl_model.specs.Book.{Book, IsPrefixOf, part}
use Rattle.irl_disk.specs.Images.{Told}
use Rattle.irl_bay.specs.Holding.{Holds}
use Rattle.irl_schedule.specs.Arrays.{waiting_at}
use Rattle.irl_schedule.specs.Feeding.{Moment, Fed, Stranded, list_at}
use Rattle.irl_schedule.specs.Schedule.{one_more}
use Rattle.irl_ledger.specs.Settling.{IsFlushed}
use Rattle.irl_yard.specs.Settling.{StandsAt}
use Rattle.irl_yard.specs.declared.parts.Parts.{Parts}
use Rattle.irl_intake.specs.Advancing.{StopsAt}
use Rattle.irl_desk.specs.Serving.{Serving, Enters, moment_at, offers_in}

-- ---- a desk that is closed
-- the last fault after an answer
abbrev pub last_after : Option Fault → Result (Unit {0}) Fault → Option Fault
last_after last (Ok _) = last
last_after last (Err fault) = fault_or last fault

-- the desk as it ends, with what waits still: the store that comes back is its store
abbrev pub ended : {S : Type 0} → Serving S → Result (Unit {0}) Fault → S → Parts → List Waiting → Serving S
ended {S} old result store parts arrays =
    record {
      store = store;
      parts = parts;
      arrays = arrays;
      entries = old.entries;
      last = last_after old.last result;
    }

-- Closing a desk, by the answer, and by what waits still in the end.
pub record Closes {S : Type 0} (told : S → Told) (result : Result (Unit {0}) Fault) (old : Serving S)
    (store : S) (parts : Parts) : Type 0 where
  pub arrays : List Waiting
  -- one flush of each bucket may be of less than a whole array
  pub enters : old.last ≡ None → Enters told one_more [] old (ended old result store parts arrays)
  -- after a fault but want of memory nothing is flushed, and it is answered again
  pub again : (fault : Fault) → old.last ≡ Some fault → (result ≡ Err fault)
      × (ended old result store parts arrays ≡ old)
  -- all is flushed, or the arrays of the first buckets are, and none behind one that is refused: `Full` names it
  pub emptied : OnOk result ((b : ℕ) → waiting_at arrays b ≡ [])
  pub ordered : old.last ≡ None → OnErr result ((n : ℕ)
      × StopsAt n (moment_at told old) (moment_at told (ended old result store parts arrays))
      × ((m : ℕ) → IsErrOf result (Full m) → m ≡ n))

-- ---- from the yard that it was made of
-- From one book to a later one each list has what it had, and behind that the offers of its bucket that were entered,
-- each at the number of its receipt.
pub record Spreads (buckets : ℕ) (entries : List Entered) (x y : Book) : Type 0 where
  pub lists : (b : ℕ) → b < buckets → list_at y b ≡ list_at x b ++ part buckets b (offers_in entries)
  pub stand : AllByRecursion (λ one. StandsAt y one.receipt one.offer) entries

-- Each list begins with what it had, and each offer past that was entered, with the number at which it stands.
pub record OnlyAdds (buckets : ℕ) (entries : List Entered) (x y : Book) : Type 0 where
  pub front : (b : ℕ) → b < buckets → IsPrefixOf (list_at x b) (list_at y b)
  pub each : (b place : ℕ) (offer : Tuple) → b < buckets → length (list_at x b) ≤ place
      → slice_get (list_at y b) place ≡ Some offer
      → Any (λ one. (one.offer ≡ offer)
      × (one.receipt ≡ record { bucket = b; number = slice_index y.firsts b + place })) entries

-- at Ok all that was entered is in the lists
abbrev pub HasSpread : List Entered → Moment → Moment → Type 0
HasSpread entries old new = ForSome old.store.files (λ _. (x : Book) → Holds old.store.images old.drum x
    → (fed : Fed 0 one_more (offers_in entries) old new x)
    × Spreads old.drum.settings.buckets entries x fed.book)

-- where it is refused, and not by the store, the lists have only that
abbrev pub HasAdded : List Entered → Moment → Moment → Type 0
HasAdded entries old new = ForSome old.store.files (λ _. (x : Book) → Holds old.store.images old.drum x
    → (fed : Fed 0 one_more (offers_in entries) old new x)
    × OnlyAdds old.drum.settings.buckets entries x fed.book)

-- nor is there else in what is told of a store that failed, was acknowledged, or is left by a stop
abbrev pub MayHaveAdded : List Entered → Moment → Moment → Type 0
MayHaveAdded entries old new = ForSome old.store.files (λ _. (x : Book) → Holds old.store.images old.drum x
    → (stranded : Stranded 0 one_more (offers_in entries) old new x)
    × OnlyAdds old.drum.settings.buckets entries x stranded.kept
    × OnlyAdds old.drum.settings.buckets entries x stranded.book
    × OnlyAdds old.drum.settings.buckets entries x stranded.most)

-- What a desk did, from a yard to the one that comes back.
pub record HandsBack {S : Type 0} (told : S → Told) (result : Result (Unit {0}) Fault) (entries : List Entered)
    (old new : Serving S) : Type 0 where
  pub enters : Enters told one_more entries old new
  -- what was answered last but want of memory, and was answered by closing it
  pub last : (fault : Fault) → new.last ≡ Some fault → result ≡ Err fault
  -- at Ok each receipt is that of an offer that is flushed
  pub flushed : OnOk result (AllByRecursion (λ one. IsFlushed new.parts.urls one.receipt) entries)
  pub spread : OnOk result (HasSpread entries (moment_at told old) (moment_at told new))
  pub added : (new.last ≡ Some Failed → ⊥) → HasAdded entries (moment_at told old) (moment_at told new)
  pub broken : new.last ≡ Some Failed → MayHaveAdded entries (moment_at told old) (moment_at told new)
