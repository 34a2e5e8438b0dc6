-- The words and the slots of a table that is made of a store which is just opened.
use Rattle.std.specs.Prelude.{◌≡◌, ℕ, ◌+◌, ◌^◌, ◌<◌, ◌≤◌, List, [], ◌∷◌, ◌++◌, length, Option, None, Some, slice_index}
use Rattle.std.specs.List.{AllByRecursion}
use mathlib.Core.Option.{some}
use lib.ListN.{get_elem?}
use Rattle.irl_array.specs.Waiting.{Waiting}
use Rattle.irl_disk.specs.declared.store.Store.{Ghosts}
use Rattle.irl_bay.specs.Drum.{durable_at}
use Rattle.irl_yard.specs.declared.yard.Yard.{Yard}
use Rattle.irl_lock.specs.Books.{bin_of, buckets_of, count_word}
use Rattle.irl_lock.specs.declared.held.Bin.{Bin}
use Rattle.irl_lock.specs.declared.held.Held.{Held}
use Rattle.irl_lock.specs.declared.held.Held.TheVariants.{InBin, InYard}
use Rattle.irl_lock.specs.declared.held.Stand.{Stand}

module _ {S : Type 0} {tells : Ghosts S} where
  -- no turn is held, and each bucket's count is what the store has of it
  pub record AreWords (yard : Yard S tells) (words : List ℕ) : Type 0 where
    pub count : length words ≡ (buckets_of yard + 1) + buckets_of yard
    pub turns : (t : ℕ) → t ≤ buckets_of yard → slice_index words t ≡ 0
    pub counts : (b : ℕ) → b < buckets_of yard
        → slice_index words (count_word yard b) ≡ durable_at yard.parts.urls b
    pub fit : (b : ℕ) → b < buckets_of yard → durable_at yard.parts.urls b < 2 ^ 64

  -- the store, which didn't stop
  abbrev pub first_stand : Yard S tells → Stand S tells
  first_stand yard = record { yard = yard; last = None }

  -- a bin is in a slot
  abbrev pub IsBin : Option (Held S tells) → Type 0
  IsBin slot = (bin : Bin) × (slot ≡ Some (InBin bin))

  -- a store is in it
  abbrev pub IsStand : Option (Held S tells) → Type 0
  IsStand slot = (stand : Stand S tells) × (slot ≡ Some (InYard stand))

  -- bins alone, and bins with a store behind them
  abbrev pub AreBins : List (Option (Held S tells)) → Type 0
  AreBins slots = AllByRecursion IsBin slots

  pub record HasStore (slots : List (Option (Held S tells))) : Type 0 where
    pub bins : List (Option (Held S tells))
    pub stand : Stand S tells
    pub slots_are : slots ≡ bins ++ Some (InYard stand) ∷ []
    pub bins_are : AreBins bins

  -- that store stands behind them
  abbrev pub IsStoreOf : List (Option (Held S tells)) → Yard S tells → Type 0
  IsStoreOf slots yard = (bins : List (Option (Held S tells))) × (stand : Stand S tells)
      × (slots ≡ bins ++ Some (InYard stand) ∷ []) × (stand.yard ≡ yard)

  -- a bin for each bucket, with its array, and behind them the store
  pub record AreSlots (yard : Yard S tells) (arrays : List Waiting) (slots : List (Option (Held S tells))) : Type 0
    where
      pub front : List (Option (Held S tells))
      pub front_are : AreBins front
      pub slots_are : slots ≡ front ++ Some (InYard (first_stand yard)) ∷ []
      pub count : length front ≡ buckets_of yard
      pub bins : (b : ℕ) → b < buckets_of yard
          → get_elem? front b ≡ some (Some (InBin (bin_of (first_stand yard) arrays b)))
