-- What each kind of step tells the seat that does it.
use Rattle.std.specs.Prelude.{◌≡◌, ◌≢◌, ℕ, ◌+◌, ◌-◌, ◌%◌, ◌^◌, ◌<◌, List, [], ◌∷◌, ◌++◌, length, Option, None, Some, ⊤}
use Rattle.atomic_table.specs.Table.{Me, Step, rest}
use Rattle.irl_base.specs.declared.fault.Fault.{Fault}
use Rattle.irl_base.specs.declared.fault.Fault.TheVariants.{Memory}
use Rattle.irl_offer.specs.Tuple.{Tuple}
use Rattle.irl_offer.specs.declared.offer.Op.TheVariants.{Check}
use Rattle.irl_disk.specs.declared.store.Store.{Ghosts}
use Rattle.irl_bay.specs.Drum.{durable_at}
use Rattle.irl_schedule.specs.Feeding.{IsArrayOf}
use Rattle.irl_yard.specs.Holding.{IsSound}
use Rattle.irl_yard.specs.declared.yard.Yard.{Yard}
use Rattle.irl_lock.specs.Books.{buckets_of, fresh_known, shares_of}
use Rattle.irl_lock.specs.Rule.{kept_of, spent_view}
use Rattle.irl_lock.specs.declared.held.Bin.{Bin}
use Rattle.irl_lock.specs.declared.held.Held.{Held}
use Rattle.irl_lock.specs.declared.held.Held.TheVariants.{InBin, InYard}
use Rattle.irl_lock.specs.declared.held.Stand.{Stand}
use Rattle.irl_lock.specs.declared.view.Known.{Known}
use Rattle.irl_lock.specs.declared.view.View.{View}

-- the number behind a bin's last offer
abbrev pub end_of : Bin → ℕ
end_of bin = bin.first + length bin.array.items

-- one offer more waits
abbrev pub pushed : Bin → Tuple → Bin
pushed bin offer = record {
  first = bin.first;
  array = record { room = bin.array.room; items = bin.array.items ++ offer ∷ [] };
}

-- one offer more was handed in by a seat's own pass
abbrev pub with_entry : ℕ → ℕ → Tuple → Known → Known
with_entry b number offer known = record {
  parts = known.parts;
  mine = record {
    entries = known.mine.entries ++ record { receipt = record { bucket = b; number = number }; offer = offer } ∷ [];
    last = known.mine.last;
  };
  joined = known.joined;
}

-- the last fault of its own pass
abbrev pub with_last : Option Fault → Known → Known
with_last last known = record {
  parts = known.parts;
  mine = record { entries = known.mine.entries; last = last };
  joined = known.joined;
}

-- so many parts
abbrev pub with_parts : ℕ → Known → Known
with_parts parts known = record { parts = parts; mine = known.mine; joined = known.joined }

-- what another seat knows is known too
abbrev pub joined_known : Known → Known → Known
joined_known known other = record {
  parts = known.parts + other.parts;
  mine = known.mine;
  joined = known.joined ++ shares_of other;
}

abbrev pub no_offer : Tuple
no_offer = record { op = Check; key = 0; value = 0; from = 0; aux = [] }

-- what a seat knows, and the slots that are out with it
abbrev pub M : {S : Type 0} → Ghosts S → Type 0
M {S} tells = Me (Option (Held S tells)) (View S tells)

module _ {S : Type 0} {tells : Ghosts S} where
  -- the same seat with other turns, and with something else that it knows
  abbrev pub with_turns : List (ℕ × Held S tells) → View S tells → View S tells
  with_turns turns view = record { opening = view.opening; turns = turns; known = view.known }

  abbrev pub with_known : List (ℕ × Held S tells) → Known → View S tells → View S tells
  with_known turns known view = record { opening = view.opening; turns = turns; known = known }

  -- what stands behind a turn, as the store was opened: an array of the bucket, or the store, which is sound unless it
  -- stopped, and want of memory stops nothing
  abbrev pub IsBehind : Yard S tells → ℕ → Held S tells → Type 0
  IsBehind opening t (InBin bin) = (t < buckets_of opening) × IsArrayOf opening.parts.urls.settings t bin.array
  IsBehind opening t (InYard stand) = (t ≡ buckets_of opening)
      × (stand.yard.parts.urls.settings ≡ opening.parts.urls.settings)
      × (stand.last ≡ None → IsSound stand.yard.parts)
      × (stand.last ≡ Some Memory → ⊥)

  -- a bin goes on behind what the store has of its bucket
  abbrev pub GoesOn : Stand S tells → ℕ → Held S tells → Type 0
  GoesOn stand b (InBin bin) = bin.first ≡ durable_at stand.yard.parts.urls b
  GoesOn stand b (InYard other) = ⊤

  abbrev pub AllGoOn : Stand S tells → List (ℕ × Held S tells) → Type 0
  AllGoOn stand [] = ⊤
  AllGoOn stand (x ∷ more) = GoesOn stand x.0 x.1 × AllGoOn stand more

  -- what the store that is claimed says of the bins that the seat has, and of the last fault of its own pass
  abbrev pub FitsSeat : Held S tells → View S tells → Type 0
  FitsSeat (InBin bin) view = ⊤
  FitsSeat (InYard stand) view = AllGoOn stand view.turns
      × ((fault : Fault) → view.known.mine.last ≡ Some fault → stand.last ≡ Some fault)

  -- A turn is claimed: it was free, and the seat takes what stands behind it; or it was not, and nothing changes.
  abbrev pub Claimed : Step (Option (Held S tells)) → M tells → ℕ → M tells → Type 0
  Claimed s me found me' =
      (found ≡ 0 → (held : Held S tells)
      × (me' ≡ (with_turns ((s.word, held) ∷ me.0.turns) me.0, (s.word, Some held) ∷ me.1))
      × ((opening : Yard S tells) → me.0.opening ≡ kept_of opening → IsBehind opening s.word held)
      × FitsSeat held me.0)
      × (found ≢ 0 → me' ≡ me)

  -- the turn that was claimed last is given back
  abbrev pub Released : Step (Option (Held S tells)) → M tells → ℕ → M tells → Type 0
  Released s me found me' = me' ≡ (with_turns (rest me.0.turns) me.0, rest me.1)

  -- an offer is counted, under its bucket's turn
  abbrev pub Counted : ℕ → Tuple → Step (Option (Held S tells)) → M tells → ℕ → M tells → Type 0
  Counted b offer s me found me' = (bin : Bin) (more : List (ℕ × Held S tells)) → me.0.turns ≡ (b, InBin bin) ∷ more
      → (found ≡ end_of bin % 2 ^ 64)
      × (me' ≡ (with_known ((b, InBin (pushed bin offer)) ∷ more) (with_entry b found offer me.0.known) me.0, me.1))

  -- what the slots of the store and of a bucket have now is kept, and the fault by which the store stopped
  abbrev pub Noted : Step (Option (Held S tells)) → M tells → ℕ → M tells → Type 0
  Noted s me found me' = (last b : ℕ) (stand : Stand S tells) (bin : Bin)
      → me.1 ≡ (last, Some (InYard stand)) ∷ (b, Some (InBin bin)) ∷ []
      → me' ≡ (with_known ((last, InYard stand) ∷ (b, InBin bin) ∷ []) (with_last stand.last me.0.known) me.0, me.1)

  -- one part of a seat's goes to a new one
  abbrev pub left_of : View S tells → View S tells
  left_of view = with_known view.turns (with_parts (view.known.parts - 1) view.known) view

  abbrev pub right_of : View S tells → View S tells
  right_of view = with_known [] (fresh_known 1) view

  -- a seat takes in another, with what that one did
  abbrev pub both_of : View S tells → View S tells → View S tells
  both_of view other = with_known view.turns (joined_known view.known other.known) view

  abbrev pub spent_of : View S tells
  spent_of = spent_view
