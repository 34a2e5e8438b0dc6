-- The rule of the table that passes share: it holds between any two steps of theirs.
use Rattle.std.specs.Prelude.{◌≡◌, ℕ, ◌+◌, ◌≤◌, List, [], length, map, Option, None, Some}
use mathlib.Core.Option.{some}
use lib.ListN.{get_elem?}
use Rattle.std.specs.declared.snapshot.Snapshot.{Snapshot}
use Rattle.atomic_table.specs.Table.{State}
use Rattle.irl_disk.specs.declared.store.Store.{Ghosts}
use Rattle.irl_yard.specs.declared.yard.Yard.{Yard}
use Rattle.irl_lock.specs.Books.{HasBooks, all_parts, buckets_of, fresh_known}
use Rattle.irl_lock.specs.Turns.{AreTurns}
use Rattle.irl_lock.specs.declared.held.Held.{Held}
use Rattle.irl_lock.specs.declared.view.Known.{Known}
use Rattle.irl_lock.specs.declared.view.View.{View}

module _ {S : Type 0} {tells : Ghosts S} where
  abbrev pub turns_of : View S tells → List (ℕ × Held S tells)
  turns_of view = view.turns

  abbrev pub known_of : View S tells → Known
  known_of view = view.known

  -- the store as it was opened, as a view has it
  abbrev pub kept_of : Yard S tells → Option (Snapshot (Yard S tells))
  kept_of opening = Some (record { marker = record {}; value = opening })

  abbrev pub view_of : Yard S tells → List (ℕ × Held S tells) → Known → View S tells
  view_of opening turns known = record { opening = kept_of opening; turns = turns; known = known }

  -- one that is of no use any more
  abbrev pub spent_view : View S tells
  spent_view = record { opening = None; turns = []; known = fresh_known 0 }

  -- what the first seat knows of a store that is just opened
  abbrev pub first_view : Yard S tells → View S tells
  first_view opening = view_of opening [] (fresh_known all_parts)

  -- of each seat: one with a part knows the store as it was opened, and one without holds no turn
  pub record IsSeat (opening : Yard S tells) (view : View S tells) : Type 0 where
    pub opening_is : 1 ≤ view.known.parts → view.opening ≡ kept_of opening
    pub idle : view.known.parts ≡ 0 → view.turns ≡ []

  pub record IsKept (opening : Yard S tells) (s : State (Option (Held S tells)) (View S tells)) : Type 0 where
    -- what stands behind each turn
    pub held : ℕ → Held S tells
    -- a word for each turn, and then one for each bucket that counts its offers
    pub long : length s.words ≡ (buckets_of opening + 1) + buckets_of opening
    pub turns : AreTurns (buckets_of opening) s.words s.homes (map turns_of s.views) held
    pub books : HasBooks opening s.words (map known_of s.views) held
    pub seats : (id : ℕ) (view : View S tells) → get_elem? s.views id ≡ some view → IsSeat opening view
