-- A pass beside the store that it is one of. That it is, and that it holds no turn, is one fact each and no data:
-- what can be read off a pass is a set, as passes are.
use Rattle.std.specs.Prelude.{◌≡◌, ℕ, List, [], ◌++◌, Option}
use Rattle.std.proofs.Common.{◌∙◌, refl, sym, ap, append-nil, append_assoc}
use Rattle.std.specs.Coded.{Coded, Coded-set, le_prop}
use Rattle.std.proofs.Math.Nat.{ℕ_set}
use Rattle.std.specs.declared.snapshot.Snapshot.{Snapshot}
use ghost.Sets.{retract_set}
use Rattle.atomic_table.specs.Seated.{TableId, table_id_coded}
use Rattle.irl_base.specs.declared.fault.Fault.{Fault}
use Rattle.irl_offer.specs.Offering.{Entered}
use Rattle.irl_model.specs.Book.{IsPrefixOf}
use Rattle.irl_disk.specs.declared.store.Store.{Ghosts}
use Rattle.irl_yard.specs.declared.yard.Yard.{Yard}
use Rattle.irl_lock.specs.Plays.{M}
use Rattle.irl_lock.specs.Seats.{IsOn}
use Rattle.irl_lock.specs.Sharing.{IsFree, IsOf, entries_in, parts_in}
use Rattle.irl_lock.specs.declared.held.Held.{Held}
use Rattle.irl_lock.specs.declared.pass.Pass.{Pass}
use Rattle.irl_lock.specs.declared.shared.Shared.{Shared}
use Rattle.irl_lock.specs.declared.view.Share.{Share}
use Rattle.irl_lock.specs.declared.view.View.{View}

module _ {S : Type 0} {tells : Ghosts S} (code : Coded (Pass S tells)) (pass : Pass S tells) where
  -- a pass that has this in it
  abbrev with_me : M tells → Pass S tells
  with_me me = record {
    token = record { marker = pass.token.marker; table_id = pass.token.table_id; id = pass.token.id; me = me };
    number = pass.number;
    last = pass.last;
  }

  abbrev with_view : View S tells → Pass S tells
  with_view view = with_me (view, pass.token.me.1)

  abbrev view : View S tells
  view = pass.token.me.0

  abbrev with_opening : Option (Snapshot (Yard S tells)) → Pass S tells
  with_opening opening = with_view (record { opening = opening; turns = view.turns; known = view.known })

  abbrev with_turns_in : List (ℕ × Held S tells) → Pass S tells
  with_turns_in turns = with_view (record { opening = view.opening; turns = turns; known = view.known })

  abbrev with_joined : List Share → Pass S tells
  with_joined joined = with_view (record {
    opening = view.opening;
    turns = view.turns;
    known = record { parts = view.known.parts; mine = view.known.mine; joined = joined };
  })

  abbrev with_fault : Option Fault → Pass S tells
  with_fault last = record { token = pass.token; number = pass.number; last = last }

  opening_set : IsSet (Option (Snapshot (Yard S tells)))
  opening_set = retract_set with_opening (λ (p : Pass S tells). p.token.me.0.opening) (λ o. refl) (Coded-set code)

  slots_set : IsSet (List (ℕ × Option (Held S tells)))
  slots_set = retract_set (λ (slots : List (ℕ × Option (Held S tells))). with_me (view, slots))
      (λ (p : Pass S tells). p.token.me.1) (λ o. refl) (Coded-set code)

  turns_set : IsSet (List (ℕ × Held S tells))
  turns_set = retract_set with_turns_in (λ (p : Pass S tells). p.token.me.0.turns) (λ o. refl) (Coded-set code)

  joined_set : IsSet (List Share)
  joined_set = retract_set with_joined (λ (p : Pass S tells). p.token.me.0.known.joined) (λ o. refl) (Coded-set code)

  fault_set : IsSet (Option Fault)
  fault_set = retract_set with_fault (λ (p : Pass S tells). p.last) (λ o. refl) (Coded-set code)

  pub on_prop : (table : TableId) (opening : Yard S tells) (own : TableId) → IsProp (IsOn table opening own view)
  on_prop table opening own x y = λ i. record {
    own_is = Coded-set table_id_coded _ _ x.own_is y.own_is i;
    words = ℕ_set _ _ x.words y.words i;
    slots = ℕ_set _ _ x.slots y.slots i;
    opening_is = opening_set _ _ x.opening_is y.opening_is i;
    part = le_prop x.part y.part i;
  }

  pub own_prop : (shared : Shared S tells) → IsProp (IsOf shared pass)
  own_prop shared x y = λ i. record {
    on = on_prop _ _ _ x.on y.on i;
    number = le_prop x.number y.number i;
  }

  pub free_prop : IsProp (IsFree pass)
  free_prop x y = λ i. record {
    slots = slots_set _ _ x.slots y.slots i;
    turns = turns_set _ _ x.turns y.turns i;
    last = fault_set _ _ x.last y.last i;
    joined = joined_set _ _ x.joined y.joined i;
  }

module _ {S : Type 0} {tells : Ghosts S} where
  -- After some offers: the store that is shared is the same, and the pass has its part yet. What was entered before
  -- stands at the front.
  pub record GoesOn (before after : Shared S tells) (old new : Pass S tells) : Type 0 where
    pub shared : after ≡ before
    pub parts : parts_in new ≡ parts_in old
    pub entries : IsPrefixOf (entries_in old) (entries_in new)

  pub goes_on_none : (shared : Shared S tells) (pass : Pass S tells) → GoesOn shared shared pass pass
  goes_on_none shared pass = record { shared = refl; parts = refl; entries = ([], sym (append-nil (entries_in pass))) }

  pub goes_on_both : (s0 s1 s2 : Shared S tells) (x y z : Pass S tells) → GoesOn s0 s1 x y → GoesOn s1 s2 y z
      → GoesOn s0 s2 x z
  goes_on_both s0 s1 s2 x y z one two = record {
    shared = two.shared ∙ one.shared;
    parts = two.parts ∙ one.parts;
    entries = (
      one.entries.0 ++ two.entries.0,
      two.entries.1 ∙ ap (λ (l : List Entered). l ++ two.entries.0) one.entries.1
          ∙ append_assoc (entries_in x) one.entries.0 two.entries.0,
    );
  }
