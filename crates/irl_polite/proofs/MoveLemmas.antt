-- What a front holds after an item was answered, a robots file asked for, and one handed in: it stays sound, and its meaning
-- is that of the schedule.
use Rattle.std.proofs.Common.{◌≡◌, ◌∙◌, ℕ, suc, ◌+◌, ◌<◌, ◌≤◌, true, false, List, [], ◌∷◌, length, set, take, drop, Option, Some, None, refl, sym, ap, subst, inl, inr, arith}
use Rattle.std.specs.Prelude.{slice_get, MatchOption}
use Rattle.std.specs.List.Sorted.{IsPermutation}
use Rattle.std.specs.BinaryHeap.{IsHeap}
use Rattle.std.proofs.lemmas.Bool.{cases_eq}
use Rattle.std.proofs.lemmas.List.{length-set, length-append}
use Rattle.irl_key.specs.declared.web.Work.{Work}
use Rattle.irl_robots.specs.declared.host.HostState.{HostState}
use Rattle.irl_polite.specs.declared.hosts.Host.{Host}
use Rattle.irl_polite.specs.declared.slots.Slot.{Slot}
use Rattle.irl_polite.specs.declared.known.Known.{Known}
use Rattle.irl_polite.specs.Schedule.{Schedule, host, changed, next_due, fetched, refused, asked, handed_in}
use Rattle.irl_polite.specs.Inside.{items_of, schedule_of, seen, seen_at, IsLeft, IsFirst, AreFirsts, IsTurn, AreTurns, Turn, turn_cmp, item_at, turns_at, IsSound, IsReplaced}
use Rattle.irl_polite.proofs.Lists.{get_set_same, get_set_other, get_within, get_some, same_some, changed_to_itself}
use Rattle.irl_polite.proofs.Tables.{schedules, seen_here, field_set, table_set}
use Rattle.irl_polite.proofs.Links.{one_owner, items_split, items_without, owned_after, nexts_after, firsts_after, firsts_kept}
use Rattle.irl_polite.proofs.TurnLemmas.{others_popped, others_awaited, none_of_it, others_set, turns_none, turns_pushed, AreOthers, fewer, weaker}

module _ (names : List ℕ → Option ℕ) (hosts : List Host) (slots : List Slot) (left : ℕ) (turns : List Turn) (room : ℕ)
    (sound : IsSound names hosts slots left turns room) (name : List ℕ) (place : ℕ) (owner : Host)
    (named : names name ≡ Some place) (held : slice_get hosts place ≡ Some owner) where
  sees : seen_at names hosts name ≡ seen (Some owner)
  sees = seen_here names hosts sound.table name place named owner held

  -- what a host that changed leaves of the others that are awaited
  waiting_set : (moved : Host) → (moved.awaited ≡ true → moved.first ≡ None → ⊥) → (p : ℕ) (o : Host) → slice_get (set hosts place moved) p ≡ Some o → o.awaited ≡ true → o.first ≡ None → ⊥
  waiting_set moved keeps p o e = elim (cases_eq p place) [
    | inl same ↦
        let is : moved ≡ o = same_some moved o (sym (get_set_same hosts place moved (get_within hosts place owner held)) ∙ ap (slice_get (set hosts place moved)) (sym same) ∙ e) in
        subst (λ (h : Host). h.awaited ≡ true → h.first ≡ None → ⊥) is keeps
    | inr other ↦ sound.waiting p o (sym (get_set_other hosts place p moved other) ∙ e)
  ]

  module _ (agent : List ℕ) (delay moment : ℕ) where
    before : Schedule
    before = schedule_of agent delay moment names hosts slots

    module _ (moved : Host) (slots' : List Slot) where
      -- an item was answered, and its host is due at another moment
      pub means_fetched : moved.known ≡ owner.known → moved.awaited ≡ owner.awaited → moved.due ≡ next_due (schedule_of agent delay moment names hosts slots)
          → schedule_of agent delay moment names (set hosts place moved) slots' ≡ fetched (schedule_of agent delay moment names hosts slots) name (items_of slots')
      means_fetched known awaited due =
          schedules (schedule_of agent delay moment names (set hosts place moved) slots') (fetched (schedule_of agent delay moment names hosts slots) name (items_of slots')) refl refl refl refl
          (λ q. field_set names hosts sound.table name place named moved (λ s. s.known) q
          ∙ changed_to_itself (λ p. (seen_at names hosts p).known) name moved.known (ap (λ s. s.known) sees ∙ sym known) q)
          (λ q. field_set names hosts sound.table name place named moved (λ s. s.due) q ∙ ap (λ d. changed (λ p. (seen_at names hosts p).due) name d q) due)
          (λ q. field_set names hosts sound.table name place named moved (λ s. s.awaited) q
          ∙ changed_to_itself (λ p. (seen_at names hosts p).awaited) name moved.awaited (ap (λ s. s.awaited) sees ∙ sym awaited) q)

      -- an item was answered, and its host stays due when it was
      pub means_refused : moved.known ≡ owner.known → moved.awaited ≡ owner.awaited → moved.due ≡ owner.due
          → schedule_of agent delay moment names (set hosts place moved) slots' ≡ refused (schedule_of agent delay moment names hosts slots) (items_of slots')
      means_refused known awaited due =
          schedules (schedule_of agent delay moment names (set hosts place moved) slots') (refused (schedule_of agent delay moment names hosts slots) (items_of slots')) refl refl refl refl
          (λ q. field_set names hosts sound.table name place named moved (λ s. s.known) q
          ∙ changed_to_itself (λ p. (seen_at names hosts p).known) name moved.known (ap (λ s. s.known) sees ∙ sym known) q)
          (λ q. field_set names hosts sound.table name place named moved (λ s. s.due) q ∙ changed_to_itself (λ p. (seen_at names hosts p).due) name moved.due (ap (λ s. s.due) sees ∙ sym due) q)
          (λ q. field_set names hosts sound.table name place named moved (λ s. s.awaited) q
          ∙ changed_to_itself (λ p. (seen_at names hosts p).awaited) name moved.awaited (ap (λ s. s.awaited) sees ∙ sym awaited) q)

    module _ (moved : Host) where
      -- its robots file was asked for
      pub means_asked : moved.known ≡ owner.known → moved.awaited ≡ true → moved.due ≡ next_due (schedule_of agent delay moment names hosts slots)
          → schedule_of agent delay moment names (set hosts place moved) slots ≡ asked (schedule_of agent delay moment names hosts slots) name
      means_asked known awaited due =
          schedules (schedule_of agent delay moment names (set hosts place moved) slots) (asked (schedule_of agent delay moment names hosts slots) name) refl refl refl refl
          (λ q. field_set names hosts sound.table name place named moved (λ s. s.known) q
          ∙ changed_to_itself (λ p. (seen_at names hosts p).known) name moved.known (ap (λ s. s.known) sees ∙ sym known) q)
          (λ q. field_set names hosts sound.table name place named moved (λ s. s.due) q ∙ ap (λ d. changed (λ p. (seen_at names hosts p).due) name d q) due)
          (λ q. field_set names hosts sound.table name place named moved (λ s. s.awaited) q ∙ ap (λ d. changed (λ p. (seen_at names hosts p).awaited) name d q) awaited)

      -- what it said was handed in
      pub means_handed : (state : HostState) (when : ℕ) → moved.known ≡ Some (record { state = state; when = when }) → moved.awaited ≡ false → moved.due ≡ owner.due
          → schedule_of agent delay moment names (set hosts place moved) slots ≡ handed_in (schedule_of agent delay moment names hosts slots) name state when
      means_handed state when known awaited due =
          schedules (schedule_of agent delay moment names (set hosts place moved) slots) (handed_in (schedule_of agent delay moment names hosts slots) name state when) refl refl refl refl
          (λ q. field_set names hosts sound.table name place named moved (λ s. s.known) q ∙ ap (λ d. changed (λ p. (seen_at names hosts p).known) name d q) known)
          (λ q. field_set names hosts sound.table name place named moved (λ s. s.due) q ∙ changed_to_itself (λ p. (seen_at names hosts p).due) name moved.due (ap (λ s. s.due) sees ∙ sym due) q)
          (λ q. field_set names hosts sound.table name place named moved (λ s. s.awaited) q ∙ ap (λ d. changed (λ p. (seen_at names hosts p).awaited) name d q) awaited)

  -- the host is asked for its robots file
  pub sound_asked : (turn : Turn) (rest : List Turn) (due : ℕ) → owner.first ≡ Some (item_at turn) → IsPermutation turns (turn ∷ rest) → IsHeap turn_cmp rest
      → IsSound names (set hosts place (record owner { name = []; due = due; awaited = true })) slots left rest room
  sound_asked turn rest due first perm heap =
      let moved : Host = record owner { name = []; due = due; awaited = true } in
      record {
        table = table_set names hosts sound.table name place named moved (λ idle. absurd cc);
        owned = sound.owned;
        firsts = firsts_kept hosts slots place owner moved held refl sound.firsts;
        nexts = sound.nexts;
        waiting = waiting_set moved (λ asked none. let e : None ≡ Some (item_at turn) = sym none ∙ first in absurd cc);
        all = turns_none hosts slots sound.firsts place owner held moved rest (λ at fi idle. absurd cc)
            (others_set hosts slots sound.firsts place owner held moved rest
            (others_popped hosts slots sound.firsts place owner held turn turns rest first sound.all perm));
        heap = heap;
        reserved = sound.reserved;
        count = sound.count;
      }

  -- what its robots file said is handed in
  module _ (awaited : owner.awaited ≡ true) (at : ℕ) (first : owner.first ≡ Some at) where
    first_left : IsLeft slots at place
    first_left = let f : IsFirst slots place 0 (Some at) = subst (IsFirst slots place 0) first (sound.firsts place owner held) in f.1

    none_there : turns_at at turns ≡ 0
    none_there = none_of_it hosts slots sound.firsts place owner held at turns first_left (others_awaited hosts slots sound.firsts place owner held turns awaited sound.all)

    pub room_for_it : length turns < room
    room_for_it =
        let l = first_left in
        let within : at < length slots = get_within slots at l.slot l.stands in
        let few : length turns < length slots = fewer at (length slots) turns sound.all.once none_there within
        (weaker (IsTurn hosts) (λ t. item_at t < length slots)
        (λ t is.
        let f : IsFirst slots is.place 0 (Some (item_at t)) = subst (IsFirst slots is.place 0) is.first (sound.firsts is.place is.owner is.stands) in
        get_within slots (item_at t) f.1.slot f.1.stands) turns sound.all.only) in
        let enough : length slots ≤ room = sound.reserved in
        omega arith

    pub sound_handed : (known : Known) (turns' : List Turn) (room' : ℕ) → IsPermutation ((record { 0 = (owner.due, at) }) ∷ turns) turns' → IsHeap turn_cmp turns' → room ≤ room'
        → IsSound names (set hosts place (record owner { name = name; known = Some known; awaited = false })) slots left turns' room'
    sound_handed known turns' room' perm heap more =
        let moved : Host = record owner { name = name; known = Some known; awaited = false } in
        let enough : length slots ≤ room = sound.reserved in
        record {
          table = table_set names hosts sound.table name place named moved (λ idle. refl);
          owned = sound.owned;
          firsts = firsts_kept hosts slots place owner moved held refl sound.firsts;
          nexts = sound.nexts;
          waiting = waiting_set moved (λ asked none. absurd cc);
          all = turns_pushed hosts slots sound.firsts place owner held moved (record { 0 = (owner.due, at) }) turns turns' first refl refl none_there
              (others_set hosts slots sound.firsts place owner held moved turns
              (others_awaited hosts slots sound.firsts place owner held turns awaited sound.all)) perm;
          heap = heap;
          reserved = omega arith;
          count = sound.count;
        }

  -- an item is answered
  module _ (at : ℕ) (slot : Slot) (work : Work) (ready : owner.awaited ≡ false) (first : owner.first ≡ Some at) (stands : slice_get slots at ≡ Some slot)
      (has : slot.work ≡ Some work) (its : name ≡ host work) where
    pub sound_answered : (own_name : owner.name ≡ name) (turn : Turn) (due : ℕ) (turns' : List Turn) (left' room' : ℕ) → item_at turn ≡ at
        → IsReplaced turns turn due slot.next turns' → IsHeap turn_cmp turns' → room ≤ room' → left' + 1 ≡ left
        → IsSound names (set hosts place (record owner { due = due; first = slot.next })) (set slots at (record slot { work = None })) left' turns' room'
    sound_answered own_name turn due turns' left' room' there replaced heap more fewer_left =
        let moved : Host = record owner { due = due; first = slot.next } in
        let gone : Slot = record slot { work = None } in
        let named' : names (host work) ≡ Some place = ap names (sym its) ∙ named in
        let firsts' : AreFirsts (set hosts place moved) (set slots at gone) 0 =
        firsts_after slots at slot gone stands refl names hosts place owner work has named' held first sound.owned sound.firsts sound.nexts moved refl in
        let enough : length slots ≤ room = sound.reserved in
        let others : AreOthers place hosts replaced.rest = others_popped hosts slots sound.firsts place owner held turn turns replaced.rest (first ∙ ap Some (sym there)) sound.all replaced.out in
        let had : length (items_of slots) ≡ length (items_of (take at slots)) + length (work ∷ items_of (drop (suc at) slots)) =
        ap length (items_split slots at slot work stands has) ∙ length-append (items_of (take at slots)) (work ∷ items_of (drop (suc at) slots)) in
        let has_now : length (items_of (set slots at gone)) ≡ length (items_of (take at slots)) + length (items_of (drop (suc at) slots)) =
        ap length (items_without slots at slot gone stands refl) ∙ length-append (items_of (take at slots)) (items_of (drop (suc at) slots)) in
        let count : left ≡ length (items_of slots) = sound.count in
        record {
          table = table_set names hosts sound.table name place named moved (λ idle. own_name);
          owned = owned_after slots at slot gone stands refl names hosts place owner work has named' held first sound.owned sound.firsts sound.nexts;
          firsts = firsts';
          nexts = nexts_after slots at slot gone stands refl names hosts place owner work has named' held first sound.owned sound.firsts sound.nexts;
          waiting = waiting_set moved (λ asked none. let e : true ≡ false = sym asked ∙ ready in absurd cc);
          all = turns_after moved due slot.next replaced.rest turns' refl ready refl replaced.put
              (others_set hosts slots sound.firsts place owner held moved replaced.rest others) (fresh replaced.rest others);
          heap = heap;
          reserved = let same : length (set slots at gone) ≡ length slots = length-set slots at gone in omega arith;
          count = omega arith;
        }
      where
        is_slot : slot.host ≡ place
        is_slot =
            let f : IsFirst slots place 0 (Some at) = subst (IsFirst slots place 0) first (sound.firsts place owner held) in
            one_owner slots at slot.host place (record { slot = slot; work = work; stands = stands; left = has; owner = refl }) f.1

        fresh : (rest : List Turn) → AreOthers place hosts rest → (n : ℕ) → slot.next ≡ Some n → turns_at n rest ≡ 0
        fresh rest others n is =
            let f : IsFirst slots slot.host (at + 1) (Some n) = subst (IsFirst slots slot.host (at + 1)) is (sound.nexts at slot work (omega arith) stands has) in
            none_of_it hosts slots sound.firsts place owner held n rest (subst (IsLeft slots n) is_slot f.1) others

        turns_after : (moved : Host) (due : ℕ) (next : Option ℕ) (rest turns' : List Turn) → moved.first ≡ next → moved.awaited ≡ false → moved.due ≡ due
            → MatchOption next (turns' ≡ rest) (λ n. IsPermutation ((record { 0 = (due, n) }) ∷ rest) turns')
            → AreOthers place (set hosts place moved) rest → ((n : ℕ) → next ≡ Some n → turns_at n rest ≡ 0) → AreTurns (set hosts place moved) turns'
        turns_after moved due None rest turns' goes_on idle dues put others none =
            subst (AreTurns (set hosts place moved)) (sym put)
            (turns_none hosts slots sound.firsts place owner held moved rest (λ n fi re. let e : None ≡ Some n = sym goes_on ∙ fi in absurd cc) others)
        turns_after moved due (Some n) rest turns' goes_on idle dues put others none =
            turns_pushed hosts slots sound.firsts place owner held moved (record { 0 = (due, n) }) rest turns' goes_on idle dues (none n refl) others put

-- a host whose robots file is awaited stands in the table and has items left
pub record Awaiting (hosts : List Host) (place : ℕ) : Type 0 where
  pub owner : Host
  pub held : slice_get hosts place ≡ Some owner
  pub awaited : owner.awaited ≡ true
  pub at : ℕ
  pub first : owner.first ≡ Some at

pub awaiting : (names : List ℕ → Option ℕ) (hosts : List Host) (slots : List Slot) (left : ℕ) (turns : List Turn) (room : ℕ) → IsSound names hosts slots left turns room
    → (name : List ℕ) (place : ℕ) → names name ≡ Some place → (seen_at names hosts name).awaited ≡ true → Awaiting hosts place
awaiting names hosts slots left turns room sound name place named asked =
    let some = get_some hosts place (sound.table.within name place named) in
    let owner : Host = some.0 in
    let awaited : owner.awaited ≡ true = sym (ap (λ s. s.awaited) (seen_here names hosts sound.table name place named owner some.1)) ∙ asked in
    by_first owner.first owner refl some.1 awaited
  where
    by_first : (f : Option ℕ) (owner : Host) → owner.first ≡ f → slice_get hosts place ≡ Some owner → owner.awaited ≡ true → Awaiting hosts place
    by_first None owner is held awaited = absurd (sound.waiting place owner held awaited is)
    by_first (Some at) owner is held awaited = record { owner = owner; held = held; awaited = awaited; at = at; first = is }
