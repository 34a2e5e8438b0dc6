-- What a front holds before, while and after items and notes are loaded.
use Rattle.std.proofs.Common.{◌≡◌, ◌∙◌, ℕ, zero, suc, ◌<◌, ◌≤◌, false, List, [], ◌∷◌, ◌++◌, length, map, set, get_or, take, drop, Option, Some, None, refl, sym, ap, subst, inl, inr, arith}
use Rattle.std.specs.Prelude.{slice_get, IsSome, option_to_list}
use Rattle.std.specs.List.{All, AllZip, fold}
use Rattle.std.proofs.Math.Path.{fun_ext}
use Rattle.std.specs.BinaryHeap.{IsHeap}
use Rattle.std.proofs.lemmas.Bool.{cases_Bool}
use Rattle.std.proofs.lemmas.Option.{get_or_from_slice_get}
use Rattle.std.proofs.lemmas.List.Elements.{All-nil, All-head, All-set}
use Rattle.irl_offer.specs.declared.note.Note.{Note}
use Rattle.irl_key.specs.declared.web.Work.{Work}
use Rattle.irl_robots.specs.Leave.{host_state}
use Rattle.irl_polite.specs.declared.hosts.Host.{Host}
use Rattle.irl_polite.specs.declared.slots.Slot.{Slot}
use Rattle.irl_polite.specs.declared.known.Known.{Known}
use Rattle.irl_polite.specs.Schedule.{Schedule, host, changed, with_note, loaded}
use Rattle.irl_polite.specs.Inside.{items_of, schedule_of, seen, seen_at, host_at, IsTable, IsLeft, IsFirst, AreFirsts, AreNexts, AreOwned, IsOwner, IsTurn, AreTurns, Turn, turns_at, turn_cmp, IsSound, IsResting, Grows, IsEntered, IsRead, IsPlaced, IsOwned, IsReady, Noted, IsPrepared, IsCommitted, bare_host, bare_slot}
use Rattle.irl_polite.proofs.Lists.{get_some, same_some, none_of, changed_to_itself}
use Rattle.irl_polite.proofs.Tables.{schedules, field_set, seen_here, table_set}
use Rattle.irl_polite.proofs.Links.{items_split}
use Rattle.irl_polite.proofs.LinkingLemmas.{get_like, like_length, all_at}

-- nothing is left where there are no items
pub none_left : (slots : List Slot) → items_of slots ≡ [] → (at place : ℕ) → IsLeft slots at place → ⊥
none_left slots empty at place l =
    no_item (items_of (take at slots)) l.work (items_of (drop (suc at) slots)) (sym (items_split slots at l.slot l.work l.stands l.left) ∙ empty)
  where
    no_item : (xs : List Work) (w : Work) (ys : List Work) → xs ++ w ∷ ys ≡ [] → ⊥
    no_item [] w ys e = cc
    no_item (x ∷ xs) w ys e = cc

all_from : {X : Type 0} (P : X → Type 0) (xs : List X) → ((k : ℕ) (x : X) → slice_get xs k ≡ Some x → P x) → All P xs
all_from P xs f k d h =
    let x = get_some xs k h in
    subst P (sym (get_or_from_slice_get xs k x.0 d x.1)) (f k x.0 x.1)

module _ (names : List ℕ → Option ℕ) (hosts : List Host) (slots : List Slot) (left : ℕ) (turns : List Turn) (room : ℕ) (sound : IsSound names hosts slots left turns room)
    (empty : items_of slots ≡ []) where
  first_none : (place : ℕ) (owner : Host) → slice_get hosts place ≡ Some owner → owner.first ≡ None
  first_none place owner held = none_of owner.first (λ at is.
      let f : IsFirst slots place 0 (Some at) = subst (IsFirst slots place 0) is (sound.firsts place owner held) in
      none_left slots empty at place f.1)

  pub resting : All IsResting hosts
  resting = all_from IsResting hosts (λ place owner held. (
    elim (cases_Bool owner.awaited) [
      | inl asked ↦ absurd (sound.waiting place owner held asked (first_none place owner held))
      | inr idle ↦ idle
    ],
    first_none place owner held,
  ))

  pub no_turns : turns ≡ []
  no_turns = none_in turns sound.all.only
    where
      none_in : (ts : List Turn) → All (IsTurn hosts) ts → ts ≡ []
      none_in [] all = refl
      none_in (t ∷ ts) all =
          let is : IsTurn hosts t = All-head (IsTurn hosts) t ts all in
          absurd (let e = sym (first_none is.place is.owner is.stands) ∙ is.first in cc)

  -- hosts were entered, and nothing was loaded
  pub sound_grown : (names' : List ℕ → Option ℕ) (hosts' : List Host) (turns' : List Turn) (room' : ℕ) → Grows names hosts names' hosts' → turns' ≡ turns → room ≤ room'
      → IsSound names' hosts' slots left turns' room'
  sound_grown names' hosts' turns' room' grown same more =
      let none : turns' ≡ [] = same ∙ no_turns in
      let enough : length slots ≤ room = sound.reserved in
      record {
        table = grown.table;
        owned = λ at slot work st lf. absurd (none_left slots empty at slot.host (record { slot = slot; work = work; stands = st; left = lf; owner = refl }));
        firsts = λ place owner held. subst (IsFirst slots place 0) (sym (all_at IsResting hosts' place owner held grown.resting).1) (λ at le l. none_left slots empty at place l);
        nexts = λ at slot work le st lf. absurd (none_left slots empty at slot.host (record { slot = slot; work = work; stands = st; left = lf; owner = refl }));
        waiting = λ place owner held asked none. let e = sym asked ∙ (all_at IsResting hosts' place owner held grown.resting).0 in absurd cc;
        all = record {
          only = subst (All (IsTurn hosts')) (sym none) (All-nil (IsTurn hosts'));
          once = λ at. subst (λ (ts : List Turn). turns_at at ts ≤ 1) (sym same) (sound.all.once at);
          each = λ place owner at held first ready. let e = sym (all_at IsResting hosts' place owner held grown.resting).1 ∙ first in absurd cc;
        };
        heap = subst (IsHeap turn_cmp) (sym same) sound.heap;
        reserved = omega arith;
        count = sound.count;
      }

-- no host is awaited where all rest
pub none_awaited : (names : List ℕ → Option ℕ) (hosts : List Host) → IsTable names hosts → All IsResting hosts → (name : List ℕ) → (seen_at names hosts name).awaited ≡ false
none_awaited names hosts table resting name = by_place (names name) refl
  where
    by_place : (o : Option ℕ) → names name ≡ o → (seen (host_at hosts o)).awaited ≡ false
    by_place None is = refl
    by_place (Some place) is =
        let some = get_some hosts place (table.within name place is) in
        ap (λ h. (seen h).awaited) some.1 ∙ (all_at IsResting hosts place some.0 some.1 resting).0

-- the meaning stays as hosts are entered
pub means_grown : (agent : List ℕ) (delay moment : ℕ) (names names' : List ℕ → Option ℕ) (hosts hosts' : List Host) (slots : List Slot) → Grows names hosts names' hosts'
    → schedule_of agent delay moment names' hosts' slots ≡ schedule_of agent delay moment names hosts slots
means_grown agent delay moment names names' hosts hosts' slots grown =
    schedules (schedule_of agent delay moment names' hosts' slots) (schedule_of agent delay moment names hosts slots) refl refl refl refl
    (λ q. ap (λ s. s.known) (grown.same q)) (λ q. ap (λ s. s.due) (grown.same q)) (λ q. ap (λ s. s.awaited) (grown.same q))

-- what looks the same but for its links is seen alike
option_bare : Option Host → Option Host
option_bare None = None
option_bare (Some o) = Some (bare_host o)

seen_bare : (o p : Option Host) → option_bare o ≡ option_bare p → seen o ≡ seen p
unfolding option_bare
seen_bare None None e = refl
seen_bare None (Some p) e = cc
seen_bare (Some o) None e = cc
seen_bare (Some o) (Some p) e =
    let same : bare_host o ≡ bare_host p = same_some (bare_host o) (bare_host p) e in
    (λ i. record { known = (same i).known; due = (same i).due; awaited = (same i).awaited })

bare_get : (hs : List Host) (k : ℕ) → slice_get (map bare_host hs) k ≡ option_bare (slice_get hs k)
unfolding option_bare
bare_get [] k = refl
bare_get (h ∷ hs) zero = refl
bare_get (h ∷ hs) (suc k) = bare_get hs k

pub seen_like : (hs gs : List Host) → map bare_host hs ≡ map bare_host gs → (o : Option ℕ) → seen (host_at hs o) ≡ seen (host_at gs o)
seen_like hs gs same None = refl
seen_like hs gs same (Some k) = seen_bare (slice_get hs k) (slice_get gs k) (sym (bare_get hs k) ∙ ap (λ t. slice_get t k) same ∙ bare_get gs k)

pub table_like : (names : List ℕ → Option ℕ) (hs gs : List Host) → map bare_host hs ≡ map bare_host gs → IsTable names gs → IsTable names hs
table_like names hs gs same table = record {
  within = λ name place e. let lt : place < length gs = table.within name place e in let l : length hs ≡ length gs = like_length bare_host hs gs same in omega arith;
  apart = table.apart;
  named = λ place h e ready.
      let g = get_like bare_host hs gs place h same e in
      ap names (ap (λ (x : Host). x.name) (sym g.2)) ∙ table.named place g.0 g.1 (ap (λ (x : Host). x.awaited) g.2 ∙ ready);
}

pub ready_like : (hs gs : List Host) → map bare_host hs ≡ map bare_host gs → All IsResting gs → (place : ℕ) (h : Host) → slice_get hs place ≡ Some h → h.awaited ≡ false
ready_like hs gs same resting place h e =
    let g = get_like bare_host hs gs place h same e in
    ap (λ (x : Host). x.awaited) (sym g.2) ∙ (all_at IsResting gs place g.0 g.1 resting).0

-- the items of slots that look the same
items_bare : (ss : List Slot) → items_of (map bare_slot ss) ≡ items_of ss
items_bare [] = refl
items_bare (s ∷ ss) = ap (λ t. option_to_list s.work ++ t) (items_bare ss)

pub items_like : (ss ts : List Slot) → map bare_slot ss ≡ map bare_slot ts → items_of ss ≡ items_of ts
items_like ss ts same = sym (items_bare ss) ∙ ap items_of same ∙ items_bare ts

pub items_entered : (names : List ℕ → Option ℕ) (items : List Work) (slots : List Slot) → AllZip (IsEntered names) items slots → items_of slots ≡ items
items_entered names [] [] all = refl
items_entered names [] (s ∷ slots) all = absurd all
items_entered names (w ∷ items) [] all = absurd all
items_entered names (w ∷ items) (s ∷ slots) all =
    let rest : items_of slots ≡ items = items_entered names items slots all.1 in
    (λ i. option_to_list (all.0.holds i) ++ rest i)

pub zip_length : {X Y : Type 0} (R : X → Y → Type 0) (xs : List X) (ys : List Y) → AllZip R xs ys → length ys ≡ length xs
zip_length R [] [] all = refl
zip_length R [] (y ∷ ys) all = absurd all
zip_length R (x ∷ xs) [] all = absurd all
zip_length R (x ∷ xs) (y ∷ ys) all = ap suc (zip_length R xs ys all.1)

pub zip_at : {X Y : Type 0} (R : X → Y → Type 0) (xs : List X) (ys : List Y) → AllZip R xs ys → (k : ℕ) (y : Y) → slice_get ys k ≡ Some y → (x : X) × R x y
zip_at R [] [] all k y e = cc
zip_at R [] (z ∷ ys) all k y e = absurd all
zip_at R (x ∷ xs) [] all k y e = absurd all
zip_at R (x ∷ xs) (z ∷ ys) all zero y e = (x, subst (R x) (same_some z y e) all.0)
zip_at R (x ∷ xs) (z ∷ ys) all (suc k) y e = zip_at R xs ys all.1 k y e

module _ (names : List ℕ → Option ℕ) (agent : List ℕ) where
  pub owned_entered : (items : List Work) (slots new : List Slot) → AllZip (IsEntered names) items slots → map bare_slot new ≡ map bare_slot slots → AreOwned names new
  owned_entered items slots new all same at slot work stands has =
      let old = get_like bare_slot new slots at slot same stands in
      let w = zip_at (IsEntered names) items slots all at old.0 old.1 in
      let e : IsEntered names w.0 old.0 = w.1 in
      let is : w.0 ≡ work = same_some w.0 work (sym e.holds ∙ ap (λ (x : Slot). x.work) old.2 ∙ has) in
      let hosts : old.0.host ≡ slot.host = ap (λ (x : Slot). x.host) old.2 in
      subst (λ (v : Work). IsOwner names (host v) slot.host) is (subst (IsOwner names (host w.0)) hosts e.owner)

  pub all_owned : (hosts : List Host) → IsTable names hosts → (items : List Work) (slots : List Slot) → AllZip (IsEntered names) items slots → All (IsOwned hosts) slots
  all_owned hosts table items slots all = all_from (IsOwned hosts) slots (λ k slot stands.
      let w = zip_at (IsEntered names) items slots all k slot stands in
      let e : IsEntered names w.0 slot = w.1 in
      record { within = table.within (host w.0) slot.host e.owner.named; holds = subst IsSome (sym e.holds) refl })

  pub all_placed : (hosts : List Host) → IsTable names hosts → (notes : List Note) (read : List (ℕ × Known)) → AllZip (IsRead names agent) notes read → All (IsPlaced hosts) read
  all_placed hosts table notes read all = all_from (IsPlaced hosts) read (λ k r stands.
      let n = zip_at (IsRead names agent) notes read all k r stands in
      table.within n.0.host r.0 n.1.owner)

  -- what a note leaves of a table, and what is seen then
  pub record NotedTable (old : List Host) (notes : List Note) (new : List Host) : Type 0 where
    pub table : IsTable names new
    pub resting : All IsResting new
    pub known : (q : List ℕ) → (seen_at names new q).known ≡ fold (with_note agent) (λ p. (seen_at names old p).known) notes q
    pub due : (q : List ℕ) → (seen_at names new q).due ≡ (seen_at names old q).due
    pub awaited : (q : List ℕ) → (seen_at names new q).awaited ≡ (seen_at names old q).awaited

  pub noted_table : (notes : List Note) (read : List (ℕ × Known)) (old new : List Host) → AllZip (IsRead names agent) notes read → IsTable names old → All IsResting old → Noted old read new
      → NotedTable old notes new
  noted_table [] [] old new all table resting noted =
      subst (NotedTable old []) (sym noted) (record { table = table; resting = resting; known = λ q. refl; due = λ q. refl; awaited = λ q. refl })
  noted_table [] (r ∷ read) old new all table resting noted = absurd all
  noted_table (n ∷ notes) [] old new all table resting noted = absurd all
  noted_table (n ∷ notes) (r ∷ read) old new all table resting noted =
      let is : IsRead names agent n r = all.0 in
      let owner : Host = noted.0 in
      let held : slice_get old r.0 ≡ Some owner = noted.1 in
      let moved : Host = record owner { known = Some r.1 } in
      let mid = set old r.0 moved in
      let rest_of : IsResting owner = all_at IsResting old r.0 owner held resting in
      let own_name : owner.name ≡ n.host = table.apart owner.name n.host r.0 (table.named r.0 owner held rest_of.0) is.owner in
      let mid_table : IsTable names (set old r.0 moved) = table_set names old table n.host r.0 is.owner moved (λ ready. own_name) in
      let mid_resting : All IsResting (set old r.0 moved) = All-set IsResting old r.0 moved rest_of resting in
      let more = noted_table notes read (set old r.0 moved) new all.1 mid_table mid_resting noted.2 in
      let sees : seen_at names old n.host ≡ seen (Some owner) = seen_here names old table n.host r.0 is.owner owner held in
      let said : Some r.1 ≡ Some (record { state = host_state n.state agent; when = n.when }) = (λ i. Some (record { state = is.state i; when = is.when i })) in
      let step : (q : List ℕ) → (seen_at names (set old r.0 moved) q).known ≡ with_note agent (λ p. (seen_at names old p).known) n q =
      λ q. field_set names old table n.host r.0 is.owner moved (λ s. s.known) q ∙ ap (λ k. changed (λ p. (seen_at names old p).known) n.host k q) said in
      record {
        table = more.table;
        resting = more.resting;
        known = λ q. more.known q ∙ ap (λ f. fold (with_note agent) f notes q) (fun_ext step);
        due = λ q. more.due q ∙ field_set names old table n.host r.0 is.owner moved (λ s. s.due) q ∙ changed_to_itself (λ p. (seen_at names old p).due) n.host owner.due (ap (λ s. s.due) sees) q;
        awaited = λ q. more.awaited q ∙ field_set names old table n.host r.0 is.owner moved (λ s. s.awaited) q
            ∙ changed_to_itself (λ p. (seen_at names old p).awaited) n.host owner.awaited (ap (λ s. s.awaited) sees) q;
      }

pub noted_resting : (old : List Host) (read : List (ℕ × Known)) (new : List Host) → Noted old read new → All IsResting old → All IsResting new
noted_resting old [] new noted resting = subst (All IsResting) (sym noted) resting
noted_resting old (r ∷ read) new noted resting =
    noted_resting (set old r.0 (record noted.0 { known = Some r.1 })) read new noted.2
    (All-set IsResting old r.0 (record noted.0 { known = Some r.1 }) (all_at IsResting old r.0 noted.0 noted.1 resting) resting)

pub owned_longer : (hosts new : List Host) (slots : List Slot) → length new ≡ length hosts → All (IsOwned hosts) slots → All (IsOwned new) slots
owned_longer hosts new slots same all = λ k d h.
    let o = all k d h in
    record { within = subst (λ n. (get_or slots k d).host < n) (sym same) o.within; holds = o.holds }

pub owned_like : (hosts : List Host) (slots new : List Slot) → map bare_slot new ≡ map bare_slot slots → All (IsOwned hosts) slots → All (IsOwned hosts) new
owned_like hosts slots new same all = all_from (IsOwned hosts) new (λ k s stands.
    let old = get_like bare_slot new slots k s same stands in
    let o : IsOwned hosts old.0 = all_at (IsOwned hosts) slots k old.0 old.1 all in
    record { within = subst (λ n. n < length hosts) (ap (λ (x : Slot). x.host) old.2) o.within; holds = subst IsSome (ap (λ (x : Slot). x.work) old.2) o.holds })

pub all_ready : (hs gs : List Host) → map bare_host hs ≡ map bare_host gs → All IsResting gs → All IsReady hs
all_ready hs gs same resting = all_from IsReady hs (λ k h stands. ready_like hs gs same resting k h stands)

-- items were loaded
module _ (names : List ℕ → Option ℕ) (agent : List ℕ) (items : List Work) (notes : List Note) (hosts new : List Host) (made slots : List Slot) (read : List (ℕ × Known))
    (table : IsTable names hosts) (rest : All IsResting hosts) (prepared : IsPrepared names agent items notes made read) (done : IsCommitted hosts read new)
    (like : map bare_slot slots ≡ map bare_slot made) where
  noted : NotedTable names agent hosts notes done.between
  noted = noted_table names agent notes read hosts done.between prepared.heard table rest done.noted

  loaded_items : items_of slots ≡ items
  loaded_items = items_like slots made like ∙ items_entered names items made prepared.entered

  loaded_length : length slots ≡ length items
  loaded_length = like_length bare_slot slots made like ∙ zip_length (IsEntered names) items made prepared.entered

  pub sound_loaded : (left : ℕ) (turns : List Turn) (room : ℕ) → left ≡ length slots → AreFirsts new slots 0 → AreNexts slots 0 → AreTurns new turns → IsHeap turn_cmp turns → length slots ≤ room
      → IsSound names new slots left turns room
  sound_loaded left turns room count firsts nexts all heap enough = record {
    table = table_like names new done.between done.linked noted.table;
    owned = owned_entered names agent items made slots prepared.entered like;
    firsts = firsts;
    nexts = nexts;
    waiting = λ place owner held asked none. let e = sym asked ∙ ready_like new done.between done.linked noted.resting place owner held in absurd cc;
    all = all;
    heap = heap;
    reserved = enough;
    count = count ∙ loaded_length ∙ ap length (sym loaded_items);
  }

  seen_now : (q : List ℕ) → seen_at names new q ≡ seen_at names done.between q
  seen_now q = seen_like new done.between done.linked (names q)

  pub loaded_ready : (q : List ℕ) → (seen_at names new q).awaited ≡ false
  loaded_ready q = ap (λ s. s.awaited) (seen_now q) ∙ none_awaited names done.between noted.table noted.resting q

  -- what is known is what was and then what the notes say
  pub means_loaded : (delay moment : ℕ) (old : Schedule) → old ≡ schedule_of agent delay moment names hosts [] → schedule_of agent delay moment names new slots ≡ loaded old items notes
  means_loaded delay moment old is =
      schedules (schedule_of agent delay moment names new slots) (loaded (schedule_of agent delay moment names hosts []) items notes) refl refl refl loaded_items
      (λ q. ap (λ s. s.known) (seen_now q) ∙ noted.known q)
      (λ q. ap (λ s. s.due) (seen_now q) ∙ noted.due q)
      (λ q. ap (λ s. s.awaited) (seen_now q) ∙ noted.awaited q)
      ∙ ap (λ (s : Schedule). loaded s items notes) (sym is)
