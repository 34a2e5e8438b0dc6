-- Fronts that are loaded with shares.
use Rattle.std.proofs.Common.{◌≡◌, ◌∙◌, ℕ, zero, suc, ◌+◌, ◌<◌, Bool, true, false, cond, List, [], ◌∷◌, ◌++◌, length, map, set, get_or, Option, Some, None, inl, inr, refl, sym, ap, subst, arith}
use Rattle.std.specs.Prelude.{bytes_eq, slice_get}
use Rattle.std.specs.List.{All, AllByRecursion, Contains, fold}
use Rattle.std.specs.List.{enumerate_from}
use Rattle.std.specs.Option.{option_map}
use Rattle.std.proofs.lemmas.List.{length-map, map-set, map_push, set-get_or}
use Rattle.std.proofs.lemmas.List.FromFn.{get_or-enumerate_from, length-enumerate_from}
use Rattle.std.proofs.lemmas.Option.{slice_get-get_or, slice_get-map}
use Rattle.std.proofs.lemmas.List.Elements.{All-cons, All-head, All-tail}
use Rattle.irl_events.specs.Events.{Happened}
use Rattle.irl_key.specs.declared.web.Work.{Work}
use Rattle.irl_offer.specs.declared.note.Note.{Note}
use Rattle.irl_polite.specs.Inside.{Held, schedule}
use Rattle.irl_polite.specs.Schedule.{Schedule, with_note}
use Rattle.irl_polite.specs.declared.known.Known.{Known}
use Rattle.irl_polite.proofs.Lists.{cases_text, same_some}
use Rattle.irl_reach.specs.Along.{notes_in}
use Rattle.irl_robots.specs.Leave.{host_state}
use Rattle.irl_crawl.specs.Dealing.{AreNotesIn, HaveNotesIn, HaveTaken, TakesShare, dealt}
use Rattle.irl_crawl.specs.Workers.{AreFor, AreNotedIn, AreReady, IsNotedIn, loaded, schedules}
use Rattle.irl_crawl.specs.declared.dealing.Share.{Share}

-- ---- one front more
-- the next one is still as it was
pub next_idle : (shares : List Share) (olds news : List Schedule) (front : Schedule) → HaveTaken shares olds news → All (λ s. s.items ≡ []) olds → slice_get news (length shares) ≡ Some front
    → front.items ≡ []
next_idle [] olds news front taken none here = one olds none (subst (λ l. slice_get l 0 ≡ Some front) taken here)
  where
    one : (all : List Schedule) → All (λ s. s.items ≡ []) all → slice_get all 0 ≡ Some front → front.items ≡ []
    one [] none is = cc
    one (first ∷ rest) none is = ap (λ (s : Schedule). s.items) (sym (same_some first front is)) ∙ All-head (λ (s : Schedule). s.items ≡ []) first rest none
next_idle (share ∷ shares) [] news front taken none here = absurd taken
next_idle (share ∷ shares) (old ∷ olds) [] front taken none here = absurd taken
next_idle (share ∷ shares) (old ∷ olds) (new ∷ news) front taken none here = next_idle shares olds news front taken.1 (All-tail (λ (s : Schedule). s.items ≡ []) old olds none) here

pub next_taken : (shares : List Share) (share : Share) (olds news : List Schedule) (front new : Schedule) → HaveTaken shares olds news → slice_get news (length shares) ≡ Some front
    → TakesShare share front new
    → HaveTaken (shares ++ share ∷ []) olds (set news (length shares) new)
next_taken [] share olds news front new taken here takes = one olds news taken here
  where
    one : (olds news : List Schedule) → news ≡ olds → slice_get news 0 ≡ Some front → HaveTaken (share ∷ []) olds (set news 0 new)
    one [] [] same is = cc
    one [] (y ∷ ys) same is = absurd (cc)
    one (x ∷ xs) [] same is = cc
    one (x ∷ xs) (y ∷ ys) same is = (subst (λ (s : Schedule). TakesShare share s new) (sym (same_some y front is) ∙ first y x ys xs same) takes, rest y x ys xs same)
      where
        first : (a b : Schedule) (more others : List Schedule) → a ∷ more ≡ b ∷ others → a ≡ b
        first a b more others e = cc

        rest : (a b : Schedule) (more others : List Schedule) → a ∷ more ≡ b ∷ others → more ≡ others
        rest a b more others e = cc
next_taken (first ∷ shares) share [] news front new taken here takes = absurd taken
next_taken (first ∷ shares) share (old ∷ olds) [] front new taken here takes = absurd taken
next_taken (first ∷ shares) share (old ∷ olds) (one ∷ news) front new taken here takes = (taken.0, next_taken shares share olds news front new taken.1 here takes)

-- ---- by the places of shares
-- the shares of pairs, each with its place
abbrev pub shares_of : List (ℕ × Share) → List Share
shares_of pairs = map (λ p. p.1) pairs

pub placed : (shares : List Share) (pairs : List (ℕ × Share)) (at : ℕ) (share : Share) → (length pairs < length (enumerate_from 0 shares)) ×
    ((at, share) ≡ get_or (enumerate_from 0 shares) (length pairs) (at, share))
    → (at ≡ length pairs) × (length pairs < length shares)
placed shares pairs at share is =
    let few : length pairs < length shares = omega (arith, is.0, length-enumerate_from 0 shares) in
    let same : ◌≡◌ {A = ℕ × Share} (at, share) (0 + length pairs, get_or shares (length pairs) share) = is.1 ∙ get_or-enumerate_from 0 shares (length pairs) (at, share) few in
    let first : at ≡ 0 + length pairs = ap (λ (p : ℕ × Share). p.0) same in
    (omega (arith, first), few)

front_at : (fronts : List Held) (pairs : List (ℕ × Share)) (at : ℕ) (front : Held) → at ≡ length pairs → at < length fronts
    → slice_get (schedules fronts) (length (shares_of pairs)) ≡ Some (schedule (get_or fronts at front))
front_at fronts pairs at front is within =
    let n : length (shares_of pairs) ≡ at = length-map pairs (λ (p : ℕ × Share). p.1) ∙ sym is in
    ap (λ (k : ℕ). slice_get (schedules fronts) k) n ∙ slice_get-map schedule fronts at ∙ ap (option_map schedule) (slice_get-get_or fronts at front within)

pub idle_at : (pairs : List (ℕ × Share)) (olds : List Schedule) (fronts : List Held) (at : ℕ) (front : Held) → at ≡ length pairs → at < length fronts
    → HaveTaken (shares_of pairs) olds (schedules fronts)
    → All (λ s. s.items ≡ []) olds → (schedule (get_or fronts at front)).items ≡ []
idle_at pairs olds fronts at front is within taken none = next_idle (shares_of pairs) olds (schedules fronts) (schedule (get_or fronts at front)) taken none (front_at fronts pairs at front is within)

pub taken_more : (pairs : List (ℕ × Share)) (olds : List Schedule) (fronts : List Held) (at : ℕ) (front new : Held) (share : Share) → at ≡ length pairs → at < length fronts
    → HaveTaken (shares_of pairs) olds (schedules fronts)
    → TakesShare share (schedule (get_or fronts at front)) (schedule new) → HaveTaken (shares_of (pairs ++ (at, share) ∷ [])) olds (schedules (set fronts at new))
taken_more pairs olds fronts at front new share is within taken takes =
    let n : length (shares_of pairs) ≡ at = length-map pairs (λ (p : ℕ × Share). p.1) ∙ sym is in
    let more = next_taken (shares_of pairs) share olds (schedules fronts) (schedule (get_or fronts at front)) (schedule new) taken (front_at fronts pairs at front is within) takes in
    let there : HaveTaken (shares_of pairs ++ share ∷ []) olds (set (schedules fronts) at (schedule new)) = subst
    (λ (k : ℕ). HaveTaken (shares_of pairs ++ share ∷ []) olds (set (schedules fronts) k (schedule new))) n more in
    subst (λ (l : List Share). HaveTaken l olds (schedules (set fronts at new))) (sym (map_push (λ (p : ℕ × Share). p.1) pairs (at, share)))
    (subst (λ (l : List Schedule). HaveTaken (shares_of pairs ++ share ∷ []) olds l) (sym (map-set schedule fronts at new)) there)

-- one that isn't loaded stays
pub taken_still : (shares : List Share) (olds : List Schedule) (fronts : List Held) (at : ℕ) (front new : Held) → schedule new ≡ schedule (get_or fronts at front)
    → HaveTaken shares olds (schedules fronts)
    → HaveTaken shares olds (schedules (set fronts at new))
taken_still shares olds fronts at front new same taken =
    let is : schedules (set fronts at new) ≡ schedules fronts =
    map-set schedule fronts at new ∙ ap (λ (s : Schedule). set (schedules fronts) at s) same ∙ sym (map-set schedule fronts at (get_or fronts at front)) ∙ ap schedules (set-get_or fronts at front) in
    subst (HaveTaken shares olds) (sym is) taken

-- ---- what all have then
pub taken_length : (shares : List Share) (olds news : List Schedule) → HaveTaken shares olds news → length news ≡ length olds
taken_length [] olds news taken = ap (λ (l : List Schedule). length l) taken
taken_length (share ∷ shares) [] news taken = absurd taken
taken_length (share ∷ shares) (old ∷ olds) [] taken = absurd taken
taken_length (share ∷ shares) (old ∷ olds) (new ∷ news) taken = ap suc (taken_length shares olds news taken.1)

pub taken_agents : (agent : List ℕ) (shares : List Share) (olds news : List Schedule) → HaveTaken shares olds news → AreFor agent olds → AreFor agent news
taken_agents agent [] olds news taken are = subst (AreFor agent) (sym taken) are
taken_agents agent (share ∷ shares) [] news taken are = absurd taken
taken_agents agent (share ∷ shares) (old ∷ olds) [] taken are = absurd taken
taken_agents agent (share ∷ shares) (old ∷ olds) (new ∷ news) taken are =
    All-cons (λ (s : Schedule). s.agent ≡ agent) new news (ap (λ (s : Schedule). s.agent) taken.0.is ∙ All-head (λ (s : Schedule). s.agent ≡ agent) old olds are)
    (taken_agents agent shares olds news taken.1 (All-tail (λ (s : Schedule). s.agent ≡ agent) old olds are))

-- as many shares as fronts
pub taken_items : (shares : List Share) (olds news : List Schedule) → HaveTaken shares olds news → length shares ≡ length olds → loaded news ≡ dealt shares
taken_items [] [] news taken count = ap loaded taken
taken_items [] (old ∷ olds) news taken count = absurd (omega arith)
taken_items (share ∷ shares) [] news taken count = absurd taken
taken_items (share ∷ shares) (old ∷ olds) [] taken count = absurd taken
taken_items (share ∷ shares) (old ∷ olds) (new ∷ news) taken count =
    ap (λ (s : Schedule). s.items ++ loaded news) taken.0.is ∙ ap (λ l. share.items.items ++ l) (taken_items shares olds news taken.1 (omega arith))

pub taken_ready : (shares : List Share) (olds news : List Schedule) → HaveTaken shares olds news → length shares ≡ length olds → AreReady news
taken_ready [] [] news taken count at front here = let none : None ≡ Some front = subst (λ (l : List Schedule). slice_get l at ≡ Some front) taken here in absurd (cc)
taken_ready [] (old ∷ olds) news taken count at front here = absurd (omega arith)
taken_ready (share ∷ shares) [] news taken count at front here = absurd taken
taken_ready (share ∷ shares) (old ∷ olds) [] taken count at front here = absurd taken
taken_ready (share ∷ shares) (old ∷ olds) (new ∷ news) taken count zero front here = λ name. ap (λ (s : Schedule). s.awaited name) (sym (same_some new front here)) ∙ taken.0.ready name
taken_ready (share ∷ shares) (old ∷ olds) (new ∷ news) taken count (suc at) front here = taken_ready shares olds news taken.1 (omega arith) at front here

-- what holds of each item of a share, by the share's place, holds of the front's
pub taken_each : (P : ℕ → Work → Type 0) (shares : List Share) (olds news : List Schedule) → HaveTaken shares olds news → length shares ≡ length olds
    → ((at : ℕ) (share : Share) → slice_get shares at ≡ Some share → AllByRecursion (P at) share.items.items) → (at : ℕ) (front : Schedule) → slice_get news at ≡ Some front → AllByRecursion (P at)
    front.items
taken_each P [] [] news taken count each at front here = let none : None ≡ Some front = subst (λ (l : List Schedule). slice_get l at ≡ Some front) taken here in absurd (cc)
taken_each P [] (old ∷ olds) news taken count each at front here = absurd (omega arith)
taken_each P (share ∷ shares) [] news taken count each at front here = absurd taken
taken_each P (share ∷ shares) (old ∷ olds) [] taken count each at front here = absurd taken
taken_each P (share ∷ shares) (old ∷ olds) (new ∷ news) taken count each zero front here =
    subst (AllByRecursion (P 0)) (ap (λ (s : Schedule). s.items) (sym taken.0.is ∙ same_some new front here)) (each 0 share refl)
taken_each P (share ∷ shares) (old ∷ olds) (new ∷ news) taken count each (suc at) front here = taken_each (λ k. P (suc k)) shares olds news taken.1 (omega arith) (λ k. each (suc k)) at front here

-- ---- what they know
-- each is told by a note
abbrev KnowNotes : List ℕ → List Happened → (List ℕ → Option Known) → Type 0
KnowNotes agent events known = (host : List ℕ) (one : Known) → known host ≡ Some one → IsNotedIn agent events host one.state

noted_one : (agent : List ℕ) (events : List Happened) (known : List ℕ → Option Known) (note : Note) → KnowNotes agent events known → Contains (notes_in events) note
    → KnowNotes agent events (with_note agent known note)
noted_one agent events known note each told host one is = elim (cases_text host note.host) [
  | inl (e, same) ↦ here (bytes_eq host note.host) e same is
  | inr (e, other) ↦ there (bytes_eq host note.host) e is
]
  where
    read : Known
    read = record { state = host_state note.state agent; when = note.when }

    here : (b : Bool) → b ≡ true → host ≡ note.host → cond b (Some read) (known host) ≡ Some one → IsNotedIn agent events host one.state
    here true e same is = (note, told, sym same, ap (λ (k : Known). k.state) (same_some read one is))
    here false e same is = cc

    there : (b : Bool) → b ≡ false → cond b (Some read) (known host) ≡ Some one → IsNotedIn agent events host one.state
    there true e is = cc
    there false e is = each host one is

noted_all : (agent : List ℕ) (events : List Happened) (notes : List Note) (known : List ℕ → Option Known) → KnowNotes agent events known → AreNotesIn events notes
    → KnowNotes agent events (fold (with_note agent) known notes)
noted_all agent events [] known each are = each
noted_all agent events (note ∷ notes) known each are = noted_all agent events notes (with_note agent known note) (noted_one agent events known note each are.0) are.1

-- of a front that takes its share
noted_front : (agent : List ℕ) (events : List Happened) (share : Share) (old new : Schedule) → TakesShare share old new → old.agent ≡ agent → AreNotesIn events share.notes.items
    → KnowNotes agent events old.known
    → KnowNotes agent events new.known
noted_front agent events share old new takes is are each =
    subst (λ (s : Schedule). KnowNotes agent events s.known) (sym takes.is)
    (subst (λ (a : List ℕ). KnowNotes agent events (fold (with_note a) old.known share.notes.items)) (sym is) (noted_all agent events share.notes.items old.known each are))

pub taken_noted : (agent : List ℕ) (events : List Happened) (shares : List Share) (olds news : List Schedule) → HaveTaken shares olds news → HaveNotesIn events shares → AreFor agent olds
    → AreNotedIn agent events olds
    → AreNotedIn agent events news
taken_noted agent events [] olds news taken have are noted at front here = subst (AreNotedIn agent events) (sym taken) noted at front here
taken_noted agent events (share ∷ shares) [] news taken have are noted at front here = absurd taken
taken_noted agent events (share ∷ shares) (old ∷ olds) [] taken have are noted at front here = absurd taken
taken_noted agent events (share ∷ shares) (old ∷ olds) (new ∷ news) taken have are noted zero front here =
    subst (λ (s : Schedule). KnowNotes agent events s.known) (same_some new front here)
    (noted_front agent events share old new taken.0 (All-head (λ (s : Schedule). s.agent ≡ agent) old olds are) have.0 (noted 0 old refl))
taken_noted agent events (share ∷ shares) (old ∷ olds) (new ∷ news) taken have are noted (suc at) front here =
    taken_noted agent events shares olds news taken.1 have.1 (All-tail (λ (s : Schedule). s.agent ≡ agent) old olds are) (λ k. noted (suc k)) at front here
