-- What one step of a crawl adds, as a crawl by itself.
use Rattle.std.proofs.Common.{◌≡◌, ◌≢◌, ◌∙◌, ◌<◌, ℕ, zero, suc, List, [], ◌∷◌, ◌++◌, map, length, drop, get_or, append_assoc, arith, refl, sym, ap, subst, inl, inr}
use Rattle.std.specs.Prelude.{AllPairs}
use Rattle.std.specs.List.{All, AllByRecursion, AllZip, Contains}
use Rattle.std.specs.List.Sorted.{IsPermutation}
use Rattle.std.proofs.lemmas.List.{append-nil, map-append}
use Rattle.std.proofs.lemmas.List.Elements.{All-append, Contains-append_left, Contains-append_right, Contains-get_or}
use Rattle.std.proofs.lemmas.List.Kept.{AllPairs-cons}
use Rattle.std.proofs.lemmas.List.Sorted.{IsPermutation-append_comm, IsPermutation-append_right}
use Rattle.irl_answer.specs.Notes.{requests_of}
use Rattle.irl_answer.specs.Outcomes.{outcome_of}
use Rattle.irl_base.proofs.Among.{among_none}
use Rattle.irl_base.specs.Among.{IsAmong}
use Rattle.irl_core.specs.States.{url_text, offers_of as offers_in}
use Rattle.irl_events.specs.Events.{Event, Begin, Pairs, Pass, Robots, Settle, Happened}
use Rattle.irl_events.specs.State.{State, blank_state}
use Rattle.irl_key.specs.Web.{host_of, target_of}
use Rattle.irl_model.specs.Book.{ArePrefixes, Book, flushed_lists, uniques}
use Rattle.irl_offer.specs.declared.note.Note.{Note}
use Rattle.irl_offer.specs.declared.note.NoteState.{NoteState}
use Rattle.irl_offer.specs.declared.outcome.Outcome.{Outcome}
use Rattle.irl_offer.specs.declared.reply.Want.TheVariants.{Page, Robots}
use Rattle.irl_offer.specs.declared.place.Place.{Place}
use Rattle.irl_offer.specs.declared.settings.Settings.{Settings}
use Rattle.irl_offer.specs.Tuple.{Tuple}
use Rattle.irl_record.specs.Taped.{Taped}
use Rattle.irl_record.specs.Widening.{Answers, Widens}
use Rattle.irl_robots.specs.declared.host.Leave.{Leave}
use Rattle.irl_robots.specs.declared.host.Leave.TheVariants.{Allowed, Denied, Shut}
use Rattle.irl_robots.specs.Leave.{leave}
use Rattle.irl_reach.specs.Along.{notes_in, notes_of, outcomes_of, settled_in}
use Rattle.irl_reach.specs.Crawls.{AreVisits, ComesOf, CrawlsOn, IsCrawlStore, IsKnown, IsSettled, IsTold, IsVisit, LeavesNone, Visit, added_to, found_by, numbers_in, seed_offers}
use Rattle.irl_reach.specs.Tapes.{IsNoteBy}
use Rattle.irl_reach.proofs.Growing.{all_of, drop_front}
use Rattle.irl_reach.proofs.Joining.{drop_within, grows_same, visits_later}
use Rattle.irl_reach.proofs.Judged.{unique_listed, unique_text}
use Rattle.irl_reach.proofs.Members.{all_from, all_member, drop_member, first_member, flat_cases, flat_member, later_member, map_cases, map_member, member_cases, no_member}

-- a unique URL of a store was offered there
pub number_offered : (settings : Settings) (state : State) (n : ℕ) → IsCrawlStore settings state → Contains (numbers_in state.urls) n
    → Contains (map (λ offer. offer.aux) (offers_in state.urls)) (url_text state.urls n)
number_offered settings state n is there =
    let from = map_cases (λ (p : ℕ × Tuple). p.0) (uniques state.urls) n there in
    let text : from.0.1.aux ≡ url_text state.urls n = sym (unique_text state.urls from.0 from.1) ∙ ap (url_text state.urls) from.2 in
    subst (λ t. Contains (map (λ (o : Tuple). o.aux) (offers_in state.urls)) t) text
    (map_member (λ (o : Tuple). o.aux) (offers_in state.urls) from.0.1 (unique_listed state.urls is.book is.dropped is.both from.0 from.1))

-- visits that each stand by what was offered before all of them
pub visits_apart : (suffixes : List ℕ) (gives : Answers) (agent : List ℕ) (end : State) (made : List Tuple) (visits : List Visit) → AllByRecursion (IsVisit suffixes gives agent end made) visits
    → AreVisits suffixes gives agent end made visits
visits_apart suffixes gives agent end made [] all = tt
visits_apart suffixes gives agent end made (v ∷ visits) all = (
  all.0,
  visits_later suffixes gives agent end end (grows_same end) made (made ++ found_by suffixes end.urls v) visits
      (λ o c. Contains-append_left made (found_by suffixes end.urls v) o c) (visits_apart suffixes gives agent end made visits all.1),
)

-- ---- no URL twice
pairs_append : {X : Type 0} (R : X → X → Type 0) (xs ys : List X) → AllPairs R xs → AllPairs R ys → ((x y : X) → Contains xs x → Contains ys y → R x y) → AllPairs R (xs ++ ys)
pairs_append R [] ys first second cross = second
pairs_append {X = X} R (x ∷ xs) ys first second cross =
    let head : All (R x) (xs ++ ys) =
    All-append (R x) xs ys (λ k d lt. first 0 (suc k) d (omega arith) (omega arith)) (λ k d lt. cross x (get_or ys k d) (first_member x xs) (Contains-get_or ys k d lt)) in
    AllPairs-cons R x (xs ++ ys) head
    (pairs_append R xs ys (λ i j d lt within. first (suc i) (suc j) d (omega arith) (omega arith)) second (λ y z c. cross y z (later_member x xs y c)))

-- what was settled isn't visited again
pub once_more : (state : State) (first second : List Visit) → AllPairs (λ x y. x ≢ y) (map (λ (v : Visit). v.number) first) → AllPairs (λ x y. x ≢ y) (map (λ (v : Visit). v.number) second)
    → AllByRecursion (λ (v : Visit). Contains (map (λ d. d.0) (settled_in state.events)) v.number) first
    → AllByRecursion (λ (v : Visit). Contains (map (λ d. d.0) (settled_in state.events)) v.number → ⊥) second → AllPairs (λ x y. x ≢ y) (map (λ (v : Visit). v.number) (first ++ second))
once_more state first second left right done others =
    subst (λ ns. AllPairs (λ x y. x ≢ y) ns) (sym (map-append (λ (v : Visit). v.number) first second))
    (pairs_append (λ x y. x ≢ y) (map (λ (v : Visit). v.number) first) (map (λ (v : Visit). v.number) second) left right (λ x y c d same.
    let one = map_cases (λ (v : Visit). v.number) first x c in
    let two = map_cases (λ (v : Visit). v.number) second y d in
    let settled = all_member (λ (v : Visit). Contains (map (λ d. d.0) (settled_in state.events)) v.number) first one.0 done one.1 in
    let unsettled = all_member (λ (v : Visit). Contains (map (λ d. d.0) (settled_in state.events)) v.number → ⊥) second two.0 others two.1 in
    unsettled (subst (λ n. Contains (map (λ d. d.0) (settled_in state.events)) n) (one.2 ∙ same ∙ sym two.2) settled)))

pub leaves_settled : (input : Taped) (visits : List Visit) (start end : State) → LeavesNone input visits start end
    → AllByRecursion (λ (v : Visit). Contains (map (λ d. d.0) (settled_in end.events)) v.number) visits
leaves_settled input visits start end is =
    let rest = drop (length start.events) end.events in
    all_from (λ (v : Visit). Contains (map (λ d. d.0) (settled_in end.events)) v.number) visits (λ v c.
    let came : ℕ × Outcome = (v.number, outcome_of (url_text end.urls v.number) v.answer) in
    let there = all_member (λ (w : Visit). Contains (settled_in rest) (w.number, outcome_of (url_text end.urls w.number) w.answer)) visits v is.settled c in
    let at = flat_cases (λ (g : Happened). outcomes_of g.0) rest came there in
    map_member (λ (d : ℕ × Outcome). d.0) (settled_in end.events) came
    (flat_member (λ (g : Happened). outcomes_of g.0) end.events at.0 came (drop_member (length start.events) end.events at.0 at.1) at.2))

-- ---- nothing is visited
none_twice : AllPairs (λ x y. x ≢ y) (map (λ (visit : Visit). visit.number) [])
none_twice i j d lt within = absurd (omega arith)

-- some of the seeds are offered, and no event settles anything
pub crawls_unvisited : (input : Taped) (gives : Answers) (agent : List ℕ) (before : List Visit) (start end : State) (more : List Happened)
    → IsAmong (added_to start.urls.lists end.urls.lists) (seed_offers input)
    → end.events ≡ start.events ++ more → ((h : Happened) (suffixes : List ℕ) → Contains more h → h.0 ≡ Begin suffixes → suffixes ≡ input.suffixes)
    → ((note : Note) → Contains (notes_in more) note → IsNoteBy gives note.host note.state) → settled_in more ≡ [] → CrawlsOn input gives agent before [] start end
crawls_unvisited input gives agent before start end more among events begun notes none = record {
  once = none_twice;
  visited = tt;
  offers = subst (λ l. IsAmong (added_to start.urls.lists end.urls.lists) l) (sym (append-nil (seed_offers input))) among;
  more = more;
  events = events;
  begun = begun;
  notes = notes;
  settled = λ earlier later h fronts outcomes at is.
      all_from (λ (d : ℕ × Outcome). IsSettled input.suffixes agent (before ++ []) end.urls (start.events ++ earlier) fronts d.0 d.1) outcomes (λ d c.
      let here : Contains (outcomes_of h.0) d = subst (λ (e : Event). Contains (outcomes_of e) d) (sym is) c in
      let there : Contains (settled_in more) d =
      subst (λ hs. Contains (settled_in hs) d) (sym at)
      (flat_member (λ (g : Happened). outcomes_of g.0) (earlier ++ h ∷ later) h d (Contains-append_right earlier (h ∷ later) h (first_member h later)) here) in
      absurd (no_member d (subst (λ ds. Contains ds d) none there)));
}

-- ---- the steps that visit nothing
pub added_same : (lists : List (List Tuple)) → added_to lists lists ≡ []
added_same [] = refl
added_same (list ∷ lists) =
    let none : drop (length list) list ≡ [] = ap (drop (length list)) (sym (append-nil list)) ∙ drop_front list [] in
    ap (λ l. l ++ added_to lists lists) none ∙ added_same lists

module _ (input : Taped) (gives : Answers) (agent : List ℕ) (before : List Visit) (start end : State) where
  pub crawls_seeds : IsAmong (added_to start.urls.lists end.urls.lists) (seed_offers input) → end.events ≡ start.events → CrawlsOn input gives agent before [] start end
  crawls_seeds among same =
      crawls_unvisited input gives agent before start end [] among (same ∙ sym (append-nil start.events)) (λ h suffixes c is. absurd (no_member h c)) (λ note c. absurd (no_member note c)) refl

  none_added : end.urls.lists ≡ start.urls.lists → IsAmong (added_to start.urls.lists end.urls.lists) (seed_offers input)
  none_added lists =
      subst (λ l. IsAmong l (seed_offers input)) (sym (ap (added_to start.urls.lists) lists ∙ added_same start.urls.lists)) (among_none (seed_offers input))

  -- a cut, or other pairs
  pub crawls_quiet : end.urls.lists ≡ start.urls.lists → end.events ≡ start.events → CrawlsOn input gives agent before [] start end
  crawls_quiet lists same = crawls_seeds (none_added lists) same

  begun_told : (event : Event) (suffixes : List ℕ) → IsTold input.suffixes gives event → event ≡ Begin suffixes → suffixes ≡ input.suffixes
  begun_told (Begin text) suffixes told is =
      let same : text ≡ suffixes = cc in
      sym same ∙ told
  begun_told (Pairs cuts judged pairs) suffixes told is = absurd (cc)
  begun_told (Pass judged) suffixes told is = absurd (cc)
  begun_told (Robots note) suffixes told is = absurd (cc)
  begun_told (Settle fronts outcomes) suffixes told is = absurd (cc)

  note_told : (event : Event) (note : Note) → IsTold input.suffixes gives event → Contains (notes_of event) note → IsNoteBy gives note.host note.state
  note_told (Begin text) note told c = absurd (no_member note c)
  note_told (Pairs cuts judged pairs) note told c = absurd (no_member note c)
  note_told (Pass judged) note told c = absurd (no_member note c)
  note_told (Robots other) note told c = elim (member_cases other [] note c) [
    | inl same ↦ subst (λ (n : Note). IsNoteBy gives n.host n.state) same told
    | inr none ↦ absurd (no_member note none)
  ]
  note_told (Settle fronts outcomes) note told c = absurd (no_member note c)

  none_told : (event : Event) → IsTold input.suffixes gives event → outcomes_of event ≡ []
  none_told (Begin text) told = refl
  none_told (Pairs cuts judged pairs) told = refl
  none_told (Pass judged) told = refl
  none_told (Robots note) told = refl
  none_told (Settle fronts outcomes) told = told

  -- one event
  pub crawls_event : (event : Event) (places : List Place) → end.urls.lists ≡ start.urls.lists → end.events ≡ start.events ++ (event, places) ∷ [] → IsTold input.suffixes gives event
      → CrawlsOn input gives agent before [] start end
  crawls_event event places lists events told =
      crawls_unvisited input gives agent before start end ((event, places) ∷ []) (none_added lists) events
      (λ h suffixes c is. elim (member_cases (event, places) [] h c) [
        | inl same ↦ begun_told event suffixes told (ap (λ (g : Happened). g.0) same ∙ is)
        | inr none ↦ absurd (no_member h none)
      ])
      (λ note c. note_told event note told (subst (λ l. Contains l note) (append-nil (notes_of event)) c)) (append-nil (outcomes_of event) ∙ none_told event told)

-- a store is made
all_none : (lists : List (List Tuple)) → all_of lists ≡ [] → added_to ([] ∷ []) lists ≡ []
all_none [] none = refl
all_none (list ∷ lists) none = ap (λ l. list ++ l) (added_all lists) ∙ none
  where
    added_all : (lists : List (List Tuple)) → added_to [] lists ≡ all_of lists
    added_all [] = refl
    added_all (l ∷ lists) = ap (λ m. l ++ m) (added_all lists)

pub crawls_made : (input : Taped) (gives : Answers) (agent : List ℕ) (before : List Visit) (end : State) → offers_in end.urls ≡ [] → end.events ≡ []
    → CrawlsOn input gives agent before [] blank_state end
crawls_made input gives agent before end none events =
    crawls_seeds input gives agent before blank_state end (subst (λ l. IsAmong l (seed_offers input)) (sym (all_none end.urls.lists none)) (among_none (seed_offers input))) events

-- ---- flushes
pub added_flushed : (lists longer : List (List Tuple)) (b : ℕ) (news : List Tuple) → ArePrefixes lists longer → b < length longer
    → IsPermutation (added_to lists (flushed_lists b news longer)) (added_to lists longer ++ news)
added_flushed [] [] b news h lt = absurd (omega arith)
added_flushed [] (m ∷ longer) b news h lt = absurd h
added_flushed (list ∷ lists) [] b news h lt = absurd h
added_flushed (list ∷ lists) (m ∷ longer) zero news h lt =
    let split : drop (length list) (m ++ news) ≡ drop (length list) m ++ news =
    ap (λ l. drop (length list) (l ++ news)) h.0.1 ∙ drop_within list h.0.0 news ∙ ap (λ l. drop (length list) l ++ news) (sym h.0.1) in
    let here = drop (length list) m in
    let rest = added_to lists longer in
    subst (λ l. IsPermutation (l ++ rest) ((here ++ rest) ++ news)) (sym split)
    (subst (λ l. IsPermutation l ((here ++ rest) ++ news)) (sym (append_assoc here news rest))
    (subst (λ l. IsPermutation (here ++ (news ++ rest)) l) (sym (append_assoc here rest news)) (IsPermutation-append_right here (news ++ rest) (rest ++ news) (IsPermutation-append_comm news rest))))
added_flushed (list ∷ lists) (m ∷ longer) (suc b) news h lt =
    let here = drop (length list) m in
    let later = added_flushed lists longer b news h.1 (omega arith) in
    subst (λ l. IsPermutation (here ++ added_to lists (flushed_lists b news longer)) l) (sym (append_assoc here (added_to lists longer) news))
    (IsPermutation-append_right here (added_to lists (flushed_lists b news longer)) (added_to lists longer ++ news) later)

-- ---- more answers
zip_wider : {X Y : Type 0} (R S : X → Y → Type 0) (xs : List X) (ys : List Y) → ((x : X) (y : Y) → R x y → S x y) → AllZip R xs ys → AllZip S xs ys
zip_wider R S [] [] wider all = tt
zip_wider R S [] (y ∷ ys) wider all = absurd all
zip_wider R S (x ∷ xs) [] wider all = absurd all
zip_wider R S (x ∷ xs) (y ∷ ys) wider all = (wider x y all.0, zip_wider R S xs ys wider all.1)

module _ (old new : Answers) (wider : Widens old new) where
  pub note_wider : (host : List ℕ) (state : NoteState) → IsNoteBy old host state → IsNoteBy new host state
  note_wider host state is = record {
    answers = is.answers;
    given = zip_wider (λ url answer. old url Robots answer) (λ url answer. new url Robots answer) (requests_of host is.answers) is.answers (λ url answer. wider url Robots answer) is.given;
    says = is.says;
  }

  known_wider : (events : List Happened) (host : List ℕ) (state : NoteState) → IsKnown old events host state → IsKnown new events host state
  known_wider events host state known = elim known [ inl event ↦ inl event | inr answers ↦ inr (note_wider host state answers) ]

  visits_wider : (suffixes agent : List ℕ) (end : State) (made : List Tuple) (visits : List Visit) → AreVisits suffixes old agent end made visits → AreVisits suffixes new agent end made visits
  visits_wider suffixes agent end made [] are = tt
  visits_wider suffixes agent end made (v ∷ visits) are = (
    record {
      begun = are.0.begun;
      unique = are.0.unique;
      offered = are.0.offered;
      state = are.0.state;
      known = known_wider end.events (host_of (url_text end.urls v.number)) are.0.state are.0.known;
      allowed = are.0.allowed;
      given = wider (url_text end.urls v.number) Page v.answer are.0.given;
    },
    visits_wider suffixes agent end (made ++ found_by suffixes end.urls v) visits are.1,
  )

  -- a crawl by some answers is one by more
  pub crawls_wider : (input : Taped) (agent : List ℕ) (before visits : List Visit) (start end : State) → CrawlsOn input old agent before visits start end
      → CrawlsOn input new agent before visits start end
  crawls_wider input agent before visits start end is = record {
    once = is.once;
    visited = visits_wider input.suffixes agent end (offers_in start.urls ++ seed_offers input) visits is.visited;
    offers = is.offers;
    more = is.more;
    events = is.events;
    begun = is.begun;
    notes = λ note c. note_wider note.host note.state (is.notes note c);
    settled = is.settled;
  }

-- ---- more visits before
comes_wider : (suffixes : List ℕ) (few many : List Visit) (urls : Book) (fronts : List ℕ) (l : Leave) (n : ℕ) (o : Outcome) → ((v : Visit) → Contains few v → Contains many v)
    → ComesOf suffixes few urls fronts l n o → ComesOf suffixes many urls fronts l n o
comes_wider suffixes few many urls fronts Allowed n o within c = (c.0, within c.0 c.1, c.2, c.3, c.4)
comes_wider suffixes few many urls fronts (Denied line) n o within c = c
comes_wider suffixes few many urls fronts Shut n o within c = c

-- a crawl from its first visit on is one after others too
pub crawls_behind : (input : Taped) (gives : Answers) (agent : List ℕ) (before visits : List Visit) (start end : State) → CrawlsOn input gives agent [] visits start end
    → CrawlsOn input gives agent before visits start end
crawls_behind input gives agent before visits start end is = record {
  once = is.once;
  visited = is.visited;
  offers = is.offers;
  more = is.more;
  events = is.events;
  begun = is.begun;
  notes = is.notes;
  settled = λ earlier later h fronts outcomes at same.
      let all = is.settled earlier later h fronts outcomes at same in
      all_from (λ (d : ℕ × Outcome). IsSettled input.suffixes agent (before ++ visits) end.urls (start.events ++ earlier) fronts d.0 d.1) outcomes (λ d c.
      let it = all_member (λ (e : ℕ × Outcome). IsSettled input.suffixes agent visits end.urls (start.events ++ earlier) fronts e.0 e.1) outcomes d all c in
      record {
        note = it.note;
        noted = it.noted;
        host = it.host;
        comes = comes_wider input.suffixes visits (before ++ visits) end.urls fronts (leave it.note.state agent (target_of (url_text end.urls d.0))) d.0 d.1
            (λ v. Contains-append_right before visits v) it.comes;
      });
}
