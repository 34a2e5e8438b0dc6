-- What one turn makes of a state is a crawl: the offers that are entered, the notes that are kept, the outcomes that are settled,
-- and what is judged then.
use Rattle.std.proofs.Common.{◌≡◌, ◌∙◌, ℕ, ◌+◌, ◌-◌, ◌≤◌, List, [], ◌∷◌, ◌++◌, map, length, take, drop, refl, sym, ap, subst, arith, append_assoc, inl, inr}
use Rattle.std.specs.Prelude.{flat_map, ⊤}
use Rattle.std.specs.List.{AllByRecursion, Contains}
use Rattle.std.specs.List.Sorted.{IsPermutation}
use Rattle.std.proofs.lemmas.Grind.{flat_map-append}
use Rattle.std.proofs.lemmas.List.{append-nil, length-map, take_all}
use Rattle.std.proofs.lemmas.List.Elements.{All-contains, Contains-append_cases, Contains-append_left, Contains-append_right}
use Rattle.std.proofs.lemmas.List.Sorted.{Contains-permutation, IsPermutation-sym, length_permutation}
use Rattle.irl_answer.specs.Found.{offers_of}
use Rattle.irl_answer.specs.Outcomes.{outcome_of}
use Rattle.irl_base.proofs.Among.{among_trans}
use Rattle.irl_base.specs.Among.{IsAmong}
use Rattle.irl_core.specs.States.{url_text}
use Rattle.irl_events.specs.Events.{Event, Begin, Pairs, Pass, Robots, Settle, Happened, Progress, after_event, after_events, before_all}
use Rattle.irl_events.specs.State.{State, IsFrontState}
use Rattle.irl_fetch.specs.Handling.{Fetched, Denied, Handled, IsGiven, IsNoted, Noted, ShutOut, Treated, answered, done_of, entered_of, leave_for, outcome_for}
use Rattle.irl_key.specs.Web.{host_of, target_of}
use Rattle.irl_key.specs.declared.web.Work.{Work}
use Rattle.irl_ledger.specs.Settling.{outcomes_of as outcomes_from}
use Rattle.irl_model.specs.Book.{ArePrefixes, lengths_of, list_lengths, stretch}
use Rattle.irl_offer.specs.Offering.{Entered}
use Rattle.irl_offer.specs.Tuple.{Tuple}
use Rattle.irl_offer.specs.declared.done.Done.{Done}
use Rattle.irl_offer.specs.declared.note.Note.{Note}
use Rattle.irl_offer.specs.declared.outcome.Outcome.{Outcome}
use Rattle.irl_offer.specs.declared.settings.Settings.{Settings}
use Rattle.irl_polite.specs.Schedule.{Schedule, host}
use Rattle.irl_reach.proofs.Growing.{all_of, made_fronts}
use Rattle.irl_reach.proofs.Members.{all_from, all_member, drop_member, first_member, flat_cases, flat_left, flat_member, later_member, map_cases, map_member, member_cases, no_member}
use Rattle.irl_reach.proofs.Turns.{crawls_quiet, crawls_wider}
use Rattle.irl_reach.specs.Along.{notes_in, notes_of, outcomes_of, settled_in}
use Rattle.irl_reach.specs.Crawls.{ComesOf, IsSettled, LeavesNone, Visit, added_to, found_by, offers_below}
use Rattle.irl_reach.specs.Tapes.{IsNoteBy}
use Rattle.irl_record.specs.Widening.{Answers}
use Rattle.irl_robots.specs.Leave.{leave, leave_of}
use Rattle.irl_yard.specs.Adding.{notes_happened, with_event, with_notes}
use Rattle.irl_yard.specs.Passing.{come}
use Rattle.irl_crawl.specs.Fetching.{entries_of}
use Rattle.irl_crawl.specs.Judging.{IsJudged, IsOfPairs, OnlyJudges}
use Rattle.irl_crawl.specs.Leading.{GrowsInBatches}
use Rattle.irl_crawl.specs.Offering.{HasOffers, OnlyOffers, offers_in}
use Rattle.irl_crawl.specs.Sending.{SendsAll, SendsLinks}
use Rattle.irl_crawl.specs.Turning.{AreBatches, AreSettled, AsksOnce, IsBatch, LeavesFew, OnlyTurns, RestsOn, TurnsWhole, events_since, input_of, turns_in}
use Rattle.irl_crawl.specs.Workers.{Given, loaded}
use Rattle.irl_crawl.specs.Working.{Begun, KnowAsNoted}
use Rattle.irl_crawl.proofs.Batches.{grown_both, grown_more, grown_same, grown_to, turn_there}
use Rattle.irl_crawl.proofs.Few.{came_of, few_behind, few_none, few_settled}
use Rattle.irl_crawl.proofs.Numbers.{loaded_most}
use Rattle.irl_crawl.proofs.Resting.{rests_none, rests_wider, since_are}
use Rattle.irl_crawl.proofs.Rising.{WidensGiven}
use Rattle.irl_crawl.proofs.Sent.{after_both, sends_all_by, sends_by, sends_same}
use Rattle.irl_crawl.proofs.Unsent.{SendsNone, owes, unsent_both, unsent_offered, unsent_settled}
use Rattle.irl_crawl.proofs.Visits.{TurnOf, are_visits, asks_noted, found_among, found_handled, handled_loaded, is_handled, leave_read, noted_among, noted_by, notes_from, rests_noted, rests_unnoted, visits_few, visits_fewer, visits_for, visits_front, visits_in, visits_of, visits_once, work_text}

-- ---- events of a turn
-- a note that answers give, or sent pairs
abbrev pub IsPlain : Answers → Event → Type 0
IsPlain gives (Begin suffixes) = ⊥
IsPlain gives (Pairs cuts judged pairs) = ⊤
IsPlain gives (Pass judged) = ⊥
IsPlain gives (Robots note) = IsNoteBy gives note.host note.state
IsPlain gives (Settle fronts outcomes) = ⊥

-- or what is settled
abbrev pub IsOfTurn : Answers → Event → Type 0
IsOfTurn gives (Begin suffixes) = ⊥
IsOfTurn gives (Pairs cuts judged pairs) = ⊤
IsOfTurn gives (Pass judged) = ⊥
IsOfTurn gives (Robots note) = IsNoteBy gives note.host note.state
IsOfTurn gives (Settle fronts outcomes) = ⊤

module _ (gives : Answers) where
  plain_turn : (event : Event) → IsPlain gives event → IsOfTurn gives event
  plain_turn (Begin suffixes) is = is
  plain_turn (Pairs cuts judged pairs) is = is
  plain_turn (Pass judged) is = is
  plain_turn (Robots note) is = is
  plain_turn (Settle fronts outcomes) is = tt

  plain_unsettled : (event : Event) → IsPlain gives event → outcomes_of event ≡ []
  plain_unsettled (Begin suffixes) is = refl
  plain_unsettled (Pairs cuts judged pairs) is = refl
  plain_unsettled (Pass judged) is = refl
  plain_unsettled (Robots note) is = refl
  plain_unsettled (Settle fronts outcomes) is = absurd is

  pairs_plain : (event : Event) → IsOfPairs event → IsPlain gives event
  pairs_plain (Begin suffixes) is = is
  pairs_plain (Pairs cuts judged pairs) is = is
  pairs_plain (Pass judged) is = is
  pairs_plain (Robots note) is = absurd is
  pairs_plain (Settle fronts outcomes) is = is

  plain_batch : (most : ℕ) (event : Event) → IsPlain gives event → IsBatch most event
  plain_batch most (Begin suffixes) is = tt
  plain_batch most (Pairs cuts judged pairs) is = tt
  plain_batch most (Pass judged) is = tt
  plain_batch most (Robots note) is = tt
  plain_batch most (Settle fronts outcomes) is = absurd is

  -- the front stays
  plain_front : (p : Progress) (hs : List Happened) → AllByRecursion (λ (h : Happened). IsPlain gives h.0) hs → (after_events p hs).front ≡ p.front
  plain_front p [] plain = refl
  plain_front p ((Begin suffixes, places) ∷ hs) plain = absurd plain.0
  plain_front p ((Pairs cuts judged pairs, places) ∷ hs) plain = plain_front (after_event p (Pairs cuts judged pairs) places) hs plain.1
  plain_front p ((Pass judged, places) ∷ hs) plain = absurd plain.0
  plain_front p ((Robots note, places) ∷ hs) plain = plain_front (after_event p (Robots note) places) hs plain.1
  plain_front p ((Settle fronts outcomes, places) ∷ hs) plain = absurd plain.0

  front_stays : (settings : Settings) (x y : State) (more : List Happened) → y.events ≡ x.events ++ more → AllByRecursion (λ (h : Happened). IsPlain gives h.0) more
      → (come settings x).front ≡ (come settings y).front
  front_stays settings x y more events plain =
      let start : Progress = before_all settings.queues settings.buckets in
      sym (ap (λ (hs : List Happened). (after_events start hs).front) events ∙ ap (λ (p : Progress). p.front) (after_both start x.events more)
      ∙ plain_front (after_events start x.events) more plain)

  note_turn : (event : Event) (note : Note) → IsOfTurn gives event → Contains (notes_of event) note → IsNoteBy gives note.host note.state
  note_turn (Begin suffixes) note is c = absurd is
  note_turn (Pairs cuts judged pairs) note is c = absurd (no_member note c)
  note_turn (Pass judged) note is c = absurd is
  note_turn (Robots other) note is c = elim (member_cases other [] note c) [
    | inl same ↦ subst (λ (n : Note). IsNoteBy gives n.host n.state) same is
    | inr none ↦ absurd (no_member note none)
  ]
  note_turn (Settle fronts outcomes) note is c = absurd (no_member note c)

  notes_plain : (noted : List Noted) → ((one : Noted) → Contains noted one → IsNoted gives one) → AllByRecursion (λ (h : Happened). IsPlain gives h.0) (notes_happened (notes_from noted))
  notes_plain [] each = tt
  notes_plain (one ∷ noted) each = (noted_by gives one (each one (first_member one noted)), notes_plain noted (λ other c. each other (later_member one noted other c)))

  none_settled : (hs : List Happened) → AllByRecursion (λ (h : Happened). IsPlain gives h.0) hs → settled_in hs ≡ []
  none_settled [] plain = refl
  none_settled (h ∷ hs) plain = ap (λ ds. ds ++ settled_in hs) (plain_unsettled h.0 plain.0) ∙ none_settled hs plain.1

  -- the one settle stands where it is
  record StandsAlone (hs earlier : List Happened) (g h : Happened) : Type 0 where
    before : earlier ≡ hs
    same : h ≡ g

  stands_alone : (hs ks : List Happened) (g h : Happened) (earlier later : List Happened) → AllByRecursion (λ (k : Happened). IsPlain gives k.0) hs
      → AllByRecursion (λ (k : Happened). IsPlain gives k.0) ks → (IsPlain gives h.0 → ⊥) → hs ++ g ∷ ks ≡ earlier ++ h ∷ later → StandsAlone hs earlier g h
  stands_alone [] ks g h [] later left right settles is =
      let same : g ≡ h = cc in
      record { before = refl; same = sym same }
  stands_alone [] ks g h (e ∷ earlier) later left right settles is =
      let rest : ks ≡ earlier ++ h ∷ later = ap (drop 1) is in
      let there : Contains ks h = subst (λ l. Contains l h) (sym rest) (Contains-append_right earlier (h ∷ later) h (first_member h later)) in
      absurd (settles (all_member (λ (k : Happened). IsPlain gives k.0) ks h right there))
  stands_alone (k ∷ hs) ks g h [] later left right settles is =
      let same : k ≡ h = cc in
      absurd (settles (subst (λ (w : Happened). IsPlain gives w.0) same left.0))
  stands_alone (k ∷ hs) ks g h (e ∷ earlier) later left right settles is =
      let same : k ≡ e = cc in
      let rest : hs ++ g ∷ ks ≡ earlier ++ h ∷ later = ap (drop 1) is in
      let at = stands_alone hs ks g h earlier later left.1 right settles rest in
      record { before = ap (λ w. w ∷ earlier) (sym same) ∙ ap (λ l. k ∷ l) at.before; same = at.same }

-- notes that are kept, and those of sent pairs
notes_back : (notes : List Note) → notes_in (notes_happened notes) ≡ notes
notes_back [] = refl
notes_back (note ∷ notes) = ap (λ (ns : List Note). note ∷ ns) (notes_back notes)

pair_unnoted : (event : Event) → IsOfPairs event → notes_of event ≡ []
pair_unnoted (Begin suffixes) is = absurd is
pair_unnoted (Pairs cuts judged pairs) is = refl
pair_unnoted (Pass judged) is = absurd is
pair_unnoted (Robots note) is = absurd is
pair_unnoted (Settle fronts outcomes) is = absurd is

pairs_unnoted : (hs : List Happened) → AllByRecursion (λ (h : Happened). IsOfPairs h.0) hs → notes_in hs ≡ []
pairs_unnoted [] are = refl
pairs_unnoted (h ∷ hs) are = ap (λ ns. ns ++ notes_in hs) (pair_unnoted h.0 are.0) ∙ pairs_unnoted hs are.1

all_both : {X : Type 0} (P : X → Type 0) (xs ys : List X) → AllByRecursion P xs → AllByRecursion P ys → AllByRecursion P (xs ++ ys)
all_both P [] ys left right = right
all_both P (x ∷ xs) ys left right = (left.0, all_both P xs ys left.1 right)

all_weaker : {X : Type 0} (P Q : X → Type 0) (xs : List X) → ((x : X) → P x → Q x) → AllByRecursion P xs → AllByRecursion Q xs
all_weaker P Q [] weaker all = tt
all_weaker P Q (x ∷ xs) weaker all = (weaker x all.0, all_weaker P Q xs weaker all.1)

-- ---- lists of offers
-- all that is listed stands below the lengths of the lists
below_lengths : (firsts : List ℕ) (lists : List (List Tuple)) (offer : Tuple) → length lists ≤ length firsts → Contains (all_of lists) offer
    → Contains (stretch firsts firsts (list_lengths firsts lists) lists) offer
below_lengths [] [] offer le c = c
below_lengths [] (list ∷ lists) offer le c = absurd (omega arith)
below_lengths (first ∷ firsts) [] offer le c = absurd (no_member offer c)
below_lengths (first ∷ firsts) (list ∷ lists) offer le c =
    let rest = stretch firsts firsts (list_lengths firsts lists) lists in
    let none : first - first ≡ 0 = omega arith in
    let long : first + length list - first ≡ length list = omega arith in
    let whole : drop (first - first) (take (first + length list - first) list) ≡ list =
    ap (λ n. drop n (take (first + length list - first) list)) none ∙ take_all (first + length list - first) list (omega (arith, long)) in
    elim (Contains-append_cases list (all_of lists) offer c) [
      | inl here ↦ Contains-append_left _ rest offer (subst (λ l. Contains l offer) (sym whole) here)
      | inr there ↦ Contains-append_right _ rest offer (below_lengths firsts lists offer (omega arith) there)
    ]

-- what is added is listed
added_listed : (lists more : List (List Tuple)) (offer : Tuple) → Contains (added_to lists more) offer → Contains (all_of more) offer
added_listed lists [] offer c = c
added_listed [] (m ∷ more) offer c = elim (Contains-append_cases m (added_to [] more) offer c) [
  | inl here ↦ Contains-append_left m (all_of more) offer here
  | inr there ↦ Contains-append_right m (all_of more) offer (added_listed [] more offer there)
]
added_listed (list ∷ lists) (m ∷ more) offer c = elim (Contains-append_cases (drop (length list) m) (added_to lists more) offer c) [
  | inl here ↦ Contains-append_left m (all_of more) offer (drop_member (length list) m offer here)
  | inr there ↦ Contains-append_right m (all_of more) offer (added_listed lists more offer there)
]

prefixes_long : (lists more : List (List Tuple)) → ArePrefixes lists more → length more ≡ length lists
prefixes_long [] [] h = refl
prefixes_long [] (m ∷ more) h = absurd h
prefixes_long (list ∷ lists) [] h = absurd h
prefixes_long (list ∷ lists) (m ∷ more) h =
    let rest = prefixes_long lists more h.1 in
    omega (arith, rest)

-- ---- where nothing was done
pub turns_none : (given : Given) (agent suffixes : List ℕ) (settings : Settings) (most : ℕ) (x : State) → given.may_miss 0 → OnlyTurns given agent suffixes settings most x x
turns_none given agent suffixes settings most x may =
    let none : events_since x x ≡ [] = since_are x x [] (sym (append-nil x.events)) in
    record {
      visits = [];
      crawls = crawls_quiet (input_of suffixes []) given.gives agent [] x x refl refl;
      rests = rests_none given may (events_since x x) (ap notes_in none);
      front = tt;
      few = omega arith;
      behind = few_none settings most x x;
      batch = subst (λ hs. AreBatches most hs) (sym none) tt;
      settled = subst (λ hs. length (settled_in hs) ≤ most) (sym none) (omega arith);
      grows = grown_more settings 0 (turns_in (events_since x x)) x x (omega arith) (grown_same settings x);
      sends = sends_same suffixes settings x x refl;
    }

-- ---- where more was given
abbrev pub turns_wider : (part whole : Given) → WidensGiven part whole → (agent suffixes : List ℕ) (settings : Settings) (most : ℕ) (x y : State) → OnlyTurns part agent suffixes settings most x y
    → OnlyTurns whole agent suffixes settings most x y
turns_wider part whole wider agent suffixes settings most x y only = record {
  visits = only.visits;
  crawls = crawls_wider part.gives whole.gives wider.gives (input_of suffixes []) agent [] only.visits x y only.crawls;
  rests = rests_wider part whole wider only.visits (events_since x y) only.rests;
  front = only.front;
  few = only.few;
  behind = only.behind;
  batch = only.batch;
  settled = only.settled;
  grows = only.grows;
  sends = only.sends;
}

-- ---- a turn
module _ {given : Given} {agent suffixes : List ℕ} {settings : Settings} {most : ℕ} {x : State} {befores : List Schedule} {handled : List Handled} {noted : List Noted}
    {left : List Work} {begun : List Begun} (it : TurnOf given agent suffixes settings most x befores handled noted left begun) where
  -- by what it added, its events, and what they settle
  turns_by : (y : State) (more : List Happened) → IsFrontState x y → IsAmong (added_to x.urls.lists y.urls.lists) (offers_in (entries_of handled begun)) → y.events ≡ x.events ++ more
      → AllByRecursion (λ (h : Happened). IsOfTurn given.gives h.0) more → ((earlier later : List Happened) (h : Happened) (fronts : List ℕ) (outcomes : List (ℕ × Outcome))
      → more ≡ earlier ++ h ∷ later
      → h.0 ≡ Settle fronts outcomes → AllByRecursion (λ d. IsSettled suffixes agent (visits_in it) y.urls (x.events ++ earlier) fronts d.0 d.1) outcomes)
      → length (settled_in more) ≤ most → AreBatches most more → LeavesFew settings most (visits_in it) x y → GrowsInBatches settings (turns_in more) x y → RestsOn given (visits_in it) more
      → SendsLinks suffixes settings x y → OnlyTurns given agent suffixes settings most x y
  turns_by y more front among events told settled few batches behind grows rests sends =
      let since : events_since x y ≡ more = since_are x y more events in
      record {
        visits = visits_in it;
        crawls = record {
          once = visits_once it;
          visited = are_visits it y front;
          offers = among_trans among (found_among it y front);
          more = more;
          events = events;
          begun = λ h text there is.
              let no : IsOfTurn given.gives (Begin text) = subst (λ e. IsOfTurn given.gives e) is (all_member (λ (g : Happened). IsOfTurn given.gives g.0) more h told there) in
              absurd no;
          notes = λ note there.
              let from = flat_cases (λ (g : Happened). notes_of g.0) more note there in
              note_turn given.gives from.0.0 note (all_member (λ (g : Happened). IsOfTurn given.gives g.0) more from.0 told from.1) from.2;
          settled = settled;
        };
        rests = subst (RestsOn given (visits_in it)) (sym since) rests;
        front = visits_front it;
        few = visits_few it;
        behind = behind;
        batch = subst (λ hs. AreBatches most hs) (sym since) batches;
        settled = subst (λ hs. length (settled_in hs) ≤ most) (sym since) few;
        grows = subst (λ hs. GrowsInBatches settings (turns_in hs) x y) (sym since) grows;
        sends = sends;
      }

  -- where nothing is settled
  turns_plain : (y : State) (more : List Happened) → IsFrontState x y → IsAmong (added_to x.urls.lists y.urls.lists) (offers_in (entries_of handled begun)) → y.events ≡ x.events ++ more
      → AllByRecursion (λ (h : Happened). IsPlain given.gives h.0) more → GrowsInBatches settings 0 x y → RestsOn given (visits_in it) more → y.pairs ≡ x.pairs
      → OnlyTurns given agent suffixes settings most x y
  turns_plain y more front among events plain grows rests none =
      turns_by y more front among events
      (all_weaker (λ (h : Happened). IsPlain given.gives h.0) (λ (h : Happened). IsOfTurn given.gives h.0) more (λ h. plain_turn given.gives h.0) plain)
      (λ earlier later h fronts outcomes at is.
      let there : Contains more h = subst (λ l. Contains l h) (sym at) (Contains-append_right earlier (h ∷ later) h (first_member h later)) in
      let no : IsPlain given.gives (Settle fronts outcomes) = subst (λ e. IsPlain given.gives e) is (all_member (λ (g : Happened). IsPlain given.gives g.0) more h plain there) in
      absurd no)
      (subst (λ ds. length ds ≤ most) (sym (none_settled given.gives more plain)) (omega arith))
      (all_weaker (λ (h : Happened). IsPlain given.gives h.0) (λ (h : Happened). IsBatch most h.0) more (λ h. plain_batch given.gives most h.0) plain)
      (few_behind settings most (visits_in it) x y (visits_few it)
      (subst (λ front. AllByRecursion (λ (visit : Visit). Contains front visit.number) (visits_in it)) (front_stays given.gives settings x y more events plain) (visits_front it)))
      (grown_more settings 0 (turns_in more) x y (omega arith) grows) rests
      (sends_same suffixes settings x y none)

  -- what the workers entered is offered, or some of it
  pub offers_turn : (b : State) → IsFrontState x b → OnlyOffers settings (entries_of handled begun) x b → OnlyTurns given agent suffixes settings most x b
  offers_turn b front only =
      let events : b.events ≡ x.events ++ [] = ap (λ (s : State). s.events) only.others ∙ sym (append-nil x.events) in
      turns_plain b [] front only.among events tt only.grows (rests_unnoted it [] refl) (ap (λ (s : State). s.pairs) only.others)

  -- all of it is found by the visits
  pub offers_found : (b : State) (front : IsFrontState x b) (only : OnlyOffers settings (entries_of handled begun) x b)
      → IsAmong (offers_in (entries_of handled begun)) (flat_map (found_by suffixes b.urls) (offers_turn b front only).visits)
  unfolding offers_turn turns_plain turns_by
  offers_found b front only = found_among it b front

  -- and the notes are kept
  pub notes_turn : (b n : State) → IsFrontState x n → OnlyOffers settings (entries_of handled begun) x b → n ≡ with_notes (notes_from noted) b
      → OnlyTurns given agent suffixes settings most x n
  notes_turn b n front only is =
      let events : n.events ≡ x.events ++ notes_happened (notes_from noted) =
      ap (λ (s : State). s.events) is ∙ ap (λ (s : State). s.events ++ notes_happened (notes_from noted)) only.others in
      let lists : n.urls.lists ≡ b.urls.lists = ap (λ (s : State). s.urls.lists) is in
      turns_plain n (notes_happened (notes_from noted)) front
      (subst (λ ls. IsAmong (added_to x.urls.lists ls) (offers_in (entries_of handled begun))) (sym lists) only.among) events
      (notes_plain given.gives noted (λ one there. All-contains (IsNoted given.gives) noted one it.worked.notes there))
      (grown_to settings 0 x b n (ap (λ (s : State). s.urls) is) (ap (λ (s : State). s.pairs) is) only.grows) (rests_noted it (notes_happened (notes_from noted)) (notes_back (notes_from noted)))
      (ap (λ (s : State). s.pairs) is ∙ ap (λ (s : State). s.pairs) only.others)

-- ---- a turn in which all was done
module _ {given : Given} {agent suffixes : List ℕ} {settings : Settings} {most : ℕ} {x : State} {befores : List Schedule} {handled : List Handled} {noted : List Noted}
    (it : TurnOf given agent suffixes settings most x befores handled noted [] []) where
  abbrev entries : List Entered
  entries = flat_map entered_of handled

  abbrev settles : List (ℕ × Outcome)
  settles = outcomes_from (map done_of handled)

  pub whole_offers_turn : (b : State) → IsFrontState x b → OnlyOffers settings (flat_map entered_of handled) x b → OnlyTurns given agent suffixes settings most x b
  whole_offers_turn b front only = offers_turn it b front (subst (λ es. OnlyOffers settings es x b) (sym (append-nil (flat_map entered_of handled))) only)

  pub whole_notes_turn : (b n : State) → IsFrontState x n → OnlyOffers settings (flat_map entered_of handled) x b → n ≡ with_notes (notes_from noted) b
      → OnlyTurns given agent suffixes settings most x n
  whole_notes_turn b n front only is = notes_turn it b n front (subst (λ es. OnlyOffers settings es x b) (sym (append-nil (flat_map entered_of handled))) only) is

  settled_count : length settles ≡ length handled
  settled_count = length-map (map done_of handled) (λ (d : Done). (d.number, d.outcome)) ∙ length-map handled done_of

  settled_few : length settles ≤ most
  settled_few =
      let done = settled_count in
      let works : length (map (λ (one : Handled). one.work) handled ++ []) ≡ length (loaded befores) =
      length_permutation (loaded befores) (map (λ (one : Handled). one.work) handled ++ []) it.worked.items in
      let all : length (map (λ (one : Handled). one.work) handled ++ []) ≡ length handled =
      ap length (append-nil (map (λ (one : Handled). one.work) handled)) ∙ length-map handled (λ (one : Handled). one.work) in
      let names : length (map (λ (work : Work). work.number) (loaded befores)) ≡ length (loaded befores) = length-map (loaded befores) (λ (work : Work). work.number) in
      let most_are = loaded_most settings x it.store most it.numbers (map (λ (work : Work). work.number) (loaded befores)) it.first it.each in
      omega (arith, done, works, all, names, most_are)

  module _ (b : State) (begins : IsFrontState x b) (only : OnlyOffers settings (flat_map entered_of handled) x b) (offered : HasOffers (flat_map entered_of handled) x b)
      (y : State) (front : IsFrontState x y) (lists : y.urls.lists ≡ b.urls.lists) where
    firsts_are : y.urls.firsts ≡ b.urls.firsts
    firsts_are = (made_fronts settings x y it.store front).urls.firsts ∙ sym (made_fronts settings x b it.store begins).urls.firsts

    -- each offer that was entered stands below the lengths of the lists
    entered_below : (offer : Tuple) → Contains (offers_in entries) offer → Contains (offers_below (lengths_of b.urls) y.urls) offer
    entered_below offer there =
        let added : Contains (added_to x.urls.lists b.urls.lists) offer =
        Contains-permutation (offers_in entries) (added_to x.urls.lists b.urls.lists) offer (IsPermutation-sym (added_to x.urls.lists b.urls.lists) (offers_in entries) offered.all) there in
        let fronts = made_fronts settings x b it.store begins in
        let long : length b.urls.lists ≡ length x.urls.lists = prefixes_long x.urls.lists b.urls.lists fronts.urls.lists in
        let firsts : length b.urls.firsts ≡ length x.urls.firsts = ap length fronts.urls.firsts in
        let book = it.store.book in
        let same : length x.urls.firsts ≡ length x.urls.lists = book.firsts ∙ sym book.lists in
        let here = below_lengths b.urls.firsts b.urls.lists offer (omega (arith, long, firsts, same)) (added_listed x.urls.lists b.urls.lists offer added) in
        subst (λ fs. Contains (stretch fs fs (lengths_of b.urls) y.urls.lists) offer) (sym firsts_are)
        (subst (λ ls. Contains (stretch b.urls.firsts b.urls.firsts (lengths_of b.urls) ls) offer) (sym lists) here)

    -- what came of an item
    comes : (work : Work) (treated : Treated) → Contains handled (record { work = work; treated = treated }) → work.web ≡ url_text y.urls work.number → IsGiven given.gives suffixes work.web treated
        → ComesOf suffixes (visits_in it) y.urls (lengths_of b.urls) (leave_for treated) work.number (outcome_for work.web treated)
    comes work (Fetched answer entered) there text given =
        let visit : Visit = record { number = work.number; answer = answer } in
        let visited : Contains (visits_in it) visit =
        Contains-append_left (flat_map visits_of handled) _ visit
        (flat_member visits_of handled (record { work = work; treated = Fetched answer entered }) visit there (first_member visit [])) in (
          visit,
          visited,
          refl,
          ap (λ t. outcome_of t answer) text,
          λ offer found.
              let named : Contains (map (λ (e : Entered). e.offer) entered) offer =
              subst (λ os. Contains os offer) (sym (given.1 ∙ ap (λ t. offers_of suffixes t answer) text)) found in
              let from = map_cases (λ (e : Entered). e.offer) entered offer named in
              let all : Contains entries from.0 = flat_member entered_of handled (record { work = work; treated = Fetched answer entered }) from.0 there from.1 in
              entered_below offer (subst (λ o. Contains (offers_in entries) o) from.2 (map_member (λ (e : Entered). e.offer) entries from.0 all)),
        )
    comes work (Denied line) there text given = refl
    comes work ShutOut there text given = refl

    settled_one : (one : Handled) → Contains handled one
        → IsSettled suffixes agent (visits_in it) y.urls (x.events ++ notes_happened (notes_from noted)) (lengths_of b.urls) one.work.number (outcome_for one.work.web one.treated)
    settled_one one there =
        let is = is_handled it one there in
        let text : one.work.web ≡ url_text y.urls one.work.number = work_text it y front one.work (handled_loaded it one there) in
        let told = noted_among agent x.events befores noted (host one.work) is.state it.known is.noted in
        let allowed : leave told.0.state agent (target_of one.work.web) ≡ leave_for one.treated =
        leave_read told.0.state agent (target_of one.work.web) ∙ ap (λ state. leave_of state (target_of one.work.web)) told.3 ∙ is.leave in
        let came = comes one.work one.treated there text is.given in
        record {
          note = told.0;
          noted = told.1;
          host = told.2 ∙ ap host_of text;
          comes = subst (λ t. ComesOf suffixes (visits_in it) y.urls (lengths_of b.urls) (leave told.0.state agent (target_of t)) one.work.number (outcome_for one.work.web one.treated)) text
              (subst (λ l. ComesOf suffixes (visits_in it) y.urls (lengths_of b.urls) l one.work.number (outcome_for one.work.web one.treated)) (sym allowed) came);
        }

    settled_each : (d : ℕ × Outcome) → Contains settles d
        → IsSettled suffixes agent (visits_in it) y.urls (x.events ++ notes_happened (notes_from noted)) (lengths_of b.urls) d.0 d.1
    settled_each d there =
        let done = map_cases (λ (e : Done). (e.number, e.outcome)) (map done_of handled) d there in
        let from = map_cases done_of handled done.0 done.1 in
        let same : (from.0.work.number, outcome_for from.0.work.web from.0.treated) ≡ d = ap (λ (e : Done). (e.number, e.outcome)) from.2 ∙ done.2 in
        subst (λ (e : ℕ × Outcome). IsSettled suffixes agent (visits_in it) y.urls (x.events ++ notes_happened (notes_from noted)) (lengths_of b.urls) e.0 e.1) same (settled_one from.0 from.1)

    module _ (pairs : List Happened) (of_pairs : AllByRecursion (λ (h : Happened). IsOfPairs h.0) pairs) where
      abbrev notes : List Happened
      notes = notes_happened (notes_from noted)

      abbrev settling : Happened
      settling = (Settle (lengths_of b.urls) settles, [])

      abbrev more : List Happened
      more = notes ++ settling ∷ pairs

      plain_notes : AllByRecursion (λ (h : Happened). IsPlain given.gives h.0) notes
      plain_notes = notes_plain given.gives noted (λ one there. All-contains (IsNoted given.gives) noted one it.worked.notes there)

      plain_pairs : AllByRecursion (λ (h : Happened). IsPlain given.gives h.0) pairs
      plain_pairs = all_weaker (λ (h : Happened). IsOfPairs h.0) (λ (h : Happened). IsPlain given.gives h.0) pairs (λ h. pairs_plain given.gives h.0) of_pairs

      of_turn : AllByRecursion (λ (h : Happened). IsOfTurn given.gives h.0) more
      of_turn =
          let turned : (hs : List Happened) → AllByRecursion (λ (h : Happened). IsPlain given.gives h.0) hs → AllByRecursion (λ (h : Happened). IsOfTurn given.gives h.0) hs =
          λ hs. all_weaker (λ (h : Happened). IsPlain given.gives h.0) (λ (h : Happened). IsOfTurn given.gives h.0) hs (λ h. plain_turn given.gives h.0) in
          all_both (λ (h : Happened). IsOfTurn given.gives h.0) notes (settling ∷ pairs) (turned notes plain_notes) (tt, turned pairs plain_pairs)

      settled_are : settled_in more ≡ settles
      settled_are =
          flat_map-append (λ (h : Happened). outcomes_of h.0) notes (settling ∷ pairs) ∙ ap (λ ds. ds ++ (settles ++ settled_in pairs)) (none_settled given.gives notes plain_notes)
          ∙ ap (λ ds. settles ++ ds) (none_settled given.gives pairs plain_pairs) ∙ append-nil settles

      settled_at : (earlier later : List Happened) (h : Happened) (fronts : List ℕ) (outcomes : List (ℕ × Outcome)) → more ≡ earlier ++ h ∷ later → h.0 ≡ Settle fronts outcomes
          → AllByRecursion (λ d. IsSettled suffixes agent (visits_in it) y.urls (x.events ++ earlier) fronts d.0 d.1) outcomes
      settled_at earlier later h fronts outcomes at is =
          let alone = stands_alone given.gives notes pairs settling h earlier later plain_notes plain_pairs (λ plain. subst (λ e. IsPlain given.gives e) is plain) at in
          let event : Settle (lengths_of b.urls) settles ≡ Settle fronts outcomes = ap (λ (g : Happened). g.0) (sym alone.same) ∙ is in
          let fronts_are : lengths_of b.urls ≡ fronts = cc in
          let outcomes_are : settles ≡ outcomes = cc in
          subst (λ fs. AllByRecursion (λ (d : ℕ × Outcome). IsSettled suffixes agent (visits_in it) y.urls (x.events ++ earlier) fs d.0 d.1) outcomes) fronts_are
          (subst (λ ds. AllByRecursion (λ (d : ℕ × Outcome). IsSettled suffixes agent (visits_in it) y.urls (x.events ++ earlier) (lengths_of b.urls) d.0 d.1) ds) outcomes_are
          (subst (λ hs. AllByRecursion (λ (d : ℕ × Outcome). IsSettled suffixes agent (visits_in it) y.urls (x.events ++ hs) (lengths_of b.urls) d.0 d.1) settles) (sym alone.before)
          (all_from (λ (d : ℕ × Outcome). IsSettled suffixes agent (visits_in it) y.urls (x.events ++ notes) (lengths_of b.urls) d.0 d.1) settles settled_each)))

      notes_are : notes_in more ≡ notes_from noted
      notes_are =
          flat_map-append (λ (h : Happened). notes_of h.0) notes (settling ∷ pairs) ∙ ap (λ ns. ns ++ notes_in pairs) (notes_back (notes_from noted))
          ∙ ap (λ ns. notes_from noted ++ ns) (pairs_unnoted pairs of_pairs) ∙ append-nil (notes_from noted)

      -- ---- nothing is left over
      visits_are : visits_in it ≡ flat_map visits_of handled
      visits_are = append-nil (flat_map visits_of handled)

      visit_settled : (visit : Visit) → Contains (flat_map visits_of handled) visit → Contains settles (visit.number, outcome_of (url_text y.urls visit.number) visit.answer)
      visit_settled visit there =
          let from = flat_cases visits_of handled visit there in
          let one = from.0 in
          let done : Contains settles (one.work.number, outcome_for one.work.web one.treated) =
          map_member (λ (e : Done). (e.number, e.outcome)) (map done_of handled) (done_of one) (map_member done_of handled one from.1) in
          by one.work one.treated done (work_text it y front one.work (handled_loaded it one from.1)) from.2
        where
          by : (work : Work) (treated : Treated) → Contains settles (work.number, outcome_for work.web treated) → work.web ≡ url_text y.urls work.number
              → Contains (visits_for work.number treated) visit
              → Contains settles (visit.number, outcome_of (url_text y.urls visit.number) visit.answer)
          by work (Fetched answer entered) done text c = elim (member_cases (record { number = work.number; answer = answer }) [] visit c) [
            | inl same ↦
                subst (λ (v : Visit). Contains settles (v.number, outcome_of (url_text y.urls v.number) v.answer)) same
                (subst (λ t. Contains settles (work.number, outcome_of t answer)) text done)
            | inr none ↦ absurd (no_member visit none)
          ]
          by work (Denied line) done text c = absurd (no_member visit c)
          by work ShutOut done text c = absurd (no_member visit c)

      visits_settled : y.events ≡ x.events ++ more → AreSettled x y (visits_in it)
      visits_settled events =
          all_from (λ (visit : Visit). Contains (settled_in (events_since x y)) (came_of y.urls visit)) (visits_in it) (λ visit v.
          subst (λ ds. Contains ds (came_of y.urls visit)) (sym (ap settled_in (since_are x y more events) ∙ settled_are))
          (visit_settled visit (subst (λ vs. Contains vs visit) visits_are v)))

      -- some were loaded
      more_batches : 1 ≤ length handled → AreBatches most more
      more_batches some =
          let plain : (hs : List Happened) → AllByRecursion (λ (h : Happened). IsPlain given.gives h.0) hs → AreBatches most hs =
          λ hs. all_weaker (λ (h : Happened). IsPlain given.gives h.0) (λ (h : Happened). IsBatch most h.0) hs (λ h. plain_batch given.gives most h.0) in
          let count = settled_count in
          all_both (λ (h : Happened). IsBatch most h.0) notes (settling ∷ pairs) (plain notes plain_notes) ((omega (arith, some, count), settled_few), plain pairs plain_pairs)

      settled_turn : 1 ≤ length handled → GrowsInBatches settings 1 x y → y.events ≡ x.events ++ more → SendsLinks suffixes settings x y → OnlyTurns given agent suffixes settings most x y
      settled_turn some grows events sends =
          let among : IsAmong (added_to x.urls.lists y.urls.lists) (offers_in (entries_of handled [])) =
          subst (λ es. IsAmong (added_to x.urls.lists y.urls.lists) (offers_in es)) (sym (append-nil (flat_map entered_of handled)))
          (subst (λ ls. IsAmong (added_to x.urls.lists ls) (offers_in entries)) (sym lists) only.among) in
          turns_by it y more front among events of_turn settled_at (subst (λ ds. length ds ≤ most) (sym settled_are) settled_few) (more_batches some)
          (few_settled settings most (visits_in it) x y (visits_settled events)) (grown_more settings 1 (turns_in more) x y (turn_there notes pairs settling refl) grows)
          (rests_noted it more notes_are) sends

      module _ (events : y.events ≡ x.events ++ more) where
        since : events_since x y ≡ more
        since = since_are x y more events

        settled_asks : given.made ≤ answered handled noted → AsksOnce given (visits_in it) (events_since x y)
        settled_asks few = subst (AsksOnce given (visits_in it)) (sym since) (asks_noted it few more notes_are)

        settled_leaves : LeavesNone (input_of suffixes []) (visits_in it) x y
        settled_leaves = record {
          offers =
              let found : offers_in entries ≡ flat_map (found_by suffixes y.urls) (visits_in it) =
              found_handled it y front ∙ ap (λ vs. flat_map (found_by suffixes y.urls) vs) (sym visits_are) in
              subst (λ os. IsPermutation (added_to x.urls.lists y.urls.lists) os) found
              (subst (λ ls. IsPermutation (added_to x.urls.lists ls) (offers_in entries)) (sym lists) offered.all);
          settled = visits_settled events;
        }

        settled_whole : (afters : List Schedule) → IsJudged settings y → SendsAll suffixes settings x y → KnowAsNoted agent noted befores afters
            → TurnsWhole (length handled) agent suffixes settings (visits_in it) afters x y
        settled_whole afters judged sent knows = record {
          leaves = settled_leaves;
          count_is = sym (ap length (ap settled_in since ∙ settled_are)
              ∙ settled_count);
          few = subst (λ vs. length vs ≤ length handled) (sym visits_are) (visits_fewer handled);
          judged = judged;
          sent = sent;
          known = λ at front is name known has.
              let told = noted_among agent x.events befores noted name known.state it.known (knows at front is name known has) in
              let place : y.events ≡ (x.events ++ notes) ++ settling ∷ pairs = events ∙ sym (append_assoc x.events notes (settling ∷ pairs)) in
              let wider : Contains (notes_in ((x.events ++ notes) ++ settling ∷ pairs)) told.0 =
              flat_left (λ (h : Happened). notes_of h.0) (x.events ++ notes) (settling ∷ pairs) told.0 told.1 in
              (told.0, subst (λ hs. Contains (notes_in hs) told.0) (sym place) wider, told.2, told.3);
        }

  -- ---- by what the calls leave
  module _ (b n s : State) (begins : IsFrontState x b) (only : OnlyOffers settings (flat_map entered_of handled) x b) (offered : HasOffers (flat_map entered_of handled) x b)
      (kept : n ≡ with_notes (notes_from noted) b) (done : s ≡ with_event (Settle (lengths_of b.urls) (outcomes_from (map done_of handled))) [] n) where
    settled_events : s.events ≡ (x.events ++ notes_happened (notes_from noted)) ++ (Settle (lengths_of b.urls) (outcomes_from (map done_of handled)), []) ∷ []
    settled_events =
        let settling : Happened = (Settle (lengths_of b.urls) (outcomes_from (map done_of handled)), []) in
        let first : n.events ≡ x.events ++ notes_happened (notes_from noted) =
        ap (λ (z : State). z.events) kept ∙ ap (λ (z : State). z.events ++ notes_happened (notes_from noted)) only.others in
        ap (λ (z : State). z.events) done ∙ ap (λ hs. hs ++ settling ∷ []) first

    settled_lists : s.urls.lists ≡ b.urls.lists
    settled_lists = ap (λ (z : State). z.urls.lists) done ∙ ap (λ (z : State). z.urls.lists) kept

    settled_grown : GrowsInBatches settings 0 x s
    settled_grown =
        grown_to settings 0 x b s (ap (λ (z : State). z.urls) done ∙ ap (λ (z : State). z.urls) kept) (ap (λ (z : State). z.pairs) done ∙ ap (λ (z : State). z.pairs) kept) only.grows

    -- no pairs were sent before what is unjudged is judged
    settled_unsent : SendsNone settings x s
    settled_unsent =
        unsent_both settings x b s (unsent_offered settings x b only.others)
        (subst (SendsNone settings b) (sym (done ∙ ap (with_event (Settle (lengths_of b.urls) (outcomes_from (map done_of handled))) []) kept))
        (unsent_settled settings (notes_from noted) (map done_of handled) b))

    -- what is unjudged is judged, or some of it
    module _ (y : State) (front : IsFrontState x y) (judges : OnlyJudges suffixes settings s y) (some : 1 ≤ length handled) where
      judged_lists : y.urls.lists ≡ b.urls.lists
      judged_lists = judges.lists ∙ settled_lists

      judged_events : y.events
          ≡ x.events ++ (notes_happened (notes_from noted) ++ (Settle (lengths_of b.urls) (outcomes_from (map done_of handled)), []) ∷ judges.more)
      judged_events =
          let notes = notes_happened (notes_from noted) in
          let settling : Happened = (Settle (lengths_of b.urls) (outcomes_from (map done_of handled)), []) in
          judges.events ∙ ap (λ hs. hs ++ judges.more) settled_events ∙ append_assoc (x.events ++ notes) (settling ∷ []) judges.more
          ∙ append_assoc x.events notes (settling ∷ judges.more)

      judged_grown : GrowsInBatches settings 1 x y
      judged_grown = grown_more settings (0 + 1) 1 x y (omega arith) (grown_both settings 0 1 x s y settled_grown judges.grows)

      pub judges_turn : OnlyTurns given agent suffixes settings most x y
      judges_turn =
          settled_turn b begins only offered y front judged_lists judges.more judges.pairs some judged_grown judged_events
          (sends_by suffixes settings x s y (owes suffixes settings x s y.urls settled_unsent) judges.sends)

      pub whole_turn : (afters : List Schedule) → IsJudged settings y → SendsAll suffixes settings b y → KnowAsNoted agent noted befores afters → given.made ≤ answered handled noted
          → (turns : OnlyTurns given agent suffixes settings most x y) × TurnsWhole (length handled) agent suffixes settings turns.visits afters x y
          × AsksOnce given turns.visits (events_since x y)
      unfolding judges_turn settled_turn turns_by
      whole_turn afters judged sent knows few = (
        judges_turn,
        settled_whole b begins only offered y front judged_lists judges.more judges.pairs judged_events afters judged
            (sends_all_by suffixes settings x b y (owes suffixes settings x b y.urls (unsent_offered settings x b only.others)) sent) knows,
        settled_asks b begins only offered y front judged_lists judges.more judges.pairs judged_events few,
      )
