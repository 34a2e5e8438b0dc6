-- What a turn visits: URLs of the front, each to its text, by what was known of its host or noted since.
use Rattle.std.proofs.Common.{◌≡◌, ◌≢◌, ◌∙◌, ℕ, ◌+◌, ◌≤◌, List, [], ◌∷◌, ◌++◌, length, map, Some, refl, sym, ap, subst, arith, inl, inr}
use Rattle.std.specs.Prelude.{AllPairs, flat_map}
use Rattle.std.specs.List.{AllByRecursion, Contains}
use Rattle.std.specs.List.Sorted.{IsPermutation}
use Rattle.std.proofs.lemmas.Grind.{flat_map-append}
use Rattle.std.proofs.lemmas.List.{append-nil, length-append, length-map, map-append}
use Rattle.std.proofs.lemmas.List.Elements.{All-contains, All-nil, Contains-append_cases, Contains-append_left, Contains-append_right}
use Rattle.std.proofs.lemmas.List.Sorted.{Contains-permutation, IsPermutation-map, IsPermutation-refl, IsPermutation-sym, length_permutation}
use Rattle.irl_answer.specs.Found.{offers_of}
use Rattle.irl_base.proofs.Among.{among_append, among_none, among_same}
use Rattle.irl_base.specs.Among.{IsAmong}
use Rattle.irl_core.specs.States.{begun_with, url_text, offers_of as offers_listed}
use Rattle.irl_events.specs.Events.{Happened, Robots}
use Rattle.irl_events.specs.State.{State, IsFrontState}
use Rattle.irl_fate.specs.Standing.{count}
use Rattle.irl_fate.specs.Fronts.{AreFirst}
use Rattle.irl_fetch.specs.Handling.{Fetched, Denied, Handled, IsGiven, IsHandled, IsNoted, Noted, ShutOut, Treated, answered, answers_for, answers_of, entered_for, entered_of, missing}
use Rattle.irl_fetch.specs.Pages.{IsPart}
use Rattle.irl_fetch.proofs.Handling.{missing_both}
use Rattle.irl_key.specs.Web.{host_of, target_of}
use Rattle.irl_key.specs.declared.web.Work.{Work}
use Rattle.irl_offer.specs.Offering.{Entered}
use Rattle.irl_offer.specs.Tuple.{Tuple}
use Rattle.irl_offer.specs.declared.note.Note.{Note}
use Rattle.irl_offer.specs.declared.note.NoteState.{NoteState}
use Rattle.irl_offer.specs.declared.note.NoteState.TheVariants as note
use Rattle.irl_offer.specs.declared.reply.Answer.{Answer}
use Rattle.irl_offer.specs.declared.reply.Answer.TheVariants.{Reply, NoReply, Short, BadReply, TooLarge, Coded}
use Rattle.irl_offer.specs.declared.reply.Want.TheVariants.{Page}
use Rattle.irl_offer.specs.declared.settings.Settings.{Settings}
use Rattle.irl_polite.specs.Schedule.{Schedule, host}
use Rattle.irl_reach.proofs.Growing.{Grows, grows}
use Rattle.irl_reach.proofs.Members.{all_from, all_member, first_member, flat_cases, flat_left, flat_member, flat_right, later_member, map_member, member_cases, no_member}
use Rattle.irl_reach.proofs.Turns.{number_offered, visits_apart}
use Rattle.irl_reach.specs.Along.{notes_in, notes_of}
use Rattle.irl_reach.specs.Crawls.{AreVisits, IsCrawlStore, IsKnown, IsVisit, Visit, found_by, numbers_in}
use Rattle.irl_reach.specs.Tapes.{IsNoteBy}
use Rattle.irl_record.specs.Widening.{Answers}
use Rattle.irl_robots.specs.Leave.{host_state, leave, leave_of}
use Rattle.irl_robots.specs.declared.host.HostState.{HostState}
use Rattle.irl_robots.specs.declared.host.Leave.TheVariants.{Allowed}
use Rattle.irl_yard.specs.Adding.{notes_happened}
use Rattle.irl_yard.specs.Passing.{AreWorks, come}
use Rattle.irl_crawl.specs.Fetching.{entries_of}
use Rattle.irl_crawl.specs.Offering.{offers_in}
use Rattle.irl_crawl.specs.Turning.{AsksOnce, RestsOn}
use Rattle.irl_crawl.specs.Workers.{AreNotedIn, Given, IsNotedIn, IsStateAmong, loaded}
use Rattle.irl_crawl.specs.Working.{Begun, HaveWorked, IsBegun, begun_entries}
use Rattle.irl_crawl.proofs.Rising.{MayMissFewer}
use Rattle.irl_crawl.proofs.Numbers.{count_both, count_permuted, front_unique, loaded_front, loaded_most, loaded_once, once_differ}

-- ---- the visits
abbrev pub visits_for : ℕ → Treated → List Visit
visits_for number (Fetched answer entered) = record { number = number; answer = answer } ∷ []
visits_for number (Denied line) = []
visits_for number ShutOut = []

abbrev pub visits_of : Handled → List Visit
visits_of one = visits_for one.work.number one.treated

-- the answers to some
abbrev pub answers_in : List Visit → List Answer
answers_in visits = map (λ visit. visit.answer) visits

-- that of a begun item, where something of what it names is entered
abbrev pub part_visits : (gives : Answers) (suffixes url : List ℕ) (part : List Entered) (number : ℕ) → IsPart gives suffixes url part → List Visit
part_visits gives suffixes url [] number some = []
part_visits gives suffixes url (one ∷ part) number (inl none) = []
part_visits gives suffixes url (one ∷ part) number (inr some) = record { number = number; answer = some.0 } ∷ []

-- those of all that were begun
abbrev pub begun_visits : (gives : Answers) (agent suffixes : List ℕ) (noted : List Noted) (befores : List Schedule) (begun : List Begun)
    → AllByRecursion (IsBegun gives agent suffixes noted befores) begun → List Visit
begun_visits gives agent suffixes noted befores [] are = []
begun_visits gives agent suffixes noted befores (one ∷ begun) are =
    part_visits gives suffixes one.work.web one.part one.work.number are.0.some ++ begun_visits gives agent suffixes noted befores begun are.1

-- an answer of which something is entered came
some_came : (suffixes url : List ℕ) (answer : Answer) (one : Tuple) (more : List Tuple) → one ∷ more ≡ offers_of suffixes url answer → missing (answer ∷ []) ≡ 0
some_came suffixes url (Reply reply) one more is = refl
some_came suffixes url NoReply one more is = let long : length (one ∷ more) ≡ 0 = ap length is in absurd (omega (arith, long))
some_came suffixes url (Short n) one more is = refl
some_came suffixes url (BadReply n) one more is = refl
some_came suffixes url (TooLarge n) one more is = refl
some_came suffixes url Coded one more is = refl

part_came : (gives : Answers) (suffixes url : List ℕ) (part : List Entered) (number : ℕ) (some : IsPart gives suffixes url part)
    → missing (answers_in (part_visits gives suffixes url part number some)) ≡ 0
part_came gives suffixes url [] number some = refl
part_came gives suffixes url (one ∷ part) number (inl none) = refl
part_came gives suffixes url (one ∷ part) number (inr some) = some_came suffixes url some.0 one.offer (map (λ (e : Entered). e.offer) part ++ some.2) some.3

part_few : (gives : Answers) (suffixes url : List ℕ) (part : List Entered) (number : ℕ) (some : IsPart gives suffixes url part) → length (part_visits gives suffixes url part number some) ≤ 1
part_few gives suffixes url [] number some = omega arith
part_few gives suffixes url (one ∷ part) number (inl none) = omega arith
part_few gives suffixes url (one ∷ part) number (inr some) = omega arith

-- it is of that number
part_fewer : (gives : Answers) (suffixes url : List ℕ) (part : List Entered) (number : ℕ) (some : IsPart gives suffixes url part) (n : ℕ) (others : List ℕ)
    → count n (map (λ (v : Visit). v.number) (part_visits gives suffixes url part number some) ++ others) ≤ count n (number ∷ others)
part_fewer gives suffixes url [] number some n others = omega arith
part_fewer gives suffixes url (one ∷ part) number (inl none) n others = omega arith
part_fewer gives suffixes url (one ∷ part) number (inr some) n others = omega arith

-- what is entered is among what the answer names
part_among : (gives : Answers) (suffixes url : List ℕ) (part : List Entered) (number : ℕ) (some : IsPart gives suffixes url part) (found : Visit → List Tuple)
    → ((answer : Answer) → found (record { number = number; answer = answer }) ≡ offers_of suffixes url answer)
    → IsAmong (offers_in part) (flat_map found (part_visits gives suffixes url part number some))
part_among gives suffixes url [] number some found is = among_none []
part_among gives suffixes url (one ∷ part) number (inl none) found is = let long : length (one ∷ part) ≡ 0 = ap length none in absurd (omega (arith, long))
part_among gives suffixes url (one ∷ part) number (inr some) found is =
    let offers : List Tuple = offers_in (one ∷ part) in
    let visit : Visit = record { number = number; answer = some.0 } in
    let whole : offers ++ some.2 ≡ found visit ++ [] = some.3 ∙ sym (is some.0) ∙ sym (append-nil (found visit)) in
    record { rest = some.2; is = subst (λ os. IsPermutation (offers ++ some.2) os) whole (IsPermutation-refl (offers ++ some.2)) }

-- the answers to what was handled are those of its visits
answers_handled : (handled : List Handled) → answers_in (flat_map visits_of handled) ≡ flat_map answers_of handled
answers_handled [] = refl
answers_handled (one ∷ handled) = by one.treated (answers_handled handled)
  where
    by : (treated : Treated) → answers_in (flat_map visits_of handled) ≡ flat_map answers_of handled
        → answers_in (visits_for one.work.number treated ++ flat_map visits_of handled) ≡ answers_for treated ++ flat_map answers_of handled
    by (Fetched answer entered) rest = ap (λ (answers : List Answer). answer ∷ answers) rest
    by (Denied line) rest = rest
    by ShutOut rest = rest

-- ---- what is known when a turn has fetched
-- The workers had the first of the front of a state, each at its text, and knew nothing of hosts that none of its events tells.
-- Some items were handled, robots files noted, and the others are left, some of which are begun.
pub record TurnOf (given : Given) (agent suffixes : List ℕ) (settings : Settings) (most : ℕ) (x : State) (befores : List Schedule) (handled : List Handled) (noted : List Noted)
    (left : List Work) (begun : List Begun) : Type 0 where
  pub store : IsCrawlStore settings x
  pub began : begun_with x.events ≡ Some suffixes
  pub known : AreNotedIn agent x.events befores
  pub works : AreWorks (loaded befores) x.urls
  pub numbers : List ℕ
  pub first : AreFirst (come settings x).front most numbers
  pub each : IsPermutation (map (λ (work : Work). work.number) (loaded befores)) numbers
  pub worked : HaveWorked given agent suffixes handled noted left befores
  pub others : List Work
  pub is_left : IsPermutation left (map (λ one. one.work) begun ++ others)
  pub are_begun : AllByRecursion (IsBegun given.gives agent suffixes noted befores) begun
  pub fewer : MayMissFewer given

-- what the notes of a turn are
abbrev pub notes_from : List Noted → List Note
notes_from noted = map (λ (one : Noted). one.note) noted

-- ---- what a robots file allows
pub leave_read : (state : NoteState) (agent target : List ℕ) → leave state agent target ≡ leave_of (host_state state agent) target
leave_read (note.Rules text) agent target = refl
leave_read note.Free agent target = refl
leave_read note.Shut agent target = refl

-- what answers say of a host, as they are noted
pub noted_by : (gives : Answers) (one : Noted) → IsNoted gives one → IsNoteBy gives one.note.host one.note.state
noted_by gives one is = record { answers = one.answers; given = is.given; says = is.says }

pub note_happened : (notes : List Note) (one : Note) → Contains notes one → Contains (notes_in (notes_happened notes)) one
note_happened notes one there =
    flat_member (λ (h : Happened). notes_of h.0) (notes_happened notes) (Robots one, []) one (map_member (λ (n : Note). (Robots n, [])) notes one there) (first_member one [])

-- what one of the workers knew, or what was noted since, is noted in the events with those of the notes
pub noted_among : (agent : List ℕ) (events : List Happened) (befores : List Schedule) (noted : List Noted) (name : List ℕ) (state : HostState) → AreNotedIn agent events befores
    → IsStateAmong agent befores noted name state → IsNotedIn agent (events ++ notes_happened (notes_from noted)) name state
noted_among agent events befores noted name state known among = elim among [
  | inl front ↦
      let told = known front.0 front.1 front.3 name front.2 front.4 in
      (told.0, flat_left (λ (h : Happened). notes_of h.0) events (notes_happened (notes_from noted)) told.0 told.1, told.2, told.3 ∙ front.5)
  | inr since ↦
      let there : Contains (notes_from noted) since.1.note = map_member (λ (one : Noted). one.note) noted since.1 (since.0, since.2, since.3) in (
        since.1.note,
        flat_right (λ (h : Happened). notes_of h.0) events (notes_happened (notes_from noted)) since.1.note (note_happened (notes_from noted) since.1.note there),
        since.4.0,
        since.4.1,
      )
]

-- what is noted in events is noted in more
pub noted_later : (agent : List ℕ) (events more : List Happened) (fronts : List Schedule) → AreNotedIn agent events fronts → AreNotedIn agent (events ++ more) fronts
noted_later agent events more fronts are = λ at front is name known knows.
    let told = are at front is name known knows in
    (told.0, flat_left (λ (h : Happened). notes_of h.0) events more told.0 told.1, told.2, told.3)

-- ---- one item
-- a visit to an item of the workers
pub record Fetches (gives : Answers) (agent : List ℕ) (noted : List Noted) (befores : List Schedule) (visit : Visit) : Type 0 where
  pub work : Work
  pub there : Contains (loaded befores) work
  pub number : visit.number ≡ work.number
  pub state : HostState
  pub known : IsStateAmong agent befores noted (host work) state
  pub allowed : leave_of state (target_of work.web) ≡ Allowed
  pub given : gives work.web Page visit.answer

numbers_fewer : (n : ℕ) (handled : List Handled) → count n (map (λ (v : Visit). v.number) (flat_map visits_of handled)) ≤ count n (map (λ (one : Handled). one.work.number) handled)
numbers_fewer n [] = omega arith
numbers_fewer n (one ∷ handled) = by one.treated (numbers_fewer n handled)
  where
    by : (treated : Treated) → count n (map (λ (v : Visit). v.number) (flat_map visits_of handled)) ≤ count n (map (λ (o : Handled). o.work.number) handled)
        → count n (map (λ (v : Visit). v.number) (visits_for one.work.number treated ++ flat_map visits_of handled))
        ≤ count n (one.work.number ∷ map (λ (o : Handled). o.work.number) handled)
    by (Fetched answer entered) rest = omega (arith, rest)
    by (Denied line) rest = omega (arith, rest)
    by ShutOut rest = omega (arith, rest)

-- ---- how many they are
pub visits_fewer : (handled : List Handled) → length (flat_map visits_of handled) ≤ length handled
visits_fewer [] = omega arith
visits_fewer (one ∷ handled) = by one.treated (visits_fewer handled)
  where
    by : (treated : Treated) → length (flat_map visits_of handled) ≤ length handled → length (visits_for one.work.number treated ++ flat_map visits_of handled) ≤ length (one ∷ handled)
    by (Fetched answer entered) rest = omega (arith, rest)
    by (Denied line) rest = omega (arith, rest)
    by ShutOut rest = omega (arith, rest)

-- ---- what was begun
module _ (gives : Answers) (agent suffixes : List ℕ) (noted : List Noted) (befores : List Schedule) where
  abbrev AreBegun : List Begun → Type 0
  AreBegun begun = AllByRecursion (IsBegun gives agent suffixes noted befores) begun

  begun_came : (begun : List Begun) (are : AreBegun begun) → missing (answers_in (begun_visits gives agent suffixes noted befores begun are)) ≡ 0
  begun_came [] are = refl
  begun_came (one ∷ begun) are =
      let first : List Visit = part_visits gives suffixes one.work.web one.part one.work.number are.0.some in
      let rest : List Visit = begun_visits gives agent suffixes noted befores begun are.1 in
      let both : missing (answers_in (first ++ rest)) ≡ missing (answers_in first) + missing (answers_in rest) =
      ap missing (map-append (λ (visit : Visit). visit.answer) first rest) ∙ missing_both (answers_in first) (answers_in rest) in
      omega (arith, both, part_came gives suffixes one.work.web one.part one.work.number are.0.some, begun_came begun are.1)

  begun_within : (begun : List Begun) (are : AreBegun begun) → length (begun_visits gives agent suffixes noted befores begun are) ≤ length begun
  begun_within [] are = omega arith
  begun_within (one ∷ begun) are =
      let both = length-append (part_visits gives suffixes one.work.web one.part one.work.number are.0.some) (begun_visits gives agent suffixes noted befores begun are.1) in
      omega (arith, both, part_few gives suffixes one.work.web one.part one.work.number are.0.some, begun_within begun are.1)

  begun_fewer : (n : ℕ) (begun : List Begun) (are : AreBegun begun)
      → count n (map (λ (v : Visit). v.number) (begun_visits gives agent suffixes noted befores begun are)) ≤ count n (map (λ (w : Work). w.number) (map (λ (one : Begun). one.work) begun))
  begun_fewer n [] are = omega arith
  begun_fewer n (one ∷ begun) are =
      let first : List Visit = part_visits gives suffixes one.work.web one.part one.work.number are.0.some in
      let rest : List Visit = begun_visits gives agent suffixes noted befores begun are.1 in
      let both : count n (map (λ (v : Visit). v.number) (first ++ rest)) ≡ count n (map (λ (v : Visit). v.number) first ++ map (λ (v : Visit). v.number) rest) =
      ap (count n) (map-append (λ (v : Visit). v.number) first rest) in
      let here = part_fewer gives suffixes one.work.web one.part one.work.number are.0.some n (map (λ (v : Visit). v.number) rest) in
      omega (arith, both, here, begun_fewer n begun are.1)

-- ---- a turn
module _ {given : Given} {agent suffixes : List ℕ} {settings : Settings} {most : ℕ} {x : State} {befores : List Schedule} {handled : List Handled} {noted : List Noted}
    {left : List Work} {begun : List Begun} (it : TurnOf given agent suffixes settings most x befores handled noted left begun) where
  abbrev pub visits_begun : List Visit
  visits_begun = begun_visits given.gives agent suffixes noted befores begun it.are_begun

  abbrev pub visits_in : List Visit
  visits_in = flat_map visits_of handled ++ visits_begun

  abbrev works_handled : List Work
  works_handled = map (λ (one : Handled). one.work) handled

  -- ---- each visit is to an item
  done_loaded : (work : Work) → Contains works_handled work → Contains (loaded befores) work
  done_loaded work there =
      Contains-permutation (works_handled ++ left) (loaded befores) work (IsPermutation-sym (loaded befores) (works_handled ++ left) it.worked.items)
      (Contains-append_left works_handled left work there)

  left_loaded : (work : Work) → Contains left work → Contains (loaded befores) work
  left_loaded work there =
      Contains-permutation (works_handled ++ left) (loaded befores) work (IsPermutation-sym (loaded befores) (works_handled ++ left) it.worked.items)
      (Contains-append_right works_handled left work there)

  begun_loaded : (one : Begun) → Contains begun one → Contains (loaded befores) one.work
  begun_loaded one there =
      let works = map (λ (b : Begun). b.work) begun in
      left_loaded one.work (Contains-permutation (works ++ it.others) left one.work (IsPermutation-sym left (works ++ it.others) it.is_left)
      (Contains-append_left works it.others one.work (map_member (λ (b : Begun). b.work) begun one there)))

  pub handled_loaded : (one : Handled) → Contains handled one → Contains (loaded befores) one.work
  handled_loaded one there = done_loaded one.work (map_member (λ (o : Handled). o.work) handled one there)

  pub is_handled : (one : Handled) → Contains handled one → IsHandled given.gives (IsStateAmong agent befores noted) suffixes one
  is_handled one there = All-contains (IsHandled given.gives (IsStateAmong agent befores noted) suffixes) handled one it.worked.each there

  handled_fetches : (work : Work) (treated : Treated) → Contains (loaded befores) work → IsHandled given.gives (IsStateAmong agent befores noted) suffixes (record { work = work; treated = treated })
      → (visit : Visit) → Contains (visits_for work.number treated) visit → Fetches given.gives agent noted befores visit
  handled_fetches work (Fetched answer entered) there is visit v = elim (member_cases (record { number = work.number; answer = answer }) [] visit v) [
    | inl same ↦
        subst (λ w. Fetches given.gives agent noted befores w) same
        (record { work = work; there = there; number = refl; state = is.state; known = is.noted; allowed = is.leave; given = is.given.0 })
    | inr none ↦ absurd (no_member visit none)
  ]
  handled_fetches work (Denied line) there is visit v = absurd (no_member visit v)
  handled_fetches work ShutOut there is visit v = absurd (no_member visit v)

  part_fetches : (one : Begun) (part : List Entered) (is : IsBegun given.gives agent suffixes noted befores one) (some : IsPart given.gives suffixes one.work.web part)
      → Contains (loaded befores) one.work → (visit : Visit) → Contains (part_visits given.gives suffixes one.work.web part one.work.number some) visit
      → Fetches given.gives agent noted befores visit
  part_fetches one [] is some there visit v = absurd (no_member visit v)
  part_fetches one (first ∷ part) is (inl none) there visit v = absurd (no_member visit v)
  part_fetches one (first ∷ part) is (inr some) there visit v = elim (member_cases (record { number = one.work.number; answer = some.0 }) [] visit v) [
    | inl same ↦
        subst (λ w. Fetches given.gives agent noted befores w) same
        (record { work = one.work; there = there; number = refl; state = is.state; known = is.known; allowed = is.allowed; given = some.1 })
    | inr none ↦ absurd (no_member visit none)
  ]

  begun_fetches : (ones : List Begun) (are : AllByRecursion (IsBegun given.gives agent suffixes noted befores) ones) → ((one : Begun) → Contains ones one → Contains (loaded befores) one.work)
      → (visit : Visit) → Contains (begun_visits given.gives agent suffixes noted befores ones are) visit → Fetches given.gives agent noted befores visit
  begun_fetches [] are within visit v = absurd (no_member visit v)
  begun_fetches (one ∷ ones) are within visit v =
      let first : List Visit = part_visits given.gives suffixes one.work.web one.part one.work.number are.0.some in
      elim (Contains-append_cases first (begun_visits given.gives agent suffixes noted befores ones are.1) visit v) [
        | inl here ↦ part_fetches one one.part are.0 are.0.some (within one (first_member one ones)) visit here
        | inr there ↦ begun_fetches ones are.1 (λ other c. within other (later_member one ones other c)) visit there
      ]

  pub each_fetches : (visit : Visit) → Contains visits_in visit → Fetches given.gives agent noted befores visit
  each_fetches visit v = elim (Contains-append_cases (flat_map visits_of handled) visits_begun visit v) [
    | inl done ↦
        let from = flat_cases visits_of handled visit done in
        handled_fetches from.0.work from.0.treated (handled_loaded from.0 from.1) (is_handled from.0 from.1) visit from.2
    | inr some ↦ begun_fetches begun it.are_begun begun_loaded visit some
  ]

  -- ---- no URL is visited twice, and each stands in the front
  abbrev numbers_loaded : List ℕ
  numbers_loaded = map (λ (work : Work). work.number) (loaded befores)

  pub work_front : (work : Work) → Contains (loaded befores) work → Contains (come settings x).front work.number
  work_front work there =
      loaded_front settings x it.store most it.numbers numbers_loaded it.first it.each work.number (map_member (λ (w : Work). w.number) (loaded befores) work there)

  -- what was begun is left
  left_fewer : (n : ℕ) → count n (map (λ (v : Visit). v.number) visits_begun) ≤ count n (map (λ (w : Work). w.number) left)
  left_fewer n =
      let number : Work → ℕ = λ (w : Work). w.number in
      let works = map (λ (one : Begun). one.work) begun in
      let same : count n (map number (works ++ it.others)) ≡ count n (map number left) =
      count_permuted n (map number left) (map number (works ++ it.others)) (IsPermutation-map number left (works ++ it.others) it.is_left) in
      let parts : count n (map number (works ++ it.others)) ≡ count n (map number works) + count n (map number it.others) =
      ap (count n) (map-append number works it.others) ∙ count_both n (map number works) (map number it.others) in
      omega (arith, same, parts, begun_fewer given.gives agent suffixes noted befores n begun it.are_begun)

  visited_once : (n : ℕ) → count n (map (λ (v : Visit). v.number) visits_in) ≤ 1
  visited_once n =
      let number : Work → ℕ = λ (w : Work). w.number in
      let once = loaded_once settings x it.store most it.numbers numbers_loaded it.first it.each n in
      let same : count n (map number (works_handled ++ left)) ≡ count n numbers_loaded =
      count_permuted n numbers_loaded (map number (works_handled ++ left)) (IsPermutation-map number (loaded befores) (works_handled ++ left) it.worked.items) in
      let parts : count n (map number (works_handled ++ left)) ≡ count n (map number works_handled) + count n (map number left) =
      ap (λ ns. count n ns) (map-append number works_handled left) ∙ count_both n (map number works_handled) (map number left) in
      let both : count n (map (λ (v : Visit). v.number) visits_in)
      ≡ count n (map (λ (v : Visit). v.number) (flat_map visits_of handled)) + count n (map (λ (v : Visit). v.number) visits_begun) =
      ap (λ ns. count n ns) (map-append (λ (v : Visit). v.number) (flat_map visits_of handled) visits_begun)
      ∙ count_both n (map (λ (v : Visit). v.number) (flat_map visits_of handled)) (map (λ (v : Visit). v.number) visits_begun) in
      let names : map number works_handled ≡ map (λ (one : Handled). one.work.number) handled = map_twice handled in
      let few : count n (map number works_handled) ≡ count n (map (λ (one : Handled). one.work.number) handled) = ap (λ ns. count n ns) names in
      omega (arith, once, same, parts, both, few, numbers_fewer n handled, left_fewer n)
    where
      map_twice : (ones : List Handled) → map (λ (w : Work). w.number) (map (λ (one : Handled). one.work) ones) ≡ map (λ (one : Handled). one.work.number) ones
      map_twice [] = refl
      map_twice (one ∷ ones) = ap (λ ns. one.work.number ∷ ns) (map_twice ones)

  pub visits_once : AllPairs (λ n m. n ≢ m) (map (λ (v : Visit). v.number) visits_in)
  visits_once = once_differ (map (λ (v : Visit). v.number) visits_in) visited_once

  -- and no more than were asked for
  pub visits_few : length visits_in ≤ most
  visits_few =
      let works = length_permutation (loaded befores) (works_handled ++ left) it.worked.items in
      let all = length-append works_handled left in
      let handled_are = length-map handled (λ (one : Handled). one.work) in
      let names = length-map (loaded befores) (λ (work : Work). work.number) in
      let within = loaded_most settings x it.store most it.numbers numbers_loaded it.first it.each in
      let both = length-append (flat_map visits_of handled) visits_begun in
      let are_left = length_permutation left (map (λ (one : Begun). one.work) begun ++ it.others) it.is_left in
      let begun_are = length-append (map (λ (one : Begun). one.work) begun) it.others in
      let some = length-map begun (λ (one : Begun). one.work) in
      omega (arith, works, all, handled_are, names, within, both, are_left, begun_are, some, visits_fewer handled, begun_within given.gives agent suffixes noted befores begun it.are_begun)

  pub visits_front : AllByRecursion (λ (visit : Visit). Contains (come settings x).front visit.number) visits_in
  visits_front = all_from (λ (visit : Visit). Contains (come settings x).front visit.number) visits_in (λ visit v.
      let is = each_fetches visit v in
      subst (λ n. Contains (come settings x).front n) (sym is.number) (work_front is.work is.there))

  -- ---- what they rest on
  visits_missing : missing (answers_in visits_in) ≡ missing (flat_map answers_of handled)
  visits_missing =
      let both : missing (answers_in visits_in) ≡ missing (answers_in (flat_map visits_of handled)) + missing (answers_in visits_begun) =
      ap missing (map-append (λ (visit : Visit). visit.answer) (flat_map visits_of handled) visits_begun)
      ∙ missing_both (answers_in (flat_map visits_of handled)) (answers_in visits_begun) in
      let first : missing (answers_in (flat_map visits_of handled)) ≡ missing (flat_map answers_of handled) = ap missing (answers_handled handled) in
      omega (arith, both, first, begun_came given.gives agent suffixes noted befores begun it.are_begun)

  -- no event has a note, or they have those of the turn
  pub rests_unnoted : (events : List Happened) → notes_in events ≡ [] → RestsOn given visits_in events
  rests_unnoted events none = record {
    noted = [];
    notes = sym none;
    each = All-nil (IsNoted given.gives);
    missing_are = it.fewer (missing (answers_in visits_in) + missing []) (missing (flat_map answers_of handled) + missing (flat_map (λ (one : Noted). one.answers) noted))
        (omega (arith, visits_missing)) it.worked.missing_are;
  }

  pub rests_noted : (events : List Happened) → notes_in events ≡ notes_from noted → RestsOn given visits_in events
  rests_noted events are = record {
    noted = noted;
    notes = sym are;
    each = it.worked.notes;
    missing_are = it.fewer (missing (answers_in visits_in) + missing (flat_map (λ (one : Noted). one.answers) noted))
        (missing (flat_map answers_of handled) + missing (flat_map (λ (one : Noted). one.answers) noted)) (omega (arith, visits_missing)) it.worked.missing_are;
  }

  -- no more connections were made than there are answers
  pub asks_noted : given.made ≤ answered handled noted → (events : List Happened) → notes_in events ≡ notes_from noted → AsksOnce given visits_in events
  unfolding rests_noted
  asks_noted few events are =
      let done = flat_map visits_of handled in
      let both = length-append done visits_begun in
      let same = sym (length-map done (λ (visit : Visit). visit.answer)) ∙ ap length (answers_handled handled) in
      record { rests = rests_noted events are; made = omega (arith, few, both, same) }

  -- ---- at a later state
  module _ (y : State) (front : IsFrontState x y) where
    grown : Grows x y
    grown = grows x y (inr (settings, it.store)) front

    pub work_unique : (work : Work) → Contains (loaded befores) work → Contains (numbers_in x.urls) work.number
    work_unique work there = front_unique settings x it.store work.number (work_front work there)

    -- the text of an item
    pub work_text : (work : Work) → Contains (loaded befores) work → work.web ≡ url_text y.urls work.number
    work_text work there =
        all_member (λ (w : Work). w.web ≡ url_text x.urls w.number) (loaded befores) work it.works there ∙ sym (grown.texts work.number (work_unique work there))

    begun_still : (hs more : List Happened) → begun_with hs ≡ Some suffixes → begun_with (hs ++ more) ≡ Some suffixes
    begun_still [] more is = absurd (cc)
    begun_still (h ∷ hs) more is = is

    known_still : (name : List ℕ) (state : HostState) → IsStateAmong agent befores noted name state → (told : NoteState) × IsKnown given.gives y.events name told × (host_state told agent ≡ state)
    known_still name state among = elim among [
      | inl front ↦
          let told = it.known front.0 front.1 front.3 name front.2 front.4 in
          let there : Contains (notes_in y.events) told.0 =
          subst (λ hs. Contains (notes_in hs) told.0) (sym grown.events.1) (flat_left (λ (h : Happened). notes_of h.0) x.events grown.events.0 told.0 told.1) in
          (told.0.state, inl (told.0, there, told.2, refl), told.3 ∙ front.5)
      | inr since ↦
          let one = since.1 in
          let is = All-contains (IsNoted given.gives) noted one it.worked.notes (since.0, since.2, since.3) in
          (one.note.state, inr (subst (λ name. IsNoteBy given.gives name one.note.state) since.4.0 (noted_by given.gives one is)), since.4.1)
    ]

    each_visit : (visit : Visit) → Fetches given.gives agent noted befores visit → IsVisit suffixes given.gives agent y (offers_listed x.urls ++ []) visit
    each_visit visit is =
        let text : is.work.web ≡ url_text y.urls visit.number = work_text is.work is.there ∙ ap (url_text y.urls) (sym is.number) in
        let unique : Contains (numbers_in x.urls) visit.number = subst (λ n. Contains (numbers_in x.urls) n) (sym is.number) (work_unique is.work is.there) in
        let old : Contains (map (λ (o : Tuple). o.aux) (offers_listed x.urls)) (url_text y.urls visit.number) =
        subst (λ t. Contains (map (λ (o : Tuple). o.aux) (offers_listed x.urls)) t) (sym (grown.texts visit.number unique)) (number_offered settings x visit.number it.store unique) in
        let told = known_still (host is.work) is.state is.known in
        let allowed : leave told.0 agent (target_of is.work.web) ≡ Allowed =
        leave_read told.0 agent (target_of is.work.web) ∙ ap (λ state. leave_of state (target_of is.work.web)) told.2 ∙ is.allowed in
        record {
          begun = ap begun_with grown.events.1 ∙ begun_still x.events grown.events.0 it.began;
          unique = grown.numbers visit.number unique;
          offered = subst (λ os. Contains (map (λ (o : Tuple). o.aux) os) (url_text y.urls visit.number)) (sym (append-nil (offers_listed x.urls))) old;
          state = told.0;
          known = subst (λ t. IsKnown given.gives y.events (host_of t) told.0) text told.1;
          allowed = subst (λ t. leave told.0 agent (target_of t) ≡ Allowed) text allowed;
          given = subst (λ t. given.gives t Page visit.answer) text is.given;
        }

    pub are_visits : AreVisits suffixes given.gives agent y (offers_listed x.urls ++ []) visits_in
    are_visits =
        visits_apart suffixes given.gives agent y (offers_listed x.urls ++ []) visits_in
        (all_from (IsVisit suffixes given.gives agent y (offers_listed x.urls ++ [])) visits_in (λ visit v. each_visit visit (each_fetches visit v)))

    -- ---- what they find
    found_one : (work : Work) (treated : Treated) → work.web ≡ url_text y.urls work.number → IsGiven given.gives suffixes work.web treated
        → offers_in (entered_for treated) ≡ flat_map (found_by suffixes y.urls) (visits_for work.number treated)
    found_one work (Fetched answer entered) text is =
        is.1 ∙ ap (λ t. offers_of suffixes t answer) text ∙ sym (append-nil (offers_of suffixes (url_text y.urls work.number) answer))
    found_one work (Denied line) text is = refl
    found_one work ShutOut text is = refl

    found_each : (ones : List Handled) → ((one : Handled) → Contains ones one → Contains handled one)
        → offers_in (flat_map entered_of ones) ≡ flat_map (found_by suffixes y.urls) (flat_map visits_of ones)
    found_each [] within = refl
    found_each (one ∷ ones) within =
        let there = within one (first_member one ones) in
        let here : offers_in (entered_of one) ≡ flat_map (found_by suffixes y.urls) (visits_of one) =
        found_one one.work one.treated (work_text one.work (handled_loaded one there)) (is_handled one there).given in
        let rest = found_each ones (λ other c. within other (later_member one ones other c)) in
        map-append (λ (e : Entered). e.offer) (entered_of one) (flat_map entered_of ones) ∙ ap (λ os. os ++ offers_in (flat_map entered_of ones)) here
        ∙ ap (λ os. flat_map (found_by suffixes y.urls) (visits_of one) ++ os) rest ∙ sym (flat_map-append (found_by suffixes y.urls) (visits_of one) (flat_map visits_of ones))

    -- what all that was handled found is entered
    pub found_handled : offers_in (flat_map entered_of handled) ≡ flat_map (found_by suffixes y.urls) (flat_map visits_of handled)
    found_handled = found_each handled (λ one c. c)

    found_begun : (ones : List Begun) (are : AllByRecursion (IsBegun given.gives agent suffixes noted befores) ones) → ((one : Begun) → Contains ones one → Contains (loaded befores) one.work)
        → IsAmong (offers_in (begun_entries ones)) (flat_map (found_by suffixes y.urls) (begun_visits given.gives agent suffixes noted befores ones are))
    found_begun [] are within = among_none []
    found_begun (one ∷ ones) are within =
        let f = found_by suffixes y.urls in
        let text = work_text one.work (within one (first_member one ones)) in
        let first : List Visit = part_visits given.gives suffixes one.work.web one.part one.work.number are.0.some in
        let rest : List Visit = begun_visits given.gives agent suffixes noted befores ones are.1 in
        let both : IsAmong (offers_in one.part ++ offers_in (begun_entries ones)) (flat_map f first ++ flat_map f rest) =
        among_append (part_among given.gives suffixes one.work.web one.part one.work.number are.0.some f (λ answer. ap (λ t. offers_of suffixes t answer) (sym text)))
        (found_begun ones are.1 (λ other c. within other (later_member one ones other c))) in
        subst (λ os. IsAmong os (flat_map f (first ++ rest))) (sym (map-append (λ (e : Entered). e.offer) one.part (begun_entries ones)))
        (subst (λ os. IsAmong (offers_in one.part ++ offers_in (begun_entries ones)) os) (sym (flat_map-append f first rest)) both)

    -- what is entered is among what they find
    pub found_among : IsAmong (offers_in (entries_of handled begun)) (flat_map (found_by suffixes y.urls) visits_in)
    found_among =
        let f = found_by suffixes y.urls in
        let both : IsAmong (offers_in (flat_map entered_of handled) ++ offers_in (begun_entries begun)) (flat_map f (flat_map visits_of handled) ++ flat_map f visits_begun) =
        among_append (subst (λ os. IsAmong (offers_in (flat_map entered_of handled)) os) found_handled (among_same (offers_in (flat_map entered_of handled))))
        (found_begun begun it.are_begun begun_loaded) in
        subst (λ os. IsAmong os (flat_map f visits_in)) (sym (map-append (λ (e : Entered). e.offer) (flat_map entered_of handled) (begun_entries begun)))
        (subst (λ os. IsAmong (offers_in (flat_map entered_of handled) ++ offers_in (begun_entries begun)) os) (sym (flat_map-append f (flat_map visits_of handled) visits_begun)) both)
