-- What a crawl adds to a store, as plain data: visits, each with its answer, offers and events. Nothing here says how
-- it is done.
use Rattle.std.specs.Prelude.{◌≡◌, ◌≢◌, ◌⊎◌, ℕ, List, [], ◌∷◌, ◌++◌, map, flat_map, length, drop, AllPairs, Some, ⊤}
use Rattle.std.specs.List.{AllByRecursion, Contains}
use Rattle.std.specs.List.Sorted.{IsPermutation}
use Rattle.irl_answer.specs.Found.{offer_from, offers_of}
use Rattle.irl_answer.specs.Outcomes.{outcome_of}
use Rattle.irl_base.specs.Among.{IsAmong}
use Rattle.irl_core.specs.States.{IsLegalState, begun_with, url_text, offers_of as offers_in}
use Rattle.irl_events.specs.Events.{Event, Begin, Pairs, Pass, Robots, Settle, Happened}
use Rattle.irl_events.specs.State.{State, blank_state}
use Rattle.irl_key.specs.Key.{key_of}
use Rattle.irl_key.specs.Web.{host_of, target_of}
use Rattle.irl_model.specs.Book.{Book, IsBook, stretch, uniques}
use Rattle.irl_offer.specs.declared.note.Note.{Note}
use Rattle.irl_offer.specs.declared.note.NoteState.{NoteState}
use Rattle.irl_offer.specs.declared.offer.Op.TheVariants.{Both}
use Rattle.irl_offer.specs.declared.outcome.Outcome.{Outcome}
use Rattle.irl_offer.specs.declared.outcome.Outcome.TheVariants as outcome
use Rattle.irl_offer.specs.declared.reply.Answer.{Answer}
use Rattle.irl_offer.specs.declared.reply.Want.TheVariants.{Page}
use Rattle.irl_offer.specs.declared.settings.Settings.{Settings}
use Rattle.irl_offer.specs.Settings.{AreValid}
use Rattle.irl_offer.specs.Tuple.{Tuple}
use Rattle.irl_pld.specs.Domains.{pld_of}
use Rattle.irl_record.specs.Taped.{Taped}
use Rattle.irl_record.specs.Widening.{Answers}
use Rattle.irl_robots.specs.declared.host.Leave.{Leave}
use Rattle.irl_robots.specs.declared.host.Leave.TheVariants.{Allowed, Denied, Shut}
use Rattle.irl_robots.specs.Leave.{leave}
use Rattle.irl_reach.specs.Along.{notes_in, settled_in}
use Rattle.irl_reach.specs.Tapes.{IsNoteBy}

-- ---- the store
-- the pay-level domain of a page, by a text of suffixes and the page's canonical text
abbrev pub domain_of : List ℕ → List ℕ → List ℕ
domain_of suffixes url = pld_of suffixes (host_of url)

-- the numbers of the URLs of a book, in order
abbrev pub numbers_in : Book → List ℕ
numbers_in book = map (λ p. p.0) (uniques book)

-- what the state of a crawl's store keeps of what counts here
pub record IsCrawlStore (settings : Settings) (state : State) : Type 0 where
  pub settings_are : state.settings ≡ Some settings
  pub valid : AreValid settings
  -- the URLs are a book with these settings, of which nothing is dropped,
  pub book : IsBook state.urls
  pub buckets : state.urls.buckets ≡ settings.buckets
  pub rule : state.urls.rule ≡ settings.rule
  pub dropped : state.urls.dropped ≡ 0
  -- and each of its offers enters its key
  pub both : (offer : Tuple) → Contains (offers_in state.urls) offer → offer.op ≡ Both
  pub legal : IsLegalState domain_of key_of settings state.urls state.pairs state.events

-- a store that wasn't made yet, or one of a crawl
abbrev pub IsStore : State → Type 0
IsStore state = (state ≡ blank_state) ⊎ ((settings : Settings) × IsCrawlStore settings state)

-- ---- visits
-- a URL, by its number, and the one answer to it
pub record Visit : Type 0 where
  pub number : ℕ
  pub answer : Answer

-- the offers of an input's seeds, and by its suffixes of what a visit found, where these are the URLs
abbrev pub seed_offers : Taped → List Tuple
seed_offers input = map (offer_from 0) input.seeds

abbrev pub found_by : List ℕ → Book → Visit → List Tuple
found_by suffixes urls visit = offers_of suffixes (url_text urls visit.number) visit.answer

-- a host's robots file that is known: by an event, or by answers
abbrev pub IsKnown : Answers → List Happened → List ℕ → NoteState → Type 0
IsKnown gives events host state =
    ((note : Note) × Contains (notes_in events) note × (note.host ≡ host) × (note.state ≡ state))
    ⊎ IsNoteBy gives host state

-- A visit of a crawl by some suffixes that ended in a state, by the offers that were made before it.
pub record IsVisit (suffixes : List ℕ) (gives : Answers) (agent : List ℕ) (end : State) (made : List Tuple)
    (visit : Visit) : Type 0 where
  -- the crawl began with these suffixes
  pub begun : begun_with end.events ≡ Some suffixes
  -- it is to a unique URL,
  pub unique : Contains (numbers_in end.urls) visit.number
  -- which was offered before,
  pub offered : Contains (map (λ offer. offer.aux) made) (url_text end.urls visit.number)
  -- and which a robots file allows that is known of its host;
  pub state : NoteState
  pub known : IsKnown gives end.events (host_of (url_text end.urls visit.number)) state
  pub allowed : leave state agent (target_of (url_text end.urls visit.number)) ≡ Allowed
  -- and the answer is given to it
  pub given : gives (url_text end.urls visit.number) Page visit.answer

-- visits one after another, each by what was offered up to it
abbrev pub AreVisits : List ℕ → Answers → List ℕ → State → List Tuple → List Visit → Type 0
AreVisits suffixes gives agent end made [] = ⊤
AreVisits suffixes gives agent end made (visit ∷ visits) =
    IsVisit suffixes gives agent end made visit
    × AreVisits suffixes gives agent end (made ++ found_by suffixes end.urls visit) visits

-- ---- outcomes
-- the offers of a book that stand below these numbers
abbrev pub offers_below : List ℕ → Book → List Tuple
offers_below fronts book = stretch book.firsts book.firsts fronts book.lists

-- What came of a URL by what its host's robots file allows: where it is allowed, by one visit, whose offers stand in
-- the lists below the fronts of its settle.
abbrev pub ComesOf : List ℕ → List Visit → Book → List ℕ → Leave → ℕ → Outcome → Type 0
ComesOf suffixes visits urls fronts Allowed number came =
    (visit : Visit) × Contains visits visit × (visit.number ≡ number)
    × (came ≡ outcome_of (url_text urls number) visit.answer)
    × ((offer : Tuple) → Contains (found_by suffixes urls visit) offer → Contains (offers_below fronts urls) offer)
ComesOf suffixes visits urls fronts (Denied line) number came = came ≡ outcome.Denied line
ComesOf suffixes visits urls fronts Shut number came = came ≡ outcome.Shut

-- an outcome that was settled behind these events, with these fronts
pub record IsSettled (suffixes agent : List ℕ) (visits : List Visit) (urls : Book) (earlier : List Happened)
    (fronts : List ℕ) (number : ℕ) (came : Outcome) : Type 0 where
  -- a robots event of its host stands before it,
  pub note : Note
  pub noted : Contains (notes_in earlier) note
  pub host : note.host ≡ host_of (url_text urls number)
  -- and it comes of what that allows
  pub comes : ComesOf suffixes visits urls fronts (leave note.state agent (target_of (url_text urls number)))
      number came

-- ---- the whole
-- the offers that lists have beyond others, bucket 0 first
abbrev pub added_to : List (List Tuple) → List (List Tuple) → List Tuple
added_to lists [] = []
added_to [] (more ∷ mores) = more ++ added_to [] mores
added_to (list ∷ lists) (more ∷ mores) = drop (length list) more ++ added_to lists mores

-- A crawl by an input's suffixes and seeds leads from one state to another with these visits, where answers are given.
-- What came of the visits before it may be settled in it.
pub record CrawlsOn (input : Taped) (gives : Answers) (agent : List ℕ) (before visits : List Visit) (start end : State)
    : Type 0 where
  -- no URL is visited twice, and each visit is to one that was offered before
  pub once : AllPairs (λ x y. x ≢ y) (map (λ visit. visit.number) visits)
  pub visited : AreVisits input.suffixes gives agent end (offers_in start.urls ++ seed_offers input) visits
  -- the offers that are added are, counted with repeats, among the seeds' and those of the visits
  pub offers : IsAmong (added_to start.urls.lists end.urls.lists)
      (seed_offers input ++ flat_map (found_by input.suffixes end.urls) visits)
  -- the events go on:
  pub more : List Happened
  pub events : end.events ≡ start.events ++ more
  -- a beginning has the suffix text of the input,
  pub begun : (h : Happened) (suffixes : List ℕ) → Contains more h → h.0 ≡ Begin suffixes
      → suffixes ≡ input.suffixes
  -- each robots file is what answers say of its host,
  pub notes : (note : Note) → Contains (notes_in more) note → IsNoteBy gives note.host note.state
  -- and each outcome comes of the robots file of its host, or of a visit
  pub settled : (earlier later : List Happened) (h : Happened) (fronts : List ℕ) (outcomes : List (ℕ × Outcome))
      → more ≡ earlier ++ h ∷ later → h.0 ≡ Settle fronts outcomes → AllByRecursion
      (λ d. IsSettled input.suffixes agent (before ++ visits) end.urls (start.events ++ earlier) fronts d.0 d.1)
      outcomes

-- the same from its first visit on
abbrev pub Crawls : Taped → Answers → List ℕ → List Visit → State → State → Type 0
Crawls input gives agent visits start end = CrawlsOn input gives agent [] visits start end

-- What an event tells by itself, where nothing is visited: a beginning has these suffixes, a robots file is what
-- answers say of its host, and nothing is settled.
abbrev pub IsTold : List ℕ → Answers → Event → Type 0
IsTold suffixes gives (Begin text) = text ≡ suffixes
IsTold suffixes gives (Pairs cuts judged pairs) = ⊤
IsTold suffixes gives (Pass judged) = ⊤
IsTold suffixes gives (Robots note) = IsNoteBy gives note.host note.state
IsTold suffixes gives (Settle fronts outcomes) = outcomes ≡ []

-- an input with these seeds in place of its own, and with none, where they were offered already
abbrev pub with_seeds : List (List ℕ) → Taped → Taped
with_seeds seeds input = record input { seeds = seeds }

abbrev pub without_seeds : Taped → Taped
without_seeds input = with_seeds [] input

-- a tape with these suffixes in place of its own
abbrev pub with_suffixes : List ℕ → Taped → Taped
with_suffixes suffixes tape = record tape { suffixes = suffixes }

-- No offer and no visit is left over, as where a crawl met no fault: the offers that are added are, counted with
-- repeats, just the seeds' and those of the visits, and what came of each visit is settled since the start.
pub record LeavesNone (input : Taped) (visits : List Visit) (start end : State) : Type 0 where
  pub offers : IsPermutation (added_to start.urls.lists end.urls.lists)
      (seed_offers input ++ flat_map (found_by input.suffixes end.urls) visits)
  pub settled : AllByRecursion (λ (visit : Visit). Contains (settled_in (drop (length start.events) end.events))
      (visit.number, outcome_of (url_text end.urls visit.number) visit.answer)) visits
