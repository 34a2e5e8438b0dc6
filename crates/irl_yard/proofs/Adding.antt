-- One event more in the log of a crawl: what it makes of the state that an open store holds.
use Rattle.std.proofs.Common.{◌≡◌, ◌∙◌, ℕ, ◌<◌, true, false, List, [], ◌∷◌, ◌++◌, length, Option, None, Some, Result, IsOk, IsErrOf, refl, sym, ap, subst}
use Rattle.std.specs.Prelude.{is_some}
use Rattle.std.specs.Option.{ForSome}
use Rattle.irl_base.specs.declared.fault.Fault.{Fault}
use Rattle.irl_base.specs.declared.fault.Fault.TheVariants.{Failed, Memory}
use Rattle.irl_offer.specs.declared.settings.Kind.TheVariants.{Crawl as CrawlKind}
use Rattle.irl_offer.specs.declared.settings.Settings.{Settings}
use Rattle.irl_offer.specs.declared.note.Note.{Note}
use Rattle.irl_offer.specs.declared.place.Place.{Place}
use Rattle.irl_key.specs.Key.{key_of}
use Rattle.irl_model.specs.Book.{Book}
use Rattle.irl_events.specs.Events.{Event, Begin, Pairs, Pass, Robots, Settle, Happened, Progress, after_event, after_events, before_all, progress}
use Rattle.irl_events.specs.Legal.{broken}
use Rattle.irl_events.specs.State.{State}
use Rattle.irl_core.specs.States.{IsOfBooks, begun_with}
use Rattle.irl_core.proofs.StateLemmas.{legal-more}
use Rattle.irl_disk.specs.Disk.{Files, ChangesFile, ChangesOnly, TellsOnly}
use Rattle.irl_disk.specs.Effects.{OnlyChanges}
use Rattle.irl_disk.specs.Images.{Told, IsConsistent, Leaves, LeavesBy}
use Rattle.irl_bay.specs.Drum.{Drum, IsDrum}
use Rattle.irl_bay.specs.Holding.{IsLong}
use Rattle.irl_head.specs.StoreFiles.{crawl_file}
use Rattle.irl_frontier.specs.Frontier.{Frontier, IsFrontier, after_other}
use Rattle.irl_log.specs.Form.{IsNote}
use Rattle.irl_log.specs.Log.{HoldsLog}
use Rattle.irl_ledger.specs.declared.ledger.Ledger.{Ledger}
use Rattle.irl_yard.specs.declared.parts.Parts.{Parts}
use Rattle.irl_yard.specs.declared.parts.Rest.{Rest}
use Rattle.irl_yard.specs.declared.parts.Rest.TheVariants.{Crawl}
use Rattle.irl_yard.specs.Adding.{AddsEvent, TellsEvent, suffixes_after, with_event}
use Rattle.irl_ledger.specs.Crawling.{IsCrawlState, domain_of}
use Rattle.irl_ledger.specs.Adding.{AddsAllToLog, AddsToLog}
use Rattle.irl_ledger.specs.Holding.{FitsBays, HoldsLedger, IsFrontierOf, IsOpenLedger, domain_by}
use Rattle.irl_ledger.proofs.Adding.{begin_keeps, note_keeps, one_of_all}
use Rattle.irl_ledger.proofs.Tables.{tables_begun, tables_other}
use Rattle.irl_yard.specs.Holding.{HoldsState, HoldsUrls, HasOneOf, IsOpenRest, IsSoundRest}
use Rattle.irl_yard.specs.Standing.{IsStateOf}
use Rattle.irl_yard.proofs.Making.{on_ok_then}
use Rattle.irl_yard.proofs.Appended as appended
use Rattle.irl_yard.proofs.Appended.{ok_then, same_crawl}

-- ---- the events
-- a crawl with an event has begun
begins : (x : Progress) (event : Event) (places : List Place) → (after_event x event places).begun ≡ true
begins x (Begin suffixes) places = refl
begins x (Pairs cuts judged sent) places = refl
begins x (Pass judged) places = refl
begins x (Robots note) places = refl
begins x (Settle fronts outcomes) places = refl

always_begun : (x : Progress) (e : Happened) (es : List Happened) → (after_events (after_event x e.0 e.1) es).begun ≡ true
always_begun x e [] = begins x e.0 e.1
always_begun x e (f ∷ fs) = always_begun (after_event x e.0 e.1) f fs

pub none_begun : (queues buckets : ℕ) (events : List Happened) → (progress queues buckets events).begun ≡ false → events ≡ []
none_begun queues buckets [] is = refl
none_begun queues buckets (e ∷ es) is = let was = always_begun (before_all queues buckets) e es in absurd (cc)

pub begun_more : (queues buckets : ℕ) (events : List Happened) (h : Happened) → (progress queues buckets events).begun ≡ true → begun_with (events ++ h ∷ []) ≡ begun_with events
begun_more queues buckets [] h is = cc
begun_more queues buckets (e ∷ es) h is = refl

-- ---- the state
-- an event that keeps the rules after these, with these places, and of which the books say what they have to
pub record IsNext (settings : Settings) (urls pairs : Book) (events : List Happened) (event : Event) (places : List Place) : Type 0 where
  pub keeps : broken (progress settings.queues settings.buckets events) event places ≡ None
  pub told : IsOfBooks (domain_by (events ++ (event, places) ∷ [])) key_of settings urls pairs (progress settings.queues settings.buckets events) event places

pub crawl_more : (settings : Settings) (urls pairs : Book) (events : List Happened) (event : Event) (places : List Place) → IsNext settings urls pairs events event places
    → IsCrawlState settings urls pairs events → IsCrawlState settings urls pairs (events ++ (event, places) ∷ [])
crawl_more settings urls pairs events event places next state = record {
  pairs_are = state.pairs_are;
  legal = legal-more domain_of key_of settings urls pairs events event places state.legal next.keeps next.told;
  taken = state.taken;
}

-- ---- what an append of one event leaves
module _ {S : Type 0} (tells : S → Told) (law : (s : S) → IsConsistent (tells s)) (result : Result Unit Fault) (event : Event) (places : List Place) (frontier : Frontier)
    (suffixes : Option (List ℕ)) (before after : S) (urls : Drum) (old new : Ledger) (drum : IsDrum urls) (open_crawl : IsOpenLedger urls old (tells before).files)
    (was_sound : old.log.journal.is_sound ≡ true)
    (adds : AddsToLog tells result event frontier suffixes old new before after) where
  abbrev several : AddsAllToLog tells result (event ∷ []) frontier suffixes old new before after
  several = one_of_all tells result event frontier suffixes old new before after adds

  pub log_changes : OnlyChanges (ChangesFile crawl_file (λ _ _. Unit {0})) (IsErrOf result Failed) (tells before) (tells after)
  log_changes = appended.log_changes tells law result ((event, places) ∷ []) frontier suffixes before after urls old new drum open_crawl was_sound several

  pub only_log : LeavesBy (ChangesOnly (λ f. f ≡ crawl_file)) (tells before) (tells after)
  only_log = appended.only_log tells law result ((event, places) ∷ []) frontier suffixes before after urls old new drum open_crawl was_sound several

  pub told_log : TellsOnly (λ f. f ≡ crawl_file) (tells before).files (tells after).files
  told_log = appended.told_log tells law result ((event, places) ∷ []) frontier suffixes before after urls old new drum open_crawl was_sound several

  pub urls_long : ForSome (tells before).files (λ files. IsLong urls files) → ForSome (tells after).files (λ files. IsLong urls files)
  urls_long = appended.urls_long tells law result ((event, places) ∷ []) frontier suffixes before after urls old new drum open_crawl was_sound several

  pub still_open : FitsBays urls old.pairs frontier → frontier.progress.begun ≡ is_some suffixes → IsOpenLedger urls new (tells after).files
  still_open = appended.still_open tells law result ((event, places) ∷ []) frontier suffixes before after urls old new drum open_crawl was_sound several

  -- what a state has to say of the event
  pub record IsNextIn (state : State) : Type 0 where
    pub next : IsNext urls.settings state.urls state.pairs state.events event places
    pub begun : begun_with (with_event event places state).events ≡ suffixes
    pub tables : IsFrontierOf urls.settings state.urls state.pairs (with_event event places state).events frontier

  abbrev AreNext : State → Type 0
  AreNext state = appended.AreNextIn tells law result ((event, places) ∷ []) frontier suffixes before after urls old new drum open_crawl was_sound several state

  pub one_next : (state : State) → IsNextIn state → AreNext state
  one_next state is = record { legal = crawl_more urls.settings state.urls state.pairs state.events event places is.next; begun = is.begun; tables = is.tables }

  -- of one state
  pub state_next : (was now : Parts) (state : State) → was.urls ≡ urls → was.rest ≡ Crawl old → now.rest ≡ Crawl new → now.urls ≡ urls → (IsErrOf result Memory → ⊥) → IsOk result
      → (new.frontier ≡ frontier) × (new.suffixes ≡ suffixes)
      → ((events : List Event) → HoldsLog (tells before).images old.log events → HoldsLog (tells after).images new.log (events ++ event ∷ []))
      → IsNextIn state
      → HoldsState (tells before).images was state → HoldsState (tells after).images now (with_event event places state)
  state_next was now state was_urls was_rest now_rest now_urls other ok done gives is holds =
      appended.state_next tells law result ((event, places) ∷ []) frontier suffixes before after urls old new drum open_crawl was_sound several
      was now state was_urls was_rest now_rest now_urls other ok done gives (one_next state is) holds

  pub stops_next : (was : Parts) (state : State) → was.urls ≡ urls → was.rest ≡ Crawl old
      → IsNextIn state
      → HoldsState (tells before).images was state → Leaves (tells before) (tells after) (HasOneOf state (with_event event places state))
  stops_next was state was_urls was_rest is holds =
      appended.stops_next tells law result ((event, places) ∷ []) frontier suffixes before after urls old new drum open_crawl was_sound several was state was_urls was_rest (one_next state is) holds

  pub legal_next : (was : Parts) (state : State) → was.urls ≡ urls → was.rest ≡ Crawl old → IsNextIn state → HoldsState (tells before).images was state
      → IsStateOf urls.settings (with_event event places state)
  legal_next was state was_urls was_rest is holds =
      appended.legal_next tells law result ((event, places) ∷ []) frontier suffixes before after urls old new drum open_crawl was_sound several was state was_urls was_rest (one_next state is) holds

-- a call that adds an event which gives no places
module _ {S : Type 0} (tells : S → Told) (law : (s : S) → IsConsistent (tells s)) (result : Result Unit Fault) (event : Event) (suffixes : Option (List ℕ)) (before after : S) (urls : Drum)
    (old new : Ledger) (drum : IsDrum urls) (open_crawl : IsOpenLedger urls old (tells before).files) (was_sound : old.log.journal.is_sound ≡ true)
    (adds : AddsToLog tells result event (after_other old.frontier event) suffixes old new before after) where
  abbrev then : Frontier
  then = after_other old.frontier event

  abbrev event_adds : AddsAllToLog tells result (event ∷ []) then suffixes old new before after
  event_adds = one_of_all tells result event then suffixes old new before after adds

  pub adds_event : (was now : Parts) → was.urls ≡ urls → was.rest ≡ Crawl old → now.rest ≡ Crawl new → now.urls ≡ urls → (now.rest ≡ was.rest → now ≡ was)
      → ((state : State) → HoldsUrls (tells before).images urls state → HoldsLedger (tells before).images urls.settings old state.urls state.pairs state.events
      → IsNextIn tells law result event [] then suffixes before after urls old new drum open_crawl was_sound adds state)
      → suffixes ≡ suffixes_after event old.suffixes → AddsEvent tells result event was now before after
  adds_event was now was_urls was_rest now_rest now_urls same next begins = record {
    holds = ok_then result _ adds.done (λ other ok done. on_ok_then result (λ gives state holds.
        appended.state_more tells law result ((event, []) ∷ []) then suffixes before after urls old new drum open_crawl was_sound event_adds
        was now state was_urls was_rest now_rest now_urls other ok done gives
        (λ state beside held. one_next tells law result event [] then suffixes before after urls old new drum open_crawl was_sound adds state (next state beside held)) holds)
        (adds.log other).acknowledged);
    stops = λ state holds. appended.stops_at tells law result ((event, []) ∷ []) then suffixes before after urls old new drum open_crawl was_sound event_adds
        was state was_urls was_rest
        (λ state beside held. one_next tells law result event [] then suffixes before after urls old new drum open_crawl was_sound adds state (next state beside held)) holds;
    legal = λ state holds. appended.legal_at tells law result ((event, []) ∷ []) then suffixes before after urls old new drum open_crawl was_sound event_adds
        was state was_urls was_rest
        (λ state beside held. one_next tells law result event [] then suffixes before after urls old new drum open_crawl was_sound adds state (next state beside held)) holds;
    others = log_changes tells law result event [] then suffixes before after urls old new drum open_crawl was_sound adds;
    memory = λ is. ((adds.memory is).0, same (now_rest ∙ ap (λ (c : Ledger). Crawl c) (adds.memory is).1 ∙ sym was_rest));
    full = λ n is. (adds.log (λ memory. cc)).records.full n is;
    damaged = λ f at is. (adds.log (λ memory. cc)).records.damaged f at is;
    urls = now_urls ∙ sym was_urls;
    tables = λ c d was_is now_is.
        subst (λ (x : Ledger). TellsEvent result event x d) (same_crawl old c (sym was_rest ∙ was_is))
        (subst (TellsEvent result event old) (same_crawl new d (sym now_rest ∙ now_is))
        (record { done = on_ok_then result (λ done. (done.0, done.1 ∙ begins)) adds.done; kept = adds.kept; pairs = adds.pairs }));
  }

-- ---- the parts of a crawl that is open
pub is_open : (urls : Drum) (rest : Rest) (crawl : Ledger) (told : Option Files) → rest ≡ Crawl crawl → IsOpenRest urls rest told → (urls.settings.kind ≡ CrawlKind) × IsOpenLedger urls crawl told
is_open urls rest crawl told is open_rest = open_rest.1 crawl is

pub log_sound : (rest : Rest) (crawl : Ledger) → rest ≡ Crawl crawl → IsSoundRest rest → crawl.log.journal.is_sound ≡ true
log_sound rest crawl is sound = let both : IsSoundRest (Crawl crawl) = subst IsSoundRest is sound in both.1

pub log_place : (urls : Drum) (rest : Rest) (crawl : Ledger) (told : Option Files) → rest ≡ Crawl crawl → IsOpenRest urls rest told → IsSoundRest rest
    → ForSome told (λ files. crawl.log.journal.end < length (files crawl.log.journal.file))
log_place urls rest crawl told is open_rest sound =
    let opened = (is_open urls rest crawl told is open_rest).1 in
    subst (λ (f : ℕ). ForSome told (λ files. crawl.log.journal.end < length (files f))) (sym opened.file) (opened.log_long (log_sound rest crawl is sound))

-- ---- the events
-- a beginning
pub begin_next : (settings : Settings) (urls pairs : Book) (events : List Happened) (x : Frontier) (suffixes : List ℕ) → x.progress.begun ≡ false → IsFrontier x
    → IsFrontierOf settings urls pairs events x → IsNext settings urls pairs events (Begin suffixes) [] × (begun_with (events ++ (Begin suffixes, []) ∷ []) ≡ Some suffixes)
    × IsFrontierOf settings urls pairs (events ++ (Begin suffixes, []) ∷ []) (after_other x (Begin suffixes))
begin_next settings urls pairs events x suffixes is keeps tables =
    let begun : (progress settings.queues settings.buckets events).begun ≡ false = ap (λ (p : Progress). p.begun) (sym tables.progress_is) ∙ is in
    let none = none_begun settings.queues settings.buckets events begun in (
      record { keeps = begin_keeps (progress settings.queues settings.buckets events) suffixes begun; told = refl },
      subst (λ (es : List Happened). begun_with (es ++ (Begin suffixes, []) ∷ []) ≡ Some suffixes) (sym none) refl,
      subst (λ (es : List Happened). IsFrontierOf settings urls pairs (es ++ (Begin suffixes, []) ∷ []) (after_other x (Begin suffixes))) (sym none)
          (tables_begun settings urls pairs x suffixes keeps (subst (λ (es : List Happened). IsFrontierOf settings urls pairs es x) none tables)),
    )

-- a note
pub note_next : (settings : Settings) (urls pairs : Book) (events : List Happened) (x : Frontier) (note : Note) → x.progress.begun ≡ true → IsNote note
    → IsFrontierOf settings urls pairs events x → IsNext settings urls pairs events (Robots note) [] × (begun_with (events ++ (Robots note, []) ∷ []) ≡ begun_with events)
    × IsFrontierOf settings urls pairs (events ++ (Robots note, []) ∷ []) (after_other x (Robots note))
note_next settings urls pairs events x note is form tables =
    let begun : (progress settings.queues settings.buckets events).begun ≡ true = ap (λ (p : Progress). p.begun) (sym tables.progress_is) ∙ is in
    let same = begun_more settings.queues settings.buckets events (Robots note, []) begun in (
      record { keeps = note_keeps (progress settings.queues settings.buckets events) note begun form; told = refl },
      same,
      tables_other settings urls pairs events x (Robots note) same tables,
    )
