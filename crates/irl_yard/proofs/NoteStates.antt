-- The last note of a host, over states.
use Rattle.std.proofs.Common.{◌≡◌, ◌≢◌, ◌∙◌, ℕ, List, [], Option, None, Some, Result, Ok, Err, IsErrOf, refl, sym, ap, subst}
use Rattle.std.specs.Prelude.{IfOk}
use Rattle.std.specs.FinMap.{get}
use Rattle.std.specs.Option.{ForSome}
use Rattle.irl_base.specs.declared.fault.Fault.{Fault}
use Rattle.irl_base.specs.declared.fault.Fault.TheVariants.{Damaged, Failed, Full}
use Rattle.irl_offer.specs.declared.note.Note.{Note}
use Rattle.irl_offer.specs.declared.settings.Kind.{Kind}
use Rattle.irl_offer.specs.declared.settings.Kind.TheVariants.{Lines, Tuples, Crawl as CrawlKind}
use Rattle.irl_offer.specs.declared.settings.Settings.{Settings}
use Rattle.irl_model.specs.Book.{Book}
use Rattle.irl_events.specs.Events.{Event, Happened}
use Rattle.irl_events.specs.State.{State}
use Rattle.irl_disk.specs.Disk.{Files}
use Rattle.irl_disk.specs.Images.{Told, IsConsistent}
use Rattle.irl_disk.proofs.Effects.{reads_for, reads_none}
use Rattle.irl_bay.specs.Drum.{Drum, IsDrum}
use Rattle.irl_head.specs.StoreFiles.{crawl_file}
use Rattle.irl_log.specs.Noting.{NoteStandsAt}
use Rattle.irl_ledger.specs.declared.ledger.Ledger.{Ledger}
use Rattle.irl_ledger.specs.Crawling.{events_of}
use Rattle.irl_ledger.specs.Noting.{HoldsNotes, IsUsedOf, ReadsNote, last_note}
use Rattle.irl_yard.specs.declared.parts.Parts.{Parts}
use Rattle.irl_yard.specs.declared.parts.Rest.{Rest}
use Rattle.irl_yard.specs.declared.parts.Rest.TheVariants.{Plain, Crawl}
use Rattle.irl_yard.specs.Holding.{HoldsOpen, HoldsState, IsOpenRest}
use Rattle.irl_yard.specs.Noting.{HasNoPlace, MayReadNoteIn, ReadsLastNote, ReadsNoteIn}
use Rattle.irl_yard.specs.Standing.{IsRest}
use Rattle.irl_yard.proofs.Beside.{state_same}
use Rattle.irl_yard.proofs.Holding.{stops_same}

-- ---- what is asked
pub may_read : (urls : Drum) (rest : Rest) (told : Option Files) (host : List ℕ) → IsOpenRest urls rest told → MayReadNoteIn rest host
may_read urls Plain told host open_rest = tt
may_read urls (Crawl ledger) told host open_rest =
    let opened = (open_rest.1 ledger refl).1 in
    record { file = opened.file; within = λ at is. opened.noted host at is }

-- ---- by the kind
pub none_in : (host : List ℕ) (moment : ℕ) (s : Told) → IsConsistent s → ReadsNoteIn (Ok None) host moment Plain s s
none_in host moment s law = record {
  plain = λ is. (refl, refl);
  crawl = λ ledger is. let no : ⊥ = cc in absurd no;
  reads = reads_for (λ f. f ≡ crawl_file) ⊥ (IsErrOf {T = Option Note} (Ok None) Failed) s s (λ is. cc) (reads_none (λ f. f ≡ crawl_file) s law);
}

pub one_in : (result : Result (Option Note) Fault) (host : List ℕ) (moment : ℕ) (ledger : Ledger) (s t : Told) → ReadsNote result host moment ledger.log ledger.notes s t
    → ReadsNoteIn result host moment (Crawl ledger) s t
one_in result host moment ledger s t reads = record {
  plain = λ is. let no : ⊥ = cc in absurd no;
  crawl = λ other is. let same : ledger ≡ other = cc in subst (λ (l : Ledger). ReadsNote result host moment l.log l.notes s t) same reads;
  reads = reads.reads;
}

no_events : (kind : Kind) (settings : Settings) (urls pairs : Book) (events : List Happened) → kind ≢ CrawlKind → IsRest kind settings urls pairs events → events ≡ []
no_events Lines settings urls pairs events plain rest = rest.events_are
no_events Tuples settings urls pairs events plain rest = rest.events_are
no_events CrawlKind settings urls pairs events plain rest = absurd (plain refl)

ok_each : {A : Type 0} (result : Result A Fault) (P : A → Type 0) → ((value : A) → result ≡ Ok value → P value) → IfOk result P
ok_each (Ok value) P each = each value refl
ok_each (Err error) P each = tt

-- ---- over states
module _ (result : Result (Option Note) Fault) (host : List ℕ) (moment : ℕ) (old new : Told) (was now : Parts) (law : IsDrum was.urls) (consistent : IsConsistent new)
    (open_rest : IsOpenRest was.urls was.rest old.files) (urls : now.urls ≡ was.urls) (rest : now.rest ≡ was.rest) (reads : ReadsNoteIn result host moment was.rest old new) where
  -- what a crawl's ledger holds
  notes_held : (ledger : Ledger) (state : State) → was.rest ≡ Crawl ledger → HoldsState old.images was state → HoldsNotes old.images ledger.log ledger.notes (events_of state.events)
  notes_held ledger state is holds =
      let opened : HoldsOpen old.images was.urls.settings (Crawl ledger) state.urls state.pairs state.events =
      subst (λ (r : Rest). HoldsOpen old.images was.urls.settings r state.urls state.pairs state.events) is holds.open_rest in
      record { log_holds = opened.1.log; places_are = opened.1.notes }

  value_by : (found : Option Note) → result ≡ Ok found → (files : Files) → old.files ≡ Some files → (state : State) → HoldsState old.images was state → (r : Rest) → was.rest ≡ r
      → IsUsedOf moment (last_note host (events_of state.events)) found
  value_by found is files told state holds Plain e =
      let kind : was.urls.settings.kind ≢ CrawlKind = subst (λ (r : Rest). HoldsOpen old.images was.urls.settings r state.urls state.pairs state.events) e holds.open_rest in
      let none = no_events was.urls.settings.kind was.urls.settings state.urls state.pairs state.events kind holds.urls.legal in
      let no_note : last_note host (events_of state.events) ≡ None = ap (λ (es : List Happened). last_note host (events_of es)) none in
      let both : Ok found ≡ Ok None = sym is ∙ (reads.plain e).0 in
      let same : found ≡ None = cc in
      subst (IsUsedOf moment (last_note host (events_of state.events))) (sym same) (λ note last used. let no : None ≡ Some note = sym no_note ∙ last in absurd (cc))
  value_by found is files told state holds (Crawl ledger) e =
      let value = subst (λ (r : Result (Option Note) Fault). IfOk r (λ found. ForSome old.files (λ _. (events : List Event) → HoldsNotes old.images ledger.log ledger.notes events
      → IsUsedOf moment (last_note host events) found))) is (reads.crawl ledger e).value in
      value files told (events_of state.events) (notes_held ledger state e holds)

  spoilt_by : (f at : ℕ) → IsErrOf result (Damaged f at) → (r : Rest) → was.rest ≡ r → (ledger : Ledger) × (was.rest ≡ Crawl ledger) × (f ≡ crawl_file) × (get ledger.notes host ≡ Some at)
      × ForSome old.files (λ files. (note : Note) → NoteStandsAt ledger.log (files crawl_file) at note → ⊥)
  spoilt_by f at is Plain e = let no : Ok None ≡ Err (Damaged f at) = sym ((reads.plain e).0) ∙ is in absurd (cc)
  spoilt_by f at is (Crawl ledger) e = let why = (reads.crawl ledger e).spoilt f at is in (ledger, e, why.0, why.1, why.2)

  whole_by : (f at : ℕ) → IsErrOf result (Damaged f at) → (files : Files) → old.files ≡ Some files → (state : State) → HoldsState old.images was state → (r : Rest) → was.rest ≡ r → ⊥
  whole_by f at is files told state holds Plain e = let no : Ok None ≡ Err (Damaged f at) = sym ((reads.plain e).0) ∙ is in cc
  whole_by f at is files told state holds (Crawl ledger) e = (reads.crawl ledger e).whole f at is files told (events_of state.events) (notes_held ledger state e holds)

  full_by : (n : ℕ) → IsErrOf result (Full n) → (r : Rest) → was.rest ≡ r → ⊥
  full_by n is Plain e = let no : Ok None ≡ Err (Full n) = sym ((reads.plain e).0) ∙ is in cc
  full_by n is (Crawl ledger) e = (reads.crawl ledger e).full n is

  sane_by : (found : Option Note) → result ≡ Ok found → (ledger : Ledger) → was.rest ≡ Crawl ledger → (at : ℕ) → get ledger.notes host ≡ Some at
      → ForSome old.files (λ files. (note : Note) × NoteStandsAt ledger.log (files crawl_file) at note × IsUsedOf moment (Some note) found)
  sane_by found is ledger e =
      subst (λ (r : Result (Option Note) Fault). IfOk r (λ found. (at : ℕ) → get ledger.notes host ≡ Some at
      → ForSome old.files (λ files. (note : Note) × NoteStandsAt ledger.log (files crawl_file) at note × IsUsedOf moment (Some note) found))) is (reads.crawl ledger e).sane

  idle_by : (r : Rest) → was.rest ≡ r → HasNoPlace r host → (result ≡ Ok None) × (new.taken ≡ old.taken)
  idle_by Plain e none = reads.plain e
  idle_by (Crawl ledger) e none = (reads.crawl ledger e).idle none

  pub note_state : ReadsLastNote result host moment was now old new
  note_state = record {
    value = ok_each result _ (λ found is files told state holds. value_by found is files told state holds was.rest refl);
    sane = ok_each result _ sane_by;
    idle = idle_by was.rest refl;
    spoilt = λ f at is. spoilt_by f at is was.rest refl;
    whole = λ f at is files told state holds. whole_by f at is files told state holds was.rest refl;
    full = λ n is. full_by n is was.rest refl;
    urls = urls;
    rest = rest;
    holds = λ state holds. state_same old new was now state law consistent reads.reads.stops open_rest urls rest holds;
    stops = λ state holds. stops_same old new was.urls state law holds.urls reads.reads.stops;
    reads = reads.reads;
  }
