-- What is open beside the bay of URLs stays in calls that change files of that bay alone.
use Rattle.std.proofs.Common.{◌≡◌, ◌≢◌, ◌∙◌, ℕ, ◌<◌, List, length, Option, refl, sym, ap, subst, arith}
use Rattle.irl_offer.specs.declared.settings.Kind.{Kind}
use Rattle.irl_offer.specs.declared.settings.Kind.TheVariants.{Crawl as CrawlKind}
use Rattle.irl_offer.specs.declared.settings.Settings.{Settings}
use Rattle.irl_model.specs.Book.{Book, IsBook, IsFront}
use Rattle.irl_events.specs.Events.{Happened}
use Rattle.irl_events.specs.State.{State}
use Rattle.irl_disk.specs.Disk.{Files, ChangesOnly, TellsOnly}
use Rattle.irl_disk.specs.Images.{Told, IsConsistent, LeavesBy, LeavesSame}
use Rattle.irl_layout.specs.BayFiles.{IsFileOf}
use Rattle.irl_bay.specs.Drum.{Drum, IsDrum}
use Rattle.irl_bay.specs.Holding.{Holds}
use Rattle.irl_bay.proofs.Apart.{files_of_both, files_within, holds_beside, long_beside}
use Rattle.irl_bay.proofs.Staying.{leaves_same, open_stays, told_before}
use Rattle.irl_schedule.specs.Feeding.{CountsGrow, Moment, Stays}
use Rattle.irl_head.specs.StoreFiles.{crawl_file, pairs_base}
use Rattle.irl_log.specs.Spelling.{log_records}
use Rattle.irl_ledger.specs.declared.ledger.Ledger.{Ledger}
use Rattle.irl_yard.specs.declared.parts.Parts.{Parts}
use Rattle.irl_yard.specs.declared.parts.Rest.{Rest}
use Rattle.irl_yard.specs.declared.parts.Rest.TheVariants.{Plain, Crawl}
use Rattle.irl_ledger.specs.Crawling.{MayFollow, events_of, pair_settings}
use Rattle.irl_ledger.specs.Holding.{HoldsLedger, IsOpenLedger}
use Rattle.irl_ledger.proofs.Tables.{fits_grown, tables_more}
use Rattle.irl_yard.specs.Standing.{with_urls}
use Rattle.irl_yard.specs.Holding.{HoldsOpen, HoldsState, HoldsUrls, IsOpenRest}
use Rattle.irl_yard.proofs.ByKind.{follows_same, rest_follows}
use Rattle.irl_yard.proofs.Holding.{AreOfUrls, holds_after, holds_same}
use Rattle.irl_yard.proofs.RestFiles.{few}

-- ---- the files
module _ (among : ℕ → Type 0) (was : Drum) (crawl : Ledger) (told : Option Files) (law : IsDrum was) (are : AreOfUrls was among) (rest : IsOpenLedger was crawl told) where
  -- those of the bay of pairs are none of these,
  pairs_apart : (f : ℕ) → IsFileOf crawl.pairs.base crawl.pairs.settings.buckets f → among f → ⊥
  pairs_apart f is changed =
      let pairs = subst (λ (s : Settings). IsFileOf pairs_base s.buckets f) rest.settings (subst (λ (n : ℕ). IsFileOf n crawl.pairs.settings.buckets f) rest.base is) in
      files_of_both was.settings.buckets f (few was.settings law.settings) (subst (λ (n : ℕ). IsFileOf n was.settings.buckets f) rest.urls_at (are f changed)) pairs

  -- and neither is that of the log
  log_apart : among crawl_file → ⊥
  log_apart changed = omega (arith, rest.urls_at, (files_within was.base was.settings.buckets crawl_file (few was.settings law.settings) (are crawl_file changed)).0)

-- ---- what is told of them
ledger_beside : (among : ℕ → Type 0) (old new : Option Files) (was now : Drum) (crawl : Ledger) → IsDrum was → AreOfUrls was among → TellsOnly among old new → now.base ≡ was.base
    → now.settings ≡ was.settings → CountsGrow was now → IsOpenLedger was crawl old → IsOpenLedger now crawl new
ledger_beside among old new was now crawl law are tells base settings grows rest = record {
  urls_at = base ∙ rest.urls_at;
  drum = rest.drum;
  base = rest.base;
  settings = rest.settings ∙ ap pair_settings (sym settings);
  file = rest.file;
  buckets = rest.buckets ∙ ap (λ (s : Settings). s.buckets) (sym settings);
  long = λ sound. long_beside among old new crawl.pairs rest.drum tells (pairs_apart among was crawl old law are rest) (rest.long sound);
  log_long = λ sound files told.
      let before = told_before among old new files tells told in
      subst (λ (file : List ℕ). crawl.log.journal.end < length file) (sym (before.2 crawl_file (log_apart among was crawl old law are rest))) (rest.log_long sound before.0 before.1);
  fits = fits_grown was now crawl.pairs crawl.frontier settings grows rest.fits;
  begun = rest.begun;
  noted = rest.noted;
}

-- a store of lines or of tuples has nothing open beside, and one of a crawl its ledger
pub plain_open : (urls : Drum) (told : Option Files) → urls.settings.kind ≢ CrawlKind → IsOpenRest urls Plain told
plain_open urls told plain = (λ is. plain, λ ledger is. let no : ⊥ = cc in absurd no)

pub crawl_open : (urls : Drum) (ledger : Ledger) (told : Option Files) → urls.settings.kind ≡ CrawlKind → IsOpenLedger urls ledger told → IsOpenRest urls (Crawl ledger) told
crawl_open urls ledger told kind opened = (
  λ is. let no : ⊥ = cc in absurd no,
  λ other is. let same : ledger ≡ other = cc in (kind, subst (λ (l : Ledger). IsOpenLedger urls l told) same opened),
)

pub rest_beside : (among : ℕ → Type 0) (old new : Option Files) (was now : Drum) (rest : Rest) → IsDrum was → AreOfUrls was among → TellsOnly among old new → now.base ≡ was.base
    → now.settings ≡ was.settings → CountsGrow was now → IsOpenRest was rest old → IsOpenRest now rest new
rest_beside among old new was now rest law are tells base settings grows open_rest = (
  λ is. subst (λ (s : Settings). s.kind ≢ CrawlKind) (sym settings) (open_rest.0 is),
  λ ledger is.
      let opened = open_rest.1 ledger is in
      (ap (λ (s : Settings). s.kind) settings ∙ opened.0, ledger_beside among old new was now ledger law are tells base settings grows opened.1),
)

-- a call of the schedule
pub rest_stays_open : (old new : Moment) (rest : Rest) → Stays old new → IsDrum old.drum → IsOpenRest old.drum rest old.store.files → IsOpenRest new.drum rest new.store.files
rest_stays_open old new rest stays law open_rest =
    rest_beside (IsFileOf old.drum.base old.drum.settings.buckets) old.store.files new.store.files old.drum new.drum rest law (λ f is. is) stays.others stays.base stays.settings stays.grows open_rest

-- nothing changed
pub rest_same : (old new : Option Files) (urls : Drum) (rest : Rest) → new ≡ old → IsOpenRest urls rest old → IsOpenRest urls rest new
rest_same old new urls rest same open_rest = subst (IsOpenRest urls rest) (sym same) open_rest

-- ---- what is held in them
ledger_held : (among : ℕ → Type 0) (old new : Told) (was : Drum) (crawl : Ledger) (urls more pairs : Book) (events : List Happened) → IsDrum was → IsConsistent new → AreOfUrls was among
    → LeavesBy (ChangesOnly among) old new → IsOpenLedger was crawl old.files → IsBook urls → IsFront urls more → HoldsLedger old.images was.settings crawl urls pairs events
    → HoldsLedger new.images was.settings crawl more pairs events
ledger_held among old new was crawl urls more pairs events law consistent are stops rest is front holds = record {
  pairs_hold = holds_beside among old new crawl.pairs pairs rest.drum consistent stops (pairs_apart among was crawl old.files law are rest) holds.pairs_hold;
  log = record {
    each = holds.log.each;
    records = open_stays among old new crawl.log.journal (log_records (events_of events)) consistent stops
        (λ changed. log_apart among was crawl old.files law are rest (subst among rest.file changed)) holds.log.records;
  };
  frontier = tables_more was.settings urls more pairs events crawl.frontier is front holds.frontier;
  suffixes = holds.suffixes;
  log_ends = holds.log_ends;
  notes = holds.notes;
}

open_held : (among : ℕ → Type 0) (old new : Told) (was : Drum) (rest : Rest) (urls more pairs : Book) (events : List Happened) → IsDrum was → IsConsistent new → AreOfUrls was among
    → LeavesBy (ChangesOnly among) old new → IsOpenRest was rest old.files → IsBook urls → MayFollow was.settings.kind urls more → HoldsOpen old.images was.settings rest urls pairs events
    → HoldsOpen new.images was.settings rest more pairs events
open_held among old new was Plain urls more pairs events law consistent are stops open_rest is follows holds = holds
open_held among old new was (Crawl ledger) urls more pairs events law consistent are stops open_rest is follows holds =
    let front : MayFollow CrawlKind urls more = subst (λ (k : Kind). MayFollow k urls more) holds.0 follows in
    (holds.0, ledger_held among old new was ledger urls more pairs events law consistent are stops (open_rest.1 ledger refl).1 is front.0 holds.1)

-- a call of the schedule leaves what is open beside
pub open_after : (old new : Moment) (was now : Rest) (urls more pairs : Book) (events : List Happened) → IsDrum old.drum → IsConsistent new.store → Stays old new
    → IsOpenRest old.drum was old.store.files → now ≡ was → IsBook urls → MayFollow old.drum.settings.kind urls more → HoldsOpen old.store.images old.drum.settings was urls pairs events
    → HoldsOpen new.store.images new.drum.settings now more pairs events
open_after old new was now urls more pairs events law consistent stays open_rest same is follows holds =
    let held = open_held (IsFileOf old.drum.base old.drum.settings.buckets) old.store new.store old.drum was urls more pairs events law consistent (λ f is. is) stays.others_stop open_rest is follows
    holds in
    subst (λ (s : Settings). HoldsOpen new.store.images s now more pairs events) (sym stays.settings)
    (subst (λ (r : Rest). HoldsOpen new.store.images old.drum.settings r more pairs events) (sym same) held)

-- a call on the bay of URLs leaves the state with the book that the bay then holds
pub state_after : (among : ℕ → Type 0) (old new : Told) (was now : Parts) (state : State) (book : Book) → IsDrum was.urls → IsConsistent new → AreOfUrls was.urls among
    → LeavesBy (ChangesOnly among) old new → IsOpenRest was.urls was.rest old.files → now.urls.base ≡ was.urls.base → now.urls.settings ≡ was.urls.settings → now.rest ≡ was.rest
    → HoldsState old.images was state → MayFollow was.urls.settings.kind state.urls book → Holds new.images now.urls book → HoldsState new.images now (with_urls book state)
state_after among old new was now state book law consistent are stops open_rest base settings rest holds follows held =
    let is = holds.urls.urls_hold.book_is.is_book in
    record {
      urls = holds_after among old new was.urls now.urls state book law consistent are stops base settings holds.urls
          (rest_follows was.urls.settings state.pairs state.events was.urls.settings.kind state.urls book is follows holds.urls.legal) held;
      open_rest = subst (λ (s : Settings). HoldsOpen new.images s now.rest book state.pairs state.events) (sym settings)
          (subst (λ (r : Rest). HoldsOpen new.images was.urls.settings r book state.pairs state.events) (sym rest)
          (open_held among old new was.urls was.rest state.urls book state.pairs state.events law consistent are stops open_rest is follows holds.open_rest));
    }

-- and one that changes nothing leaves the state
pub state_same : (old new : Told) (was now : Parts) (state : State) → IsDrum was.urls → IsConsistent new → LeavesSame old new → IsOpenRest was.urls was.rest old.files → now.urls ≡ was.urls
    → now.rest ≡ was.rest → HoldsState old.images was state → HoldsState new.images now state
state_same old new was now state law consistent same open_rest urls rest holds =
    let here : HoldsState new.images was state = record {
      urls = holds_same old new was.urls state law consistent same holds.urls;
      open_rest = open_held (λ f. ⊥) old new was.urls was.rest state.urls state.urls state.pairs state.events law consistent (λ f no. absurd no) (leaves_same (λ f. ⊥) old new same) open_rest
          holds.urls.urls_hold.book_is.is_book (follows_same was.urls.settings state.pairs state.events was.urls.settings.kind state.urls holds.urls.legal) holds.open_rest;
    } in
    record {
      urls = subst (λ (d : Drum). HoldsUrls new.images d state) (sym urls) here.urls;
      open_rest = subst (λ (d : Drum). HoldsOpen new.images d.settings now.rest state.urls state.pairs state.events) (sym urls)
          (subst (λ (r : Rest). HoldsOpen new.images was.urls.settings r state.urls state.pairs state.events) (sym rest) here.open_rest);
    }
