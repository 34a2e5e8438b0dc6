-- What is open beside the bay of URLs stays in calls that change none of its files.
use Rattle.std.proofs.Common.{◌≡◌, ◌⊎◌, inl, inr, ℕ, ◌<◌, ◌≤◌, List, length, Option, refl, sym, subst, arith}
use Rattle.irl_offer.specs.declared.settings.Settings.{Settings}
use Rattle.irl_model.specs.Book.{Book}
use Rattle.irl_events.specs.Events.{Happened}
use Rattle.irl_disk.specs.Disk.{Files, ChangesFile, ChangesOnly, TellsOnly}
use Rattle.irl_disk.specs.Effects.{OnlyChanges, ReadsAndChanges}
use Rattle.irl_disk.specs.Images.{Told, Follows, IsConsistent, LeavesBy}
use Rattle.irl_disk.proofs.Effects.{told_wider}
use Rattle.irl_disk.proofs.Stretches.{left_now, widens_by}
use Rattle.irl_layout.specs.BayFiles.{IsFileOf}
use Rattle.irl_bay.specs.Drum.{Drum}
use Rattle.irl_bay.proofs.Apart.{holds_beside, long_beside}
use Rattle.irl_bay.specs.Making.{IsJournalOf, Makes}
use Rattle.irl_bay.proofs.Staying.{leaves_both, leaves_one, open_stays, tells_both, tells_one, told_before}
use Rattle.irl_head.specs.StoreFiles.{head_file, crawl_file, pairs_base, urls_base}
use Rattle.irl_head.specs.Writing.{GainsFirst}
use Rattle.irl_log.specs.Spelling.{log_records}
use Rattle.irl_ledger.specs.declared.ledger.Ledger.{Ledger}
use Rattle.irl_ledger.specs.Crawling.{events_of}
use Rattle.irl_ledger.specs.Holding.{HoldsLedger, IsOpenLedger}
use Rattle.irl_yard.specs.declared.parts.Rest.{Rest}
use Rattle.irl_yard.specs.declared.parts.Rest.TheVariants.{Plain, Crawl}
use Rattle.irl_yard.specs.Entering.{IsRestFile}
use Rattle.irl_yard.specs.Holding.{HoldsOpen, IsOpenRest}
use Rattle.irl_yard.specs.Standing.{HasRest}
use Rattle.irl_yard.proofs.ByKind.{rest_stays}
use Rattle.irl_yard.proofs.Beside.{crawl_open, plain_open}
use Rattle.irl_yard.proofs.RestFiles.{one_side, pairs_rest, rest_no_head, rest_no_journal, same_as_told}

module _ (among : ℕ → Type 0) (urls : Drum) (apart : (f : ℕ) → IsRestFile urls.settings.buckets f → among f → ⊥) where
  pairs_apart : (ledger : Ledger) (told : Option Files) → IsOpenLedger urls ledger told → (f : ℕ) → IsFileOf ledger.pairs.base ledger.pairs.settings.buckets f → among f → ⊥
  pairs_apart ledger told is f file =
      apart f (pairs_rest urls.settings.buckets f (subst (λ (s : Settings). IsFileOf pairs_base s.buckets f) is.settings (subst (λ (n : ℕ). IsFileOf n ledger.pairs.settings.buckets f) is.base file)))

  -- what is told of it
  ledger_kept : (ledger : Ledger) (old new : Option Files) → TellsOnly among old new → IsOpenLedger urls ledger old → IsOpenLedger urls ledger new
  ledger_kept ledger old new tells is = record {
    urls_at = is.urls_at;
    drum = is.drum;
    base = is.base;
    settings = is.settings;
    file = is.file;
    buckets = is.buckets;
    long = λ sound. long_beside among old new ledger.pairs is.drum tells (pairs_apart ledger old is) (is.long sound);
    log_long = λ sound files told.
        let before = told_before among old new files tells told in
        subst (λ (file : List ℕ). ledger.log.journal.end < length file) (sym (before.2 crawl_file (apart crawl_file (inl refl)))) (is.log_long sound before.0 before.1);
    fits = is.fits;
    begun = is.begun;
    noted = is.noted;
  }

  pub rest_kept_open : (rest : Rest) (old new : Option Files) → TellsOnly among old new → IsOpenRest urls rest old → IsOpenRest urls rest new
  rest_kept_open Plain old new tells is = plain_open urls new (is.0 refl)
  rest_kept_open (Crawl ledger) old new tells is = let was = is.1 ledger refl in crawl_open urls ledger new was.0 (ledger_kept ledger old new tells was.1)

  -- and what is held in it
  ledger_kept_held : (ledger : Ledger) (old new : Told) (book pairs : Book) (events : List Happened) → IsConsistent new → LeavesBy (ChangesOnly among) old new → IsOpenLedger urls ledger old.files
      → HoldsLedger old.images urls.settings ledger book pairs events → HoldsLedger new.images urls.settings ledger book pairs events
  ledger_kept_held ledger old new book pairs events law stops is holds = record {
    pairs_hold = holds_beside among old new ledger.pairs pairs is.drum law stops (pairs_apart ledger old.files is) holds.pairs_hold;
    log = record {
      each = holds.log.each;
      records = open_stays among old new ledger.log.journal (log_records (events_of events)) law stops (λ changed. apart crawl_file (inl refl) (subst among is.file changed)) holds.log.records;
    };
    frontier = holds.frontier;
    suffixes = holds.suffixes;
    log_ends = holds.log_ends;
    notes = holds.notes;
  }

  pub rest_kept_held : (rest : Rest) (old new : Told) (book pairs : Book) (events : List Happened) → IsConsistent new → LeavesBy (ChangesOnly among) old new → IsOpenRest urls rest old.files
      → HoldsOpen old.images urls.settings rest book pairs events → HoldsOpen new.images urls.settings rest book pairs events
  rest_kept_held Plain old new book pairs events law stops is holds = holds
  rest_kept_held (Crawl ledger) old new book pairs events law stops is holds = (holds.0, ledger_kept_held ledger old new book pairs events law stops (is.1 ledger refl).1 holds.1)

-- ---- in a store that is made
-- behind what it has beside, its bay of URLs is made, and then its head is written
module _ (settings : Settings) (failed wrote : Type 0) (payload : List ℕ) (rest made new : Told) (few : settings.buckets ≤ 64) (law_made : IsConsistent made) (law_new : IsConsistent new)
    (bay : OnlyChanges (Makes urls_base settings.buckets) failed rest made) (head : ReadsAndChanges (λ f. f ≡ head_file) (ChangesFile head_file (GainsFirst payload)) wrote made new) where
  abbrev IsWritten : ℕ → Type 0
  IsWritten f = (f ≡ head_file) ⊎ IsJournalOf urls_base settings.buckets f

  makes_written : (x y : Files) → Makes urls_base settings.buckets x y → ChangesOnly IsWritten x y
  makes_written x y makes = λ f out. makes.others f (λ journal. out (inr (one_side 0 settings.buckets f (omega arith) journal)))

  written_stops : LeavesBy (ChangesOnly IsWritten) rest new
  written_stops =
      leaves_both IsWritten rest made new law_made (widens_by rest made (Makes urls_base settings.buckets) (ChangesOnly IsWritten) bay.stops makes_written)
      (leaves_one IsWritten head_file (GainsFirst payload) made new (inl refl) head.stops)

  written_tells : TellsOnly IsWritten rest.files new.files
  written_tells =
      tells_both IsWritten rest.files made.files new.files (told_wider (Makes urls_base settings.buckets) (ChangesOnly IsWritten) rest.files made.files makes_written bay.told)
      (tells_one IsWritten head_file (GainsFirst payload) made.files new.files (inl refl) head.told)

  written_apart : (f : ℕ) → IsRestFile settings.buckets f → IsWritten f → ⊥
  written_apart f is (inl e) = rest_no_head settings.buckets f is e
  written_apart f is (inr journal) = rest_no_journal settings.buckets f few is journal

  apart_at : (urls : Drum) → urls.settings ≡ settings → (f : ℕ) → IsRestFile urls.settings.buckets f → IsWritten f → ⊥
  apart_at urls same f is = written_apart f (subst (λ (s : Settings). IsRestFile s.buckets f) same is)

  -- what is open and held beside stays so,
  pub open_then : (urls : Drum) (is : urls.settings ≡ settings) (r : Rest) → IsOpenRest urls r rest.files → IsOpenRest urls r new.files
  open_then urls is r was = rest_kept_open IsWritten urls (apart_at urls is) r rest.files new.files written_tells was

  pub held_then : (urls : Drum) (is : urls.settings ≡ settings) (r : Rest) (book pairs : Book) (events : List Happened) → IsOpenRest urls r rest.files
      → HoldsOpen rest.images settings r book pairs events → HoldsOpen new.images urls.settings r book pairs events
  held_then urls is r book pairs events opened held =
      rest_kept_held IsWritten urls (apart_at urls is) r rest new book pairs events law_new written_stops opened
      (subst (λ (s : Settings). HoldsOpen rest.images s r book pairs events) (sym is) held)

  -- and so does what each stop leaves of it
  pub has_then : (pairs : Book) (events : List Happened) → ((image : Files) → rest.images image → HasRest settings.kind settings pairs events image) → (image : Files) → new.images image
      → HasRest settings.kind settings pairs events image
  has_then pairs events has image left =
      let from = left_now rest new (Follows (ChangesOnly IsWritten) rest.images) law_new written_stops image left in
      rest_stays settings pairs events settings.kind from.0 image (same_as_told settings.buckets from.0 image (λ f is. from.2 f (written_apart f is))) (has from.0 from.1)
