-- The records of the live bucket journals of both bays, where calls change other files; and states that are told apart.
use Rattle.std.proofs.Common.{◌≡◌, ◌∙◌, inl, inr, ℕ, ◌+◌, ◌<◌, ◌≤◌, List, ◌++◌, length, map, drop, Some, Option, refl, sym, ap, subst, append_assoc, arith}
use Rattle.std.specs.List.{AllByRecursion}
use Rattle.irl_offer.specs.Buckets.{IsBucketCount}
use Rattle.irl_offer.specs.declared.settings.Kind.TheVariants.{Crawl as CrawlKind}
use Rattle.irl_offer.specs.declared.settings.Settings.{Settings}
use Rattle.irl_model.specs.Book.{Book}
use Rattle.irl_events.specs.Events.{Happened}
use Rattle.irl_events.specs.State.{State, AreFronts, IsFrontState}
use Rattle.irl_disk.specs.Disk.{Files, ChangesOnly}
use Rattle.irl_disk.specs.Images.{Told, IsConsistent, Follows, Leaves, LeavesBy}
use Rattle.irl_disk.proofs.Stretches.{left_now, widens}
use Rattle.irl_journal.specs.Format.{HasRecords}
use Rattle.irl_journal.proofs.Lists.{one_list}
use Rattle.irl_layout.specs.BayFiles.{IsFileOf, file_of}
use Rattle.irl_layout.specs.Commits.{Commit, HasLiveRecords, IsCommit, commit_bytes, first_commit, last_commit, live_side}
use Rattle.irl_layout.specs.declared.files.BayFile.TheVariants.{Manifest, Journal}
use Rattle.irl_bay.specs.Drum.{Drum, IsDrum}
use Rattle.irl_bay.specs.Holding.{Holds}
use Rattle.irl_bay.proofs.Apart.{files_of_both, files_within}
use Rattle.irl_bay.proofs.DrumFiles.{live_low}
use Rattle.irl_bay.proofs.OneBook.{same_commits}
use Rattle.irl_head.specs.StoreFiles.{crawl_file, pairs_base, urls_base}
use Rattle.irl_schedule.proofs.Journals.{journal_stays, leaves_pair, moved_records}
use Rattle.irl_schedule.specs.Schedule.{HaveRecords}
use Rattle.irl_ledger.specs.Crawling.{pair_settings}
use Rattle.irl_ledger.specs.declared.ledger.Ledger.{Ledger}
use Rattle.irl_yard.specs.declared.parts.Parts.{Parts}
use Rattle.irl_yard.specs.declared.parts.Rest.{Rest}
use Rattle.irl_yard.specs.declared.parts.Rest.TheVariants.{Plain, Crawl}
use Rattle.irl_yard.specs.Holding.{HasLedger, HoldsOpen, HoldsState, HoldsUrls, IsOpenRest}
use Rattle.irl_yard.specs.Sending.{HasBegun, IsSentFile}
use Rattle.irl_yard.proofs.Holding.{held_has}
use Rattle.irl_yard.proofs.States.{one_state}
use Rattle.irl_reach.proofs.Growing.{drop_front}
use Rattle.irl_crawl.proofs.Batches.{turns_both}
use Rattle.irl_crawl.specs.Batches.{turns_since}
use Rattle.irl_crawl.specs.Turning.{turns_in}

-- ---- facts of what stops leave
-- one of two such facts together
pub leaves_two : (old new : Told) (P Q R : Files → Type 0) → Leaves old new P → Leaves old new Q → ((image : Files) → P image → Q image → R image) → Leaves old new R
leaves_two old new P Q R one two all = widens old new (λ image. P image × Q image) R (leaves_pair old new P Q one two) (λ image both. all image both.0 both.1)

-- and one of three
pub leaves_three : (old new : Told) (P Q R V : Files → Type 0) → Leaves old new P → Leaves old new Q → Leaves old new R → ((image : Files) → P image → Q image → R image → V image) → Leaves old new V
leaves_three old new P Q R V one two three all =
    leaves_two old new (λ image. R image → V image) R V (leaves_two old new P Q (λ image. R image → V image) one two all) three (λ image gives has. gives has)

-- ---- the records of one bay
-- no file of a bay is among these
abbrev pub AreBeside : (ℕ → Type 0) → Drum → Type 0
AreBeside among drum = (f : ℕ) → among f → IsFileOf drum.base drum.settings.buckets f → ⊥

module _ (among : ℕ → Type 0) (images : Files → Type 0) (drum : Drum) (book : Book) (law : IsDrum drum) (holds : Holds images drum book) (beside : AreBeside among drum) where
  abbrev journal_at : ℕ → ℕ
  journal_at b = file_of drum.base 0 (Journal (live_side drum.last) b)

  no_journal : (b : ℕ) → b < drum.settings.buckets → among (journal_at b) → ⊥
  no_journal b within is = beside (journal_at b) is (Journal (live_side drum.last) b, (live_low drum.last.live law.last.live, within), refl)

  no_manifest : among (file_of drum.base 0 Manifest) → ⊥
  no_manifest is = beside (file_of drum.base 0 Manifest) is (Manifest, tt, refl)

  -- a stop leaves them
  pub live_stay : (records : ℕ → List (List ℕ)) (image : Files) → HaveRecords images drum records → Follows (ChangesOnly among) images image → (b : ℕ) → b < drum.settings.buckets
      → HasLiveRecords drum.base drum.settings.buckets b (records b) image
  live_stay records image have from b within =
      moved_records images drum book law holds among b (records b) image no_manifest from
      (subst (λ (file : List ℕ). HasRecords file (records b)) (sym (from.2 _ (no_journal b within)))
      (subst (λ (f : ℕ). HasRecords (from.0 f) (records b)) (law.buckets b within).journal (have b within from.0 from.1).records))

-- the commits of a bay stay
last_stays : (among : ℕ → Type 0) (old new : Told) (was now : Drum) (book later : Book) (files : Files) → IsDrum was → IsDrum now → IsConsistent new → AreBeside among was
    → LeavesBy (ChangesOnly among) old new → now.base ≡ was.base → now.settings ≡ was.settings → Holds old.images was book → Holds new.images now later → new.files ≡ Some files
    → now.last ≡ was.last
last_stays among old new was now book later files law law_now consistent beside stops base settings holds held told =
    let from = left_now old new _ consistent stops files (consistent.told files told) in
    let place : now.manifest.file ≡ was.manifest.file = law_now.manifest ∙ ap (λ (n : ℕ). file_of n 0 Manifest) base ∙ sym law.manifest in
    let same : files was.manifest.file ≡ from.0 was.manifest.file =
    from.2 was.manifest.file (λ is. beside was.manifest.file is (Manifest, tt, law.manifest)) in
    let first : HasRecords (files was.manifest.file) (map commit_bytes holds.commits) =
    subst (λ (file : List ℕ). HasRecords file (map commit_bytes holds.commits)) (sym same) (holds.manifest from.0 from.1).records in
    let second : HasRecords (files was.manifest.file) (map commit_bytes held.commits) =
    subst (λ (f : ℕ). HasRecords (files f) (map commit_bytes held.commits)) place (held.manifest files (consistent.told files told)).records in
    let buckets : later.buckets ≡ book.buckets = held.book_is.buckets ∙ ap (λ (p : Settings). p.buckets) settings ∙ sym holds.book_is.buckets in
    let commits : held.commits ≡ holds.commits =
    same_commits book.buckets held.commits holds.commits (subst (λ (n : ℕ). AllByRecursion (IsCommit n) held.commits) buckets held.commits_are.form) holds.commits_are.form
    (one_list (files was.manifest.file) (map commit_bytes held.commits) (map commit_bytes holds.commits) (inr second) (inr first)) in
    held.last ∙ ap (λ (l : List Commit). last_commit (first_commit later.buckets) l) commits ∙ ap (λ (n : ℕ). last_commit (first_commit n) holds.commits) buckets ∙ sym holds.last

-- so the journals are open with them at the end
pub open_stay : (among : ℕ → Type 0) (old new : Told) (was now : Drum) (book later : Book) (files : Files) (records : ℕ → List (List ℕ)) → IsDrum was → IsDrum now → IsConsistent new
    → AreBeside among was
    → LeavesBy (ChangesOnly among) old new → now.base ≡ was.base → now.settings ≡ was.settings → Holds old.images was book → Holds new.images now later → new.files ≡ Some files
    → HaveRecords old.images was records → HaveRecords new.images now records
open_stay among old new was now book later files records law law_now consistent beside stops base settings holds held told have = λ b within.
    let inside : b < was.settings.buckets = subst (λ (p : Settings). b < p.buckets) settings within in
    journal_stays among old new was now later b (records b) law law_now consistent inside (no_journal among old.images was book law holds beside b inside)
    stops base settings (last_stays among old new was now book later files law law_now consistent beside stops base settings holds held told) held (have b inside)

-- ---- both bays
pub few_buckets : (buckets : ℕ) → IsBucketCount buckets → buckets ≤ 64
few_buckets buckets valid = grind arith

pub crawl_of : (rest : Rest) → HasBegun rest → HasLedger rest
crawl_of Plain begun = absurd begun
crawl_of (Crawl ledger) begun = (ledger, refl)

pub pairs_of : (images : Files → Type 0) (settings : Settings) (rest : Rest) (urls pairs : Book) (events : List Happened) (ledger : Ledger) → rest ≡ Crawl ledger
    → HoldsOpen images settings rest urls pairs events → Holds images ledger.pairs pairs
pairs_of images settings rest urls pairs events ledger is opened = (subst (λ (r : Rest). HoldsOpen images settings r urls pairs events) is opened).1.pairs_hold

-- a store whose crawl has begun is one of a crawl
pub kind_open : (urls : Drum) (rest : Rest) (told : Option Files) → IsOpenRest urls rest told → HasBegun rest → urls.settings.kind ≡ CrawlKind
kind_open urls Plain told opened begun = absurd begun
kind_open urls (Crawl ledger) told opened begun = (opened.1 ledger refl).0

-- Of an open store of a crawl that holds a state: its two bays hold the state's books.
pub record HasBays (images : Files → Type 0) (parts : Parts) (x : State) : Type 0 where
  pub ledger : Ledger
  pub is : parts.rest ≡ Crawl ledger
  pub law : IsDrum parts.urls
  pub pairs_law : IsDrum ledger.pairs
  pub base : parts.urls.base ≡ urls_base
  pub pairs_base_is : ledger.pairs.base ≡ pairs_base
  pub settings : ledger.pairs.settings ≡ pair_settings parts.urls.settings
  pub held : HoldsUrls images parts.urls x
  pub pairs : Holds images ledger.pairs x.pairs

pub bays_in : (images : Files → Type 0) (parts : Parts) (told : Option Files) (x : State) → IsDrum parts.urls → IsOpenRest parts.urls parts.rest told → HasLedger parts.rest → HoldsState images parts x
    → HasBays images parts x
bays_in images parts told x law opened crawl held =
    let kept = (opened.1 crawl.0 crawl.1).1 in
    record {
      ledger = crawl.0;
      is = crawl.1;
      law = law;
      pairs_law = kept.drum;
      base = kept.urls_at;
      pairs_base_is = kept.base;
      settings = kept.settings;
      held = held.urls;
      pairs = pairs_of images parts.urls.settings parts.rest x.urls x.pairs x.events crawl.0 crawl.1 held.open_rest;
    }

-- where it has begun
pub bays : (images : Files → Type 0) (parts : Parts) (told : Option Files) (x : State) → IsDrum parts.urls → IsOpenRest parts.urls parts.rest told → HasBegun parts.rest → HoldsState images parts x
    → HasBays images parts x
bays images parts told x law opened begun held = bays_in images parts told x law opened (crawl_of parts.rest begun) held

-- a crawl's store has one ledger
pub one_ledger : (rest : Rest) (one other : Ledger) → rest ≡ Crawl one → rest ≡ Crawl other → one ≡ other
one_ledger rest one other is also = let both = sym is ∙ also in cc

module _ (images : Files → Type 0) (parts : Parts) (x : State) (has : HasBays images parts x) where
  few : parts.urls.settings.buckets ≤ 64
  few = few_buckets parts.urls.settings.buckets has.law.settings.buckets

  buckets : has.ledger.pairs.settings.buckets ≡ parts.urls.settings.buckets
  buckets = ap (λ (p : Settings). p.buckets) has.settings

  of_urls : (f : ℕ) → IsFileOf parts.urls.base parts.urls.settings.buckets f → IsFileOf urls_base parts.urls.settings.buckets f
  of_urls f is = subst (λ (n : ℕ). IsFileOf n parts.urls.settings.buckets f) has.base is

  of_pairs : (f : ℕ) → IsFileOf has.ledger.pairs.base has.ledger.pairs.settings.buckets f → IsFileOf pairs_base parts.urls.settings.buckets f
  of_pairs f is = subst (λ (n : ℕ). IsFileOf pairs_base n f) buckets (subst (λ (n : ℕ). IsFileOf n has.ledger.pairs.settings.buckets f) has.pairs_base_is is)

  -- their files are no others', and none is the log
  pub urls_no_pairs : AreBeside (IsFileOf parts.urls.base parts.urls.settings.buckets) has.ledger.pairs
  urls_no_pairs f one two = files_of_both parts.urls.settings.buckets f few (of_urls f one) (of_pairs f two)

  log_no_urls : (f : ℕ) → f ≡ crawl_file → IsFileOf parts.urls.base parts.urls.settings.buckets f → ⊥
  log_no_urls f is of = omega (arith, is, (files_within urls_base parts.urls.settings.buckets f few (of_urls f of)).0)

  pub log_beside : AreBeside (λ f. f ≡ crawl_file) parts.urls
  log_beside f is of = log_no_urls f is of

  pub log_no_pairs : AreBeside (λ f. f ≡ crawl_file) has.ledger.pairs
  log_no_pairs f is of = omega (arith, is, (files_within pairs_base parts.urls.settings.buckets f few (of_pairs f of)).0)

  pub sent_no_urls : AreBeside (IsSentFile parts.urls.settings.buckets) parts.urls
  sent_no_urls f (inl pairs) of = files_of_both parts.urls.settings.buckets f few (of_urls f of) pairs
  sent_no_urls f (inr is) of = log_no_urls f is of

-- records of a bay are those by its place and its settings
pub live_as : (drum : Drum) (base buckets : ℕ) (records : ℕ → List (List ℕ)) (image : Files) → drum.base ≡ base → drum.settings.buckets ≡ buckets
    → ((b : ℕ) → b < drum.settings.buckets → HasLiveRecords drum.base drum.settings.buckets b (records b) image) → (b : ℕ) → b < buckets → HasLiveRecords base buckets b (records b) image
live_as drum base buckets records image place count live b within =
    subst (λ (n : ℕ). HasLiveRecords n buckets b (records b) image) place
    (subst (λ (n : ℕ). HasLiveRecords drum.base n b (records b) image) count (live b (subst (λ (n : ℕ). b < n) (sym count) within)))

-- ---- states
-- a store holds one state
pub held_one : (t : Told) (now : Parts) (x y : State) (files : Files) → IsConsistent t → IsDrum now.urls → t.files ≡ Some files → HoldsUrls t.images now.urls x → HoldsUrls t.images now.urls y → x ≡ y
held_one t now x y files consistent law told one other =
    let left = consistent.told files told in
    one_state x y files (held_has t.images now.urls x files law one left) (held_has t.images now.urls y files law other left)

-- one that was made is a front by its books and its events
pub fronts_made : (settings : Settings) (x y : State) → x.settings ≡ Some settings → IsFrontState x y → AreFronts x y
fronts_made settings x y made (inl none) = let both = sym made ∙ none in absurd (cc)
fronts_made settings x y made (inr fronts) = fronts

pub turns_by : (x y : State) (more : List Happened) → y.events ≡ x.events ++ more → turns_since x y ≡ turns_in more
turns_by x y more is = ap turns_in (ap (drop (length x.events)) is ∙ drop_front x.events more)

pub turns_then : (x y z : State) → AreFronts x y → AreFronts y z → turns_since x z ≡ turns_since x y + turns_since y z
turns_then x y z first second =
    let one = first.events in
    let two = second.events in
    let all = turns_by x z (one.0 ++ two.0) (two.1 ∙ ap (λ (l : List Happened). l ++ two.0) one.1 ∙ append_assoc x.events one.0 two.0) in
    let before = turns_by x y one.0 one.1 in
    let behind = turns_by y z two.0 two.1 in
    omega (arith, all, before, behind, turns_both one.0 two.0)
