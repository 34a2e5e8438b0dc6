-- Cuts and records that come in batches, in a run of a command that crawls: from the files of a store on.
use Rattle.std.proofs.Common.{◌≡◌, ◌∙◌, inl, inr, ℕ, ◌+◌, ◌<◌, ◌≤◌, List, Option, Some, refl, sym, ap, subst, arith}
use Rattle.std.specs.Prelude.{unwrap_or}
use Rattle.std.specs.Option.{ForSome}
use Rattle.irl_crawl.specs.Batches.{Batches, HasBatched, HasBoth, HaveBoth, Records, besides, turns_since}
use Rattle.irl_crawl.specs.Leading.{GrowsInBatches}
use Rattle.irl_crawl.proofs.Batches.{grown_more, grown_same}
use Rattle.irl_crawl.proofs.Records.{HasBays, bays_in, live_as}
use Rattle.irl_disk.specs.Disk.{Files}
use Rattle.irl_disk.specs.Images.{IsConsistent, Leaves, LeavesBy, Told}
use Rattle.irl_disk.proofs.Stretches.{joins, left_now, widens}
use Rattle.irl_events.specs.State.{State}
use Rattle.irl_head.specs.StoreFiles.{pairs_base, urls_base}
use Rattle.irl_ledger.specs.Crawling.{pair_settings}
use Rattle.irl_ledger.specs.declared.ledger.Ledger.{Ledger}
use Rattle.irl_bay.specs.Drum.{IsDrum}
use Rattle.irl_offer.specs.Settings.{settings_of}
use Rattle.irl_offer.specs.declared.settings.Asked.{Asked}
use Rattle.irl_offer.specs.declared.settings.Kind.TheVariants.{Crawl as CrawlKind}
use Rattle.irl_offer.specs.declared.settings.Settings.{Settings}
use Rattle.irl_schedule.proofs.Chains.{grows_more}
use Rattle.irl_schedule.proofs.Journals.{left_records}
use Rattle.irl_schedule.specs.Schedule.{HaveRecords}
use Rattle.irl_yard.specs.declared.parts.Parts.{Parts}
use Rattle.irl_yard.specs.Entering.{Enters, EntersStore, OpensYard}
use Rattle.irl_yard.specs.Holding.{HasOneOf, HoldsState}
use Rattle.irl_yard.specs.Opening.{entered_state}
use Rattle.irl_yard.specs.Standing.{HasState}
use Rattle.irl_yard.proofs.Begun.{ledger_in}
use Rattle.irl_yard.proofs.Entering.{enters_keeps}
use Rattle.irl_yard.proofs.Grounds.{entered_made}
use Rattle.irl_top.specs.Crawled.{IsBatched, settings_for}
use Rattle.irl_top.specs.Records.{AddsUnevenInBoth}
use Rattle.irl_top.proofs.Closed.{told_after}
use Rattle.irl_top.proofs.Entered.{enters_records_at}
use Rattle.irl_top.proofs.Opened.{some_records, uneven_at}

-- ---- entering
-- that it keeps the records of both bays
keeps_both : (asked : Asked) (told : Option Files) (files : Files) (x : State) (old new : Files) (n buckets array : ℕ) → told ≡ Some files → HasState x files → HasState x old
    → Enters asked told old new
    → AddsUnevenInBoth n buckets array old new
keeps_both asked told files x old new n buckets array is_told has_told has enters = record {
  urls = λ b within small records journal.
      (records, enters_records_at urls_base (omega arith) (omega arith) asked told files x old new buckets b records is_told has_told has enters small journal, omega arith);
  pairs = λ b within small records journal.
      (records, enters_records_at pairs_base (omega arith) (omega arith) asked told files x old new buckets b records is_told has_told has enters small journal, omega arith);
}

-- so it leaves what was, or what a store that is entered stands for
pub entered_batched : (asked : Asked) (told : Option Files) (files : Files) (x : State) (old new : Files) → told ≡ Some files → HasState x files → HasState x old → Enters asked told old new
    → IsBatched asked x old new
entered_batched asked told files x old new is_told has_told has enters = by_one (enters_keeps asked told files x old new is_told has_told has enters)
  where
    settings : Settings
    settings = settings_for asked (entered_state asked x)

    by_one : HasOneOf x (entered_state asked x) new → IsBatched asked x old new
    by_one (inl same) = record {
      state = x;
      has = same;
      cuts = inl refl;
      records = keeps_both asked told files x old new (2 + turns_since x x) settings.buckets settings.array is_told has_told has enters;
    }
    by_one (inr made) = record {
      state = entered_state asked x;
      has = made;
      cuts = inr (grown_more settings 0 (2 + turns_since x (entered_state asked x)) (entered_state asked x) (entered_state asked x) (omega arith) (grown_same settings (entered_state asked x)));
      records = keeps_both asked told files x old new (2 + turns_since x (entered_state asked x)) settings.buckets settings.array is_told has_told has enters;
    }

-- at the end, and at each stop
pub told_batched : (asked : Asked) (before after : Told) (files : Files) (x : State) (failed : Type 0) → EntersStore asked failed before after → before.files ≡ Some files → HasState x files
    → ForSome before.files (λ old. ForSome after.files (IsBatched asked x old))
told_batched asked before after files x failed entered told has = λ old is_old new is_new.
    let later = told_after asked before.files after.files files entered.files told in
    let same_old : files ≡ old = cc in
    let same_new : later.0 ≡ new = (let e = sym later.1 ∙ is_new in cc) in
    subst (λ (f : Files). IsBatched asked x f new) same_old
    (subst (IsBatched asked x files) same_new (entered_batched asked before.files files x files later.0 told has has later.2))

pub stops_batched : (asked : Asked) (before after : Told) (files : Files) (x : State) (failed : Type 0) → EntersStore asked failed before after → before.files ≡ Some files → HasState x files
    → ((image : Files) → before.images image → HasState x image) → LeavesBy (IsBatched asked x) before after
stops_batched asked before after files x failed entered told has each = widens before after _ _ entered.steps (λ image from.
    (from.0, from.1, entered_batched asked before.files files x from.0 image told has (each from.0 from.1) from.2))

-- entering settles no turn
turns_entered : (asked : Asked) (x y : State) (files : Files) → HasState x files → turns_since (entered_state asked x) y ≡ turns_since x y
turns_entered asked x y files (inl blank) = subst (λ (s : State). turns_since (entered_state asked s) y ≡ turns_since s y) (sym blank.1) refl
turns_entered asked x y files (inr (settings, made)) = ap (λ (s : State). turns_since s y) (entered_made asked settings x made.settings_are)

-- ---- the records of an open store
module _ (images : Files → Type 0) (parts : Parts) (x : State) (has : HasBays images parts x) where
  some_both : (records : Records) × HaveBoth images parts records
  some_both =
      let urls = some_records images parts.urls x.urls has.held.urls_hold in
      let pairs = some_records images has.ledger.pairs x.pairs has.pairs in (
        record { urls = urls.0; pairs = pairs.0 },
        record {
          urls = urls.1;
          pairs = λ ledger is.
              let both = sym has.is ∙ is in
              let same : has.ledger ≡ ledger = cc in
              subst (λ (l : Ledger). HaveRecords images l.pairs pairs.0) same pairs.1;
        },
      )

  -- a stop now leaves them
  left_both : (records : Records) (image : Files) → HaveBoth images parts records → images image → HasBoth parts.urls.settings records image
  left_both records image have left = record {
    urls = live_as parts.urls urls_base parts.urls.settings.buckets records.urls image has.base refl
        (λ b within. left_records images parts.urls x.urls has.law has.held.urls_hold b (records.urls b) image within (have.urls b within) left);
    pairs = live_as has.ledger.pairs pairs_base parts.urls.settings.buckets records.pairs image has.pairs_base_is (ap (λ (p : Settings). p.buckets) has.settings)
        (λ b within. left_records images has.ledger.pairs x.pairs has.pairs_law has.pairs b (records.pairs b) image within (have.pairs has.ledger has.is b within) left);
  }

-- ---- a store that was opened
module _ (asked : Asked) (before mid : Told) (was : Parts) (files : Files) (x : State) (law : IsConsistent mid) (drum : IsDrum was.urls) (opened : OpensYard asked was before.files mid)
    (entered : EntersStore asked ⊥ before mid) (kind : was.urls.settings.kind ≡ CrawlKind) (told : before.files ≡ Some files) (has : HasState x files) where
  abbrev settings : Settings
  settings = was.urls.settings

  abbrev y : State
  y = entered_state asked x

  held : HoldsState mid.images was y
  held = opened.holds files told x has

  has_bays : HasBays mid.images was y
  has_bays = bays_in mid.images was mid.files y drum opened.rest (ledger_in was.urls was.rest mid.files opened.rest kind) held

  settings_are : settings ≡ settings_for asked y
  settings_are = sym (ap (λ (o : Option Settings). unwrap_or o (settings_of asked)) held.urls.settings)

  batched_image : (records : Records) (image : Files) → HaveBoth mid.images was records → HasBatched settings (besides 2 1) y records image → IsBatched asked x files image
  batched_image records image have batched =
      let later = told_after asked before.files mid.files files entered.files told in
      let both = left_both mid.images was y has_bays records later.0 have (law.told later.0 later.1) in
      let come = batched.come in
      let turns = turns_entered asked x batched.state files has in
      record {
        state = batched.state;
        has = batched.has;
        cuts = inr (subst (λ (s : Settings). GrowsInBatches s (2 + turns_since x batched.state) y batched.state) settings_are (record {
          urls = grows_more settings _ (2 + turns_since x batched.state) y.urls batched.state.urls (omega (arith, turns)) come.urls;
          pairs = grows_more (pair_settings settings) _ (2 + turns_since x batched.state) y.pairs batched.state.pairs (omega (arith, turns)) come.pairs;
        }));
        records = subst (λ (s : Settings). AddsUnevenInBoth (2 + turns_since x batched.state) s.buckets s.array files image) settings_are (record {
          urls = uneven_at urls_base (2 + turns_since x batched.state) settings.buckets settings.array files later.0 image records.urls batched.records.urls
              (λ b small payloads journal.
              enters_records_at urls_base (omega arith) (omega arith) asked before.files files x files later.0 settings.buckets b payloads told has has later.2 small journal)
              both.urls batched.live.urls (λ b within. let adds = come.records.urls b within in omega (arith, adds, turns));
          pairs = uneven_at pairs_base (2 + turns_since x batched.state) settings.buckets settings.array files later.0 image records.pairs batched.records.pairs
              (λ b small payloads journal.
              enters_records_at pairs_base (omega arith) (omega arith) asked before.files files x files later.0 settings.buckets b payloads told has has later.2 small journal)
              both.pairs batched.live.pairs (λ b within. let adds = come.records.pairs b within in omega (arith, adds, turns));
        });
      }

  module _ (failed : Type 0) (now : Parts) (after : Told) (batches : Batches failed (besides 2 1) (besides 2 1) was now mid after) where
    some : (records : Records) × HaveBoth mid.images was records
    some = some_both mid.images was y has_bays

    left : Leaves mid after (IsBatched asked x files)
    left =
        let later = told_after asked before.files mid.files files entered.files told in
        widens mid after _ _ (batches.stops later.0 later.1 y some.0 held some.1) (λ image batched. batched_image some.0 image some.1 batched)

    -- at the end, and at each stop
    pub run_batched : IsConsistent after → ForSome before.files (λ old. ForSome after.files (IsBatched asked x old))
    run_batched law_after = λ old is_old new is_new.
        let same : files ≡ old = cc in
        subst (λ (f : Files). IsBatched asked x f new) same (left_now mid after (IsBatched asked x files) law_after left new (law_after.told new is_new))

    pub run_stops : IsConsistent before → ((image : Files) → before.images image → HasState x image) → LeavesBy (IsBatched asked x) before after
    run_stops law_before each = joins before mid after _ (stops_batched asked before mid files x ⊥ entered told has each)
        (widens mid after _ _ left (λ image batched. (files, law_before.told files told, batched)))
