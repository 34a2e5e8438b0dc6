-- A store of a crawl is entered: its log is read, its URLs are opened, and then what the log tells of these and of its pairs.
use Rattle.std.proofs.Common.{◌≡◌, ◌∙◌, ⊎_elim, inl, inr, ℕ, ◌<◌, ◌≤◌, List, length, false, Option, None, Some, Result, Ok, Err, IsErrOf, refl, sym, ap, subst, arith}
use Rattle.std.specs.Option.{ForSome}
use Rattle.irl_base.specs.declared.fault.Fault.{Fault}
use Rattle.irl_base.specs.declared.fault.Fault.TheVariants.{Damaged as BayDamaged, Failed as BayFailed, Full as BayFull}
use Rattle.irl_offer.specs.Settings.{AreValid}
use Rattle.irl_offer.specs.declared.settings.Asked.{Asked}
use Rattle.irl_offer.specs.declared.settings.Kind.{Kind}
use Rattle.irl_offer.specs.declared.settings.Kind.TheVariants.{Crawl as CrawlKind}
use Rattle.irl_offer.specs.declared.settings.Settings.{Settings}
use Rattle.irl_events.specs.Events.{Event}
use Rattle.irl_events.specs.State.{State}
use Rattle.irl_disk.specs.Disk.{Files, ChangesFile, ChangesOnly, TellsBy, TellsOnly}
use Rattle.irl_disk.specs.Effects.{ReadsAndChanges}
use Rattle.irl_disk.specs.Images.{Told, IsConsistent, LeavesBy}
use Rattle.irl_disk.proofs.Effects.{told_wider}
use Rattle.irl_disk.proofs.Stretches.{widens_by}
use Rattle.irl_journal.specs.Format.{StandsFor}
use Rattle.irl_journal.specs.Visiting.{IsOpened}
use Rattle.irl_journal.proofs.Lists.{few_bytes}
use Rattle.irl_layout.specs.BayFiles.{file_of, IsFileOf}
use Rattle.irl_layout.specs.declared.files.BayFile.TheVariants.{Judged, Manifest, Texts}
use Rattle.irl_bay.specs.Damage.{IsAdopted, IsDamagedAt}
use Rattle.irl_bay.specs.Drum.{Drum, IsDrum}
use Rattle.irl_bay.specs.Making.{IsJournalOf, IsJournalOn}
use Rattle.irl_bay.specs.Opening.{AdoptMayLeave, Adopts}
use Rattle.irl_bay.proofs.Apart.{HasSameFiles, files_within, holds_beside, journal_files, long_beside, stands_apart}
use Rattle.irl_bay.proofs.LiveJournals.{adopted_wider}
use Rattle.irl_bay.proofs.Staying.{open_stays}
use Rattle.irl_head.specs.Asking.{Agrees}
use Rattle.irl_head.specs.Opening.{HasHead, KeepsHead}
use Rattle.irl_head.specs.StoreFiles.{crawl_file, pairs_base, urls_base}
use Rattle.irl_head.specs.declared.open_fault.OpenFault.TheVariants.{Failed}
use Rattle.irl_head.proofs.Grounds.{settings_ours}
use Rattle.irl_log.specs.Log.{OpenLog, HasEvents, HoldsLog}
use Rattle.irl_log.specs.Spelling.{log_records}
use Rattle.irl_ledger.specs.declared.ledger.Ledger.{Ledger}
use Rattle.irl_ledger.specs.Broken.{LogHistory}
use Rattle.irl_ledger.specs.Crawling.{AreCrawlFiles, events_of, pair_settings}
use Rattle.irl_ledger.specs.Damage.{IsLogDamagedAt, ReadsLog}
use Rattle.irl_ledger.specs.Opening.{IsCrawlIn, IsReopenedFile, IsStrangeAt, MayOpen, OpensLedger}
use Rattle.irl_yard.specs.declared.parts.Parts.{Parts}
use Rattle.irl_yard.specs.declared.parts.Rest.TheVariants.{Crawl}
use Rattle.irl_yard.specs.Entering.{EntersStore, IsReadFile, OpeningRefused, OpensStore, OpensYard, fault_of_bay}
use Rattle.irl_yard.specs.Holding.{HoldsOpen, HoldsState}
use Rattle.irl_yard.specs.Opening.{IsComparedFile, IsDamageAt, IsOfItsLog}
use Rattle.irl_yard.proofs.OfItsLog.{opened_log}
use Rattle.irl_yard.specs.Standing.{HasRest, IsMade, IsRest}
use Rattle.irl_yard.proofs.Answered.{enters_for, refused_head}
use Rattle.irl_yard.proofs.Beside.{crawl_open}
use Rattle.irl_yard.proofs.ByKind.{agrees_crawl}
use Rattle.irl_yard.proofs.CrawlOpened.{enters_opened, head_opened, log_opens, of_kind, opens_by, opens_then, pairs_open}
use Rattle.irl_yard.proofs.DamageStays.{damage_stays}
use Rattle.irl_yard.proofs.Entering.{adopted_opens, opens_made}
use Rattle.irl_yard.proofs.Grounds.{bay_failed, bay_wanted, crawl_whole, entered_made, head_undamaged, made_has, part_ground, rest_ground}
use Rattle.irl_yard.proofs.RestFiles.{few, one_side, pairs_rest, rest_no_file, rest_no_journal}
use Rattle.irl_yard.proofs.RestMade.{crawl_files}

-- ---- what is told before and after a step
told_to : (step : Files → Files → Type 0) (old new : Option Files) (files : Files) → TellsBy step old new → old ≡ Some files → (after : Files) × (new ≡ Some after) × step files after
told_to step None new files tells told = cc
told_to step (Some old) new files tells told =
    let same : old ≡ files = cc in
    (tells.0, tells.1, subst (λ (x : Files). step x tells.0) same tells.2)

told_of : (step : Files → Files → Type 0) (old new : Option Files) (files : Files) → TellsBy step old new → new ≡ Some files → (before : Files) × (old ≡ Some before) × step before files
told_of step None new files tells told = cc
told_of step (Some old) new files tells told =
    let same : tells.0 ≡ files = cc in
    (old, refl, subst (step old) same tells.2)

-- what a file stands for after it was opened it stood for before
opened_back : (old new : List ℕ) (payloads : List (List ℕ)) → IsOpened old new → StandsFor new payloads → StandsFor old payloads
opened_back old new payloads (inl same) stands = subst (λ (file : List ℕ). StandsFor file payloads) same stands
opened_back old new payloads (inr short) (inl none) = inl (short.0, none.1)
opened_back old new payloads (inr short) (inr has) = inl (short.0, few_bytes new payloads short.2 has)

-- ---- the calls open the store
module _ (asked : Asked) (told : Option Files) (settings : Settings) (valid : AreValid settings) (agrees : Agrees asked settings) (has : ForSome told (HasHead settings))
    (kind : settings.kind ≡ CrawlKind) where
  -- reading the log,
  pub log_call : (failed : Type 0) (old mid : Told) → ReadsAndChanges (λ f. f ≡ crawl_file) (ChangesFile crawl_file IsOpened) failed old mid
      → ReadsAndChanges (IsReadFile asked told) (OpensStore asked told) failed old mid
  log_call failed old mid call =
      opens_by asked told (λ f. f ≡ crawl_file) (ChangesFile crawl_file IsOpened) failed failed old mid (λ is. is)
      (λ f e. inl (of_kind asked told settings valid agrees has kind f (inl e))) (log_opens asked told settings valid agrees has kind) call

  -- behind it opening the URLs,
  pub urls_call : (read failed : Type 0) (old mid late : Told) → IsConsistent mid → ReadsAndChanges (λ f. f ≡ crawl_file) (ChangesFile crawl_file IsOpened) read old mid
      → AdoptMayLeave failed urls_base settings mid late → ReadsAndChanges (IsReadFile asked told) (OpensStore asked told) failed old late
  urls_call read failed old mid late law log urls =
      opens_then asked told read failed old mid late law (log_call read old mid log)
      (opens_by asked told (IsJournalOn urls_base urls.side settings.buckets) (IsAdopted urls_base settings.buckets) failed failed mid late (λ is. is)
      (λ f on. inl (inr (settings, valid, agrees, has, inr (inl (one_side urls.side settings.buckets f urls.fits on)))))
      (λ x y step. adopted_opens asked told settings x y valid agrees has step) urls.changes)

  -- and then opening the pairs, and reading of both what is judged
  reopened : (urls : Drum) → IsDrum urls → urls.base ≡ urls_base → (f : ℕ) → IsReopenedFile settings urls f → IsReadFile asked told f
  reopened urls drum base f (inl journal) = inl (of_kind asked told settings valid agrees has kind f (inr journal))
  reopened urls drum base f (inr (inl manifest)) =
      inl (inr (settings, valid, agrees, has, inr (inl (inl (manifest ∙ drum.manifest ∙ ap (λ (n : ℕ). file_of n 0 Manifest) base)))))
  reopened urls drum base f (inr (inr (inl (inl judged)))) = inr (agrees_crawl asked settings agrees kind, inl (inl (judged ∙ ap (λ (n : ℕ). file_of n 0 Judged) base)))
  reopened urls drum base f (inr (inr (inl (inr texts)))) = inr (agrees_crawl asked settings agrees kind, inl (inr (texts ∙ ap (λ (n : ℕ). file_of n 0 Texts) base)))
  reopened urls drum base f (inr (inr (inr (inl judged)))) = inr (agrees_crawl asked settings agrees kind, inr (inl judged))
  reopened urls drum base f (inr (inr (inr (inr texts)))) = inr (agrees_crawl asked settings agrees kind, inr (inr texts))

  pub rest_call : (urls : Drum) → IsDrum urls → urls.base ≡ urls_base → (read opened failed : Type 0) (old mid late new : Told) → IsConsistent mid → IsConsistent late
      → ReadsAndChanges (λ f. f ≡ crawl_file) (ChangesFile crawl_file IsOpened) read old mid → AdoptMayLeave opened urls_base settings mid late
      → ReadsAndChanges (IsReopenedFile settings urls) (IsAdopted pairs_base settings.buckets) failed late new → ReadsAndChanges (IsReadFile asked told) (OpensStore asked told) failed old new
  rest_call urls drum base read opened failed old mid late new law law_late log bay rest =
      opens_then asked told opened failed old late new law_late (urls_call read opened old mid late law log bay)
      (opens_by asked told (IsReopenedFile settings urls) (IsAdopted pairs_base settings.buckets) failed failed late new (λ is. is) (reopened urls drum base)
      (pairs_open asked told settings valid agrees has kind) rest)

-- ---- what a call leaves of the other parts
module _ (settings : Settings) (small : settings.buckets ≤ 64) (x y : Files) where
  pub urls_same : ChangesFile crawl_file IsOpened x y → HasSameFiles urls_base settings.buckets x y
  urls_same step = λ f is. step.others f (λ e. omega (arith, e, (files_within urls_base settings.buckets f small is).0))

  pub pairs_same : ChangesFile crawl_file IsOpened x y → HasSameFiles pairs_base settings.buckets x y
  pairs_same step = λ f is. step.others f (λ e. omega (arith, e, (files_within pairs_base settings.buckets f small is).0))

  pub pairs_beside : IsAdopted urls_base settings.buckets x y → HasSameFiles pairs_base settings.buckets x y
  pairs_beside step = λ f is.
      (adopted_wider urls_base settings.buckets x y step).others f (λ journal. rest_no_journal settings.buckets f small (pairs_rest settings.buckets f is) journal)

  pub log_beside : IsAdopted urls_base settings.buckets x y → y crawl_file ≡ x crawl_file
  log_beside step = (adopted_wider urls_base settings.buckets x y step).others crawl_file (λ journal. rest_no_journal settings.buckets crawl_file small (inl refl) journal)

-- a file that shows what the events aren't of
strange_file : (images : Files → Type 0) (urls : Drum) (kept : List (ℕ × Event)) (files : Files) (f at : ℕ) → IsDrum urls → urls.base ≡ urls_base → IsStrangeAt images urls kept files f at
    → IsComparedFile f
strange_file images urls kept files f at drum base (inl (e, place)) = inl e
strange_file images urls kept files f at drum base (inr (inl (inl (manifest, spoilt)))) = inr (inl (inl (manifest ∙ drum.manifest ∙ ap (λ (n : ℕ). file_of n 0 Manifest) base)))
strange_file images urls kept files f at drum base (inr (inl (inr (judged, spoilt)))) = inr (inl (inr (judged ∙ ap (λ (n : ℕ). file_of n 0 Judged) base)))
strange_file images urls kept files f at drum base (inr (inr (inl text))) = inr (inl (inr (text.file ∙ ap (λ (n : ℕ). file_of n 0 Judged) base)))
strange_file images urls kept files f at drum base (inr (inr (inr (pairs, is, first, inl (manifest, spoilt))))) =
    inr (inr (inl (manifest ∙ is.manifest ∙ ap (λ (n : ℕ). file_of n 0 Manifest) first)))
strange_file images urls kept files f at drum base (inr (inr (inr (pairs, is, first, inr (judged, spoilt))))) = inr (inr (inr (judged ∙ ap (λ (n : ℕ). file_of n 0 Judged) first)))

-- ---- the log is read, and the URLs are opened
module _ (settings : Settings) (valid : AreValid settings) (old mid late : Told) (log : OpenLog) (history : LogHistory) (read : ReadsLog (Ok (log, history)) settings old mid) (urls : Drum)
    (adopts : Adopts (Ok urls) urls_base settings mid late) (failed : Type 0) (leaves : AdoptMayLeave failed urls_base settings mid late) where
  -- then the rest may be opened
  pub may_open : MayOpen settings urls log history late.files
  may_open = record {
    valid = valid;
    sound = adopts.sound;
    base = adopts.base;
    settings_are = adopts.settings;
    long = adopts.long;
    file = read.file;
    buckets = read.buckets;
    log_sound = read.sound;
    log_long = λ files told.
        let was = told_of (IsAdopted urls_base settings.buckets) mid.files late.files files leaves.changes.told told in
        subst (λ (file : List ℕ). log.journal.end < length file) (sym (log_beside settings (few settings valid) was.0 files was.2)) (read.long was.0 was.1);
    took = read.took;
    visited = λ files told events has.
        let was = told_of (IsAdopted urls_base settings.buckets) mid.files late.files files leaves.changes.told told in
        let first = told_of (ChangesFile crawl_file IsOpened) old.files mid.files was.0 read.changes.told was.1 in
        let same = log_beside settings (few settings valid) was.0 files was.2 in
        let here : HasEvents settings.buckets (was.0 crawl_file) events = subst (λ (file : List ℕ). HasEvents settings.buckets file events) same has in
        (read.holds first.0 first.1 events (record { each = here.each; records = opened_back (first.0 crawl_file) (was.0 crawl_file) (log_records events) first.2.changed here.records })).1;
  }

-- then the files stand for the crawl that they stood for
module _ (asked : Asked) (settings : Settings) (valid : AreValid settings) (agrees : Agrees asked settings) (kind : settings.kind ≡ CrawlKind) (old mid late : Told) (law_late : IsConsistent late)
    (head : ForSome old.files (HasHead settings)) (log : OpenLog) (history : LogHistory) (read : ReadsLog (Ok (log, history)) settings old mid) (urls : Drum)
    (adopts : Adopts (Ok urls) urls_base settings mid late) (failed : Type 0) (leaves : AdoptMayLeave failed urls_base settings mid late) where
  small : settings.buckets ≤ 64
  small = few settings valid

  to_mid : (files : Files) → old.files ≡ Some files → (after : Files) × (mid.files ≡ Some after) × ChangesFile crawl_file IsOpened files after
  to_mid files told = told_to (ChangesFile crawl_file IsOpened) old.files mid.files files read.changes.told told

  to_late : (files : Files) → mid.files ≡ Some files → (after : Files) × (late.files ≡ Some after) × IsAdopted urls_base settings.buckets files after
  to_late files told = told_to (IsAdopted urls_base settings.buckets) mid.files late.files files leaves.changes.told told

  -- the log stays open
  log_stays : (events : List Event) → HoldsLog mid.images log events → HoldsLog late.images log events
  log_stays events held = record {
    each = held.each;
    records = open_stays (IsJournalOf urls_base settings.buckets) mid late log.journal (log_records events) law_late
        (widens_by mid late (IsAdopted urls_base settings.buckets) (ChangesOnly (IsJournalOf urls_base settings.buckets)) leaves.changes.stops
        (λ x y step. (adopted_wider urls_base settings.buckets x y step).others))
        (λ journal. rest_no_journal settings.buckets crawl_file small (inl refl) (subst (IsJournalOf urls_base settings.buckets) read.file journal)) held.records;
  }

  -- a store that stood for a state stands for its crawl
  crawl_in : (files : Files) (state : State) (told : old.files ≡ Some files) → IsMade settings state files
      → IsCrawlIn late.images settings urls log state.urls state.pairs state.events (to_late (to_mid files told).0 (to_mid files told).1).0
  crawl_in files state told made =
      let first = to_mid files told in
      let then_ = to_late first.0 first.1 in
      let read_as = opens_made asked old.files files settings state files first.0 told (head files told)
      (log_opens asked old.files settings valid agrees head kind files first.0 first.2) made in
      let opened_as = opens_made asked old.files files settings state first.0 then_.0 told (head files told)
      (adopted_opens asked old.files settings first.0 then_.0 valid agrees head then_.2) read_as in
      let was : AreCrawlFiles settings state.pairs state.events files = subst (λ (k : Kind). HasRest k settings state.pairs state.events files) kind made.rest in
      record {
        urls_hold = adopts.holds first.0 first.1 state.urls read_as.urls;
        log_holds = log_stays (events_of state.events) (read.holds files told (events_of state.events) was.log).0;
        state = subst (λ (k : Kind). IsRest k settings state.urls state.pairs state.events) kind made.legal;
        files_are = subst (λ (k : Kind). HasRest k settings state.pairs state.events then_.0) kind opened_as.rest;
      }

  -- the bay of pairs is as it was
  pairs_was : (files : Files) (told : old.files ≡ Some files) → HasSameFiles pairs_base settings.buckets files (to_late (to_mid files told).0 (to_mid files told).1).0
  pairs_was files told =
      let first = to_mid files told in
      let then_ = to_late first.0 first.1 in
      λ f is. pairs_beside settings small first.0 then_.0 then_.2 f is ∙ pairs_same settings small files first.0 first.2 f is

  -- ---- and then the rest is opened
  module _ (result : Result Ledger Fault) (taken : LogHistory) (new : Told) (opens : OpensLedger result settings urls log taken late new) where
    -- it is refused
    pub damage_ground : (f at : ℕ) → IsErrOf result (BayDamaged f at) → ForSome old.files (λ files. IsDamageAt asked files f at)
    damage_ground f at is = λ files told.
        let first = to_mid files told in
        let then_ = to_late first.0 first.1 in
        ⊎_elim
        (λ (damaged : IsDamagedAt pairs_base (pair_settings settings) then_.0 f at).
        rest_ground asked settings files f at (head files told) agrees kind
        (inr (damage_stays pairs_base (pair_settings settings) then_.0 files (λ g of. sym (pairs_was files told g of)) f at damaged)))
        (λ (strange : IsStrangeAt late.images urls taken.events then_.0 f at). inr (record {
          settings = settings;
          head = head files told;
          agrees = agrees;
          kind = kind;
          file = strange_file late.images urls taken.events then_.0 f at adopts.drum adopts.base strange;
          none = λ state has. opens.whole f at is then_.0 then_.1 state.urls state.pairs state.events (crawl_in files state told (made_has settings state files (head files told) has));
        }))
        (opens.spoilt f at is then_.0 then_.1)

  module _ (ledger : Ledger) (new : Told) (opens : OpensLedger (Ok ledger) settings urls log history late new) (law_new : IsConsistent new)
      (stops : LeavesBy (OpensStore asked old.files) old new) (head_kept : KeepsHead old.images settings) where
    abbrev parts : Parts
    parts = record { urls = urls; rest = Crawl ledger; has_failed = false }

    pairs_stops : LeavesBy (ChangesOnly (IsJournalOf pairs_base settings.buckets)) late new
    pairs_stops = widens_by late new (IsAdopted pairs_base settings.buckets) (ChangesOnly (IsJournalOf pairs_base settings.buckets)) opens.changes.stops
        (λ x y step. (adopted_wider pairs_base settings.buckets x y step).others)

    pairs_tell : TellsOnly (IsJournalOf pairs_base settings.buckets) late.files new.files
    pairs_tell = told_wider (IsAdopted pairs_base settings.buckets) (ChangesOnly (IsJournalOf pairs_base settings.buckets)) late.files new.files
        (λ x y step. (adopted_wider pairs_base settings.buckets x y step).others) opens.changes.told

    urls_apart : (f : ℕ) → IsFileOf urls.base urls.settings.buckets f → IsJournalOf pairs_base settings.buckets f → ⊥
    urls_apart f is journal =
        rest_no_file settings.buckets f small (pairs_rest settings.buckets f (journal_files pairs_base settings.buckets f journal))
        (subst (λ (n : ℕ). IsFileOf n settings.buckets f) adopts.base (subst (λ (s : Settings). IsFileOf urls.base s.buckets f) adopts.settings is))

    -- the state is held
    holds_made : (files : Files) (state : State) (told : old.files ≡ Some files) → IsMade settings state files → HoldsState new.images parts state
    holds_made files state told made =
        let then_ = to_late (to_mid files told).0 (to_mid files told).1 in
        let crawl = crawl_in files state told made in
        let held = opens.holds then_.0 then_.1 state.urls state.pairs state.events crawl in
        let same = adopts.settings in
        record {
          urls = record {
            settings = made.settings_are ∙ ap (λ (s : Settings). Some s) (sym same);
            base = adopts.base;
            head = subst (KeepsHead new.images) (sym same) (head_opened asked old.files settings old new law_new stops head_kept);
            urls_hold = holds_beside (IsJournalOf pairs_base settings.buckets) late new urls state.urls adopts.drum law_new pairs_stops urls_apart crawl.urls_hold;
            legal = subst (λ (s : Settings). IsRest s.kind s state.urls state.pairs state.events) (sym same) made.legal;
            rest = λ image left.
                let are = crawl_files settings new.images ledger urls new.files state.urls state.pairs state.events image left same opens.opened held in
                subst (λ (s : Settings). HasRest s.kind s state.pairs state.events image) (sym same)
                (subst (λ (k : Kind). HasRest k settings state.pairs state.events image) (sym kind) are);
          };
          open_rest = subst (λ (s : Settings). HoldsOpen new.images s (Crawl ledger) state.urls state.pairs state.events) (sym same) (kind, held);
        }

    -- no damage is passed over
    none_damaged : (files : Files) (told : old.files ≡ Some files) (f at : ℕ) → IsDamagedAt urls_base settings files f at → ⊥
    none_damaged files told f at damaged =
        let first = to_mid files told in
        adopts.sane first.0 first.1 f at (damage_stays urls_base settings files first.0 (urls_same settings small files first.0 first.2) f at damaged)

    no_pairs_damaged : (files : Files) (told : old.files ≡ Some files) (f at : ℕ) → IsDamagedAt pairs_base (pair_settings settings) files f at → ⊥
    no_pairs_damaged files told f at damaged =
        let then_ = to_late (to_mid files told).0 (to_mid files told).1 in
        opens.sane then_.0 then_.1 f at (damage_stays pairs_base (pair_settings settings) files then_.0 (pairs_was files told) f at damaged)

    pub crawl_opened : OpensYard asked parts old.files new
    crawl_opened = record {
      holds = λ files told state has.
          let made = made_has settings state files (head files told) has in
          subst (HoldsState new.images parts) (sym (entered_made asked settings state made.settings_are)) (holds_made files state told made);
      sound = (adopts.sound, refl, opens.sound);
      drum = adopts.drum;
      base = adopts.base;
      long = long_beside (IsJournalOf pairs_base settings.buckets) late.files new.files urls adopts.drum pairs_tell urls_apart adopts.long;
      rest = crawl_open urls ledger new.files (ap (λ (s : Settings). s.kind) adopts.settings ∙ kind) opens.opened;
      settings = λ files told. inl (subst (λ (s : Settings). HasHead s files) (sym adopts.settings) (head files told));
      agrees = subst (Agrees asked) (sym adopts.settings) agrees;
      legal = λ other is.
          let same : ledger ≡ other = cc in
          subst (IsOfItsLog old.files urls) same (opened_log old.files settings urls log history ledger late adopts.settings opens.same_log opens.notes_are read.took opens.legal
          (λ files told events has_events. (read.holds files told events has_events).1)
          (λ files told has_head u p of_urls of_pairs.
          let first = to_mid files told in
          let then_ = to_late first.0 first.1 in
          let holds_u = adopts.holds first.0 first.1 u (stands_apart urls_base settings u files first.0 (urls_same settings small files first.0 first.2) of_urls) in
          opens.legal.judged then_.0 then_.1 u p holds_u (stands_apart pairs_base (pair_settings settings) p files then_.0 (pairs_was files told) of_pairs)));
      ours = λ files told at. settings_ours asked files settings at (inl (head files told));
      undamaged = λ files told f at. head_undamaged asked settings files f at (head files told) (none_damaged files told f at)
          (crawl_whole settings.kind settings files f at kind (read.sane files told f at) (no_pairs_damaged files told f at));
    }

-- ---- it is refused
module _ (asked : Asked) (settings : Settings) (valid : AreValid settings) (agrees : Agrees asked settings) (kind : settings.kind ≡ CrawlKind) (old : Told) (law : IsConsistent old)
    (head : ForSome old.files (HasHead settings)) where
  -- by a call behind which nothing but the store's journals has changed
  pub part_entered : {T : Type 0} (result : Result T Fault) (fault : Fault) (new : Told) → result ≡ Err fault → ((n : ℕ) → IsErrOf result (BayFull n) → ⊥)
      → ReadsAndChanges (IsReadFile asked old.files) (OpensStore asked old.files) (IsErrOf result BayFailed) old new → (answered : Type 0) → (answered → fault_of_bay fault ≡ Failed)
      → EntersStore asked answered old new
  part_entered result fault new was full call answered is =
      enters_for asked (IsErrOf result BayFailed) answered old new (λ failed. bay_failed result fault was full (is failed)) (enters_opened asked (IsErrOf result BayFailed) old new law call)

  pub part_refused : {T : Type 0} (result : Result T Fault) (fault : Fault) (new : Told) → result ≡ Err fault
      → ((f at : ℕ) → IsErrOf result (BayDamaged f at) → ForSome old.files (λ files. IsDamageAt asked files f at))
      → ReadsAndChanges (IsReadFile asked old.files) (OpensStore asked old.files) (IsErrOf result BayFailed) old new → OpeningRefused asked (fault_of_bay fault) old new
  part_refused result fault new was damaged call =
      refused_head asked settings (fault_of_bay fault) (IsErrOf result BayFailed) old new law head (bay_wanted fault)
      (part_ground asked old.files fault (λ f at is. damaged f at (was ∙ ap (λ (e : Fault). Err e) is))) (enters_opened asked (IsErrOf result BayFailed) old new law call)

  -- what is damaged of the URLs is so of the store
  pub urls_damaged : (looked : Type 0) (mid : Told) → ReadsAndChanges (λ f. f ≡ crawl_file) (ChangesFile crawl_file IsOpened) looked old mid → (f at : ℕ)
      → ForSome mid.files (λ files. IsDamagedAt urls_base settings files f at) → ForSome old.files (λ files. IsDamageAt asked files f at)
  urls_damaged looked mid call f at damaged = λ files told.
      let after = told_to (ChangesFile crawl_file IsOpened) old.files mid.files files call.told told in
      inl (inr (
        settings,
        head files told,
        agrees,
        inl (damage_stays urls_base settings after.0 files (λ g of. sym (urls_same settings (few settings valid) files after.0 after.2 g of)) f at (damaged after.0 after.1)),
      ))

  -- and so is the log
  pub log_damaged : (f at : ℕ) → ForSome old.files (λ files. IsLogDamagedAt settings files f at) → ForSome old.files (λ files. IsDamageAt asked files f at)
  log_damaged f at damaged = λ files told. rest_ground asked settings files f at (head files told) agrees kind (inl (damaged files told))
