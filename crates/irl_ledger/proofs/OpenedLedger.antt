-- A ledger that is opened: the events that were kept of its log have their form, and are done again over the bays.
use Rattle.std.proofs.Common.{◌≡◌, ◌∙◌, ◌⊎◌, inl, inr, ⊎_elim, ℕ, ◌+◌, ◌<◌, List, [], ◌∷◌, ◌++◌, length, map, is_some, Option, None, Some, Result, Ok, Err, IsErrOf, refl, sym, ap, subst}
use Rattle.std.specs.List.{AllByRecursion}
use Rattle.std.specs.Option.{ForSome}
use Rattle.irl_base.specs.declared.fault.Fault.{Fault}
use Rattle.irl_base.specs.declared.fault.Fault.TheVariants.{Damaged, Failed, Full, Memory}
use Rattle.irl_offer.specs.declared.receipt.Judged.{Judged as JudgedOffer}
use Rattle.irl_offer.specs.declared.settings.Settings.{Settings}
use Rattle.irl_model.specs.Book.{Book}
use Rattle.irl_events.specs.Events.{Event, Begin, Pairs, Pass, Robots, Settle, Happened, Progress, before_all}
use Rattle.irl_events.specs.Seen.{seen}
use Rattle.irl_events.specs.declared.event.Event.{Event as LogEvent}
use Rattle.irl_frontier.specs.Frontier.{Frontier, new_frontier}
use Rattle.irl_journal.specs.Format.{records_text}
use Rattle.irl_log.specs.Form.{HasForm}
use Rattle.irl_log.specs.Log.{AreLogged, HoldsLog, OpenLog, placed_events}
use Rattle.irl_log.specs.Spelling.{log_records, records_of}
use Rattle.irl_log.specs.Visiting.{TakesEvents}
use Rattle.irl_disk.specs.Disk.{Files}
use Rattle.irl_disk.specs.Effects.{OnlyReads, ReadsAndChanges}
use Rattle.irl_disk.specs.Images.{IsConsistent, LeavesSame, Told}
use Rattle.irl_disk.proofs.Effects.{cause_for, reads_then}
use Rattle.irl_layout.specs.BayFiles.{file_of}
use Rattle.irl_layout.specs.declared.files.BayFile.TheVariants.{Judged, Manifest, Texts}
use Rattle.irl_bay.specs.Cuts.{IsSpoiltManifest}
use Rattle.irl_bay.specs.Damage.{IsAdopted}
use Rattle.irl_bay.specs.Drum.{Drum, IsDrum}
use Rattle.irl_bay.specs.Holding.{Holds, IsLong}
use Rattle.irl_bay.specs.Standing.{Stands}
use Rattle.irl_bay.specs.JudgedSpoilt.{IsJudgedSpoiltAt}
use Rattle.irl_bay.specs.Opening.{AdoptMayLeave, AdoptRefused, Adopts}
use Rattle.irl_bay.proofs.Staying.{leaves_same, open_stays}
use Rattle.irl_head.specs.StoreFiles.{crawl_file, pairs_base}
use Rattle.irl_ledger.specs.declared.ledger.Ledger.{Ledger}
use Rattle.irl_ledger.specs.declared.open.JudgedCounts.{JudgedCounts}
use Rattle.irl_ledger.specs.Broken.{LogHistory, TakesAlone, blank_history, kept_of, placed_kept}
use Rattle.irl_ledger.specs.Crawling.{events_of, pair_settings}
use Rattle.irl_ledger.specs.Holding.{FitsBays, IsFrontierOf}
use Rattle.irl_ledger.specs.Opening.{HaveHappened, IsBaySpoiltAt, IsFirstRefused, as_pairs, IsCrawlIn, IsReopenedFile, MayOpen, OpensLedger}
use Rattle.irl_ledger.specs.Reading.{IsStrangeTextAt}
use Rattle.irl_ledger.specs.Redoing.{IsCrawlOf, IsKnownBy, IsRedone, IsRedoneFile, MayRedo, ReadsCounts, RedoesAll, kept_events}
use Rattle.irl_ledger.specs.Noting.{AreWithin, no_notes}
use Rattle.irl_ledger.proofs.Damage.{taken_kept, taken_noted}
use Rattle.irl_ledger.proofs.Making.{new_fits, new_tables}
use Rattle.irl_ledger.proofs.Noting.{all_within, none_within}
use Rattle.irl_ledger.proofs.PairsOpened.{OpensBeside, OpensPairs, log_held, log_long, none_opened, pairs_judged, pairs_manifest, reads_also, told_then, urls_held, urls_judged, urls_long, urls_manifest, urls_strange}
use Rattle.irl_ledger.proofs.Reading.{held_later}
use Rattle.irl_ledger.proofs.RedonePass.{reads_wider}

abbrev pub AreFormed : ℕ → List (ℕ × Event) → Type 0
AreFormed buckets events = AllByRecursion (λ (e : ℕ × Event). HasForm buckets e.1) events

formed_more : (buckets at : ℕ) (events : List (ℕ × Event)) (event : Event) → HasForm buckets event → AreFormed buckets events → AreFormed buckets (events ++ kept_of at event)
formed_more buckets at [] (Begin suffixes) form all = (form, tt)
formed_more buckets at [] (Pairs cuts judged pairs) form all = (form, tt)
formed_more buckets at [] (Pass judged) form all = (form, tt)
formed_more buckets at [] (Robots note) form all = tt
formed_more buckets at [] (Settle fronts outcomes) form all = (form, tt)
formed_more buckets at (e ∷ events) event form all = (all.0, formed_more buckets at events event form all.1)

pub taken_formed : (buckets from : ℕ) (events : List Event) (old new : LogHistory) → AreLogged buckets events → TakesEvents TakesAlone old (placed_events from events) new
    → AreFormed buckets old.events → AreFormed buckets new.events
taken_formed buckets from [] old new logged took all = subst (λ (h : LogHistory). AreFormed buckets h.events) (sym took) all
taken_formed buckets from (event ∷ events) old new logged took all =
    taken_formed buckets (from + length (records_text (records_of event))) events took.0 new logged.1 took.2
    (subst (AreFormed buckets) (sym took.1.events) (formed_more buckets from old.events event logged.0.form all))

pub seen_formed : (buckets : ℕ) (events : List (ℕ × LogEvent)) → AreFormed buckets (map (λ (e : ℕ × LogEvent). (e.0, seen e.1)) events)
    → AllByRecursion (λ (e : ℕ × LogEvent). HasForm buckets (seen e.1)) events
seen_formed buckets [] all = tt
seen_formed buckets (e ∷ events) all = (all.0, seen_formed buckets events all.1)

-- they are those of the crawl but for the notes
kept_alike : (at : ℕ) (events : List Happened) → map (λ (e : ℕ × Event). e.1) (placed_kept at events) ≡ kept_events events
kept_alike at [] = refl
kept_alike at ((Begin suffixes, places) ∷ more) = ap (λ (l : List Event). Begin suffixes ∷ l) (kept_alike (at + length (records_text (records_of (Begin suffixes)))) more)
kept_alike at ((Pairs cuts judged pairs, places) ∷ more) = ap (λ (l : List Event). Pairs cuts judged pairs ∷ l) (kept_alike (at + length (records_text (records_of (Pairs cuts judged pairs)))) more)
kept_alike at ((Pass judged, places) ∷ more) = ap (λ (l : List Event). Pass judged ∷ l) (kept_alike (at + length (records_text (records_of (Pass judged)))) more)
kept_alike at ((Robots note, places) ∷ more) = kept_alike (at + length (records_text (records_of (Robots note)))) more
kept_alike at ((Settle fronts outcomes, places) ∷ more) =
    ap (λ (l : List Event). Settle fronts outcomes ∷ l) (kept_alike (at + length (records_text (records_of (Settle fronts outcomes)))) more)

-- a log of a store that was only read
log_later : (old new : Told) (log : OpenLog) (events : List Event) → IsConsistent new → LeavesSame old new → HoldsLog old.images log events → HoldsLog new.images log events
log_later old new log events law stops holds = record {
  each = holds.each;
  records = open_stays (λ f. ⊥) old new log.journal (log_records events) law (leaves_same (λ f. ⊥) old new stops) (λ no. no) holds.records;
}

-- ---- what is refused before events are done again
-- the fault that was answered
other_error : {A B : Type 0} (fault asked : Fault) → IsErrOf {T = A} (Err fault) asked → IsErrOf {T = B} (Err fault) asked
other_error fault asked is = let same : fault ≡ asked = cc in ap (λ (e : Fault). Err e) same

-- want of memory before the first call of the store
pub tables_refused : (settings : Settings) (urls : Drum) (log : OpenLog) (history : LogHistory) (s : Told) → IsConsistent s → OpensLedger (Err Memory) settings urls log history s s
tables_refused settings urls log history s law =
    let answer : Result Ledger Fault = Err Memory in
    let calls = none_opened (IsReopenedFile settings urls) s settings.buckets law in
    record {
      opened = tt;
      sound = tt;
      holds = tt;
      same_log = tt;
      legal = tt;
      notes_are = tt;
      sane = tt;
      spoilt = λ f at named. absurd (cc);
      whole = λ f at named. absurd (cc);
      full = λ n named. cc;
      changes = record { told = calls.told; stops = calls.stops; taken = calls.taken; cause = cause_for ⊥ (IsErrOf answer Failed) s.faults s.faults (λ named. cc) calls.cause };
    }

-- a bay of pairs that isn't opened
pub adopt_refused : (settings : Settings) (urls : Drum) (log : OpenLog) (history : LogHistory) (fault : Fault) (s t : Told) → AdoptRefused (Err fault) pairs_base (pair_settings settings) s.files
    → ReadsAndChanges (IsReopenedFile settings urls) (IsAdopted pairs_base settings.buckets) (IsErrOf {T = Drum} (Err fault) Failed) s t → OpensLedger (Err fault) settings urls log history s t
adopt_refused settings urls log history fault s t refused calls = record {
  opened = tt;
  sound = tt;
  holds = tt;
  same_log = tt;
  legal = tt;
  notes_are = tt;
  sane = tt;
  spoilt = λ f at named files told. inl (refused.damaged f at (other_error fault (Damaged f at) named) files told);
  whole = λ f at named files told u p events crawl. refused.whole f at (other_error fault (Damaged f at) named) files told p crawl.files_are.pairs_stand;
  full = λ n named. refused.full n (other_error fault (Full n) named);
  changes = record {
    told = calls.told;
    stops = calls.stops;
    taken = calls.taken;
    cause = cause_for (IsErrOf {T = Drum} (Err fault) Failed) (IsErrOf {T = Ledger} (Err fault) Failed) s.faults t.faults (λ named. other_error fault Failed named) calls.cause;
  };
}

-- ---- the bay of pairs is open
module _ (settings : Settings) (urls : Drum) (history : LogHistory) (old : Ledger) (failed : Type 0) (s t : Told) (law : IsDrum urls) (consistent : IsConsistent t)
    (may : MayOpen settings urls old.log history s.files) (adopts : Adopts (Ok old.pairs) pairs_base (pair_settings settings) s t)
    (leaves : AdoptMayLeave failed pairs_base (pair_settings settings) s t) where
  beside : OpensBeside settings urls failed s t
  beside = record { valid = may.valid; law = law; base = may.base; same = may.settings_are; consistent = consistent; leaves = leaves }

  -- the files that are read
  abbrev AreManifests : ℕ → Type 0
  AreManifests f = (f ≡ urls.manifest.file) ⊎ (f ≡ old.pairs.manifest.file)

  manifests_within : (f : ℕ) → AreManifests f → IsReopenedFile settings urls f
  manifests_within f (inl is) = inr (inl is)
  manifests_within f (inr is) = inl (inl (is ∙ adopts.drum.manifest ∙ ap (λ (n : ℕ). file_of n 0 Manifest) adopts.base))

  redone_within : (f : ℕ) → IsRedoneFile urls old.pairs f → IsReopenedFile settings urls f
  redone_within f (inl is) = inr (inr (inl is))
  redone_within f (inr (inl is)) = inr (inr (inr (inl (is ∙ ap (λ (n : ℕ). file_of n 0 Judged) adopts.base))))
  redone_within f (inr (inr is)) = inr (inr (inr (inr (is ∙ ap (λ (n : ℕ). file_of n 0 Texts) adopts.base))))

  -- both books are held
  urls_then : (u : Book) → Holds s.images urls u → Holds t.images urls u
  urls_then u holds = urls_held settings urls failed s t beside u holds

  then_told : (files : Files) → s.files ≡ Some files → (now : Files) × (t.files ≡ Some now) × OpensPairs settings files now
  then_told files told = told_then settings urls failed s t beside files told

  -- a bay of pairs has the settings of one
  pairs_settings : old.pairs.settings ≡ pair_settings urls.settings
  pairs_settings = adopts.settings ∙ ap pair_settings (sym may.settings_are)

  as_same : (d : Drum) (files : Files) (f at : ℕ) → IsDrum d → d.base ≡ pairs_base → d.settings ≡ pair_settings urls.settings → IsBaySpoiltAt d files f at
      → (pairs : Drum) × IsDrum (as_pairs urls pairs) × (pairs.base ≡ pairs_base) × IsBaySpoiltAt (as_pairs urls pairs) files f at
  as_same d files f at is base of_pairs spoilt =
      let same : d ≡ as_pairs urls d = ap (λ (x : Settings). let y : Drum = record d { settings = x } in y) of_pairs in
      (d, subst IsDrum same is, base, subst (λ (y : Drum). IsBaySpoiltAt y files f at) same spoilt)

  -- how many offers were judged isn't read
  pub counts_refused : (fault : Fault) (w : Told) → ReadsCounts (Err fault) urls old.pairs t w → OpensLedger (Err fault) settings urls old.log history s w
  counts_refused fault w reads =
      let answer : Result Ledger Fault = Err fault in
      record {
        opened = tt;
        sound = tt;
        holds = tt;
        same_log = tt;
        legal = tt;
        notes_are = tt;
        sane = tt;
        spoilt = λ f at named files told.
            let now = then_told files told in
            inr (⊎_elim
            (λ (of_urls : (f ≡ urls.manifest.file) × IsSpoiltManifest urls now.0 at).
            inr (inl (inl (of_urls.0, urls_manifest settings urls failed s t beside files now.0 at now.2 of_urls.1))))
            (λ (of_pairs : (f ≡ old.pairs.manifest.file) × IsSpoiltManifest old.pairs now.0 at).
            let d = pairs_manifest settings urls failed s t beside old.pairs files now.0 f at adopts.drum adopts.base (adopts.long now.0 now.1) now.2
            of_pairs.0 of_pairs.1 in
            inr (inr (inr (as_same d.0 files f at d.1 d.2 (d.5 ∙ pairs_settings) (inl (d.3, d.4))))))
            (reads.spoilt f at (other_error fault (Damaged f at) named) now.0 now.1));
        whole = λ f at named files told u p events is.
            let now = then_told files told in
            reads.whole f at (other_error fault (Damaged f at) named) now.0 now.1 u p (urls_then u is.urls_hold) (adopts.holds files told p is.files_are.pairs_stand);
        full = λ n named. reads.full n (other_error fault (Full n) named);
        changes = reads_also settings urls failed s t beside (IsReopenedFile settings urls) (IsErrOf answer Failed) w (λ f is. is)
            (reads_wider AreManifests (IsReopenedFile settings urls) (IsErrOf {T = JudgedCounts} (Err fault) Failed) (IsErrOf answer Failed) t w manifests_within
            (λ named. other_error fault Failed named) reads.reads);
      }

  -- ---- and how many is known
  module _ (counts : JudgedCounts) (w : Told) (consistent_then : IsConsistent w) (fresh : old.frontier ≡ new_frontier settings) (none : old.suffixes ≡ None)
      (read : ReadsCounts (Ok counts) urls old.pairs t w) where
    is_redone : IsRedone urls old
    is_redone = record {
      fits = subst (FitsBays urls old.pairs) (sym fresh) (new_fits settings urls old.pairs may.settings_are);
      told = ap (λ (x : Frontier). x.told) fresh ∙ sym (ap (λ (x : Frontier). x.progress.pairs) fresh);
      begun = ap (λ (x : Frontier). x.progress.begun) fresh ∙ sym (ap is_some none);
    }

    pub opened_may : MayRedo urls old w.files
    opened_may = record {
      sound = may.sound;
      base = may.base;
      long = subst (λ (o : Option Files). ForSome o (λ files. IsLong urls files)) (sym read.reads.same)
          (urls_long settings urls failed s t beside may.long);
      pairs_sound = adopts.sound;
      pairs_long = subst (λ (o : Option Files). ForSome o (λ files. IsLong old.pairs files)) (sym read.reads.same) adopts.long;
      redone = is_redone;
    }

    -- a crawl that the files stand for has the events that are left
    record IsToRedo (u p : Book) (events : List Happened) : Type 0 where
      crawl : IsCrawlOf w.images urls old settings u p [] events
      known : IsKnownBy counts u p
      kept : kept_events events ≡ map (λ (e : ℕ × Event). e.1) history.events
      pairs_hold : Holds w.images old.pairs p
      log : HoldsLog w.images old.log (events_of events)

    to_redo : (files : Files) → s.files ≡ Some files → (u p : Book) (events : List Happened) → IsCrawlIn s.images settings urls old.log u p events files → IsToRedo u p events
    to_redo files told u p events is =
        let now = then_told files told in
        let of_urls = urls_then u is.urls_hold in
        let of_pairs = adopts.holds files told p is.files_are.pairs_stand in
        let pairs_hold = held_later t w old.pairs p adopts.drum consistent_then read.reads.stops of_pairs in
        let log = log_held settings urls failed s t beside old.log (events_of events) may.file is.log_holds in
        record {
          crawl = record {
            urls_hold = held_later t w urls u law consistent_then read.reads.stops of_urls;
            pairs_hold = pairs_hold;
            state = is.state;
            tables = subst (IsFrontierOf settings u p []) (sym fresh) (new_tables settings u p);
            suffixes = none;
          };
          known = read.value now.0 now.1 u p of_urls of_pairs;
          kept = sym (kept_alike 0 events)
              ∙ sym (ap (map (λ (e : ℕ × Event). e.1)) (taken_kept 0 events (blank_history settings.buckets) history (may.visited files told (events_of events) is.files_are.log)));
          pairs_hold = pairs_hold;
          log = log_later t w old.log (events_of events) consistent_then read.reads.stops log;
        }

    all_changes : (answered : Type 0) (v : Told) → OnlyReads (IsRedoneFile urls old.pairs) answered w v
        → ReadsAndChanges (IsReopenedFile settings urls) (IsAdopted pairs_base settings.buckets) answered s v
    all_changes answered v reads =
        reads_also settings urls failed s t beside (IsReopenedFile settings urls) answered v (λ f is. is)
        (reads_then (IsReopenedFile settings urls) ⊥ answered t w v consistent_then
        (reads_wider AreManifests (IsReopenedFile settings urls) (IsErrOf {T = JudgedCounts} (Ok counts) Failed) ⊥ t w manifests_within (λ no. absurd no) read.reads)
        (reads_wider (IsRedoneFile urls old.pairs) (IsReopenedFile settings urls) answered answered w v redone_within (λ e. e) reads))

    -- by the settings of the bay of URLs
    stands_for : (p : Book) (files : Files) → Stands pairs_base (pair_settings urls.settings) p files → Stands pairs_base (pair_settings settings) p files
    stands_for p files stands = subst (λ (x : Settings). Stands pairs_base (pair_settings x) p files) may.settings_are stands

    started : old.frontier.progress ≡ before_all urls.settings.queues urls.settings.buckets
    started = ap (λ (x : Frontier). x.progress) fresh ∙ ap (λ (x : Settings). before_all x.queues x.buckets) (sym may.settings_are)

    -- an event isn't done again
    pub redo_refused : (fault : Fault) (new : Ledger) (v : Told) → RedoesAll counts (Err fault) history.events urls old new w v
        → OpensLedger (Err fault) settings urls old.log history s v
    redo_refused fault new v redoes =
        let answer : Result Ledger Fault = Err fault in
        let calls = all_changes (IsErrOf {T = Unit} (Err fault) Failed) v redoes.reads in
        record {
          opened = tt;
          sound = tt;
          holds = tt;
          same_log = tt;
          legal = tt;
          notes_are = tt;
          sane = tt;
          spoilt = λ f at named files told.
              let now = then_told files told in
              inr (⊎_elim
              (λ (why : (f ≡ crawl_file) × IsFirstRefused counts.urls.items counts.pairs.items urls old.pairs history.events old.frontier.progress at).
              inl (
                why.0,
                record {
                  pairs = old.pairs;
                  of_urls = counts.urls.items;
                  of_pairs = counts.pairs.items;
                  judged = λ u p holds stands. read.value now.0 now.1 u p (urls_then u holds) (adopts.holds files told p (stands_for p files stands));
                  numbers = λ p stands. (adopts.holds files told p (stands_for p files stands)).numbers;
                  first = subst (λ (x : Progress). IsFirstRefused counts.urls.items counts.pairs.items urls old.pairs history.events x at) started why.1;
                },
              ))
              (λ why. inr (⊎_elim
              (λ (spoilt : IsJudgedSpoiltAt urls now.0 f at).
              inl (inr (urls_judged settings urls failed s t beside files now.0 f at now.2 spoilt)))
              (λ others. inr (⊎_elim
              (λ (strange : IsStrangeTextAt w.images urls f at).
              inl (urls_strange settings urls failed s t beside f at (record {
                file = strange.file;
                i = strange.i;
                within = strange.within;
                place = strange.place;
                strange = λ (book : Book) (one : JudgedOffer) holds. strange.strange book one (held_later t w urls book law consistent_then read.reads.stops holds);
              })))
              (λ (spoilt : IsJudgedSpoiltAt old.pairs now.0 f at).
              inr (as_same old.pairs files f at adopts.drum adopts.base pairs_settings (inr (pairs_judged settings urls failed s t beside old.pairs files now.0 f at adopts.base now.2 spoilt))))
              others))
              (why now.0 (read.reads.same ∙ now.1))))
              (redoes.spoilt f at (other_error fault (Damaged f at) named)));
          whole = λ f at named files told u p events is.
              let now = then_told files told in
              let one = to_redo files told u p events is in
              redoes.whole f at (other_error fault (Damaged f at) named) now.0 (read.reads.same ∙ now.1) settings u p [] events one.crawl one.known one.kept;
          full = λ n named. redoes.full n (other_error fault (Full n) named);
          changes = record {
            told = calls.told;
            stops = calls.stops;
            taken = calls.taken;
            cause = cause_for (IsErrOf {T = Unit} (Err fault) Failed) (IsErrOf answer Failed) s.faults v.faults (λ named. other_error fault Failed named) calls.cause;
          };
        }

    -- all are
    pub all_redone : (value : Unit) (new : Ledger) (v : Told) → IsConsistent v → RedoesAll counts (Ok value) history.events urls old new w v
        → OpensLedger (Ok (record new { notes = history.notes })) settings urls old.log history s v
    all_redone value new v consistent_last redoes =
        let ledger : Ledger = record new { notes = history.notes } in
        let answer : Result Ledger Fault = Ok ledger in
        let took = may.took in
        let places = taken_noted 0 took.events (blank_history settings.buckets) history took.took in
        let calls = all_changes (IsErrOf {T = Unit} (Ok value) Failed) v redoes.reads in
        let same_files : v.files ≡ t.files = redoes.reads.same ∙ read.reads.same in
        record {
          opened = record {
            urls_at = may.base;
            drum = subst IsDrum (sym redoes.pairs) adopts.drum;
            base = ap (λ (d : Drum). d.base) redoes.pairs ∙ adopts.base;
            settings = ap (λ (d : Drum). d.settings) redoes.pairs ∙ adopts.settings ∙ ap pair_settings (sym may.settings_are);
            file = ap (λ (l : OpenLog). l.journal.file) redoes.log ∙ may.file;
            buckets = ap (λ (l : OpenLog). l.buckets) redoes.log ∙ may.buckets ∙ ap (λ (g : Settings). g.buckets) (sym may.settings_are);
            long = λ sound. subst (λ (d : Drum). ForSome v.files (λ files. IsLong d files)) (sym redoes.pairs)
                (subst (λ (o : Option Files). ForSome o (λ files. IsLong old.pairs files)) (sym same_files) adopts.long);
            log_long = λ sound. subst (λ (l : OpenLog). ForSome v.files (λ files. l.journal.end < length (files crawl_file))) (sym redoes.log)
                (subst (λ (o : Option Files). ForSome o (λ files. old.log.journal.end < length (files crawl_file))) (sym same_files)
                (log_long settings urls failed s t beside old.log.journal.end may.log_long));
            fits = redoes.keeps.fits;
            begun = redoes.keeps.begun;
            noted = subst (λ (l : OpenLog). AreWithin l.journal.end history.notes) (sym redoes.log)
                (subst (λ (n : ℕ). AreWithin n history.notes) (sym took.place)
                (subst (AreWithin (0 + length (records_text (log_records took.events)))) (sym places) (all_within 0 took.events no_notes (none_within 0))));
          };
          sound = (ap (λ (d : Drum). d.is_sound) redoes.pairs ∙ adopts.sound, ap (λ (l : OpenLog). l.journal.is_sound) redoes.log ∙ may.log_sound);
          holds = λ files told u p events is.
              let now = then_told files told in
              let one = to_redo files told u p events is in
              let has = redoes.tables now.0 (read.reads.same ∙ now.1) settings u p [] events one.crawl one.known one.kept in
              record {
                pairs_hold = subst (λ (d : Drum). Holds v.images d p) (sym redoes.pairs) (held_later w v old.pairs p adopts.drum consistent_last redoes.reads.stops one.pairs_hold);
                log = subst (λ (l : OpenLog). HoldsLog v.images l (events_of events)) (sym redoes.log)
                    (log_later w v old.log (events_of events) consistent_last redoes.reads.stops one.log);
                frontier = has.tables;
                suffixes = has.suffixes;
                log_ends = ap (λ (l : OpenLog). l.journal.end) redoes.log ∙ (one.log.records now.0 (consistent_then.told now.0 (read.reads.same ∙ now.1))).place;
                notes = taken_noted 0 (events_of events) (blank_history settings.buckets) history (may.visited files told (events_of events) is.files_are.log);
              };
          same_log = redoes.log;
          legal = record {
            of_urls = counts.urls.items;
            of_pairs = counts.pairs.items;
            judged = λ files told u p holds stands. let now = then_told files told in read.value now.0 now.1 u p (urls_then u holds) (adopts.holds files told p stands);
            happened = subst (λ (x : Frontier). HaveHappened counts.urls.items counts.pairs.items urls new.pairs (map (λ (e : ℕ × Event). e.1) history.events) x.progress new.frontier.progress) fresh
                (subst (λ (d : Drum). HaveHappened counts.urls.items counts.pairs.items urls d (map (λ (e : ℕ × Event). e.1) history.events) old.frontier.progress new.frontier.progress)
                (sym redoes.pairs)
                redoes.legal);
          };
          notes_are = refl;
          sane = adopts.sane;
          spoilt = λ f at named. absurd (cc);
          whole = λ f at named. absurd (cc);
          full = λ n named. cc;
          changes = record {
            told = calls.told;
            stops = calls.stops;
            taken = calls.taken;
            cause = cause_for (IsErrOf {T = Unit} (Ok value) Failed) (IsErrOf answer Failed) s.faults v.faults (λ named. absurd (cc)) calls.cause;
          };
        }
