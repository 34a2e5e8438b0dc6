-- The bay of pairs is opened beside the bay of URLs and the log: these stay open with what they hold, and damage that is
-- seen afterwards was there before.
use Rattle.std.proofs.Common.{◌≡◌, ◌≢◌, ◌∙◌, ◌⊎◌, inl, inr, ⊎_elim, ℕ, ◌<◌, ◌≤◌, List, [], ◌∷◌, ◌++◌, length, length-append, map, Option, Some, refl, sym, ap, subst, arith}
use Rattle.std.specs.Option.{ForSome}
use Rattle.irl_offer.specs.Settings.{AreValid}
use Rattle.irl_offer.specs.declared.receipt.Judged.{Judged}
use Rattle.irl_offer.specs.declared.settings.Settings.{Settings}
use Rattle.irl_model.specs.Book.{Book}
use Rattle.irl_events.specs.Events.{Event}
use Rattle.irl_disk.specs.Disk.{ChangesAmong, ChangesOnly, Files, TellsBy, TellsOnly}
use Rattle.irl_disk.specs.Effects.{OnlyReads, ReadsAndChanges}
use Rattle.irl_disk.specs.Images.{IsConsistent, LeavesBy, Told}
use Rattle.irl_disk.proofs.Effects.{cause_then, told_none, told_wider}
use Rattle.irl_disk.proofs.Frames.{takes_none}
use Rattle.irl_disk.proofs.Stretches.{same_by, stays, widens_by}
use Rattle.irl_journal.specs.Format.{body_text, open_gate, records_text}
use Rattle.irl_journal.specs.Visiting.{IsOpened}
use Rattle.irl_journal.proofs.Lists.{length-body, records-cons}
use Rattle.irl_layout.specs.BayFiles.{IsFileOf, file_of}
use Rattle.irl_layout.specs.Commits.{commit_bytes}
use Rattle.irl_layout.specs.declared.files.BayFile.TheVariants.{Judged as JudgedFile, Manifest}
use Rattle.irl_bay.specs.Cuts.{IsSpoiltManifest}
use Rattle.irl_bay.specs.Damage.{IsAdopted}
use Rattle.irl_bay.specs.Drum.{Drum, IsDrum}
use Rattle.irl_bay.specs.Holding.{Holds, IsLong}
use Rattle.irl_bay.specs.JudgedSpoilt.{IsJudgedSpoiltAt, IsSpoiltEntry}
use Rattle.irl_bay.specs.Making.{IsJournalOf, IsJournalOn}
use Rattle.irl_bay.specs.Opening.{AdoptMayLeave}
use Rattle.irl_bay.specs.Pending.{IsClosed, IsCutShort}
use Rattle.irl_bay.proofs.Adopted.{changes_reads, takes_wider}
use Rattle.irl_bay.proofs.Apart.{files_of_both, holds_beside, journal_files, long_beside}
use Rattle.irl_bay.proofs.Flushing.{same_or_other}
use Rattle.irl_bay.proofs.LiveJournals.{adopted_wider}
use Rattle.irl_bay.proofs.Staying.{open_stays, told_before}
use Rattle.irl_head.specs.StoreFiles.{crawl_file, pairs_base, urls_base}
use Rattle.irl_log.specs.Log.{HoldsLog, OpenLog}
use Rattle.irl_log.specs.Spelling.{log_records}
use Rattle.irl_ledger.specs.Crawling.{pair_settings}
use Rattle.irl_ledger.specs.Opening.{IsReopenedFile}
use Rattle.irl_ledger.specs.Reading.{IsStrangeTextAt}
use Rattle.irl_ledger.proofs.Making.{log_apart, small}

-- ---- a manifest of at most one byte
-- it has no record,
few_records : (xs : List (List ℕ)) (behind file : List ℕ) → length file < 2 → file ≡ records_text xs ++ behind → length (records_text xs) ≡ 0
few_records [] behind file few is = refl
few_records (x ∷ xs) behind file few is =
    let first : file ≡ open_gate ∷ body_text x ++ (records_text xs ++ behind) = is ∙ records-cons x xs behind in
    absurd (omega (arith, few, ap length first, length-append (body_text x) (records_text xs ++ behind), length-body x))

-- and its gate is cut short, or stands before a place behind it
short_bytes : (bytes : List ℕ) → length bytes < 2 → IsCutShort bytes ⊎ IsClosed bytes
short_bytes [] few = inl (λ payload rest gate fits is. cc, inl refl)
short_bytes (g ∷ []) few = ⊎_elim
    (λ (opened : g ≡ open_gate). inl (
      λ payload rest gate fits is. omega (arith, ap length is, length-append (body_text payload) (gate ∷ rest), length-body payload),
      inr ([], ap (λ (n : ℕ). n ∷ []) opened),
    ))
    (λ (closed : g ≢ open_gate). inr (g, [], refl, closed))
    (same_or_other g open_gate)
short_bytes (g ∷ h ∷ bytes) few = absurd (omega (arith, few))

abbrev ends_at_one : Drum → Drum
ends_at_one drum = record drum { manifest = record drum.manifest { end = 1 } }

short_spoilt : (drum : Drum) (files : Files) (at : ℕ) → length (files drum.manifest.file) < 2 → at ≡ 0 → IsSpoiltManifest (ends_at_one drum) files at
short_spoilt drum files at few first = record {
  commits = [];
  behind = files drum.manifest.file;
  form = tt;
  bytes = refl;
  place = first;
  why = ⊎_elim (λ (short : IsCutShort (files drum.manifest.file)). inl short)
      (λ (closed : IsClosed (files drum.manifest.file)). inr (inr (closed, λ (is : at ≡ 1). omega (arith, first, is)))) (short_bytes (files drum.manifest.file) few);
}

one_drum : (drum : Drum) → drum.cuts ≤ 1 → IsDrum drum → IsDrum (ends_at_one drum)
one_drum drum few law = record {
  base = law.base;
  settings = law.settings;
  last = law.last;
  judged = law.judged;
  entries = law.entries;
  manifest = law.manifest;
  sound = law.sound;
  cuts = few;
  count = law.count;
  buckets = law.buckets;
}

-- ---- nothing was opened yet
pub none_opened : (among : ℕ → Type 0) (now : Told) (buckets : ℕ) → IsConsistent now → ReadsAndChanges among (IsAdopted pairs_base buckets) ⊥ now now
none_opened among now buckets law = record {
  told = told_none (IsAdopted pairs_base buckets) now.files now.files none refl;
  stops = same_by now now (IsAdopted pairs_base buckets) none (stays now now.images law (λ image left. left));
  taken = takes_none among now.taken now.taken refl;
  cause = record { later = omega arith; rose = λ no. absurd no };
}
  where
    none : (x : Files) → IsAdopted pairs_base buckets x x
    none x = record { changed = λ f is. inl refl; others = λ f out. refl }

-- ---- the bay of pairs was opened
abbrev pub IsPairsJournal : Settings → ℕ → Type 0
IsPairsJournal settings f = IsJournalOf pairs_base settings.buckets f

-- its journals were
abbrev pub OpensPairs : Settings → Files → Files → Type 0
OpensPairs settings old new = ChangesAmong (IsPairsJournal settings) (λ f. IsOpened) old new

on_side : (buckets side f : ℕ) → side ≤ 1 → IsJournalOn pairs_base side buckets f → IsJournalOf pairs_base buckets f
on_side buckets side f low (inl manifest) = inl manifest
on_side buckets side f low (inr (b, within, is)) = inr (side, b, low, within, is)

-- they were opened beside an open bay of URLs
pub record OpensBeside (settings : Settings) (urls : Drum) (failed : Type 0) (s t : Told) : Type 0 where
  pub valid : AreValid settings
  pub law : IsDrum urls
  pub base : urls.base ≡ urls_base
  pub same : urls.settings ≡ settings
  pub consistent : IsConsistent t
  pub leaves : AdoptMayLeave failed pairs_base (pair_settings settings) s t

module _ (settings : Settings) (urls : Drum) (failed : Type 0) (s t : Told) (beside : OpensBeside settings urls failed s t) where
  only_pairs : (x y : Files) → IsAdopted pairs_base settings.buckets x y → ChangesOnly (IsPairsJournal settings) x y
  only_pairs x y step = (adopted_wider pairs_base settings.buckets x y step).others

  pairs_stops : LeavesBy (ChangesOnly (IsPairsJournal settings)) s t
  pairs_stops = widens_by s t (IsAdopted pairs_base settings.buckets) (ChangesOnly (IsPairsJournal settings)) beside.leaves.changes.stops only_pairs

  pairs_tells : TellsOnly (IsPairsJournal settings) s.files t.files
  pairs_tells = told_wider (IsAdopted pairs_base settings.buckets) (ChangesOnly (IsPairsJournal settings)) s.files t.files only_pairs beside.leaves.changes.told

  -- none of them is one of the URLs', or the log
  urls_apart : (f : ℕ) → IsFileOf urls.base urls.settings.buckets f → IsPairsJournal settings f → ⊥
  urls_apart f is journal =
      let file : IsFileOf urls_base settings.buckets f = subst (λ (g : Settings). IsFileOf urls_base g.buckets f) beside.same (subst (λ (n : ℕ). IsFileOf n urls.settings.buckets f) beside.base is) in
      files_of_both settings.buckets f (small settings beside.valid) file (journal_files pairs_base settings.buckets f journal)

  log_out : IsPairsJournal settings crawl_file → ⊥
  log_out is = log_apart settings.buckets (small settings beside.valid) (journal_files pairs_base settings.buckets crawl_file is)

  -- ---- what stays
  pub urls_held : (u : Book) → Holds s.images urls u → Holds t.images urls u
  urls_held u holds = holds_beside (IsPairsJournal settings) s t urls u beside.law beside.consistent pairs_stops urls_apart holds

  pub urls_long : ForSome s.files (λ files. IsLong urls files) → ForSome t.files (λ files. IsLong urls files)
  urls_long long = long_beside (IsPairsJournal settings) s.files t.files urls beside.law pairs_tells urls_apart long

  pub log_held : (log : OpenLog) (events : List Event) → log.journal.file ≡ crawl_file → HoldsLog s.images log events → HoldsLog t.images log events
  log_held log events file holds = record {
    each = holds.each;
    records = open_stays (IsPairsJournal settings) s t log.journal (log_records events) beside.consistent pairs_stops (λ is. log_out (subst (IsPairsJournal settings) file is)) holds.records;
  }

  pub log_long : (n : ℕ) → ForSome s.files (λ files. n < length (files crawl_file)) → ForSome t.files (λ files. n < length (files crawl_file))
  log_long n long = λ files told.
      let was = told_before (IsPairsJournal settings) s.files t.files files pairs_tells told in
      subst (λ (file : List ℕ). n < length file) (sym (was.2 crawl_file log_out)) (long was.0 was.1)

  -- ---- what is told then
  pub told_then : (files : Files) → s.files ≡ Some files → (now : Files) × (t.files ≡ Some now) × OpensPairs settings files now
  told_then files told =
      let tells = subst (λ (o : Option Files). TellsBy (IsAdopted pairs_base settings.buckets) o t.files) told beside.leaves.changes.told in
      (tells.0, tells.1, adopted_wider pairs_base settings.buckets files tells.0 tells.2)

  -- damage of the URLs
  pub urls_manifest : (files now : Files) (at : ℕ) → OpensPairs settings files now → IsSpoiltManifest urls now at → IsSpoiltManifest urls files at
  urls_manifest files now at opens spoilt = record {
    commits = spoilt.commits;
    behind = spoilt.behind;
    form = spoilt.form;
    bytes = sym (opens.others urls.manifest.file (urls_apart urls.manifest.file (Manifest, tt, beside.law.manifest))) ∙ spoilt.bytes;
    place = spoilt.place;
    why = spoilt.why;
  }

  pub urls_judged : (files now : Files) (f at : ℕ) → OpensPairs settings files now → IsJudgedSpoiltAt urls now f at → IsJudgedSpoiltAt urls files f at
  urls_judged files now f at opens spoilt = (
    spoilt.0,
    subst (λ (file : List ℕ). IsSpoiltEntry urls file at) (opens.others f (urls_apart f (JudgedFile, tt, spoilt.0))) spoilt.1,
  )

  pub urls_strange : (f at : ℕ) → IsStrangeTextAt t.images urls f at → IsStrangeTextAt s.images urls f at
  urls_strange f at strange = record {
    file = strange.file;
    i = strange.i;
    within = strange.within;
    place = strange.place;
    strange = λ (book : Book) (one : Judged) holds. strange.strange book one (urls_held book holds);
  }

  -- damage of the pairs
  pub pairs_judged : (pairs : Drum) (files now : Files) (f at : ℕ) → pairs.base ≡ pairs_base → OpensPairs settings files now → IsJudgedSpoiltAt pairs now f at → IsJudgedSpoiltAt pairs files f at
  pairs_judged pairs files now f at here opens spoilt = (
    spoilt.0,
    subst (λ (file : List ℕ). IsSpoiltEntry pairs file at) (opens.others f out) spoilt.1,
  )
    where
      out : IsPairsJournal settings f → ⊥
      out (inl manifest) = omega (arith, manifest, spoilt.0, here)
      out (inr (side, b, low, within, is)) = omega (arith, is, spoilt.0, here)

  -- a manifest that was too short to have a record is spoilt whatever it becomes
  pub pairs_manifest : (pairs : Drum) (files now : Files) (f at : ℕ) → IsDrum pairs → pairs.base ≡ pairs_base → IsLong pairs now → OpensPairs settings files now → f ≡ pairs.manifest.file
      → IsSpoiltManifest pairs now at → (d : Drum) × IsDrum d × (d.base ≡ pairs_base) × (f ≡ d.manifest.file) × IsSpoiltManifest d files at × (d.settings ≡ pairs.settings)
  pairs_manifest pairs files now f at keeps here long opens is spoilt = ⊎_elim
      (λ (stayed : now pairs.manifest.file ≡ files pairs.manifest.file). (
        pairs,
        keeps,
        here,
        is,
        record { commits = spoilt.commits; behind = spoilt.behind; form = spoilt.form; bytes = sym stayed ∙ spoilt.bytes; place = spoilt.place; why = spoilt.why },
        refl,
      ))
      (λ short.
      let first : at ≡ 0 = spoilt.place ∙ few_records (map commit_bytes spoilt.commits) spoilt.behind (now pairs.manifest.file) (omega (arith, short.2)) spoilt.bytes in (
        ends_at_one pairs,
        one_drum pairs (omega (arith, keeps.cuts, long.manifest, short.2)) keeps,
        here,
        is,
        short_spoilt pairs files at (omega (arith, short.0)) first,
        refl,
      ))
      (opens.changed pairs.manifest.file (inl (keeps.manifest ∙ ap (λ (n : ℕ). file_of n 0 Manifest) here)))

  -- ---- what the calls do
  pub adopted_changes : ReadsAndChanges (IsReopenedFile settings urls) (IsAdopted pairs_base settings.buckets) failed s t
  adopted_changes = record {
    told = beside.leaves.changes.told;
    stops = beside.leaves.changes.stops;
    taken = takes_wider (IsJournalOn pairs_base beside.leaves.side settings.buckets) (IsReopenedFile settings urls) s.taken t.taken
        (λ f is. inl (on_side settings.buckets beside.leaves.side f beside.leaves.fits is)) beside.leaves.changes.taken;
    cause = beside.leaves.changes.cause;
  }

  -- and then it is read
  pub reads_also : (among : ℕ → Type 0) (answered : Type 0) (w : Told) → ((f : ℕ) → among f → IsReopenedFile settings urls f) → OnlyReads among answered t w
      → ReadsAndChanges (IsReopenedFile settings urls) (IsAdopted pairs_base settings.buckets) answered s w
  reads_also among answered w within reads =
      changes_reads (IsReopenedFile settings urls) among (IsAdopted pairs_base settings.buckets) failed answered answered s t w beside.consistent within adopted_changes reads
      (cause_then answered s.faults t.faults w.faults beside.leaves.changes.cause.later reads.cause)
