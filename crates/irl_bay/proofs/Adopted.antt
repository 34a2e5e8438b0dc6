-- A bay that is opened, part by part: what changes, what is damaged, and what it is as a drum.
use Rattle.std.proofs.Common.{◌≡◌, ◌∙◌, inl, inr, ℕ, suc, zero, ◌+◌, ◌*◌, ◌-◌, ◌^◌, ◌<◌, ◌≤◌, min, List, [], ◌∷◌, ◌++◌, length, map, get_or, replicate, Option, Some, None, true, refl, sym, ap, subst, arith}
use Rattle.std.proofs.lemmas.List.{length-map, length-replicate, get_or-replicate}
use Rattle.std.specs.List.{AllByRecursion}
use Rattle.irl_offer.specs.declared.entry.Entry.{Entry}
use Rattle.irl_offer.specs.declared.settings.Settings.{Settings}
use Rattle.irl_model.specs.Book.{IsBelow, judged}
use Rattle.irl_base.specs.Faults.{HasCause}
use Rattle.irl_disk.specs.Disk.{Files, ChangesFile, TellsBy}
use Rattle.irl_disk.specs.Effects.{OnlyReads, ReadsAndChanges}
use Rattle.irl_disk.specs.Images.{Told, IsConsistent}
use Rattle.irl_disk.proofs.Frames.{takes_both}
use Rattle.irl_disk.proofs.Stretches.{reads_on}
use Rattle.irl_journal.specs.Format.{StandsFor, records_text}
use Rattle.irl_journal.specs.Visiting.{IsOpened}
use Rattle.irl_journal.proofs.Lists.{one_list}
use Rattle.irl_layout.specs.BayFiles.{file_of, max_base}
use Rattle.irl_layout.specs.declared.files.BayFile.TheVariants.{Manifest, Cache, Judged, Texts, Journal, Aux}
use Rattle.irl_bay.specs.declared.bucket.Bucket.{Bucket}
use Rattle.irl_layout.specs.Commits.{Commit, IsCommit, commit_bytes, first_commit, last_commit, live_side, starts_by}
use Rattle.irl_bay.specs.Damage.{HasRuns, HasManifest, HasFronts, IsDamagedBucket, IsDamagedFront, IsWholeBucket, IsDamagedJournal, IsCutAbove, IsReached, RiseFrom}
use Rattle.irl_layout.specs.EntryRuns.{AreRunPayloads, entries_bytes, entries_in, text_length}
use Rattle.irl_layout.specs.Commits.{starts_of}
use Rattle.irl_offer.specs.Settings.{AreValid}
use Rattle.irl_journal.specs.Appending.{Tail}
use Rattle.irl_bay.specs.Drum.{Drum, IsDrum, no_bucket}
use Rattle.irl_bay.specs.Holding.{IsLong}
use Rattle.irl_bay.specs.Opening.{HasWhole, IsOpenBucket, IsLongBucket, OpensBelow, IsWithin, IsFirstAbove}
use Rattle.irl_bay.specs.Damage.{IsShort}
use Rattle.irl_disk.specs.Taken.{TakesAmong}
use Rattle.irl_bay.specs.declared.history.HistoryVisitor.{HistoryVisitor}
use Rattle.irl_bay.proofs.Reached.{TookCommits, rise_each, few_commits, zeros_fit}
use Rattle.irl_bay.proofs.Adopting.{side_fits}
use Rattle.irl_bay.proofs.Below.{below_each, each_below}
use Rattle.irl_bay.proofs.Buckets.{same_runs}

-- ---- the last commit
pub first_is : (buckets : ℕ) → IsCommit buckets (first_commit buckets)
first_is buckets = record {
  side = omega arith;
  live = tt;
  entries = omega arith;
  judged = omega arith;
  unique = omega arith;
  texts = omega arith;
  count = length-replicate buckets 0;
  cut = zeros_fit buckets;
}

pub last_is : (buckets : ℕ) (first : Commit) (commits : List Commit) → IsCommit buckets first → AllByRecursion (IsCommit buckets) commits → IsCommit buckets (last_commit first commits)
last_is buckets first [] here each = here
last_is buckets first (commit ∷ commits) here each = last_is buckets commit commits each.0 each.1

-- ---- damage that stood there before the manifest was opened
pub elsewhere : (base f : ℕ) (old new : Files) → ChangesFile (file_of base 0 Manifest) IsOpened old new → base < f → new f ≡ old f
elsewhere base f old new step above = step.others f (λ here. omega (arith, here, above))

pub front_back : (base : ℕ) (last : Commit) (old new : Files) (f at : ℕ) → ChangesFile (file_of base 0 Manifest) IsOpened old new → IsDamagedFront base last new f at
    → IsDamagedFront base last old f at
front_back base last old new f at step (inl (is, short)) = inl (is, subst (λ (file : List ℕ). IsShort (16 * last.entries) file at) (elsewhere base f old new step (omega (arith, is))) short)
front_back base last old new f at step (inr (inl (cache, is, short))) = inr (inl (
  omega (arith, cache, ap length (elsewhere base (file_of base 0 (Cache last.side)) old new step (omega arith))),
  is,
  subst (λ (file : List ℕ). IsShort (48 * last.judged) file at) (elsewhere base f old new step (omega (arith, is))) short,
))
front_back base last old new f at step (inr (inr (cache, judged, is, short))) = inr (inr (
  omega (arith, cache, ap length (elsewhere base (file_of base 0 (Cache last.side)) old new step (omega arith))),
  omega (arith, judged, ap length (elsewhere base (file_of base 0 Judged) old new step (omega arith))),
  is,
  subst (λ (file : List ℕ). IsShort last.texts file at) (elsewhere base f old new step (omega (arith, is))) short,
))

pub fronts_back : (base : ℕ) (last : Commit) (old new : Files) → ChangesFile (file_of base 0 Manifest) IsOpened old new → HasFronts base last new → HasFronts base last old
fronts_back base last old new step has = record {
  cache = omega (arith, has.cache, ap length (elsewhere base (file_of base 0 (Cache last.side)) old new step (omega arith)));
  judged = omega (arith, has.judged, ap length (elsewhere base (file_of base 0 Judged) old new step (omega arith)));
  texts = omega (arith, has.texts, ap length (elsewhere base (file_of base 0 Texts) old new step (omega arith)));
}

runs_back : (base side : ℕ) (settings : Settings) (b : ℕ) (old new : Files) (runs : List (List Entry)) → ChangesFile (file_of base 0 Manifest) IsOpened old new → HasRuns base side settings b new runs
    → HasRuns base side settings b old runs
runs_back base side settings b old new runs step has = record {
  each = has.each;
  records = subst (λ (file : List ℕ). StandsFor file (map entries_bytes runs)) (elsewhere base (file_of base 0 (Journal side b)) old new step (omega arith)) has.records;
}

pub whole_back : (base side : ℕ) (settings : Settings) (b : ℕ) (old new : Files) → ChangesFile (file_of base 0 Manifest) IsOpened old new → IsWholeBucket base side settings new b
    → IsWholeBucket base side settings old b
whole_back base side settings b old new step whole = (
  whole.0,
  runs_back base side settings b old new whole.0 step whole.1,
  omega (arith, whole.2, ap length (elsewhere base (file_of base 0 (Aux side b)) old new step (omega arith))),
)

pub bucket_back : (base side : ℕ) (settings : Settings) (b : ℕ) (old new : Files) (f at : ℕ) → ChangesFile (file_of base 0 Manifest) IsOpened old new → IsDamagedBucket base side settings b new f at
    → IsDamagedBucket base side settings b old f at
bucket_back base side settings b old new f at step (inl (is, damaged)) = inl (
  is,
  subst (λ (file : List ℕ). IsDamagedJournal (AreRunPayloads settings b) file at) (elsewhere base f old new step (omega (arith, is))) damaged,
)
bucket_back base side settings b old new f at step (inr (is, (runs, has, short))) =
    inr (
      is,
      (
        runs,
        runs_back base side settings b old new runs step has,
        subst (λ (file : List ℕ). IsShort (text_length (entries_in runs)) file at) (elsewhere base f old new step (omega (arith, is)))
            short,
      ),
    )

-- ---- a cut above the lists
durable-at : (buckets : List Bucket) (d : Bucket) (b : ℕ) → b < length buckets → get_or (map (λ bucket. bucket.durable) buckets) b 0 ≡ (get_or buckets b d).durable
durable-at [] d b within = absurd (omega (arith, within))
durable-at (bucket ∷ buckets) d zero within = refl
durable-at (bucket ∷ buckets) d (suc b) within = durable-at buckets d b (omega (arith, within))

-- a bucket begins at or below its cut
starts_below : (buckets b : ℕ) (cut : List ℕ) (live : Option ℕ) → b < buckets → get_or (starts_by (replicate buckets 0) cut live) b 0 ≤ get_or cut b 0
starts_below buckets b cut None within = omega (arith, get_or-replicate {A = ℕ} buckets b 0 0 within)
starts_below buckets b cut (Some side) within = omega arith

pub start_below : (buckets b : ℕ) (last : Commit) → b < buckets → get_or (starts_of buckets last) b 0 ≤ get_or last.cut b 0
start_below buckets b last within = starts_below buckets b last.cut last.live within

number_fits : (numbers : List ℕ) (b : ℕ) → AllByRecursion (λ (n : ℕ). n < 2 ^ 64) numbers → get_or numbers b 0 < 2 ^ 64
number_fits [] b each = omega arith
number_fits (n ∷ numbers) zero each = each.0
number_fits (n ∷ numbers) (suc b) each = number_fits numbers b each.1

-- buckets that are open behind a last commit, of whose offers the files have as many as they count
pub record AreWhole (base : ℕ) (settings : Settings) (files : Files) (last : Commit) (buckets : List Bucket) (d : Bucket) : Type 0 where
  pub count : length buckets ≡ settings.buckets
  pub starts : (b : ℕ) → b < settings.buckets → (get_or buckets b d).start ≡ get_or (starts_of settings.buckets last) b 0
  pub whole : (b : ℕ) → b < settings.buckets → HasWhole base (live_side last) settings b files (get_or buckets b d)

-- a cut that is within the bounds is reached
pub within_reached : (base : ℕ) (settings : Settings) (files : Files) (last : Commit) (buckets : List Bucket) (d : Bucket) (commit : Commit) → AreWhole base settings files last buckets d
    → IsWithin (map (λ bucket. bucket.durable) buckets) last.judged commit.cut → IsReached base settings files last commit
within_reached base settings files last buckets d commit are within = record {
  lists = λ b inside.
      let has = are.whole b inside in (
        has.runs,
        has.has,
        omega (
          arith,
          each_below commit.cut (map (λ bucket. bucket.durable) buckets) within.lists b,
          durable-at buckets d b (omega (arith, inside, are.count)),
          has.durable,
          are.starts b inside,
        ),
      );
  judged = within.all;
}

-- and one that is reached is within them
pub reached_within : (base : ℕ) (settings : Settings) (files : Files) (last : Commit) (buckets : List Bucket) (d : Bucket) (commit : Commit) → AreWhole base settings files last buckets d
    → IsCommit settings.buckets commit → IsReached base settings files last commit → IsWithin (map (λ bucket. bucket.durable) buckets) last.judged commit.cut
reached_within base settings files last buckets d commit are is reached = record {
  lists = below_each commit.cut (map (λ bucket. bucket.durable) buckets) (omega (arith, is.count, are.count, length-map buckets (λ (bucket : Bucket). bucket.durable)))
      (λ b within.
      let inside : b < settings.buckets = omega (arith, within, is.count) in
      let has = are.whole b inside in
      let other = reached.lists b inside in
      let same : has.runs ≡ other.0 = same_runs settings b has.runs other.0 has.has.each other.1.each
      (one_list (files (file_of base 0 (Journal (live_side last) b))) (map entries_bytes has.runs) (map entries_bytes other.0) has.has.records other.1.records) in
      omega (
        arith,
        other.2,
        number_fits commit.cut b is.cut,
        durable-at buckets d b (omega (arith, inside, are.count)),
        has.durable,
        are.starts b inside,
        ap (λ (runs : List (List Entry)). length (entries_in runs)) same,
      ));
  all = reached.judged;
}

-- the same of the lengths and of the last commit as they are found
pub within_end : (lengths ls : List ℕ) (last x : Commit) → lengths ≡ ls → last ≡ x → IsWithin lengths last.judged last.cut → IsWithin ls x.judged x.cut
within_end lengths ls last x same_l same within = subst (λ (l : List ℕ). IsWithin l x.judged x.cut) same_l (subst (λ (y : Commit). IsWithin lengths y.judged y.cut) same within)

pub first_end : (lengths ls : List ℕ) (last x : Commit) (commits : List Commit) (at : ℕ) → lengths ≡ ls → last ≡ x → IsFirstAbove lengths last.judged commits at → IsFirstAbove ls x.judged commits at
first_end lengths ls last x commits at same_l same first = subst (λ (l : List ℕ). IsFirstAbove l x.judged commits at) same_l
    (subst (λ (y : Commit). IsFirstAbove lengths y.judged commits at) same first)

all-map : (P Q : Commit → Type 0) (xs : List Commit) → ((x : Commit) → P x → Q x) → AllByRecursion P xs → AllByRecursion Q xs
all-map P Q [] wide each = tt
all-map P Q (x ∷ xs) wide each = (wide x each.0, all-map P Q xs wide each.1)

each_split : (P : Commit → Type 0) (xs ys : List Commit) → AllByRecursion P (xs ++ ys) → AllByRecursion P ys
each_split P [] ys each = each
each_split P (x ∷ xs) ys each = each_split P xs ys each.1

pub cut_above : (base : ℕ) (settings : Settings) (files : Files) (buckets : List Bucket) (d : Bucket) (commits : List Commit) (at : ℕ)
    → AreWhole base settings files (last_commit (first_commit settings.buckets) commits) buckets d
    → AllByRecursion (IsCommit settings.buckets) commits → IsFirstAbove (map (λ bucket. bucket.durable) buckets) (last_commit (first_commit settings.buckets) commits).judged commits at
    → IsCutAbove base settings files commits at
cut_above base settings files buckets d commits at are each first =
    let last = last_commit (first_commit settings.buckets) commits in
    record {
      before = first.before;
      commit = first.commit;
      more = first.more;
      among = first.among;
      place = first.place;
      reached = all-map (λ old. IsWithin (map (λ bucket. bucket.durable) buckets) last.judged old.cut) (IsReached base settings files last) first.before (λ commit.
          within_reached base settings files last buckets d commit are) first.within;
      above = λ reached. first.above (reached_within base settings files last buckets d first.commit are
          (each_split (IsCommit settings.buckets) first.before (first.commit ∷ first.more) (subst (AllByRecursion (IsCommit settings.buckets)) first.among each)).0 reached);
    }

pub has_back : (base side : ℕ) (settings : Settings) (b : ℕ) (old new : Files) (bucket : Bucket) → ChangesFile (file_of base 0 Manifest) IsOpened old new → HasWhole base side settings b new bucket
    → HasWhole base side settings b old bucket
has_back base side settings b old new bucket step has = record {
  runs = has.runs;
  has = runs_back base side settings b old new has.runs step has.has;
  durable = has.durable;
  texts = omega (arith, has.texts, ap length (elsewhere base (file_of base 0 (Aux side b)) old new step (omega arith)));
}

-- as the last of the manifest's commits has them
pub whole_of : (base : ℕ) (settings : Settings) (old new : Files) (last x : Commit) (buckets : List Bucket) → last ≡ x → ChangesFile (file_of base 0 Manifest) IsOpened old new
    → length buckets ≡ settings.buckets
    → ((b : ℕ) → b < settings.buckets → IsOpenBucket base (live_side last) b (get_or (starts_of settings.buckets last) b 0) (get_or buckets b no_bucket))
    → ((b : ℕ) → b < settings.buckets → HasWhole base (live_side last) settings b new (get_or buckets b no_bucket)) → AreWhole base settings old x buckets no_bucket
whole_of base settings old new last x buckets same step count opened has = subst (λ (y : Commit). AreWhole base settings old y buckets no_bucket) same
    (record { count = count; starts = λ b within. (opened b within).start; whole = λ b within. has_back base (live_side last) settings b old new (get_or buckets b no_bucket) step (has b within) })

-- ---- the manifest
pub took_is : (buckets : ℕ) (first : Commit) (count : ℕ) (payloads : List (List ℕ)) (new : HistoryVisitor) → first ≡ first_commit buckets → TookCommits buckets first count payloads new
    → IsCommit buckets new.last
took_is buckets first count payloads new is took =
    subst (IsCommit buckets) (sym took.last) (last_is buckets first took.commits (subst (IsCommit buckets) (sym is) (first_is buckets)) (rise_each buckets first took.commits took.rise))

-- the side that it leaves live is one
pub took_side : (buckets : ℕ) (first : Commit) (count : ℕ) (payloads : List (List ℕ)) (new : HistoryVisitor) (last : Commit) → first ≡ first_commit buckets
    → TookCommits buckets first count payloads new
    → last ≡ new.last → live_side last ≤ 1
took_side buckets first count payloads new last is took same = side_fits buckets last (subst (IsCommit buckets) (sym same) (took_is buckets first count payloads new is took))

-- no more commits are counted than the manifest has bytes
pub took_few : (buckets : ℕ) (first : Commit) (payloads : List (List ℕ)) (new : HistoryVisitor) → TookCommits buckets first 0 payloads new → new.count ≤ length (records_text payloads)
took_few buckets first payloads new took = omega (arith, took.counted, few_commits took.commits, ap (λ (ps : List (List ℕ)). length (records_text ps)) took.payloads_are)

-- the commits that its file has
pub record IsManifest (base buckets : ℕ) (files : Files) (payloads : List (List ℕ)) (last : Commit) (count : ℕ) : Type 0 where
  pub commits : List Commit
  pub has : HasManifest base buckets files commits
  pub payloads_are : payloads ≡ map commit_bytes commits
  pub last_is : last ≡ last_commit (first_commit buckets) commits
  pub each : AllByRecursion (IsCommit buckets) commits
  pub counted : count ≡ min (length commits) (2 ^ 64 - 1)

pub manifest_of : (base buckets f : ℕ) (files : Files) (first : Commit) (start : ℕ) (payloads : List (List ℕ)) (new : HistoryVisitor) → f ≡ file_of base 0 Manifest → first ≡ first_commit buckets
    → start ≡ 0
    → StandsFor (files f) payloads → TookCommits buckets first start payloads new → IsManifest base buckets files payloads new.last new.count
manifest_of base buckets f files first start payloads new is_file is_first none stands took =
    let rise = subst (λ (x : Commit). RiseFrom buckets x took.commits) is_first took.rise in
    record {
      commits = took.commits;
      has = record { rise = rise; records = subst (λ (n : ℕ). StandsFor (files n) (map commit_bytes took.commits)) is_file (subst (StandsFor (files f)) took.payloads_are stands) };
      payloads_are = took.payloads_are;
      last_is = took.last ∙ ap (λ (x : Commit). last_commit x took.commits) is_first;
      each = rise_each buckets (first_commit buckets) took.commits rise;
      counted = omega (arith, took.counted, none);
    }

-- ---- bytes taken
pub takes_wider : (among wide : ℕ → Type 0) (old new : Option (ℕ → ℕ)) → ((f : ℕ) → among f → wide f) → TakesAmong among old new → TakesAmong wide old new
takes_wider among wide None new allows takes = takes
takes_wider among wide (Some old) new allows takes = (takes.0, takes.1, λ g out. takes.2 g (λ is. out (allows g is)))

-- a call that reads and changes, and then one that only reads
pub changes_reads : (among more : ℕ → Type 0) (step : Files → Files → Type 0) (failed other answered : Type 0) (old mid new : Told) → IsConsistent mid → ((f : ℕ) → more f → among f)
    → ReadsAndChanges among step failed old mid → OnlyReads more other mid new → HasCause answered old.faults new.faults → ReadsAndChanges among step answered old new
changes_reads among more step failed other answered old mid new law within first second cause = record {
  told = subst (TellsBy step old.files) (sym second.same) first.told;
  stops = reads_on old mid new _ law first.stops second.stops;
  taken = takes_both among old.taken mid.taken new.taken first.taken (takes_wider more among mid.taken new.taken within second.taken);
  cause = cause;
}

-- the same of a file that is known
pub changes_at : (f n : ℕ) (failed answered : Type 0) (old new : Told) → f ≡ n → ReadsAndChanges (λ g. g ≡ f) (ChangesFile f IsOpened) failed old new → HasCause answered old.faults new.faults
    → ReadsAndChanges (λ g. g ≡ n) (ChangesFile n IsOpened) answered old new
changes_at f n failed answered old new is changes cause =
    subst (λ (k : ℕ). ReadsAndChanges (λ g. g ≡ k) (ChangesFile k IsOpened) answered old new) is (record { told = changes.told; stops = changes.stops; taken = changes.taken; cause = cause })

pub tells_from : (step : Files → Files → Type 0) (old new : Option Files) (files : Files) → TellsBy step old new → new ≡ Some files → (before : Files) × (old ≡ Some before) × step before files
tells_from step None new files tells told = cc
tells_from step (Some old) new files tells told =
    let same : tells.0 ≡ files = cc in
    (old, refl, subst (λ (after : Files). step old after) same tells.2)

pub below_same : (base side buckets f : ℕ) (old new : Files) → OpensBelow base side buckets old new → f < base + 10 → new f ≡ old f
below_same base side buckets f old new step low = step.others f (λ is. omega (arith, is.2, low))

-- ---- the open bay
abbrev pub opened_drum : ℕ → Settings → Tail → Commit → ℕ → List Bucket → Drum
opened_drum base settings manifest last cuts buckets = record { base = base; settings = settings; is_sound = true; manifest = manifest; last = last; cuts = cuts; buckets = buckets }

pub drum_is : (base : ℕ) (settings : Settings) (manifest : Tail) (last : Commit) (cuts : ℕ) (buckets : List Bucket) → base ≤ max_base → AreValid settings → IsCommit settings.buckets last
    → 48 * last.judged < 2 ^ 64 → 16 * last.entries < 2 ^ 64
    → manifest.file ≡ file_of base 0 Manifest → manifest.is_sound ≡ true → cuts ≤ manifest.end → length buckets ≡ settings.buckets
    → ((b : ℕ) → b < settings.buckets → IsOpenBucket base (live_side last) b (get_or (starts_of settings.buckets last) b 0) (get_or buckets b no_bucket))
    → IsBelow last.cut (map (λ bucket. bucket.durable) buckets)
    → IsDrum (opened_drum base settings manifest last cuts buckets)
drum_is base settings manifest last cuts buckets is_base valid is judged entries_ is_manifest is_sound few count opened below = record {
  base = is_base;
  settings = valid;
  last = is;
  judged = judged;
  entries = entries_;
  manifest = is_manifest;
  sound = λ _. is_sound;
  cuts = few;
  count = count;
  buckets = λ b within.
      let one = opened b within in
      record {
        journal = one.journal;
        aux = one.aux;
        sound = λ _. one.sound;
        start = omega (arith, one.start, start_below settings.buckets b last within);
        judged = omega (arith, each_below last.cut (map (λ bucket. bucket.durable) buckets) below b, durable-at buckets no_bucket b (omega (arith, within, count)));
        gate = one.gate;
        text = one.text;
      };
}

pub long_is : (base : ℕ) (settings : Settings) (manifest : Tail) (last : Commit) (cuts : ℕ) (buckets : List Bucket) (mid files : Files) → last.side ≤ 1 → HasFronts base last mid
    → OpensBelow base (live_side last) settings.buckets mid files → manifest.end < length (files manifest.file)
    → ((b : ℕ) → b < settings.buckets → IsLongBucket (get_or buckets b no_bucket) files) → IsLong (opened_drum base settings manifest last cuts buckets) files
long_is base settings manifest last cuts buckets mid files side has step end long = record {
  manifest = end;
  cache = omega (arith, has.cache, ap length (below_same base (live_side last) settings.buckets (file_of base 0 (Cache last.side)) mid files step (omega (arith, side))));
  judged = omega (arith, has.judged, ap length (below_same base (live_side last) settings.buckets (file_of base 0 Judged) mid files step (omega arith)));
  texts = omega (arith, has.texts, ap length (below_same base (live_side last) settings.buckets (file_of base 0 Texts) mid files step (omega arith)));
  journals = λ b within. (long b within).journal;
  auxes = λ b within. (long b within).aux;
}

pub front_back_as : (base : ℕ) (last x : Commit) (old new : Files) (f at : ℕ) → last ≡ x → ChangesFile (file_of base 0 Manifest) IsOpened old new → IsDamagedFront base last new f at
    → IsDamagedFront base x old f at
front_back_as base last x old new f at same step damaged = subst (λ (y : Commit). IsDamagedFront base y old f at) same (front_back base last old new f at step damaged)
