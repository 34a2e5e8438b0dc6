-- Files that stand for a book are damaged nowhere.
use Rattle.std.proofs.Common.{◌≡◌, ◌∙◌, ℕ, suc, zero, ◌+◌, ◌<◌, ◌≤◌, List, [], ◌∷◌, ◌++◌, length, map, take, drop, get_or, inl, inr, Option, refl, sym, ap, subst, arith, length-append}
use Rattle.std.proofs.lemmas.List.{length-map}
use Rattle.std.proofs.lemmas.Grind.{flat_map-append}
use Rattle.std.proofs.Math.Seq.{take-add, take-append-add}
use Rattle.std.proofs.lemmas.List.Sums.{sum_by-cons}
use Rattle.std.specs.Prelude.{IsSome, sum, Result, IsErrOf}
use Rattle.std.specs.Option.{ForSome}
use Rattle.std.specs.List.{take-map, AllByRecursion}
use Rattle.std.specs.FinMap.{entries}
use Rattle.irl_offer.specs.Tuple.{Tuple}
use Rattle.irl_offer.specs.declared.entry.Entry.{Entry}
use Rattle.irl_offer.specs.declared.settings.Settings.{Settings}
use Rattle.irl_model.specs.Judging.{after}
use Rattle.irl_model.specs.Book.{Book, IsBook, IsFront, IsBelow, IsPrefixOf, AreCuts, last_cut, judged_cut, lengths_of, judged, judged_offers, uniques, with_cuts}
use Rattle.irl_model.proofs.FrontLaws.{prefixes_same, judged_offers_front, judged_front, uniques_front}
use Rattle.irl_model.proofs.Merges.{earlier_book}
use Rattle.irl_base.specs.declared.fault.Fault.{Fault}
use Rattle.irl_base.specs.declared.fault.Fault.TheVariants.{Damaged, Full}
use Rattle.irl_disk.specs.Disk.{Files}
use Rattle.irl_journal.specs.Format.{StandsFor}
use Rattle.irl_journal.proofs.Lists.{one_list, whole_list, record_behind}
use Rattle.irl_journal.proofs.Fronts.{begins_long}
use Rattle.irl_layout.specs.BayFiles.{file_of}
use Rattle.irl_layout.specs.declared.files.BayFile.TheVariants.{Manifest, Cache, Judged, Texts, Journal, Aux}
use Rattle.irl_cache.specs.SortedRun.{pairs_bytes}
use Rattle.irl_layout.specs.Commits.{Commit, IsCommit, IsCommitOf, GrowFrom, NameFrom, commit_bytes, first_commit, last_commit, live_side, live_offers}
use Rattle.irl_bay.specs.Damage.{IsAtOrAbove, RiseFrom, AreCommitPayloads, IsDamagedJournal, IsDamagedFront, IsDamagedBucket, IsDamagedBehind, IsDamagedAt, IsReached, IsWholeBucket, HasFronts, HasManifest, HasRuns}
use Rattle.irl_layout.specs.EntryRuns.{AreRunPayloads, IsEntryRun, entries_bytes, entries_in, text_length}
use Rattle.irl_layout.specs.JudgedEntries.{judged_entries}
use Rattle.irl_layout.specs.Runs.{IsOffer, entry_of_offer, texts_of}
use Rattle.irl_bay.specs.Drum.{Drum}
use Rattle.irl_bay.specs.Opening.{AdoptRefused}
use Rattle.irl_bay.specs.Standing.{Stands, IsBookOf, HasBucketOf}
use Rattle.irl_bay.proofs.Adopted.{first_is, last_is}
use Rattle.irl_bay.proofs.AdoptedBook.{IsLastOf, cut_in, cut_sum, live_here, length-pairs, length-judged, same_commits}
use Rattle.irl_bay.proofs.Below.{below_both, each_below}
use Rattle.irl_bay.proofs.Buckets.{entry_runs, runs_entries, entries_in-runs, text_length-offers, runs_of, same_runs, IsOfferOf}
use Rattle.irl_bay.proofs.LastCommit.{first_of, last_of_book}
use Rattle.irl_bay.proofs.Reached.{rise_each}

-- ---- a good journal is damaged nowhere
good_journal : (AreGood : List (List ℕ) → Type 0) (file : List ℕ) (xs : List (List ℕ)) (at : ℕ) → StandsFor file xs → ((n : ℕ) → AreGood (take n xs)) → IsDamagedJournal AreGood file at → ⊥
good_journal AreGood file xs at stands good (inl broken) = whole_list file xs at stands broken.broken
good_journal AreGood file xs at stands good (inr bad) =
    let behind = record_behind file xs bad.payloads bad.payload bad.rest bad.gate stands bad.each bad.fits bad.bytes in
    let front : take (length bad.payloads + 1) xs ≡ bad.payloads ++ bad.payload ∷ [] = ap (take (length bad.payloads + 1)) behind.1 ∙ take-append-add bad.payloads (bad.payload ∷ behind.0) 1 in
    bad.bad (subst AreGood front (good (length bad.payloads + 1)))

rise_take : (buckets n : ℕ) (old : Commit) (commits : List Commit) → RiseFrom buckets old commits → RiseFrom buckets old (take n commits)
rise_take buckets zero old commits rise = tt
rise_take buckets (suc n) old [] rise = tt
rise_take buckets (suc n) old (commit ∷ commits) rise = (rise.0, rise.1, rise_take buckets n commit commits rise.2)

runs_take : (P : List Entry → Type 0) (n : ℕ) (runs : List (List Entry)) → AllByRecursion P runs → AllByRecursion P (take n runs)
runs_take P zero runs each = tt
runs_take P (suc n) [] each = tt
runs_take P (suc n) (run ∷ runs) each = (each.0, runs_take P n runs each.1)

-- ---- a book's commits don't fall
below_self : (xs : List ℕ) → IsBelow xs xs
below_self [] = tt
below_self (x ∷ xs) = (omega arith, below_self xs)

cuts_below : (from end : List ℕ) (cuts : List (List ℕ)) (n : ℕ) → AreCuts from cuts end → IsBelow (last_cut from (take n cuts)) (last_cut from (take (suc n) cuts))
cuts_below from end [] zero are = below_self from
cuts_below from end [] (suc n) are = below_self from
cuts_below from end (cut ∷ cuts) zero are = are.0
cuts_below from end (cut ∷ cuts) (suc n) are = cuts_below cut end cuts n are.2

one_more : (book : Book) (n : ℕ) → IsFront (with_cuts n book) (with_cuts (suc n) book)
one_more book n = record {
  buckets = refl;
  rule = refl;
  base = refl;
  dropped = refl;
  firsts = refl;
  lists = prefixes_same book.lists;
  cuts = (take 1 (drop n book.cuts), (let e : suc n ≡ n + 1 = omega arith in ap (λ (k : ℕ). take k book.cuts) e) ∙ take-add n 1 book.cuts);
}

longer : {X : Type 0} (xs ys : List X) → IsPrefixOf xs ys → length xs ≤ length ys
longer {X} xs ys prefix = omega (arith, ap (λ (l : List X). length l) prefix.1, length-append xs prefix.0)

longer_texts : (xs ys : List Tuple) → IsPrefixOf xs ys → length (texts_of xs) ≤ length (texts_of ys)
longer_texts xs ys prefix = omega (
  arith,
  ap (λ (l : List Tuple). length (texts_of l)) prefix.1,
  ap (λ (l : List ℕ). length l) (flat_map-append (λ (o : Tuple). o.aux) xs prefix.0),
  length-append (texts_of xs) (texts_of prefix.0),
)

above_one : (book : Book) (n : ℕ) (old new : Commit) → IsBook book → old.entries ≤ new.entries → (IsSome old.live → IsSome new.live) → IsCommitOf (with_cuts n book) old
    → IsCommitOf (with_cuts (suc n) book) new → IsAtOrAbove old new
above_one book n old new is grows names before here =
    let x = with_cuts n book in
    let y = with_cuts (suc n) book in
    let is_x = earlier_book n book is in
    let front = one_more book n in
    let cuts = cuts_below book.firsts (lengths_of book) book.cuts n is.cuts in
    record {
      entries = grows;
      judged = omega (arith, before.judged, here.judged, longer (judged x) (judged y) (judged_front x y is_x front));
      unique = omega (arith, before.unique, here.unique, longer (uniques x) (uniques y) (uniques_front x y is_x front));
      texts = omega (arith, before.texts, here.texts, longer_texts (judged_offers x) (judged_offers y) (judged_offers_front x y is_x front));
      cut = subst (λ (l : List ℕ). IsBelow l new.cut) (sym before.cut) (subst (λ (l : List ℕ). IsBelow (judged_cut x) l) (sym here.cut) cuts);
      live = names;
    }

rise_of : (book : Book) (buckets n : ℕ) (old : Commit) (commits : List Commit) (d : Commit) → IsBook book → IsCommitOf (with_cuts n book) old
    → ((i : ℕ) → i < length commits → IsCommitOf (with_cuts (n + i + 1) book) (get_or commits i d)) → AllByRecursion (IsCommit buckets) commits → GrowFrom old.entries commits
    → NameFrom old.live commits → RiseFrom buckets old commits
rise_of book buckets n old [] d is before each form grow name = tt
rise_of book buckets n old (commit ∷ commits) d is before each form grow name =
    let first : n + 0 + 1 ≡ suc n = omega arith in
    let here : IsCommitOf (with_cuts (suc n) book) commit = subst (λ (k : ℕ). IsCommitOf (with_cuts k book) commit) first (each 0 (omega arith)) in (
      form.0,
      above_one book n old commit is grow.0 name.0 before here,
      rise_of book buckets (suc n) commit commits d is here
          (λ i within. let next : n + suc i + 1 ≡ suc n + i + 1 = omega arith in
          subst (λ (k : ℕ). IsCommitOf (with_cuts k book) (get_or commits i d)) next (each (suc i) (omega (arith, within)))) form.1 grow.1 name.1,
    )

pub stands_rise : (base : ℕ) (settings : Settings) (book : Book) (files : Files) (stands : Stands base settings book files) → RiseFrom settings.buckets (first_commit settings.buckets) stands.commits
stands_rise base settings book files stands =
    let is = stands.book_is in
    let blank : IsBookOf settings (with_cuts 0 book) = record { is_book = earlier_book 0 book is.is_book; buckets = is.buckets; rule = is.rule; dropped = is.dropped } in
    subst (λ (k : ℕ). RiseFrom k (first_commit k) stands.commits) is.buckets
    (rise_of book book.buckets 0 (first_commit book.buckets) stands.commits (first_commit book.buckets) is.is_book (first_of settings (with_cuts 0 book) blank refl)
    (λ i within. let same : i + 1 ≡ 0 + i + 1 = omega arith in subst (λ (k : ℕ). IsCommitOf (with_cuts k book) (get_or stands.commits i (first_commit book.buckets))) same
    (stands.commits_are.each i within))
    stands.commits_are.form stands.commits_are.grow stands.commits_are.name)

-- each commit's cut is below the last one's
below_last : (buckets : ℕ) (old : Commit) (commits : List Commit) → RiseFrom buckets old commits → IsBelow old.cut (last_commit old commits).cut
below_last buckets old [] rise = below_self old.cut
below_last buckets old (commit ∷ commits) rise = below_both old.cut commit.cut (last_commit commit commits).cut rise.1.cut (below_last buckets commit commits rise.2)

among_below : (buckets : ℕ) (old : Commit) (before : List Commit) (commit : Commit) (more : List Commit) → RiseFrom buckets old (before ++ commit ∷ more)
    → IsBelow commit.cut (last_commit old (before ++ commit ∷ more)).cut
among_below buckets old [] commit more rise = below_last buckets commit more rise.2
among_below buckets old (x ∷ before) commit more rise = among_below buckets x before commit more rise.2

-- ---- the parts
-- a bucket's runs are its list's
record HasRunsOf (base side : ℕ) (settings : Settings) (b : ℕ) (list : List Tuple) (files : Files) : Type 0 where
  runs : List (List Entry)
  has : HasRuns base side settings b files runs
  count : length (entries_in runs) ≡ length list
  texts : text_length (entries_in runs) ≤ length (files (file_of base 0 (Aux side b)))

-- the last of a book's commits, as the settings count the buckets
last_same : (settings : Settings) (book : Book) (commits : List Commit) → IsBookOf settings book → last_commit (first_commit book.buckets) commits ≡ last_commit (first_commit settings.buckets) commits
last_same settings book commits is = ap (λ (k : ℕ). last_commit (first_commit k) commits) is.buckets

stands_runs : (base : ℕ) (settings : Settings) (book : Book) (files : Files) (last : Commit) (b : ℕ) → IsBookOf settings book → HasBucketOf base settings.array last b (live_offers book last b) files
    → HasRunsOf base (live_side last) settings b (live_offers book last b) files
stands_runs base settings book files last b is has =
    let side : ℕ = live_side last in
    let list = live_offers book last b in
    let here : AllByRecursion (IsOfferOf settings.buckets b) list = live_here settings book last b is in
    let each = runs_of settings b has.runs has.are.sizes (subst (AllByRecursion IsOffer) has.are.joined has.are.offers) (subst (AllByRecursion (IsOfferOf settings.buckets b)) has.are.joined here) in
    let all = entries_in-runs has.runs ∙ ap (map entry_of_offer) (sym has.are.joined) in
    record {
      runs = entry_runs has.runs;
      has = record { each = each; records = subst (StandsFor (files (file_of base 0 (Journal side b)))) (runs_entries has.runs) has.records };
      count = ap (λ (l : List Entry). length l) all ∙ length-map list entry_of_offer;
      texts = omega (arith, ap text_length all, text_length-offers list, begins_long (files (file_of base 0 (Aux side b))) (texts_of list) has.texts);
    }

stands_fronts : (base : ℕ) (settings : Settings) (book : Book) (files : Files) (stands : Stands base settings book files)
    → HasFronts base (last_commit (first_commit book.buckets) stands.commits) files
stands_fronts base settings book files stands =
    let commit = last_of_book settings book stands.commits stands.book_is stands.commits_are in
    let keys = entries (after book.rule book.base (judged_offers book)) in
    record {
      cache = omega (
        arith,
        stands.cache.count,
        length-pairs keys,
        begins_long (files (file_of base 0 (Cache (last_commit (first_commit book.buckets) stands.commits).side))) (pairs_bytes keys)
            stands.cache.bytes,
      );
      judged = omega (arith, commit.judged, length-judged 0 (judged book), begins_long (files (file_of base 0 Judged)) (judged_entries 0 (judged book)) stands.judged_are);
      texts = omega (arith, commit.texts, begins_long (files (file_of base 0 Texts)) (texts_of (judged_offers book)) stands.texts);
    }

no_front : (base : ℕ) (last : Commit) (files : Files) (f at : ℕ) → HasFronts base last files → IsDamagedFront base last files f at → ⊥
no_front base last files f at has (inl (is, short)) = omega (arith, has.cache, short.short, ap (λ (g : ℕ). length (files g)) is)
no_front base last files f at has (inr (inl (cache, is, short))) = omega (arith, has.judged, short.short, ap (λ (g : ℕ). length (files g)) is)
no_front base last files f at has (inr (inr (cache, judged_, is, short))) = omega (arith, has.texts, short.short, ap (λ (g : ℕ). length (files g)) is)

-- ---- what is whole is damaged nowhere
no_bucket_damage : (base side : ℕ) (settings : Settings) (files : Files) (b f at : ℕ) → IsWholeBucket base side settings files b → IsDamagedBucket base side settings b files f at → ⊥
no_bucket_damage base side settings files b f at whole (inl (is, damaged)) =
    good_journal (AreRunPayloads settings b) (files (file_of base 0 (Journal side b))) (map entries_bytes whole.0) at whole.1.records
    (λ n. (take n whole.0, runs_take (IsEntryRun settings b) n whole.0 whole.1.each, take-map entries_bytes n whole.0))
    (subst (λ (g : ℕ). IsDamagedJournal (AreRunPayloads settings b) (files g) at) is damaged)
no_bucket_damage base side settings files b f at whole (inr (is, (runs, has, short))) =
    let same : runs ≡ whole.0 = same_runs settings b runs whole.0 has.each whole.1.each
    (one_list (files (file_of base 0 (Journal side b))) (map entries_bytes runs) (map entries_bytes whole.0) has.records whole.1.records) in
    omega (arith, whole.2, short.short, ap (λ (g : ℕ). length (files g)) is, ap (λ (rs : List (List Entry)). text_length (entries_in rs)) same)

-- a cut that is below another counts no more
sum_below : (xs ys : List ℕ) → IsBelow xs ys → sum xs ≤ sum ys
sum_below [] [] below = omega arith
sum_below [] (y ∷ ys) below = absurd below
sum_below (x ∷ xs) [] below = absurd below
sum_below (x ∷ xs) (y ∷ ys) below = omega (arith, below.0, sum_below xs ys below.1, sum_by-cons (λ (n : ℕ). n) x xs, sum_by-cons (λ (n : ℕ). n) y ys)

reached_too : (base : ℕ) (settings : Settings) (files : Files) (last commit other : Commit) → IsReached base settings files last other → IsBelow commit.cut other.cut
    → IsReached base settings files last commit
reached_too base settings files last commit other reached below = record {
  lists = λ b within.
      let has = reached.lists b within in
      let under = each_below commit.cut other.cut below b in
      (has.0, has.1, omega (arith, under, has.2));
  judged = omega (arith, sum_below commit.cut other.cut below, reached.judged);
}

-- the parts of a bay that are as the layout asks, behind the last of its commits
pub record IsSane (base : ℕ) (settings : Settings) (files : Files) (commits : List Commit) (last : Commit) : Type 0 where
  pub manifest : HasManifest base settings.buckets files commits
  pub last_is : last_commit (first_commit settings.buckets) commits ≡ last
  pub fronts : HasFronts base last files
  pub buckets : (b : ℕ) → b < settings.buckets → IsWholeBucket base (live_side last) settings files b
  pub reached : IsReached base settings files last last

not_behind : (base : ℕ) (settings : Settings) (files : Files) (commits : List Commit) (last : Commit) (f at : ℕ) → IsSane base settings files commits last
    → IsDamagedBehind base settings files commits last f at → ⊥
not_behind base settings files commits last f at sane (inl front) = no_front base last files f at sane.fronts front
not_behind base settings files commits last f at sane (inr (fronts, inl (b, within, wholes, damaged))) = no_bucket_damage base (live_side last) settings files b f at (sane.buckets b within) damaged
not_behind base settings files commits last f at sane (inr (fronts, inr (wholes, is, cut))) =
    let below = among_below settings.buckets (first_commit settings.buckets) cut.before cut.commit cut.more
    (subst (RiseFrom settings.buckets (first_commit settings.buckets)) cut.among sane.manifest.rise) in
    let end : last_commit (first_commit settings.buckets) (cut.before ++ cut.commit ∷ cut.more) ≡ last = ap (λ (l : List Commit). last_commit (first_commit settings.buckets) l) (sym cut.among)
    ∙ sane.last_is in
    let reached = reached_too base settings files last cut.commit last sane.reached (subst (λ (x : Commit). IsBelow cut.commit.cut x.cut) end below) in
    cut.above (subst (λ (x : Commit). IsReached base settings files x cut.commit) (sym sane.last_is) reached)

pub undamaged : (base : ℕ) (settings : Settings) (files : Files) (commits : List Commit) (last : Commit) (f at : ℕ) → IsSane base settings files commits last → IsDamagedAt base settings files f at → ⊥
undamaged base settings files commits last f at sane (inl (is, damaged)) =
    good_journal (AreCommitPayloads settings.buckets) (files (file_of base 0 Manifest)) (map commit_bytes commits) at sane.manifest.records
    (λ n. (take n commits, rise_take settings.buckets n (first_commit settings.buckets) commits sane.manifest.rise, take-map commit_bytes n commits))
    (subst (λ (g : ℕ). IsDamagedJournal (AreCommitPayloads settings.buckets) (files g) at) is damaged)
undamaged base settings files commits last f at sane (inr (others, has, behind)) =
    let same : others ≡ commits = same_commits settings.buckets others commits (rise_each settings.buckets (first_commit settings.buckets) others has.rise)
    (rise_each settings.buckets (first_commit settings.buckets) commits sane.manifest.rise)
    (one_list (files (file_of base 0 Manifest)) (map commit_bytes others) (map commit_bytes commits) has.records sane.manifest.records) in
    let end : last_commit (first_commit settings.buckets) others ≡ last = ap (λ (l : List Commit). last_commit (first_commit settings.buckets) l) same ∙ sane.last_is in
    not_behind base settings files commits last f at sane (subst (λ (l : List Commit). IsDamagedBehind base settings files l last f at) same
    (subst (λ (x : Commit). IsDamagedBehind base settings files others x f at) end behind))

-- ---- files that stand for a book are
stands_sane : (base : ℕ) (settings : Settings) (book : Book) (files : Files) (last : Commit) (stands : Stands base settings book files) → last_commit (first_commit book.buckets) stands.commits ≡ last
    → IsSane base settings files stands.commits last
stands_sane base settings book files last stands here =
    let is = stands.book_is in
    let commit : IsCommitOf book last = subst (λ (x : Commit). IsCommitOf book x) here (last_of_book settings book stands.commits is stands.commits_are) in
    let form : IsCommit settings.buckets last = subst (λ (k : ℕ). IsCommit k last) is.buckets
    (subst (λ (x : Commit). IsCommit book.buckets x) here (last_is book.buckets (first_commit book.buckets) stands.commits (first_is book.buckets) stands.commits_are.form)) in
    let ends : IsLastOf settings book last = record { book_is = is; commit = commit; form = form } in
    let runs = λ (b : ℕ) (within : b < settings.buckets). stands_runs base settings book files last b is
    (subst (λ (x : Commit). HasBucketOf base settings.array x b (live_offers book x b) files) here (stands.buckets b (omega (arith, within, is.buckets)))) in
    record {
      manifest = record { rise = stands_rise base settings book files stands; records = stands.manifest };
      last_is = sym (last_same settings book stands.commits is) ∙ here;
      fronts = subst (λ (x : Commit). HasFronts base x files) here (stands_fronts base settings book files stands);
      buckets = λ b within. let so = runs b within in (so.runs, so.has, so.texts);
      reached = record {
        lists = λ b within.
            let so = runs b within in
            let cut = cut_in settings book last b ends within in
            (so.runs, so.has, omega (arith, cut.within, cut.live, so.count));
        judged = omega (arith, cut_sum settings book last is commit);
      };
    }

pub stands_whole : (base : ℕ) (settings : Settings) (book : Book) (files : Files) (f at : ℕ) → Stands base settings book files → IsDamagedAt base settings files f at → ⊥
stands_whole base settings book files f at stands =
    let last = last_commit (first_commit book.buckets) stands.commits in
    undamaged base settings files stands.commits last f at (stands_sane base settings book files last stands refl)

-- a refusal that names such damage names none over files that stand for a book
pub refused_by : (result : Result Drum Fault) (base : ℕ) (settings : Settings) (files : Option Files) → ((n : ℕ) → IsErrOf result (Full n) → ⊥)
    → ((f at : ℕ) → IsErrOf result (Damaged f at) → ForSome files (λ told. IsDamagedAt base settings told f at)) → AdoptRefused result base settings files
refused_by result base settings files full damaged = record {
  damaged = damaged;
  whole = λ f at is told tells book stands. stands_whole base settings book told f at stands (damaged f at is told tells);
  full = full;
}
