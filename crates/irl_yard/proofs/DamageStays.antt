-- What a bay's files show of damage stays where these files do.
use Rattle.std.proofs.Common.{inl, inr, ℕ, ◌<◌, ◌≤◌, List, [], ◌∷◌, length, map, refl, sym, subst, arith}
use Rattle.std.specs.List.{AllByRecursion}
use Rattle.irl_offer.specs.declared.entry.Entry.{Entry}
use Rattle.irl_offer.specs.declared.settings.Settings.{Settings}
use Rattle.irl_disk.specs.Disk.{Files}
use Rattle.irl_journal.specs.Format.{StandsFor}
use Rattle.irl_layout.specs.BayFiles.{file_of, IsFileOf}
use Rattle.irl_layout.specs.Commits.{Commit, IsCommit, commit_bytes, first_commit, last_commit, live_side}
use Rattle.irl_layout.specs.EntryRuns.{AreRunPayloads, entries_bytes}
use Rattle.irl_layout.specs.declared.files.BayFile.TheVariants.{Manifest, Cache, Judged, Texts, Journal, Aux}
use Rattle.irl_bay.specs.Damage.{AreCommitPayloads, HasFronts, HasRuns, IsCutAbove, IsDamagedAt, IsDamagedBehind, IsDamagedBucket, IsDamagedFront, IsDamagedJournal, IsReached, IsShort, IsWholeBucket}
use Rattle.irl_bay.proofs.Adopted.{first_is, last_is}
use Rattle.irl_bay.proofs.Apart.{HasSameFiles}
use Rattle.irl_bay.proofs.DrumFiles.{live_low}
use Rattle.irl_bay.proofs.Reached.{rise_each}

module _ (base : ℕ) (settings : Settings) (old new : Files) (same : HasSameFiles base settings.buckets old new) where
  -- ---- one file
  short_stays : (n f at : ℕ) → IsFileOf base settings.buckets f → IsShort n (old f) at → IsShort n (new f) at
  short_stays n f at is short = subst (λ (file : List ℕ). IsShort n file at) (sym (same f is)) short

  long_stays : (n f : ℕ) → IsFileOf base settings.buckets f → n ≤ length (old f) → n ≤ length (new f)
  long_stays n f is long = subst (λ (file : List ℕ). n ≤ length file) (sym (same f is)) long

  damaged_stays : (AreGood : List (List ℕ) → Type 0) (f at : ℕ) → IsFileOf base settings.buckets f → IsDamagedJournal AreGood (old f) at → IsDamagedJournal AreGood (new f) at
  damaged_stays AreGood f at is damaged = subst (λ (file : List ℕ). IsDamagedJournal AreGood file at) (sym (same f is)) damaged

  -- ---- what the last commit names
  front_stays : (last : Commit) (f at : ℕ) → last.side ≤ 1 → IsDamagedFront base last old f at → IsDamagedFront base last new f at
  front_stays last f at low (inl (e, short)) = inl (e, short_stays _ f at (Cache last.side, low, e) short)
  front_stays last f at low (inr (inl (cache, e, short))) =
      inr (inl (long_stays _ (file_of base 0 (Cache last.side)) (Cache last.side, low, refl) cache, e, short_stays _ f at (Judged, tt, e) short))
  front_stays last f at low (inr (inr (cache, judged, e, short))) = inr (inr (
    long_stays _ (file_of base 0 (Cache last.side)) (Cache last.side, low, refl) cache,
    long_stays _ (file_of base 0 Judged) (Judged, tt, refl) judged,
    e,
    short_stays _ f at (Texts, tt, e) short,
  ))

  fronts_stay : (last : Commit) → last.side ≤ 1 → HasFronts base last old → HasFronts base last new
  fronts_stay last low has = record {
    cache = long_stays _ (file_of base 0 (Cache last.side)) (Cache last.side, low, refl) has.cache;
    judged = long_stays _ (file_of base 0 Judged) (Judged, tt, refl) has.judged;
    texts = long_stays _ (file_of base 0 Texts) (Texts, tt, refl) has.texts;
  }

  -- ---- a bucket
  runs_stay : (side b : ℕ) (runs : List (List Entry)) → side ≤ 1 → b < settings.buckets → HasRuns base side settings b old runs → HasRuns base side settings b new runs
  runs_stay side b runs low within has = record {
    each = has.each;
    records = subst (λ (file : List ℕ). StandsFor file (map entries_bytes runs)) (sym (same (file_of base 0 (Journal side b)) (Journal side b, (low, within), refl))) has.records;
  }

  whole_stays : (side b : ℕ) → side ≤ 1 → b < settings.buckets → IsWholeBucket base side settings old b → IsWholeBucket base side settings new b
  whole_stays side b low within (runs, has, texts) =
      (runs, runs_stay side b runs low within has, long_stays _ (file_of base 0 (Aux side b)) (Aux side b, (low, within), refl) texts)

  bucket_stays : (side b f at : ℕ) → side ≤ 1 → b < settings.buckets → IsDamagedBucket base side settings b old f at → IsDamagedBucket base side settings b new f at
  bucket_stays side b f at low within (inl (e, damaged)) = inl (e, damaged_stays (AreRunPayloads settings b) f at (Journal side b, (low, within), e) damaged)
  bucket_stays side b f at low within (inr (e, (runs, has, short))) = inr (e, (runs, runs_stay side b runs low within has, short_stays _ f at (Aux side b, (low, within), e) short))

  -- ---- a commit against the lists
  reached_stays : (last commit : Commit) → live_side last ≤ 1 → IsReached base settings old last commit → IsReached base settings new last commit
  reached_stays last commit low is = record {
    lists = λ b within. let found = is.lists b within in (found.0, runs_stay (live_side last) b found.0 low within found.1, found.2);
    judged = is.judged;
  }

  each_reached : (last : Commit) (commits : List Commit) → live_side last ≤ 1 → AllByRecursion (IsReached base settings old last) commits → AllByRecursion (IsReached base settings new last) commits
  each_reached last [] low each = tt
  each_reached last (commit ∷ commits) low each = (reached_stays last commit low each.0, each_reached last commits low each.1)

-- ---- the bay
module _ (base : ℕ) (settings : Settings) (old new : Files) (same : HasSameFiles base settings.buckets old new) where
  cut_stays : (commits : List Commit) (at : ℕ) → live_side (last_commit (first_commit settings.buckets) commits) ≤ 1 → IsCutAbove base settings old commits at → IsCutAbove base settings new commits at
  cut_stays commits at low cut = record {
    before = cut.before;
    commit = cut.commit;
    more = cut.more;
    among = cut.among;
    place = cut.place;
    reached = each_reached base settings old new same (last_commit (first_commit settings.buckets) commits) cut.before low cut.reached;
    above = λ is. cut.above (reached_stays base settings new old (λ f file. sym (same f file)) (last_commit (first_commit settings.buckets) commits) cut.commit low is);
  }

  behind_stays : (commits : List Commit) (f at : ℕ) → IsCommit settings.buckets (last_commit (first_commit settings.buckets) commits)
      → IsDamagedBehind base settings old commits (last_commit (first_commit settings.buckets) commits) f at
      → IsDamagedBehind base settings new commits (last_commit (first_commit settings.buckets) commits) f at
  behind_stays commits f at form (inl front) = inl (front_stays base settings old new same (last_commit (first_commit settings.buckets) commits) f at form.side front)
  behind_stays commits f at form (inr (fronts, inl (b, within, wholes, damaged))) =
      let last = last_commit (first_commit settings.buckets) commits in
      let low = live_low last.live form.live in
      inr (
        fronts_stay base settings old new same last form.side fronts,
        inl (
          b,
          within,
          λ c before. whole_stays base settings old new same (live_side last) c low (omega (arith, before, within)) (wholes c before),
          bucket_stays base settings old new same (live_side last) b f at low within damaged,
        ),
      )
  behind_stays commits f at form (inr (fronts, inr (wholes, e, cut))) =
      let last = last_commit (first_commit settings.buckets) commits in
      let low = live_low last.live form.live in
      inr (
        fronts_stay base settings old new same last form.side fronts,
        inr (λ c within. whole_stays base settings old new same (live_side last) c low within (wholes c within), e, cut_stays commits at low cut),
      )

  pub damage_stays : (f at : ℕ) → IsDamagedAt base settings old f at → IsDamagedAt base settings new f at
  damage_stays f at (inl (e, damaged)) = inl (e, damaged_stays base settings old new same (AreCommitPayloads settings.buckets) f at (Manifest, tt, e) damaged)
  damage_stays f at (inr (commits, has, behind)) = inr (
    commits,
    record {
      rise = has.rise;
      records = subst (λ (file : List ℕ). StandsFor file (map commit_bytes commits)) (sym (same (file_of base 0 Manifest) (Manifest, tt, refl))) has.records;
    },
    behind_stays commits f at
        (last_is settings.buckets (first_commit settings.buckets) commits (first_is settings.buckets) (rise_each settings.buckets (first_commit settings.buckets) commits has.rise)) behind,
  )
