-- Calls that change no file of the bay of pairs leave the records of its journals.
use Rattle.std.proofs.Common.{◌≡◌, ℕ, ◌<◌, ◌≤◌, List, [], ◌∷◌, map, refl, sym, subst, arith}
use Rattle.std.specs.List.{AllByRecursion}
use Rattle.irl_disk.specs.Disk.{Files, ChangesOnly}
use Rattle.irl_disk.specs.Images.{Told, IsConsistent, LeavesBy}
use Rattle.irl_disk.proofs.Stretches.{goes_on, left_now}
use Rattle.irl_journal.specs.Appending.{Ends}
use Rattle.irl_journal.specs.Format.{HasRecords, StandsFor}
use Rattle.irl_layout.specs.BayFiles.{IsFileOf}
use Rattle.irl_layout.specs.Commits.{Commit, HasLiveRecords, IsCommit, commit_bytes, first_commit, last_commit, live_side}
use Rattle.irl_layout.specs.declared.files.BayFile.TheVariants.{Journal, Manifest}
use Rattle.irl_bay.specs.Drum.{Drum, IsDrum, bucket_at}
use Rattle.irl_bay.proofs.Apart.{files_within}
use Rattle.irl_bay.proofs.DrumFiles.{live_low}
use Rattle.irl_schedule.specs.Schedule.{HaveRecords, LeavesUneven, one_more}
use Rattle.irl_head.specs.StoreFiles.{crawl_file, pairs_base}
use Rattle.irl_ledger.specs.declared.ledger.Ledger.{Ledger}
use Rattle.irl_yard.specs.declared.parts.Parts.{Parts}
use Rattle.irl_yard.specs.declared.parts.Rest.TheVariants.{Crawl}
use Rattle.irl_yard.specs.Holding.{HasLedger, IsOpenRest}
use Rattle.irl_yard.specs.Sending.{AddsPairRecords}
use Rattle.irl_yard.proofs.Adding.{is_open}
use Rattle.irl_yard.proofs.RestFiles.{few}

-- ---- a bay, where files beside it change
-- the side that the last of some commits leaves live
low_side : (buckets : ℕ) (first : Commit) (commits : List Commit) → live_side first ≤ 1 → AllByRecursion (IsCommit buckets) commits → live_side (last_commit first commits) ≤ 1
low_side buckets first [] low forms = low
low_side buckets first (commit ∷ commits) low forms = low_side buckets commit commits (live_low commit.live forms.0.live) forms.1

-- none of these files is the bay's
abbrev pub AreBeside : (ℕ → Type 0) → Drum → Type 0
AreBeside among drum = (f : ℕ) → IsFileOf drum.base drum.settings.buckets f → among f → ⊥

module _ (among : ℕ → Type 0) (drum : Drum) (out : AreBeside among drum) where
  -- the live journals keep their records,
  pub records_beside : (old new : Told) (records : ℕ → List (List ℕ)) → IsDrum drum → IsConsistent new → LeavesBy (ChangesOnly among) old new → HaveRecords old.images drum records
      → HaveRecords new.images drum records
  records_beside old new records law consistent stops have = λ b within image left.
      let was = left_now old new _ consistent stops image left in
      let is : IsFileOf drum.base drum.settings.buckets (bucket_at drum b).journal.file =
      (Journal (live_side drum.last) b, (live_low drum.last.live law.last.live, within), (law.buckets b within).journal) in
      subst (λ (file : List ℕ). Ends (bucket_at drum b).journal.end file (records b)) (sym (was.2 _ (out _ is))) (have b within was.0 was.1)

  -- and so does a joint image
  live_beside : (b : ℕ) (payloads : List (List ℕ)) (old new : Files) → b < drum.settings.buckets → ChangesOnly among old new → HasLiveRecords drum.base drum.settings.buckets b payloads old
      → HasLiveRecords drum.base drum.settings.buckets b payloads new
  live_beside b payloads old new within changes live =
      let low = low_side drum.settings.buckets (first_commit drum.settings.buckets) live.commits (omega arith) live.form in
      record {
        commits = live.commits;
        form = live.form;
        manifest = subst (λ (file : List ℕ). StandsFor file (map commit_bytes live.commits)) (sym (changes _ (out _ (Manifest, tt, refl)))) live.manifest;
        records = subst (λ (file : List ℕ). HasRecords file payloads) (sym (changes _
            (out _ (Journal (live_side (last_commit (first_commit drum.settings.buckets) live.commits)) b, (low, within), refl)))) live.records;
      }

  pub uneven_beside : (more : ℕ → ℕ) (records : ℕ → List (List ℕ)) (old new : Files) → ChangesOnly among old new → LeavesUneven more drum records old → LeavesUneven more drum records new
  uneven_beside more records old new changes left = (left.0, λ b within. live_beside b (left.0 b) old new within changes (left.1 b within), left.2)

-- ---- the pairs, where the log alone changes
abbrev IsLog : ℕ → Type 0
IsLog f = f ≡ crawl_file

log_beside : (pairs : Drum) → IsDrum pairs → pairs.base ≡ pairs_base → AreBeside IsLog pairs
log_beside pairs law base f is log = omega (arith, base, log, (files_within pairs.base pairs.settings.buckets f (few pairs.settings law.settings) is).0)

-- a call that adds records, and calls behind it that leave the bay
pub records_then : (first failed : Type 0) (was mid now : Parts) (s t u : Told) → (first → ⊥) → IsConsistent t → IsConsistent u → IsOpenRest was.urls was.rest s.files
    → IsOpenRest mid.urls mid.rest t.files → HasLedger mid.rest → LeavesBy (ChangesOnly IsLog) t u
    → ((old new : Ledger) → mid.rest ≡ Crawl old → now.rest ≡ Crawl new → new.pairs ≡ old.pairs) → AddsPairRecords first was mid s t → AddsPairRecords failed was now s u
records_then first failed was mid now s t u not law law_u was_open mid_open between leaves same adds = record {
  records = λ _ old new was_is now_is records have.
      let x = between.0 in
      let gives = adds.records not old x was_is between.1 records have in
      let opened = (is_open mid.urls mid.rest x t.files between.1 mid_open).1 in
      let still = records_beside IsLog x.pairs (log_beside x.pairs opened.drum opened.base) t u gives.0 opened.drum law_u leaves gives.1 in
      (gives.0, subst (λ (d : Drum). HaveRecords u.images d gives.0) (sym (same x new between.1 now_is)) still, gives.2);
  stops = λ old was_is records have.
      let opened = (is_open was.urls was.rest old s.files was_is was_open).1 in
      goes_on s t u (LeavesUneven one_more old.pairs records) (ChangesOnly IsLog) law (adds.stops old was_is records have) leaves
      (λ image next left changes. uneven_beside IsLog old.pairs (log_beside old.pairs opened.drum opened.base) one_more records image next changes left);
}
