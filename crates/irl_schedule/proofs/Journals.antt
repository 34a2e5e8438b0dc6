-- The live journals of an open bay's buckets keep their records where a call changes other files alone.
use Rattle.std.proofs.Common.{◌≡◌, ◌≢◌, ◌∙◌, ◌⊎◌, inl, inr, ⊎_elim, ℕ, ◌<◌, List, ◌++◌, map, sym, ap, subst, arith}
use Rattle.std.specs.List.{AllByRecursion}
use Rattle.irl_model.specs.Book.{Book}
use Rattle.irl_disk.specs.Disk.{Files, ChangesOnly}
use Rattle.irl_disk.specs.Images.{Told, IsConsistent, Follows, Leaves, LeavesBy}
use Rattle.irl_disk.proofs.Stretches.{widens, left_now}
use Rattle.irl_journal.specs.Appending.{Ends}
use Rattle.irl_journal.specs.Format.{HasRecords, StandsFor}
use Rattle.irl_journal.proofs.Lists.{one_list}
use Rattle.irl_layout.specs.BayFiles.{file_of, IsBucketFile}
use Rattle.irl_layout.specs.Commits.{Commit, IsCommit, HasCommits, HasLiveRecords, commit_bytes, first_commit, last_commit, live_side}
use Rattle.irl_layout.specs.declared.files.BayFile.TheVariants.{Manifest, Journal}
use Rattle.irl_layout.specs.Runs.{run_bytes}
use Rattle.irl_bay.specs.Drum.{Drum, IsDrum, bucket_at}
use Rattle.irl_bay.specs.Holding.{Holds}
use Rattle.irl_schedule.specs.Schedule.{HasJournal}

-- ---- the files
-- those of two buckets differ
pub buckets_apart : (base side b c f : ℕ) → b ≢ c → IsBucketFile base side b f → IsBucketFile base side c f → ⊥
buckets_apart base side b c f other (inl x) (inl y) = other (omega (arith, x, y))
buckets_apart base side b c f other (inl x) (inr y) = omega (arith, x, y)
buckets_apart base side b c f other (inr x) (inl y) = omega (arith, x, y)
buckets_apart base side b c f other (inr x) (inr y) = other (omega (arith, x, y))

-- the manifest isn't among a bucket's files
pub manifest_apart : (base side b : ℕ) → IsBucketFile base side b (file_of base 0 Manifest) → ⊥
manifest_apart base side b (inl e) = omega (arith, e)
manifest_apart base side b (inr e) = omega (arith, e)

-- ---- the records of a joint image
-- those of its live journal, where its manifest has the commits of the bay that is held
module _ (images : Files → Type 0) (drum : Drum) (book : Book) (law : IsDrum drum) (holds : Holds images drum book) where
  commits_in : (image : Files) → images image → HasCommits drum.base holds.commits image
  commits_in image left = subst (λ (f : ℕ). StandsFor (image f) (map commit_bytes holds.commits)) law.manifest (inr (holds.manifest image left).records)

  last_live : live_side drum.last ≡ live_side (last_commit (first_commit drum.settings.buckets) holds.commits)
  last_live = ap live_side holds.last ∙ ap (λ (n : ℕ). live_side (last_commit (first_commit n) holds.commits)) holds.book_is.buckets

  live_in : (b : ℕ) (payloads : List (List ℕ)) (image : Files) → HasCommits drum.base holds.commits image → HasRecords (image (file_of drum.base 0 (Journal (live_side drum.last) b))) payloads
      → HasLiveRecords drum.base drum.settings.buckets b payloads image
  live_in b payloads image manifest records = record {
    commits = holds.commits;
    form = subst (λ (n : ℕ). AllByRecursion (IsCommit n) holds.commits) holds.book_is.buckets holds.commits_are.form;
    manifest = manifest;
    records = subst (λ (side : ℕ). HasRecords (image (file_of drum.base 0 (Journal side b))) payloads) last_live records;
  }

  -- what a stop now may leave
  pub left_records : (b : ℕ) (payloads : List (List ℕ)) (image : Files) → b < drum.settings.buckets → HasJournal images drum b payloads → images image
      → HasLiveRecords drum.base drum.settings.buckets b payloads image
  left_records b payloads image within has left =
      live_in b payloads image (commits_in image left) (subst (λ (f : ℕ). HasRecords (image f) payloads) (law.buckets b within).journal (has image left).records)

  -- what one leaves in a call that doesn't change the manifest
  pub moved_records : (among : ℕ → Type 0) (b : ℕ) (payloads : List (List ℕ)) (image : Files) → (among (file_of drum.base 0 Manifest) → ⊥) → Follows (ChangesOnly among) images image
      → HasRecords (image (file_of drum.base 0 (Journal (live_side drum.last) b))) payloads → HasLiveRecords drum.base drum.settings.buckets b payloads image
  moved_records among b payloads image out from records =
      live_in b payloads image (subst (λ (file : List ℕ). StandsFor file (map commit_bytes holds.commits)) (sym (from.2 _ out)) (commits_in from.0 from.1)) records

-- ---- the records of a journal that a call doesn't change
-- a bucket's live journal isn't among these files
abbrev pub IsApart : (ℕ → Type 0) → Drum → ℕ → Type 0
IsApart among drum b = among (file_of drum.base 0 (Journal (live_side drum.last) b)) → ⊥

-- a joint image that follows has them
records_follow : (among : ℕ → Type 0) (images : Files → Type 0) (drum : Drum) (b : ℕ) (payloads : List (List ℕ)) (image : Files) → IsDrum drum → b < drum.settings.buckets → IsApart among drum b
    → HasJournal images drum b payloads → Follows (ChangesOnly among) images image → HasRecords (image (file_of drum.base 0 (Journal (live_side drum.last) b))) payloads
records_follow among images drum b payloads image law within out has from =
    subst (λ (file : List ℕ). HasRecords file payloads) (sym (from.2 _ out))
    (subst (λ (f : ℕ). HasRecords (from.0 f) payloads) (law.buckets b within).journal (has from.0 from.1).records)

-- so a stop in a call that changes other files leaves them
pub records_stay : (among : ℕ → Type 0) (old new : Told) (drum : Drum) (book : Book) (b : ℕ) (payloads : List (List ℕ)) → IsDrum drum → Holds old.images drum book → b < drum.settings.buckets
    → IsApart among drum b → (among (file_of drum.base 0 Manifest) → ⊥)
    → LeavesBy (ChangesOnly among) old new → HasJournal old.images drum b payloads → Leaves old new (HasLiveRecords drum.base drum.settings.buckets b payloads)
records_stay among old new drum book b payloads law holds within out manifest stops has =
    widens old new (Follows (ChangesOnly among) old.images) (HasLiveRecords drum.base drum.settings.buckets b payloads) stops
    (λ image from. moved_records old.images drum book law holds among b payloads image manifest from (records_follow among old.images drum b payloads image law within out has from))

-- two facts of what stops leave, together
pub leaves_pair : (old new : Told) (P Q : Files → Type 0) → Leaves old new P → Leaves old new Q → Leaves old new (λ image. P image × Q image)
leaves_pair old new P Q one two = record {
  later = one.later;
  each = λ image since. (one.each image since, two.each image since);
  before = λ t image early since. both (old.since t image) (P image) (Q image) (one.before t image early since) (two.before t image early since);
}
  where
    both : (A B C : Type 0) → A ⊎ B → A ⊎ C → A ⊎ (B × C)
    both A B C (inl a) y = inl a
    both A B C (inr b) (inl a) = inl a
    both A B C (inr b) (inr c) = inr (b, c)

-- in a flush the bucket's own journal has its records, or one more
pub gains_stay : (old new : Told) (drum : Drum) (book : Book) (b : ℕ) (payloads more : List (List ℕ)) → IsDrum drum → Holds old.images drum book
    → LeavesBy (ChangesOnly (IsBucketFile drum.base (live_side drum.last) b)) old new
    → Leaves old new (λ image. HasRecords (image (file_of drum.base 0 (Journal (live_side drum.last) b))) payloads ⊎ HasRecords (image (file_of drum.base 0 (Journal (live_side drum.last) b))) more)
    → Leaves old new (λ image. HasLiveRecords drum.base drum.settings.buckets b payloads image ⊎ HasLiveRecords drum.base drum.settings.buckets b more image)
gains_stay old new drum book b payloads more law holds stops gains =
    let among = IsBucketFile drum.base (live_side drum.last) b in
    let has = moved_records old.images drum book law holds among b in
    let out = manifest_apart drum.base (live_side drum.last) b in
    widens old new _ _ (leaves_pair old new _ _ stops gains) (λ image from. ⊎_elim (λ same. inl (has payloads image out from.0 same)) (λ grown. inr (has more image out from.0 grown)) from.1)

-- and where the bay holds a book afterwards, the journal of another bucket ends behind its records
pub journal_stays : (among : ℕ → Type 0) (old new : Told) (was now : Drum) (book : Book) (b : ℕ) (payloads : List (List ℕ)) → IsDrum was → IsDrum now → IsConsistent new → b < was.settings.buckets
    → IsApart among was b → LeavesBy (ChangesOnly among) old new → now.base ≡ was.base → now.settings ≡ was.settings → now.last ≡ was.last → Holds new.images now book
    → HasJournal old.images was b payloads → HasJournal new.images now b payloads
journal_stays among old new was now book b payloads law law_now consistent within out stops base settings last held has = λ image left.
    let from = left_now old new _ consistent stops image left in
    let inside : b < now.settings.buckets = subst (λ s. b < s.buckets) (sym settings) within in
    let bucket = held.buckets b (subst (λ (n : ℕ). b < n) (sym held.book_is.buckets) inside) in
    let ends = bucket.journal image left in
    let file : (bucket_at now b).journal.file ≡ file_of was.base 0 (Journal (live_side was.last) b) =
    (law_now.buckets b inside).journal ∙ ap (λ (n : ℕ). file_of n 0 (Journal (live_side now.last) b)) base ∙ ap (λ (commit : Commit). file_of was.base 0 (Journal (live_side commit) b)) last in
    let records : HasRecords (image (bucket_at now b).journal.file) payloads =
    subst (λ (f : ℕ). HasRecords (image f) payloads) (sym file) (records_follow among old.images was b payloads image law within out has from) in
    let same : map run_bytes (bucket.before ++ bucket.behind) ≡ payloads = one_list (image (bucket_at now b).journal.file) _ payloads (inr ends.records) (inr records) in
    subst (λ (l : List (List ℕ)). Ends (bucket_at now b).journal.end (image (bucket_at now b).journal.file) l) same ends
