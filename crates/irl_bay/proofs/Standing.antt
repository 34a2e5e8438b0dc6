-- What an open bay holds: each joint image that a stop now may leave stands for its book, and what a store tells is as long as what
-- is committed of it.
use Rattle.std.proofs.Common.{◌≡◌, ℕ, ◌<◌, ◌≤◌, List, ◌++◌, length, map, Some, inr, subst, arith}
use Rattle.irl_offer.specs.Tuple.{Tuple}
use Rattle.irl_model.specs.Judging.{after}
use Rattle.irl_model.specs.Book.{Book, judged_offers}
use Rattle.irl_disk.specs.Disk.{Files}
use Rattle.irl_disk.specs.Images.{Told, IsConsistent}
use Rattle.irl_journal.specs.Appending.{Tail, IsOpen}
use Rattle.irl_journal.specs.Blob.{Front, IsCommitted}
use Rattle.irl_journal.specs.Format.{StandsFor}
use Rattle.irl_journal.proofs.Fronts.{begins_long}
use Rattle.irl_journal.proofs.Gates.{within}
use Rattle.irl_bay.specs.declared.bucket.Bucket.{Bucket}
use Rattle.irl_layout.specs.declared.files.BayFile.TheVariants.{Aux}
use Rattle.irl_layout.specs.BayFiles.{file_of}
use Rattle.irl_layout.specs.Runs.{HasBucket}
use Rattle.irl_layout.specs.Commits.{Commit, commit_bytes, live_side, live_offers}
use Rattle.irl_bay.specs.Cache.{HasCache}
use Rattle.irl_bay.specs.Standing.{HasBucketOf, Stands}
use Rattle.irl_bay.specs.Drum.{Drum, IsDrum, bucket_at, cache_front, judged_front, texts_front}
use Rattle.irl_bay.specs.Holding.{Holds, HoldsBucket, IsLong}

-- ---- a stop now leaves files that stand for the book
-- a bucket's two files
pub bucket_stands : (images : Files → Type 0) (array cut : ℕ) (bucket : Bucket) (list : List Tuple) (image : Files) → HoldsBucket images array cut bucket list → images image
    → HasBucket array list (image bucket.journal.file) (image bucket.aux.file)
bucket_stands images array cut bucket list image holds left = record {
  runs = holds.before ++ holds.behind;
  are = holds.are;
  records = inr (holds.journal image left).records;
  texts = holds.aux.each image left;
}

-- and those of the whole bay
pub holds_stands : (images : Files → Type 0) (drum : Drum) (book : Book) (image : Files) → IsDrum drum → Holds images drum book → images image → Stands drum.base drum.settings book image
holds_stands images drum book image law holds left = record {
  book_is = holds.book_is;
  offers = holds.offers;
  buckets = λ b within.
      let is = law.buckets b (omega (arith, holds.book_is.buckets)) in
      let list = live_offers book drum.last b in
      subst (λ (last : Commit). HasBucketOf drum.base drum.settings.array last b (live_offers book last b) image) holds.last
      (subst (λ (f : ℕ). HasBucket drum.settings.array list (image f) (image (file_of drum.base 0 (Aux (live_side drum.last) b)))) is.journal
      (subst (λ (f : ℕ). HasBucket drum.settings.array list (image (bucket_at drum b).journal.file) (image f)) is.aux
      (bucket_stands images drum.settings.array _ (bucket_at drum b) list image (holds.buckets b within) left)));
  commits = holds.commits;
  commits_are = holds.commits_are;
  manifest = subst (λ (f : ℕ). StandsFor (image f) (map commit_bytes holds.commits)) law.manifest (inr (holds.manifest image left).records);
  cache = subst (λ (commit : Commit). HasCache drum.base commit (after book.rule book.base (judged_offers book)) image) holds.last
      (record { count = holds.keys; bytes = holds.cache.each image left });
  judged_are = holds.judged_are.each image left;
  texts = holds.texts.each image left;
}

-- ---- what is told is as long as what is committed
front_long : (now : Told) (blob : Front) (held : List ℕ) (files : Files) → IsConsistent now → IsCommitted now.images blob held → now.files ≡ Some files → blob.length ≤ length (files blob.file)
front_long now blob held files law committed told = omega (arith, committed.size, begins_long (files blob.file) held (committed.each files (law.told files told)))

tail_long : (now : Told) (tail : Tail) (payloads : List (List ℕ)) (files : Files) → IsConsistent now → IsOpen now.images tail payloads → now.files ≡ Some files → tail.end < length (files tail.file)
tail_long now tail payloads files law is_open told = omega (arith, within payloads (files tail.file) tail.end (is_open files (law.told files told)))

pub holds_long : (now : Told) (drum : Drum) (book : Book) (files : Files) → IsConsistent now → Holds now.images drum book → now.files ≡ Some files → IsLong drum files
holds_long now drum book files law holds told = record {
  manifest = tail_long now drum.manifest _ files law holds.manifest told;
  cache = front_long now (cache_front drum) _ files law holds.cache told;
  judged = front_long now (judged_front drum) _ files law holds.judged_are told;
  texts = front_long now (texts_front drum) _ files law holds.texts told;
  journals = λ b within. tail_long now (bucket_at drum b).journal _ files law (holds.buckets b (omega (arith, holds.book_is.buckets))).journal told;
  auxes = λ b within. front_long now (bucket_at drum b).aux _ files law (holds.buckets b (omega (arith, holds.book_is.buckets))).aux told;
}
