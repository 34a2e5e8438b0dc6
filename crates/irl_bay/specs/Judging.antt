-- A merge has judged the first buckets: what it has read, and what it has written of them.
use Rattle.std.specs.Prelude.{◌≡◌, ℕ, ◌+◌, List, map, length, take, sum, Option, Result, IsErrOf}
use Rattle.std.specs.Option.{ForSome}
use Rattle.irl_base.specs.declared.fault.Fault.{Fault}
use Rattle.irl_base.specs.declared.fault.Fault.TheVariants.{Damaged, Failed, Full}
use Rattle.irl_offer.specs.Tuple.{Tuple}
use Rattle.irl_offer.specs.declared.offer.Verdict.{Verdict}
use Rattle.irl_offer.specs.declared.receipt.Pair.{Pair}
use Rattle.irl_model.specs.Book.{Book, judged_cut, lengths_of, stretch, uniques_from}
use Rattle.irl_model.specs.Pairs.{pair_of}
use Rattle.irl_disk.specs.Disk.{Files}
use Rattle.irl_disk.specs.Images.{Told}
use Rattle.irl_cache.specs.SortedRun.{pairs_bytes}
use Rattle.irl_bay.specs.Drum.{Drum, durables}
use Rattle.irl_bay.specs.Holding.{Holds}
use Rattle.irl_layout.specs.JudgedEntries.{judged_entries}
use Rattle.irl_bay.specs.Merging.{Batch, WritesOn}
use Rattle.irl_layout.specs.Runs.{texts_of}
use Rattle.irl_bay.specs.Sides.{HasMerged, IsSidesOf}
use Rattle.irl_bay.specs.Spoilt.{IsSpoiltAt}
use Rattle.irl_bay.specs.Telling.{HasTold, judged_with}
use Rattle.irl_bay.specs.declared.sides.Sides.{Sides}
use Rattle.irl_bay.specs.declared.telling.Telling.{Telling}

-- the offers that wait in the first buckets
abbrev pub waiting : Book → ℕ → List Tuple
waiting book n = stretch book.firsts (judged_cut book) (lengths_of book) (take n book.lists)

-- From one snapshot on, the pending offers of the first b buckets were judged and told.
pub record HasJudged (drum : Drum) (b : ℕ) (first : Told) (told : Option Files) (sides : Sides)
    (telling : Telling) : Type 0 where
  pub offers : List Tuple
  pub verdicts : List (Option Verdict)
  pub of : IsSidesOf drum sides
  pub merged : HasMerged b offers verdicts told sides
  pub tells : HasTold drum offers verdicts told telling
  pub count : length offers + sum (take b drum.last.cut) ≡ sum (take b (durables drum))
  -- they are those of the book that the bay held
  pub of_book : ForSome first.files (λ _. (book : Book) → Holds first.images drum book → offers ≡ waiting book b)

-- Pending offers are judged, by the answer.
pub record Judges {A : Type 0} (result : Result A Fault) (drum : Drum) (before after : Told) : Type 0 where
  -- damage is named only where it is, and never over files that stand for a book
  pub spoilt : (f at : ℕ) → IsErrOf result (Damaged f at) → ForSome before.files (λ files. IsSpoiltAt drum files f at)
  pub whole : (f at : ℕ) → IsErrOf result (Damaged f at) → ForSome before.files (λ _. (book : Book)
      → Holds before.images drum book → ⊥)
  pub full : (n : ℕ) → IsErrOf result (Full n) → ⊥
  pub writes : WritesOn drum (IsErrOf result Failed) before after

-- What is written where these offers are judged with these verdicts, and the keys are then these.
abbrev pub batch_of : Drum → List Pair → List Tuple → List (Option Verdict) → Batch
batch_of drum put offers verdicts = record {
  pairs = pairs_bytes (map pair_of put);
  entries = length put;
  judged = judged_entries drum.last.texts (judged_with drum.settings.buckets offers verdicts);
  count = length offers;
  unique = length (uniques_from 0 (judged_with drum.settings.buckets offers verdicts));
  texts = texts_of offers;
  cut = durables drum;
}
