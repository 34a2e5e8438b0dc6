-- A merge writes what it has judged, behind what is committed of the judged file and of the texts.
use Rattle.std.specs.Prelude.{◌≡◌, ℕ, ◌+◌, ◌-◌, ◌%◌, ◌^◌, min, List, map, length, zip, Option}
use Rattle.irl_offer.specs.Tuple.{Tuple}
use Rattle.irl_offer.specs.declared.offer.Verdict.{Verdict}
use Rattle.irl_offer.specs.declared.receipt.Judged.{Judged}
use Rattle.irl_model.specs.Book.{judged_as, uniques_from}
use Rattle.irl_disk.specs.Disk.{Files}
use Rattle.irl_journal.specs.Growing.{HasPut}
use Rattle.irl_bay.specs.Drum.{Drum, judged_front, texts_front}
use Rattle.irl_layout.specs.JudgedEntries.{judged_entries}
use Rattle.irl_layout.specs.Runs.{texts_of}
use Rattle.irl_bay.specs.declared.telling.Telling.{Telling}

-- offers with the verdicts on them, as they are told
abbrev pub judged_with : ℕ → List Tuple → List (Option Verdict) → List Judged
judged_with buckets offers verdicts = map (judged_as buckets) (zip offers verdicts)

-- the files are a bay's, behind what is committed of them
pub record IsTellingOf (drum : Drum) (telling : Telling) : Type 0 where
  pub judged_file : telling.judged.file ≡ (judged_front drum).file
  pub judged_kept : telling.judged.kept ≡ (judged_front drum).length
  pub texts_file : telling.texts.file ≡ (texts_front drum).file
  pub texts_kept : telling.texts.kept ≡ (texts_front drum).length

-- Behind what is committed, these offers were put with these verdicts.
pub record HasTold (drum : Drum) (offers : List Tuple) (verdicts : List (Option Verdict)) (told : Option Files)
    (telling : Telling) : Type 0 where
  pub of : IsTellingOf drum telling
  pub count : length verdicts ≡ length offers
  pub judged : HasPut told (judged_entries drum.last.texts (judged_with drum.settings.buckets offers verdicts))
      telling.judged
  pub texts : HasPut told (texts_of offers) telling.texts
  pub place : telling.place ≡ (drum.last.texts + length (texts_of offers)) % 2 ^ 64
  pub unique : telling.unique ≡ min (drum.last.unique + length
      (uniques_from 0 (judged_with drum.settings.buckets offers verdicts))) (2 ^ 64 - 1)
