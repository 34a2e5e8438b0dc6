-- What reading judged offers names as damage: an entry that the layout allows nowhere, or not behind the one before it.
use Rattle.std.specs.Prelude.{◌≡◌, ◌⊎◌, ℕ, ◌+◌, ◌-◌, ◌*◌, ◌<◌, ◌≤◌, List, [], ◌∷◌, take, drop, Option, Some, IfSome}
use Rattle.irl_offer.specs.Buckets.{bucket_of}
use Rattle.irl_disk.specs.Disk.{Files}
use Rattle.irl_layout.specs.declared.judged_entry.JudgedEntry.{JudgedEntry}
use Rattle.irl_layout.specs.JudgedEntries.{IsJudgedEntry, entry_spelling}
use Rattle.irl_bay.specs.Drum.{Drum, judged_front, texts_front}

-- an entry that may stand behind another, where one is looked at before it: it names the bucket of its key, and a text
-- that is committed and stands right behind the other's
pub record FitsBehind (drum : Drum) (before : Option JudgedEntry) (entry : JudgedEntry) : Type 0 where
  pub is : IsJudgedEntry entry
  pub bucket : entry.bucket ≡ bucket_of drum.settings.buckets entry.key
  pub text : entry.place + entry.aux_len ≤ drum.last.texts
  pub behind : IfSome before (λ one. entry.place ≡ one.place + one.aux_len)

-- entries one behind the other, the first of which stands behind this one
abbrev pub FitEach : Drum → Option JudgedEntry → List JudgedEntry → Type 0
FitEach drum before [] = Unit {0}
FitEach drum before (entry ∷ entries) = FitsBehind drum before entry × FitEach drum (Some entry) entries

-- an entry is the one before the j-th of these bytes
pub record StandsBefore (bytes : List ℕ) (j : ℕ) (entry : JudgedEntry) : Type 0 where
  pub later : 1 ≤ j
  pub is : IsJudgedEntry entry
  pub bytes_are : entry_spelling entry ≡ take 48 (drop (48 * (j - 1)) bytes)

-- the j-th entry of these bytes is none that may stand there
pub record NoneFits (drum : Drum) (bytes : List ℕ) (j : ℕ) : Type 0 where
  pub before : Option JudgedEntry
  pub stands : IfSome before (StandsBefore bytes j)
  pub none : (entry : JudgedEntry) → FitsBehind drum before entry → entry_spelling entry ≡ take 48 (drop (48 * j) bytes)
      → ⊥

-- the judged file has at this place a committed entry that may not stand there
pub record IsSpoiltEntry (drum : Drum) (file : List ℕ) (at : ℕ) : Type 0 where
  pub j : ℕ
  pub within : j < drum.last.judged
  pub place : at ≡ 48 * j
  pub none : NoneFits drum file j

-- The judged file of an open bay has at this place an entry that the layout doesn't allow there.
abbrev pub IsJudgedSpoiltAt : Drum → Files → ℕ → ℕ → Type 0
IsJudgedSpoiltAt drum files f at = (f ≡ (judged_front drum).file) × IsSpoiltEntry drum (files f) at

-- the files that are read for judged offers
abbrev pub IsJudgedFile : Drum → ℕ → Type 0
IsJudgedFile drum f = (f ≡ (judged_front drum).file) ⊎ (f ≡ (texts_front drum).file)
