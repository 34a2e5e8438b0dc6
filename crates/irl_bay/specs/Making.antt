-- A bay before it is made, and what making it does.
use Rattle.std.specs.Prelude.{◌≡◌, ◌⊎◌, ℕ, ◌<◌, ◌≤◌, true, length, Result, IfOk, IsErrOf}
use Rattle.irl_base.specs.declared.fault.Fault.{Fault}
use Rattle.irl_base.specs.declared.fault.Fault.TheVariants.{Damaged, Failed, Full, Memory}
use Rattle.irl_offer.specs.declared.settings.Settings.{Settings}
use Rattle.irl_model.specs.Book.{blank_book}
use Rattle.irl_disk.specs.Disk.{Files, ChangesOnly}
use Rattle.irl_disk.specs.Effects.{OnlyChanges}
use Rattle.irl_disk.specs.Images.{Told}
use Rattle.irl_layout.specs.BayFiles.{file_of, IsFileOf}
use Rattle.irl_layout.specs.declared.files.BayFile.TheVariants.{Manifest, Journal}
use Rattle.irl_bay.specs.Drum.{Drum, IsDrum}
use Rattle.irl_bay.specs.Holding.{Holds}

-- each file of the bay has at most one byte
abbrev pub IsUnmade : ℕ → ℕ → Files → Type 0
IsUnmade base buckets files = (f : ℕ) → IsFileOf base buckets f → length (files f) ≤ 1

-- the manifest, and the buckets' journals on a side
abbrev pub IsJournalOn : ℕ → ℕ → ℕ → ℕ → Type 0
IsJournalOn base side buckets f = (f ≡ file_of base 0 Manifest)
    ⊎ ((b : ℕ) × (b < buckets) × (f ≡ file_of base 0 (Journal side b)))

-- and on both sides
abbrev pub IsJournalOf : ℕ → ℕ → ℕ → Type 0
IsJournalOf base buckets f = (f ≡ file_of base 0 Manifest)
    ⊎ ((side b : ℕ) × (side ≤ 1) × (b < buckets) × (f ≡ file_of base 0 (Journal side b)))

-- only the manifest and the journals on side 0 change, and a bay that wasn't made isn't made yet
pub record Makes (base buckets : ℕ) (old new : Files) : Type 0 where
  pub others : ChangesOnly (IsJournalOn base 0 buckets) old new
  pub unmade : IsUnmade base buckets old → IsUnmade base buckets new

-- A bay that is made, by the answer, whose first file and settings are given. The store is seen as a whole too.
pub record MakesBay {S : Type 0} (result : Result Drum Fault) (first : ℕ) (given : Settings) (old new : S)
    (before after : Told) : Type 0 where
  pub base : IfOk result (λ bay. bay.base ≡ first)
  pub settings : IfOk result (λ bay. bay.settings ≡ given)
  pub sound : IfOk result (λ bay. bay.is_sound ≡ true)
  pub drum : IfOk result IsDrum
  -- from then on each stop leaves files that stand for the book without an offer
  pub holds : IfOk result (λ bay. Holds after.images bay (blank_book given.buckets given.rule))
  -- a stop at any moment leaves each file as it was, but that the manifest or a journal on side 0 of at most one byte
  -- has at most one
  pub changes : OnlyChanges (Makes first given.buckets) (IsErrOf result Failed) before after
  pub memory_same : IsErrOf result Memory → new ≡ old
  pub full : (n : ℕ) → IsErrOf result (Full n) → ⊥
  pub damaged : (f at : ℕ) → IsErrOf result (Damaged f at) → ⊥
