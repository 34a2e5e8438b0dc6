-- What a new store of a crawl has beside its settings and its URLs, and what making it does.
use Rattle.std.specs.Prelude.{◌≡◌, ◌⊎◌, ℕ, ◌≤◌, [], length, Result, IfOk, IsErrOf}
use Rattle.irl_base.specs.declared.fault.Fault.{Fault}
use Rattle.irl_base.specs.declared.fault.Fault.TheVariants.{Damaged, Failed, Full, Memory}
use Rattle.irl_offer.specs.declared.offer.Rule.TheVariants.{Keep}
use Rattle.irl_offer.specs.declared.settings.Settings.{Settings}
use Rattle.irl_model.specs.Book.{Book, blank_book}
use Rattle.irl_disk.specs.Disk.{Files, ChangesOnly}
use Rattle.irl_disk.specs.Effects.{OnlyChanges}
use Rattle.irl_disk.specs.Images.{Told}
use Rattle.irl_bay.specs.Drum.{Drum}
use Rattle.irl_bay.specs.Making.{IsUnmade, IsJournalOn}
use Rattle.irl_head.specs.StoreFiles.{crawl_file, pairs_base, urls_base}
use Rattle.irl_ledger.specs.Holding.{HoldsLedger, IsOpenLedger, IsSoundLedger}
use Rattle.irl_ledger.specs.declared.ledger.Ledger.{Ledger}

-- it isn't made yet: the log's file and each of the bay of pairs has at most one byte
pub record IsUnmadeCrawl (buckets : ℕ) (files : Files) : Type 0 where
  pub log : length (files crawl_file) ≤ 1
  pub pairs : IsUnmade pairs_base buckets files

-- the journals that a new store has of it
abbrev pub IsNewJournal : ℕ → ℕ → Type 0
IsNewJournal buckets f = (f ≡ crawl_file) ⊎ IsJournalOn pairs_base 0 buckets f

-- only these change, and what wasn't made isn't made yet
pub record MakesCrawl (buckets : ℕ) (old new : Files) : Type 0 where
  pub others : ChangesOnly (IsNewJournal buckets) old new
  pub unmade : IsUnmadeCrawl buckets old → IsUnmadeCrawl buckets new

-- A ledger that is made with these settings, by the answer. The store is seen as a whole too.
pub record MakesLedger {S : Type 0} (result : Result Ledger Fault) (settings : Settings) (old new : S)
    (before after : Told) : Type 0 where
  -- from then on each stop leaves files without a pair and without an event, whatever the URLs are
  pub holds : IfOk result (λ ledger. (urls : Book)
      → HoldsLedger after.images settings ledger urls (blank_book settings.buckets Keep) [])
  pub sound : IfOk result IsSoundLedger
  -- it is open beside each bay of URLs with these settings
  pub is_open : IfOk result (λ ledger. (urls : Drum) → urls.base ≡ urls_base → urls.settings ≡ settings
      → IsOpenLedger urls ledger after.files)
  -- a stop at any moment leaves each file as it was, but that a journal of a new store of at most one byte has at most
  -- one
  pub changes : OnlyChanges (MakesCrawl settings.buckets) (IsErrOf result Failed) before after
  pub memory_same : IsErrOf result Memory → new ≡ old
  pub full : (n : ℕ) → IsErrOf result (Full n) → ⊥
  pub damaged : (f at : ℕ) → IsErrOf result (Damaged f at) → ⊥
