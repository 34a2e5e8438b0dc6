-- Reading the judged URLs of a crawl: what is found, and what is named as damage.
use Rattle.std.specs.Prelude.{◌≡◌, ◌⊎◌, ℕ, ◌-◌, ◌*◌, ◌<◌, slice_get, Some, Result, IfOk, IsErrOf}
use Rattle.std.specs.List.{AllByRecursion}
use Rattle.std.specs.Option.{ForSome}
use Rattle.irl_base.specs.declared.fault.Fault.{Fault}
use Rattle.irl_base.specs.declared.fault.Fault.TheVariants.{Damaged, Failed, Full}
use Rattle.irl_offer.specs.declared.receipt.Judged.{Judged}
use Rattle.irl_offer.specs.declared.settings.Kind.TheVariants.{Crawl}
use Rattle.irl_key.specs.Links.{IsCanonicalText}
use Rattle.irl_model.specs.Book.{Book, gone, judged}
use Rattle.irl_disk.specs.Disk.{Files}
use Rattle.irl_disk.specs.Effects.{OnlyReads}
use Rattle.irl_disk.specs.Images.{Told}
use Rattle.irl_bay.specs.Drum.{Drum, judged_front}
use Rattle.irl_bay.specs.Holding.{Holds}
use Rattle.irl_bay.specs.JudgedSpoilt.{IsJudgedSpoiltAt, IsJudgedFile}
use Rattle.irl_ledger.specs.Crawling.{AreTaken}

-- The judged file has at this place the entry of an offer whose text is not canonical, whatever book the bay holds.
pub record IsStrangeTextAt (images : Files → Type 0) (urls : Drum) (f at : ℕ) : Type 0 where
  pub file : f ≡ (judged_front urls).file
  -- the offer's place in the judged order
  pub i : ℕ
  pub within : i < urls.last.judged
  pub place : at ≡ 48 * i
  pub strange : (book : Book) (one : Judged) → Holds images urls book
      → slice_get (judged book) (i - gone book) ≡ Some one → IsCanonicalText one.offer.aux → ⊥

-- Judged URLs of a crawl that are read, by the answer: `gives` says what is found of a book.
pub record ReadsUrls {A : Type 0} (result : Result A Fault) (gives : A → Book → Type 0) (urls : Drum)
    (before after : Told) : Type 0 where
  -- it is what the book says
  pub value : IfOk result (λ found. ForSome before.files (λ _. (book : Book) → Holds before.images urls book
      → gives found book))
  -- damage is named only where it is, and never over files that stand for a book with offers that a crawl takes
  pub spoilt : (f at : ℕ) → IsErrOf result (Damaged f at) → ForSome before.files (λ files.
      IsJudgedSpoiltAt urls files f at ⊎ IsStrangeTextAt before.images urls f at)
  pub whole : (f at : ℕ) → IsErrOf result (Damaged f at) → ForSome before.files (λ _. (book : Book)
      → Holds before.images urls book → AllByRecursion (AreTaken Crawl) book.lists → ⊥)
  pub full : (n : ℕ) → IsErrOf result (Full n) → ⊥
  -- nothing changes, and only what is judged is read
  pub reads : OnlyReads (IsJudgedFile urls) (IsErrOf result Failed) before after
