-- Making what a new store has beside its bay of URLs.
use Rattle.std.specs.Prelude.{◌≡◌, ◌⊎◌, ℕ, [], Result, IfErr, IfOk, IsErrOf, OnOk}
use Rattle.irl_offer.specs.declared.offer.Rule.TheVariants.{Keep}
use Rattle.irl_offer.specs.declared.settings.Kind.{Kind}
use Rattle.irl_offer.specs.declared.settings.Settings.{Settings}
use Rattle.irl_model.specs.Book.{Book, blank_book}
use Rattle.irl_disk.specs.Disk.{Files, ChangesOnly}
use Rattle.irl_disk.specs.Effects.{OnlyChanges}
use Rattle.irl_disk.specs.Images.{Told}
use Rattle.irl_bay.specs.Drum.{Drum}
use Rattle.irl_head.specs.StoreFiles.{urls_base}
use Rattle.irl_head.specs.declared.open_fault.OpenFault.{OpenFault}
use Rattle.irl_head.specs.declared.open_fault.OpenFault.TheVariants.{Failed, Memory}
use Rattle.irl_yard.specs.declared.parts.Rest.{Rest}
use Rattle.irl_yard.specs.Standing.{ArePlainFiles, HasRest}
use Rattle.irl_yard.specs.Holding.{HoldsOpen, IsOpenRest, IsSoundRest}
use Rattle.irl_yard.specs.Entering.{IsKindJournal}

-- only the journals that a store of this kind has beside the bay of URLs change, and what wasn't made isn't made yet
pub record MakesRest (kind : Kind) (buckets : ℕ) (old new : Files) : Type 0 where
  pub others : ChangesOnly (IsKindJournal kind buckets) old new
  pub unmade : ArePlainFiles buckets old → ArePlainFiles buckets new

-- It is made with these settings, by the answer.
pub record RestMade (result : Result Rest OpenFault) (settings : Settings) (before after : Told) : Type 0 where
  -- from then on each stop leaves files without a pair and without an event, whatever the URLs are
  pub holds : IfOk result (λ rest. (urls : Book)
      → HoldsOpen after.images settings rest urls (blank_book settings.buckets Keep) [])
  pub stops : OnOk result ((image : Files) → after.images image
      → HasRest settings.kind settings (blank_book settings.buckets Keep) [] image)
  pub sound : IfOk result IsSoundRest
  -- it is open beside each bay of URLs with these settings
  pub is_open : IfOk result (λ rest. (urls : Drum) → urls.base ≡ urls_base → urls.settings ≡ settings
      → IsOpenRest urls rest after.files)
  -- a stop at any moment leaves each file as it was, but that a journal of at most one byte has at most one
  pub changes : OnlyChanges (MakesRest settings.kind settings.buckets) (IsErrOf result Failed) before after
  -- it is refused as none but a store that failed, or want of memory
  pub fault : IfErr result (λ fault. (fault ≡ Failed) ⊎ (fault ≡ Memory))
