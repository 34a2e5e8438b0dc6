-- Which files a run of a command that crawls leaves alone: all but those of a store of a crawl.
use Rattle.std.proofs.Common.{◌≡◌, ◌∙◌, inl, inr, ⊎_elim, ℕ, ◌≤◌, Option, refl, ap, arith}
use Rattle.irl_bay.specs.Drum.{IsDrum}
use Rattle.irl_bay.specs.Making.{IsJournalOf}
use Rattle.irl_bay.proofs.BatchWrites.{tells_only, tells_wide}
use Rattle.irl_bay.proofs.Staying.{leaves_both, only_wider, tells_both}
use Rattle.irl_disk.specs.Disk.{ChangesOnly, Files, TellsBy, TellsOnly}
use Rattle.irl_disk.specs.Images.{IsConsistent, LeavesBy, Told}
use Rattle.irl_disk.proofs.Stretches.{widens_by}
use Rattle.irl_head.specs.StoreFiles.{pairs_base, urls_base}
use Rattle.irl_head.proofs.SettingNumbers.{count_small}
use Rattle.irl_layout.specs.BayFiles.{IsFileOf, file_of}
use Rattle.irl_layout.specs.declared.files.BayFile.TheVariants.{Journal, Manifest}
use Rattle.irl_offer.specs.Settings.{settings_of}
use Rattle.irl_offer.specs.declared.settings.Asked.{Asked}
use Rattle.irl_offer.specs.declared.settings.Kind.{Kind}
use Rattle.irl_offer.specs.declared.settings.Kind.TheVariants.{Crawl, Lines, Tuples}
use Rattle.irl_schedule.proofs.Chains.{tells_wider}
use Rattle.irl_yard.specs.declared.parts.Parts.{Parts}
use Rattle.irl_yard.specs.Entering.{Enters, EntersStore, IsKindJournal, IsStoreJournal, IsToldJournal}
use Rattle.irl_crawl.specs.Leading.{IsCrawlFile, KeepsOthers}
use Rattle.irl_top.specs.Crawled.{IsCrawlStoreFile}
use Rattle.irl_top.proofs.Opened.{part_wider}

-- ---- entering
journal_part : (base buckets f : ℕ) → buckets ≤ 64 → IsJournalOf base buckets f → IsFileOf base 64 f
journal_part base buckets f small (inl manifest) = (Manifest, tt, manifest)
journal_part base buckets f small (inr (side, b, low, within, is)) = (Journal side b, (low, omega (arith, within, small)), is)

kind_journal : (kind : Kind) (buckets f : ℕ) → buckets ≤ 64 → IsKindJournal kind buckets f → IsCrawlStoreFile f
kind_journal Lines buckets f small none = absurd none
kind_journal Tuples buckets f small none = absurd none
kind_journal Crawl buckets f small (inl log) = inr (inr (inr log))
kind_journal Crawl buckets f small (inr pairs) = inr (inr (inl (journal_part pairs_base buckets f small pairs)))

store_journal : (kind : Kind) (buckets f : ℕ) → buckets ≤ 64 → IsStoreJournal kind buckets f → IsCrawlStoreFile f
store_journal kind buckets f small (inl head) = inl head
store_journal kind buckets f small (inr (inl urls)) = inr (inl (journal_part urls_base buckets f small urls))
store_journal kind buckets f small (inr (inr other)) = kind_journal kind buckets f small other

told_journal : (asked : Asked) (told : Option Files) (f : ℕ) → IsToldJournal asked told f → IsCrawlStoreFile f
told_journal asked told f (inl head) = inl head
told_journal asked told f (inr (settings, valid, agrees, has, journal)) = store_journal settings.kind settings.buckets f (count_small _ valid.buckets) journal

enters_only : (asked : Asked) (told : Option Files) (old new : Files) → Enters asked told old new → ChangesOnly IsCrawlStoreFile old new
enters_only asked told old new (inl opens) = λ f not. ⊎_elim (λ same. same) (λ opened. absurd (not (told_journal asked told f opened.0))) (opens f)
enters_only asked told old new (inr (blank, valid, makes)) = λ f not. makes.others f (λ journal.
    not (store_journal (settings_of asked).kind (settings_of asked).buckets f (count_small _ valid.buckets) journal))

pub enters_told : (asked : Asked) (told old new : Option Files) → TellsBy (Enters asked told) old new → TellsOnly IsCrawlStoreFile old new
enters_told asked told old new tells =
    tells_only IsCrawlStoreFile old new (tells_wide (Enters asked told) (ChangesOnly IsCrawlStoreFile) old new (λ x y. enters_only asked told x y) tells)

pub enters_stops : (asked : Asked) (told : Option Files) (old new : Told) → LeavesBy (Enters asked told) old new → LeavesBy (ChangesOnly IsCrawlStoreFile) old new
enters_stops asked told old new steps = widens_by old new _ _ steps (λ x y enters. enters_only asked told x y enters)

-- ---- an open store
bay_wider : (base other buckets f : ℕ) → base ≡ other → buckets ≤ 64 → IsFileOf base buckets f → IsFileOf other 64 f
bay_wider base other buckets f same small is = (is.0, part_wider buckets is.0 small is.1, is.2 ∙ ap (λ (n : ℕ). file_of n 0 is.0) same)

open_wider : (base buckets f : ℕ) → base ≡ urls_base → buckets ≤ 64 → IsCrawlFile base buckets f → IsCrawlStoreFile f
open_wider base buckets f is small (inl urls) = inr (inl (bay_wider base urls_base buckets f is small urls))
open_wider base buckets f is small (inr (inl pairs)) = inr (inr (inl (bay_wider pairs_base pairs_base buckets f refl small pairs)))
open_wider base buckets f is small (inr (inr log)) = inr (inr (inr log))

-- Entering it, and then what is done over it.
module _ (asked : Asked) (before mid after : Told) (was now : Parts) where
  open_files : was.urls.base ≡ urls_base → IsDrum was.urls → (f : ℕ) → IsCrawlFile was.urls.base was.urls.settings.buckets f → IsCrawlStoreFile f
  open_files base drum f is = open_wider was.urls.base was.urls.settings.buckets f base (count_small was.urls.settings.buckets drum.settings.buckets) is

  pub told_others : was.urls.base ≡ urls_base → IsDrum was.urls → EntersStore asked ⊥ before mid → KeepsOthers was now mid after → TellsOnly IsCrawlStoreFile before.files after.files
  told_others base drum entered keeps =
      tells_both IsCrawlStoreFile before.files mid.files after.files (enters_told asked before.files before.files mid.files entered.files)
      (tells_wider _ IsCrawlStoreFile mid.files after.files (open_files base drum) keeps.only.told)

  pub stop_others : IsConsistent mid → was.urls.base ≡ urls_base → IsDrum was.urls → EntersStore asked ⊥ before mid → KeepsOthers was now mid after
      → LeavesBy (ChangesOnly IsCrawlStoreFile) before after
  stop_others law base drum entered keeps =
      leaves_both IsCrawlStoreFile before mid after law (enters_stops asked before.files before mid entered.steps)
      (widens_by mid after _ _ keeps.only.stops (λ x y changes. only_wider _ IsCrawlStoreFile x y (open_files base drum) changes))
