-- What stands beside the bay of URLs once a store is open.
use Rattle.std.proofs.Common.{◌≡◌, ◌≢◌, ◌⊎◌, inl, inr, ℕ, zero, suc, ◌+◌, ◌*◌, ◌≤◌, ◌<◌, refl, sym, subst, arith}
use Rattle.irl_offer.specs.Settings.{AreValid}
use Rattle.irl_offer.specs.declared.settings.Settings.{Settings}
use Rattle.irl_disk.specs.Disk.{Files}
use Rattle.irl_layout.specs.BayFiles.{IsFileOf}
use Rattle.irl_layout.specs.declared.files.BayFile.TheVariants.{Manifest, Cache, Judged, Texts, Journal, Aux}
use Rattle.irl_bay.specs.Making.{IsJournalOn, IsJournalOf}
use Rattle.irl_bay.proofs.Apart.{files_within, journal_files}
use Rattle.irl_head.specs.StoreFiles.{head_file, crawl_file, urls_base, pairs_base}
use Rattle.irl_yard.specs.Entering.{AreSynced, AreSyncedWithin, IsRestFile}
use Rattle.irl_yard.proofs.ByKind.{IsSameBeside}

pub few : (settings : Settings) → AreValid settings → settings.buckets ≤ 64
few settings valid = let count = valid.buckets in grind arith

-- ---- the files
pairs_bucket : (buckets side b f : ℕ) → side ≤ 1 → b < buckets → (f ≡ pairs_base + 10 + 490 * side + 2 * b) ⊎ (f ≡ pairs_base + 11 + 490 * side + 2 * b) → IsRestFile buckets f
pairs_bucket buckets zero b f low within (inl e) = inr (inl (omega (arith, e), omega (arith, e, within)))
pairs_bucket buckets zero b f low within (inr e) = inr (inl (omega (arith, e), omega (arith, e, within)))
pairs_bucket buckets (suc zero) b f low within (inl e) = inr (inr (omega (arith, e), omega (arith, e, within)))
pairs_bucket buckets (suc zero) b f low within (inr e) = inr (inr (omega (arith, e), omega (arith, e, within)))
pairs_bucket buckets (suc (suc n)) b f low within is = absurd (omega (arith, low))

pub pairs_rest : (buckets f : ℕ) → IsFileOf pairs_base buckets f → IsRestFile buckets f
pairs_rest buckets f (Manifest, is, e) = inr (inl (omega (arith, e), omega (arith, e)))
pairs_rest buckets f (Cache side, is, e) = inr (inl (omega (arith, e, is), omega (arith, e, is)))
pairs_rest buckets f (Judged, is, e) = inr (inl (omega (arith, e), omega (arith, e)))
pairs_rest buckets f (Texts, is, e) = inr (inl (omega (arith, e), omega (arith, e)))
pairs_rest buckets f (Journal side b, is, e) = pairs_bucket buckets side b f is.0 is.1 (inl e)
pairs_rest buckets f (Aux side b, is, e) = pairs_bucket buckets side b f is.0 is.1 (inr e)

-- where the files of the URLs lie
bucket_at : (side b f : ℕ) → side ≤ 1 → b < 64 → (f ≡ urls_base + 10 + 490 * side + 2 * b) ⊎ (f ≡ urls_base + 11 + 490 * side + 2 * b)
    → ((urls_base ≤ f) × (f < urls_base + 138)) ⊎ ((urls_base + 500 ≤ f) × (f < urls_base + 628))
bucket_at zero b f low small (inl e) = inl (omega (arith, e), omega (arith, e, small))
bucket_at zero b f low small (inr e) = inl (omega (arith, e), omega (arith, e, small))
bucket_at (suc zero) b f low small (inl e) = inr (omega (arith, e), omega (arith, e, small))
bucket_at (suc zero) b f low small (inr e) = inr (omega (arith, e), omega (arith, e, small))
bucket_at (suc (suc n)) b f low small is = absurd (omega (arith, low))

file_at : (buckets f : ℕ) → buckets ≤ 64 → IsFileOf urls_base buckets f → ((urls_base ≤ f) × (f < urls_base + 138)) ⊎ ((urls_base + 500 ≤ f) × (f < urls_base + 628))
file_at buckets f few (Manifest, is, e) = inl (omega (arith, e), omega (arith, e))
file_at buckets f few (Cache side, is, e) = inl (omega (arith, e, is), omega (arith, e, is))
file_at buckets f few (Judged, is, e) = inl (omega (arith, e), omega (arith, e))
file_at buckets f few (Texts, is, e) = inl (omega (arith, e), omega (arith, e))
file_at buckets f few (Journal side b, is, e) = bucket_at side b f is.0 (omega (arith, is.1, few)) (inl e)
file_at buckets f few (Aux side b, is, e) = bucket_at side b f is.0 (omega (arith, is.1, few)) (inr e)

rest_or_urls : (buckets f : ℕ) → buckets ≤ 64 → IsRestFile buckets f → ((urls_base ≤ f) × (f < urls_base + 138)) ⊎ ((urls_base + 500 ≤ f) × (f < urls_base + 628)) → ⊥
rest_or_urls buckets f few (inl e) (inl at) = omega (arith, e, at.0)
rest_or_urls buckets f few (inl e) (inr at) = omega (arith, e, at.0)
rest_or_urls buckets f few (inr (inl rest)) (inl at) = omega (arith, rest.0, at.1)
rest_or_urls buckets f few (inr (inl rest)) (inr at) = omega (arith, rest.1, at.0, few)
rest_or_urls buckets f few (inr (inr rest)) (inl at) = omega (arith, rest.0, at.1)
rest_or_urls buckets f few (inr (inr rest)) (inr at) = omega (arith, rest.0, at.1)

-- none of them is one of the rest
pub rest_no_file : (buckets f : ℕ) → buckets ≤ 64 → IsRestFile buckets f → IsFileOf urls_base buckets f → ⊥
rest_no_file buckets f few rest is = rest_or_urls buckets f few rest (file_at buckets f few is)

pub rest_no_journal : (buckets f : ℕ) → buckets ≤ 64 → IsRestFile buckets f → IsJournalOf urls_base buckets f → ⊥
rest_no_journal buckets f few rest is = rest_no_file buckets f few rest (journal_files urls_base buckets f is)

-- those on one side are the bay's
pub one_side : (side buckets f : ℕ) → side ≤ 1 → IsJournalOn urls_base side buckets f → IsJournalOf urls_base buckets f
one_side side buckets f low (inl manifest) = inl manifest
one_side side buckets f low (inr (b, within, e)) = inr (side, b, low, within, e)

pub head_no_journal : (buckets : ℕ) → buckets ≤ 64 → IsJournalOf urls_base buckets head_file → ⊥
head_no_journal buckets few is = omega (arith, (files_within urls_base buckets head_file few (journal_files urls_base buckets head_file is)).0)

pub head_no_side : (buckets : ℕ) → buckets ≤ 64 → IsJournalOn urls_base 0 buckets head_file → ⊥
head_no_side buckets few is = head_no_journal buckets few (one_side 0 buckets head_file (omega arith) is)

-- ---- a joint image with the rest as it was told
pub same_as_told : (buckets : ℕ) (files image : Files) → ((f : ℕ) → IsRestFile buckets f → image f ≡ files f) → IsSameBeside buckets files image
same_as_told buckets files image as_told = (as_told crawl_file (inl refl), λ f is. as_told f (pairs_rest buckets f is))

-- ---- none of them is the head
pub rest_no_head : (buckets f : ℕ) → IsRestFile buckets f → f ≢ head_file
rest_no_head buckets f (inl e) = λ is. omega (arith, e, is)
rest_no_head buckets f (inr (inl above)) = λ is. omega (arith, above.0, is)
rest_no_head buckets f (inr (inr above)) = λ is. omega (arith, above.0, is)

-- ---- they are synced
pub rest_synced : (images : Files → Type 0) (buckets : ℕ) (files : Files) → ((image : Files) → images image → image crawl_file ≡ files crawl_file)
    → AreSyncedWithin images pairs_base (pairs_base + 10 + 2 * buckets) files
    → AreSyncedWithin images (pairs_base + 500) (pairs_base + 500 + 2 * buckets) files → AreSynced images buckets files
rest_synced images buckets files crawl low high = λ image left f is. each image left f is
  where
    each : (image : Files) → images image → (f : ℕ) → IsRestFile buckets f → image f ≡ files f
    each image left f (inl e) = subst (λ (n : ℕ). image n ≡ files n) (sym e) (crawl image left)
    each image left f (inr (inl within)) = low image left f within.0 within.1
    each image left f (inr (inr within)) = high image left f within.0 within.1
