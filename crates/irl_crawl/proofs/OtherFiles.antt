-- Which files parts of a crawl leave alone.
use Rattle.std.proofs.Common.{◌≡◌, ◌∙◌, inl, inr, ℕ, refl, subst, ap}
use Rattle.irl_bay.specs.Drum.{Drum}
use Rattle.irl_bay.proofs.BatchWrites.{tells_only, tells_wide}
use Rattle.irl_bay.proofs.Staying.{leaves_same, only_both, only_wider, tells_both, tells_same}
use Rattle.irl_disk.specs.Disk.{ChangesOnly, Files, TellsBy, TellsOnly}
use Rattle.irl_disk.specs.Images.{Follows, IsConsistent, LeavesBy, LeavesSame, Told}
use Rattle.irl_disk.proofs.Stretches.{joins, left_now, stays, widens, widens_by}
use Rattle.irl_head.specs.StoreFiles.{crawl_file}
use Rattle.irl_layout.specs.BayFiles.{IsFileOf}
use Rattle.irl_offer.specs.declared.settings.Settings.{Settings}
use Rattle.irl_schedule.proofs.Chains.{tells_wider}
use Rattle.irl_yard.specs.declared.parts.Parts.{Parts}
use Rattle.irl_yard.specs.Sending.{IsSentFile, OnlyThese}
use Rattle.irl_crawl.specs.Leading.{IsCrawlFile, KeepsOthers}

-- ---- some files
-- only these change, as it is told, as a stop leaves it and as one from now on does
pub record KeepsBeside (among : ℕ → Type 0) (before after : Told) : Type 0 where
  pub only : OnlyThese among before after
  pub now : (image : Files) → after.images image → Follows (ChangesOnly among) before.images image

-- what a stop leaves now
pub beside_of : (among : ℕ → Type 0) (before after : Told) → IsConsistent after → TellsOnly among before.files after.files → LeavesBy (ChangesOnly among) before after → KeepsBeside among before after
beside_of among before after law told stops = record {
  only = record { told = told; stops = stops };
  now = λ image left. left_now before after _ law stops image left;
}

beside_wider : (among wide : ℕ → Type 0) (before after : Told) → ((f : ℕ) → among f → wide f) → KeepsBeside among before after → KeepsBeside wide before after
beside_wider among wide before after wider keeps = record {
  only = record {
    told = tells_wider among wide before.files after.files wider keeps.only.told;
    stops = widens_by before after _ _ keeps.only.stops (λ x y changes. only_wider among wide x y wider changes);
  };
  now = λ image left. let from = keeps.now image left in (from.0, from.1, only_wider among wide from.0 image wider from.2);
}

beside_then : (among : ℕ → Type 0) (before between after : Told) → KeepsBeside among before between → KeepsBeside among between after → KeepsBeside among before after
beside_then among before between after one two = record {
  only = record {
    told = tells_both among before.files between.files after.files one.only.told two.only.told;
    stops = joins before between after _ one.only.stops (widens between after _ _ two.only.stops (λ image from. back image from));
  };
  now = λ image left. back image (two.now image left);
}
  where
    back : (image : Files) → Follows (ChangesOnly among) between.images image → Follows (ChangesOnly among) before.images image
    back image from = let first = one.now from.0 from.1 in (first.0, first.1, only_both among first.0 from.0 image first.2 from.2)

-- ---- those of a crawl
pub others_of : (was now : Parts) (before after : Told) → now.urls.base ≡ was.urls.base → KeepsBeside (IsCrawlFile was.urls.base was.urls.settings.buckets) before after
    → KeepsOthers was now before after
others_of was now before after base keeps = record { base = base; only = keeps.only; now = keeps.now }

-- one part behind another
pub others_then : (was mid now : Parts) (before between after : Told) → mid.urls.settings ≡ was.urls.settings → KeepsOthers was mid before between → KeepsOthers mid now between after
    → KeepsOthers was now before after
others_then was mid now before between after settings one two =
    let first : KeepsBeside (IsCrawlFile was.urls.base was.urls.settings.buckets) before between = record { only = one.only; now = one.now } in
    let second : KeepsBeside (IsCrawlFile mid.urls.base mid.urls.settings.buckets) between after = record { only = two.only; now = two.now } in
    let later : KeepsBeside (IsCrawlFile was.urls.base was.urls.settings.buckets) between after =
    subst (λ (n : ℕ). KeepsBeside (IsCrawlFile n was.urls.settings.buckets) between after) one.base
    (subst (λ (s : Settings). KeepsBeside (IsCrawlFile mid.urls.base s.buckets) between after) settings second) in
    others_of was now before after (two.base ∙ one.base) (beside_then _ before between after first later)

-- nothing changed
pub others_same : (was now : Parts) (before after : Told) → IsConsistent after → now.urls ≡ was.urls → after.files ≡ before.files → LeavesSame before after → KeepsOthers was now before after
others_same was now before after law urls files stops =
    others_of was now before after (ap (λ (d : Drum). d.base) urls) (beside_of _ before after law (tells_same _ before.files after.files files) (leaves_same _ before after stops))

-- nothing was done
pub others_none : (parts : Parts) (now : Told) → IsConsistent now → KeepsOthers parts parts now now
others_none parts now law = others_same parts parts now now law refl refl (stays now now.images law (λ image left. left))

-- the bay of URLs changed alone
pub others_urls : (was now : Parts) (before after : Told) → IsConsistent after → now.urls.base ≡ was.urls.base → TellsOnly (IsFileOf was.urls.base was.urls.settings.buckets) before.files after.files
    → LeavesBy (ChangesOnly (IsFileOf was.urls.base was.urls.settings.buckets)) before after → KeepsOthers was now before after
others_urls was now before after law base told stops = others_of was now before after base (beside_wider _ _ before after (λ f is. inl is) (beside_of _ before after law told stops))

-- the pairs and the log
pub others_sent : (was now : Parts) (before after : Told) → IsConsistent after → now.urls ≡ was.urls → OnlyThese (IsSentFile was.urls.settings.buckets) before after → KeepsOthers was now before after
others_sent was now before after law urls only =
    others_of was now before after (ap (λ (d : Drum). d.base) urls) (beside_wider _ _ before after (λ f is. inr is) (beside_of _ before after law only.told only.stops))

-- the log alone, by a step of it
pub others_log : (was now : Parts) (before after : Told) (step : Files → Files → Type 0) → IsConsistent after → now.urls ≡ was.urls → ((x y : Files) → step x y → ChangesOnly (λ f. f ≡ crawl_file) x y)
    → TellsBy step before.files after.files → LeavesBy step before after → KeepsOthers was now before after
others_log was now before after step law urls allows told stops =
    others_of was now before after (ap (λ (d : Drum). d.base) urls)
    (beside_wider (λ f. f ≡ crawl_file) _ before after (λ f is. inr (inr is))
    (beside_of _ before after law (tells_only _ before.files after.files (tells_wide step _ before.files after.files allows told)) (widens_by before after step _ stops allows)))
