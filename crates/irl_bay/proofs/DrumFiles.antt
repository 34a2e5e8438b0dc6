-- The files of an open bay, each by its part.
use Rattle.std.proofs.Common.{ℕ, ◌≡◌, ◌≢◌, ◌+◌, ◌<◌, ◌≤◌, inl, inr, refl, subst, arith, Option, None, Some}
use Rattle.std.specs.Prelude.{IfSome}
use Rattle.irl_cache.specs.Reading.{TakesExactly}
use Rattle.irl_disk.specs.Taken.{TakesOf, TakesOnly}
use Rattle.irl_layout.specs.BayFiles.{IsFileOf}
use Rattle.irl_layout.specs.declared.files.BayFile.TheVariants.{Cache, Journal, Aux}
use Rattle.irl_layout.specs.Commits.{live_side, side_of}
use Rattle.irl_bay.specs.Drum.{Drum, IsDrum, bucket_at, cache_front}
use Rattle.irl_bay.specs.Holding.{IsFileOfBucket}

-- the live cache side is one of them
pub side_is_file : (drum : Drum) → IsDrum drum → IsFileOf drum.base drum.settings.buckets (cache_front drum).file
side_is_file drum is = (Cache drum.last.side, is.last.side, refl)

-- the side of the buckets' files that is live is 0 or 1
pub live_low : (live : Option ℕ) → IfSome live (λ side. side ≤ 1) → side_of live ≤ 1
live_low None low = omega arith
live_low (Some side) low = low

-- and so are a bucket's two files
pub bucket_is_file : (drum : Drum) (b f : ℕ) → IsDrum drum → b < drum.settings.buckets → IsFileOfBucket (bucket_at drum b) f → IsFileOf drum.base drum.settings.buckets f
bucket_is_file drum b f is lt (inl journal) = (Journal (live_side drum.last) b, (live_low drum.last.live is.last.live, lt), let at = (is.buckets b lt).journal in cc)
bucket_is_file drum b f is lt (inr aux) = (Aux (live_side drum.last) b, (live_low drum.last.live is.last.live, lt), let at = (is.buckets b lt).aux in cc)

-- ---- how much of one file was read
pub takes_of_none : (f : ℕ) (old new : Option (ℕ → ℕ)) → new ≡ old → TakesOf f 0 old new
takes_of_none f None new same = same
takes_of_none f (Some old) new same = (old, same, omega arith)

-- a call that read another file alone
pub takes_of_other : (f g : ℕ) (old new : Option (ℕ → ℕ)) → g ≢ f → TakesOnly f old new → TakesOf g 0 old new
takes_of_other f g None new apart takes = takes
takes_of_other f g (Some old) new apart takes = let same = takes.2 g apart in (takes.0, takes.1, omega (arith, same))

pub takes_of_both : (f m n : ℕ) (old mid new : Option (ℕ → ℕ)) → TakesOf f m old mid → TakesOf f n mid new → TakesOf f (m + n) old new
takes_of_both f m n None mid new one two = subst (λ (t : Option (ℕ → ℕ)). TakesOf f n t new) one two
takes_of_both f m n (Some old) mid new one two =
    let then_ = subst (λ (t : Option (ℕ → ℕ)). TakesOf f n t new) one.1 two in
    (then_.0, then_.1, omega (arith, then_.2, one.2))

pub takes_of_exactly : (f n : ℕ) (old new : Option (ℕ → ℕ)) → TakesExactly f n old new → TakesOf f n old new
takes_of_exactly f n None new takes = takes
takes_of_exactly f n (Some old) new takes = (takes.0, takes.1, takes.2)
