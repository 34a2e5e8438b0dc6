-- What the receipts of several passes say of a bucket's list: where each offer stands.
use Rattle.std.specs.Prelude.{◌≡◌, ◌≢◌, ℕ, ◌+◌, ◌<◌, ◌≤◌, List, [], ◌∷◌, length, nat_eq, filter, ⊤}
use Rattle.std.specs.List.{AllByRecursion, flat_map}
use Rattle.irl_offer.specs.Offering.{Entered}
use Rattle.irl_model.specs.Book.{Book, IsPrefixOf}
use Rattle.irl_schedule.specs.Feeding.{length_at, list_at}
use Rattle.irl_yard.specs.Settling.{StandsAt}

-- in each bucket the numbers rise
abbrev pub DoRise : List Entered → Type 0
DoRise [] = ⊤
DoRise (one ∷ more) = AllByRecursion (λ other. other.receipt.bucket ≡ one.receipt.bucket
    → one.receipt.number < other.receipt.number) more × DoRise more

-- no number of a bucket is in two receipts
abbrev pub AreOnce : List Entered → Type 0
AreOnce [] = ⊤
AreOnce (one ∷ more) = AllByRecursion (λ other. other.receipt ≢ one.receipt) more × AreOnce more

-- how many receipts are for a bucket
abbrev pub receipts_for : ℕ → List Entered → ℕ
receipts_for b entries = length (filter (λ one. nat_eq one.receipt.bucket b) entries)

-- From one book to a later one: each list begins with what it had and has as many offers more as there are receipts for
-- its bucket. Each receipt's offer stands at its number, which is none of those that the list had; the numbers of one
-- pass rise, and none is in two receipts.
pub record IsSpread (buckets : ℕ) (passes : List (List Entered)) (x y : Book) : Type 0 where
  pub front : (b : ℕ) → b < buckets → IsPrefixOf (list_at x b) (list_at y b)
  pub counts : (b : ℕ) → b < buckets → length_at y b ≡ length_at x b + receipts_for b (flat_map (λ pass. pass) passes)
  pub stand : AllByRecursion (AllByRecursion (λ one. StandsAt y one.receipt one.offer)) passes
  pub later : AllByRecursion (AllByRecursion (λ one. length_at x one.receipt.bucket ≤ one.receipt.number)) passes
  pub rise : AllByRecursion DoRise passes
  pub once : AreOnce (flat_map (λ pass. pass) passes)
