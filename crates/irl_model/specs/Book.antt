-- The book of a DRUM: what its files stand for, and what its merges have made of it (Lee, Leonard, Wang, Loguinov,
-- "IRLbot: Scaling to 6 Billion Pages and Beyond", WWW 2008, section 4).
use Rattle.std.specs.Prelude.{◌≡◌, ◌≢◌, ℕ, zero, suc, ◌+◌, ◌-◌, ◌≤◌, nat_eq, Bool, true, false, List, [], ◌∷◌, ◌++◌, length, map, take, drop, sum, filter, replicate, Option, None, Some}
use Rattle.std.specs.List.{AllByRecursion, enumerate_from}
use Rattle.std.specs.FinMap.{empty}
use Rattle.irl_offer.specs.declared.offer.Rule.{Rule}
use Rattle.irl_offer.specs.declared.offer.Verdict.{Verdict}
use Rattle.irl_offer.specs.declared.offer.Verdict.TheVariants.{Unique, Absent, Known}
use Rattle.irl_offer.specs.declared.receipt.Judged.{Judged}
use Rattle.irl_offer.specs.Buckets.{IsBucketCount, bucket_of}
use Rattle.irl_offer.specs.Tuple.{Tuple}
use Rattle.irl_model.specs.Judging.{KeyMap, after, judgements}

-- Offers and cuts of one DRUM. Offers are numbered bucket by bucket, from 0, from the beginning of time, and a cut has
-- a number for each bucket: the offers below it are judged. The first cuts may be dropped, with the offers below the
-- last of them.
pub record Book : Type 0 where
  -- how many buckets there are
  pub buckets : ℕ
  -- how values combine
  pub rule : Rule
  -- the keys of the dropped offers, with their values
  pub base : KeyMap
  -- how many cuts are dropped, and the last of them, or zeros
  pub dropped : ℕ
  pub firsts : List ℕ
  -- the offers of each bucket that are kept, the first of which has the bucket's number in `firsts`
  pub lists : List (List Tuple)
  -- the cuts that are kept
  pub cuts : List (List ℕ)

-- a book without an offer
abbrev pub blank_book : ℕ → Rule → Book
blank_book buckets rule = record {
  buckets = buckets;
  rule = rule;
  base = empty;
  dropped = 0;
  firsts = replicate buckets 0;
  lists = replicate buckets [];
  cuts = [];
}

-- the length of a bucket's list, from the beginning of time
abbrev pub list_lengths : List ℕ → List (List Tuple) → List ℕ
list_lengths [] lists = []
list_lengths (first ∷ firsts) [] = []
list_lengths (first ∷ firsts) (list ∷ lists) = (first + length list) ∷ list_lengths firsts lists

abbrev pub lengths_of : Book → List ℕ
lengths_of book = list_lengths book.firsts book.lists

-- number by number, none is above the other's
abbrev pub IsBelow : List ℕ → List ℕ → Type 0
IsBelow [] [] = Unit {0}
IsBelow [] (y ∷ ys) = ⊥
IsBelow (x ∷ xs) [] = ⊥
IsBelow (x ∷ xs) (y ∷ ys) = (x ≤ y) × IsBelow xs ys

-- from one cut on, each cut is at or above the one before and differs from it, and the last is at or below an end
abbrev pub AreCuts : List ℕ → List (List ℕ) → List ℕ → Type 0
AreCuts from [] end = IsBelow from end
AreCuts from (cut ∷ cuts) end = IsBelow from cut × (from ≢ cut) × AreCuts cut cuts end

-- the last of the cuts, or the one that they begin behind
abbrev pub last_cut : List ℕ → List (List ℕ) → List ℕ
last_cut from [] = from
last_cut from (cut ∷ cuts) = last_cut cut cuts

-- the cut below which all is judged
abbrev pub judged_cut : Book → List ℕ
judged_cut book = last_cut book.firsts book.cuts

-- each offer of the lists, the first of which is of this bucket, is of its list's bucket
abbrev pub AreOfBuckets : ℕ → ℕ → List (List Tuple) → Type 0
AreOfBuckets buckets b [] = Unit {0}
AreOfBuckets buckets b (list ∷ lists) = AllByRecursion (λ offer. bucket_of buckets offer.key ≡ b) list
    × AreOfBuckets buckets (b + 1) lists

-- what every book keeps
pub record IsBook (book : Book) : Type 0 where
  pub buckets : IsBucketCount book.buckets
  pub firsts : length book.firsts ≡ book.buckets
  pub lists : length book.lists ≡ book.buckets
  pub each : AreOfBuckets book.buckets 0 book.lists
  pub cuts : AreCuts book.firsts book.cuts (lengths_of book)
  -- where no cut is dropped, no offer is
  pub none : book.dropped ≡ 0 → (book.base ≡ empty) × (book.firsts ≡ replicate book.buckets 0)

-- ---- what is judged
-- the offers from one cut to another, bucket 0 first, each bucket's by number
abbrev pub stretch : List ℕ → List ℕ → List ℕ → List (List Tuple) → List Tuple
stretch (first ∷ firsts) (from ∷ froms) (to ∷ tos) (list ∷ lists) = drop (from - first) (take (to - first) list)
    ++ stretch firsts froms tos lists
stretch _ _ _ _ = []

-- the same cut by cut, from one cut on
abbrev pub stretches : List ℕ → List ℕ → List (List ℕ) → List (List Tuple) → List Tuple
stretches firsts from [] lists = []
stretches firsts from (cut ∷ cuts) lists = stretch firsts from cut lists ++ stretches firsts cut cuts lists

-- the kept offers that are judged, in the order in which they were: cut by cut, bucket 0 first within a cut, by number
-- within a bucket
abbrev pub judged_offers : Book → List Tuple
judged_offers book = stretches book.firsts book.firsts book.cuts book.lists

-- an offer with its verdict, as it is told
abbrev pub judged_as : ℕ → Tuple × Option Verdict → Judged
judged_as buckets p = record { bucket = bucket_of buckets p.0.key; offer = p.0; verdict = p.1 }

-- the kept offers that are judged: each verdict is that of one set that was asked them in their order
abbrev pub judged : Book → List Judged
judged book = map (judged_as book.buckets) (judgements book.rule book.base (judged_offers book))

-- how many judged offers are dropped: the number of the first that is kept
abbrev pub gone : Book → ℕ
gone book = sum book.firsts

-- whether an offer was judged Unique
abbrev pub is_unique : Option Verdict → Bool
is_unique None = false
is_unique (Some Unique) = true
is_unique (Some Absent) = false
is_unique (Some (Known value)) = false

-- those of a list that were judged Unique, each with its number, where the list begins at this number
abbrev pub uniques_from : ℕ → List Judged → List (ℕ × Tuple)
uniques_from number judged = map (λ p. (p.0, p.1.offer))
    (filter (λ p. is_unique p.1.verdict) (enumerate_from number judged))

-- the kept offers that were judged Unique, each with its number: its place in the judged order, from the beginning of
-- time
abbrev pub uniques : Book → List (ℕ × Tuple)
uniques book = uniques_from (gone book) (judged book)

-- ---- what is pending
-- the keys that the judged offers left, with their values
abbrev pub seen : Book → KeyMap
seen book = after book.rule book.base (judged_offers book)

-- the offers that are not judged yet, in the order in which a merge judges them: bucket 0 first, each bucket's by
-- number
abbrev pub pending : Book → List Tuple
pending book = stretch book.firsts (judged_cut book) (lengths_of book) book.lists

-- what a merge judges: the pending offers, each with the verdict of the set that was asked all before it
abbrev pub judged_next : Book → List Judged
judged_next book = map (judged_as book.buckets) (judgements book.rule (seen book) (pending book))

-- ---- one book after another
-- the first list is a prefix of the second
abbrev pub IsPrefixOf : {X : Type 0} → List X → List X → Type 0
IsPrefixOf {X} xs ys = (rest : List X) × (ys ≡ xs ++ rest)

-- list by list
abbrev pub ArePrefixes : List (List Tuple) → List (List Tuple) → Type 0
ArePrefixes [] [] = Unit {0}
ArePrefixes [] (ys ∷ yss) = ⊥
ArePrefixes (xs ∷ xss) [] = ⊥
ArePrefixes (xs ∷ xss) (ys ∷ yss) = IsPrefixOf xs ys × ArePrefixes xss yss

-- the first book is a front of the second: it has a prefix of each list and of the cuts, and the rest alike
pub record IsFront (x y : Book) : Type 0 where
  pub buckets : y.buckets ≡ x.buckets
  pub rule : y.rule ≡ x.rule
  pub base : y.base ≡ x.base
  pub dropped : y.dropped ≡ x.dropped
  pub firsts : y.firsts ≡ x.firsts
  pub lists : ArePrefixes x.lists y.lists
  pub cuts : IsPrefixOf x.cuts y.cuts

-- the middle one lies between the two others
abbrev pub IsBetween : Book → Book → Book → Type 0
IsBetween x z y = IsFront x z × IsFront z y

-- those of some offers that are of one bucket, in order
abbrev pub part : ℕ → ℕ → List Tuple → List Tuple
part buckets b offers = filter (λ offer. nat_eq (bucket_of buckets offer.key) b) offers

-- ---- what is done to a book
-- a list with more at its end, where the first list is of this bucket
abbrev pub flushed_lists : ℕ → List Tuple → List (List Tuple) → List (List Tuple)
flushed_lists b news [] = []
flushed_lists zero news (list ∷ lists) = (list ++ news) ∷ lists
flushed_lists (suc b) news (list ∷ lists) = list ∷ flushed_lists b news lists

-- these offers stand at the end of a bucket's list
abbrev pub flushed : ℕ → List Tuple → Book → Book
flushed b news book = record book { lists = flushed_lists b news book.lists }

-- a cut at all lists' lengths
abbrev pub merged : Book → Book
merged book = record book { cuts = book.cuts ++ lengths_of book ∷ [] }

-- the book as it was when it had only the first of its cuts
abbrev pub with_cuts : ℕ → Book → Book
with_cuts n book = record book { cuts = take n book.cuts }

-- the same where the dropped cuts are counted with the others, as far as it is kept
abbrev pub at_cut : ℕ → Book → Book
at_cut n book = with_cuts (n - book.dropped) book
