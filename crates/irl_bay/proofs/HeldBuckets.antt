-- What an open bay holds of a bucket, after reads.
use Rattle.std.proofs.Common.{◌≡◌, ◌∙◌, ℕ, zero, suc, ◌+◌, ◌-◌, ◌<◌, ◌≤◌, List, [], ◌∷◌, length, take, drop, take_all, sum, get_or, sym, ap, subst, arith}
use Rattle.std.specs.List.{AllByRecursion}
use Rattle.irl_offer.specs.Buckets.{bucket_of}
use Rattle.irl_offer.specs.Tuple.{Tuple}
use Rattle.irl_model.specs.Book.{Book, AreOfBuckets, judged_cut, lengths_of, seen}
use Rattle.irl_model.proofs.Stretches.{below_long, last_above}
use Rattle.irl_model.proofs.Flushes.{length-lengths_of}
use Rattle.std.proofs.lemmas.List.{take_more, length-map, get_or-map}
use Rattle.std.proofs.lemmas.List.Sums.{sum_by-append}
use Rattle.std.proofs.Math.Seq.{drop-drop}
use Rattle.irl_disk.specs.Disk.{Files}
use Rattle.irl_bay.specs.declared.bucket.Bucket.{Bucket}
use Rattle.irl_bay.specs.Cache.{HasCache}
use Rattle.irl_cache.specs.SortedRun.{AreWords}
use Rattle.irl_layout.specs.Commits.{live_offers, starts}
use Rattle.irl_bay.specs.Drum.{Drum, IsDrum, bucket_at, no_bucket, durable_at, durables, judged_at, pending_at}
use Rattle.irl_bay.specs.Holding.{Holds}
use Rattle.irl_bay.proofs.JudgedBooks.{each_drop}
use Rattle.irl_bay.proofs.Live.{live_is, length_is}
use Rattle.irl_bay.proofs.Words.{words_seen}

-- a list's offers are of its bucket
pub of_bucket : (buckets first b : ℕ) (lists : List (List Tuple)) → AreOfBuckets buckets first lists → b < length lists
    → AllByRecursion (λ offer. bucket_of buckets offer.key ≡ first + b) (get_or lists b [])
of_bucket buckets first b [] each lt = absurd (omega arith)
of_bucket buckets first zero (list ∷ lists) each lt = let e : first ≡ first + 0 = omega arith in subst (λ n. AllByRecursion (λ offer. bucket_of buckets offer.key ≡ n) list) e each.0
of_bucket buckets first (suc b) (list ∷ lists) each lt = let e : (first + 1) + b ≡ first + suc b = omega arith in
    subst (λ n. AllByRecursion (λ offer. bucket_of buckets offer.key ≡ n) (get_or lists b [])) e (of_bucket buckets (first + 1) b lists each.1 (omega arith))

-- ---- a book that an open bay holds
module _ (images : Files → Type 0) (drum : Drum) (book : Book) (holds : Holds images drum book) where
  pub lists_long : length book.lists ≡ book.buckets
  lists_long = holds.book_is.is_book.lists

  -- the cache has its keys
  pub words_held : AreWords (seen book)
  words_held = words_seen book (holds.book_is.is_book.none holds.book_is.dropped).0 (λ b lt. holds.offers b (omega (arith, lt, lists_long)))

  pub cache_held : (files : Files) → images files → HasCache drum.base drum.last (seen book) files
  cache_held files now = record { count = holds.keys; bytes = holds.cache.each files now }

  -- a bucket's list is of its bucket
  pub list_of : (b : ℕ) → b < drum.settings.buckets → AllByRecursion (λ offer. bucket_of drum.settings.buckets offer.key ≡ b) (get_or book.lists b [])
  list_of b lt =
      let here = of_bucket book.buckets 0 b book.lists holds.book_is.is_book.each (omega (arith, lt, lists_long, holds.book_is.buckets)) in
      let e : 0 + b ≡ b = omega arith in
      subst (λ n. AllByRecursion (λ offer. bucket_of n offer.key ≡ b) (get_or book.lists b [])) holds.book_is.buckets
      (subst (λ n. AllByRecursion (λ offer. bucket_of book.buckets offer.key ≡ n) (get_or book.lists b [])) e here)

  -- the cut is as long as there are buckets
  pub cut_held : judged_cut book ≡ drum.last.cut
  cut_held = sym holds.numbers.commit.cut

  pub cut_long : length (judged_cut book) ≡ book.buckets
  cut_long = below_long (judged_cut book) (lengths_of book) (last_above book.firsts (lengths_of book) book.cuts holds.book_is.is_book.cuts).1 ∙ length-lengths_of book holds.book_is.is_book

  -- ---- the offers that a bucket's live files have
  module _ (law : IsDrum drum) (b : ℕ) (within : b < book.buckets) where
    -- as many as there are from their start on
    pub durable_held : durable_at drum b ≡ length (get_or book.lists b [])
    durable_held =
        sym (get_or-map (λ (bucket : Bucket). bucket.durable) drum.buckets b no_bucket 0 (omega (arith, within, law.count, holds.book_is.buckets)))
        ∙ ap (λ (l : List ℕ). get_or l b 0) holds.numbers.offers
        ∙ length_is drum.settings book b holds.book_is within

    pub start_within : get_or (starts book drum.last) b 0 ≤ length (get_or book.lists b [])
    start_within =
        let is = law.buckets b (omega (arith, within, holds.book_is.buckets)) in
        omega (arith, holds.starts_are b within, is.start, is.judged, durable_held)

    pub live_held : live_offers book drum.last b ≡ drop (bucket_at drum b).start (get_or book.lists b [])
    live_held = live_is drum.settings book drum.last b holds.book_is within ∙ ap (λ (n : ℕ). drop n (get_or book.lists b [])) (sym (holds.starts_are b within))

    -- those that wait are the list's from the cut on
    pub live_waits : drop (judged_at drum b - (bucket_at drum b).start) (live_offers book drum.last b) ≡ drop (judged_at drum b) (get_or book.lists b [])
    live_waits =
        let is = law.buckets b (omega (arith, within, holds.book_is.buckets)) in
        ap (drop (judged_at drum b - (bucket_at drum b).start)) live_held
        ∙ drop-drop (judged_at drum b - (bucket_at drum b).start) (bucket_at drum b).start (get_or book.lists b [])
        ∙ ap (λ (n : ℕ). drop n (get_or book.lists b [])) (omega (arith, is.start))

    -- and they are of the bucket
    pub live_of : AllByRecursion (λ offer. bucket_of drum.settings.buckets offer.key ≡ b) (live_offers book drum.last b)
    live_of = subst (AllByRecursion (λ offer. bucket_of drum.settings.buckets offer.key ≡ b)) (sym live_held)
        (each_drop (λ (offer : Tuple). bucket_of drum.settings.buckets offer.key ≡ b) (bucket_at drum b).start (get_or book.lists b []) (list_of b (omega (arith, within, holds.book_is.buckets))))

-- a sum with one number more
pub sum_more : (xs : List ℕ) (b : ℕ) → b < length xs → sum (take (b + 1) xs) ≡ sum (take b xs) + get_or xs b 0
sum_more xs b lt = ap sum (take_more xs b 0 lt) ∙ sum_by-append (λ n. n) (take b xs) (get_or xs b 0 ∷ [])
    ∙ (let e : sum (take b xs) + (0 + get_or xs b 0) ≡ sum (take b xs) + get_or xs b 0 = omega arith in e)

-- one bucket's pending offers more
pub count_more : (drum : Drum) (b old new : ℕ) → IsDrum drum → b < drum.settings.buckets → old + sum (take b drum.last.cut) ≡ sum (take b (durables drum)) → new ≡ old + pending_at drum b
    → new + sum (take (b + 1) drum.last.cut) ≡ sum (take (b + 1) (durables drum))
count_more drum b old new is lt before more =
    let long : length (durables drum) ≡ drum.settings.buckets = length-map drum.buckets (λ (bucket : Bucket). bucket.durable) ∙ is.count in
    let cut = sum_more drum.last.cut b (omega (arith, is.last.count, lt)) in
    let all = sum_more (durables drum) b (omega (arith, long, lt)) in
    let here : get_or (durables drum) b 0 ≡ durable_at drum b = get_or-map (λ (bucket : Bucket). bucket.durable) drum.buckets b no_bucket 0 (omega (arith, lt, is.count)) in
    let few : judged_at drum b ≤ durable_at drum b = (is.buckets b lt).judged in
    omega (arith, cut, all, here, few, before, more)

-- all of them
pub count_all : (drum : Drum) (n count : ℕ) → IsDrum drum → drum.settings.buckets ≤ n → count + sum (take n drum.last.cut) ≡ sum (take n (durables drum))
    → count + sum drum.last.cut ≡ sum (durables drum)
count_all drum n count is le e =
    let long : length (durables drum) ≡ drum.settings.buckets = length-map drum.buckets (λ (bucket : Bucket). bucket.durable) ∙ is.count in
    let cut : take n drum.last.cut ≡ drum.last.cut = take_all n drum.last.cut (omega (arith, is.last.count, le)) in
    let all : take n (durables drum) ≡ durables drum = take_all n (durables drum) (omega (arith, long, le)) in
    rw (cut, all) at e

-- the bucket at a place, whatever stands for one that isn't there
pub same_bucket : (xs : List Bucket) (b : ℕ) (x : Bucket) → b < length xs → x ≡ get_or xs b x → x ≡ get_or xs b no_bucket
same_bucket [] b x lt e = absurd (omega arith)
same_bucket (y ∷ xs) zero x lt e = e
same_bucket (y ∷ xs) (suc b) x lt e = same_bucket xs b x (omega arith) e
