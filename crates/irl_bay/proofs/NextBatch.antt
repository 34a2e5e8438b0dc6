-- What a merge judges of a book, bucket by bucket.
use Rattle.std.proofs.Common.{◌≡◌, ◌∙◌, ℕ, zero, suc, ◌+◌, ◌*◌, ◌^◌, ◌<◌, ◌≤◌, List, Option, [], ◌∷◌, ◌++◌, length, map, take, drop, get_or, refl, sym, ap, arith, length-append, take_all, replicate}
use Rattle.std.proofs.lemmas.Grind.{flat_map-append}
use Rattle.std.specs.FinMap.{entries}
use Rattle.std.specs.List.{AllByRecursion}
use Rattle.std.specs.Prelude.{sum, zip}
use Rattle.std.proofs.lemmas.List.{length-map}
use Rattle.std.proofs.lemmas.List.Sums.{count_by-le-length}
use Rattle.irl_offer.specs.Tuple.{Tuple}
use Rattle.irl_offer.specs.declared.offer.Verdict.{Verdict}
use Rattle.irl_offer.specs.declared.receipt.Pair.{Pair}
use Rattle.irl_model.specs.Book.{Book, IsBook, judged, judged_as, judged_cut, judged_offers, judged_next, is_unique, lengths_of, list_lengths, merged, pending, seen, stretch, uniques, uniques_from, gone}
use Rattle.irl_model.specs.Judging.{after, judgements}
use Rattle.irl_model.specs.Pairs.{ArePairsOf, keys_of, pair_of}
use Rattle.irl_model.proofs.JudgingLaws.{zip-judgements}
use Rattle.irl_model.proofs.FrontLaws.{merged_offers}
use Rattle.irl_model.proofs.Merges.{merged_judged, merged_uniques, merged_seen}
use Rattle.irl_model.proofs.PlainLemmas.{stretch_more}
use Rattle.irl_cache.specs.SortedRun.{pairs_bytes}
use Rattle.irl_layout.specs.JudgedEntries.{judged_entries}
use Rattle.irl_bay.specs.Judging.{batch_of, waiting}
use Rattle.irl_bay.specs.Merging.{Batch, FitsBatch, HasRoom, IsBatchOf, next_commit}
use Rattle.irl_layout.specs.Runs.{texts_of}
use Rattle.irl_bay.proofs.JudgedMore.{entries_both, length-entries, offers_back, offers_of, same_count, with_uniques}
use Rattle.irl_bay.proofs.CachePairs.{length-pairs}
use Rattle.irl_bay.specs.Drum.{Drum, IsDrum, durables}
use Rattle.irl_bay.specs.declared.bucket.Bucket.{Bucket}
use Rattle.irl_bay.specs.Telling.{judged_with}

-- ---- one bucket after another
length_at : (n b : ℕ) (lists : List (List Tuple)) → b < n → b < length lists → get_or (list_lengths (replicate n 0) lists) b 0 ≡ length (get_or lists b [])
length_at zero b lists i j = absurd (omega arith)
length_at (suc n) b [] i j = absurd (omega arith)
length_at (suc n) zero (list ∷ lists) i j = omega arith
length_at (suc n) (suc b) (list ∷ lists) i j = length_at n b lists (omega arith) (omega arith)

long_lists : (n : ℕ) (lists : List (List Tuple)) → length lists ≡ n → length (list_lengths (replicate n 0) lists) ≡ n
long_lists zero [] e = refl
long_lists zero (list ∷ lists) e = absurd (omega arith)
long_lists (suc n) [] e = absurd (omega arith)
long_lists (suc n) (list ∷ lists) e = let ih = long_lists n lists (omega arith) in omega (arith, ih)

module _ (book : Book) (is_book : IsBook book) (dropped : book.dropped ≡ 0) (cut_long : length (judged_cut book) ≡ book.buckets) where
  zeros : book.firsts ≡ replicate book.buckets 0
  zeros = (is_book.none dropped).1

  ends : lengths_of book ≡ list_lengths (replicate book.buckets 0) book.lists
  ends = ap (λ firsts. list_lengths firsts book.lists) zeros

  -- one bucket more
  pub waits_more : (b : ℕ) → b < book.buckets → waiting book (b + 1) ≡ waiting book b ++ drop (get_or (judged_cut book) b 0) (get_or book.lists b [])
  waits_more b lt =
      let tos = lengths_of book in
      let long : length tos ≡ book.buckets = ap length ends ∙ long_lists book.buckets book.lists is_book.lists in
      let more = stretch_more book.buckets b (judged_cut book) tos book.lists lt (omega (arith, cut_long, lt)) (omega (arith, long, lt)) (omega (arith, is_book.lists, lt)) in
      let at : get_or tos b 0 ≡ length (get_or book.lists b []) = ap (λ (l : List ℕ). get_or l b 0) ends ∙ length_at book.buckets b book.lists lt (omega (arith, is_book.lists, lt)) in
      let all : take (get_or tos b 0) (get_or book.lists b []) ≡ get_or book.lists b [] = take_all _ _ (omega (arith, at)) in
      ap (λ firsts. stretch firsts (judged_cut book) tos (take (b + 1) book.lists)) zeros
      ∙ more
      ∙ ap (λ firsts. stretch firsts (judged_cut book) tos (take b book.lists) ++ drop (get_or (judged_cut book) b 0) (take (get_or tos b 0) (get_or book.lists b []))) (sym zeros)
      ∙ ap (λ (l : List Tuple). waiting book b ++ drop (get_or (judged_cut book) b 0) l) all

  -- all of them
  pub waits_all : (n : ℕ) → book.buckets ≤ n → waiting book n ≡ pending book
  waits_all n le = ap (λ l. stretch book.firsts (judged_cut book) (lengths_of book) l) (take_all n book.lists (omega (arith, is_book.lists, le)))

  pub waits_none : waiting book 0 ≡ []
  waits_none = nothing book.firsts (judged_cut book) (lengths_of book)
    where
      nothing : (firsts froms tos : List ℕ) → stretch firsts froms tos [] ≡ []
      nothing [] froms tos = refl
      nothing (first ∷ firsts) [] tos = refl
      nothing (first ∷ firsts) (from ∷ froms) [] = refl
      nothing (first ∷ firsts) (from ∷ froms) (to ∷ tos) = refl

-- ---- what is then written
pub is_batch : (drum : Drum) (book : Book) (fed put : List Pair) (offers : List Tuple) (verdicts : List (Option Verdict)) → drum.settings.rule ≡ book.rule → drum.settings.buckets ≡ book.buckets
    → drum.last.texts ≡ length (texts_of (judged_offers book)) → offers ≡ pending book → keys_of fed ≡ seen book
    → verdicts ≡ map (λ p. p.1) (judgements drum.settings.rule (keys_of fed) offers) → ArePairsOf (after drum.settings.rule (keys_of fed) offers) put
    → IsBatchOf book (batch_of drum put offers verdicts)
is_batch drum book fed put offers verdicts rule buckets at all keys told are =
    let next = judged_next book in
    let place = drum.last.texts in
    let asked : after drum.settings.rule (keys_of fed) offers ≡ seen (merged book) =
    ap (λ r. after r (keys_of fed) offers) rule ∙ ap (λ m. after book.rule m offers) keys ∙ ap (after book.rule (seen book)) all ∙ sym (merged_seen book) in
    let judged_now : judgements drum.settings.rule (keys_of fed) offers ≡ judgements book.rule (seen book) (pending book) =
    ap (λ r. judgements r (keys_of fed) offers) rule ∙ ap (λ m. judgements book.rule m offers) keys ∙ ap (judgements book.rule (seen book)) all in
    let ones : judged_with drum.settings.buckets offers verdicts ≡ next =
    ap (λ n. judged_with n offers verdicts) buckets ∙ ap (λ (v : List (Option Verdict)). map (judged_as book.buckets) (zip offers v)) told
    ∙ ap (map (judged_as book.buckets)) (zip-judgements drum.settings.rule (keys_of fed) offers) ∙ ap (map (judged_as book.buckets)) judged_now in
    let pairs : map pair_of put ≡ entries (seen (merged book)) = are ∙ ap entries asked in
    let back : offers_of (judged book) ≡ judged_offers book = offers_back book.buckets book.rule book.base (judged_offers book) in
    let there : place ≡ 0 + length (texts_of (offers_of (judged book))) = at ∙ (let e : length (texts_of (judged_offers book)) ≡ 0 + length (texts_of (judged_offers book)) = omega arith in e)
    ∙ ap (λ (l : List Tuple). 0 + length (texts_of l)) (sym back) in
    let more : judged_entries place (judged_with drum.settings.buckets offers verdicts) ≡ judged_entries (0 + length (texts_of (offers_of (judged book)))) next = ap (judged_entries place) ones
    ∙ ap (λ n. judged_entries n next) there in
    let numbers = ap length (merged_uniques book) ∙ length-append (uniques book) (uniques_from (gone book + length (judged book)) next) in
    let found : length (uniques_from 0 (judged_with drum.settings.buckets offers verdicts)) ≡ length (uniques_from (gone book + length (judged book)) next) = ap (λ l. length (uniques_from 0 l)) ones
    ∙ same_count 0 (gone book + length (judged book)) next in
    record {
      pairs = ap pairs_bytes pairs;
      entries_are = sym (length-map put pair_of) ∙ ap length pairs;
      judged_are = ap (λ l. judged_entries 0 (judged book) ++ l) more ∙ sym (entries_both 0 (judged book) next) ∙ ap (judged_entries 0) (sym (merged_judged book));
      unique = omega (arith, numbers, found);
      texts = ap (λ (l : List Tuple). texts_of (judged_offers book) ++ texts_of l) all ∙ sym (flat_map-append (λ (o : Tuple). o.aux) (judged_offers book) (pending book))
          ∙ ap texts_of (sym (merged_offers book));
    }

-- as long as it says
pub fits_batch : (drum : Drum) (put : List Pair) (offers : List Tuple) (verdicts : List (Option Verdict)) → length verdicts ≡ length offers → drum.last.entries ≤ length put
    → length offers + sum drum.last.cut ≡ sum (durables drum) → FitsBatch drum (batch_of drum put offers verdicts)
fits_batch drum put offers verdicts size grow count = record {
  pairs = length-pairs (map pair_of put) ∙ ap (λ n. 16 * n) (length-map put pair_of);
  entries = grow;
  judged = length-entries drum.last.texts drum.settings.buckets offers verdicts size;
  unique = omega (arith, with_uniques 0 drum.settings.buckets offers verdicts size, count_by-le-length is_unique verdicts, size);
  count = count;
  cut = refl;
}

-- and its commit has its room
pub has_room : (drum : Drum) (batch : Batch) → IsDrum drum → batch.cut ≡ durables drum → 16 * batch.entries < 2 ^ 64 → 48 * (drum.last.judged + batch.count) < 2 ^ 64
    → drum.last.texts + length batch.texts < 2 ^ 64 → AllByRecursion (λ (n : ℕ). n < 2 ^ 64) batch.cut
    → HasRoom drum.settings.buckets (next_commit drum batch)
has_room drum batch law cut_is entries_fit judged_fit texts_fit cut = record {
  form = record {
    side = omega arith;
    live = omega arith;
    entries = omega arith;
    judged = omega arith;
    unique = omega arith;
    texts = texts_fit;
    count = ap (λ (l : List ℕ). length l) cut_is ∙ length-map drum.buckets (λ (bucket : Bucket). bucket.durable) ∙ law.count;
    cut = cut;
  };
  judged = judged_fit;
  entries = entries_fit;
}
