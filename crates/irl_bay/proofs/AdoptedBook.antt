-- A bay that is opened over files that stand for a book holds the book.
use Rattle.std.proofs.Common.{◌≡◌, ◌∙◌, ℕ, suc, zero, ◌+◌, ◌-◌, ◌*◌, ◌^◌, ◌<◌, ◌≤◌, List, [], ◌∷◌, ◌++◌, length, map, take, drop, get_or, refl, sym, ap, subst, arith, length-append}
use Rattle.std.proofs.lemmas.List.Concat.{flat_map-cons}
use Rattle.std.proofs.lemmas.List.Folds.{sum_by-replicate}
use Rattle.std.proofs.lemmas.List.Sums.{get_or-le-sum_by}
use Rattle.std.specs.Prelude.{replicate, sum}
use Rattle.std.specs.List.{AllByRecursion}
use Rattle.std.specs.FinMap.{entries}
use Rattle.byteorder.specs.Endian.{little_bytes}
use Rattle.irl_offer.specs.Buckets.{bucket_of}
use Rattle.irl_offer.specs.Tuple.{Tuple}
use Rattle.irl_offer.specs.declared.receipt.Judged.{Judged as JudgedOffer}
use Rattle.irl_offer.specs.declared.settings.Settings.{Settings}
use Rattle.irl_model.specs.Judging.{after}
use Rattle.irl_model.specs.Book.{Book, IsBelow, AreCuts, AreOfBuckets, last_cut, judged_cut, list_lengths, lengths_of, judged, judged_offers, gone}
use Rattle.irl_model.proofs.Merges.{judged_count}
use Rattle.irl_disk.specs.Disk.{Files, ChangesFile}
use Rattle.irl_journal.specs.Appending.{Tail, Ends, IsOpen}
use Rattle.irl_journal.specs.Blob.{BeginsWith, IsCommitted}
use Rattle.irl_journal.specs.Visiting.{IsOpened}
use Rattle.irl_journal.proofs.Fronts.{begins_take}
use Rattle.irl_layout.specs.BayFiles.{file_of}
use Rattle.irl_layout.specs.declared.files.BayFile.TheVariants.{Manifest, Cache, Judged, Texts, Journal, Aux}
use Rattle.irl_bay.specs.declared.bucket.Bucket.{Bucket}
use Rattle.irl_cache.specs.SortedRun.{pairs_bytes}
use Rattle.irl_layout.specs.Commits.{Commit, IsCommit, IsCommitOf, commit_bytes, first_commit, last_commit, live_side, live_offers, starts, starts_by}
use Rattle.irl_layout.specs.Commits.{starts_of}
use Rattle.irl_bay.specs.Drum.{no_bucket}
use Rattle.irl_bay.specs.Holding.{Holds, HoldsBucket}
use Rattle.irl_layout.specs.JudgedEntries.{judged_entries, judged_bytes}
use Rattle.irl_bay.specs.Opening.{AreFronts, HasListOf, IsOpenBucket, OpensBelow}
use Rattle.irl_layout.specs.Runs.{HasBucket, texts_of}
use Rattle.irl_bay.specs.Standing.{Stands, IsBookOf, HasBucketOf}
use Rattle.irl_bay.proofs.Adopted.{opened_drum, elsewhere, below_same, first_is, last_is, start_below}
use Rattle.irl_bay.proofs.Below.{each_below}
use Rattle.irl_layout.proofs.CommitBytes.{one_commit}
use Rattle.irl_bay.proofs.LastCommit.{last_of_book}
use Rattle.irl_bay.proofs.Live.{live_length}

-- ---- numbers
pub last_within : (from end : List ℕ) (cuts : List (List ℕ)) → AreCuts from cuts end → IsBelow (last_cut from cuts) end
last_within from end [] are = are
last_within from end (cut ∷ cuts) are = last_within cut end cuts are.2

lengths_zero : (n : ℕ) (lists : List (List Tuple)) → length lists ≡ n → list_lengths (replicate n 0) lists ≡ map (λ list. length list) lists
lengths_zero zero [] same = refl
lengths_zero zero (list ∷ lists) same = absurd (omega (arith, same))
lengths_zero (suc n) [] same = absurd (omega (arith, same))
lengths_zero (suc n) (list ∷ lists) same =
    let first : 0 + length list ≡ length list = omega arith in
    let rest = lengths_zero n lists (omega (arith, same)) in
    cc

pub lengths_are : (settings : Settings) (book : Book) → IsBookOf settings book → lengths_of book ≡ map (λ list. length list) book.lists
lengths_are settings book is = ap (λ (firsts : List ℕ). list_lengths firsts book.lists) (is.is_book.none is.dropped).1 ∙ lengths_zero book.buckets book.lists is.is_book.lists

pub length-at : (lists : List (List Tuple)) (b : ℕ) → get_or (map (λ list. length list) lists) b 0 ≡ length (get_or lists b [])
length-at [] b = refl
length-at (list ∷ lists) zero = refl
length-at (list ∷ lists) (suc b) = length-at lists b

same_durables : (buckets : List Bucket) (lists : List (List Tuple)) (d : Bucket) → length buckets ≡ length lists
    → ((b : ℕ) → b < length lists → (get_or buckets b d).durable ≡ length (get_or lists b [])) → map (λ bucket. bucket.durable) buckets ≡ map (λ list. length list) lists
same_durables [] [] d same each = refl
same_durables [] (list ∷ lists) d same each = absurd (omega (arith, same))
same_durables (bucket ∷ buckets) [] d same each = absurd (omega (arith, same))
same_durables (bucket ∷ buckets) (list ∷ lists) d same each =
    let first : bucket.durable ≡ length list = each 0 (omega arith) in
    let rest = same_durables buckets lists d (omega (arith, same)) (λ b within. each (suc b) (omega (arith, within))) in
    cc

-- the offers of a list are of its bucket
pub of_bucket : (buckets c b : ℕ) (lists : List (List Tuple)) → AreOfBuckets buckets c lists → AllByRecursion (λ (offer : Tuple). bucket_of buckets offer.key ≡ c + b) (get_or lists b [])
of_bucket buckets c b [] are = tt
of_bucket buckets c zero (list ∷ lists) are = let same : c ≡ c + 0 = omega arith in subst (λ (n : ℕ). AllByRecursion (λ (offer : Tuple). bucket_of buckets offer.key ≡ n) list) same are.0
of_bucket buckets c (suc b) (list ∷ lists) are = let same : c + 1 + b ≡ c + suc b = omega arith in
    subst (λ (n : ℕ). AllByRecursion (λ (offer : Tuple). bucket_of buckets offer.key ≡ n) (get_or lists b [])) same (of_bucket buckets (c + 1) b lists are.1)

-- ---- lengths of what is committed
pub length-pairs : (pairs : List (ℕ × ℕ)) → length (pairs_bytes pairs) ≡ 16 * length pairs
length-pairs [] = refl
length-pairs (p ∷ pairs) = ap length (flat_map-cons (λ (q : ℕ × ℕ). little_bytes 8 q.0 ++ little_bytes 8 q.1) p pairs) ∙ omega (arith, length-pairs pairs)

pub length-judged : (place : ℕ) (offers : List JudgedOffer) → length (judged_entries place offers) ≡ 48 * length offers
length-judged place [] = refl
length-judged place (one ∷ more) = length-append (judged_bytes place one) (judged_entries (place + length one.offer.aux) more) ∙ omega (arith, length-judged (place + length one.offer.aux) more)

-- bytes that were committed when the three files were opened are so at the end
front_held : (base side buckets f n : ℕ) (before images : Files → Type 0) (file held : List ℕ) → f < base + 10
    → ((image : Files) → images image → (was : Files) × before was × OpensBelow base side buckets was image) → IsCommitted before (record { file = f; length = n }) (take n file) → BeginsWith file held
    → length held ≡ n
    → IsCommitted images (record { file = f; length = n }) held
front_held base side buckets f n before images file held low kept committed begins size =
    let same : take n file ≡ held = ap (λ (m : ℕ). take m file) (sym size) ∙ begins_take file held begins in
    let held_before = subst (IsCommitted before (record { file = f; length = n })) same committed in
    record {
      size = size;
      each = λ image left.
          let was = kept image left in
          subst (λ (bytes : List ℕ). BeginsWith bytes held) (sym (below_same base side buckets f was.0 image was.2 low)) (held_before.each was.0 was.1);
    }

-- ---- one list of commits
pub same_commits : (buckets : ℕ) (xs ys : List Commit) → AllByRecursion (IsCommit buckets) xs → AllByRecursion (IsCommit buckets) ys → map commit_bytes xs ≡ map commit_bytes ys → xs ≡ ys
same_commits buckets [] [] each_x each_y same = refl
same_commits buckets [] (y ∷ ys) each_x each_y same = cc
same_commits buckets (x ∷ xs) [] each_x each_y same = cc
same_commits buckets (x ∷ xs) (y ∷ ys) each_x each_y same =
    let front : commit_bytes x ≡ commit_bytes y = cc in
    let rest : map commit_bytes xs ≡ map commit_bytes ys = cc in
    let first : x ≡ y = one_commit buckets (commit_bytes x) x y each_x.0 each_y.0 refl front in
    let behind : xs ≡ ys = same_commits buckets xs ys each_x.1 each_y.1 rest in
    cc

-- ---- the book
-- the numbers that a commit's live files begin with are the book's
pub starts_same : (settings : Settings) (book : Book) (last : Commit) → IsBookOf settings book → starts book last ≡ starts_of settings.buckets last
starts_same settings book last is = ap (λ (firsts : List ℕ). starts_by firsts last.cut last.live) ((is.is_book.none is.dropped).1 ∙ ap (λ (n : ℕ). replicate n 0) is.buckets)

-- a cut counts the judged offers
pub cut_sum : (settings : Settings) (book : Book) (last : Commit) → IsBookOf settings book → IsCommitOf book last → sum last.cut ≡ last.judged
cut_sum settings book last is commit =
    let zeros : gone book ≡ book.buckets * 0 = ap sum (is.is_book.none is.dropped).1 ∙ sum_by-replicate (λ (m : ℕ). m) book.buckets 0 in
    omega (arith, ap sum commit.cut, judged_count book is.is_book, zeros, commit.judged)

-- and a bucket's cut those of the bucket
cut_counts : (settings : Settings) (book : Book) (last : Commit) (b : ℕ) → IsBookOf settings book → IsCommitOf book last → IsCommit settings.buckets last → b < settings.buckets
    → get_or last.cut b 0 ≤ last.judged
cut_counts settings book last b is commit form within = omega (arith, get_or-le-sum_by (λ (n : ℕ). n) last.cut b 0 (omega (arith, within, form.count)), cut_sum settings book last is commit)

all_drop : (P : Tuple → Type 0) (n : ℕ) (xs : List Tuple) → AllByRecursion P xs → AllByRecursion P (drop n xs)
all_drop P zero xs each = each
all_drop P (suc n) [] each = tt
all_drop P (suc n) (x ∷ xs) each = all_drop P n xs each.1

-- the last commit of a book whose bay is opened
pub record IsLastOf (settings : Settings) (book : Book) (last : Commit) : Type 0 where
  pub book_is : IsBookOf settings book
  pub commit : IsCommitOf book last
  pub form : IsCommit settings.buckets last

-- a bucket's list goes up to its cut and further, and its start is at or below the cut
pub record IsCutIn (settings : Settings) (book : Book) (last : Commit) (b : ℕ) : Type 0 where
  pub start : get_or (starts book last) b 0 ≡ get_or (starts_of settings.buckets last) b 0
  pub below : get_or (starts_of settings.buckets last) b 0 ≤ get_or last.cut b 0
  pub within : get_or last.cut b 0 ≤ length (get_or book.lists b [])
  pub live : get_or (starts_of settings.buckets last) b 0 + length (live_offers book last b) ≡ length (get_or book.lists b [])

pub cut_in : (settings : Settings) (book : Book) (last : Commit) (b : ℕ) → IsLastOf settings book last → b < settings.buckets → IsCutIn settings book last b
cut_in settings book last b is inside =
    let same : get_or (starts book last) b 0 ≡ get_or (starts_of settings.buckets last) b 0 = ap (λ (l : List ℕ). get_or l b 0) (starts_same settings book last is.book_is) in
    let under = each_below (judged_cut book) (lengths_of book) (last_within book.firsts (lengths_of book) book.cuts is.book_is.is_book.cuts) b in
    let cut : get_or last.cut b 0 ≡ get_or (judged_cut book) b 0 = ap (λ (l : List ℕ). get_or l b 0) is.commit.cut in
    let long : get_or (lengths_of book) b 0 ≡ length (get_or book.lists b []) = ap (λ (l : List ℕ). get_or l b 0) (lengths_are settings book is.book_is) ∙ length-at book.lists b in
    let low = start_below settings.buckets b last inside in
    record {
      start = same;
      below = low;
      within = omega (arith, under, cut, long);
      live = omega (arith, same, live_length settings book last b is.book_is (omega (arith, inside, is.book_is.buckets)) (omega (arith, same, low, under, cut, long)));
    }

-- the live offers of a bucket are its own
pub live_here : (settings : Settings) (book : Book) (last : Commit) (b : ℕ) → IsBookOf settings book
    → AllByRecursion (λ (offer : Tuple). bucket_of settings.buckets offer.key ≡ b) (live_offers book last b)
live_here settings book last b is =
    let none_more : 0 + b ≡ b = omega arith in
    all_drop (λ (offer : Tuple). bucket_of settings.buckets offer.key ≡ b) (get_or (starts book last) b 0 - get_or book.firsts b 0) (get_or book.lists b [])
    (subst (λ (k : ℕ). AllByRecursion (λ (offer : Tuple). bucket_of k offer.key ≡ b) (get_or book.lists b [])) is.buckets
    (subst (λ (n : ℕ). AllByRecursion (λ (offer : Tuple). bucket_of book.buckets offer.key ≡ n) (get_or book.lists b [])) none_more (of_bucket book.buckets 0 b book.lists is.is_book.each)))

pub list_of : (base : ℕ) (settings : Settings) (book : Book) (old new : Files) (last : Commit) (b : ℕ) → IsLastOf settings book last
    → HasBucketOf base settings.array last b (live_offers book last b) old → ChangesFile (file_of base 0 Manifest) IsOpened old new → 48 * last.judged < 2 ^ 64 → b < settings.buckets
    → HasListOf base (live_side last) settings b (get_or (starts_of settings.buckets last) b 0) (get_or last.cut b 0 - get_or (starts_of settings.buckets last) b 0) (live_offers book last b) new
list_of base settings book old new last b is has step few within =
    let side : ℕ = live_side last in
    let list = live_offers book last b in
    let cut = cut_in settings book last b is within in
    record {
      has = subst (λ (file : List ℕ). HasBucket settings.array list file (new (file_of base 0 (Aux side b)))) (sym (elsewhere base (file_of base 0 (Journal side b)) old new step (omega arith)))
          (subst (λ (file : List ℕ). HasBucket settings.array list (old (file_of base 0 (Journal side b))) file) (sym (elsewhere base (file_of base 0 (Aux side b)) old new step (omega arith))) has);
      here = live_here settings book last b is.book_is;
      within = omega (arith, cut.below, cut.within, cut.live);
      few = omega (arith, few, cut.below, cut_counts settings book last b is.book_is is.commit is.form within);
    }

pub holds_is : (base : ℕ) (settings : Settings) (manifest : Tail) (last : Commit) (cuts : ℕ) (buckets : List Bucket) (before images : Files
    → Type 0) (old mid : Files) (book : Book) (stands : Stands base settings book old)
    → ChangesFile (file_of base 0 Manifest) IsOpened old mid → ((image : Files) → images image → (was : Files) × before was × OpensBelow base (live_side last) settings.buckets was image)
    → manifest.file ≡ file_of base 0 Manifest → IsOpen before manifest (map commit_bytes stands.commits)
    → last ≡ last_commit (first_commit settings.buckets) stands.commits → cuts ≡ length stands.commits → 48 * last.judged < 2 ^ 64 → AreFronts before base last mid → length buckets ≡ settings.buckets
    → ((b : ℕ) → b < settings.buckets → IsOpenBucket base (live_side last) b (get_or (starts_of settings.buckets last) b 0) (get_or buckets b no_bucket))
    → ((b : ℕ) (list : List Tuple) → b < settings.buckets → HasListOf base (live_side last) settings b (get_or (starts_of settings.buckets last) b 0)
    (get_or last.cut b 0 - get_or (starts_of settings.buckets last) b 0) list mid
    → HoldsBucket images settings.array (get_or last.cut b 0 - get_or (starts_of settings.buckets last) b 0) (get_or buckets b no_bucket) list)
    → Holds images (opened_drum base settings manifest last cuts buckets) book
holds_is base settings manifest last cuts buckets before images old mid book stands step kept is_manifest is_open is_last count few fronts long opened each =
    let is = stands.book_is in
    let here : last ≡ last_commit (first_commit book.buckets) stands.commits = is_last ∙ ap (λ (k : ℕ). last_commit (first_commit k) stands.commits) (sym is.buckets) in
    let commit : IsCommitOf book last = subst (λ (x : Commit). IsCommitOf book x) (sym here) (last_of_book settings book stands.commits is stands.commits_are) in
    let form : IsCommit settings.buckets last = subst (λ (k : ℕ). IsCommit k last) is.buckets
    (subst (λ (x : Commit). IsCommit book.buckets x) (sym here) (last_is book.buckets (first_commit book.buckets) stands.commits (first_is book.buckets) stands.commits_are.form)) in
    let ends : IsLastOf settings book last = record { book_is = is; commit = commit; form = form } in
    let side : last.side ≤ 1 = form.side in
    let standing = λ (b : ℕ) (within : b < book.buckets). subst (λ (x : Commit). HasBucketOf base settings.array x b (live_offers book x b) old) (sym here) (stands.buckets b within) in
    let held = λ (b : ℕ) (within : b < settings.buckets). each b (live_offers book last b) within
    (list_of base settings book old mid last b ends (standing b (omega (arith, within, is.buckets))) step few within) in
    let keys : last.entries ≡ length (entries (after book.rule book.base (judged_offers book))) = ap (λ (x : Commit). x.entries) here ∙ stands.cache.count in
    let cache_file : mid (file_of base 0 (Cache last.side)) ≡ old (file_of base 0 (Cache (last_commit (first_commit book.buckets) stands.commits).side)) =
    elsewhere base (file_of base 0 (Cache last.side)) old mid step (omega arith) ∙ ap (λ (x : Commit). old (file_of base 0 (Cache x.side))) here in
    record {
      book_is = is;
      offers = stands.offers;
      starts_are = λ b within.
          let inside : b < settings.buckets = omega (arith, within, is.buckets) in
          (opened b inside).start ∙ sym (cut_in settings book last b ends inside).start;
      buckets = λ b within.
          let inside : b < settings.buckets = omega (arith, within, is.buckets) in
          subst (λ (n : ℕ). HoldsBucket images settings.array (get_or last.cut b 0 - n) (get_or buckets b no_bucket) (live_offers book last b)) (sym (opened b inside).start) (held b inside);
      commits = stands.commits;
      commits_are = stands.commits_are;
      last = here;
      numbers = record {
        offers = same_durables buckets book.lists no_bucket (omega (arith, long, is.is_book.lists, is.buckets))
            (λ b within.
            let inside : b < settings.buckets = omega (arith, within, is.is_book.lists, is.buckets) in
            omega (arith, (held b inside).durable, (opened b inside).start, (cut_in settings book last b ends inside).live))
            ∙ sym (lengths_are settings book is);
        commit = commit;
        cuts = omega (arith, count, stands.commits_are.count, is.dropped);
      };
      manifest = λ image left.
          let was = kept image left in
          subst (λ (file : List ℕ). Ends manifest.end file (map commit_bytes stands.commits))
          (sym (below_same base (live_side last) settings.buckets manifest.file was.0 image was.2 (omega (arith, is_manifest)))) (is_open was.0 was.1);
      keys = keys;
      cache = front_held base (live_side last) settings.buckets (file_of base 0 (Cache last.side)) (16 * last.entries) before images (mid (file_of base 0 (Cache last.side)))
          (pairs_bytes (entries (after book.rule book.base (judged_offers book)))) (omega (arith, side)) kept fronts.cache
          (subst (λ (file : List ℕ). BeginsWith file (pairs_bytes (entries (after book.rule book.base (judged_offers book))))) (sym cache_file) stands.cache.bytes)
          (omega (arith, keys, length-pairs (entries (after book.rule book.base (judged_offers book)))));
      judged_are = front_held base (live_side last) settings.buckets (file_of base 0 Judged) (48 * last.judged) before images (mid (file_of base 0 Judged)) (judged_entries 0 (judged book))
          (omega arith) kept fronts.judged
          (subst (λ (file : List ℕ). BeginsWith file (judged_entries 0 (judged book))) (sym (elsewhere base (file_of base 0 Judged) old mid step (omega arith))) stands.judged_are)
          (omega (arith, commit.judged, length-judged 0 (judged book)));
      texts = front_held base (live_side last) settings.buckets (file_of base 0 Texts) last.texts before images (mid (file_of base 0 Texts)) (texts_of (judged_offers book)) (omega arith) kept
          fronts.texts
          (subst (λ (file : List ℕ). BeginsWith file (texts_of (judged_offers book))) (sym (elsewhere base (file_of base 0 Texts) old mid step (omega arith))) stands.texts) (sym commit.texts);
    }
