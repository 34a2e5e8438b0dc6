-- What a merge makes of an open bay: its commits, its numbers and its buckets are those of the book with one cut more.
use Rattle.std.proofs.Common.{◌≡◌, ◌≢◌, ◌⊎◌, ◌∙◌, ⊎_elim, ℕ, zero, suc, ◌+◌, ◌-◌, ◌*◌, ◌^◌, ◌<◌, ◌≤◌, true, false, Bool, List, [], ◌∷◌, ◌++◌, length, map, get_or, refl, sym, ap, subst, arith, length-append}
use Rattle.std.specs.Prelude.{Option, None, Some, IsSome}
use Rattle.std.proofs.Math.ListN.{get_or-map, get_or-append}
use Rattle.std.proofs.Math.Seq.{get_or-append_seam}
use Rattle.std.specs.List.{AllByRecursion}
use Rattle.irl_offer.specs.declared.receipt.Judged.{Judged}
use Rattle.irl_model.specs.Book.{Book, merged, with_cuts, judged, judged_offers, judged_cut, lengths_of, uniques_from, is_unique, gone}
use Rattle.irl_model.proofs.Merges.{merged_cut, earlier_merged, earlier_all}
use Rattle.irl_journal.specs.Appending.{Tail}
use Rattle.irl_layout.specs.BayFiles.{file_of}
use Rattle.irl_bay.specs.Merging.{Batch}
use Rattle.irl_bay.specs.declared.bucket.Bucket.{Bucket}
use Rattle.irl_layout.specs.declared.files.BayFile.TheVariants.{Manifest}
use Rattle.irl_layout.specs.Runs.{texts_of}
use Rattle.irl_layout.specs.JudgedEntries.{judged_bytes, judged_entries}
use Rattle.irl_layout.specs.Commits.{Commit, IsCommit, IsCommitOf, AreCommitsOf, GrowFrom, NameFrom, first_commit, last_commit, side_of, live_side}
use Rattle.irl_bay.specs.Drum.{Drum, IsDrum, IsBucket, HasNumbers, SomePending, CountsMerge, no_bucket, durables, durable_at}
use Rattle.irl_bay.specs.Merging.{FitsBatch, IsBatchOf, HasRoom, next_commit, emptied, emptied_from, with_commit}

-- ---- how many
pub length-judged_entries : (place : ℕ) (judged : List Judged) → length (judged_entries place judged) ≡ 48 * length judged
length-judged_entries place [] = refl
length-judged_entries place (one ∷ more) = omega (
  arith,
  length-append (judged_bytes place one) (judged_entries (place + length one.offer.aux) more),
  length-judged_entries (place + length one.offer.aux) more,
)

-- ---- a bay's buckets
emptied_at : (base side first b : ℕ) (buckets : List Bucket) → b < length buckets
    → get_or (emptied_from base side first buckets) b no_bucket ≡ emptied base side (first + b) (get_or buckets b no_bucket).durable
emptied_at base side first b [] within = absurd (omega (arith, within))
emptied_at base side first zero (bucket ∷ buckets) within = let e : first ≡ first + 0 = omega arith in ap (λ (n : ℕ). emptied base side n bucket.durable) e
emptied_at base side first (suc b) (bucket ∷ buckets) within =
    let e : (first + 1) + b ≡ first + suc b = omega arith in
    emptied_at base side (first + 1) b buckets (omega (arith, within)) ∙ ap (λ (n : ℕ). emptied base side n (get_or buckets b no_bucket).durable) e

pub bucket_emptied : (drum : Drum) (side b : ℕ) → b < length drum.buckets → get_or (emptied_from drum.base side 0 drum.buckets) b no_bucket ≡ emptied drum.base side b (durable_at drum b)
bucket_emptied drum side b within = let e : 0 + b ≡ b = omega arith in emptied_at drum.base side 0 b drum.buckets within ∙ ap (λ (n : ℕ). emptied drum.base side n (durable_at drum b)) e

pub length-emptied : (base side first : ℕ) (buckets : List Bucket) → length (emptied_from base side first buckets) ≡ length buckets
length-emptied base side first [] = refl
length-emptied base side first (bucket ∷ buckets) = ap (λ (n : ℕ). suc n) (length-emptied base side (first + 1) buckets)

pub durable_is : (drum : Drum) (b : ℕ) → get_or (durables drum) b 0 ≡ durable_at drum b
durable_is drum b = get_or-map (λ (bucket : Bucket). bucket.durable) drum.buckets b no_bucket

pub durables_same : (base side first : ℕ) (buckets : List Bucket) → map (λ (bucket : Bucket). bucket.durable) (emptied_from base side first buckets) ≡ map (λ (bucket : Bucket). bucket.durable) buckets
durables_same base side first [] = refl
durables_same base side first (bucket ∷ more) = ap (λ (l : List ℕ). bucket.durable ∷ l) (durables_same base side (first + 1) more)

-- what every open bay keeps, it keeps through a merge
pub drum_committed : (drum : Drum) (next : Commit) (manifest : Tail) → IsDrum drum → HasRoom drum.settings.buckets next → next.cut ≡ durables drum → next.live ≡ Some (1 - live_side drum.last)
    → manifest.file ≡ file_of drum.base 0 Manifest → manifest.is_sound ≡ true
    → drum.cuts + 1 ≤ manifest.end → IsDrum (with_commit manifest next drum)
drum_committed drum next manifest law room cut live file sound cuts = record {
  base = law.base;
  settings = law.settings;
  last = room.form;
  judged = room.judged;
  entries = room.entries;
  manifest = file;
  sound = λ is. sound;
  cuts = cuts;
  count = length-emptied drum.base (1 - live_side drum.last) 0 drum.buckets ∙ law.count;
  buckets = λ b within.
      let e = ap (λ (l : List ℕ). get_or l b 0) cut ∙ durable_is drum b in
      let side : live_side next ≡ 1 - live_side drum.last = ap side_of live in
      subst (λ (n : ℕ). IsBucket drum.base n b (get_or next.cut b 0) true (get_or (emptied_from drum.base (1 - live_side drum.last) 0 drum.buckets) b no_bucket)) (sym side)
      (subst (λ (bucket : Bucket). IsBucket drum.base (1 - live_side drum.last) b (get_or next.cut b 0) true bucket)
      (sym (bucket_emptied drum (1 - live_side drum.last) b (omega (arith, law.count, within)))) (record {
        journal = refl;
        aux = refl;
        sound = λ sound_is. refl;
        start = omega (arith, e);
        judged = omega (arith, e);
        gate = omega arith;
        text = omega arith;
      }));
}

pub all_fit : (numbers : List ℕ) → ((i : ℕ) → get_or numbers i 0 < 2 ^ 64) → AllByRecursion (λ (n : ℕ). n < 2 ^ 64) numbers
all_fit [] each = tt
all_fit (n ∷ numbers) each = (each 0, all_fit numbers (λ i. each (suc i)))

-- ---- a book's commits
-- the counts of keys don't fall with one more
grow_more : (first : Commit) (commits : List Commit) (next : Commit) → GrowFrom first.entries commits → (last_commit first commits).entries ≤ next.entries
    → GrowFrom first.entries (commits ++ next ∷ [])
grow_more first [] next grow rises = (rises, tt)
grow_more first (commit ∷ commits) next grow rises = (grow.0, grow_more commit commits next grow.1 rises)

pub last_is : (first : Commit) (commits : List Commit) (next : Commit) → last_commit first (commits ++ next ∷ []) ≡ next
last_is first [] next = refl
last_is first (commit ∷ commits) next = last_is commit commits next

name_more : (live : Option ℕ) (commits : List Commit) (next : Commit) → NameFrom live commits → IsSome next.live → NameFrom live (commits ++ next ∷ [])
name_more live [] next names some = (λ is. some, tt)
name_more live (commit ∷ commits) next names some = (names.0, name_more commit.live commits next names.1 some)

form_more : (buckets : ℕ) (commits : List Commit) (next : Commit) → AllByRecursion (IsCommit buckets) commits → IsCommit buckets next → AllByRecursion (IsCommit buckets) (commits ++ next ∷ [])
form_more buckets [] next forms form = (form, tt)
form_more buckets (commit ∷ commits) next forms form = (forms.0, form_more buckets commits next forms.1 form)

each_more : (book : Book) (commits : List Commit) (next d : Commit) → AreCommitsOf book commits → IsCommitOf (merged book) next → d ≡ first_commit book.buckets
    → (i : ℕ) → i < length (commits ++ next ∷ []) → IsCommitOf (with_cuts (i + 1) (merged book)) (get_or (commits ++ next ∷ []) i (first_commit book.buckets))
each_more book commits next d are is default i within = ⊎_elim earlier last (either i (length commits) (omega (arith, within, length-append commits (next ∷ []))))
  where
    either : (i n : ℕ) → i < n + 1 → (i < n) ⊎ (i ≡ n)
    either i n le = grind arith

    earlier : i < length commits → IsCommitOf (with_cuts (i + 1) (merged book)) (get_or (commits ++ next ∷ []) i (first_commit book.buckets))
    earlier before =
        let le : i + 1 ≤ length book.cuts = omega (arith, are.count) in
        subst (λ (x : Book). IsCommitOf x (get_or (commits ++ next ∷ []) i (first_commit book.buckets))) (sym (earlier_merged (i + 1) book le))
        (subst (λ (x : Commit). IsCommitOf (with_cuts (i + 1) book) x) (sym (get_or-append commits (next ∷ []) (first_commit book.buckets) i before)) (are.each i before))

    last : i ≡ length commits → IsCommitOf (with_cuts (i + 1) (merged book)) (get_or (commits ++ next ∷ []) i (first_commit book.buckets))
    last at =
        let all : length (merged book).cuts ≤ i + 1 = omega (arith, are.count, length-append book.cuts (lengths_of book ∷ [])) in
        let here : get_or (commits ++ next ∷ []) i (first_commit book.buckets) ≡ next = ap (λ (n : ℕ). get_or (commits ++ next ∷ []) n (first_commit book.buckets)) at
        ∙ get_or-append_seam commits next [] (first_commit book.buckets) in
        subst (λ (x : Book). IsCommitOf x (get_or (commits ++ next ∷ []) i (first_commit book.buckets))) (sym (earlier_all (i + 1) (merged book) all))
        (subst (λ (x : Commit). IsCommitOf (merged book) x) (sym here) is)

-- a commit for each cut, and one for the new cut
pub commits_more : (book : Book) (commits : List Commit) (next : Commit) → AreCommitsOf book commits → IsCommitOf (merged book) next → IsCommit book.buckets next
    → (last_commit (first_commit book.buckets) commits).entries ≤ next.entries → IsSome next.live → AreCommitsOf (merged book) (commits ++ next ∷ [])
commits_more book commits next are is form rises some = record {
  count = omega (arith, are.count, length-append commits (next ∷ []), length-append book.cuts (lengths_of book ∷ []));
  each = each_more book commits next _ are is refl;
  form = form_more book.buckets commits next are.form form;
  grow = grow_more (first_commit book.buckets) commits next are.grow rises;
  name = name_more None commits next are.name some;
}

-- ---- a bay's numbers
few_uniques : (number : ℕ) (judged : List Judged) → length (uniques_from number judged) ≤ length judged
few_uniques number [] = omega arith
few_uniques number (one ∷ more) = by_test (is_unique one.verdict) refl (few_uniques (number + 1) more)
  where
    by_test : (test : Bool) → is_unique one.verdict ≡ test → length (uniques_from (number + 1) more) ≤ length more → length (uniques_from number (one ∷ more)) ≤ length (one ∷ more)
    by_test true is le = rw is (omega arith)
    by_test false is le = rw is (omega arith)

-- the commit of a batch is that of the merged book
pub next_is : (drum : Drum) (book : Book) (batch : Batch) → HasNumbers drum book → FitsBatch drum batch → IsBatchOf book batch → HasRoom drum.settings.buckets (next_commit drum batch)
    → IsCommitOf (merged book) (next_commit drum batch)
next_is drum book batch numbers fits is room =
    let judged_is : drum.last.judged + batch.count ≡ length (judged (merged book)) =
    omega (
      arith,
      numbers.commit.judged,
      fits.judged,
      ap (λ (l : List ℕ). length l) is.judged_are,
      length-append (judged_entries 0 (judged book)) batch.judged,
      length-judged_entries 0 (judged book),
      length-judged_entries 0 (judged (merged book)),
    ) in
    record {
      judged = judged_is;
      unique = omega (arith, numbers.commit.unique, is.unique, few_uniques (gone (merged book)) (judged (merged book)), judged_is, room.judged);
      texts = omega (arith, numbers.commit.texts, ap (λ (l : List ℕ). length l) is.texts, length-append (texts_of (judged_offers book)) batch.texts);
      cut = fits.cut ∙ numbers.offers ∙ sym (merged_cut book);
    }

pub numbers_merged : (drum : Drum) (book : Book) (batch : Batch) (manifest : Tail) → HasNumbers drum book → FitsBatch drum batch → IsBatchOf book batch
    → HasRoom drum.settings.buckets (next_commit drum batch) → HasNumbers (with_commit manifest (next_commit drum batch) drum) (merged book)
numbers_merged drum book batch manifest numbers fits is room = record {
  offers = durables_same drum.base (1 - live_side drum.last) 0 drum.buckets ∙ numbers.offers;
  commit = next_is drum book batch numbers fits is room;
  cuts = omega (arith, numbers.cuts, length-append book.cuts (lengths_of book ∷ []));
}

-- what the merge makes of the numbers
pub counts_merged : (drum : Drum) (batch : Batch) (manifest : Tail) → IsDrum drum → FitsBatch drum batch → CountsMerge drum (with_commit manifest (next_commit drum batch) drum)
counts_merged drum batch manifest law fits = record {
  base = refl;
  settings = refl;
  cuts = refl;
  offers = durables_same drum.base (1 - live_side drum.last) 0 drum.buckets;
  cut = fits.cut;
  side = refl;
  live = refl;
  entries = fits.entries;
  unique = omega (arith, law.last.unique);
  unique_more = omega (arith, fits.unique);
  texts = omega arith;
  judged = omega (arith, fits.count);
}

-- where an offer is pending, the last cut isn't at the lists' ends
pub pending_differs : (drum : Drum) (book : Book) → HasNumbers drum book → SomePending drum → judged_cut book ≢ lengths_of book
pending_differs drum book numbers some = λ same.
    let b = some.0 in
    let cut : drum.last.cut ≡ durables drum = numbers.commit.cut ∙ same ∙ sym numbers.offers in
    let at = ap (λ (l : List ℕ). get_or l b 0) cut ∙ durable_is drum b in
    omega (arith, at, some.2)
