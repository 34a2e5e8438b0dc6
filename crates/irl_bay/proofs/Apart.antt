-- Which files are a bay's: what lies in others means nothing, and a stop that leaves the bay's as they were leaves its book.
use Rattle.std.proofs.Common.{◌≡◌, ◌≢◌, ◌⊎◌, ◌∙◌, inl, inr, ℕ, zero, suc, ◌+◌, ◌-◌, ◌*◌, ◌<◌, ◌≤◌, List, [], ◌∷◌, length, refl, sym, ap, subst, arith, Option}
use Rattle.std.specs.List.{AllByRecursion}
use Rattle.std.specs.Option.{ForSome}
use Rattle.std.specs.Ordering.{nat_cmp}
use Rattle.std.specs.FinMap.{entries, empty, from_sorted, entries-from_sorted, empty_of_len, len-entries}
use Rattle.irl_offer.specs.declared.settings.Settings.{Settings}
use Rattle.irl_offer.specs.Settings.{AreValid}
use Rattle.irl_offer.specs.Tuple.{Tuple}
use Rattle.irl_model.specs.Book.{Book, blank_book}
use Rattle.irl_disk.specs.Disk.{Files, ChangesAmong, ChangesOnly, TellsOnly}
use Rattle.irl_disk.specs.Images.{Told, IsConsistent, LeavesBy}
use Rattle.irl_disk.proofs.Stretches.{left_now}
use Rattle.irl_journal.specs.Format.{StandsFor}
use Rattle.irl_journal.specs.Blob.{BeginsWith}
use Rattle.irl_journal.specs.Visiting.{IsOpened}
use Rattle.irl_journal.proofs.Opened.{opened_stands}
use Rattle.irl_layout.specs.declared.files.BayFile.TheVariants.{Manifest, Cache, Judged, Texts, Journal, Aux}
use Rattle.irl_layout.specs.BayFiles.{file_of, IsFileOf, IsBucketFile, IsSideFile}
use Rattle.irl_layout.specs.Runs.{IsOffer, HasBucket}
use Rattle.irl_layout.specs.Commits.{Commit, IsCommit, first_commit, last_commit, live_side}
use Rattle.irl_bay.specs.Standing.{Stands}
use Rattle.irl_bay.specs.Drum.{Drum, IsDrum, cache_front, judged_front, texts_front, bucket_at}
use Rattle.irl_bay.specs.Holding.{Holds, IsLong}
use Rattle.irl_bay.specs.Making.{IsUnmade, IsJournalOf}
use Rattle.irl_bay.specs.Merging.{IsBatchFile, IsMergeFile}
use Rattle.irl_bay.proofs.Blank.{blank_is_book, blank_lists, blank_live}
use Rattle.irl_bay.proofs.DrumFiles.{live_low}
use Rattle.irl_bay.proofs.MergeFrames.{Stays, same_front, tail_moved, holds_moved}
use Rattle.irl_bay.proofs.Staying.{told_before}

-- ---- a bay's files
-- those of a bucket
pub bucket_files : (base buckets side b f : ℕ) → b < buckets → IsBucketFile base side b f → side ≤ 1 → IsFileOf base buckets f
bucket_files base buckets side b f within (inl e) low = (Journal side b, (low, within), e)
bucket_files base buckets side b f within (inr e) low = (Aux side b, (low, within), e)

-- those of all buckets on a side
pub side_files : (base buckets side f : ℕ) → side ≤ 1 → IsSideFile base side buckets f → IsFileOf base buckets f
side_files base buckets side f low is = bucket_files base buckets side is.0 f is.1 is.2 low

-- the journals
pub journal_files : (base buckets f : ℕ) → IsJournalOf base buckets f → IsFileOf base buckets f
journal_files base buckets f (inl e) = (Manifest, tt, e)
journal_files base buckets f (inr is) = (Journal is.0 is.1, (is.2, is.3), is.4)

-- and those that a merge changes
pub batch_files : (drum : Drum) (f : ℕ) → IsBatchFile drum f → IsFileOf drum.base drum.settings.buckets f
batch_files drum f (inl e) = let side : 1 - drum.last.side ≤ 1 = omega arith in (Cache (1 - drum.last.side), side, e)
batch_files drum f (inr (inl e)) = (Judged, tt, e)
batch_files drum f (inr (inr e)) = (Texts, tt, e)

pub merge_files : (drum : Drum) (f : ℕ) → IsMergeFile drum f → IsFileOf drum.base drum.settings.buckets f
merge_files drum f (inl e) = (Manifest, tt, e)
merge_files drum f (inr (inl is)) = batch_files drum f is
merge_files drum f (inr (inr is)) = side_files drum.base drum.settings.buckets (1 - live_side drum.last) f (omega arith) is

-- they are among 628 in a row
pub files_within : (base buckets f : ℕ) → buckets ≤ 64 → IsFileOf base buckets f → (base ≤ f) × (f < base + 628)
files_within base buckets f few (Manifest, is, e) = (omega (arith, e), omega (arith, e))
files_within base buckets f few (Cache side, is, e) = (omega (arith, e, is), omega (arith, e, is))
files_within base buckets f few (Judged, is, e) = (omega (arith, e), omega (arith, e))
files_within base buckets f few (Texts, is, e) = (omega (arith, e), omega (arith, e))
files_within base buckets f few (Journal side b, is, e) = (omega (arith, e), omega (arith, e, is.0, is.1, few))
files_within base buckets f few (Aux side b, is, e) = (omega (arith, e), omega (arith, e, is.0, is.1, few))

-- so those of two bays differ where the first files lie that far apart
pub files_apart : (base other buckets more f : ℕ) → buckets ≤ 64 → more ≤ 64 → base + 628 ≤ other → IsFileOf base buckets f → IsFileOf other more f → ⊥
files_apart base other buckets more f few few_more far one two = omega (arith, far, (files_within base buckets f few one).1, (files_within other more f few_more two).0)

-- Five files and two stretches of 128 hold a bay's: the places, from its first file on.
abbrev IsPlace : ℕ → Type 0
IsPlace n = (n < 5) ⊎ ((10 ≤ n) × (n < 138)) ⊎ ((500 ≤ n) × (n < 628))

place_of : (base buckets f : ℕ) → buckets ≤ 64 → IsFileOf base buckets f → (n : ℕ) × (f ≡ base + n) × IsPlace n
place_of base buckets f few (Manifest, is, e) = (0, omega (arith, e), inl (omega arith))
place_of base buckets f few (Cache side, is, e) = (1 + side, omega (arith, e), inl (omega (arith, is)))
place_of base buckets f few (Judged, is, e) = (3, omega (arith, e), inl (omega arith))
place_of base buckets f few (Texts, is, e) = (4, omega (arith, e), inl (omega arith))
place_of base buckets f few (Journal zero b, is, e) = (10 + 2 * b, omega (arith, e), inr (inl (omega arith, omega (arith, is.1, few))))
place_of base buckets f few (Journal (suc side) b, is, e) = (500 + 2 * b, omega (arith, e, is.0), inr (inr (omega arith, omega (arith, is.1, few))))
place_of base buckets f few (Aux zero b, is, e) = (11 + 2 * b, omega (arith, e), inr (inl (omega arith, omega (arith, is.1, few))))
place_of base buckets f few (Aux (suc side) b, is, e) = (501 + 2 * b, omega (arith, e, is.0), inr (inr (omega arith, omega (arith, is.1, few))))

places_apart : (m n : ℕ) → m ≡ 200 + n → IsPlace m → IsPlace n → ⊥
places_apart m n same (inl low) is = omega (arith, same, low)
places_apart m n same (inr (inl (from, to))) (inl low) = omega (arith, same, to)
places_apart m n same (inr (inl (from, to))) (inr (inl (from_too, to_too))) = omega (arith, same, to)
places_apart m n same (inr (inl (from, to))) (inr (inr (from_too, to_too))) = omega (arith, same, to)
places_apart m n same (inr (inr (from, to))) (inl low) = omega (arith, same, from, low)
places_apart m n same (inr (inr (from, to))) (inr (inl (from_too, to_too))) = omega (arith, same, from, to_too)
places_apart m n same (inr (inr (from, to))) (inr (inr (from_too, to_too))) = omega (arith, same, to, from_too)

-- and where they lie 200 apart, as those of a store's two bays
pub files_of_both : (buckets f : ℕ) → buckets ≤ 64 → IsFileOf 100 buckets f → IsFileOf 300 buckets f → ⊥
files_of_both buckets f few one two =
    let at = place_of 100 buckets f few one in
    let at_too = place_of 300 buckets f few two in
    places_apart at.0 at_too.0 (omega (arith, at.1, at_too.1)) at.2 at_too.2

-- the files of buckets on two sides differ
pub journal_sides_apart : (base side other b c : ℕ) → side ≤ 1 → other ≤ 1 → side ≢ other → b < 64 → c < 64 → file_of base 0 (Journal side b) ≢ file_of base 0 (Journal other c)
journal_sides_apart base side other b c low low_too apart within within_too = λ e. apart (omega (arith, e, low, low_too, within, within_too))

pub aux_sides_apart : (base side other b c : ℕ) → side ≤ 1 → other ≤ 1 → side ≢ other → b < 64 → c < 64 → file_of base 0 (Aux side b) ≢ file_of base 0 (Aux other c)
aux_sides_apart base side other b c low low_too apart within within_too = λ e. apart (omega (arith, e, low, low_too, within, within_too))

pub sides_apart : (base side other b c : ℕ) → side ≤ 1 → other ≤ 1 → side ≢ other → b < 64 → c < 64 → (f : ℕ) → IsBucketFile base side b f → IsBucketFile base other c f → ⊥
sides_apart base side other b c low low_too apart within within_too f (inl e) (inl e_too) = journal_sides_apart base side other b c low low_too apart within within_too (sym e ∙ e_too)
sides_apart base side other b c low low_too apart within within_too f (inl e) (inr e_too) = apart (omega (arith, e, e_too, low, low_too, within, within_too))
sides_apart base side other b c low low_too apart within within_too f (inr e) (inl e_too) = apart (omega (arith, e, e_too, low, low_too, within, within_too))
sides_apart base side other b c low low_too apart within within_too f (inr e) (inr e_too) = aux_sides_apart base side other b c low low_too apart within within_too (sym e ∙ e_too)

-- none of the others is a journal
low_no_journal : (base buckets f : ℕ) → base < f → f < base + 10 → IsJournalOf base buckets f → ⊥
low_no_journal base buckets f above below (inl e) = omega (arith, e, above)
low_no_journal base buckets f above below (inr is) = omega (arith, is.4, below)

aux_no_journal : (base buckets side b : ℕ) → IsJournalOf base buckets (file_of base 0 (Aux side b)) → ⊥
aux_no_journal base buckets side b (inl e) = omega (arith, e)
aux_no_journal base buckets side b (inr is) = omega (arith, is.4)

-- ---- files that stand for a book
-- the cache side that the last of some commits names
last_side : (buckets : ℕ) (first : Commit) (commits : List Commit) → first.side ≤ 1 → AllByRecursion (IsCommit buckets) commits → (last_commit first commits).side ≤ 1
last_side buckets first [] low forms = low
last_side buckets first (commit ∷ commits) low forms = last_side buckets commit commits forms.0.side forms.1

-- the side of the buckets' files that it leaves live
last_live : (buckets : ℕ) (first : Commit) (commits : List Commit) → live_side first ≤ 1 → AllByRecursion (IsCommit buckets) commits → live_side (last_commit first commits) ≤ 1
last_live buckets first [] low forms = low
last_live buckets first (commit ∷ commits) low forms = last_live buckets commit commits (live_low commit.live forms.0.live) forms.1

-- a journal that stood for a list stands for it, and each other file of the bay is as it was
pub record KeepsParts (base buckets : ℕ) (old new : Files) : Type 0 where
  pub journals : (f : ℕ) → IsJournalOf base buckets f → (payloads : List (List ℕ)) → StandsFor (old f) payloads → StandsFor (new f) payloads
  pub others : (f : ℕ) → IsFileOf base buckets f → (IsJournalOf base buckets f → ⊥) → new f ≡ old f

-- then the files stand for the book for which they stood
pub stands_kept : (base : ℕ) (settings : Settings) (book : Book) (old new : Files) → KeepsParts base settings.buckets old new → Stands base settings book old → Stands base settings book new
stands_kept base settings book old new keeps stands = record {
  book_is = stands.book_is;
  offers = stands.offers;
  buckets = λ b within.
      let inside : b < settings.buckets = omega (arith, within, stands.book_is.buckets) in
      let has = stands.buckets b within in
      record {
        runs = has.runs;
        are = has.are;
        records = keeps.journals _ (inr (live_side last, b, live, inside, refl)) _ has.records;
        texts = begins (file_of base 0 (Aux (live_side last) b)) _ (Aux (live_side last) b, (live, inside), refl) (aux_no_journal base settings.buckets (live_side last) b) has.texts;
      };
  commits = stands.commits;
  commits_are = stands.commits_are;
  manifest = keeps.journals _ (inl refl) _ stands.manifest;
  cache = record {
    count = stands.cache.count;
    bytes = begins (file_of base 0 (Cache last.side)) _ (
      Cache last.side,
      side,
      refl,
    ) (low_no_journal base settings.buckets _ (omega arith) (omega (arith, side))) stands.cache.bytes;
  };
  judged_are = begins (file_of base 0 Judged) _ (Judged, tt, refl) (low_no_journal base settings.buckets _ (omega arith) (omega arith)) stands.judged_are;
  texts = begins (file_of base 0 Texts) _ (Texts, tt, refl) (low_no_journal base settings.buckets _ (omega arith) (omega arith)) stands.texts;
}
  where
    last : Commit
    last = last_commit (first_commit book.buckets) stands.commits

    side : last.side ≤ 1
    side = last_side book.buckets (first_commit book.buckets) stands.commits (omega arith) stands.commits_are.form

    live : live_side last ≤ 1
    live = last_live book.buckets (first_commit book.buckets) stands.commits (omega arith) stands.commits_are.form

    begins : (f : ℕ) (bytes : List ℕ) → IsFileOf base settings.buckets f → (IsJournalOf base settings.buckets f → ⊥) → BeginsWith (old f) bytes → BeginsWith (new f) bytes
    begins f bytes is out was = subst (λ (file : List ℕ). BeginsWith file bytes) (sym (keeps.others f is out)) was

-- each file of a bay is as it was
abbrev pub HasSameFiles : ℕ → ℕ → Files → Files → Type 0
HasSameFiles base buckets old new = (f : ℕ) → IsFileOf base buckets f → new f ≡ old f

pub stands_apart : (base : ℕ) (settings : Settings) (book : Book) (old new : Files) → HasSameFiles base settings.buckets old new → Stands base settings book old → Stands base settings book new
stands_apart base settings book old new same = stands_kept base settings book old new (record {
  journals = λ f is payloads. subst (λ (file : List ℕ). StandsFor file payloads) (sym (same f (journal_files base settings.buckets f is)));
  others = λ f is out. same f is;
})

-- or its journals were opened
pub stands_opened : (base : ℕ) (settings : Settings) (book : Book) (old new : Files) → ChangesAmong (IsJournalOf base settings.buckets) (λ f. IsOpened) old new → Stands base settings book old
    → Stands base settings book new
stands_opened base settings book old new opened = stands_kept base settings book old new (record {
  journals = λ f is payloads. opened_stands (old f) (new f) payloads (opened.changed f is);
  others = λ f is out. opened.others f out;
})

-- ---- an open bay
-- its files are the bay's
stays_apart : (drum : Drum) (old new : Files) → IsDrum drum → HasSameFiles drum.base drum.settings.buckets old new → Stays drum old new
stays_apart drum old new law same = record {
  journals = λ b within. same _ (Journal (live_side drum.last) b, (live_low drum.last.live law.last.live, within), (law.buckets b within).journal);
  auxes = λ b within. same _ (Aux (live_side drum.last) b, (live_low drum.last.live law.last.live, within), (law.buckets b within).aux);
  cache = same _ (Cache drum.last.side, law.last.side, refl);
  judged = same_front _ _ _ (same _ (Judged, tt, refl));
  texts = same_front _ _ _ (same _ (Texts, tt, refl));
}

-- so it holds its book over other images in which these files are as they were
pub holds_apart : (old new : Files → Type 0) (drum : Drum) (book : Book) → IsDrum drum
    → ((image : Files) → new image → (was : Files) × old was × HasSameFiles drum.base drum.settings.buckets was image) → Holds old drum book → Holds new drum book
holds_apart old new drum book law from holds =
    holds_moved old new drum book (λ image left. let was = from image left in (was.0, was.1, stays_apart drum was.0 image law was.2)) holds
    (tail_moved drum.manifest _ old new (λ image left. let was = from image left in (was.0, was.1, was.2 _ (Manifest, tt, law.manifest))) holds.manifest)

-- and they are as long as they were
pub long_apart : (drum : Drum) (old new : Files) → IsDrum drum → HasSameFiles drum.base drum.settings.buckets old new → IsLong drum old → IsLong drum new
long_apart drum old new law same long =
    let stays = stays_apart drum old new law same in
    record {
      manifest = subst (λ (file : List ℕ). drum.manifest.end < length file) (sym (same drum.manifest.file (Manifest, tt, law.manifest))) long.manifest;
      cache = subst (λ (file : List ℕ). (cache_front drum).length ≤ length file) (sym stays.cache) long.cache;
      judged = subst (λ (file : List ℕ). (judged_front drum).length ≤ length file) (sym (same (judged_front drum).file (Judged, tt, refl))) long.judged;
      texts = subst (λ (file : List ℕ). (texts_front drum).length ≤ length file) (sym (same (texts_front drum).file (Texts, tt, refl))) long.texts;
      journals = λ b within. subst (λ (file : List ℕ). (bucket_at drum b).journal.end < length file) (sym (stays.journals b within)) (long.journals b within);
      auxes = λ b within. subst (λ (file : List ℕ). (bucket_at drum b).aux.length ≤ length file) (sym (stays.auxes b within)) (long.auxes b within);
    }

-- a call that changes none of its files
pub holds_beside : (among : ℕ → Type 0) (old new : Told) (drum : Drum) (book : Book) → IsDrum drum → IsConsistent new → LeavesBy (ChangesOnly among) old new
    → ((f : ℕ) → IsFileOf drum.base drum.settings.buckets f → among f → ⊥) → Holds old.images drum book → Holds new.images drum book
holds_beside among old new drum book law consistent stops out holds =
    holds_apart old.images new.images drum book law (λ image left. let was = left_now old new _ consistent stops image left in (was.0, was.1, λ f is. was.2 f (out f is))) holds

pub long_beside : (among : ℕ → Type 0) (old new : Option Files) (drum : Drum) → IsDrum drum → TellsOnly among old new → ((f : ℕ) → IsFileOf drum.base drum.settings.buckets f → among f → ⊥)
    → ForSome old (λ files. IsLong drum files) → ForSome new (λ files. IsLong drum files)
long_beside among old new drum law tells out long = λ files told.
    let was = told_before among old new files tells told in
    long_apart drum was.0 files law (λ f is. was.2 f (out f is)) (long was.0 was.1)

-- ---- a bay that wasn't made
-- it isn't made where its files are as they were
pub unmade_beside : (among : ℕ → Type 0) (base buckets : ℕ) (old new : Option Files) → TellsOnly among old new → ((f : ℕ) → IsFileOf base buckets f → among f → ⊥)
    → ForSome old (λ files. IsUnmade base buckets files) → ForSome new (λ files. IsUnmade base buckets files)
unmade_beside among base buckets old new tells out unmade = λ files told f is.
    let was = told_before among old new files tells told in
    subst (λ (file : List ℕ). length file ≤ 1) (sym (was.2 f (out f is))) (unmade was.0 was.1 f is)

-- a map without keys has no entries
no_entries : entries {K = ℕ} {X = ℕ} {R = nat_cmp} empty ≡ []
no_entries =
    let none : entries {K = ℕ} {X = ℕ} {R = nat_cmp} (from_sorted []) ≡ [] = entries-from_sorted nat_cmp [] tt in
    ap entries (sym (empty_of_len (from_sorted {R = nat_cmp} []) (len-entries (from_sorted {R = nat_cmp} []) ∙ ap length none))) ∙ none

-- a bucket without an offer
no_bucket_has : (array : ℕ) (list : List Tuple) (journal aux : List ℕ) → list ≡ [] → length journal ≤ 1 → HasBucket array list journal aux
no_bucket_has array list journal aux none few = subst (λ (l : List Tuple). HasBucket array l journal aux) (sym none) (record {
  runs = [];
  are = record { joined = refl; sizes = tt; offers = tt };
  records = inl (few, refl);
  texts = (aux, refl);
})

-- its files stand for the book without an offer
pub unmade_stands : (base : ℕ) (settings : Settings) (files : Files) → AreValid settings → IsUnmade base settings.buckets files → Stands base settings (blank_book settings.buckets settings.rule) files
unmade_stands base settings files valid unmade = record {
  book_is = record { is_book = blank_is_book settings.buckets settings.rule valid.buckets; buckets = refl; rule = refl; dropped = refl };
  commits = [];
  commits_are = record { count = refl; each = λ i within. absurd (omega (arith, within)); form = tt; grow = tt; name = tt };
  offers = λ b within. subst (AllByRecursion IsOffer) (sym (blank_lists settings.buckets settings.rule b)) tt;
  buckets = λ b within. no_bucket_has settings.array _ (files (file_of base 0 (Journal 0 b))) (files (file_of base 0 (Aux 0 b)))
      (blank_live settings.buckets settings.rule (first_commit settings.buckets) b) (unmade _ (Journal 0 b, (omega arith, within), refl));
  manifest = inl (unmade _ (Manifest, tt, refl), refl);
  cache = record { count = rw no_entries refl; bytes = rw no_entries (files (file_of base 0 (Cache 0)), refl) };
  judged_are = (files (file_of base 0 Judged), refl);
  texts = (files (file_of base 0 Texts), refl);
}
