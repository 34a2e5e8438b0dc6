-- The files of a bay stand for at most one book.
use Rattle.std.proofs.Common.{◌≡◌, ◌∙◌, ℕ, zero, suc, ◌+◌, ◌^◌, ◌<◌, List, [], ◌∷◌, ◌++◌, map, length, take, drop, get_or, replicate, Option, Some, append_assoc, refl, sym, ap, subst, arith}
use Rattle.std.proofs.lemmas.List.{ext_get_or}
use Rattle.std.proofs.lemmas.Grind.{flat_map-append}
use Rattle.std.specs.List.{flat_map, AllByRecursion}
use Rattle.byteorder.specs.Endian.{little_bytes, little_number}
use Rattle.byteorder.specs.Numbers.{little_number-reads_back}
use Rattle.irl_offer.specs.declared.offer.Op.{Op}
use Rattle.irl_offer.specs.declared.offer.Op.TheVariants.{Check, Update, Both}
use Rattle.irl_offer.specs.declared.offer.Rule.{Rule}
use Rattle.irl_offer.specs.declared.settings.Settings.{Settings}
use Rattle.irl_offer.specs.Entries.{op_number, op_of, entry_bytes}
use Rattle.irl_offer.specs.Tuple.{Tuple}
use Rattle.irl_model.specs.Judging.{KeyMap}
use Rattle.irl_model.specs.Book.{Book, last_cut}
use Rattle.irl_disk.specs.Disk.{Files}
use Rattle.irl_journal.proofs.Lists.{one_list}
use Rattle.irl_layout.specs.BayFiles.{file_of}
use Rattle.irl_layout.specs.declared.files.BayFile.TheVariants.{Manifest, Judged, Texts, Journal, Aux}
use Rattle.irl_layout.specs.Runs.{entry_of_offer, run_bytes, texts_of, IsOffer, HasBucket}
use Rattle.irl_layout.specs.Commits.{Commit, IsCommit, IsCommitOf, AreCommitsOf, commit_bytes, first_commit, last_commit, live_side, live_offers, sides_byte}
use Rattle.irl_bay.specs.Standing.{Stands, HasBucketOf}
use Rattle.irl_layout.proofs.CommitBytes.{same_sides}
use Rattle.irl_bay.proofs.JudgedLists.{same_parts, same_lists_at}
use Rattle.irl_bay.proofs.LastCommit.{last_of_book}
use Rattle.irl_layout.proofs.Runs.{length-run_bytes}

-- ---- an offer
-- bytes read as the numbers of an offer
record HasNumbers (offer : Tuple) (bytes : List ℕ) : Type 0 where
  op : op_of (get_or bytes 0 0) ≡ Some offer.op
  aux : little_number 2 (drop 1 bytes) ≡ length offer.aux
  key : little_number 8 (drop 3 bytes) ≡ offer.key
  value : little_number 8 (drop 11 bytes) ≡ offer.value
  from : little_number 8 (drop 19 bytes) ≡ offer.from

op_read : (op : Op) → op_of (op_number op) ≡ Some op
op_read Check = refl
op_read Update = refl
op_read Both = refl

own_numbers : (offer : Tuple) → IsOffer offer → HasNumbers offer (entry_bytes (entry_of_offer offer))
own_numbers offer is = record {
  op = op_read offer.op;
  aux = little_number-reads_back 2 (length offer.aux) (little_bytes 8 offer.key ++ (little_bytes 8 offer.value ++ little_bytes 8 offer.from)) (omega (arith, is.aux));
  key = little_number-reads_back 8 offer.key (little_bytes 8 offer.value ++ little_bytes 8 offer.from) is.key;
  value = little_number-reads_back 8 offer.value (little_bytes 8 offer.from) is.value;
  from = little_number-reads_back 8 offer.from [] is.from;
}

same_tuple : (op : Op) (key value from : ℕ) (aux : List ℕ) (offer : Tuple) → op ≡ offer.op → key ≡ offer.key → value ≡ offer.value → from ≡ offer.from → aux ≡ offer.aux
    → record { op = op; key = key; value = value; from = from; aux = aux } ≡ offer
same_tuple op key value from aux offer p q r s t = rw (p, q, r, s, t) refl

same_op : (x y : Op) (o : ℕ) → op_of o ≡ Some x → op_of o ≡ Some y → x ≡ y
same_op x y o is_x is_y = let e = sym is_x ∙ is_y in cc

-- offers whose entries and texts are the same
same_offers : (xs ys : List Tuple) (r s : List ℕ) → AllByRecursion IsOffer xs → AllByRecursion IsOffer ys → run_bytes xs ≡ run_bytes ys → texts_of xs ++ r ≡ texts_of ys ++ s → xs ≡ ys
same_offers [] [] r s each_x each_y same texts = refl
same_offers [] (y ∷ ys) r s each_x each_y same texts = absurd (omega (arith, ap length same, length-run_bytes (y ∷ ys)))
same_offers (x ∷ xs) [] r s each_x each_y same texts = absurd (omega (arith, ap length same, length-run_bytes (x ∷ xs)))
same_offers (x ∷ xs) (y ∷ ys) r s each_x each_y same texts =
    let entries = same_parts (entry_bytes (entry_of_offer x)) (entry_bytes (entry_of_offer y)) (run_bytes xs) (run_bytes ys) refl same in
    let of_x : HasNumbers x (entry_bytes (entry_of_offer y)) = subst (HasNumbers x) entries.0 (own_numbers x each_x.0) in
    let of_y = own_numbers y each_y.0 in
    let apart : x.aux ++ (texts_of xs ++ r) ≡ y.aux ++ (texts_of ys ++ s) = sym (append_assoc x.aux (texts_of xs) r) ∙ texts ∙ append_assoc y.aux (texts_of ys) s in
    let parts = same_parts x.aux y.aux (texts_of xs ++ r) (texts_of ys ++ s) (sym of_x.aux ∙ of_y.aux) apart in
    let here : x ≡ y = same_tuple x.op x.key x.value x.from x.aux y (same_op x.op y.op (get_or (entry_bytes (entry_of_offer y)) 0 0) of_x.op of_y.op) (sym of_x.key ∙ of_y.key) (sym of_x.value
    ∙ of_y.value) (sym of_x.from ∙ of_y.from) parts.0 in
    let behind : xs ≡ ys = same_offers xs ys r s each_x.1 each_y.1 entries.1 parts.1 in
    cc

-- ---- a bucket
-- the entries of all runs
joined_bytes : (runs : List (List Tuple)) → run_bytes (flat_map (λ run. run) runs) ≡ flat_map (λ bytes. bytes) (map run_bytes runs)
joined_bytes [] = refl
joined_bytes (run ∷ runs) = flat_map-append (λ (offer : Tuple). entry_bytes (entry_of_offer offer)) run (flat_map (λ run. run) runs) ∙ ap (λ (l : List ℕ). run_bytes run ++ l) (joined_bytes runs)

-- its two files have at most one list
pub one_bucket : (array : ℕ) (xs ys : List Tuple) (journal aux : List ℕ) → HasBucket array xs journal aux → HasBucket array ys journal aux → xs ≡ ys
one_bucket array xs ys journal aux for_x for_y =
    same_offers xs ys for_x.texts.0 for_y.texts.0 for_x.are.offers for_y.are.offers
    (ap run_bytes for_x.are.joined ∙ joined_bytes for_x.runs
    ∙ ap (flat_map (λ (bytes : List ℕ). bytes)) (one_list journal (map run_bytes for_x.runs) (map run_bytes for_y.runs) for_x.records for_y.records)
    ∙ sym (joined_bytes for_y.runs) ∙ ap run_bytes (sym for_y.are.joined))
    (sym for_x.texts.1 ∙ for_y.texts.1)

-- ---- a commit
-- bytes read as a commit
record HasCommit (commit : Commit) (bytes : List ℕ) : Type 0 where
  sides : get_or bytes 0 0 ≡ sides_byte commit.side commit.live
  entries : little_number 8 (drop 1 bytes) ≡ commit.entries
  judged : little_number 8 (drop 9 bytes) ≡ commit.judged
  unique : little_number 8 (drop 17 bytes) ≡ commit.unique
  texts : little_number 8 (drop 25 bytes) ≡ commit.texts
  cut : drop 33 bytes ≡ flat_map (little_bytes 8) commit.cut

own_commit : (buckets : ℕ) (commit : Commit) → IsCommit buckets commit → HasCommit commit (commit_bytes commit)
own_commit buckets commit is =
    let cut = flat_map (little_bytes 8) commit.cut in
    record {
      sides = refl;
      entries = little_number-reads_back 8 commit.entries (little_bytes 8 commit.judged ++ (little_bytes 8 commit.unique ++ (little_bytes 8 commit.texts ++ cut))) is.entries;
      judged = little_number-reads_back 8 commit.judged (little_bytes 8 commit.unique ++ (little_bytes 8 commit.texts ++ cut)) is.judged;
      unique = little_number-reads_back 8 commit.unique (little_bytes 8 commit.texts ++ cut) is.unique;
      texts = little_number-reads_back 8 commit.texts cut is.texts;
      cut = refl;
    }

-- numbers of eight bytes each
same_cuts : (xs ys : List ℕ) → AllByRecursion (λ n. n < 2 ^ 64) xs → AllByRecursion (λ n. n < 2 ^ 64) ys → flat_map (little_bytes 8) xs ≡ flat_map (little_bytes 8) ys → xs ≡ ys
same_cuts [] [] each_x each_y same = refl
same_cuts [] (y ∷ ys) each_x each_y same = cc
same_cuts (x ∷ xs) [] each_x each_y same = cc
same_cuts (x ∷ xs) (y ∷ ys) each_x each_y same =
    let here : x ≡ y = sym (little_number-reads_back 8 x (flat_map (little_bytes 8) xs) each_x.0) ∙ ap (little_number 8) same ∙ little_number-reads_back 8 y (flat_map (little_bytes 8) ys) each_y.0 in
    let behind : xs ≡ ys = same_cuts xs ys each_x.1 each_y.1 (ap (drop 8) same) in
    cc

same_fields : (side : ℕ) (live : Option ℕ) (entries judged unique texts : ℕ) (cut : List ℕ) (commit : Commit) → side ≡ commit.side → live ≡ commit.live → entries ≡ commit.entries
    → judged ≡ commit.judged → unique ≡ commit.unique → texts ≡ commit.texts → cut ≡ commit.cut
    → record { side = side; live = live; entries = entries; judged = judged; unique = unique; texts = texts; cut = cut } ≡ commit
same_fields side live entries judged unique texts cut commit p l q r s t u = rw (p, l, q, r, s, t, u) refl

same_commit : (buckets : ℕ) (x y : Commit) → IsCommit buckets x → IsCommit buckets y → commit_bytes x ≡ commit_bytes y → x ≡ y
same_commit buckets x y is_x is_y same =
    let of_x : HasCommit x (commit_bytes y) = subst (HasCommit x) same (own_commit buckets x is_x) in
    let of_y = own_commit buckets y is_y in
    let sides = same_sides x.side y.side x.live y.live is_x.side is_y.side is_x.live is_y.live (sym of_x.sides ∙ of_y.sides) in
    same_fields x.side x.live x.entries x.judged x.unique x.texts x.cut y sides.0 sides.1 (sym of_x.entries ∙ of_y.entries) (sym of_x.judged ∙ of_y.judged) (sym of_x.unique
    ∙ of_y.unique) (sym of_x.texts ∙ of_y.texts)
    (same_cuts x.cut y.cut is_x.cut is_y.cut (sym of_x.cut ∙ of_y.cut))

pub same_commits : (buckets : ℕ) (xs ys : List Commit) → AllByRecursion (IsCommit buckets) xs → AllByRecursion (IsCommit buckets) ys → map commit_bytes xs ≡ map commit_bytes ys → xs ≡ ys
same_commits buckets [] [] each_x each_y same = refl
same_commits buckets [] (y ∷ ys) each_x each_y same = cc
same_commits buckets (x ∷ xs) [] each_x each_y same = cc
same_commits buckets (x ∷ xs) (y ∷ ys) each_x each_y same =
    let first : commit_bytes x ≡ commit_bytes y = ap (λ (l : List (List ℕ)). get_or l 0 []) same in
    let here : x ≡ y = same_commit buckets x y each_x.0 each_y.0 first in
    let behind : xs ≡ ys = same_commits buckets xs ys each_x.1 each_y.1 (ap (drop 1) same) in
    cc

-- ---- the cuts
-- the last of the first cuts
last_of : (from : List ℕ) (cuts : List (List ℕ)) (i : ℕ) → i < length cuts → last_cut from (take (suc i) cuts) ≡ get_or cuts i []
last_of from [] i within = absurd (omega arith)
last_of from (cut ∷ cuts) zero within = refl
last_of from (cut ∷ cuts) (suc i) within = last_of cut cuts i (omega arith)

-- each cut is that of its commit
cut_of : (book : Book) (commits : List Commit) (i : ℕ) → AreCommitsOf book commits → i < length book.cuts → get_or book.cuts i [] ≡ (get_or commits i (first_commit book.buckets)).cut
cut_of book commits i are within =
    let next : i + 1 ≡ suc i = omega arith in
    sym (last_of book.firsts book.cuts i within) ∙ ap (λ (n : ℕ). last_cut book.firsts (take n book.cuts)) (sym next) ∙ sym (are.each i (omega (arith, within, are.count))).cut

-- so those of the same commits are the same
same_book_cuts : (x y : Book) (xs ys : List Commit) → x.buckets ≡ y.buckets → AreCommitsOf x xs → AreCommitsOf y ys → xs ≡ ys → x.cuts ≡ y.cuts
same_book_cuts x y xs ys buckets for_x for_y same =
    ext_get_or [] x.cuts y.cuts (sym for_x.count ∙ ap length same ∙ for_y.count) (λ i within.
    cut_of x xs i for_x within
    ∙ ap (λ (n : ℕ). (get_or xs i (first_commit n)).cut) buckets ∙ ap (λ (l : List Commit). (get_or l i (first_commit y.buckets)).cut) same
    ∙ sym (cut_of y ys i for_y (omega (arith, within, for_x.count, for_y.count, ap length same))))

-- the texts of the last commit have their room
first_form : (buckets : ℕ) → (first_commit buckets).texts < 2 ^ 64
first_form buckets = omega arith

last_form : (buckets : ℕ) (first : Commit) (commits : List Commit) → first.texts < 2 ^ 64 → AllByRecursion (IsCommit buckets) commits → (last_commit first commits).texts < 2 ^ 64
last_form buckets first [] fits form = fits
last_form buckets first (commit ∷ commits) fits form = last_form buckets commit commits form.0.texts form.1

-- ---- the book
same_parts_of : (buckets : ℕ) (rule : Rule) (base : KeyMap) (dropped : ℕ) (firsts : List ℕ) (lists : List (List Tuple)) (cuts : List (List ℕ)) (book : Book)
    → buckets ≡ book.buckets → rule ≡ book.rule → base ≡ book.base → dropped ≡ book.dropped → firsts ≡ book.firsts → lists ≡ book.lists → cuts ≡ book.cuts
    → record { buckets = buckets; rule = rule; base = base; dropped = dropped; firsts = firsts; lists = lists; cuts = cuts } ≡ book
same_parts_of buckets rule base dropped firsts lists cuts book p q r s t u v = rw (p, q, r, s, t, u, v) refl

pub one_book : (base : ℕ) (settings : Settings) (x y : Book) (files : Files) → Stands base settings x files → Stands base settings y files → x ≡ y
one_book base settings x y files for_x for_y =
    let is_x = for_x.book_is in
    let is_y = for_y.book_is in
    let buckets : x.buckets ≡ y.buckets = is_x.buckets ∙ sym is_y.buckets in
    let none_x = is_x.is_book.none is_x.dropped in
    let none_y = is_y.is_book.none is_y.dropped in
    let records = one_list (files (file_of base 0 Manifest)) (map commit_bytes for_x.commits) (map commit_bytes for_y.commits) for_x.manifest for_y.manifest in
    let commits : for_x.commits ≡ for_y.commits =
    same_commits x.buckets for_x.commits for_y.commits for_x.commits_are.form (subst (λ (n : ℕ). AllByRecursion (IsCommit n) for_y.commits) (sym buckets) for_y.commits_are.form) records in
    let last = last_commit (first_commit x.buckets) for_x.commits in
    let same_last : last_commit (first_commit y.buckets) for_y.commits ≡ last =
    sym (ap (λ (n : ℕ). last_commit (first_commit n) for_x.commits) buckets ∙ ap (last_commit (first_commit y.buckets)) commits) in
    let of_x = last_of_book settings x for_x.commits is_x for_x.commits_are in
    let of_y = subst (IsCommitOf y) same_last (last_of_book settings y for_y.commits is_y for_y.commits_are) in
    let room = (last_form x.buckets (first_commit x.buckets) for_x.commits (first_form x.buckets) for_x.commits_are.form) in
    let lists : x.lists ≡ y.lists = ext_get_or [] x.lists y.lists (is_x.is_book.lists ∙ buckets ∙ sym is_y.is_book.lists) (λ b within.
    let in_x : b < x.buckets = omega (arith, within, is_x.is_book.lists) in
    let in_y : b < y.buckets = omega (arith, in_x, buckets) in
    let has_y = subst (λ (c : Commit). HasBucketOf base settings.array c b (live_offers y c b) files) same_last (for_y.buckets b in_y) in
    same_lists_at settings x y last is_x is_y of_x of_y room for_x.offers for_y.offers (files (file_of base 0 Judged)) (files (file_of base 0 Texts)) b in_x in_y for_x.judged_are for_y.judged_are
    for_x.texts for_y.texts
    (one_bucket settings.array (live_offers x last b) (live_offers y last b) (files (file_of base 0 (Journal (live_side last) b))) (files (file_of base 0 (Aux (live_side last) b)))
    (for_x.buckets b in_x) has_y)) in
    same_parts_of x.buckets x.rule x.base x.dropped x.firsts x.lists x.cuts y buckets (is_x.rule ∙ sym is_y.rule) (none_x.0 ∙ sym none_y.0) (is_x.dropped ∙ sym is_y.dropped)
    (none_x.1 ∙ ap (λ (n : ℕ). replicate n 0) buckets ∙ sym none_y.1) lists
    (same_book_cuts x y for_x.commits for_y.commits buckets for_x.commits_are for_y.commits_are commits)
