-- What a flush leaves of a book.
use Rattle.std.proofs.Common.{◌≡◌, ◌≢◌, ◌∙◌, ℕ, zero, suc, ◌+◌, ◌<◌, List, [], ◌∷◌, ◌++◌, length, get_or, set, refl, sym, ap, subst, arith, length-append}
use Rattle.std.proofs.lemmas.List.{length-set, get_or-set_same, get_or-set_other}
use Rattle.std.specs.List.{AllByRecursion}
use Rattle.irl_offer.specs.Tuple.{Tuple}
use Rattle.irl_offer.specs.Buckets.{bucket_of}
use Rattle.irl_model.specs.Book.{Book, IsBook, AreOfBuckets, IsBelow, AreCuts, list_lengths, lengths_of, uniques, uniques_from, gone, flushed, flushed_lists}
use Rattle.irl_model.proofs.Stretches.{below_same, below_both, length-list_lengths}
use Rattle.irl_model.proofs.FrontLaws.{flushed_judged}

-- the bucket's list is longer, and the others stay
pub flushed_lists-set : (b : ℕ) (news : List Tuple) (lists : List (List Tuple)) → flushed_lists b news lists ≡ set lists b (get_or lists b [] ++ news)
flushed_lists-set b news [] = refl
flushed_lists-set zero news (list ∷ lists) = refl
flushed_lists-set (suc b) news (list ∷ lists) = ap (λ (ls : List (List Tuple)). list ∷ ls) (flushed_lists-set b news lists)

pub flushed_here : (b : ℕ) (news : List Tuple) (book : Book) → b < length book.lists → get_or (flushed b news book).lists b [] ≡ get_or book.lists b [] ++ news
flushed_here b news book within = ap (λ (ls : List (List Tuple)). get_or ls b []) (flushed_lists-set b news book.lists) ∙ get_or-set_same book.lists b (get_or book.lists b [] ++ news) [] within

pub flushed_elsewhere : (b : ℕ) (news : List Tuple) (book : Book) (c : ℕ) → c ≢ b → get_or (flushed b news book).lists c [] ≡ get_or book.lists c []
flushed_elsewhere b news book c other = ap (λ (ls : List (List Tuple)). get_or ls c []) (flushed_lists-set b news book.lists)
    ∙ get_or-set_other book.lists b c (get_or book.lists b [] ++ news) [] other

-- the bucket's number rises by so many, and the others stay
pub flushed_lengths : (b : ℕ) (news : List Tuple) (firsts : List ℕ) (lists : List (List Tuple)) → length firsts ≡ length lists
    → list_lengths firsts (flushed_lists b news lists) ≡ set (list_lengths firsts lists) b (get_or (list_lengths firsts lists) b 0 + length news)
flushed_lengths b news [] lists same = refl
flushed_lengths b news (first ∷ firsts) [] same = absurd (omega (arith, same))
flushed_lengths zero news (first ∷ firsts) (list ∷ lists) same = ap (λ (n : ℕ). n ∷ list_lengths firsts lists) (omega (arith, length-append list news))
flushed_lengths (suc b) news (first ∷ firsts) (list ∷ lists) same = ap (λ (ns : List ℕ). (first + length list) ∷ ns) (flushed_lengths b news firsts lists (omega (arith, same)))

pub flushed_lengths-set : (b : ℕ) (news : List Tuple) (book : Book) → IsBook book → lengths_of (flushed b news book) ≡ set (lengths_of book) b (get_or (lengths_of book) b 0 + length news)
flushed_lengths-set b news book is = flushed_lengths b news book.firsts book.lists (is.firsts ∙ sym is.lists)

pub length-lengths_of : (book : Book) → IsBook book → length (lengths_of book) ≡ book.buckets
length-lengths_of book is = length-list_lengths book.firsts book.lists (is.firsts ∙ sym is.lists) ∙ is.lists

pub flushed_length_here : (b : ℕ) (news : List Tuple) (book : Book) → IsBook book → b < book.buckets → get_or (lengths_of (flushed b news book)) b 0 ≡ get_or (lengths_of book) b 0 + length news
flushed_length_here b news book is within =
    ap (λ (ns : List ℕ). get_or ns b 0) (flushed_lengths-set b news book is) ∙ get_or-set_same (lengths_of book) b (get_or (lengths_of book) b 0 + length news) 0
    (omega (arith, length-lengths_of book is))

pub flushed_length_elsewhere : (b : ℕ) (news : List Tuple) (book : Book) (c : ℕ) → IsBook book → c ≢ b → get_or (lengths_of (flushed b news book)) c 0 ≡ get_or (lengths_of book) c 0
flushed_length_elsewhere b news book c is other =
    ap (λ (ns : List ℕ). get_or ns c 0) (flushed_lengths-set b news book is) ∙ get_or-set_other (lengths_of book) b c (get_or (lengths_of book) b 0 + length news) 0 other

-- ---- the book is a book
all_join : {X : Type 0} (P : X → Type 0) (xs ys : List X) → AllByRecursion P xs → AllByRecursion P ys → AllByRecursion P (xs ++ ys)
all_join P [] ys h k = k
all_join P (x ∷ xs) ys h k = (h.0, all_join P xs ys h.1 k)

each_flushed : (buckets b c i : ℕ) (news : List Tuple) (lists : List (List Tuple)) → b ≡ c + i → AllByRecursion (λ (o : Tuple). bucket_of buckets o.key ≡ b) news → AreOfBuckets buckets c lists
    → AreOfBuckets buckets c (flushed_lists i news lists)
each_flushed buckets b c i news [] is theirs each = tt
each_flushed buckets b c zero news (list ∷ lists) is theirs each =
    let same : b ≡ c = omega arith in
    (all_join (λ (o : Tuple). bucket_of buckets o.key ≡ c) list news each.0 (subst (λ (k : ℕ). AllByRecursion (λ (o : Tuple). bucket_of buckets o.key ≡ k) news) same theirs), each.1)
each_flushed buckets b c (suc i) news (list ∷ lists) is theirs each = (each.0, each_flushed buckets b (c + 1) i news lists (omega arith) theirs each.1)

below_flushed : (b : ℕ) (news : List Tuple) (firsts : List ℕ) (lists : List (List Tuple)) → IsBelow (list_lengths firsts lists) (list_lengths firsts (flushed_lists b news lists))
below_flushed b news [] lists = tt
below_flushed b news (first ∷ firsts) [] = tt
below_flushed zero news (first ∷ firsts) (list ∷ lists) = (omega (arith, length-append list news), below_same (list_lengths firsts lists))
below_flushed (suc b) news (first ∷ firsts) (list ∷ lists) = (omega arith, below_flushed b news firsts lists)

-- cuts below an end are below a later one
pub cuts_longer : (from end later : List ℕ) (cuts : List (List ℕ)) → AreCuts from cuts end → IsBelow end later → AreCuts from cuts later
cuts_longer from end later [] are below = below_both from end later are below
cuts_longer from end later (cut ∷ rest) are below = (are.0, are.1, cuts_longer cut end later rest are.2 below)

pub length-flushed_lists : (b : ℕ) (news : List Tuple) (lists : List (List Tuple)) → length (flushed_lists b news lists) ≡ length lists
length-flushed_lists b news lists = ap (λ (ls : List (List Tuple)). length ls) (flushed_lists-set b news lists) ∙ length-set lists b (get_or lists b [] ++ news)

pub flushed_book : (b : ℕ) (news : List Tuple) (book : Book) → IsBook book → AllByRecursion (λ (o : Tuple). bucket_of book.buckets o.key ≡ b) news → IsBook (flushed b news book)
flushed_book b news book is theirs = record {
  buckets = is.buckets;
  firsts = is.firsts;
  lists = length-flushed_lists b news book.lists ∙ is.lists;
  each = each_flushed book.buckets b 0 b news book.lists (omega arith) theirs is.each;
  cuts = cuts_longer book.firsts (lengths_of book) (lengths_of (flushed b news book)) book.cuts is.cuts (below_flushed b news book.firsts book.lists);
  none = is.none;
}

-- and has the same unique offers
pub flushed_uniques : (b : ℕ) (news : List Tuple) (book : Book) → IsBook book → uniques (flushed b news book) ≡ uniques book
flushed_uniques b news book is = ap (uniques_from (gone book)) (flushed_judged b news book is)
