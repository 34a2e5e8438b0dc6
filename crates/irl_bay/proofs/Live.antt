-- The live files of a bay's buckets: which offers of a book they have, and what a flush and a merge make of these.
use Rattle.std.proofs.Common.{◌≡◌, ◌≢◌, ◌∙◌, ℕ, zero, suc, ◌+◌, ◌-◌, ◌<◌, ◌≤◌, List, [], ◌∷◌, ◌++◌, length, drop, get_or, replicate, None, Some, refl, ap, arith}
use Rattle.std.proofs.lemmas.List.{get_or-replicate}
use Rattle.irl_offer.specs.declared.settings.Settings.{Settings}
use Rattle.irl_offer.specs.Tuple.{Tuple}
use Rattle.irl_model.specs.Book.{Book, flushed, flushed_lists, merged, lengths_of, list_lengths}
use Rattle.irl_layout.specs.Commits.{Commit, starts, starts_by, live_offers}
use Rattle.irl_bay.specs.Standing.{IsBookOf}

-- ---- the first of them
-- no first offer is dropped
pub first_zero : (settings : Settings) (book : Book) (b : ℕ) → IsBookOf settings book → b < book.buckets → get_or book.firsts b 0 ≡ 0
first_zero settings book b is within = ap (λ (l : List ℕ). get_or l b 0) (is.is_book.none is.dropped).1 ∙ get_or-replicate book.buckets b 0 0 within

-- so the live files of a bucket have its list from their start on
pub live_is : (settings : Settings) (book : Book) (last : Commit) (b : ℕ) → IsBookOf settings book → b < book.buckets
    → live_offers book last b ≡ drop (get_or (starts book last) b 0) (get_or book.lists b [])
live_is settings book last b is within =
    let zero_is = first_zero settings book b is within in
    ap (λ (n : ℕ). drop n (get_or book.lists b [])) (omega (arith, zero_is))

-- where no commit names a side, they have all
pub starts_none : (book : Book) (last : Commit) → last.live ≡ None → starts book last ≡ book.firsts
starts_none book last none = ap (starts_by book.firsts last.cut) none

pub starts_some : (book : Book) (last : Commit) (side : ℕ) → last.live ≡ Some side → starts book last ≡ last.cut
starts_some book last side some = ap (starts_by book.firsts last.cut) some

-- ---- how many
length-drop : (n : ℕ) (list : List Tuple) → n ≤ length list → n + length (drop n list) ≡ length list
length-drop zero list le = omega arith
length-drop (suc n) [] le = absurd (omega (arith, le))
length-drop (suc n) (offer ∷ list) le = omega (arith, length-drop n list (omega (arith, le)))

pub live_length : (settings : Settings) (book : Book) (last : Commit) (b : ℕ) → IsBookOf settings book → b < book.buckets → get_or (starts book last) b 0 ≤ length (get_or book.lists b [])
    → get_or (starts book last) b 0 + length (live_offers book last b) ≡ length (get_or book.lists b [])
live_length settings book last b is within le =
    let same = ap (λ (l : List Tuple). length l) (live_is settings book last b is within) in
    omega (arith, same, length-drop (get_or (starts book last) b 0) (get_or book.lists b []) le)

-- ---- a flush
-- it puts its offers at the end of one bucket's, and leaves the others
drop_more : (n : ℕ) (list news : List Tuple) → n ≤ length list → drop n (list ++ news) ≡ drop n list ++ news
drop_more zero list news le = refl
drop_more (suc n) [] news le = absurd (omega (arith, le))
drop_more (suc n) (offer ∷ list) news le = drop_more n list news (omega (arith, le))

pub flushed_here : (b : ℕ) (news : List Tuple) (lists : List (List Tuple)) → b < length lists → get_or (flushed_lists b news lists) b [] ≡ get_or lists b [] ++ news
flushed_here b news [] within = absurd (omega (arith, within))
flushed_here zero news (list ∷ lists) within = refl
flushed_here (suc b) news (list ∷ lists) within = flushed_here b news lists (omega (arith, within))

pub flushed_there : (b c : ℕ) (news : List Tuple) (lists : List (List Tuple)) → c ≢ b → get_or (flushed_lists b news lists) c [] ≡ get_or lists c []
flushed_there b c news [] other = refl
flushed_there zero zero news (list ∷ lists) other = absurd (other refl)
flushed_there zero (suc c) news (list ∷ lists) other = refl
flushed_there (suc b) zero news (list ∷ lists) other = refl
flushed_there (suc b) (suc c) news (list ∷ lists) other = flushed_there b c news lists (λ same. other (ap suc same))

pub live_flushed : (settings : Settings) (book : Book) (last : Commit) (b : ℕ) (news : List Tuple) → IsBookOf settings book → b < book.buckets
    → get_or (starts book last) b 0 ≤ length (get_or book.lists b [])
    → live_offers (flushed b news book) last b ≡ live_offers book last b ++ news
live_flushed settings book last b news is within le =
    let zero_is = first_zero settings book b is within in
    let n : ℕ = get_or (starts book last) b 0 - get_or book.firsts b 0 in
    ap (λ (l : List Tuple). drop n l) (flushed_here b news book.lists (omega (arith, is.is_book.lists, within)))
    ∙ drop_more n (get_or book.lists b []) news (omega (arith, zero_is, le))

pub live_beside : (book : Book) (last : Commit) (b c : ℕ) (news : List Tuple) → c ≢ b → live_offers (flushed b news book) last c ≡ live_offers book last c
live_beside book last b c news other = ap (λ (l : List Tuple). drop (get_or (starts book last) c 0 - get_or book.firsts c 0) l) (flushed_there b c news book.lists other)

-- ---- a merge
-- it leaves none
drop_all : (n : ℕ) (list : List Tuple) → length list ≤ n → drop n list ≡ []
drop_all zero [] le = refl
drop_all zero (offer ∷ list) le = absurd (omega (arith, le))
drop_all (suc n) [] le = refl
drop_all (suc n) (offer ∷ list) le = drop_all n list (omega (arith, le))

lengths_at : (n b : ℕ) (lists : List (List Tuple)) → b < n → length lists ≡ n → get_or (list_lengths (replicate n 0) lists) b 0 ≡ length (get_or lists b [])
lengths_at zero b lists within count = absurd (omega (arith, within))
lengths_at (suc n) b [] within count = absurd (omega (arith, count))
lengths_at (suc n) zero (list ∷ lists) within count = omega arith
lengths_at (suc n) (suc b) (list ∷ lists) within count = lengths_at n b lists (omega (arith, within)) (omega (arith, count))

-- how long a bucket's list is
pub length_is : (settings : Settings) (book : Book) (b : ℕ) → IsBookOf settings book → b < book.buckets → get_or (lengths_of book) b 0 ≡ length (get_or book.lists b [])
length_is settings book b is within =
    ap (λ (firsts : List ℕ). get_or (list_lengths firsts book.lists) b 0) (is.is_book.none is.dropped).1 ∙ lengths_at book.buckets b book.lists within is.is_book.lists

pub live_merged : (settings : Settings) (book : Book) (next : Commit) (side b : ℕ) → IsBookOf settings book → b < book.buckets → next.live ≡ Some side → next.cut ≡ lengths_of book
    → live_offers (merged book) next b ≡ []
live_merged settings book next side b is within some cut =
    let zero_is = first_zero settings book b is within in
    let from : get_or (starts (merged book) next) b 0 ≡ length (get_or book.lists b []) = ap (λ (l : List ℕ). get_or l b 0) (starts_some (merged book) next side some ∙ cut)
    ∙ length_is settings book b is within in
    drop_all (get_or (starts (merged book) next) b 0 - get_or book.firsts b 0) (get_or book.lists b []) (omega (arith, zero_is, from))
