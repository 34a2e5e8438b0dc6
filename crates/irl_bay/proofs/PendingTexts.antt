-- Offers, their entries and their texts.
use Rattle.std.proofs.Common.{◌≡◌, ◌∙◌, ℕ, ◌-◌, List, [], ◌∷◌, ◌++◌, length, map, take, drop, refl, sym, ap, arith, append_assoc, length-append, length-drop, take_all, take-append-drop}
use Rattle.std.proofs.Math.Seq.{take-append_seam, drop-append_seam}
use Rattle.std.proofs.lemmas.Grind.{flat_map-append}
use Rattle.irl_offer.specs.declared.entry.Entry.{Entry}
use Rattle.irl_offer.specs.Tuple.{Tuple}
use Rattle.irl_journal.specs.Blob.{BeginsWith}
use Rattle.irl_layout.specs.EntryRuns.{text_length}
use Rattle.irl_layout.specs.Runs.{entry_of_offer, texts_of}
use Rattle.irl_layout.proofs.EntryBytes.{text_length-cons}

pub length-texts : (offers : List Tuple) → length (texts_of offers) ≡ text_length (map entry_of_offer offers)
length-texts [] = refl
length-texts (x ∷ offers) = length-append x.aux (texts_of offers) ∙ (let ih = length-texts offers in omega (arith, ih, text_length-cons (entry_of_offer x) (map entry_of_offer offers)))

-- two lists that are as long in front
same_front : (x y r s : List ℕ) → length x ≡ length y → x ++ r ≡ y ++ s → (x ≡ y) × (r ≡ s)
same_front x y r s long e = (
  sym (take-append_seam x r) ∙ ap (take (length x)) e ∙ ap (λ n. take n (y ++ s)) long ∙ take-append_seam y s,
  sym (drop-append_seam x r) ∙ ap (drop (length x)) e ∙ ap (λ n. drop n (y ++ s)) long ∙ drop-append_seam y s,
)

-- the same entries with the same texts are the same offers
pub same_offers : (xs ys : List Tuple) → map entry_of_offer xs ≡ map entry_of_offer ys → texts_of xs ≡ texts_of ys → xs ≡ ys
same_offers [] [] e t = refl
same_offers [] (y ∷ ys) e t = cc
same_offers (x ∷ xs) [] e t = cc
same_offers (x ∷ xs) (y ∷ ys) e t =
    let first : entry_of_offer x ≡ entry_of_offer y = cc in
    let others : map entry_of_offer xs ≡ map entry_of_offer ys = cc in
    let long : length x.aux ≡ length y.aux = ap (λ (z : Entry). z.aux_len) first in
    let both = same_front x.aux y.aux (texts_of xs) (texts_of ys) long t in
    let op = ap (λ (z : Entry). z.op) first in
    let key = ap (λ (z : Entry). z.key) first in
    let value = ap (λ (z : Entry). z.value) first in
    let from = ap (λ (z : Entry). z.from) first in
    let same : x ≡ y = λ i. record { op = op i; key = key i; value = value i; from = from i; aux = both.0 i } in
    ap (λ z. z ∷ xs) same ∙ ap (λ l. y ∷ l) (same_offers xs ys others both.1)

-- ---- the texts from a number on
-- a file that begins with the texts of a list
pub texts_held : (list : List Tuple) (cut text size : ℕ) (file : List ℕ) → text ≡ length (texts_of (take cut list)) → length (texts_of list) ≡ size → BeginsWith file (texts_of list)
    → (take (size - text) (drop text file) ≡ texts_of (drop cut list)) × (size - text ≡ length (texts_of (drop cut list)))
texts_held list cut text size file at all begins =
    let first = texts_of (take cut list) in
    let last = texts_of (drop cut list) in
    let parts : texts_of list ≡ first ++ last = ap texts_of (sym (take-append-drop cut list)) ∙ flat_map-append (λ (o : Tuple). o.aux) (take cut list) (drop cut list) in
    let long = ap length parts ∙ length-append first last in
    let left : size - text ≡ length last = omega (arith, long, at, all) in
    let bytes : file ≡ first ++ (last ++ begins.0) = begins.1 ∙ ap (λ (l : List ℕ). l ++ begins.0) parts ∙ append_assoc first last begins.0 in
    let behind : drop text file ≡ last ++ begins.0 = ap (λ n. drop n file) at ∙ ap (drop (length first)) bytes ∙ drop-append_seam first (last ++ begins.0) in
    (ap (λ n. take n (drop text file)) left ∙ ap (take (length last)) behind ∙ take-append_seam last begins.0, left)

-- a slice from a place on
pub tail_slice : (n : ℕ) (entries : List Entry) → take (length entries - n) (drop n entries) ≡ drop n entries
tail_slice n entries = let size = length-drop n entries in take_all _ _ (omega (arith, size))
