-- The bytes of a cache side, and the keys that they are.
use Rattle.std.proofs.Common.{◌≡◌, ◌∙◌, ℕ, zero, suc, ◌+◌, ◌-◌, ◌*◌, ◌^◌, ◌<◌, ◌≤◌, List, [], ◌∷◌, ◌++◌, length, take, drop, get_or, refl, sym, ap, arith, length-append, drop-cons, Bool, true, false}
use Rattle.std.specs.Prelude.{T, ◌&&◌}
use Rattle.std.specs.declared.cmp.Ordering.TheVariants.{Less, Equal, Greater}
use Rattle.std.proofs.Math.Seq.{drop-append-add, take-append_seam}
use Rattle.std.proofs.lemmas.List.{drop-take}
use Rattle.std.specs.List.{AllByRecursion}
use Rattle.std.specs.Ordering.{nat_cmp, is_lt}
use Rattle.std.specs.Cmp.{ranked}
use Rattle.std.specs.FinMap.{entries, entries_sorted, is_sorted}
use Rattle.std.specs.FinMap.Entries.{below_all}
use Rattle.byteorder.specs.Endian.{little_bytes, little_number}
use Rattle.byteorder.specs.Numbers.{little_number-reads_back, little_from-take}
use Rattle.irl_journal.specs.Blob.{BeginsWith}
use Rattle.irl_model.specs.Judging.{KeyMap}
use Rattle.irl_cache.specs.SortedRun.{AreWords, AreWordPairs, FallsAt, pairs_bytes}

pub length-pairs : (ps : List (ℕ × ℕ)) → length (pairs_bytes ps) ≡ 16 * length ps
length-pairs [] = refl
length-pairs (p ∷ ps) = length-append (little_bytes 8 p.0 ++ little_bytes 8 p.1) (pairs_bytes ps) ∙ (let ih = length-pairs ps in omega (arith, ih))

drop_nil : (n : ℕ) → drop {A = ℕ} n [] ≡ []
drop_nil zero = refl
drop_nil (suc n) = refl

drop-pairs : (i : ℕ) (ps : List (ℕ × ℕ)) → drop (16 * i) (pairs_bytes ps) ≡ pairs_bytes (drop i ps)
drop-pairs zero ps = refl
drop-pairs (suc i) [] = drop_nil (16 * suc i)
drop-pairs (suc i) (p ∷ ps) =
    let more : 16 * suc i ≡ 16 + 16 * i = omega arith in
    ap (λ n. drop n (pairs_bytes (p ∷ ps))) more ∙ drop-append-add (little_bytes 8 p.0 ++ little_bytes 8 p.1) (pairs_bytes ps) (16 * i) ∙ drop-pairs i ps

-- what eight bytes of a pair are
module _ (p : ℕ × ℕ) (ps : List (ℕ × ℕ)) (fits : (p.0 < 2 ^ 64) × (p.1 < 2 ^ 64)) where
  key_first : little_number 8 (pairs_bytes (p ∷ ps)) ≡ p.0
  key_first = little_number-reads_back 8 p.0 (little_bytes 8 p.1 ++ pairs_bytes ps) fits.0

  value_first : little_number 8 (drop 8 (pairs_bytes (p ∷ ps))) ≡ p.1
  value_first = little_number-reads_back 8 p.1 (pairs_bytes ps) fits.1

each_drop : (i : ℕ) (ps : List (ℕ × ℕ)) → AllByRecursion (λ p. (p.0 < 2 ^ 64) × (p.1 < 2 ^ 64)) ps → AllByRecursion (λ p. (p.0 < 2 ^ 64) × (p.1 < 2 ^ 64)) (drop i ps)
each_drop zero ps h = h
each_drop (suc i) [] h = h
each_drop (suc i) (p ∷ ps) h = each_drop i ps h.1

pub drop_more : (i n : ℕ) (bytes : List ℕ) → drop (i + n) bytes ≡ drop n (drop i bytes)
drop_more zero n bytes = ap (λ k. drop k bytes) (let e : 0 + n ≡ n = omega arith in e)
drop_more (suc i) n [] = drop_nil (suc i + n) ∙ sym (drop_nil n)
drop_more (suc i) n (b ∷ bytes) =
    let e : suc i + n ≡ suc (i + n) = omega arith in
    ap (λ k. drop k (b ∷ bytes)) e ∙ drop_more i n bytes

pub key_at : (i : ℕ) (ps : List (ℕ × ℕ)) (d : ℕ × ℕ) → i < length ps → AllByRecursion (λ p. (p.0 < 2 ^ 64) × (p.1 < 2 ^ 64)) ps → little_number 8 (drop (16 * i) (pairs_bytes ps)) ≡ (get_or ps i d).0
key_at i ps d h fits =
    let is = drop-cons ps i d h in
    let here = rw is at (each_drop i ps fits) in
    ap (little_number 8) (drop-pairs i ps ∙ ap pairs_bytes is) ∙ key_first (get_or ps i d) (drop (suc i) ps) here.0

first : (a b : Bool) → T (a && b) → T a
first true b h = tt
first false b h = h

second : (a b : Bool) → T (a && b) → T b
second true b h = h
second false b h = absurd h

-- ---- they rise
less : (x y : ℕ) → T (is_lt (nat_cmp x y)) → x < y
less x y h =
    elim (nat_cmp x y) as (λ r. r ≡ nat_cmp x y → T (is_lt r) → x < y) [
      | Less ↦ λ e t. ranked x y Less e
      | Equal ↦ λ e t. absurd t
      | Greater ↦ λ e t. absurd t
    ] refl h

above_all : (x : ℕ) (ps : List (ℕ × ℕ)) (d : ℕ × ℕ) (i : ℕ) → T (below_all nat_cmp x ps) → i < length ps → x < (get_or ps i d).0
above_all x [] d i h lt = absurd (omega arith)
above_all x (p ∷ ps) d zero h lt = less x p.0 (first _ _ h)
above_all x (p ∷ ps) d (suc i) h lt = above_all x ps d i (second _ _ h) (omega arith)

pub rises : (ps : List (ℕ × ℕ)) (d : ℕ × ℕ) (i : ℕ) → T (is_sorted nat_cmp ps) → i + 1 < length ps → (get_or ps i d).0 < (get_or ps (suc i) d).0
rises [] d i h lt = absurd (omega arith)
rises (p ∷ ps) d zero h lt = above_all p.0 ps d 0 (first _ _ h) (omega arith)
rises (p ∷ ps) d (suc i) h lt = rises ps d i (second _ _ h) (omega arith)

-- so none of them falls
none_falls : (keys : KeyMap) (i at : ℕ) → AreWords keys → i + 1 < length (entries keys) → at ≡ 16 * (i + 1)
    → little_number 8 (drop at (pairs_bytes (entries keys))) ≤ little_number 8 (drop (16 * i) (pairs_bytes (entries keys))) → ⊥
none_falls keys i at fits within place falls =
    let es = entries keys in
    let d : ℕ × ℕ = (0, 0) in
    let after : i + 1 ≡ suc i = omega arith in
    let low = key_at i es d (omega (arith, within)) fits in
    let high = ap (λ n. little_number 8 (drop n (pairs_bytes es))) place ∙ key_at (i + 1) es d within fits ∙ ap (λ n. (get_or es n d).0) after in
    let above = rises es d i (entries_sorted keys) within in
    let fell = rw (low, high) at falls in
    omega (arith, above, fell)

-- ---- a side at the front of a file
-- a number's bytes in a part of a file
number_within : (n at : ℕ) (file : List ℕ) → at + 8 ≤ n → n ≤ length file → little_number 8 (drop at (take n file)) ≡ little_number 8 (drop at file)
number_within n at file within long =
    let m : at + (n - at) ≡ n = omega arith in
    ap (λ k. little_number 8 (drop at (take k file))) (sym m) ∙ ap (little_number 8) (drop-take at (n - at) file) ∙ little_from-take 0 8 (n - at) (drop at file) (omega arith)

-- no key of a set falls where a file begins with them
pub none_falls_there : (keys : KeyMap) (count at : ℕ) (file : List ℕ) → AreWords keys → count ≡ length (entries keys) → BeginsWith file (pairs_bytes (entries keys)) → FallsAt count file at → ⊥
none_falls_there keys count at file fits size begins falls =
    let bytes = pairs_bytes (entries keys) in
    let long : 16 * count ≡ length bytes = ap (λ n. 16 * n) size ∙ sym (length-pairs (entries keys)) in
    let within : falls.i + 1 < count = falls.within in
    let front : take (16 * count) file ≡ bytes = ap (λ n. take n file) long ∙ ap (take (length bytes)) begins.1 ∙ take-append_seam bytes begins.0 in
    let all : 16 * count ≤ length file = omega (arith, ap length begins.1, length-append bytes begins.0, long) in
    let high = sym (number_within (16 * count) at file (omega (arith, falls.place, within)) all) ∙ ap (λ l. little_number 8 (drop at l)) front in
    let low = sym (number_within (16 * count) (16 * falls.i) file (omega (arith, within)) all) ∙ ap (λ l. little_number 8 (drop (16 * falls.i) l)) front in
    none_falls keys falls.i at fits (omega (arith, within, size)) falls.place (rw (high, low) at falls.falls)

-- pairs whose numbers have their room are told by their bytes
first_is : (p : ℕ × ℕ) (ps : List (ℕ × ℕ)) → (p.0 < 2 ^ 64) × (p.1 < 2 ^ 64) → (little_number 8 (pairs_bytes (p ∷ ps)) ≡ p.0) × (little_number 8 (drop 8 (pairs_bytes (p ∷ ps))) ≡ p.1)
    × (drop 16 (pairs_bytes (p ∷ ps)) ≡ pairs_bytes ps)
first_is p ps fits = (key_first p ps fits, value_first p ps fits, refl)

pub same_pairs : (xs ys : List (ℕ × ℕ)) → AreWordPairs xs → AreWordPairs ys → length xs ≡ length ys → pairs_bytes xs ≡ pairs_bytes ys → xs ≡ ys
same_pairs [] [] fx fy size same = refl
same_pairs [] (y ∷ ys) fx fy size same = absurd (omega arith)
same_pairs (x ∷ xs) [] fx fy size same = absurd (omega arith)
same_pairs (x ∷ xs) (y ∷ ys) fx fy size same =
    let of_x = first_is x xs fx.0 in
    let of_y = first_is y ys fy.0 in
    let key : x.0 ≡ y.0 = sym of_x.0 ∙ ap (little_number 8) same ∙ of_y.0 in
    let value : x.1 ≡ y.1 = sym of_x.1 ∙ ap (λ (l : List ℕ). little_number 8 (drop 8 l)) same ∙ of_y.1 in
    let rest : pairs_bytes xs ≡ pairs_bytes ys = sym of_x.2 ∙ ap (λ (l : List ℕ). drop 16 l) same ∙ of_y.2 in
    let one : x ≡ y = λ i. (key i, value i) in
    ap (λ (p : ℕ × ℕ). p ∷ xs) one ∙ ap (λ (l : List (ℕ × ℕ)). y ∷ l) (same_pairs xs ys fx.1 fy.1 (omega arith) rest)
