-- Words as bytes: which bytes are a word's, and that no two words have the same.
use Rattle.std.proofs.Common.{◌≡◌, ◌∙◌, ◌⊎◌, ℕ, ◌<◌, ◌≤◌, ◌^◌, List, [], ◌∷◌, ◌++◌, length, take, drop, get_or, refl, sym, ap, subst, arith, ⊎_elim, take-append-drop, length-take, length-take-le}
use Rattle.std.proofs.lemmas.List.{get_or-take}
use Rattle.std.proofs.lemmas.Nat.{le_bytes_2, le_bytes_4, le_bytes_8, from_le_bytes-to_le_bytes_2, from_le_bytes-to_le_bytes_4, from_le_bytes-to_le_bytes_8}
use Rattle.std.proofs.Math.ListN.{get_or-eq_default}
use Rattle.std.specs.Int.{w16, w32, w64, to_le_bytes, from_le_bytes}

-- ---- bytes
abbrev pub AreBytes : List ℕ → Type 0
AreBytes bytes = (i : ℕ) → get_or bytes i 0 < 256

below_or_not : (i n : ℕ) → (i < n) ⊎ (n ≤ i)
below_or_not i n = grind arith

pub bytes-take : (n : ℕ) (bytes : List ℕ) → AreBytes bytes → AreBytes (take n bytes)
bytes-take n bytes small = λ i. ⊎_elim
    (λ (below : i < n). rw (get_or-take n bytes i 0 below) (small i))
    (λ (past : n ≤ i). let none : get_or (take n bytes) i 0 ≡ 0 = get_or-eq_default (take n bytes) 0 (omega (arith, length-take n bytes)) in omega (arith, none))
    (below_or_not i n)

-- the first of two parts, and the second, where the first are as long
pub same_front : (a b x y : List ℕ) → length a ≡ length b → a ++ x ≡ b ++ y → (a ≡ b) × (x ≡ y)
same_front [] [] x y long same = (refl, same)
same_front [] (b ∷ bs) x y long same = absurd (omega (arith, long))
same_front (a ∷ xs) [] x y long same = absurd (omega (arith, long))
same_front (a ∷ xs) (b ∷ bs) x y long same =
    let head : a ≡ b = cc in
    let tail : xs ++ x ≡ bs ++ y = cc in
    let rest = same_front xs bs x y (omega (arith, long)) tail in
    let front : xs ≡ bs = rest.0 in (cc, rest.1)

-- ---- what is read
pub read_2 : (bytes word rest : List ℕ) (n : ℕ) → AreBytes bytes → 2 ≤ length bytes → word ≡ take 2 bytes → rest ≡ drop 2 bytes → n ≡ from_le_bytes w16 word → bytes ≡ to_le_bytes w16 n ++ rest
read_2 bytes word rest n small long front behind is =
    let same : to_le_bytes w16 n ≡ word = le_bytes_2 word n (ap length front ∙ length-take-le 2 bytes long) (subst AreBytes (sym front) (bytes-take 2 bytes small)) is in
    sym (take-append-drop 2 bytes) ∙ ap (λ (l : List ℕ). l ++ drop 2 bytes) (sym front ∙ sym same) ∙ ap (λ (l : List ℕ). to_le_bytes w16 n ++ l) (sym behind)

pub read_4 : (bytes word rest : List ℕ) (n : ℕ) → AreBytes bytes → 4 ≤ length bytes → word ≡ take 4 bytes → rest ≡ drop 4 bytes → n ≡ from_le_bytes w32 word → bytes ≡ to_le_bytes w32 n ++ rest
read_4 bytes word rest n small long front behind is =
    let same : to_le_bytes w32 n ≡ word = le_bytes_4 word n (ap length front ∙ length-take-le 4 bytes long) (subst AreBytes (sym front) (bytes-take 4 bytes small)) is in
    sym (take-append-drop 4 bytes) ∙ ap (λ (l : List ℕ). l ++ drop 4 bytes) (sym front ∙ sym same) ∙ ap (λ (l : List ℕ). to_le_bytes w32 n ++ l) (sym behind)

pub read_8 : (bytes word rest : List ℕ) (n : ℕ) → AreBytes bytes → 8 ≤ length bytes → word ≡ take 8 bytes → rest ≡ drop 8 bytes → n ≡ from_le_bytes w64 word → bytes ≡ to_le_bytes w64 n ++ rest
read_8 bytes word rest n small long front behind is =
    let same : to_le_bytes w64 n ≡ word = le_bytes_8 word n (ap length front ∙ length-take-le 8 bytes long) (subst AreBytes (sym front) (bytes-take 8 bytes small)) is in
    sym (take-append-drop 8 bytes) ∙ ap (λ (l : List ℕ). l ++ drop 8 bytes) (sym front ∙ sym same) ∙ ap (λ (l : List ℕ). to_le_bytes w64 n ++ l) (sym behind)

-- ---- no two words have the same bytes
pub same_2 : (m n : ℕ) (x y : List ℕ) → m < 2 ^ 16 → n < 2 ^ 16 → to_le_bytes w16 m ++ x ≡ to_le_bytes w16 n ++ y → (m ≡ n) × (x ≡ y)
same_2 m n x y low low_too same =
    let parts = same_front (to_le_bytes w16 m) (to_le_bytes w16 n) x y refl same in
    (sym (from_le_bytes-to_le_bytes_2 m low) ∙ ap (from_le_bytes w16) parts.0 ∙ from_le_bytes-to_le_bytes_2 n low_too, parts.1)

pub same_4 : (m n : ℕ) (x y : List ℕ) → m < 2 ^ 32 → n < 2 ^ 32 → to_le_bytes w32 m ++ x ≡ to_le_bytes w32 n ++ y → (m ≡ n) × (x ≡ y)
same_4 m n x y low low_too same =
    let parts = same_front (to_le_bytes w32 m) (to_le_bytes w32 n) x y refl same in
    (sym (from_le_bytes-to_le_bytes_4 m low) ∙ ap (from_le_bytes w32) parts.0 ∙ from_le_bytes-to_le_bytes_4 n low_too, parts.1)

pub same_8 : (m n : ℕ) (x y : List ℕ) → m < 2 ^ 64 → n < 2 ^ 64 → to_le_bytes w64 m ++ x ≡ to_le_bytes w64 n ++ y → (m ≡ n) × (x ≡ y)
same_8 m n x y low low_too same =
    let parts = same_front (to_le_bytes w64 m) (to_le_bytes w64 n) x y refl same in
    (sym (from_le_bytes-to_le_bytes_8 m low) ∙ ap (from_le_bytes w64) parts.0 ∙ from_le_bytes-to_le_bytes_8 n low_too, parts.1)
