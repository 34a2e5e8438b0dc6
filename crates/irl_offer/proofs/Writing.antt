-- A number written over a part of a slice.
use Rattle.std.proofs.Common.{◌≡◌, ◌∙◌, ℕ, ◌+◌, ◌≤◌, List, [], ◌∷◌, ◌++◌, append_assoc, take_all, length, take, drop, sym, ap, arith, length-take}
use Rattle.std.proofs.lemmas.List.{append-nil, drop_all}
use Rattle.std.proofs.lemmas.Slice.{take-put_mid}
use borrow.Rule.Slice.PartMut.{mid_of, put_mid}

-- the part was as long as the number, so nothing of it is left behind the number
pub put_number : (at k n : ℕ) (bytes now number : List ℕ) → k ≡ n → length number ≡ n → now ≡ number ++ drop n (mid_of at k bytes) → at + n ≤ length bytes
    → take (at + n) (put_mid at k bytes now) ≡ take at bytes ++ number
put_number at k n bytes now number is long wrote fits =
    let part = mid_of at k bytes in
    let room : length part ≤ n = omega (arith, is, length-take k (drop at bytes)) in
    let all : now ≡ number = wrote ∙ ap (λ (rest : List ℕ). number ++ rest) (drop_all n part room) ∙ append-nil number in
    take-put_mid at k bytes now (at + n) (omega (arith, ap length all, long)) (omega (arith, fits)) ∙ ap (λ (l : List ℕ). take at bytes ++ l) all

-- numbers written one behind the other
pub all_put : (op : ℕ) (a b c d : List ℕ) (zero one two three four : List ℕ) → take 1 zero ≡ op ∷ [] → take 3 one ≡ take 1 zero ++ a → take 11 two ≡ take 3 one ++ b → take 19 three ≡ take 11 two ++ c
    → take 27 four ≡ take 19 three ++ d → length four ≡ 27
    → four ≡ op ∷ (a ++ (b ++ (c ++ d)))
all_put op a b c d zero one two three four first h i j k long =
    sym (take_all 27 four (omega (arith, long))) ∙ k ∙ rw (j, i, h, first) (simp append_assoc)
