-- The laws of `cut`, and of what it gives again and again.
use Rattle.std.proofs.Common.{◌≡◌, ◌≢◌, ℕ, ◌+◌, ◌<◌, ◌≤◌, Bool, true, false, cond, ◌==◌, List, [], ◌∷◌, ◌++◌, length, get_or, take, drop, Some, None, All, sym, refl, ap, ◌∙◌, subst, arith, take-append-drop, nat_lt, ◌&&◌}
use Rattle.std.proofs.lemmas.Bool.Decides.{nat_tests}
use Rattle.std.specs.Prelude.{Option, option_copied, is_some, slice_index}
use Rattle.std.specs.Borrow.{Bor}
use Rattle.std.proofs.lemmas.List.Splits.{length-slice_split}
use Rattle.std.specs.List.{onto_first}
use Rattle.std.proofs.lemmas.Bool.{cond-true, cond-false, eq-eqb, ne_eqb, false≢true}
use Rattle.std.proofs.lemmas.List.{drop_more, get_or-take, length-take-le, take_all}
use Rattle.std.proofs.lemmas.List.Sums.{count_by-le-length}
use Rattle.std.proofs.lemmas.List.Elements.{All-head, All-tail, All-from_get_or}
use Rattle.irl_pld.specs.Cut.{cut, split, parts_left}
use Rattle.irl_pld.specs.Domains.{without_port, tails, tails_left}
use Rattle.irl_pld.specs.Names.{lines_of}

-- the byte is not the separator
abbrev IsNot : ℕ → ℕ → Type 0
IsNot separator b = b ≢ separator

cut-at : (s : ℕ) (xs ys : List ℕ) → All (IsNot s) xs → cut s (xs ++ s ∷ ys) ≡ (xs, Some ys)
unfolding cut
cut-at s [] ys none = cond-true _ _ _ (eq-eqb s s refl)
cut-at s (x ∷ xs) ys none =
    cond-false _ _ _ (ne_eqb x s (All-head (IsNot s) x xs none)) ∙ ap (λ r. (x ∷ r.0, r.1)) (cut-at s xs ys (All-tail (IsNot s) x xs none))

pub cut-none : (s : ℕ) (xs : List ℕ) → All (IsNot s) xs → cut s xs ≡ (xs, None)
unfolding cut
cut-none s [] none = refl
cut-none s (x ∷ xs) none =
    cond-false _ _ _ (ne_eqb x s (All-head (IsNot s) x xs none)) ∙ ap (λ r. (x ∷ r.0, r.1)) (cut-none s xs (All-tail (IsNot s) x xs none))

around : (xs : List ℕ) (i s : ℕ) → i < length xs → get_or xs i 0 ≡ s → xs ≡ take i xs ++ s ∷ drop (i + 1) xs
around xs i s inside here = sym (take-append-drop i xs) ∙ ap (λ l. take i xs ++ l) (drop_more xs i 0 inside ∙ ap (λ b. b ∷ drop (i + 1) xs) here)

front_is : (s : ℕ) (xs : List ℕ) (i : ℕ) → i ≤ length xs → ((k : ℕ) → k < i → get_or xs k 0 ≢ s) → All (IsNot s) (take i xs)
front_is s xs i within reads =
    All-from_get_or (IsNot s) (take i xs) 0 (λ k inside. let below : k < i = omega (arith, length-take-le i xs within) in subst (IsNot s) (sym (get_or-take i xs k 0 below)) (reads k below))

-- at the place of the first separator
pub cut-first : (s : ℕ) (xs : List ℕ) (i : ℕ) → i < length xs → get_or xs i 0 ≡ s → ((k : ℕ) → k < i → get_or xs k 0 ≢ s) → cut s xs ≡ (take i xs, Some (drop (i + 1) xs))
cut-first s xs i inside here before = ap (cut s) (around xs i s inside here) ∙ cut-at s _ _ (front_is s xs i (omega arith) before)

-- ---- the parts, and the tails

split_by : (s b : ℕ) (bytes : List ℕ) (test : Bool) → split s bytes ≡ (cut s bytes).0 ∷ parts_left s (cut s bytes).1
    → cond test ([] ∷ split s bytes) (onto_first b (split s bytes)) ≡ (cond {A = List ℕ × Option (List ℕ)} test ([], Some bytes) (b ∷ (cut s bytes).0, (cut s bytes).1)).0
    ∷ parts_left s (cond {A = List ℕ × Option (List ℕ)} test ([], Some bytes) (b ∷ (cut s bytes).0, (cut s bytes).1)).1
split_by s b bytes true later = refl
split_by s b bytes false later = ap (onto_first b) later

-- the first part, and the parts of what is left
pub split-cut : (s : ℕ) (bytes : List ℕ) → split s bytes ≡ (cut s bytes).0 ∷ parts_left s (cut s bytes).1
unfolding cut
split-cut s [] = refl
split-cut s (b ∷ bytes) = split_by s b bytes (b == s) (split-cut s bytes)

tails_by : (b : ℕ) (bytes : List ℕ) (test : Bool) → tails bytes ≡ tails_left (cut 46 bytes).1
    → cond test (bytes ∷ tails bytes) (tails bytes) ≡ tails_left (cond {A = List ℕ × Option (List ℕ)} test ([], Some bytes) (b ∷ (cut 46 bytes).0, (cut 46 bytes).1)).1
tails_by b bytes true later = refl
tails_by b bytes false later = later

pub tails-cut : (bytes : List ℕ) → tails bytes ≡ tails_left (cut 46 bytes).1
unfolding cut
tails-cut [] = refl
tails-cut (b ∷ bytes) = tails_by b bytes (b == 46) (tails-cut bytes)

-- ---- tests

pub nonempty_and : (xs : List ℕ) (rest : Bool) → false ≡ (length xs == 0) → rest ≡ (nat_lt 0 (length xs) && rest)
nonempty_and xs rest nonempty = let more : nat_lt 0 (length xs) ≡ true = grind (arith, nat_tests) in rw more

-- ---- where there is no separator

whole_by : (s b : ℕ) (bytes : List ℕ) (test : Bool) → ((cut s bytes).1 ≡ None → (cut s bytes).0 ≡ bytes)
    → (cond {A = List ℕ × Option (List ℕ)} test ([], Some bytes) (b ∷ (cut s bytes).0, (cut s bytes).1)).1 ≡ None
    → (cond {A = List ℕ × Option (List ℕ)} test ([], Some bytes) (b ∷ (cut s bytes).0, (cut s bytes).1)).0 ≡ b ∷ bytes
whole_by s b bytes true later none = cc
whole_by s b bytes false later none = ap (λ l. b ∷ l) (later none)

pub cut-whole : (s : ℕ) (bytes : List ℕ) → (cut s bytes).1 ≡ None → (cut s bytes).0 ≡ bytes
unfolding cut
cut-whole s [] none = refl
cut-whole s (b ∷ bytes) none = whole_by s b bytes (b == s) (cut-whole s bytes) none

front_by : (s b : ℕ) (bytes : List ℕ) (test : Bool) → length (cut s bytes).0 ≤ length bytes
    → length (cond {A = List ℕ × Option (List ℕ)} test ([], Some bytes) (b ∷ (cut s bytes).0, (cut s bytes).1)).0 ≤ length (b ∷ bytes)
front_by s b bytes true later = omega arith
front_by s b bytes false later = omega arith

pub length-cut_front : (s : ℕ) (bytes : List ℕ) → length (cut s bytes).0 ≤ length bytes
unfolding cut
length-cut_front s [] = omega arith
length-cut_front s (b ∷ bytes) = front_by s b bytes (b == s) (length-cut_front s bytes)

-- a host with an opening bracket and no closing one has no port
pub without_port-open : (host : List ℕ) (rest : Option (Bor (List ℕ))) → (slice_index host 0 == 91) ≡ true → option_copied rest ≡ (cut 93 host).1 → false ≡ is_some rest → host ≡ without_port host
without_port-open host None bracket is none =
    let whole = cut-whole 93 host (sym is) in
    sym (cond-true _ (take (length (cut 93 host).0 + 1) host) _ bracket ∙ ap (λ t. take (length t + 1) host) whole ∙ take_all (length host + 1) host (omega arith))
without_port-open host (Some r) bracket is none = absurd (false≢true none)

-- ---- how many parts there are

pub length-split : (s : ℕ) (bytes : List ℕ) → length (split s bytes) ≤ length bytes + 1
length-split s bytes = omega (arith, length-slice_split (λ b. b == s) bytes, count_by-le-length (λ b. b == s) bytes)

pub length-lines : (text : List ℕ) → length (lines_of text) ≤ length text + 1
length-lines [] = omega arith
length-lines (b ∷ text) = length-split 10 (b ∷ text)
