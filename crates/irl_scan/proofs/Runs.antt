-- A run of bytes up to the first place where something stands.
use Rattle.std.proofs.Common.{◌≡◌, ℕ, zero, suc, ◌+◌, ◌<◌, ◌≤◌, Bool, true, false, cond, List, [], ◌∷◌, ◌++◌, length, drop, refl, ap, sym, ◌∙◌, arith}
use Rattle.std.proofs.lemmas.List.{length-append}
use Rattle.irl_scan.specs.Bytes.{UpTo}
use Rattle.irl_scan.specs.Reading.{from, before, IsRun}

-- the two parts of a list joined are the list
joined_cases : (t : Bool) (b : ℕ) (bs front back : List ℕ) → front ++ back ≡ bs → cond t [] (b ∷ front) ++ cond t (b ∷ bs) back ≡ b ∷ bs
joined_cases true b bs front back e = refl
joined_cases false b bs front back e = ap (λ ys. b ∷ ys) e

pub before-from : (stops : List ℕ → Bool) (xs : List ℕ) → before stops xs ++ from stops xs ≡ xs
before-from stops [] = refl
before-from stops (b ∷ bs) = joined_cases (stops (b ∷ bs)) b bs (before stops bs) (from stops bs) (before-from stops bs)

-- ## A run read from a list is as the grammar says, and is the only one

upto_cases : (stops : List ℕ → Bool) (b : ℕ) (bs : List ℕ) (t : Bool) → stops (b ∷ bs) ≡ t → UpTo stops (before stops bs) (from stops bs)
    → UpTo stops (cond t [] (b ∷ before stops bs)) (cond t (b ∷ bs) (from stops bs))
upto_cases stops b bs true e ih = e
upto_cases stops b bs false e ih = (ap (λ ys. stops (b ∷ ys)) (before-from stops bs) ∙ e, ih)

pub UpTo-read : (stops : List ℕ → Bool) → stops [] ≡ true → (xs : List ℕ) → UpTo stops (before stops xs) (from stops xs)
UpTo-read stops h [] = h
UpTo-read stops h (b ∷ bs) = upto_cases stops b bs (stops (b ∷ bs)) refl (UpTo-read stops h bs)

from_here : (stops : List ℕ → Bool) (rest : List ℕ) → stops rest ≡ true → from stops rest ≡ rest
from_here stops [] h = refl
from_here stops (b ∷ bs) h = ap (λ t. cond t (b ∷ bs) (from stops bs)) h

before_here : (stops : List ℕ → Bool) (rest : List ℕ) → stops rest ≡ true → before stops rest ≡ []
before_here stops [] h = refl
before_here stops (b ∷ bs) h = ap (λ t. cond t [] (b ∷ before stops bs)) h

pub from-UpTo : (stops : List ℕ → Bool) (body rest : List ℕ) → UpTo stops body rest → from stops (body ++ rest) ≡ rest
from-UpTo stops [] rest h = from_here stops rest h
from-UpTo stops (b ∷ body) rest h =
    ap (λ t. cond t (b ∷ (body ++ rest)) (from stops (body ++ rest))) h.0 ∙ from-UpTo stops body rest h.1

pub before-UpTo : (stops : List ℕ → Bool) (body rest : List ℕ) → UpTo stops body rest → before stops (body ++ rest) ≡ body
before-UpTo stops [] rest h = before_here stops rest h
before-UpTo stops (b ∷ body) rest h =
    ap (λ t. cond t [] (b ∷ before stops (body ++ rest))) h.0 ∙ ap (λ ys. b ∷ ys) (before-UpTo stops body rest h.1)

-- what stops a run stands where it ends
stop_cases : (stops : List ℕ → Bool) (b : ℕ) (bs : List ℕ) (t : Bool) → stops (b ∷ bs) ≡ t → stops (from stops bs) ≡ true → stops (cond t (b ∷ bs) (from stops bs)) ≡ true
stop_cases stops b bs true e h = e
stop_cases stops b bs false e h = h

pub stops_there : (stops : List ℕ → Bool) → stops [] ≡ true → (xs : List ℕ) → stops (from stops xs) ≡ true
stops_there stops h [] = h
stops_there stops h (b ∷ bs) = stop_cases stops b bs (stops (b ∷ bs)) refl (stops_there stops h bs)

-- two runs of one list are the same
pub one_run : (stops : List ℕ → Bool) (a b r s : List ℕ) → UpTo stops a r → UpTo stops b s → a ++ r ≡ b ++ s → (a ≡ b) × (r ≡ s)
one_run stops a b r s h k e = (
  sym (before-UpTo stops a r h) ∙ ap (before stops) e ∙ before-UpTo stops b s k,
  sym (from-UpTo stops a r h) ∙ ap (from stops) e ∙ from-UpTo stops b s k,
)

pub length-run : (stops : List ℕ → Bool) (xs : List ℕ) → length (before stops xs) + length (from stops xs) ≡ length xs
length-run stops xs = sym (length-append (before stops xs) (from stops xs)) ∙ ap length (before-from stops xs)

-- ## How long a run is

-- a run ends where the test holds first
pub first_run : (stops : List ℕ → Bool) (xs : List ℕ) (n : ℕ) → n ≤ length xs → ((k : ℕ) → k < n → stops (drop k xs) ≡ false) → (n < length xs → stops (drop n xs) ≡ true) → IsRun stops xs n
first_run stops [] zero fits none here = record { within = fits; front = refl; back = refl }
first_run stops [] (suc n) fits none here = absurd (omega arith)
first_run stops (b ∷ bs) zero fits none here =
    let stands = here (omega arith) in
    record { within = fits; front = sym (ap (λ t. cond t [] (b ∷ before stops bs)) stands); back = sym (ap (λ t. cond t (b ∷ bs) (from stops bs)) stands) }
first_run stops (b ∷ bs) (suc n) fits none here =
    let passes = none 0 (omega arith) in
    let more = first_run stops bs n (omega arith) (λ k l. none (suc k) (omega arith)) (λ l. here (omega arith)) in
    record {
      within = fits;
      front = ap (λ ys. b ∷ ys) more.front ∙ sym (ap (λ t. cond t [] (b ∷ before stops bs)) passes);
      back = more.back ∙ sym (ap (λ t. cond t (b ∷ bs) (from stops bs)) passes);
    }
