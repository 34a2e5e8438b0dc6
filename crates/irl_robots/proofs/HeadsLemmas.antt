-- What the head of a pattern says of the targets that it matches.
use Rattle.std.proofs.Common.{◌≡◌, ℕ, ◌+◌, ◌<◌, ◌≤◌, suc, true, false, eqb, List, [], ◌∷◌, ◌++◌, length, take, drop, get_or, refl, sym, ap, subst, ◌∙◌, arith, length-append}
use Rattle.std.specs.List.{fold, before_first, position_or_len}
use Rattle.std.proofs.lemmas.List.{take_more, take_all, take_at, take-append-drop, append_assoc, length-take, get_or-take}
use Rattle.std.proofs.lemmas.List.Sums.{fails_before_first, fold-append}
use Rattle.std.proofs.lemmas.Bool.{or_parts}
use Rattle.irl_robots.specs.Matching.{matches}
use Rattle.irl_robots.specs.Heads.{is_special, front_of, sum_after, sum_of, head_of}
use Rattle.irl_robots.proofs.RunsLemmas.{AreLiteralBefore, front-met}

-- ---- sums

pub sum-nothing : sum_of [] ≡ 0
unfolding sum_of
sum-nothing = refl

pub sum-more : (xs : List ℕ) (i : ℕ) → i < length xs → sum_of (take (i + 1) xs) ≡ sum_after (sum_of (take i xs)) (get_or xs i 0)
unfolding sum_of
sum-more xs i below =
    ap (fold sum_after 0) (take_more xs i 0 below) ∙ fold-append sum_after 0 (take i xs) (get_or xs i 0 ∷ [])

pub sum-same : (xs : List ℕ) (i : ℕ) → length xs ≤ i → sum_of (take (i + 1) xs) ≡ sum_of (take i xs)
sum-same xs i above = ap sum_of (take_all (i + 1) xs (omega arith) ∙ sym (take_all i xs above))

-- ---- fronts

fixed-before : (run rest : List ℕ) → ((k : ℕ) → k < length run → is_special (get_or run k 0) ≡ false) → AreLiteralBefore run rest
fixed-before [] rest fixed = tt
fixed-before (c ∷ cs) rest fixed =
    let parts = or_parts (eqb c 42) (eqb c 36) (fixed 0 (omega arith)) in
    ((parts.0, rw parts.1 refl), fixed-before cs rest (λ k below. fixed (suc k) (omega arith)))

front-fixed : (p : List ℕ) (k : ℕ) → k < length (front_of p) → is_special (get_or (front_of p) k 0) ≡ false
front-fixed p k below =
    let n = position_or_len is_special p in
    let low : k < 64 = omega (arith, length-take 64 (take n p)) in
    let within : k < n = omega (arith, length-take 64 (take n p), length-take n p) in
    ap is_special (get_or-take 64 (take n p) k 0 low ∙ get_or-take n p k 0 within)
    ∙ fails_before_first is_special p k 0 within

abbrev rest_of : List ℕ → List ℕ
rest_of p = drop 64 (before_first is_special p) ++ drop (position_or_len is_special p) p

front-rest : (p : List ℕ) → p ≡ front_of p ++ rest_of p
front-rest p =
    let n = position_or_len is_special p in
    sym (take-append-drop n p)
    ∙ ap (λ u. u ++ drop n p) (sym (take-append-drop 64 (take n p)))
    ∙ append_assoc (front_of p) (drop 64 (take n p)) (drop n p)

-- a target that a pattern matches begins with the octets of its front
front-begins : (p t : List ℕ) → matches p t ≡ true → (u : List ℕ) × (t ≡ front_of p ++ u)
front-begins p t h =
    let met = front-met (front_of p) (rest_of p) t (fixed-before (front_of p) (rest_of p) (front-fixed p)) (subst (λ q. matches q t ≡ true) (front-rest p) h) in
    (met.0, met.1)

pub record Begins (p t : List ℕ) : Type 0 where
  pub short : (head_of p).len < 65
  pub long : (head_of p).len ≤ length t
  pub same : sum_of (take (head_of p).len t) ≡ (head_of p).sum

pub begins : (p t : List ℕ) → matches p t ≡ true → Begins p t
unfolding head_of
begins p t h =
    let met = front-begins p t h in
    let n = position_or_len is_special p in
    record {
      short = omega (arith, length-take 64 (take n p));
      long = omega (arith, ap length met.1, length-append (front_of p) met.0);
      same = ap sum_of (ap (take (length (front_of p))) met.1 ∙ take_at (front_of p) met.0 (length (front_of p)) refl);
    }
