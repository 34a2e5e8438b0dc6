-- How the runs of octets between the `*` of a pattern are sought in a path.
use Rattle.std.proofs.Common.{◌≡◌, ◌≢◌, ℕ, ◌+◌, ◌-◌, ◌<◌, ◌≤◌, suc, Bool, true, false, ◌&&◌, eqb, ltb, List, [], ◌∷◌, ◌++◌, length, take, drop, get_or, Option, Some, None, is_some, min, refl, sym, ap, subst, ◌∙◌, inl, inr, arith, eq-eqb, length-drop, length-append}
use Rattle.std.proofs.lemmas.List.{append-nil, drop-drop, drop_at, take_at, take-append-drop, drop_more, drop_min, take_rest, length-take-le, get_or-take, nil_from_length, same_from_push}
use Rattle.std.proofs.lemmas.Bool.{cases_Bool, or_cases, and_right, ne_eqb, eqb-true, ltb-true, ltb-false, false_from_ne_true}
use Rattle.std.proofs.lemmas.Slice.Eq.{bytes_eq-Decides}
use Rattle.std.specs.Str.{bytes_eq}
use Rattle.irl_robots.specs.Matching.{matches, is_empty, some_end}
use Rattle.irl_robots.specs.Runs.{AreLiteral, IsSplit, StandsNowhere, IsPastFirst}
use Rattle.irl_robots.proofs.MatchingLemmas.{IsLiteralAt, matches-one, matches-star, one_then-met, one_then-unmet, one_then-past}
use Rattle.irl_robots.proofs.SearchLemmas.{more-follows, end-at, end-from}
use Rattle.irl_robots.proofs.CutLemmas.{one_then-parts, nil-from_empty, matches-none, matches-last}
use Rattle.memchr.specs.Find.{OccursAt, Nowhere, NoneBefore, FindsNeedle, Passes, is_byte}
use Rattle.memchr.proofs.lemmas.MatchLemmas.{OccursAt-from_part, OccursAt-split}

-- ---- octets that stand for themselves

-- the octets stand for themselves before the rest of a pattern
abbrev pub AreLiteralBefore : List ℕ → List ℕ → Type 0
AreLiteralBefore [] rest = Unit {0}
AreLiteralBefore (c ∷ cs) rest = IsLiteralAt c (cs ++ rest) × AreLiteralBefore cs rest

before-more : (run : List ℕ) (d : ℕ) (rest : List ℕ) → AreLiteral run → AreLiteralBefore run (d ∷ rest)
before-more [] d rest literal = tt
before-more (c ∷ cs) d rest literal =
    ((ne_eqb c 42 literal.0, and_right (eqb c 36) _ (more-follows cs d rest)), before-more cs d rest literal.1)

-- at the end of a pattern, where the last is no `$`
before-nothing : (run : List ℕ) → AreLiteral run → ((front : List ℕ) → run ≢ front ++ 36 ∷ []) → AreLiteralBefore run []
before-nothing [] literal other = tt
before-nothing (c ∷ []) literal other =
    let differs : eqb c 36 ≡ false = ne_eqb c 36 (λ is. other [] (ap (λ d. d ∷ []) is)) in
    ((ne_eqb c 42 literal.0, rw differs refl), tt)
before-nothing (c ∷ d ∷ cs) literal other =
    ((ne_eqb c 42 literal.0, and_right (eqb c 36) _ refl), before-nothing (d ∷ cs) literal.1 (λ front is. other (c ∷ front) (ap (λ u. c ∷ u) is)))

literal-from : (cs : List ℕ) → ((k : ℕ) → k < length cs → get_or cs k 0 ≢ 42) → AreLiteral cs
literal-from [] none = tt
literal-from (c ∷ cs) none = (none 0 (omega arith), literal-from cs (λ k below. none (suc k) (omega arith)))

-- they are met by the same octets
met-front : (run rest u : List ℕ) → AreLiteralBefore run rest → matches (run ++ rest) (run ++ u) ≡ matches rest u
met-front [] rest u literal = refl
met-front (c ∷ cs) rest u literal =
    matches-one c (cs ++ rest) (c ∷ (cs ++ u)) literal.0 ∙ rw (eq-eqb c c refl) (met-front cs rest u literal.1)

pub front-met : (run rest s : List ℕ) → AreLiteralBefore run rest → matches (run ++ rest) s ≡ true → (u : List ℕ) × (s ≡ run ++ u) × (matches rest u ≡ true)
front-met [] rest s literal h = (s, refl, h)
front-met (c ∷ cs) rest s literal h =
    let met = one_then-parts c (matches (cs ++ rest)) s (sym (matches-one c (cs ++ rest) s literal.0) ∙ h) in
    let later = front-met cs rest met.0 literal.1 met.2 in
    (later.0, met.1 ∙ ap (λ u. c ∷ u) later.1, later.2)

-- ---- where a pattern that begins with them matches

end-within : (passes : List ℕ → Bool) (t : List ℕ) → some_end passes t ≡ true → (k : ℕ) × (k ≤ length t) × (passes (drop k t) ≡ true)
end-within passes [] h = (0, omega arith, h)
end-within passes (c ∷ cs) h = elim (or_cases (passes (c ∷ cs)) (some_end passes cs) h) [
  | inl here ↦ (0, omega arith, here)
  | inr later ↦ let found = end-within passes cs later in (suc found.0, omega (arith, found.1), found.2)
]

occurs-from_split : (t run u : List ℕ) (k : ℕ) → k ≤ length t → drop k t ≡ run ++ u → OccursAt t run k
occurs-from_split t run u k within is =
    OccursAt-from_part t run k (omega (arith, ap length is, length-drop k t, length-append run u))
    (ap (take (length run)) is ∙ take_at run u (length run) refl)

place-of : (run rest t : List ℕ) → AreLiteralBefore run rest → some_end (matches (run ++ rest)) t ≡ true → (k : ℕ) × (OccursAt t run k) × (matches rest (drop (k + length run) t) ≡ true)
place-of run rest t literal h =
    let found = end-within (matches (run ++ rest)) t h in
    let met = front-met run rest (drop found.0 t) literal found.2 in
    let same : met.0 ≡ drop (found.0 + length run) t =
    sym (drop_at run met.0 (length run) refl) ∙ ap (drop (length run)) (sym met.1) ∙ drop-drop (length run) found.0 t
    in
    (found.0, occurs-from_split t run met.0 found.0 found.1 met.1, subst (λ u. matches rest u ≡ true) same met.2)

from-place : (run rest t : List ℕ) (k : ℕ) → AreLiteralBefore run rest → OccursAt t run k → matches rest (drop (k + length run) t) ≡ true → some_end (matches (run ++ rest)) t ≡ true
from-place run rest t k literal occurs h =
    end-from (matches (run ++ rest)) k t
    (ap (matches (run ++ rest)) (OccursAt-split t run k occurs) ∙ met-front run rest (drop (k + length run) t) literal ∙ h)

nowhere-there : (t run : List ℕ) (k : ℕ) → Nowhere (OccursAt t run) 0 (length t + 1) → OccursAt t run k → ⊥
nowhere-there t run k none occurs = none k (omega arith) (omega (arith, occurs.fits)) occurs

first-below : (t run : List ℕ) (k j : ℕ) → NoneBefore (OccursAt t run) 0 (length t + 1) k → OccursAt t run j → k ≤ j
first-below t run k j first occurs = elim (cases_Bool (ltb j k)) [
  | inl below ↦ absurd (first.before j (omega arith) (ltb-true j k below) occurs)
  | inr above ↦ ltb-false j k above
]

same-tests : (x y : Bool) → (x ≡ true → y ≡ true) → (y ≡ true → x ≡ true) → x ≡ y
same-tests true y f g = sym (f refl)
same-tests false true f g = g refl
same-tests false false f g = refl

-- ---- a run before a `*`

later-end : (ps t : List ℕ) (k j : ℕ) → k ≤ j → some_end (matches ps) (drop j t) ≡ true → some_end (matches ps) (drop k t) ≡ true
later-end ps t k j below h =
    let last = end-at (matches ps) (drop j t) h in
    let same : drop last.0 (drop j t) ≡ drop (j - k + last.0) (drop k t) =
    drop-drop last.0 j t ∙ ap (λ n. drop n t) (omega arith) ∙ sym (drop-drop (j - k + last.0) k t)
    in
    end-from (matches ps) (j - k + last.0) (drop k t) (subst (λ u. matches ps u ≡ true) same last.1)

-- at its leftmost place, what follows decides
pub run-found : (pattern run ps t left : List ℕ) → IsSplit pattern run ps → IsPastFirst t run left → some_end (matches pattern) t ≡ some_end (matches ps) left
run-found pattern run ps t left split past =
    let before = before-more run 42 ps split.literal in
    let k = past.place in
    ap (λ p. some_end (matches p) t) split.whole
    ∙ same-tests _ _
    (λ h.
    let there = place-of run (42 ∷ ps) t before h in
    later-end ps t (k + length run) (there.0 + length run) (omega (arith, first-below t run k there.0 past.first there.1))
    (sym (matches-star ps (drop (there.0 + length run) t)) ∙ there.2))
    (λ h. from-place run (42 ∷ ps) t k before past.stands (matches-star ps (drop (k + length run) t) ∙ h))
    ∙ ap (some_end (matches ps)) (sym past.follows)

-- where it stands nowhere, nothing matches
pub run-missing : (pattern run ps t : List ℕ) → IsSplit pattern run ps → StandsNowhere t run → some_end (matches pattern) t ≡ false
run-missing pattern run ps t split none =
    ap (λ p. some_end (matches p) t) split.whole
    ∙ false_from_ne_true _
    (λ h. let there = place-of run (42 ∷ ps) t (before-more run 42 ps split.literal) h in nowhere-there t run there.0 none there.1)

-- ---- the last run

pub last-run : (run t : List ℕ) (found : Option ℕ) → AreLiteral run → ((front : List ℕ) → run ≢ front ++ 36 ∷ []) → FindsNeedle t run 0 found → some_end (matches run) t ≡ is_some found
last-run run t None literal other none =
    false_from_ne_true _
    (λ h.
    let there = place-of run [] t (before-nothing run literal other) (subst (λ p. some_end (matches p) t ≡ true) (sym (append-nil run)) h) in
    nowhere-there t run there.0 none there.1)
last-run run t (Some k) literal other first =
    subst (λ p. some_end (matches p) t ≡ true) (append-nil run)
    (from-place run [] t k (before-nothing run literal other) first.1 (matches-none (drop (k + length run) t)))

matches-end : (t : List ℕ) → matches (36 ∷ []) t ≡ is_empty t
unfolding matches
matches-end t = refl

pub is_empty-length : (t : List ℕ) → is_empty t ≡ eqb (length t) 0
is_empty-length [] = refl
is_empty-length (c ∷ cs) = sym (ne_eqb (length (c ∷ cs)) 0 (omega arith))

-- before the path's end
pub last-end : (run t : List ℕ) (ends : Bool) → AreLiteral run → (ends ≡ true → (k : ℕ) × (drop k t ≡ run)) → ((k : ℕ) × (drop k t ≡ run) → ends ≡ true) → some_end (matches (run ++ 36 ∷ [])) t ≡ ends
last-end run t ends literal from to =
    let before = before-more run 36 [] literal in
    same-tests _ _
    (λ h.
    let there = place-of run (36 ∷ []) t before h in
    let left = drop (there.0 + length run) t in
    let nothing : left ≡ [] = nil-from_empty left (sym (matches-end left) ∙ there.2) in
    to (there.0, OccursAt-split t run there.0 there.1 ∙ ap (λ u. run ++ u) nothing ∙ append-nil run))
    (λ h.
    let there = from h in
    end-from (matches (run ++ 36 ∷ [])) there.0 t
    (ap (matches (run ++ 36 ∷ [])) (there.1 ∙ sym (append-nil run)) ∙ met-front run (36 ∷ []) [] before ∙ matches-end []))

-- the last octets are the only ones that may be the run
pub ends-with : (path run : List ℕ) (b : Bool) → length run ≤ length path → b ≡ bytes_eq (take (length path - (length path - length run)) (drop (length path - length run) path)) run
    → (b ≡ true → (k : ℕ) × (drop k path ≡ run)) × (((k : ℕ) × (drop k path ≡ run)) → b ≡ true)
ends-with path run b short is =
    let n = length path - length run in
    let tests = bytes_eq-Decides (take (length path - n) (drop n path)) run in
    let rest : take (length path - n) (drop n path) ≡ drop n path = take_rest path n in (
      λ yes. (n, sym rest ∙ tests.0 (sym is ∙ yes)),
      λ there.
          let k = there.0 in
          let same : n ≡ min k (length path) = omega (arith, length-drop k path, ap length there.1) in
          is ∙ tests.1 (rest ∙ ap (λ m. drop m path) same ∙ drop_min k path ∙ there.1),
    )

-- ---- what a search for `*` says

passes-not : (cs : List ℕ) (k : ℕ) → (Passes (is_byte 42) cs k → ⊥) → get_or cs k 0 ≢ 42
passes-not cs k none is = none (eq-eqb (get_or cs k 0) 42 is)

pub literal-all : (p : List ℕ) → Nowhere (Passes (is_byte 42) p) 0 (length p) → AreLiteral p
literal-all p none = literal-from p (λ k below. passes-not p k (none k (omega arith) below))

pub split-at : (p : List ℕ) (star : ℕ) → NoneBefore (Passes (is_byte 42) p) 0 (length p) star × Passes (is_byte 42) p star → IsSplit p (take star p) (drop (star + 1) p)
split-at p star first =
    let here : star < length p = first.0.high in
    let is : get_or p star 0 ≡ 42 = eqb-true (get_or p star 0) 42 first.1 in
    record {
      literal =
          literal-from (take star p)
          (λ k below.
          let low : k < star = omega (arith, length-take-le star p (omega arith)) in
          λ same. passes-not p k (first.0.before k (omega arith) low) (sym (get_or-take star p k 0 low) ∙ same));
      whole = sym (take-append-drop star p) ∙ ap (λ u. take star p ++ u) (drop_more p star 0 here ∙ ap (λ c. c ∷ drop (star + 1) p) is);
    }

-- ---- the first octets of a pattern and a path

pub first-star : (p cs t : List ℕ) (c : ℕ) → p ≡ c ∷ cs → c ≡ 42 → matches p t ≡ some_end (matches cs) t
first-star p cs t c is star = rw (is, star) (matches-star cs t)

pub first-end : (p cs t : List ℕ) (c : ℕ) → p ≡ c ∷ cs → c ≢ 42 → (eqb c 36 && is_empty cs) ≡ true → matches p t ≡ eqb (length t) 0
first-end p cs t c is star last =
    ap (λ q. matches q t) is ∙ matches-last c cs t (ne_eqb c 42 star) last ∙ is_empty-length t

pub first-met : (p cs t us : List ℕ) (c d : ℕ) → p ≡ c ∷ cs → c ≢ 42 → (eqb c 36 && is_empty cs) ≡ false → t ≡ d ∷ us → d ≡ c → matches p t ≡ matches cs us
first-met p cs t us c d is star more path met =
    ap (λ q. matches q t) is ∙ matches-one c cs t (ne_eqb c 42 star, more) ∙ one_then-met c d (matches cs) t us path met

pub first-unmet : (p cs t us : List ℕ) (c d : ℕ) → p ≡ c ∷ cs → c ≢ 42 → (eqb c 36 && is_empty cs) ≡ false → t ≡ d ∷ us → d ≢ c → matches p t ≡ false
first-unmet p cs t us c d is star more path unmet =
    ap (λ q. matches q t) is ∙ matches-one c cs t (ne_eqb c 42 star, more) ∙ one_then-unmet c d (matches cs) t us path unmet

pub first-past : (p cs t : List ℕ) (c : ℕ) → p ≡ c ∷ cs → c ≢ 42 → (eqb c 36 && is_empty cs) ≡ false → length t ≡ 0 → matches p t ≡ false
first-past p cs t c is star more ended =
    ap (λ q. matches q t) is ∙ matches-one c cs t (ne_eqb c 42 star, more) ∙ one_then-past c (matches cs) t (nil_from_length t ended)

pub first-none : (p t : List ℕ) → length p ≡ 0 → matches p t ≡ true
first-none p t ended = ap (λ q. matches q t) (nil_from_length p ended) ∙ matches-none t

-- ---- the last octet of a pattern

pub other-last : (rest run : List ℕ) (last : ℕ) → rest ≡ run ++ last ∷ [] → last ≢ 36 → (front : List ℕ) → rest ≢ front ++ 36 ∷ []
other-last rest run last is other front same = other (same_from_push run front last 36 (sym is ∙ same)).1

pub no-last : (rest : List ℕ) → length rest ≡ 0 → (front : List ℕ) → rest ≢ front ++ 36 ∷ []
no-last rest none front same = absurd (omega (arith, none, ap length same, length-append front (36 ∷ [])))

literal-left : (run rest : List ℕ) → AreLiteral (run ++ rest) → AreLiteral run
literal-left [] rest h = tt
literal-left (c ∷ cs) rest h = (h.0, literal-left cs rest h.1)

pub literal-front : (p run : List ℕ) (last : ℕ) → p ≡ run ++ last ∷ [] → AreLiteral p → AreLiteral run
literal-front p run last is h = literal-left run (last ∷ []) (subst AreLiteral is h)
