-- The rules that are gathered are those of their lines, in the order of the lines.
use Rattle.std.proofs.Common.{◌≡◌, ℕ, ◌+◌, ◌-◌, ◌<◌, ◌≤◌, zero, suc, Bool, true, false, cond, ◌&&◌, ◌||◌, List, [], ◌∷◌, ◌++◌, length, map, drop, get_or, slice_get, Some, refl, sym, subst, add-one, arith}
use Rattle.std.specs.List.{All, AllByRecursion, list_any}
use Rattle.std.specs.List.Sorted.{IsStrictlyIncreasing}
use Rattle.std.proofs.lemmas.List.Elements.{All-from_recursion}
use Rattle.irl_robots.specs.declared.rule.PathRule.{PathRule}
use Rattle.irl_robots.specs.Lines.{Line, Agent, Access, Other}
use Rattle.irl_robots.specs.Groups.{rule_of, obeyed, groups_of, is_for, is_named, is_star}
use Rattle.irl_robots.specs.Numbered.{IsOfLine, said_by}
use Rattle.irl_robots.proofs.GroupsLemmas.{gathered, gathered-outline}

-- ---- the order

-- the lines rise, from this number on
abbrev RisesFrom : ℕ → List PathRule → Type 0
RisesFrom n [] = Unit {0}
RisesFrom n (r ∷ rs) = (n ≤ r.line) × RisesFrom (suc r.line) rs

rises-sooner : (n m : ℕ) (rs : List PathRule) → n ≤ m → RisesFrom m rs → RisesFrom n rs
rises-sooner n m [] sooner h = tt
rises-sooner n m (r ∷ rs) sooner h = (omega (arith, sooner, h.0), h.1)

rises-put : (n : ℕ) (meant allow : Bool) (value : List ℕ) (later : List PathRule) → RisesFrom (n + 1) later
    → RisesFrom n (cond meant (rule_of (record { line = n; allow = allow; value = value })) [] ++ later)
rises-put n true allow [] later h = rises-sooner n (n + 1) later (omega arith) h
rises-put n true allow (c ∷ cs) later h = (omega arith, subst (λ k. RisesFrom k later) (add-one n) h)
rises-put n false allow value later h = rises-sooner n (n + 1) later (omega arith) h

rises : (passes : List ℕ → Bool) (n : ℕ) (opening meant : Bool) (ls : List Line) → RisesFrom n (gathered passes n opening meant ls)
rises passes n opening meant [] = tt
rises passes n opening meant (Agent value ∷ rest) =
    rises-sooner n (n + 1) _ (omega arith) (rises passes (n + 1) true (passes value || (opening && meant)) rest)
rises passes n opening meant (Access allow value ∷ rest) = rises-put n meant allow value _ (rises passes (n + 1) false meant rest)
rises passes n opening meant (Other ∷ rest) = rises-sooner n (n + 1) _ (omega arith) (rises passes (n + 1) opening meant rest)

next_above : (n : ℕ) (rs : List PathRule) → RisesFrom n rs → (k : ℕ) → suc k < length (map (λ (r : PathRule). r.line) rs)
    → get_or (map (λ (r : PathRule). r.line) rs) k 0 < get_or (map (λ (r : PathRule). r.line) rs) (suc k) 0
next_above n [] h k within = absurd (omega (arith, within))
next_above n (r ∷ []) h k within = absurd (omega (arith, within))
next_above n (r ∷ s ∷ rs) h zero within = omega (arith, h.1.0)
next_above n (r ∷ s ∷ rs) h (suc k) within = next_above (suc r.line) (s ∷ rs) h.1 k (omega (arith, within))

increasing : (n : ℕ) (rs : List PathRule) → RisesFrom n rs → IsStrictlyIncreasing (map (λ (r : PathRule). r.line) rs)
increasing n rs h k within =
    let ns = map (λ (r : PathRule). r.line) rs in
    subst (λ j. get_or ns k 0 < get_or ns j 0) (sym (add-one k)) (next_above n rs h k (subst (λ j. j < length ns) (add-one k) within))

-- ---- the lines

stands-put : (said : List Line) (n : ℕ) (meant allow : Bool) (value : List ℕ) (later : List PathRule) → 1 ≤ n → slice_get said (n - 1) ≡ Some (Access allow value)
    → AllByRecursion (IsOfLine said) later → AllByRecursion (IsOfLine said) (cond meant (rule_of (record { line = n; allow = allow; value = value })) [] ++ later)
stands-put said n true allow [] later first says h = h
stands-put said n true allow (c ∷ cs) later first says h =
    (record { value = c ∷ cs; counted = first; says = says; some = refl; pattern = refl }, h)
stands-put said n false allow value later first says h = h

first_of : (xs : List Line) (i : ℕ) (x : Line) (rest : List Line) → drop i xs ≡ x ∷ rest → (slice_get xs i ≡ Some x) × (drop (suc i) xs ≡ rest)
first_of [] zero x rest is = cc
first_of [] (suc i) x rest is = cc
first_of (y ∷ ys) zero x rest is = (cc, cc)
first_of (y ∷ ys) (suc i) x rest is = first_of ys i x rest is

stands : (passes : List ℕ → Bool) (said : List Line) (n : ℕ) (opening meant : Bool) (ls : List Line) → drop n said ≡ ls → AllByRecursion (IsOfLine said) (gathered passes (suc n) opening meant ls)
stands passes said n opening meant [] is = tt
stands passes said n opening meant (Agent value ∷ rest) is =
    let next = (first_of said n (Agent value) rest is).1 in
    subst (λ k. AllByRecursion (IsOfLine said) (gathered passes k true (passes value || (opening && meant)) rest)) (sym (add-one (suc n)))
    (stands passes said (suc n) true (passes value || (opening && meant)) rest next)
stands passes said n opening meant (Access allow value ∷ rest) is =
    let found = first_of said n (Access allow value) rest is in
    stands-put said (suc n) meant allow value _ (omega arith)
    (subst (λ k. slice_get said k ≡ Some (Access allow value)) (omega arith) found.0)
    (subst (λ k. AllByRecursion (IsOfLine said) (gathered passes k false meant rest)) (sym (add-one (suc n)))
    (stands passes said (suc n) false meant rest found.1))
stands passes said n opening meant (Other ∷ rest) is =
    let next = (first_of said n Other rest is).1 in
    subst (λ k. AllByRecursion (IsOfLine said) (gathered passes k opening meant rest)) (sym (add-one (suc n)))
    (stands passes said (suc n) opening meant rest next)

-- ---- the rules of a file

obeyed-gathered : (file agent : List ℕ) → (passes : List ℕ → Bool) × (obeyed file agent ≡ gathered passes 1 false false (said_by file))
unfolding obeyed
obeyed-gathered file agent =
    let groups = groups_of file in
    let passes : List ℕ → Bool = cond (list_any (is_for (is_named agent)) groups) (is_named agent) is_star in
    (passes, sym (gathered-outline passes (said_by file)))

pub obeyed-increasing : (file agent : List ℕ) → IsStrictlyIncreasing (map (λ (r : PathRule). r.line) (obeyed file agent))
obeyed-increasing file agent =
    let pass = obeyed-gathered file agent in
    subst (λ (rs : List PathRule). IsStrictlyIncreasing (map (λ (r : PathRule). r.line) rs)) (sym pass.1)
    (increasing 1 _ (rises pass.0 1 false false (said_by file)))

pub obeyed-lines : (file agent : List ℕ) → All (IsOfLine (said_by file)) (obeyed file agent)
obeyed-lines file agent =
    let pass = obeyed-gathered file agent in
    subst (λ (rs : List PathRule). All (IsOfLine (said_by file)) rs) (sym pass.1)
    (All-from_recursion (IsOfLine (said_by file)) _ (stands pass.0 (said_by file) 0 false false (said_by file) refl))
