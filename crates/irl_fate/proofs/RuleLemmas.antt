-- The rules, where a test settles one.
use Rattle.std.proofs.Common.{◌≡◌, ◌∙◌, ℕ, ◌+◌, ◌<◌, List, [], ◌∷◌, ◌++◌, length, get_or, take, sym, ap, arith, refl, Bool, true, false, cond, not, rules}
use Rattle.std.specs.Prelude.{◌&&◌, ◌||◌, nat_eq, Option, None, Some, is_some}
use Rattle.std.specs.Ordering.{nat_cmp}
use Rattle.std.specs.BTreeMap.{is_at}
use Rattle.std.proofs.lemmas.Bool.{and_right}
use Rattle.std.proofs.lemmas.List.{take_more}
use Rattle.std.proofs.lemmas.List.Folds.{list_any-append, list_any_more}
use Rattle.irl_events.specs.Events.{has_number}
use Rattle.irl_events.specs.Legal.{are_read, are_distinct}
use Rattle.irl_fate.proofs.Counting.{nat_eq_sym}

pub read_short : (queue : List ℕ) (from to : ℕ) (numbers : List ℕ) → length numbers < length queue → are_read queue from to numbers ≡ false
read_short [] from to numbers lt = absurd (omega arith)
read_short (q ∷ queue) from to [] lt = refl
read_short (q ∷ queue) from to (n ∷ numbers) lt =
    and_right (nat_eq q n) (are_read queue from to numbers) (read_short queue from to numbers (omega arith))

-- ---- numbers that differ
four : (a b d e : Bool) → (not (a || b) && (d && not e)) ≡ ((not a && d) && not (b || e))
four true b d e = refl
four false true true e = refl
four false true false e = refl
four false false d e = refl

last_or : (a b : Bool) → (a || (b || false)) ≡ (a || b)
last_or true b = refl
last_or false true = refl
last_or false false = refl

has_push : (ns : List ℕ) (n m : ℕ) → has_number (ns ++ n ∷ []) m ≡ (has_number ns m || nat_eq n m)
has_push ns n m = list_any-append (λ k. nat_eq k m) ns (n ∷ []) ∙ last_or (has_number ns m) (nat_eq n m)

distinct_push : (ns : List ℕ) (n : ℕ) → are_distinct (ns ++ n ∷ []) ≡ (are_distinct ns && not (has_number ns n))
distinct_push [] n = refl
distinct_push (m ∷ ns) n =
    ap (λ b. not b && are_distinct (ns ++ n ∷ [])) (has_push ns n m)
    ∙ ap (λ b. not (has_number ns m || nat_eq n m) && b) (distinct_push ns n)
    ∙ ap (λ b. not (has_number ns m || b) && (are_distinct ns && not (has_number ns n))) (nat_eq_sym n m)
    ∙ four (has_number ns m) (nat_eq m n) (are_distinct ns) (has_number ns n)

-- one more number that none before it is
pub distinct_more : (ns : List ℕ) (i : ℕ) → i < length ns → are_distinct (take i ns) ≡ true → has_number (take i ns) (get_or ns i 0) ≡ false → are_distinct (take (i + 1) ns) ≡ true
distinct_more ns i lt d none =
    ap are_distinct (take_more ns i 0 lt) ∙ distinct_push (take i ns) (get_or ns i 0)
    ∙ ap (λ b. b && not (has_number (take i ns) (get_or ns i 0))) d ∙ ap not none

is_at_nat : (n q : ℕ) → is_at (nat_cmp n) q ≡ nat_eq n q
is_at_nat n q = search rules

some_cond : (b : Bool) (o : Option Bool) → is_some (cond b (Some true) o) ≡ (is_some o || b)
some_cond true None = refl
some_cond true (Some x) = refl
some_cond false None = refl
some_cond false (Some x) = refl

pub seen_more : (ns : List ℕ) (i q : ℕ) (old new : Option Bool) → i < length ns → new ≡ cond (is_at (nat_cmp (get_or ns i 0)) q) (Some true) old → is_some old ≡ has_number (take i ns) q
    → is_some new ≡ has_number (take (i + 1) ns) q
seen_more ns i q old new lt is before =
    ap (λ (o : Option Bool). is_some o) is ∙ some_cond (is_at (nat_cmp (get_or ns i 0)) q) old
    ∙ ap (λ b. b || is_at (nat_cmp (get_or ns i 0)) q) before
    ∙ ap (λ b. has_number (take i ns) q || b) (is_at_nat (get_or ns i 0) q)
    ∙ sym (list_any_more (λ m. nat_eq m q) ns i 0 lt)
