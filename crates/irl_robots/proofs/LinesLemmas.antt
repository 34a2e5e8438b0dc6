-- The lines of a text, one after another.
use Rattle.std.proofs.Common.{◌≡◌, ℕ, ◌-◌, ◌<◌, ◌≤◌, suc, Bool, true, false, cond, eqb, ltb, List, [], ◌∷◌, length, take, drop, Some, None, refl, sym, ap, subst, ◌∙◌, inl, inr, arith}
use Rattle.std.specs.List.{position, position_or_len, before_first}
use Rattle.std.proofs.lemmas.List.{take_all, drop_all, length-drop}
use Rattle.std.proofs.lemmas.Bool.{cases_Bool, or_cases, or_parts, eqb-true, ltb-true, ltb-false, cond_both}
use Rattle.irl_robots.specs.Lines.{lines, onto_first, begins_with_line_feed, is_line_end, after_end}

pub lines-nil : lines [] ≡ []
unfolding lines
lines-nil = refl

lines-return : (cs : List ℕ) → lines (13 ∷ cs) ≡ cond (begins_with_line_feed cs) (lines cs) ([] ∷ lines cs)
unfolding lines
lines-return cs = refl

lines-at_feed : (cs : List ℕ) → lines (10 ∷ cs) ≡ [] ∷ lines (after_end (10 ∷ cs))
unfolding lines
lines-at_feed cs = refl

lines-at_return : (cs : List ℕ) → lines (13 ∷ cs) ≡ [] ∷ lines (after_end (13 ∷ cs))
lines-at_return [] = lines-return []
lines-at_return (d ∷ ds) = elim (cases_Bool (eqb d 10)) [
  | inl feed ↦
      let is = eqb-true d 10 feed in
      subst (λ e. lines (13 ∷ e ∷ ds) ≡ [] ∷ lines (after_end (13 ∷ e ∷ ds))) (sym is) (lines-return (10 ∷ ds) ∙ lines-at_feed ds)
  | inr other ↦ lines-return (d ∷ ds) ∙ rw other refl
]

-- a line end at the front ends an empty line
lines-at_end : (c : ℕ) (cs : List ℕ) → is_line_end c ≡ true → lines (c ∷ cs) ≡ [] ∷ lines (after_end (c ∷ cs))
lines-at_end c cs ends = elim (or_cases (eqb c 10) (eqb c 13) ends) [
  | inl feed ↦ subst (λ d. lines (d ∷ cs) ≡ [] ∷ lines (after_end (d ∷ cs))) (sym (eqb-true c 10 feed)) (lines-at_feed cs)
  | inr return ↦ subst (λ d. lines (d ∷ cs) ≡ [] ∷ lines (after_end (d ∷ cs))) (sym (eqb-true c 13 return)) (lines-at_return cs)
]

lines-at_octet : (c : ℕ) (cs : List ℕ) → is_line_end c ≡ false → lines (c ∷ cs) ≡ onto_first c (lines cs)
unfolding lines
lines-at_octet c cs goes = let parts = or_parts (eqb c 10) (eqb c 13) goes in rw (parts.0, parts.1) refl

-- the place of the first line end
abbrev at_end : List ℕ → ℕ
at_end cs = position_or_len is_line_end cs

at_end-here : (c : ℕ) (cs : List ℕ) → is_line_end c ≡ true → at_end (c ∷ cs) ≡ 0
at_end-here c cs ends = rw ends refl

at_end-later : (c : ℕ) (cs : List ℕ) → is_line_end c ≡ false → at_end (c ∷ cs) ≡ suc (at_end cs)
at_end-later c cs goes = rw goes (omega arith)

-- the first line is what stands before the first line end
lines-cut : (c : ℕ) (cs : List ℕ) → lines (c ∷ cs) ≡ take (at_end (c ∷ cs)) (c ∷ cs) ∷ lines (after_end (drop (at_end (c ∷ cs)) (c ∷ cs)))
lines-cut c [] = elim (cases_Bool (is_line_end c)) [
  | inl ends ↦ rw (at_end-here c [] ends) (lines-at_end c [] ends)
  | inr goes ↦ rw (at_end-later c [] goes) (lines-at_octet c [] goes ∙ ap (onto_first c) lines-nil ∙ ap (λ ls. (c ∷ []) ∷ ls) (sym lines-nil))
]
lines-cut c (d ∷ ds) = elim (cases_Bool (is_line_end c)) [
  | inl ends ↦ rw (at_end-here c (d ∷ ds) ends) (lines-at_end c (d ∷ ds) ends)
  | inr goes ↦ rw (at_end-later c (d ∷ ds) goes) (lines-at_octet c (d ∷ ds) goes ∙ ap (onto_first c) (lines-cut d ds))
]

-- what `position` answers
place-Some : (p : ℕ → Bool) (xs : List ℕ) (at : ℕ) → position p xs ≡ Some at → (position_or_len p xs ≡ at) × (at < length xs)
place-Some p xs at is = elim (cases_Bool (ltb (position_or_len p xs) (length xs))) [
  | inl within ↦
      let same : position_or_len p xs ≡ at = let e : Some (position_or_len p xs) ≡ Some at = sym (rw within refl) ∙ is in cc in
      (same, subst (λ n. n < length xs) same (ltb-true _ _ within))
  | inr past ↦ let e : None ≡ Some at = sym (rw past refl) ∙ is in cc
]

place-None : (p : ℕ → Bool) (xs : List ℕ) → position p xs ≡ None → length xs ≤ position_or_len p xs
place-None p xs is = elim (cases_Bool (ltb (position_or_len p xs) (length xs))) [
  | inl within ↦ let e : Some (position_or_len p xs) ≡ None = sym (rw within refl) ∙ is in cc
  | inr past ↦ ltb-false _ _ past
]

-- the same, as `position` finds the line end
pub lines-Some : (text : List ℕ) (at : ℕ) → position is_line_end text ≡ Some at → lines text ≡ take at text ∷ lines (after_end (take (length text - at) (drop at text)))
lines-Some [] at is = absurd (omega (arith, (place-Some is_line_end [] at is).1))
lines-Some (c ∷ cs) at is =
    let text = c ∷ cs in
    let found = place-Some is_line_end text at is in
    let whole : take (length text - at) (drop at text) ≡ drop at text = take_all _ (drop at text) (omega (arith, length-drop at text)) in
    subst (λ n. lines text ≡ take n text ∷ lines (after_end (drop n text))) found.0 (lines-cut c cs)
    ∙ ap (λ rest. take at text ∷ lines (after_end rest)) (sym whole)

pub lines-None : (text : List ℕ) → 0 < length text → position is_line_end text ≡ None → lines text ≡ text ∷ lines []
lines-None [] some is = absurd (omega (arith, some))
lines-None (c ∷ cs) some is =
    let text = c ∷ cs in
    let past = place-None is_line_end text is in
    lines-cut c cs
    ∙ ap (λ line. line ∷ lines (after_end (drop (at_end text) text))) (take_all (at_end text) text past)
    ∙ ap (λ rest. text ∷ lines (after_end rest)) (drop_all (at_end text) text past)

-- what stands before and behind the place that `position` finds
pub before-Some : (p : ℕ → Bool) (xs : List ℕ) (at : ℕ) → position p xs ≡ Some at → take at xs ≡ before_first p xs
before-Some p xs at is = ap (λ n. take n xs) (sym (place-Some p xs at is).0)

pub before-None : (p : ℕ → Bool) (xs : List ℕ) → position p xs ≡ None → xs ≡ before_first p xs
before-None p xs is = sym (take_all (position_or_len p xs) xs (place-None p xs is))

-- a text has at most as many lines as octets
lines-cons : (c : ℕ) (cs : List ℕ) → lines (c ∷ cs) ≡ cond (eqb c 10) ([] ∷ lines cs) (cond (eqb c 13) (cond (begins_with_line_feed cs) (lines cs) ([] ∷ lines cs)) (onto_first c (lines cs)))
unfolding lines
lines-cons c cs = refl

length-onto_first : (c : ℕ) (ls : List (List ℕ)) → length (onto_first c ls) ≤ suc (length ls)
length-onto_first c [] = omega arith
length-onto_first c (line ∷ ls) = omega arith

pub length-lines : (text : List ℕ) → length (lines text) ≤ length text
length-lines [] = omega (arith, ap length lines-nil)
length-lines (c ∷ cs) =
    let P : List (List ℕ) → Type 0 = λ ls. length ls ≤ suc (length cs) in
    let fewer = length-lines cs in
    subst P (sym (lines-cons c cs))
    (cond_both (eqb c 10) _ _ P (λ _. omega (arith, fewer))
    (λ _. cond_both (eqb c 13) _ _ P
    (λ _. cond_both (begins_with_line_feed cs) _ _ P (λ _. omega (arith, fewer)) (λ _. omega (arith, fewer)))
    (λ _. omega (arith, fewer, length-onto_first c (lines cs)))))
