-- Values of fields: places, digits and lists that are gone through.
use Rattle.std.proofs.Common.{◌≡◌, ℕ, ◌+◌, ◌*◌, ◌^◌, ◌-◌, ◌<◌, ◌≤◌, Bool, true, false, cond, ltb, leb, ◌&&◌, List, [], ◌∷◌, ◌++◌, length, get_or, map, take, drop, Some, None, refl, sym, ap, subst, ◌∙◌, inl, inr, arith, append_assoc}
use Rattle.std.specs.List.{position, position_or_len, before_first, list_all}
use Rattle.std.specs.Char.{is_ascii_digit, digit_value}
use Rattle.std.specs.Str.Parse.{digits_value, AllDigits}
use Rattle.std.proofs.lemmas.Bool.{cases_Bool, and_parts, ltb-true, ltb-false, leb-true}
use Rattle.std.proofs.lemmas.Str.{digit_value_digit}
use Rattle.std.proofs.lemmas.Str.Parse.{tells_digits, digit_at}
use Rattle.std.specs.Int.{IsInRange}
use Rattle.std.proofs.lemmas.Int.Digits.{digits_value-lt, digits_value_more}
use Rattle.std.proofs.lemmas.Str.Parse.{digits_value-take-le}
use Rattle.std.proofs.lemmas.List.{take_all, drop_more, map_push}
use Rattle.httparse.specs.declared.spans.Span.{Span}
use Rattle.httparse.specs.declared.spans.HeaderSpan.{HeaderSpan}
use Rattle.httparse.specs.Spans.{span_bytes, header_bytes}
use Rattle.irl_http.specs.Fields.{is_named, values}
use Rattle.std.proofs.Math.Nat.{pow-le-pow_right}

-- what `position` answers
place-Some : (p : ℕ → Bool) (xs : List ℕ) (at : ℕ) → position p xs ≡ Some at → (position_or_len p xs ≡ at) × (at < length xs)
place-Some p xs at is = elim (cases_Bool (ltb (position_or_len p xs) (length xs))) [
  | inl within ↦
      let same : position_or_len p xs ≡ at = let e : Some (position_or_len p xs) ≡ Some at = sym (rw within refl) ∙ is in cc in
      (same, subst (λ n. n < length xs) same (ltb-true _ _ within))
  | inr past ↦ let e : None ≡ Some at = sym (rw past refl) ∙ is in cc
]

place-None : (p : ℕ → Bool) (xs : List ℕ) → position p xs ≡ None → length xs ≤ position_or_len p xs
place-None p xs is = elim (cases_Bool (ltb (position_or_len p xs) (length xs))) [
  | inl within ↦ let e : Some (position_or_len p xs) ≡ None = sym (rw within refl) ∙ is in cc
  | inr past ↦ ltb-false _ _ past
]

pub before-Some : (p : ℕ → Bool) (xs : List ℕ) (at : ℕ) → position p xs ≡ Some at → take at xs ≡ before_first p xs
before-Some p xs at is = ap (λ n. take n xs) (sym (place-Some p xs at is).0)

pub before-None : (p : ℕ → Bool) (xs : List ℕ) → position p xs ≡ None → xs ≡ before_first p xs
before-None p xs is = sym (take_all (position_or_len p xs) xs (place-None p xs is))

in_range : (low high c : ℕ) → (leb low c && leb c high) ≡ true → IsInRange low high c
in_range low high c test = let parts = and_parts (leb low c) (leb c high) test in (leb-true low c parts.0, leb-true c high parts.1)

pub all_digits : (cs : List ℕ) → list_all is_ascii_digit cs ≡ true → AllDigits 10 cs
all_digits [] test = tells_digits.empty
all_digits (c ∷ cs) test =
    let parts = and_parts (is_ascii_digit c) (list_all is_ascii_digit cs) test in
    tells_digits.more c cs (in_range 48 57 c parts.0) (all_digits cs parts.1)

-- one digit more, and that the number stays small
pub one_more : (value : List ℕ) (i : ℕ) → list_all is_ascii_digit value ≡ true → i < length value
    → digits_value 10 (take (i + 1) value) ≡ digits_value 10 (take i value) * 10 + (get_or value i 0 - 48)
one_more value i test below =
    let digit : digit_value (get_or value i 0) + 48 ≡ get_or value i 0 = digit_value_digit _ (digit_at value i (all_digits value test) below) in
    omega (arith, digits_value_more 10 value i below, digit)

pub stays_small : (value : List ℕ) (i : ℕ) → list_all is_ascii_digit value ≡ true → length value ≤ 18 → digits_value 10 (take i value) < 1000000000000000000
stays_small value i test short =
    let part : digits_value 10 (take i value) ≤ digits_value 10 value = digits_value-take-le 10 value i (omega arith) in
    let all : digits_value 10 value < 10 ^ length value = digits_value-lt 10 value (all_digits value test) in
    let power : 10 ^ length value ≤ 10 ^ 18 = pow-le-pow_right {n = 10} (omega arith) short in
    let number : 10 ^ 18 ≡ 1000000000000000000 = refl in
    omega (arith, part, all, power, number)

one_value : (name : List ℕ) (buf : List ℕ) (h : HeaderSpan) (hs : List HeaderSpan) (named : Bool) → is_named name (header_bytes buf h) ≡ named
    → values name (map (header_bytes buf) (h ∷ hs)) ≡ cond named (span_bytes buf h.value ∷ []) [] ++ values name (map (header_bytes buf) hs)
one_value name buf h hs true is = rw is refl
one_value name buf h hs false is = rw is refl

pub value_next : (name buf : List ℕ) (headers : List HeaderSpan) (i : ℕ) (d : HeaderSpan) (named : Bool) → i < length headers → is_named name (header_bytes buf (get_or headers i d)) ≡ named
    → values name (map (header_bytes buf) (drop i headers)) ≡ cond named (span_bytes buf (get_or headers i d).value ∷ []) [] ++ values name (map (header_bytes buf) (drop (i + 1) headers))
value_next name buf headers i d named below is = ap (λ hs. values name (map (header_bytes buf) hs)) (drop_more headers i d below)
    ∙ one_value name buf (get_or headers i d) (drop (i + 1) headers) named is

pub value_pushed : (buf : List ℕ) (spans : List Span) (v : Span) (rest all : List (List ℕ)) → map (span_bytes buf) spans ++ (span_bytes buf v ∷ [] ++ rest) ≡ all
    → map (span_bytes buf) (spans ++ v ∷ []) ++ rest ≡ all
value_pushed buf spans v rest all told = ap (λ l. l ++ rest) (map_push (span_bytes buf) spans v) ∙ append_assoc (map (span_bytes buf) spans) (span_bytes buf v ∷ []) rest ∙ told
