-- A reference read at a place is as the grammar says, and is the only one; so a value has one text.
use Rattle.std.proofs.Common.{◌≡◌, ℕ, zero, suc, ◌+◌, ◌*◌, ◌<◌, ◌≤◌, Bool, true, false, cond, not, ◌&&◌, ◌||◌, eqb, nat_eq, nat_lt, List, [], ◌∷◌, ◌++◌, length, drop, Option, Some, None, IfSome, slice_get, append_assoc, unwrap_or, ◌⊎◌, inl, inr, refl, ap, sym, ◌∙◌, subst, arith}
use Rattle.std.proofs.lemmas.Bool.{eqb-false, ne_eqb, lt-ltb, le-ltb, ltb-true, ltb-false, and_parts, or_cases, or_parts, not-false}
use Rattle.std.proofs.lemmas.List.{length-append}
use Rattle.std.specs.List.{starts_with}
use Rattle.std.specs.Char.{digit_value}
use Rattle.std.specs.Str.Parse.{AllDigits, digits_value, digits_value_after}
use Rattle.std.specs.Prelude.{codes}
use Rattle.irl_scan.specs.declared.reference.Radix.{Radix}
use Rattle.irl_scan.specs.declared.reference.Radix.TheVariants.{Ten, Sixteen}
use Rattle.irl_scan.specs.Bytes.{UpTo}
use Rattle.irl_scan.specs.Text.{Reference, Amp, Lt, Gt, Quot, Apos, Decimal, Hexadecimal, reference_onto, reference_value, IsNumber, IsReference, Item, Plain, Replaced, item_onto, items_joined, IsItem, AreItems, Reads, text_of}
use Rattle.irl_scan.specs.Reading.{from, before, radix_of, most_digits, first_is, number_from, closed, number_at, reference_at, HasText, not_digit}
use Rattle.irl_scan.proofs.Runs.{before-from, from-UpTo, before-UpTo}
use Rattle.irl_scan.proofs.Values.{first_is-cons}
use Rattle.irl_scan.proofs.Pieces.{starts}

pub chosen : {A : Type 0} (b : Bool) (x y z : A) → cond b x y ≡ z → ((b ≡ true) × (x ≡ z)) ⊎ ((b ≡ false) × (y ≡ z))
chosen true x y z h = inl (refl, h)
chosen false x y z h = inr (refl, h)

-- ## Numbers

-- what the digits write is no less than the number before them
no_less : (radix : Radix) (n : ℕ) (ds : List ℕ) → n ≤ digits_value_after (radix_of radix) n ds
no_less radix n [] = omega arith
no_less Ten n (c ∷ cs) = let more = no_less Ten (n * 10 + digit_value c) cs in omega arith
no_less Sixteen n (c ∷ cs) = let more = no_less Sixteen (n * 16 + digit_value c) cs in omega arith

abbrev IsNumberFrom : ℕ → ℕ → List ℕ → ℕ → Type 0
IsNumberFrom radix n ds v = AllDigits radix ds × (digits_value_after radix n ds ≡ v) × (v < 128)

number_takes : (radix n : ℕ) (ds : List ℕ) (v : ℕ) → n < 128 → number_from radix n ds ≡ Some v → IsNumberFrom radix n ds v
number_takes radix n [] v small h = let same : n ≡ v = ap (λ o. unwrap_or o 0) h in (tt, same, omega arith)
number_takes radix n (c ∷ cs) v small h =
    elim (chosen (nat_lt (digit_value c) radix && nat_lt (n * radix + digit_value c) 128) (number_from radix (n * radix + digit_value c) cs) None (Some v) h) [
      | inl w ↦
          let tests = and_parts (nat_lt (digit_value c) radix) (nat_lt (n * radix + digit_value c) 128) w.0 in
          let more = number_takes radix (n * radix + digit_value c) cs v (ltb-true (n * radix + digit_value c) 128 tests.1) w.1 in
          ((ltb-true (digit_value c) radix tests.0, more.0), more.1, more.2)
      | inr w ↦ let no : None ≡ Some v = w.1 in cc
    ]

number_again : (radix : Radix) (n : ℕ) (ds : List ℕ) → AllDigits (radix_of radix) ds → digits_value_after (radix_of radix) n ds < 128
    → number_from (radix_of radix) n ds ≡ Some (digits_value_after (radix_of radix) n ds)
number_again radix n [] all small = refl
number_again radix n (c ∷ cs) all small =
    let least = no_less radix (n * radix_of radix + digit_value c) cs in
    let digit : nat_lt (digit_value c) (radix_of radix) ≡ true = lt-ltb (digit_value c) (radix_of radix) all.0 in
    let fits : nat_lt (n * radix_of radix + digit_value c) 128 ≡ true = lt-ltb (n * radix_of radix + digit_value c) 128 (omega arith) in
    rw (digit, fits) (number_again radix (n * radix_of radix + digit_value c) cs all.1 small)

digits_run : (radix : Radix) (ds rest : List ℕ) → AllDigits (radix_of radix) ds → UpTo (not_digit radix) ds (59 ∷ rest)
digits_run Ten [] rest all = refl
digits_run Sixteen [] rest all = refl
digits_run radix (c ∷ cs) rest all = (ap not (lt-ltb (digit_value c) (radix_of radix) all.0), digits_run radix cs rest all.1)

-- digits that write a number below 128, and `;`
pub record IsNumberAt (radix : Radix) (xs : List ℕ) (v : ℕ) (rest : List ℕ) : Type 0 where
  pub digits : List ℕ
  pub number : IsNumber (radix_of radix) (most_digits radix) digits
  pub spelled : xs ≡ digits ++ 59 ∷ rest
  pub value : v ≡ digits_value (radix_of radix) digits

closed_takes : (digits behind : List ℕ) (o : Option ℕ) (v : ℕ) (rest : List ℕ) → closed digits behind o ≡ Some (v, rest) → (o ≡ Some v) × (drop 1 behind ≡ rest)
closed_takes digits behind None v rest h = cc
closed_takes digits behind (Some n) v rest h =
    let same : n ≡ v = ap (λ x. (unwrap_or {T = ℕ × List ℕ} x (0, [])).0) h in
    (ap Some same, ap (λ x. (unwrap_or {T = ℕ × List ℕ} x (0, [])).1) h)

pub number_at_takes : (radix : Radix) (xs : List ℕ) (v : ℕ) (rest : List ℕ) → number_at radix xs ≡ Some (v, rest) → IsNumberAt radix xs v rest
unfolding number_at
number_at_takes radix xs v rest h =
    let digits = before (not_digit radix) xs in
    let behind = from (not_digit radix) xs in
    elim (chosen ((eqb (length digits) 0 || nat_lt (most_digits radix) (length digits)) || not (first_is 59 behind)) None (closed digits behind (number_from (radix_of radix) 0 digits))
    (Some (v, rest)) h) [
      | inl w ↦ let no : ◌≡◌ {A = Option (ℕ × List ℕ)} None (Some (v, rest)) = w.1 in cc
      | inr w ↦
          let tests = or_parts (eqb (length digits) 0 || nat_lt (most_digits radix) (length digits)) (not (first_is 59 behind)) w.0 in
          let lengths = or_parts (eqb (length digits) 0) (nat_lt (most_digits radix) (length digits)) tests.0 in
          let close = closed_takes digits behind (number_from (radix_of radix) 0 digits) v rest w.1 in
          let number = number_takes (radix_of radix) 0 digits v (omega arith) close.0 in
          let nonempty : length digits ≡ 0 → ⊥ = eqb-false (length digits) 0 lengths.0 in
          let mark : behind ≡ 59 ∷ rest = first_is-cons 59 behind (not-false (first_is 59 behind) tests.1) ∙ ap (λ ys. 59 ∷ ys) close.1 in
          record {
            digits = digits;
            number = record { all = number.0; some = omega arith; few = ltb-false (most_digits radix) (length digits) lengths.1; small = rw number.1 number.2 };
            spelled = sym (before-from (not_digit radix) xs) ∙ ap (λ ys. digits ++ ys) mark;
            value = sym number.1;
          }
    ]

pub number_at_again : (radix : Radix) (ds rest : List ℕ) → IsNumber (radix_of radix) (most_digits radix) ds → number_at radix (ds ++ 59 ∷ rest) ≡ Some (digits_value (radix_of radix) ds, rest)
unfolding number_at
number_at_again radix ds rest n =
    let run = digits_run radix ds rest n.all in
    let front : before (not_digit radix) (ds ++ 59 ∷ rest) ≡ ds = before-UpTo (not_digit radix) ds (59 ∷ rest) run in
    let back : from (not_digit radix) (ds ++ 59 ∷ rest) ≡ 59 ∷ rest = from-UpTo (not_digit radix) ds (59 ∷ rest) run in
    let some : (eqb (length ds) 0) ≡ false = ne_eqb (length ds) 0 (λ e. absurd (omega (arith, n.some))) in
    let few : nat_lt (most_digits radix) (length ds) ≡ false = le-ltb (most_digits radix) (length ds) n.few in
    let value = number_again radix 0 ds n.all n.small in
    rw (front, back, some, few, value) refl

-- ## References

pub record IsReferenceAt (xs : List ℕ) (v : ℕ) (rest : List ℕ) : Type 0 where
  pub reference : Reference
  pub formed : IsReference reference
  pub spelled : xs ≡ reference_onto reference rest
  pub value : v ≡ reference_value reference

pair_value : (a b : ℕ) (xs ys : List ℕ) → ◌≡◌ {A = Option (ℕ × List ℕ)} (Some (a, xs)) (Some (b, ys)) → (a ≡ b) × (xs ≡ ys)
pair_value a b xs ys h = (ap (λ o. (unwrap_or {T = ℕ × List ℕ} o (0, [])).0) h, ap (λ o. (unwrap_or {T = ℕ × List ℕ} o (0, [])).1) h)

named : (r : Reference) (word xs : List ℕ) (b v : ℕ) (rest : List ℕ) → IsReference r → ((ys : List ℕ) → reference_onto r ys ≡ word ++ ys) → reference_value r ≡ b →
    starts_with nat_eq xs word ≡ true → ◌≡◌ {A = Option (ℕ × List ℕ)} (Some (b, drop (length word) xs)) (Some (v, rest)) → IsReferenceAt xs v rest
named r word xs b v rest formed spells stands begins h =
    let same = pair_value b v (drop (length word) xs) rest h in
    record {
      reference = r;
      formed = formed;
      spelled = starts word xs begins ∙ ap (λ ys. word ++ ys) same.1 ∙ sym (spells rest);
      value = sym same.0 ∙ sym stands;
    }

decimal_takes : (xs : List ℕ) (v : ℕ) (rest : List ℕ) → starts_with nat_eq xs (codes "&#") ≡ true → number_at Ten (drop 2 xs) ≡ Some (v, rest) → IsReferenceAt xs v rest
decimal_takes xs v rest begins h =
    let n = number_at_takes Ten (drop 2 xs) v rest h in
    record {
      reference = Decimal n.digits;
      formed = n.number;
      spelled = starts (codes "&#") xs begins ∙ ap (λ ys. codes "&#" ++ ys) n.spelled;
      value = n.value;
    }

sign_takes : (sign : ℕ) (xs : List ℕ) (v : ℕ) (rest : List ℕ) → (sign ≡ 120) ⊎ (sign ≡ 88) → xs ≡ 38 ∷ 35 ∷ sign ∷ drop 3 xs → number_at Sixteen (drop 3 xs) ≡ Some (v, rest) → IsReferenceAt xs v rest
sign_takes sign xs v rest is_sign begins h =
    let n = number_at_takes Sixteen (drop 3 xs) v rest h in
    record {
      reference = Hexadecimal sign n.digits;
      formed = (is_sign, n.number);
      spelled = begins ∙ ap (λ ys. 38 ∷ 35 ∷ sign ∷ ys) n.spelled;
      value = n.value;
    }

hexadecimal_takes : (xs : List ℕ) (v : ℕ) (rest : List ℕ) → (starts_with nat_eq xs (codes "&#x") || starts_with nat_eq xs (codes "&#X")) ≡ true → number_at Sixteen (drop 3 xs) ≡ Some (v, rest)
    → IsReferenceAt xs v rest
hexadecimal_takes xs v rest begins h =
    elim (or_cases (starts_with nat_eq xs (codes "&#x")) (starts_with nat_eq xs (codes "&#X")) begins) [
      | inl small ↦ sign_takes 120 xs v rest (inl refl) (starts (codes "&#x") xs small) h
      | inr big ↦ sign_takes 88 xs v rest (inr refl) (starts (codes "&#X") xs big) h
    ]

-- what is left to try, test by test
abbrev try_decimal : List ℕ → Option (ℕ × List ℕ)
try_decimal xs = cond (starts_with nat_eq xs (codes "&#")) (number_at Ten (drop 2 xs)) None

abbrev try_number : List ℕ → Option (ℕ × List ℕ)
try_number xs = cond (starts_with nat_eq xs (codes "&#x") || starts_with nat_eq xs (codes "&#X")) (number_at Sixteen (drop 3 xs)) (try_decimal xs)

abbrev try_apos : List ℕ → Option (ℕ × List ℕ)
try_apos xs = cond (starts_with nat_eq xs (codes "&apos;")) (Some (39, drop 6 xs)) (try_number xs)

abbrev try_quot : List ℕ → Option (ℕ × List ℕ)
try_quot xs = cond (starts_with nat_eq xs (codes "&quot;")) (Some (34, drop 6 xs)) (try_apos xs)

abbrev try_gt : List ℕ → Option (ℕ × List ℕ)
try_gt xs = cond (starts_with nat_eq xs (codes "&gt;")) (Some (62, drop 4 xs)) (try_quot xs)

abbrev try_lt : List ℕ → Option (ℕ × List ℕ)
try_lt xs = cond (starts_with nat_eq xs (codes "&lt;")) (Some (60, drop 4 xs)) (try_gt xs)

number_tried : (xs : List ℕ) (v : ℕ) (rest : List ℕ) → try_number xs ≡ Some (v, rest) → IsReferenceAt xs v rest
number_tried xs v rest h =
    elim (chosen (starts_with nat_eq xs (codes "&#x") || starts_with nat_eq xs (codes "&#X")) (number_at Sixteen (drop 3 xs)) (try_decimal xs) (Some (v, rest)) h) [
      | inl w ↦ hexadecimal_takes xs v rest w.0 w.1
      | inr w ↦ elim (chosen (starts_with nat_eq xs (codes "&#")) (number_at Ten (drop 2 xs)) None (Some (v, rest)) w.1) [
        | inl d ↦ decimal_takes xs v rest d.0 d.1
        | inr d ↦ let no : ◌≡◌ {A = Option (ℕ × List ℕ)} None (Some (v, rest)) = d.1 in cc
      ]
    ]

quotes_tried : (xs : List ℕ) (v : ℕ) (rest : List ℕ) → try_quot xs ≡ Some (v, rest) → IsReferenceAt xs v rest
quotes_tried xs v rest h =
    elim (chosen (starts_with nat_eq xs (codes "&quot;")) (Some (34, drop 6 xs)) (try_apos xs) (Some (v, rest)) h) [
      | inl w ↦ named Quot (codes "&quot;") xs 34 v rest tt (λ ys. refl) refl w.0 w.1
      | inr w ↦ elim (chosen (starts_with nat_eq xs (codes "&apos;")) (Some (39, drop 6 xs)) (try_number xs) (Some (v, rest)) w.1) [
        | inl a ↦ named Apos (codes "&apos;") xs 39 v rest tt (λ ys. refl) refl a.0 a.1
        | inr a ↦ number_tried xs v rest a.1
      ]
    ]

angles_tried : (xs : List ℕ) (v : ℕ) (rest : List ℕ) → try_lt xs ≡ Some (v, rest) → IsReferenceAt xs v rest
angles_tried xs v rest h =
    elim (chosen (starts_with nat_eq xs (codes "&lt;")) (Some (60, drop 4 xs)) (try_gt xs) (Some (v, rest)) h) [
      | inl w ↦ named Lt (codes "&lt;") xs 60 v rest tt (λ ys. refl) refl w.0 w.1
      | inr w ↦ elim (chosen (starts_with nat_eq xs (codes "&gt;")) (Some (62, drop 4 xs)) (try_quot xs) (Some (v, rest)) w.1) [
        | inl g ↦ named Gt (codes "&gt;") xs 62 v rest tt (λ ys. refl) refl g.0 g.1
        | inr g ↦ quotes_tried xs v rest g.1
      ]
    ]

pub reference_takes : (xs : List ℕ) (v : ℕ) (rest : List ℕ) → reference_at xs ≡ Some (v, rest) → IsReferenceAt xs v rest
unfolding reference_at
reference_takes xs v rest h =
    elim (chosen (not (first_is 38 xs)) None (cond (starts_with nat_eq xs (codes "&amp;")) (Some (38, drop 5 xs)) (try_lt xs)) (Some (v, rest)) h) [
      | inl n ↦ let no : ◌≡◌ {A = Option (ℕ × List ℕ)} None (Some (v, rest)) = n.1 in cc
      | inr n ↦ elim (chosen (starts_with nat_eq xs (codes "&amp;")) (Some (38, drop 5 xs)) (try_lt xs) (Some (v, rest)) n.1) [
        | inl w ↦ named Amp (codes "&amp;") xs 38 v rest tt (λ ys. refl) refl w.0 w.1
        | inr w ↦ angles_tried xs v rest w.1
      ]
    ]

-- ## What is a reference is read as one

decimal_again : (ds rest : List ℕ) → IsNumber 10 7 ds → reference_at (reference_onto (Decimal ds) rest) ≡ Some (digits_value 10 ds, rest)
unfolding reference_at
decimal_again [] rest n = absurd (omega (arith, n.some))
decimal_again (c ∷ cs) rest n =
    let small : eqb 120 c ≡ false = ne_eqb 120 c (λ e. let d : digit_value 120 < 10 = subst (λ x. digit_value x < 10) (sym e) n.all.0 in absurd (omega arith)) in
    let big : eqb 88 c ≡ false = ne_eqb 88 c (λ e. let d : digit_value 88 < 10 = subst (λ x. digit_value x < 10) (sym e) n.all.0 in absurd (omega arith)) in
    rw (small, big) (number_at_again Ten (c ∷ cs) rest n)

hexadecimal_again : (sign : ℕ) (ds rest : List ℕ) → (sign ≡ 120) ⊎ (sign ≡ 88) → IsNumber 16 6 ds → reference_at (38 ∷ 35 ∷ sign ∷ (ds ++ 59 ∷ rest)) ≡ Some (digits_value 16 ds, rest)
unfolding reference_at
hexadecimal_again sign ds rest (inl e) n = rw e (number_at_again Sixteen ds rest n)
hexadecimal_again sign ds rest (inr e) n = rw e (number_at_again Sixteen ds rest n)

pub reference_again : (r : Reference) (rest : List ℕ) → IsReference r → reference_at (reference_onto r rest) ≡ Some (reference_value r, rest)
unfolding reference_at
reference_again Amp rest h = refl
reference_again Lt rest h = refl
reference_again Gt rest h = refl
reference_again Quot rest h = refl
reference_again Apos rest h = refl
reference_again (Decimal ds) rest h = decimal_again ds rest h
reference_again (Hexadecimal sign ds) rest h = hexadecimal_again sign ds rest h.0 h.1

-- ## A value, from its end to its front

pub text_ends : (xs : List ℕ) → length xs ≡ 0 → HasText xs []
text_ends [] h = record { items = []; reads = record { whole = refl; each = tt }; text_is = refl }
text_ends (b ∷ bs) h = absurd (omega arith)

pub text_replaces : (xs behind : List ℕ) (v : ℕ) (text : List ℕ) → reference_at xs ≡ Some (v, behind) → HasText behind text → HasText xs (v ∷ text)
text_replaces xs behind v text h has =
    let r = reference_takes xs v behind h in
    record {
      items = Replaced r.reference ∷ has.items;
      reads = record {
        whole = r.spelled ∙ ap (reference_onto r.reference) has.reads.whole;
        each = (r.formed, has.reads.each);
      };
      text_is = ap (λ x. x ∷ text) r.value ∙ ap (λ ys. reference_value r.reference ∷ ys) has.text_is;
    }

stays : (b : ℕ) (bs : List ℕ) → reference_at (b ∷ bs) ≡ None → IsItem (Plain b) bs
stays b bs h r more formed e =
    let no : ◌≡◌ {A = Option (ℕ × List ℕ)} None (Some (reference_value r, more)) = sym h ∙ ap reference_at e ∙ reference_again r more formed in cc

pub text_keeps : (xs : List ℕ) (b : ℕ) (bs text : List ℕ) → reference_at xs ≡ None → xs ≡ b ∷ bs → HasText bs text → HasText xs (b ∷ text)
text_keeps xs b bs text h e has =
    let here : IsItem (Plain b) bs = stays b bs (ap reference_at (sym e) ∙ h) in
    record {
      items = Plain b ∷ has.items;
      reads = record {
        whole = e ∙ ap (λ ys. b ∷ ys) has.reads.whole;
        each = (subst (IsItem (Plain b)) has.reads.whole here, has.reads.each);
      };
      text_is = ap (λ ys. b ∷ ys) has.text_is;
    }

-- ## A value has one text

some_bytes : (i : Item) (rest : List ℕ) → [] ≡ item_onto i rest → ⊥
some_bytes (Plain b) rest h = cc
some_bytes (Replaced Amp) rest h = cc
some_bytes (Replaced Lt) rest h = cc
some_bytes (Replaced Gt) rest h = cc
some_bytes (Replaced Quot) rest h = cc
some_bytes (Replaced Apos) rest h = cc
some_bytes (Replaced (Decimal ds)) rest h = cc
some_bytes (Replaced (Hexadecimal sign ds)) rest h = cc

abbrev item_value : Item → ℕ
item_value (Plain b) = b
item_value (Replaced r) = reference_value r

text_of-cons : (i : Item) (more : List Item) → text_of (i ∷ more) ≡ item_value i ∷ text_of more
text_of-cons (Plain b) more = refl
text_of-cons (Replaced r) more = refl

one_item : (i j : Item) (r s : List ℕ) → IsItem i r → IsItem j s → item_onto i r ≡ item_onto j s → (item_value i ≡ item_value j) × (r ≡ s)
one_item (Plain b) (Plain c) r s h k e =
    let head : b ≡ c = cc in
    let tail : r ≡ s = cc in
    (head, tail)
one_item (Plain b) (Replaced x) r s h k e = absurd (h x s k e)
one_item (Replaced x) (Plain c) r s h k e = absurd (k x r h (sym e))
one_item (Replaced x) (Replaced y) r s h k e =
    pair_value (reference_value x) (reference_value y) r s (sym (reference_again x r h) ∙ ap reference_at e ∙ reference_again y s k)

texts_same : (is js : List Item) → AreItems is → AreItems js → items_joined is ≡ items_joined js → text_of is ≡ text_of js
texts_same [] [] h k e = refl
texts_same [] (j ∷ js) h k e = absurd (some_bytes j (items_joined js) e)
texts_same (i ∷ is) [] h k e = absurd (some_bytes i (items_joined is) (sym e))
texts_same (i ∷ is) (j ∷ js) h k e =
    let first = one_item i j (items_joined is) (items_joined js) h.0 k.0 e in
    text_of-cons i is ∙ ap (λ x. x ∷ text_of is) first.0 ∙ ap (λ ys. item_value j ∷ ys) (texts_same is js h.1 k.1 first.1) ∙ sym (text_of-cons j js)

pub one_text : (value : List ℕ) (is js : List Item) → Reads value is → Reads value js → text_of is ≡ text_of js
one_text value is js h k = texts_same is js h.each k.each (sym h.whole ∙ k.whole)

-- ## Any value has a text

-- a reference takes at least a byte
reference_longer : (r : Reference) (rest : List ℕ) → length rest < length (reference_onto r rest)
reference_longer Amp rest = omega arith
reference_longer Lt rest = omega arith
reference_longer Gt rest = omega arith
reference_longer Quot rest = omega arith
reference_longer Apos rest = omega arith
reference_longer (Decimal ds) rest = let all = length-append ds (59 ∷ rest) in omega arith
reference_longer (Hexadecimal sign ds) rest = let all = length-append ds (59 ∷ rest) in omega arith

pub record SomeText (value : List ℕ) : Type 0 where
  pub text : List ℕ
  pub has : HasText value text

-- with the text of less, one more byte or reference is read
text_by : (b : ℕ) (bs : List ℕ) (found : Option (ℕ × List ℕ)) → reference_at (b ∷ bs) ≡ found → ((behind : List ℕ) → length behind ≤ length bs → SomeText behind) → SomeText (b ∷ bs)
text_by b bs None h next =
    let more = next bs (omega arith) in
    record { text = b ∷ more.text; has = text_keeps (b ∷ bs) b bs more.text h refl more.has }
text_by b bs (Some (v, behind)) h next =
    let r = reference_takes (b ∷ bs) v behind h in
    let all = ap length r.spelled in
    let less = reference_longer r.reference behind in
    let more = next behind (omega arith) in
    record { text = v ∷ more.text; has = text_replaces (b ∷ bs) behind v more.text h more.has }

pub some_text : (n : ℕ) (value : List ℕ) → length value ≤ n → SomeText value
some_text n [] short = record { text = []; has = text_ends [] refl }
some_text zero (b ∷ bs) short = absurd (omega arith)
some_text (suc n) (b ∷ bs) short = text_by b bs (reference_at (b ∷ bs)) refl (λ behind less. some_text n behind (omega arith))

-- ## What the code knows of a list

pub first_cons : (xs : List ℕ) (b : ℕ) → Some b ≡ slice_get xs 0 → xs ≡ b ∷ drop 1 xs
first_cons [] b h = cc
first_cons (x ∷ xs) b h = let same : b ≡ x = cc in ap (λ y. y ∷ xs) (sym same)

pub none_empty : (xs : List ℕ) → None ≡ slice_get xs 0 → length xs ≡ 0
none_empty [] h = refl
none_empty (x ∷ xs) h = cc

pub below_by : {X : Type 0} (o : Option X) (f : X → ℕ) (m n : ℕ) → m < n → IfSome o (λ x. f x ≤ m) → IfSome o (λ x. f x < n)
below_by None f m n h k = tt
below_by (Some x) f m n h k = omega arith

-- one more byte of the text
pub text_goes_on : (value bytes new text : List ℕ) (b : ℕ) → new ≡ bytes ++ b ∷ [] → HasText value (bytes ++ b ∷ text) → HasText value (new ++ text)
text_goes_on value bytes new text b e has = subst (HasText value) (sym (ap (λ ys. ys ++ text) e ∙ append_assoc bytes (b ∷ []) text)) has
