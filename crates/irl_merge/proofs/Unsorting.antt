-- What is told in the order of the keys is what is told in the order of the places.
use Rattle.std.proofs.Common.{◌≡◌, ◌∙◌, ℕ, zero, suc, ◌<◌, List, [], ◌∷◌, map, length, get_or, None, Option, Bool, true, false, cond, refl, sym, ap, subst, arith, ◌⊎◌, inl, inr}
use Rattle.std.specs.Prelude.{nat_eq, filter}
use Rattle.std.specs.FinMap.{get}
use Rattle.std.proofs.lemmas.Bool.Decides.{nat_tests}
use Rattle.std.proofs.lemmas.List.{length-map, ext_get_or}
use Rattle.irl_offer.specs.declared.offer.Rule.{Rule}
use Rattle.irl_offer.specs.declared.offer.Verdict.{Verdict}
use Rattle.irl_offer.specs.Tuple.{Tuple}
use Rattle.irl_model.specs.Judging.{KeyMap, after, entered, judgements}
use Rattle.irl_model.proofs.JudgingLaws.{judgements-judged_on, length-judgements}
use Rattle.irl_merge.specs.declared.query.Query.{Query}
use Rattle.irl_merge.specs.Queries.{AreTold, numbered, tuple_of}
use Rattle.irl_model.proofs.RisingKeys.{same_keys}
use Rattle.irl_merge.proofs.Numbering.{length-numbered, nothing, place_at}
use Rattle.irl_merge.proofs.OneKey.{Told, here, told_on, told_of, value_of, told-filter, after-get, numbered-judged}

-- ---- members
abbrev pub Has : {X : Type 0} → List X → X → Type 0
Has [] x = ⊥
Has (y ∷ ys) x = (y ≡ x) ⊎ Has ys x

has_at : {X : Type 0} (xs : List X) (i : ℕ) (d : X) → i < length xs → Has xs (get_or xs i d)
has_at [] i d lt = absurd (omega arith)
has_at (x ∷ xs) zero d lt = inl refl
has_at (x ∷ xs) (suc i) d lt = inr (has_at xs i d (omega arith))

at_has : {X : Type 0} (xs : List X) (x d : X) → Has xs x → (i : ℕ) × (i < length xs) × (get_or xs i d ≡ x)
at_has [] x d h = absurd h
at_has (y ∷ ys) x d (inl e) = (zero, omega arith, e)
at_has (y ∷ ys) x d (inr h) = let rest = at_has ys x d h in (suc rest.0, omega (arith, rest.1), rest.2)

pub kept : {X : Type 0} (p : X → Bool) (xs : List X) (x : X) → p x ≡ true → Has xs x → Has (filter p xs) x
kept p [] x e h = absurd h
kept {X} p (y ∷ ys) x e (inl same) =
    subst (λ (b : Bool). Has (cond b (y ∷ filter p ys) (filter p ys)) x) (sym (ap p same ∙ e)) (inl same)
kept {X} p (y ∷ ys) x e (inr h) =
    let rest = kept p ys x e h in
    elim (p y) as (λ (b : Bool). Has (cond b (y ∷ filter p ys) (filter p ys)) x) [ true ↦ inr rest | false ↦ rest ]

pub was : {X : Type 0} (p : X → Bool) (xs : List X) (x : X) → Has (filter p xs) x → Has xs x
was p [] x h = absurd h
was {X} p (y ∷ ys) x h =
    elim (p y) as (λ (b : Bool). Has (cond b (y ∷ filter p ys) (filter p ys)) x → Has (y ∷ ys) x) [
      | true ↦ λ h. elim h [ inl e ↦ inl e | inr r ↦ inr (was p ys x r) ]
      | false ↦ λ h. inr (was p ys x h)
    ] h

-- ---- what is asked in another order, but of each key in the same one
abbrev pub SameByKey : List Query → List Query → Type 0
SameByKey xs bs = (key : ℕ) → filter (here key) xs ≡ filter (here key) bs

pub after_same : (rule : Rule) (keys : KeyMap) (xs bs : List Query) → SameByKey xs bs → after rule keys (map tuple_of xs) ≡ after rule keys (map tuple_of bs)
after_same rule keys xs bs same = same_keys _ _ (λ key.
    after-get rule keys key xs ∙ ap (value_of rule (get keys key)) (same key) ∙ sym (after-get rule keys key bs))

told_same : (rule : Rule) (keys : KeyMap) (xs bs : List Query) → SameByKey xs bs → (p : Told) → Has (told_on rule keys xs) p → Has (told_on rule keys bs) p
told_same rule keys xs bs same p h =
    let key = p.0.key in
    let one : filter (λ (t : Told). here key t.0) (told_on rule keys xs) ≡ filter (λ (t : Told). here key t.0) (told_on rule keys bs) =
    told-filter rule keys key xs ∙ ap (told_of rule (get keys key)) (same key) ∙ sym (told-filter rule keys key bs) in
    let itself : nat_eq key key ≡ true = grind (arith, nat_tests) in
    was (λ (t : Told). here key t.0) (told_on rule keys bs) p
    (subst (λ (ts : List Told). Has ts p) one (kept (λ (t : Told). here key t.0) (told_on rule keys xs) p itself h))

-- ---- lists beside each other
length-told_on : (rule : Rule) (keys : KeyMap) (xs : List Query) → length (told_on rule keys xs) ≡ length xs
length-told_on rule keys [] = refl
length-told_on rule keys (a ∷ xs) = ap (λ (n : ℕ). suc n) (length-told_on rule (entered rule keys (tuple_of a)) xs)

asked_at : (rule : Rule) (keys : KeyMap) (xs : List Query) (i : ℕ) (d : Told) → (get_or (told_on rule keys xs) i d).0 ≡ get_or xs i d.0
asked_at rule keys [] i d = refl
asked_at rule keys (a ∷ xs) zero d = refl
asked_at rule keys (a ∷ xs) (suc i) d = asked_at rule (entered rule keys (tuple_of a)) xs i d

verdict_at : (ts : List Told) (i : ℕ) (d : Query) → (get_or ts i (d, None)).1 ≡ get_or (map (λ (p : Told). p.1) ts) i None
verdict_at [] i d = refl
verdict_at (t ∷ ts) zero d = refl
verdict_at (t ∷ ts) (suc i) d = verdict_at ts i d

-- ---- the verdicts in the order of the places
abbrev pub right : Rule → KeyMap → List Tuple → List (Option Verdict)
right rule keys offers = map (λ p. p.1) (judgements rule keys offers)

right_told : (rule : Rule) (keys : KeyMap) (offers : List Tuple) → right rule keys offers ≡ map (λ (p : Told). p.1) (told_on rule keys (numbered 0 offers))
right_told rule keys offers = ap (map (λ (p : Tuple × Option Verdict). p.1)) (judgements-judged_on rule keys offers) ∙ numbered-judged rule keys 0 offers

-- one of them stands at its place
pub right_is_told : (rule : Rule) (keys : KeyMap) (offers : List Tuple) (asked : List Query) (verdicts : List (Option Verdict)) → SameByKey asked (numbered 0 offers)
    → verdicts ≡ map (λ (p : Told). p.1) (told_on rule keys asked) → AreTold asked verdicts (right rule keys offers)
right_is_told rule keys offers asked verdicts same e i d lt =
    let p = get_or (told_on rule keys asked) i (d, None) in
    let has = told_same rule keys asked (numbered 0 offers) same p (has_at (told_on rule keys asked) i (d, None) (omega (arith, length-told_on rule keys asked))) in
    let found = at_has (told_on rule keys (numbered 0 offers)) p (d, None) has in
    let j = found.0 in
    let within : j < length offers = omega (arith, found.1, length-told_on rule keys (numbered 0 offers), length-numbered 0 offers) in
    let place : (get_or asked i d).place ≡ j =
    ap (λ (a : Query). a.place) (sym (asked_at rule keys asked i (d, None)) ∙ ap (λ (t : Told). t.0) (sym found.2) ∙ asked_at rule keys (numbered 0 offers) j (d, None))
    ∙ place_at 0 offers j d within ∙ (omega arith) in
    ap (λ (k : ℕ). get_or (right rule keys offers) k None) place
    ∙ ap (λ (vs : List (Option Verdict)). get_or vs j None) (right_told rule keys offers)
    ∙ sym (verdict_at (told_on rule keys (numbered 0 offers)) j d)
    ∙ ap (λ (t : Told). t.1) found.2
    ∙ verdict_at (told_on rule keys asked) i d
    ∙ ap (λ (vs : List (Option Verdict)). get_or vs i None) (sym e)

-- and each place has one
pub told_is_right : (rule : Rule) (keys : KeyMap) (offers : List Tuple) (asked : List Query) (verdicts told : List (Option Verdict)) → SameByKey asked (numbered 0 offers)
    → verdicts ≡ map (λ (p : Told). p.1) (told_on rule keys asked) → length told ≡ length offers → AreTold asked verdicts told → told ≡ right rule keys offers
told_is_right rule keys offers asked verdicts told same e long is =
    let count : length (right rule keys offers) ≡ length offers = length-map (judgements rule keys offers) (λ p. p.1) ∙ length-judgements rule keys offers in
    ext_get_or None told (right rule keys offers) (long ∙ sym count) (λ j lt.
    let within : j < length offers = omega (arith, long) in
    let p = get_or (told_on rule keys (numbered 0 offers)) j (nothing, None) in
    let has = told_same rule keys (numbered 0 offers) asked (λ key. sym (same key)) p
    (has_at (told_on rule keys (numbered 0 offers)) j (nothing, None) (omega (arith, length-told_on rule keys (numbered 0 offers), length-numbered 0 offers))) in
    let found = at_has (told_on rule keys asked) p (nothing, None) has in
    let i = found.0 in
    let at : i < length asked = omega (arith, found.1, length-told_on rule keys asked) in
    let place : (get_or asked i nothing).place ≡ j =
    ap (λ (a : Query). a.place) (sym (asked_at rule keys asked i (nothing, None)) ∙ ap (λ (t : Told). t.0) found.2 ∙ asked_at rule keys (numbered 0 offers) j (nothing, None))
    ∙ place_at 0 offers j nothing within ∙ (omega arith) in
    ap (λ (k : ℕ). get_or told k None) (sym place) ∙ is i nothing at
    ∙ ap (λ (vs : List (Option Verdict)). get_or vs i None) e
    ∙ sym (verdict_at (told_on rule keys asked) i nothing)
    ∙ ap (λ (t : Told). t.1) found.2
    ∙ verdict_at (told_on rule keys (numbered 0 offers)) j nothing
    ∙ ap (λ (vs : List (Option Verdict)). get_or vs j None) (sym (right_told rule keys offers)))
