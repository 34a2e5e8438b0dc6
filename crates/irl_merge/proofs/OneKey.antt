-- What a set tells of one key is made of what it is asked of that key alone.
use Rattle.std.proofs.Common.{◌≡◌, ◌∙◌, ℕ, ◌+◌, List, [], ◌∷◌, map, Some, Option, Bool, true, false, cond, refl, sym, ap, arith}
use Rattle.std.specs.Prelude.{nat_eq, filter}
use Rattle.std.specs.FinMap.{get, insert}
use Rattle.std.proofs.lemmas.Bool.Decides.{nat_tests}
use Rattle.irl_offer.specs.declared.offer.Rule.{Rule}
use Rattle.irl_offer.specs.declared.offer.Verdict.{Verdict}
use Rattle.irl_offer.specs.Tuple.{Tuple}
use Rattle.irl_model.specs.Judging.{KeyMap, after, answer, combined, entered, enters}
use Rattle.irl_model.proofs.JudgingLaws.{judged_on}
use Rattle.irl_merge.specs.declared.query.Query.{Query}
use Rattle.irl_merge.specs.Queries.{numbered, tuple_of}
use Rattle.irl_model.proofs.RisingKeys.{get_set}

abbrev pub here : ℕ → Query → Bool
here key a = nat_eq key a.key

abbrev pub Told : Type 0
Told = Query × Option Verdict

-- each with the answer of the set as it stands when it is asked
abbrev pub told_on : Rule → KeyMap → List Query → List Told
told_on rule keys [] = []
told_on rule keys (a ∷ xs) = (a, answer a.op (get keys a.key)) ∷ told_on rule (entered rule keys (tuple_of a)) xs

-- the value of one key, after it was asked for
abbrev pub value_after : Rule → Option ℕ → Query → Option ℕ
value_after rule known a = cond (enters a.op) (Some (combined rule known a.value)) known

-- the same where all is asked of one key
abbrev pub told_of : Rule → Option ℕ → List Query → List Told
told_of rule known [] = []
told_of rule known (a ∷ xs) = (a, answer a.op known) ∷ told_of rule (value_after rule known a) xs

abbrev pub value_of : Rule → Option ℕ → List Query → Option ℕ
value_of rule known [] = known
value_of rule known (a ∷ xs) = value_of rule (value_after rule known a) xs

other : (key k : ℕ) (x y : Option ℕ) → nat_eq key k ≡ false → cond (nat_eq key k) x y ≡ y
other key k x y e = rw e refl

value_there : (rule : Rule) (keys : KeyMap) (a : Query) (key : ℕ) → nat_eq key a.key ≡ false → get (entered rule keys (tuple_of a)) key ≡ get keys key
value_there rule keys a key e =
    elim (enters a.op) as (λ (b : Bool). get (cond b (insert keys a.key (combined rule (get keys a.key) a.value)) keys) key ≡ get keys key) [
      | true ↦ get_set keys a.key (combined rule (get keys a.key) a.value) key ∙ ap (λ (t : Bool). cond t (Some (combined rule (get keys a.key) a.value)) (get keys key)) e
      | false ↦ refl
    ]

value_here : (rule : Rule) (keys : KeyMap) (a : Query) (key : ℕ) → nat_eq key a.key ≡ true → get (entered rule keys (tuple_of a)) key ≡ value_after rule (get keys key) a
value_here rule keys a key e =
    let same : key ≡ a.key = grind (arith, nat_tests, e) in
    elim (enters a.op) as (λ (b : Bool). get (cond b (insert keys a.key (combined rule (get keys a.key) a.value)) keys) key ≡ cond b (Some (combined rule (get keys key) a.value)) (get keys key)) [
      | true ↦ get_set keys a.key (combined rule (get keys a.key) a.value) key
          ∙ ap (λ (t : Bool). cond t (Some (combined rule (get keys a.key) a.value)) (get keys key)) e
          ∙ ap (λ (k : ℕ). Some (combined rule (get keys k) a.value)) (sym same)
      | false ↦ refl
    ]

answer_here : (keys : KeyMap) (a : Query) (key : ℕ) → nat_eq key a.key ≡ true → get keys a.key ≡ get keys key
answer_here keys a key e = let same : key ≡ a.key = grind (arith, nat_tests, e) in ap (λ (k : ℕ). get keys k) (sym same)

pub told-filter : (rule : Rule) (keys : KeyMap) (key : ℕ) (xs : List Query) → filter (λ (p : Told). here key p.0) (told_on rule keys xs) ≡ told_of rule (get keys key) (filter (here key) xs)
told-filter rule keys key [] = refl
told-filter rule keys key (a ∷ xs) =
    let rest = told-filter rule (entered rule keys (tuple_of a)) key xs in
    let later = filter (λ (p : Told). here key p.0) (told_on rule (entered rule keys (tuple_of a)) xs) in
    elim (nat_eq key a.key) as (λ (b : Bool). nat_eq key a.key ≡ b → cond b ((a, answer a.op (get keys a.key)) ∷ later) later
    ≡ told_of rule (get keys key) (cond b (a ∷ filter (here key) xs) (filter (here key) xs))) [
      | true ↦ λ e. ap (λ (known : Option ℕ). (a, answer a.op known) ∷ later) (answer_here keys a key e)
          ∙ ap (λ (ps : List Told). (a, answer a.op (get keys key)) ∷ ps) (rest ∙ ap (λ (known : Option ℕ). told_of rule known (filter (here key) xs)) (value_here rule keys a key e))
      | false ↦ λ e. rest ∙ ap (λ (known : Option ℕ). told_of rule known (filter (here key) xs)) (value_there rule keys a key e)
    ] refl

pub after-get : (rule : Rule) (keys : KeyMap) (key : ℕ) (xs : List Query) → get (after rule keys (map tuple_of xs)) key ≡ value_of rule (get keys key) (filter (here key) xs)
after-get rule keys key [] = refl
after-get rule keys key (a ∷ xs) =
    let rest = after-get rule (entered rule keys (tuple_of a)) key xs in
    elim (nat_eq key a.key) as (λ (b : Bool). nat_eq key a.key ≡ b → get (after rule (entered rule keys (tuple_of a)) (map tuple_of xs)) key
    ≡ value_of rule (get keys key) (cond b (a ∷ filter (here key) xs) (filter (here key) xs))) [
      | true ↦ λ e. rest ∙ ap (λ (known : Option ℕ). value_of rule known (filter (here key) xs)) (value_here rule keys a key e)
      | false ↦ λ e. rest ∙ ap (λ (known : Option ℕ). value_of rule known (filter (here key) xs)) (value_there rule keys a key e)
    ] refl

-- ---- numbers and texts are not looked at
pub told-judged : (rule : Rule) (keys : KeyMap) (xs : List Query) → map (λ (p : Tuple × Option Verdict). p.1) (judged_on rule keys (map tuple_of xs)) ≡ map (λ (p : Told). p.1) (told_on rule keys xs)
told-judged rule keys [] = refl
told-judged rule keys (a ∷ xs) = ap (λ (vs : List (Option Verdict)). answer a.op (get keys a.key) ∷ vs) (told-judged rule (entered rule keys (tuple_of a)) xs)

pub numbered-judged : (rule : Rule) (keys : KeyMap) (place : ℕ) (os : List Tuple)
    → map (λ (p : Tuple × Option Verdict). p.1) (judged_on rule keys os) ≡ map (λ (p : Told). p.1) (told_on rule keys (numbered place os))
numbered-judged rule keys place [] = refl
numbered-judged rule keys place (o ∷ os) = ap (λ (vs : List (Option Verdict)). answer o.op (get keys o.key) ∷ vs) (numbered-judged rule (entered rule keys o) (place + 1) os)

pub numbered-after : (rule : Rule) (keys : KeyMap) (place : ℕ) (os : List Tuple) → after rule keys os ≡ after rule keys (map tuple_of (numbered place os))
numbered-after rule keys place [] = refl
numbered-after rule keys place (o ∷ os) = numbered-after rule (entered rule keys o) (place + 1) os
