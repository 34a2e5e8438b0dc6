-- Lists of lists: vectors among them, lists that grow and are cut back.
use Rattle.std.proofs.Common.{◌≡◌, ◌∙◌, ℕ, ◌+◌, ◌<◌, ◌≤◌, List, [], ◌∷◌, ◌++◌, map, length, get_or, set, take, refl, sym, ap, arith, append_assoc, rules, inl, inr}
use Rattle.std.specs.Prelude.{Vec, vec_len, Result, Ok, Err, OnErr}
use Rattle.std.proofs.lemmas.Bool.{cases_lt, cases_eq}
use Rattle.std.proofs.lemmas.List.{append-nil, set_past, set-get_or, take_at, length-set, get_or-set_same, get_or-set_other, get_or-map, map-set, ext_get_or}
use Rattle.irl_base.specs.Lists.{items_of, list_at, with_one, Grown}

-- a fact holds where the result is an error too
pub on_err : {T E : Type 0} (r : Result T E) (P : Type 0) → P → OnErr r P
on_err (Ok x) P p = tt
on_err (Err e) P p = p

-- a vector among the lists
pub at_vec : {X A : Type 0} (lists : List (Vec X A)) (at : ℕ) (d : Vec X A) → at < length lists → list_at (items_of lists) at ≡ (get_or lists at d).items
at_vec {X = X} lists at d lt = get_or-map (λ (list : Vec X _). list.items) lists at d [] lt

-- one vector in place of another
pub set_vec : {X A : Type 0} (lists : List (Vec X A)) (at : ℕ) (list : Vec X A) (items : List X) → list.items ≡ items → items_of (set lists at list) ≡ set (items_of lists) at items
set_vec {X = X} lists at list items is =
    map-set (λ (list : Vec X _). list.items) lists at list ∙ ap (λ t. set (items_of lists) at t) is

-- one vector changed where it stands
pub changed_vec : {X A : Type 0} (lists : List (Vec X A)) (at : ℕ) (new old : Vec X A) (change : List X → List X) → at < length lists → old ≡ get_or lists at old → new.items ≡ change old.items
    → items_of (set lists at new) ≡ set (items_of lists) at (change (list_at (items_of lists) at))
changed_vec {X = X} lists at new old change lt was is =
    set_vec lists at new _ (is ∙ ap (λ (v : Vec X _). change v.items) was ∙ ap change (sym (at_vec lists at old lt)))

-- a vector in place of one with the same items
pub same_vec : {X A : Type 0} (lists : List (Vec X A)) (at : ℕ) (new old : Vec X A) → at < length lists → old ≡ get_or lists at old → new.items ≡ old.items
    → items_of (set lists at new) ≡ items_of lists
same_vec lists at new old lt was is =
    changed_vec lists at new old (λ t. t) lt was is ∙ set-get_or (items_of lists) at []

pub grown_same : {X : Type 0} (lists : List (List X)) → Grown lists lists
grown_same lists = record { count = refl; begins = λ k. ([], sym (append-nil (list_at lists k))) }

more_at : {X : Type 0} (old new : List (List X)) (at k : ℕ) (more : List X) → Grown old new → (rest : List X) × (list_at (set new at (list_at new at ++ more)) k ≡ list_at old k ++ rest)
more_at old new at k more grown = elim (cases_lt at (length new)) [
  | inl lt ↦ elim (cases_eq k at) [
    | inl here ↦
        let before = grown.begins at in (
          before.0 ++ more,
          ap (λ n. list_at (set new at (list_at new at ++ more)) n) here ∙ get_or-set_same new at (list_at new at ++ more) [] lt
              ∙ ap (λ t. t ++ more) before.1 ∙ append_assoc (list_at old at) before.0 more ∙ ap (λ n. list_at old n ++ (before.0 ++ more)) (sym here),
        )
    | inr other ↦
        let before = grown.begins k in
        (before.0, get_or-set_other new at k (list_at new at ++ more) [] other ∙ before.1)
  ]
  | inr le ↦
      let before = grown.begins k in
      (before.0, ap (λ t. list_at t k) (set_past new at (list_at new at ++ more) le) ∙ before.1)
]

-- lists that have grown, with one item more
pub grown_one : {X : Type 0} (old new : List (List X)) (at : ℕ) (item : X) → Grown old new → Grown old (with_one new at item)
grown_one old new at item grown = record {
  count = length-set new at (list_at new at ++ item ∷ []) ∙ grown.count;
  begins = λ k. more_at old new at k (item ∷ []) grown;
}

-- what was taken out of lists is put back with more behind it, after the others have grown
pub grown_back : {X : Type 0} (old new : List (List X)) (at : ℕ) (list more : List X) → at < length old → Grown (set old at []) new → list ≡ list_at old at ++ more → Grown old (set new at list)
grown_back old new at list more lt grown is = record {
  count = length-set new at list ∙ grown.count ∙ length-set old at [];
  begins = λ k. elim (cases_eq k at) [
    | inl here ↦
        let within : at < length new = omega (arith, grown.count, length-set old at []) in
        (more, ap (λ n. list_at (set new at list) n) here ∙ get_or-set_same new at list [] within ∙ is ∙ ap (λ n. list_at old n ++ more) (sym here))
    | inr other ↦
        let before = grown.begins k in
        (before.0, get_or-set_other new at k list [] other ∙ before.1 ∙ ap (λ t. t ++ before.0) (get_or-set_other old at k [] [] other))
  ];
}

-- ---- cut back

-- the lists below a number are cut to their lengths, and the others are as they were
pub record CutBelow {X : Type 0} (lengths : List ℕ) (old new : List (List X)) (n : ℕ) : Type 0 where
  pub count : length new ≡ length old
  pub done : (k : ℕ) → k < n → list_at new k ≡ take (get_or lengths k 0) (list_at old k)
  pub rest : (k : ℕ) → n ≤ k → list_at new k ≡ list_at old k

pub cut_none : {X : Type 0} (lengths : List ℕ) (old : List (List X)) → CutBelow lengths old old 0
cut_none lengths old = record { count = refl; done = λ k lt. absurd (omega arith); rest = λ k le. refl }

pub cut_more : {X : Type 0} (lengths : List ℕ) (old new after : List (List X)) (n len : ℕ) → n < length old → len ≡ get_or lengths n 0 → after ≡ set new n (take len (list_at new n))
    → CutBelow lengths old new n → CutBelow lengths old after (n + 1)
cut_more lengths old new after n len lt is set_is cut =
    let changed = take len (list_at new n) in
    record {
      count = ap length set_is ∙ length-set new n changed ∙ cut.count;
      done = λ k below. ap (λ t. list_at t k) set_is ∙ elim (cases_eq k n) [
        | inl here ↦
            ap (λ m. list_at (set new n changed) m) here ∙ get_or-set_same new n changed [] (omega (arith, cut.count))
            ∙ ap (λ t. take len t) (cut.rest n (omega arith)) ∙ ap (λ m. take m (list_at old n)) is
            ∙ ap (λ m. take (get_or lengths m 0) (list_at old m)) (sym here)
        | inr other ↦ get_or-set_other new n k changed [] other ∙ cut.done k (omega arith)
      ];
      rest = λ k le. ap (λ t. list_at t k) set_is ∙ get_or-set_other new n k changed [] (omega arith) ∙ cut.rest k (omega arith);
    }

-- lists that have grown are cut back to what they were
pub cut_all : {X : Type 0} (lengths : List ℕ) (old new base : List (List X)) → CutBelow lengths old new (length old) → Grown base old → lengths ≡ map length base → new ≡ base
cut_all lengths old new base cut grown is = ext_get_or [] new base (cut.count ∙ grown.count) (λ i lt.
    let within : i < length base = omega (arith, cut.count, grown.count) in
    let len : get_or lengths i 0 ≡ length (list_at base i) = ap (λ t. get_or t i 0) is ∙ get_or-map length base i [] 0 within in
    let before = grown.begins i in
    cut.done i (omega (arith, cut.count)) ∙ ap (λ n. take n (list_at old i)) len ∙ ap (λ t. take (length (list_at base i)) t) before.1
    ∙ take_at (list_at base i) before.0 (length (list_at base i)) refl)

-- the lengths of vectors
pub vec_lengths : {X A : Type 0} (lists : List (Vec X A)) → map (λ (list : Vec X A). vec_len list) lists ≡ map length (items_of lists)
vec_lengths {X = X} [] = refl
vec_lengths {X = X} (list ∷ lists) =
    let is : vec_len list ≡ length list.items = search rules in
    ap (λ n. n ∷ map (λ (v : Vec X _). vec_len v) lists) is ∙ ap (λ t. length list.items ∷ t) (vec_lengths lists)
