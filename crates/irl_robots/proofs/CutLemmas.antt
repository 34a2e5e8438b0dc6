-- The test for a match and the cut of a path into pieces agree.
use Rattle.std.proofs.Common.{◌≡◌, ℕ, Bool, true, false, ◌&&◌, eqb, List, [], ◌∷◌, ◌++◌, drop, take, length, ◌⊎◌, refl, sym, ap, subst, ◌∙◌, inl, inr}
use Rattle.std.specs.List.{concat}
use Rattle.std.proofs.lemmas.List.{append-nil, take-append-drop}
use Rattle.std.proofs.Math.Seq.{drop-append_seam}
use Rattle.std.proofs.Math.Bool.{and-true, and-false}
use Rattle.std.proofs.lemmas.Bool.{cases_Bool, and_parts, and_from, eqb-true, false≢true, eq-eqb}
use Rattle.irl_robots.specs.Matching.{Part, Run, One, part_of, parts, IsCut, Matches, matches, is_empty, one_then, some_end}
use Rattle.irl_robots.proofs.MatchingLemmas.{IsLiteralAt, matches-one}
use Rattle.irl_robots.proofs.SearchLemmas.{end-at, end-from}

-- ---- cuts by the first part

cut-run : (ps : List Part) (k : ℕ) (t : List ℕ) → IsCut ps (drop k t) → IsCut (Run ∷ ps) t
cut-run ps k t (pieces, stand, joined) =
    (take k t ∷ pieces, (tt, stand), ap (λ u. take k t ++ u) joined ∙ take-append-drop k t)

cut-one : (c : ℕ) (ps : List Part) (rest : List ℕ) → IsCut ps rest → IsCut (One c ∷ ps) (c ∷ rest)
cut-one c ps rest (pieces, stand, joined) = ((c ∷ []) ∷ pieces, (refl, stand), ap (λ u. c ∷ u) joined)

run-cut : (ps : List Part) (t : List ℕ) → IsCut (Run ∷ ps) t → (k : ℕ) × IsCut ps (drop k t)
run-cut ps t ([], stand, joined) = absurd stand
run-cut ps t (piece ∷ pieces, stand, joined) =
    (length piece, (pieces, stand.1, sym (ap (drop (length piece)) (sym joined) ∙ drop-append_seam piece (concat pieces))))

one-cut : (c : ℕ) (ps : List Part) (t : List ℕ) → IsCut (One c ∷ ps) t → (rest : List ℕ) × (t ≡ c ∷ rest) × IsCut ps rest
one-cut c ps t ([], stand, joined) = absurd stand
one-cut c ps t (piece ∷ pieces, stand, joined) =
    (concat pieces, sym joined ∙ ap (λ u. u ++ concat pieces) stand.0, (pieces, stand.1, refl))

nil-cut : (t : List ℕ) → IsCut [] t → t ≡ []
nil-cut t ([], stand, joined) = sym joined
nil-cut t (piece ∷ pieces, stand, joined) = absurd stand

-- ---- the parts of a pattern, octet by octet

parts-cons : (c : ℕ) (cs : List ℕ) → (eqb c 36 && is_empty cs) ≡ false → parts (c ∷ cs) ≡ part_of c ∷ parts cs
parts-cons c [] last = let differs : eqb c 36 ≡ false = sym (and-true (eqb c 36)) ∙ last in rw differs refl
parts-cons c (d ∷ cs) last = refl

parts-star : (c : ℕ) (cs : List ℕ) → eqb c 42 ≡ true → parts (c ∷ cs) ≡ Run ∷ parts cs
parts-star c cs star =
    let is = eqb-true c 42 star in
    parts-cons c cs (rw is refl) ∙ rw star refl

parts-one : (c : ℕ) (cs : List ℕ) → IsLiteralAt c cs → parts (c ∷ cs) ≡ One c ∷ parts cs
parts-one c cs h = parts-cons c cs h.1 ∙ rw h.0 refl

parts-end : (c : ℕ) (cs : List ℕ) → (eqb c 36 && is_empty cs) ≡ true → parts (c ∷ cs) ≡ []
parts-end c [] last = let same : eqb c 36 ≡ true = (and_parts (eqb c 36) true last).0 in rw same refl
parts-end c (d ∷ cs) last = absurd (false≢true (sym (and-false (eqb c 36)) ∙ last))

-- ---- the test, by the same cases

abbrev AtFirst : ℕ → List ℕ → Type 0
AtFirst c cs = (eqb c 42 ≡ true) ⊎ (IsLiteralAt c cs ⊎ ((eqb c 42 ≡ false) × ((eqb c 36 && is_empty cs) ≡ true)))

at-first : (c : ℕ) (cs : List ℕ) → AtFirst c cs
at-first c cs = elim (cases_Bool (eqb c 42)) [
  | inl star ↦ inl star
  | inr other ↦ elim (cases_Bool (eqb c 36 && is_empty cs)) [
    | inl last ↦ inr (inr (other, last))
    | inr literal ↦ inr (inl (other, literal))
  ]
]

pub matches-last : (c : ℕ) (cs t : List ℕ) → eqb c 42 ≡ false → (eqb c 36 && is_empty cs) ≡ true → matches (c ∷ cs) t ≡ is_empty t
unfolding matches
matches-last c cs t other last = rw (other, last) refl

matches-run : (c : ℕ) (cs t : List ℕ) → eqb c 42 ≡ true → matches (c ∷ cs) t ≡ some_end (matches cs) t
unfolding matches
matches-run c cs t star = rw star refl

pub matches-none : (t : List ℕ) → matches [] t ≡ true
unfolding matches
matches-none t = refl

pub nil-from_empty : (t : List ℕ) → is_empty t ≡ true → t ≡ []
nil-from_empty [] h = refl
nil-from_empty (c ∷ cs) h = absurd (false≢true h)

pub one_then-parts : (c : ℕ) (passes : List ℕ → Bool) (t : List ℕ) → one_then c passes t ≡ true → (rest : List ℕ) × (t ≡ c ∷ rest) × (passes rest ≡ true)
one_then-parts c passes [] h = absurd (false≢true h)
one_then-parts c passes (d ∷ rest) h =
    let both = and_parts (eqb c d) (passes rest) h in
    (rest, ap (λ u. u ∷ rest) (sym (eqb-true c d both.0)), both.1)

one_then-from : (c : ℕ) (passes : List ℕ → Bool) (rest : List ℕ) → passes rest ≡ true → one_then c passes (c ∷ rest) ≡ true
one_then-from c passes rest h = and_from (eqb c c) (passes rest) (eq-eqb c c refl) h

-- a match is a cut
pub cut-from_match : (p t : List ℕ) → matches p t ≡ true → Matches p t
cut-from_match [] t h = (t ∷ [], (tt, tt), append-nil t)
cut-from_match (c ∷ cs) t h = elim (at-first c cs) [
  | inl star ↦
      let found = end-at (matches cs) t (sym (matches-run c cs t star) ∙ h) in
      subst (λ ps. IsCut ps t) (sym (parts-star c cs star)) (cut-run (parts cs) found.0 t (cut-from_match cs (drop found.0 t) found.1))
  | inr other ↦ elim other [
    | inl literal ↦
        let met = one_then-parts c (matches cs) t (sym (matches-one c cs t literal) ∙ h) in
        subst (λ ps. IsCut ps t) (sym (parts-one c cs literal))
        (subst (λ u. IsCut (One c ∷ parts cs) u) (sym met.1) (cut-one c (parts cs) met.0 (cut-from_match cs met.0 met.2)))
    | inr last ↦
        subst (λ ps. IsCut ps t) (sym (parts-end c cs last.1))
        ([], tt, sym (nil-from_empty t (sym (matches-last c cs t last.0 last.1) ∙ h)))
  ]
]

-- a cut is a match
pub match-from_cut : (p t : List ℕ) → Matches p t → matches p t ≡ true
match-from_cut [] t h = matches-none t
match-from_cut (c ∷ cs) t h = elim (at-first c cs) [
  | inl star ↦
      let found = run-cut (parts cs) t (subst (λ ps. IsCut ps t) (parts-star c cs star) h) in
      matches-run c cs t star ∙ end-from (matches cs) found.0 t (match-from_cut cs (drop found.0 t) found.1)
  | inr other ↦ elim other [
    | inl literal ↦
        let met = one-cut c (parts cs) t (subst (λ ps. IsCut ps t) (parts-one c cs literal) h) in
        matches-one c cs t literal ∙ ap (one_then c (matches cs)) met.1
        ∙ one_then-from c (matches cs) met.0 (match-from_cut cs met.0 met.2)
    | inr last ↦
        matches-last c cs t last.0 last.1
        ∙ ap is_empty (nil-cut t (subst (λ ps. IsCut ps t) (parts-end c cs last.1) h))
  ]
]
