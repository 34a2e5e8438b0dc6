-- Why the search for a match may forget the earlier `*`.
use Rattle.std.proofs.Common.{◌≡◌, ◌≢◌, ℕ, ◌+◌, ◌≤◌, suc, zero, Bool, true, false, ◌||◌, eqb, List, [], ◌∷◌, ◌++◌, length, drop, Option, Some, None, refl, sym, ap, subst, ◌∙◌, inl, inr, arith}
use Rattle.std.proofs.lemmas.List.{drop-drop, append_assoc}
use Rattle.std.proofs.Math.Seq.{drop-append-add}
use Rattle.std.proofs.Math.Bool.{or-false, or-true}
use Rattle.std.proofs.lemmas.Bool.{or_cases, or_left, or_right, and_parts, and_right, ne_eqb, false≢true}
use Rattle.irl_robots.specs.declared.matching.Place.{Place}
use Rattle.irl_robots.specs.Matching.{matches, is_empty, some_end}
use Rattle.irl_robots.specs.Octets.{octets_left}
use Rattle.irl_robots.specs.Runs.{AreLiteral}
use Rattle.irl_robots.specs.Place.{fits, IsPast, IsPastStar}
use Rattle.irl_robots.proofs.MatchingLemmas.{IsLiteralAt, matches-one, matches-star}

-- whether an end but the whole passes
abbrev pub some_later : (List ℕ → Bool) → List ℕ → Bool
some_later passes [] = false
some_later passes (c ∷ cs) = some_end passes cs

-- whether what stands behind the last `*` matches further on
abbrev pub again : Option Place → Bool
again None = false
again (Some from) = some_later (matches from.pattern.now) (octets_left from.path)

-- since the last `*` these octets of pattern and path met
pub record IsBehind (from at : Place) (met : List ℕ) : Type 0 where
  pub literal : AreLiteral met
  pub pattern : from.pattern.now ≡ met ++ at.pattern.now
  pub path : octets_left from.path ≡ met ++ octets_left at.path

abbrev pub IsBehindLast : Option Place → Place → Type 0
IsBehindLast None at = Unit {0}
IsBehindLast (Some from) at = (met : List ℕ) × IsBehind from at met

-- the octets that the last `*` may still stand for; one more than the path has, where there was none
abbrev pub tries : Option Place → Place → ℕ
tries None at = suc (length (octets_left at.path))
tries (Some from) at = length (octets_left from.path)

abbrev pub room : Option Place → ℕ → Type 0
room None n = Unit {0}
room (Some from) n = length from.pattern.now ≤ n

-- the search so far: the whole matches exactly where what is left does, or what stands behind the last `*` does further on
pub record IsSearch (start at : Place) (retry : Option Place) : Type 0 where
  pub same : fits start ≡ (fits at || again retry)
  pub behind : IsBehindLast retry at
  pub shorter : length at.pattern.now ≤ length start.pattern.now
  pub bounded : room retry (length start.pattern.now)

-- an end that passes, by how much is left out before it
pub end-at : (passes : List ℕ → Bool) (t : List ℕ) → some_end passes t ≡ true → (k : ℕ) × (passes (drop k t) ≡ true)
end-at passes [] h = (0, h)
end-at passes (c ∷ cs) h = elim (or_cases (passes (c ∷ cs)) (some_end passes cs) h) [
  | inl here ↦ (0, here)
  | inr later ↦ let found = end-at passes cs later in (suc found.0, found.1)
]

pub end-from : (passes : List ℕ → Bool) (k : ℕ) (t : List ℕ) → passes (drop k t) ≡ true → some_end passes t ≡ true
end-from passes zero [] h = h
end-from passes (suc k) [] h = h
end-from passes zero (c ∷ cs) h = or_left (passes (c ∷ cs)) (some_end passes cs) h
end-from passes (suc k) (c ∷ cs) h = or_right (passes (c ∷ cs)) (some_end passes cs) (end-from passes k cs h)

later-at : (passes : List ℕ → Bool) (t : List ℕ) → some_later passes t ≡ true → (k : ℕ) × (passes (drop (suc k) t) ≡ true)
later-at passes [] h = absurd (false≢true h)
later-at passes (c ∷ cs) h = end-at passes cs h

-- all ends are the whole and the later ones
some_end-split : (passes : List ℕ → Bool) (t : List ℕ) → some_end passes t ≡ (passes t || some_later passes t)
some_end-split passes [] = sym (or-false (passes []))
some_end-split passes (c ∷ cs) = refl

-- what more follows is not empty
pub more-follows : (cs : List ℕ) (d : ℕ) (ps : List ℕ) → is_empty (cs ++ d ∷ ps) ≡ false
more-follows [] d ps = refl
more-follows (c ∷ cs) d ps = refl

literal-before : (c : ℕ) (cs ps : List ℕ) → c ≢ 42 → IsLiteralAt c (cs ++ 42 ∷ ps)
literal-before c cs ps literal = (ne_eqb c 42 literal, and_right (eqb c 36) _ (more-follows cs 42 ps))

-- octets before a `*` are met by as many octets
skip : (met ps s : List ℕ) → AreLiteral met → matches (met ++ 42 ∷ ps) s ≡ true → some_end (matches ps) (drop (length met) s) ≡ true
skip [] ps s literal h = sym (matches-star ps s) ∙ h
skip (c ∷ cs) ps [] literal h =
    absurd (false≢true (sym (matches-one c (cs ++ 42 ∷ ps) [] (literal-before c cs ps literal.0)) ∙ h))
skip (c ∷ cs) ps (d ∷ ds) literal h =
    skip cs ps ds literal.1 (and_parts (eqb c d) (matches (cs ++ 42 ∷ ps) ds) (sym (matches-one c (cs ++ 42 ∷ ps) (d ∷ ds) (literal-before c cs ps literal.0)) ∙ h)).1

-- Behind a later `*` nothing of an earlier one is needed: where the pattern matches with the earlier `*` standing
-- for more, it matches as well with the later one standing for more.
forget : (met ps t : List ℕ) → AreLiteral met → some_later (matches (met ++ 42 ∷ ps)) (met ++ t) ≡ true → some_end (matches ps) t ≡ true
forget met ps t literal h =
    let later = later-at (matches (met ++ 42 ∷ ps)) (met ++ t) h in
    let k = suc later.0 in
    let met_end = skip met ps (drop k (met ++ t)) literal later.1 in
    let same : drop (length met) (drop k (met ++ t)) ≡ drop k t =
    drop-drop (length met) k (met ++ t) ∙ ap (λ n. drop n (met ++ t)) (omega arith) ∙ drop-append-add met t k
    in
    let last = end-at (matches ps) (drop k t) (subst (λ u. some_end (matches ps) u ≡ true) same met_end) in
    end-from (matches ps) (k + last.0) t (subst (λ u. matches ps u ≡ true) (drop-drop last.0 k t) last.1)

forget_last : (retry : Option Place) (at next : Place) → IsBehindLast retry at → IsPastStar at next → again retry ≡ true → some_end (matches next.pattern.now) (octets_left next.path) ≡ true
forget_last None at next behind past h = absurd (false≢true h)
forget_last (Some from) at next (met, behind) past h =
    let ps = next.pattern.now in
    let t = octets_left next.path in
    let pattern : from.pattern.now ≡ met ++ 42 ∷ ps = behind.pattern ∙ ap (λ u. met ++ u) past.pattern in
    let path : octets_left from.path ≡ met ++ t = behind.path ∙ ap (λ u. met ++ u) past.path in
    forget met ps t behind.literal
    (subst (λ u. some_later (matches (met ++ 42 ∷ ps)) u ≡ true) path
    (subst (λ u. some_later (matches u) (octets_left from.path) ≡ true) pattern h))

absorbed : (x y : Bool) → (y ≡ true → x ≡ true) → (x || y) ≡ x
absorbed x true h = sym (h refl ∙ sym (or-true x))
absorbed x false h = or-false x

fits-star : (at next : Place) → IsPastStar at next → fits at ≡ some_end (matches next.pattern.now) (octets_left next.path)
fits-star at next past =
    ap (λ u. matches u (octets_left at.path)) past.pattern
    ∙ matches-star next.pattern.now (octets_left at.path)
    ∙ ap (some_end (matches next.pattern.now)) past.path

-- the search goes on behind a `*`, and forgets the one before
pub search-star : (start at next : Place) (retry : Option Place) → IsSearch start at retry → IsPastStar at next → IsSearch start next (Some next)
search-star start at next retry h past =
    let whole = some_end (matches next.pattern.now) (octets_left next.path) in
    let fewer : length next.pattern.now ≤ length start.pattern.now = omega (arith, h.shorter, ap length past.pattern) in
    record {
      same =
          h.same ∙ ap (λ b. b || again retry) (fits-star at next past)
          ∙ absorbed whole (again retry) (forget_last retry at next h.behind past)
          ∙ some_end-split (matches next.pattern.now) (octets_left next.path);
      behind = ([], record { literal = tt; pattern = refl; path = refl });
      shorter = fewer;
      bounded = fewer;
    }

literal-push : (met : List ℕ) (c : ℕ) → AreLiteral met → c ≢ 42 → AreLiteral (met ++ c ∷ [])
literal-push [] c literal h = (h, tt)
literal-push (d ∷ met) c literal h = (literal.0, literal-push met c literal.1 h)

behind-next : (retry : Option Place) (at next : Place) (c : ℕ) → IsBehindLast retry at → IsPast at next c → IsBehindLast retry next
behind-next None at next c behind past = tt
behind-next (Some from) at next c (met, behind) past = (
  met ++ c ∷ [],
  record {
    literal = literal-push met c behind.literal past.literal;
    pattern = behind.pattern ∙ ap (λ u. met ++ u) past.pattern ∙ sym (append_assoc met (c ∷ []) next.pattern.now);
    path = behind.path ∙ ap (λ u. met ++ u) past.path ∙ sym (append_assoc met (c ∷ []) (octets_left next.path));
  },
)

-- the search goes on behind an octet that was met
pub search-next : (start at next : Place) (retry : Option Place) (c : ℕ) → IsSearch start at retry → IsPast at next c → IsSearch start next retry
search-next start at next retry c h past = record {
  same = h.same ∙ ap (λ b. b || again retry) past.same;
  behind = behind-next retry at next c h.behind past;
  shorter = omega (arith, h.shorter, ap length past.pattern);
  bounded = h.bounded;
}
