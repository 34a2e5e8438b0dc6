-- What was asked, with its places, and verdicts put in their places.
use Rattle.std.proofs.Common.{◌≡◌, ◌≢◌, ◌∙◌, ℕ, zero, suc, ◌+◌, ◌<◌, List, [], ◌∷◌, ◌++◌, map, length, take, get_or, set, None, Option, Bool, true, false, refl, sym, ap, arith, length-take, get_or-set_same, get_or-set_other}
use Rattle.std.specs.Prelude.{nat_eq, not, ◌&&◌}
use Rattle.std.specs.List.{All, filter}
use Rattle.std.specs.List.Sorted.{IsStableByKey}
use Rattle.std.specs.Ordering.{nat_cmp, is_lt}
use Rattle.std.proofs.lemmas.Bool.Decides.{nat_tests}
use Rattle.std.proofs.lemmas.List.{length-map, map-append, take_more}
use Rattle.std.proofs.lemmas.List.Elements.{filter_agree}
use Rattle.irl_offer.specs.declared.offer.Verdict.{Verdict}
use Rattle.irl_offer.specs.declared.offer.Op.TheVariants.{Check}
use Rattle.irl_offer.specs.declared.entry.Entry.{Entry}
use Rattle.irl_offer.specs.Tuple.{Tuple}
use Rattle.irl_merge.specs.declared.query.Query.{Query}
use Rattle.irl_merge.specs.Queries.{AreEntriesOf, AreTold, bare, bare_entry, numbered}

pub length-numbered : (place : ℕ) (os : List Tuple) → length (numbered place os) ≡ length os
length-numbered place [] = refl
length-numbered place (o ∷ os) = ap (λ (n : ℕ). suc n) (length-numbered (place + 1) os)

pub place_at : (place : ℕ) (os : List Tuple) (i : ℕ) (d : Query) → i < length os → (get_or (numbered place os) i d).place ≡ place + i
place_at place [] i d lt = absurd (omega arith)
place_at place (o ∷ os) zero d lt = omega arith
place_at place (o ∷ os) (suc i) d lt = omega (arith, place_at (place + 1) os i d (omega arith))

-- ---- entries ask what their offers ask
pub numbered_bare : (place : ℕ) (os : List Tuple) → numbered place (map bare os) ≡ numbered place os
numbered_bare place [] = refl
numbered_bare place (o ∷ os) = ap (λ (xs : List Query). record { key = o.key; place = place; op = o.op; value = o.value } ∷ xs) (numbered_bare (place + 1) os)

pub numbered_entries : (offers : List Tuple) (entries : List Entry) → AreEntriesOf offers entries → numbered 0 (map bare_entry entries) ≡ numbered 0 offers
numbered_entries offers entries h = ap (numbered 0) h ∙ numbered_bare 0 offers

pub length_entries : (offers : List Tuple) (entries : List Entry) → AreEntriesOf offers entries → length entries ≡ length offers
length_entries offers entries h = sym (length-map entries bare_entry) ∙ ap length h ∙ length-map offers bare

-- ---- one entry more
numbered_more : (place n : ℕ) (os : List Tuple) (o : Tuple) → place + length os ≡ n
    → numbered place (os ++ o ∷ []) ≡ numbered place os ++ record { key = o.key; place = n; op = o.op; value = o.value } ∷ []
numbered_more place n [] o e = ap (λ (p : ℕ). record { key = o.key; place = p; op = o.op; value = o.value } ∷ []) (omega (arith, e))
numbered_more place n (x ∷ os) o e = ap (λ (xs : List Query). record { key = x.key; place = place; op = x.op; value = x.value } ∷ xs) (numbered_more (place + 1) n os o (omega (arith, e)))

pub numbered_entry : (entries : List Entry) (i : ℕ) (d : Entry) → i < length entries
    → numbered 0 (map bare_entry (take i entries)) ++ record { key = (get_or entries i d).key; place = i; op = (get_or entries i d).op; value = (get_or entries i d).value }
    ∷ [] ≡ numbered 0 (map bare_entry (take (i + 1) entries))
numbered_entry entries i d lt =
    let long : 0 + length (map bare_entry (take i entries)) ≡ i = omega (arith, length-map (take i entries) bare_entry, length-take i entries) in
    sym (ap (λ (es : List Entry). numbered 0 (map bare_entry es)) (take_more entries i d lt)
    ∙ ap (numbered 0) (map-append bare_entry (take i entries) (get_or entries i d ∷ []))
    ∙ numbered_more 0 i (map bare_entry (take i entries)) (bare_entry (get_or entries i d)) long)

-- ---- a stable sort by key
ties_eq : (key k : ℕ) → (not (is_lt (nat_cmp key k)) && not (is_lt (nat_cmp k key))) ≡ nat_eq key k
ties_eq key k = grind (arith, nat_tests)

pub by_key : (old new : List Query) → IsStableByKey (λ (a : Query). a.key) nat_cmp old new → (key : ℕ) → filter (λ (a : Query). nat_eq key a.key) new ≡ filter (λ (a : Query). nat_eq key a.key) old
by_key old new stable key =
    let like : Query = record { key = key; place = 0; op = Check; value = 0 } in
    let agree = filter_agree (λ (a : Query). nat_eq key a.key) (λ (a : Query). not (is_lt (nat_cmp key a.key)) && not (is_lt (nat_cmp a.key key))) (λ a. sym (ties_eq key a.key)) in
    agree new ∙ stable like ∙ sym (agree old)

pub places_below : (os : List Tuple) → All (λ (a : Query). a.place < length os) (numbered 0 os)
places_below os k d lt = omega (arith, place_at 0 os k d (omega (arith, length-numbered 0 os)), length-numbered 0 os)

-- ---- one verdict more is put in its place
any_default : (xs : List Query) (i : ℕ) (d e : Query) → i < length xs → get_or xs i d ≡ get_or xs i e
any_default [] i d e lt = absurd (omega arith)
any_default (a ∷ xs) zero d e lt = refl
any_default (a ∷ xs) (suc i) d e lt = any_default xs i d e (omega arith)

same_from : (a b : ℕ) → nat_eq a b ≡ true → a ≡ b
same_from a b e = grind (arith, nat_tests)

other_from : (a b : ℕ) → nat_eq a b ≡ false → a ≢ b
other_from a b e = grind (arith, nat_tests)

put_same : (told : List (Option Verdict)) (p q : ℕ) (v : Option Verdict) → q ≡ p → p < length told → get_or (set told p v) q None ≡ v
put_same told p q v e lt = ap (λ (k : ℕ). get_or (set told p v) k None) e ∙ get_or-set_same told p v None lt

pub placed_more : (asked : List Query) (verdicts right told : List (Option Verdict)) (i : ℕ) (e : Query) → i < length asked → (get_or asked i e).place < length told → AreTold asked verdicts right
    → ((j : ℕ) (d : Query) → j < i → get_or told (get_or asked j d).place None ≡ get_or verdicts j None)
    → (j : ℕ) (d : Query) → j < i + 1 → get_or (set told (get_or asked i e).place (get_or verdicts i None)) (get_or asked j d).place None ≡ get_or verdicts j None
placed_more asked verdicts right told i e lt within is before j d below =
    let p = (get_or asked i e).place in
    let q = (get_or asked j d).place in
    let v = get_or verdicts i None in
    elim (nat_eq q p) as (λ (b : Bool). nat_eq q p ≡ b → get_or (set told p v) q None ≡ get_or verdicts j None) [
      | true ↦ λ t.
          let same = same_from q p t in
          put_same told p q v same within ∙ sym (is i e lt) ∙ ap (λ (k : ℕ). get_or right k None) (sym same) ∙ is j d (omega arith)
      | false ↦ λ t.
          let apart = other_from q p t in
          let not_last : j ≢ i = λ (s : j ≡ i). apart (ap (λ (k : ℕ). (get_or asked k d).place) s ∙ ap (λ (a : Query). a.place) (any_default asked i d e lt)) in
          get_or-set_other told p q v None apart ∙ before j d (omega arith)
    ] refl

-- an entry, for places past a list's end
abbrev pub no_entry : Entry
no_entry = record { op = Check; aux_len = 0; key = 0; value = 0; from = 0 }

-- an asking, likewise
abbrev pub nothing : Query
nothing = record { key = 0; place = 0; op = Check; value = 0 }
