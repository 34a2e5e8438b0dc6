-- The fates of numbers after one more change.
use Rattle.std.proofs.Common.{◌≡◌, ◌∙◌, ℕ, ◌+◌, ◌<◌, zero, suc, List, [], ◌∷◌, ◌++◌, map, length, get_or, take, sym, ap, arith, refl, Bool, true, false, cond, not, inl, inr, subst}
use Rattle.std.specs.Prelude.{◌||◌, nat_eq}
use Rattle.std.specs.List.{list_all}
use Rattle.std.proofs.lemmas.Bool.{cases_Bool, and_parts, or_parts, or_from, ne_eqb, eqb-true, eqb-false, not-true}
use Rattle.std.proofs.lemmas.List.{take_more}
use Rattle.std.proofs.lemmas.List.Folds.{list_any_more}
use Rattle.irl_offer.specs.declared.outcome.Outcome.{Outcome}
use Rattle.irl_offer.specs.declared.place.Place.{Place}
use Rattle.irl_events.specs.Events.{has_number}
use Rattle.irl_events.specs.Legal.{are_distinct}
use Rattle.irl_fate.specs.declared.fate.Fate.{Fate}
use Rattle.irl_fate.specs.declared.fate.Fate.TheVariants.{Fresh, Queue, Last, Done}
use Rattle.irl_fate.specs.Fates.{done_by}
use Rattle.irl_fate.specs.Kept.{fate_in, is_front, HasEntry, placed_by, fate_of_slot}
use Rattle.irl_fate.proofs.Entries.{entry_of}

pub last_fresh : Last ≡ Fresh → ⊥
last_fresh e = cc

pub queue_fresh : (i : ℕ) → Queue i ≡ Fresh → ⊥
queue_fresh i e = cc

pub front_fresh : (f : Fate) → is_front f ≡ true → f ≡ Fresh → ⊥
front_fresh f h e = let g : is_front Fresh ≡ true = subst (λ (x : Fate). is_front x ≡ true) e h in cc

-- ---- the last list
-- a number of the list is last before, and in queue 1 after
pub moved_entry : (entries old : List (ℕ × Fate)) (last : List ℕ) (i n : ℕ) → fate_in entries n ≡ cond (has_number (take i last) n) (Queue 1) (fate_in old n) → fate_in old n ≡ Last
    → HasEntry entries n
moved_entry entries old last i n is before = entry_of entries n (λ e. elim (cases_Bool (has_number (take i last) n)) [
  | inl in_it ↦ queue_fresh 1 (sym (is ∙ ap (λ b. cond b (Queue 1) (fate_in old n)) in_it) ∙ e)
  | inr out_of_it ↦ last_fresh (sym (is ∙ ap (λ b. cond b (Queue 1) (fate_in old n)) out_of_it ∙ before) ∙ e)
])

two_conds : (a b : Bool) (x y : Fate) → cond b x (cond a x y) ≡ cond (a || b) x y
two_conds true true x y = refl
two_conds true false x y = refl
two_conds false true x y = refl
two_conds false false x y = refl

pub moved_more : (last : List ℕ) (i d q : ℕ) (f : Fate) → i < length last → cond (nat_eq (get_or last i d) q) (Queue 1) (cond (has_number (take i last) q) (Queue 1) f)
    ≡ cond (has_number (take (i + 1) last) q) (Queue 1) f
moved_more last i d q f lt =
    two_conds (has_number (take i last) q) (nat_eq (get_or last i d) q) (Queue 1) f
    ∙ ap (λ b. cond b (Queue 1) f) (sym (list_any_more (λ m. nat_eq m q) last i d lt))

-- ---- places
placed_last : (places : List Place) (x : Place) (q : ℕ) (f : Fate) → placed_by (places ++ x ∷ []) q f ≡ cond (nat_eq x.number q) (fate_of_slot x.slot) (placed_by places q f)
placed_last [] x q f = refl
placed_last (place ∷ places) x q f = placed_last places x q (cond (nat_eq place.number q) (fate_of_slot place.slot) f)

pub placed_more : (places : List Place) (i : ℕ) (d : Place) (q : ℕ) (f : Fate) → i < length places
    → cond (nat_eq (get_or places i d).number q) (fate_of_slot (get_or places i d).slot) (placed_by (take i places) q f) ≡ placed_by (take (i + 1) places) q f
placed_more places i d q f lt =
    sym (placed_last (take i places) (get_or places i d) q f) ∙ ap (λ (t : List Place). placed_by t q f) (sym (take_more places i d lt))

-- ---- outcomes
abbrev pub numbers_done : List (ℕ × Outcome) → List ℕ
numbers_done outcomes = map (λ d. d.0) outcomes

done_last : (outcomes : List (ℕ × Outcome)) (d : ℕ × Outcome) (q : ℕ) (f : Fate) → done_by (outcomes ++ d ∷ []) q f ≡ done_by outcomes q (cond (nat_eq d.0 q) (Done d.1) f)
done_last [] d q f = refl
done_last (o ∷ outcomes) d q f = ap (cond (nat_eq o.0 q) (Done o.1)) (done_last outcomes d q f)

pub done_absent : (outcomes : List (ℕ × Outcome)) (q : ℕ) (f : Fate) → has_number (numbers_done outcomes) q ≡ false → done_by outcomes q f ≡ f
done_absent [] q f h = refl
done_absent (o ∷ outcomes) q f h =
    let parts = or_parts (nat_eq o.0 q) (has_number (numbers_done outcomes) q) h in
    ap (λ b. cond b (Done o.1) (done_by outcomes q f)) parts.0 ∙ done_absent outcomes q f parts.1

absent_at : (ns : List ℕ) (n k d : ℕ) → has_number ns n ≡ false → k < length ns → nat_eq n (get_or ns k d) ≡ false
absent_at [] n k d h lt = absurd (omega arith)
absent_at (m ∷ ns) n zero d h lt =
    let parts = or_parts (nat_eq m n) (has_number ns n) h in
    ne_eqb n m (λ e. eqb-false m n parts.0 (sym e))
absent_at (m ∷ ns) n (suc k) d h lt =
    absent_at ns n k d (or_parts (nat_eq m n) (has_number ns n) h).1 (omega arith)

pub distinct_at : (ns : List ℕ) (k d : ℕ) → are_distinct ns ≡ true → k < length ns → has_number (take k ns) (get_or ns k d) ≡ false
distinct_at [] k d h lt = absurd (omega arith)
distinct_at (n ∷ ns) zero d h lt = refl
distinct_at (n ∷ ns) (suc k) d h lt =
    let parts = and_parts (not (has_number ns n)) (are_distinct ns) h in
    or_from (nat_eq n (get_or ns k d)) (has_number (take k ns) (get_or ns k d))
    (absent_at ns n k d (not-true (has_number ns n) parts.0) (omega arith))
    (distinct_at ns k d parts.1 (omega arith))

-- one more outcome of a number that none before it has
pub done_more : (outcomes : List (ℕ × Outcome)) (i : ℕ) (d : ℕ × Outcome) (q : ℕ) (f : Fate) → i < length outcomes → has_number (numbers_done (take i outcomes)) (get_or outcomes i d).0 ≡ false
    → cond (nat_eq (get_or outcomes i d).0 q) (Done (get_or outcomes i d).1) (done_by (take i outcomes) q f) ≡ done_by (take (i + 1) outcomes) q f
done_more outcomes i d q f lt none =
    let o = get_or outcomes i d in
    let so_far = take i outcomes in
    let all : done_by (take (i + 1) outcomes) q f ≡ done_by so_far q (cond (nat_eq o.0 q) (Done o.1) f) =
    ap (λ (t : List (ℕ × Outcome)). done_by t q f) (take_more outcomes i d lt) ∙ done_last so_far o q f in
    elim (cases_Bool (nat_eq o.0 q)) [
      | inl in_it ↦
          let here : has_number (numbers_done so_far) q ≡ false = ap (has_number (numbers_done so_far)) (sym (eqb-true o.0 q in_it)) ∙ none in
          ap (λ b. cond b (Done o.1) (done_by so_far q f)) in_it
          ∙ sym (all ∙ ap (λ b. done_by so_far q (cond b (Done o.1) f)) in_it ∙ done_absent so_far q (Done o.1) here)
      | inr out_of_it ↦
          ap (λ b. cond b (Done o.1) (done_by so_far q f)) out_of_it ∙ sym (all ∙ ap (λ b. done_by so_far q (cond b (Done o.1) f)) out_of_it)
    ]

-- what holds of each of a list holds at a place
pub each_at : {X : Type 0} (p : X → Bool) (xs : List X) (i : ℕ) (d : X) → list_all p xs ≡ true → i < length xs → p (get_or xs i d) ≡ true
each_at p [] i d h lt = absurd (omega arith)
each_at p (x ∷ xs) zero d h lt = (and_parts (p x) (list_all p xs) h).0
each_at p (x ∷ xs) (suc i) d h lt = each_at p xs i d (and_parts (p x) (list_all p xs) h).1 (omega arith)
