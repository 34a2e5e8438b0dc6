-- The fresh numbers of a pass get entries behind the others.
use Rattle.std.proofs.Common.{◌≡◌, ◌≢◌, ◌∙◌, ℕ, ◌+◌, ◌<◌, ◌≤◌, List, [], ◌∷◌, ◌++◌, length, get_or, take, drop, sym, ap, arith, refl, Bool, true, false, inl, inr, append_assoc}
use Rattle.std.specs.Prelude.{◌&&◌, ◌||◌, nat_eq, nat_le, nat_lt}
use Rattle.std.specs.List.{list_all}
use Rattle.std.proofs.lemmas.Bool.{and_parts, and_from, or_cases, or_left, or_right, eqb-true, leb-true, ltb-true, le-leb, lt-ltb, false≢true}
use Rattle.std.proofs.lemmas.List.{map-append, take_more, get_or-map, length-map}
use Rattle.irl_offer.specs.declared.outcome.Outcome.{Outcome}
use Rattle.irl_offer.specs.declared.place.Place.{Place}
use Rattle.irl_base.specs.Lists.{list_at}
use Rattle.irl_events.specs.Events.{has_number, numbers_of}
use Rattle.irl_events.specs.Legal.{are_rising, are_read, is_slot_within}
use Rattle.irl_fate.specs.declared.fate.Fate.{Fate}
use Rattle.irl_fate.specs.declared.fate.Fate.TheVariants.{Fresh}
use Rattle.irl_fate.specs.Kept.{fate_in, numbers_in, is_listed, Agree}
use Rattle.irl_fate.proofs.Agreeing.{in_list}
use Rattle.irl_fate.proofs.Entries.{entry_of}
use Rattle.irl_fate.proofs.Reading.{slot_fits}
use Rattle.irl_fate.proofs.Steps.{has_at}
use Rattle.irl_fate.proofs.Totals.{AllFit}

-- one entry more
pub entered_more : (l : List (ℕ × Fate)) (olds : List ℕ) (places : List Place) (i : ℕ) (d : Place) → i < length places → numbers_in l ≡ olds ++ numbers_of (take i places)
    → numbers_in (l ++ ((get_or places i d).number, Fresh) ∷ []) ≡ olds ++ numbers_of (take (i + 1) places)
entered_more l olds places i d lt so_far =
    let n = (get_or places i d).number in
    map-append (λ (e : ℕ × Fate). e.0) l ((n, Fresh) ∷ []) ∙ ap (λ (t : List ℕ). t ++ n ∷ []) so_far
    ∙ append_assoc olds (numbers_of (take i places)) (n ∷ [])
    ∙ ap (λ (t : List ℕ). olds ++ t) (sym (ap numbers_of (take_more places i d lt) ∙ map-append (λ (p : Place). p.number) (take i places) (get_or places i d ∷ [])))

-- ---- numbers that rise, behind others
pub rising_from : (from least to : ℕ) (ns : List ℕ) → are_rising least to ns ≡ true → from ≤ least → are_rising from to ns ≡ true
rising_from from least to [] h le = refl
rising_from from least to (n ∷ ns) h le =
    let parts = and_parts (nat_le least n && nat_lt n to) (are_rising (n + 1) to ns) h in
    let bounds = and_parts (nat_le least n) (nat_lt n to) parts.0 in
    let low : least ≤ n = leb-true least n bounds.0 in
    and_from (nat_le from n && nat_lt n to) (are_rising (n + 1) to ns) (and_from (nat_le from n) (nat_lt n to) (le-leb from n (omega arith)) bounds.1) parts.1

pub rising_append : (from mid to : ℕ) (ns ms : List ℕ) → are_rising from mid ns ≡ true → are_rising mid to ms ≡ true → from ≤ mid → mid ≤ to → are_rising from to (ns ++ ms) ≡ true
rising_append from mid to [] ms h g le most = rising_from from mid to ms g le
rising_append from mid to (n ∷ ns) ms h g le most =
    let parts = and_parts (nat_le from n && nat_lt n mid) (are_rising (n + 1) mid ns) h in
    let bounds = and_parts (nat_le from n) (nat_lt n mid) parts.0 in
    let high : n < mid = ltb-true n mid bounds.1 in
    and_from (nat_le from n && nat_lt n to) (are_rising (n + 1) to (ns ++ ms))
    (and_from (nat_le from n) (nat_lt n to) bounds.0 (lt-ltb n to (omega arith)))
    (rising_append (n + 1) mid to ns ms parts.1 g (omega arith) most)

-- ---- what is read is the queue, and fresh numbers behind it
pub record Split (queue : List ℕ) (from to : ℕ) (ns : List ℕ) : Type 0 where
  pub whole : ns ≡ queue ++ drop (length queue) ns
  pub fresh : are_rising from to (drop (length queue) ns) ≡ true
  pub long : length queue ≤ length ns

pub read_split : (queue : List ℕ) (from to : ℕ) (ns : List ℕ) → are_read queue from to ns ≡ true → Split queue from to ns
read_split [] from to ns h = record { whole = refl; fresh = h; long = omega arith }
read_split (q ∷ queue) from to [] h = absurd (false≢true h)
read_split (q ∷ queue) from to (n ∷ ns) h =
    let parts = and_parts (nat_eq q n) (are_read queue from to ns) h in
    let rest = read_split queue from to ns parts.1 in
    record {
      whole = ap (λ m. m ∷ ns) (sym (eqb-true q n parts.0)) ∙ ap (λ (t : List ℕ). q ∷ t) rest.whole;
      fresh = rest.fresh;
      long = omega (arith, rest.long);
    }

has_both : (xs ys : List ℕ) (n : ℕ) → has_number (xs ++ ys) n ≡ (has_number xs n || has_number ys n)
has_both [] ys n = refl
has_both (x ∷ xs) ys n = ap (λ b. nat_eq x n || b) (has_both xs ys n) ∙ or_assoc (nat_eq x n) (has_number xs n) (has_number ys n)
  where
    or_assoc : (a b c : Bool) → (a || (b || c)) ≡ ((a || b) || c)
    or_assoc true b c = refl
    or_assoc false b c = refl

not_fresh : (k : ℕ) (f : Fate) → is_listed k f ≡ true → f ≢ Fresh
not_fresh k f h e = false≢true (sym (ap (is_listed k) e) ∙ h)

-- each number that is read has an entry then
pub read_entered : (old : List (ℕ × Fate)) (front : List ℕ) (lists : List (List ℕ)) (done : List (ℕ × Outcome)) (p from to : ℕ) (places : List Place) (numbers : List ℕ)
    → Agree (fate_in old) front lists done → are_read (list_at lists p) from to (numbers_of places) ≡ true → numbers ≡ numbers_in old ++ drop (length (list_at lists p)) (numbers_of places)
    → (i : ℕ) (d : Place) → i < length places → has_number numbers (get_or places i d).number ≡ true
read_entered old front lists done p from to places numbers agree read is i d lt =
    let queue : List ℕ = list_at lists p in
    let ns = numbers_of places in
    let fresh = drop (length queue) ns in
    let within : i < length ns = omega (arith, length-map places (λ (q : Place). q.number)) in
    let n = get_or ns i 0 in
    let here : n ≡ (get_or places i d).number = get_or-map (λ (q : Place). q.number) places i d 0 lt in
    let there : (has_number queue n || has_number fresh n) ≡ true =
    sym (has_both queue fresh n) ∙ ap (λ (t : List ℕ). has_number t n) (sym (read_split queue from to ns read).whole) ∙ has_at ns i within in
    let entered : (has_number (numbers_in old) n || has_number fresh n) ≡ true =
    elim (or_cases (has_number queue n) (has_number fresh n) there) [
      | inl queued ↦
          or_left (has_number (numbers_in old) n) (has_number fresh n)
          (entry_of old n (not_fresh p (fate_in old n) (sym (in_list agree p n) ∙ queued)))
      | inr new ↦ or_right (has_number (numbers_in old) n) (has_number fresh n) new
    ] in
    ap (λ (m : ℕ). has_number numbers m) (sym here)
    ∙ ap (λ (t : List ℕ). has_number t n) is ∙ has_both (numbers_in old) fresh n ∙ entered

pub all_fit : (from to : ℕ) (places : List Place) → 1 ≤ from → to ≤ 64 → list_all (λ p. is_slot_within from to p.slot) places ≡ true → AllFit places
all_fit from to [] least most h = tt
all_fit from to (place ∷ places) least most h =
    let parts = and_parts (is_slot_within from to place.slot) (list_all (λ p. is_slot_within from to p.slot) places) h in
    (slot_fits from to place.slot least most parts.0, all_fit from to places least most parts.1)
