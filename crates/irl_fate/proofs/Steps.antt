-- What `Fates` keeps, after each of its steps.
use Rattle.std.proofs.Common.{◌≡◌, ◌∙◌, ℕ, ◌+◌, ◌<◌, ◌≤◌, List, [], ◌∷◌, ◌++◌, map, length, get_or, set, sym, ap, arith, refl, Bool, true, false, inl, inr, subst}
use Rattle.std.specs.Prelude.{◌&&◌, nat_eq}
use Rattle.std.specs.List.{list_all}
use Rattle.std.proofs.lemmas.Bool.{cases_lt, cases_eq, and_parts, eq-eqb, eqb-true, cond-true, cond-false, false≢true}
use Rattle.std.proofs.lemmas.List.Folds.{list_any_at}
use Rattle.std.proofs.lemmas.List.{get_or-set_same, get_or-set_other, get_or-replicate, get_or_past}
use Rattle.irl_offer.specs.declared.outcome.Outcome.{Outcome}
use Rattle.irl_offer.specs.declared.place.Place.{Place}
use Rattle.irl_base.specs.Lists.{list_at}
use Rattle.irl_events.specs.Queues.{delivered, empty_lists}
use Rattle.irl_events.specs.Events.{Progress, Pass, has_number, numbers_of}
use Rattle.irl_events.specs.Legal.{are_read, is_slot_within, passes_on}
use Rattle.irl_fate.specs.declared.fate.Fate.{Fate}
use Rattle.irl_fate.specs.declared.fate.Fate.TheVariants.{Fresh, Queue, Last, Front, Done}
use Rattle.irl_fate.specs.Kept.{fate_in, is_front, is_listed, is_done, FitsFate, count, one_if, outcome_of, outcome_at, Agree, front_left, placed_by}
use Rattle.irl_fate.proofs.Counting.{filter_all, filter_same}
use Rattle.irl_fate.proofs.Agreeing.{in_front, in_list, same_fates, cleared, take_out, turned, turn_front}
use Rattle.irl_fate.proofs.Reading.{Clear, clear_read, front_places, put_places, placed_none, placed_same, read_absent, read_whole, delivered_before, delivered_after}

pub one_most : (b : Bool) → one_if b ≤ 1
one_most true = omega arith
one_most false = omega arith

-- ---- other entries with the same fates
pub same_left : (old new : List (ℕ × Fate)) (front : List ℕ) → ((q : ℕ) → fate_in new q ≡ fate_in old q) → front_left new front ≡ front_left old front
same_left old new front h =
    filter_same (λ n. is_front (fate_in new n)) (λ n. is_front (fate_in old n)) front (λ n. ap is_front (h n))

-- ---- what the third rule says of a pass
pub record PassParts (x : Progress) (judged : ℕ) (places : List Place) : Type 0 where
  pub number : judged ≡ x.sent
  pub none : x.front ≡ []
  pub numbers : are_read (list_at x.waiting.lists x.waiting.passes) x.read judged (numbers_of places) ≡ true
  pub slots : list_all (λ s. is_slot_within (x.waiting.passes + 2) x.waiting.queues s.slot) places ≡ true

no_length : (xs : List ℕ) → length xs ≡ 0 → xs ≡ []
no_length [] e = refl
no_length (x ∷ xs) e = absurd (omega arith)

pub pass_parts : (x : Progress) (judged : ℕ) (places : List Place) → passes_on x (Pass judged) places ≡ true → PassParts x judged places
pass_parts x judged places h =
    let number = nat_eq judged x.sent in
    let none = nat_eq (length x.front) 0 in
    let numbers = are_read (list_at x.waiting.lists x.waiting.passes) x.read judged (numbers_of places) in
    let slots = list_all (λ s. is_slot_within (x.waiting.passes + 2) x.waiting.queues s.slot) places in
    let all = and_parts (number && none && numbers) slots h in
    let three = and_parts (number && none) numbers all.0 in
    let two = and_parts number none three.0 in
    record {
      number = eqb-true judged x.sent two.0;
      none = no_length x.front (eqb-true (length x.front) 0 two.1);
      numbers = three.1;
      slots = all.1;
    }

-- ---- a pass has read
module _ (old entered new : List (ℕ × Fate)) (front : List ℕ) (lists : List (List ℕ)) (done : List (ℕ × Outcome)) (places : List Place) (p j read judged : ℕ) where
  pub record Reads : Type 0 where
    pub agree : Agree (fate_in old) front lists done
    pub fresh : (n : ℕ) → read ≤ n → fate_in old n ≡ Fresh
    pub spent : (k : ℕ) → k < p → list_at lists k ≡ []
    pub none : front ≡ []
    pub below : p < 64
    pub most : j ≤ 64
    pub rises : read ≤ judged
    pub numbers : are_read (list_at lists p) read judged (numbers_of places) ≡ true
    pub slots : list_all (λ s. is_slot_within (p + 2) j s.slot) places ≡ true
    pub same : (q : ℕ) → fate_in entered q ≡ fate_in old q
    pub placed : (q : ℕ) → fate_in new q ≡ placed_by places q (fate_in entered q)

  within_queue : Reads → (n : ℕ) → has_number (list_at lists p) n ≡ true → n < read
  within_queue r n there = elim (cases_lt n read) [
    | inl lt ↦ lt
    | inr le ↦ absurd (false≢true (sym (in_list r.agree p n ∙ ap (is_listed p) (r.fresh n le)) ∙ there))
  ]

  not_queued : Reads → (n : ℕ) → read ≤ n → has_number (list_at lists p) n ≡ false
  not_queued r n le = in_list r.agree p n ∙ ap (is_listed p) (r.fresh n le)

  abbrev out : ℕ → Fate
  out = cleared (fate_in old) (list_at lists p)

  are_clear : Reads → Clear out places
  are_clear r =
      let queue : List ℕ = list_at lists p in
      clear_read (p + 2) j (omega arith) r.most out queue read judged places
      (λ n. let is : count n queue ≡ one_if (is_listed p (fate_in old n)) = r.agree.lists_are p n in omega (arith, one_most (is_listed p (fate_in old n))))
      (within_queue r)
      (λ n there. cond-true (has_number queue n) Fresh (fate_in old n) there)
      (λ n le. cond-false (has_number queue n) Fresh (fate_in old n) (not_queued r n le) ∙ r.fresh n le)
      r.numbers r.slots

  becomes : Reads → (q : ℕ) → fate_in new q ≡ placed_by places q (out q)
  becomes r q =
      r.placed q ∙ ap (placed_by places q) (r.same q)
      ∙ placed_same places q (fate_in old q) (out q) (λ none.
      sym (cond-false (has_number (list_at lists p) q) Fresh (fate_in old q) (read_whole (list_at lists p) read judged (numbers_of places) q r.numbers none)))

  abbrev pub after : List (List ℕ)
  after = delivered (set lists p []) (numbers_of places) places

  agreed : Reads → Agree (fate_in new) (front_places places) after done
  agreed r =
      same_fates (fate_in new) (becomes r)
      (subst (λ (t : List ℕ). Agree (λ q. placed_by places q (out q)) (t ++ front_places places) after done) r.none
      (put_places out front (set lists p []) done places (are_clear r) (take_out p (omega (arith, r.below)) r.agree)))

  -- all that the pass put into the front is there
  pub front_whole : Reads → front_left new (front_places places) ≡ front_places places
  front_whole r =
      filter_all (λ n. is_front (fate_in new n)) (front_places places) (λ n there. sym (in_front (agreed r) n) ∙ there)

  pub reads_agree : Reads → Agree (fate_in new) (front_left new (front_places places)) after done
  reads_agree r = subst (λ (t : List ℕ). Agree (fate_in new) t after done) (sym (front_whole r)) (agreed r)

  pub reads_fresh : Reads → (n : ℕ) → judged ≤ n → fate_in new n ≡ Fresh
  reads_fresh r n le =
      let none : has_number (numbers_of places) n ≡ false = read_absent (list_at lists p) read judged (numbers_of places) n r.numbers (not_queued r n (omega (arith, r.rises))) (inr le) in
      r.placed n ∙ placed_none places n (fate_in entered n) none ∙ r.same n ∙ r.fresh n (omega (arith, r.rises))

  pub reads_spent : Reads → (k : ℕ) → k < p + 1 → list_at after k ≡ []
  reads_spent r k lt =
      let many = r.agree.many in
      let below : p < 64 = r.below in
      delivered_before (set lists p []) places (p + 2) j k r.slots (omega arith) (omega arith)
      ∙ elim (cases_eq k p) [
        | inl here ↦ ap (list_at (set lists p [])) here ∙ get_or-set_same lists p [] [] (omega arith)
        | inr other ↦ get_or-set_other lists p k [] [] other ∙ r.spent k (omega arith)
      ]

  pub reads_unused : Reads → ((k : ℕ) → j ≤ k → k < 64 → list_at lists k ≡ []) → p < j → (k : ℕ) → j ≤ k → k < 64 → list_at after k ≡ []
  reads_unused r unused round k le lt =
      delivered_after (set lists p []) places (p + 2) j k (omega arith) r.slots le lt
      ∙ get_or-set_other lists p k [] [] (λ e. omega arith) ∙ unused k le lt

-- ---- a round has ended
last_only : (v : Fate) → FitsFate v → is_listed 64 v ≡ true → v ≡ Last
last_only Fresh fits h = absurd (false≢true h)
last_only (Queue i) fits h =
    let at : 64 + 1 ≡ i = eqb-true (64 + 1) i h in
    let most : i ≤ 64 = fits.1 in
    absurd (omega arith)
last_only Last fits h = refl
last_only Front fits h = absurd (false≢true h)
last_only (Done o) fits h = absurd (false≢true h)

pub at_last : (f : ℕ → Fate) (front : List ℕ) (lists : List (List ℕ)) (done : List (ℕ × Outcome)) (n : ℕ) → Agree f front lists done → has_number (list_at lists 64) n ≡ true → f n ≡ Last
at_last f front lists done n a there = last_only (f n) (a.fits n) (sym (in_list a 64 n) ∙ there)

pub has_at : (xs : List ℕ) (i : ℕ) → i < length xs → has_number xs (get_or xs i 0) ≡ true
has_at xs i lt = list_any_at (λ m. nat_eq m (get_or xs i 0)) xs i 0 lt (eq-eqb (get_or xs i 0) (get_or xs i 0) refl)

pub all_last : (f : ℕ → Fate) (front : List ℕ) (lists : List (List ℕ)) (done : List (ℕ × Outcome)) → Agree f front lists done → (i : ℕ) → i < length (list_at lists 64)
    → f (get_or (list_at lists 64) i 0) ≡ Last
all_last f front lists done a i lt = at_last f front lists done _ a (has_at (list_at lists 64) i lt)

pub turned_left : (old new : List (ℕ × Fate)) (front kept : List ℕ) (lists : List (List ℕ)) (done : List (ℕ × Outcome)) → Agree (fate_in old) kept lists done
    → ((q : ℕ) → fate_in new q ≡ turned (fate_in old) (list_at lists 64) q) → front_left new front ≡ front_left old front
turned_left old new front kept lists done a h =
    filter_same (λ n. is_front (fate_in new n)) (λ n. is_front (fate_in old n)) front (λ n. ap is_front (h n) ∙ turn_front a n)

pub turned_fresh : (f : ℕ → Fate) (front : List ℕ) (lists : List (List ℕ)) (done : List (ℕ × Outcome)) (n : ℕ) → Agree f front lists done → f n ≡ Fresh → turned f (list_at lists 64) n ≡ Fresh
turned_fresh f front lists done n a fresh =
    cond-false (has_number (list_at lists 64) n) (Queue 1) (f n) (in_list a 64 n ∙ ap (is_listed 64) fresh) ∙ fresh

-- ---- before all
pub none_fresh : (entries : List (ℕ × Fate)) → entries ≡ [] → (n : ℕ) → 0 ≤ n → fate_in entries n ≡ Fresh
none_fresh entries e n le = ap (λ (t : List (ℕ × Fate)). fate_in t n) e

pub empty_at : (k : ℕ) → list_at {X = ℕ} empty_lists k ≡ []
empty_at k = elim (cases_lt k 65) [
  | inl lt ↦ get_or-replicate 65 k [] [] lt
  | inr le ↦ let many : length (empty_lists {X = ℕ}) ≡ 65 = refl in get_or_past empty_lists k [] (omega arith)
]

pub none_agree : (entries : List (ℕ × Fate)) (front : List ℕ) (lists : List (List ℕ)) (done : List (ℕ × Outcome)) → entries ≡ [] → front ≡ [] → lists ≡ empty_lists → done ≡ []
    → Agree (fate_in entries) (front_left entries front) lists done
none_agree entries front lists done none no_front no_lists no_done =
    let fresh = λ (n : ℕ). none_fresh entries none n (omega arith) in
    record {
      front_is = λ n. ap (λ (t : List ℕ). count n (front_left entries t)) no_front ∙ sym (ap (λ (v : Fate). one_if (is_front v)) (fresh n));
      lists_are = λ k n. ap (count n) (ap (λ (t : List (List ℕ)). list_at t k) no_lists ∙ empty_at k) ∙ sym (ap (λ (v : Fate). one_if (is_listed k v)) (fresh n));
      done_is = λ n. ap (λ (t : List (ℕ × Outcome)). outcome_of t n) no_done ∙ sym (ap outcome_at (fresh n));
      done_once = λ n. ap (λ (t : List (ℕ × Outcome)). count n (map (λ d. d.0) t)) no_done ∙ sym (ap (λ (v : Fate). one_if (is_done v)) (fresh n));
      fits = λ n. subst FitsFate (sym (fresh n)) tt;
      many = ap length no_lists;
    }
