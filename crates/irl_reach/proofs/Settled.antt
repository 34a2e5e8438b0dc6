-- What events settle is what is done.
use Rattle.std.proofs.Common.{◌≡◌, ◌∙◌, ℕ, ◌+◌, ◌≤◌, nat_eq, Bool, true, false, cond, ◌||◌, List, [], ◌∷◌, ◌++◌, map, refl, sym, ap, subst, arith, append_assoc, ◌⊎◌, inl, inr}
use Rattle.std.specs.List.{Contains}
use Rattle.std.proofs.lemmas.Bool.{eq-eqb, eqb-true}
use Rattle.std.proofs.lemmas.List.{append-nil}
use Rattle.irl_key.specs.Key.{key_of}
use Rattle.irl_core.proofs.Opened.{opened_kept}
use Rattle.irl_core.proofs.StateLemmas.{legal_stored}
use Rattle.irl_core.proofs.Stores.{alike_steps}
use Rattle.irl_core.specs.Steps.{unread, url_numbers}
use Rattle.irl_core.specs.Stores.{opened_core, steps_among}
use Rattle.irl_events.specs.Events.{Event, Begin, Pairs, Pass, Robots, Settle, Happened, Progress, after_event, after_events, before_all, has_number, progress}
use Rattle.irl_events.specs.State.{State}
use Rattle.irl_fate.proofs.Counting.{one_true}
use Rattle.irl_fate.proofs.Crawls.{crawl_once}
use Rattle.irl_fate.proofs.Fresh.{done_only}
use Rattle.irl_fate.specs.Fates.{done_by, fate_of, waits_from}
use Rattle.irl_fate.specs.Reads.{was_read}
use Rattle.irl_fate.specs.Standing.{count, one_if, stands}
use Rattle.irl_fate.specs.declared.fate.Fate.{Fate}
use Rattle.irl_fate.specs.declared.fate.Fate.TheVariants.{Fresh, Queue, Last, Front, Done}
use Rattle.irl_offer.specs.declared.outcome.Outcome.{Outcome}
use Rattle.irl_offer.specs.declared.place.Place.{Place}
use Rattle.irl_offer.specs.declared.settings.Settings.{Settings}
use Rattle.irl_reach.specs.Along.{outcomes_of, settled_in}
use Rattle.irl_reach.specs.Crawls.{IsCrawlStore, domain_of, numbers_in}
use Rattle.irl_reach.proofs.Members.{first_member, later_member, map_member, member_cases, no_member}

done_event : (x : Progress) (event : Event) (places : List Place) → (after_event x event places).done ≡ x.done ++ outcomes_of event
done_event x (Begin suffixes) places = sym (append-nil x.done)
done_event x (Pairs cuts judged pairs) places = sym (append-nil x.done)
done_event x (Pass judged) places = sym (append-nil x.done)
done_event x (Robots note) places = sym (append-nil x.done)
done_event x (Settle fronts outcomes) places = refl

done_after : (x : Progress) (events : List Happened) → (after_events x events).done ≡ x.done ++ settled_in events
done_after x [] = sym (append-nil x.done)
done_after x (h ∷ events) =
    done_after (after_event x h.0 h.1) events ∙ ap (λ ds. ds ++ settled_in events) (done_event x h.0 h.1) ∙ append_assoc x.done (outcomes_of h.0) (settled_in events)

pub done_are : (queues buckets : ℕ) (events : List Happened) → (progress queues buckets events).done ≡ settled_in events
done_are queues buckets events = done_after (before_all queues buckets) events

-- ---- a number that is done was settled
waits_done : (k : ℕ) (lists : List (List ℕ)) (n : ℕ) (other : Fate) (outcome : Outcome) → waits_from k lists n other ≡ Done outcome → other ≡ Done outcome
waits_done k [] n other outcome h = h
waits_done k (list ∷ lists) n other outcome h = by (has_number list n) (nat_eq k 64) (waits_done (k + 1) lists n other outcome) h
  where
    by : (b c : Bool) → (waits_from (k + 1) lists n other ≡ Done outcome → other ≡ Done outcome)
        → cond b (cond c Last (Queue (k + 1))) (waits_from (k + 1) lists n other) ≡ Done outcome → other ≡ Done outcome
    by true true later h = absurd (cc)
    by true false later h = absurd (cc)
    by false c later h = later h

front_done : (b : Bool) (other : Fate) (outcome : Outcome) → cond b Front other ≡ Done outcome → other ≡ Done outcome
front_done true other outcome h = absurd (cc)
front_done false other outcome h = h

came_member : (done : List (ℕ × Outcome)) (n : ℕ) (outcome : Outcome) → done_by done n Fresh ≡ Done outcome → Contains done (n, outcome)
came_member [] n outcome h = let no : Fresh ≡ Done outcome = h in absurd (cc)
came_member (d ∷ done) n outcome h = by (nat_eq d.0 n) refl (came_member done n outcome) h
  where
    by : (b : Bool) → nat_eq d.0 n ≡ b → (done_by done n Fresh ≡ Done outcome → Contains done (n, outcome)) → cond b (Done d.1) (done_by done n Fresh) ≡ Done outcome → Contains (d ∷ done) (n, outcome)
    by true e later h =
        let number : d.0 ≡ n = eqb-true d.0 n e in
        let came : d.1 ≡ outcome = cc in
        let same : d ≡ (n, outcome) = ap (λ m. (m, d.1)) number ∙ ap (λ o. (n, o)) came in
        subst (λ p. Contains (d ∷ done) p) same (first_member d done)
    by false e later h = later_member d done (n, outcome) (later h)

pub done_settled : (queues buckets : ℕ) (events : List Happened) (n : ℕ) (outcome : Outcome) → fate_of (progress queues buckets events) n ≡ Done outcome → Contains (settled_in events) (n, outcome)
done_settled queues buckets events n outcome h =
    let x = progress queues buckets events in
    let waits : waits_from 0 x.waiting.lists n (done_by x.done n Fresh) ≡ Done outcome = front_done (has_number x.front n) (waits_from 0 x.waiting.lists n (done_by x.done n Fresh)) outcome h in
    subst (λ ds. Contains ds (n, outcome)) (done_are queues buckets events) (came_member x.done n outcome (waits_done 0 x.waiting.lists n (done_by x.done n Fresh) outcome waits))

-- ---- and what was settled is done
one_here : (n m : ℕ) → m ≡ n → one_if (nat_eq m n) ≡ 1
one_here n m same = one_true (nat_eq m n) (eq-eqb m n same)

pub member_count : (numbers : List ℕ) (n : ℕ) → Contains numbers n → 1 ≤ count n numbers
member_count [] n h = absurd (no_member n h)
member_count (m ∷ numbers) n h = elim (member_cases m numbers n h) [
  | inl same ↦
      let one : one_if (nat_eq m n) ≡ 1 = one_here n m same in
      omega arith
  | inr there ↦
      let rest = member_count numbers n there in
      omega arith
]

settled_count : (done : List (ℕ × Outcome)) (n : ℕ) (outcome : Outcome) → Contains done (n, outcome) → 1 ≤ count n (map (λ d. d.0) done)
settled_count done n outcome h = member_count (map (λ d. d.0) done) n (map_member (λ (d : ℕ × Outcome). d.0) done (n, outcome) h)

came_once : (done : List (ℕ × Outcome)) (n : ℕ) (outcome : Outcome) → count n (map (λ d. d.0) done) ≤ 1 → Contains done (n, outcome) → done_by done n Fresh ≡ Done outcome
came_once [] n outcome once h = absurd (no_member (n, outcome) h)
came_once (d ∷ done) n outcome once h = by (nat_eq d.0 n) refl (came_once done n outcome) (member_cases d done (n, outcome) h)
  where
    by : (b : Bool) → nat_eq d.0 n ≡ b → (count n (map (λ e. e.0) done) ≤ 1 → Contains done (n, outcome) → done_by done n Fresh ≡ Done outcome)
        → (d ≡ (n, outcome)) ⊎ Contains done (n, outcome) → cond b (Done d.1) (done_by done n Fresh) ≡ Done outcome
    by true e later h = elim h [
      | inl same ↦ ap (λ p. Done p.1) same
      | inr there ↦
          let one : one_if (nat_eq d.0 n) ≡ 1 = one_true (nat_eq d.0 n) e in
          let rest = settled_count done n outcome there in
          absurd (omega arith)
    ]
    by false e later h = elim h [
      | inl same ↦
          let one : one_if (nat_eq d.0 n) ≡ 1 = one_here n d.0 (ap (λ p. p.0) same) in
          let none : one_if (nat_eq d.0 n) ≡ 0 = ap one_if e in
          absurd (omega arith)
      | inr there ↦
          let less : count n (map (λ d. d.0) done) ≤ count n (map (λ d. d.0) (d ∷ done)) = omega arith in
          later (omega arith) there
    ]

at_most_one : (b : Bool) → one_if b ≤ 1
at_most_one true = omega arith
at_most_one false = omega arith

module _ (settings : Settings) (state : State) (is : IsCrawlStore settings state) where
  abbrev come : Progress
  come = progress settings.queues settings.buckets state.events

  stands_once : (n : ℕ) → stands come n ≤ 1
  stands_once n =
      let queues = is.valid.budgets.queues in
      let once = crawl_once settings.queues settings.buckets state.events n (queues.0, queues.1, is.legal.rules) in
      let most = at_most_one (was_read state.events n) in
      omega arith

  pub settled_done : (n : ℕ) (outcome : Outcome) → Contains (settled_in state.events) (n, outcome) → fate_of come n ≡ Done outcome
  settled_done n outcome h =
      let there : Contains come.done (n, outcome) = subst (λ ds. Contains ds (n, outcome)) (sym (done_are settings.queues settings.buckets state.events)) h in
      let least = settled_count come.done n outcome there in
      let once = stands_once n in
      done_only come n once least ∙ came_once come.done n outcome (omega arith) there

  -- no number of the front was settled
  pub front_unsettled : (n : ℕ) → Contains come.front n → Contains (map (λ d. d.0) (settled_in state.events)) n → ⊥
  front_unsettled n front done =
      let least = member_count come.front n front in
      let most = member_count (map (λ d. d.0) come.done) n (subst (λ ds. Contains (map (λ d. d.0) ds) n) (sym (done_are settings.queues settings.buckets state.events)) done) in
      let once = stands_once n in
      omega arith

  has_member : (numbers : List ℕ) (n : ℕ) → has_number numbers n ≡ true → Contains numbers n
  has_member [] n h = absurd (cc)
  has_member (m ∷ numbers) n h = by (nat_eq m n) refl (has_member numbers n) h
    where
      by : (b : Bool) → nat_eq m n ≡ b → (has_number numbers n ≡ true → Contains numbers n) → (b || has_number numbers n) ≡ true → Contains (m ∷ numbers) n
      by true e later h = subst (λ k. Contains (m ∷ numbers) k) (eqb-true m n e) (first_member m numbers)
      by false e later h = later_member m numbers n (later h)

  -- it is the number of a unique URL
  pub settled_number : (n : ℕ) (outcome : Outcome) → Contains (settled_in state.events) (n, outcome) → Contains (numbers_in state.urls) n
  settled_number n outcome h =
      let core = opened_core settings state.urls state.events in
      let stored = legal_stored domain_of key_of settings state.urls state.pairs is.book state.events is.valid is.buckets is.rule is.legal in
      let y : Progress = progress settings.queues settings.buckets (steps_among state.events) in
      let once : count n (unread core (url_numbers core)) + stands y n ≡ one_if (has_number (numbers_in state.urls) n) = (opened_kept settings state.urls state.events stored).once n in
      let done : come.done ≡ y.done = (alike_steps settings.queues settings.buckets state.events).done in
      let there : Contains y.done (n, outcome) = subst (λ ds. Contains ds (n, outcome)) (sym (done_are settings.queues settings.buckets state.events) ∙ done) h in
      let least = settled_count y.done n outcome there in
      by (has_number (numbers_in state.urls) n) refl (omega arith)
    where
      by : (b : Bool) → has_number (numbers_in state.urls) n ≡ b → 1 ≤ one_if b → Contains (numbers_in state.urls) n
      by true e least = has_member (numbers_in state.urls) n e
      by false e least = absurd (omega arith)
