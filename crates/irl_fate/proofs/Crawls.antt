-- What the events of a crawl leave: each number that was read stands once, and no other anywhere.
use Rattle.std.proofs.Common.{◌≡◌, ◌≢◌, ◌∙◌, ℕ, ◌+◌, ◌<◌, ◌≤◌, List, [], ◌∷◌, ◌++◌, length, sym, ap, arith, refl, Bool, true, false, cond, not, inl, inr, append_assoc, append-nil}
use Rattle.std.specs.Prelude.{◌&&◌, ◌||◌, nat_eq, nat_le, nat_lt, Option, None, Some}
use Rattle.std.specs.List.{filter, list_all}
use Rattle.std.proofs.lemmas.Bool.{cases_Bool, cases_lt, and_parts, or_parts, or_from, or_left, eqb-true, leb-true, lt-leb, le-leb, cond-true, cond-false, false≢true}
use Rattle.std.proofs.lemmas.List.{length-replicate}
use Rattle.std.proofs.lemmas.List.Folds.{list_any-append}
use Rattle.irl_offer.specs.declared.outcome.Outcome.{Outcome}
use Rattle.irl_offer.specs.declared.place.Place.{Place}
use Rattle.irl_events.specs.Events.{Event, Begin, Pairs, Pass, Robots, Settle, Happened, Progress, has_number, numbers_of, after_event, after_events, before_all, progress}
use Rattle.irl_events.specs.Legal.{AreLegalAfter, are_read, are_rising, broken, begins_once, pairs_rise, passes_on, is_noted, settles, none_fell, one_rose, are_distinct}
use Rattle.irl_base.specs.Lists.{list_at}
use Rattle.irl_fate.specs.declared.fate.Fate.TheVariants.{Fresh, Queue, Done}
use Rattle.irl_fate.specs.Fates.{fate_of}
use Rattle.irl_fate.specs.Reads.{reads, was_read, IsCrawl}
use Rattle.irl_fate.specs.Standing.{count, one_if, stands, IsWaiting}
use Rattle.irl_fate.proofs.Counting.{one_true, one_false, absent_count, count_filter, has_of_count}
use Rattle.irl_fate.proofs.Fresh.{nowhere_fresh, fresh_nowhere, queue_within, done_stays}
use Rattle.irl_fate.proofs.Marking.{numbers_done}
use Rattle.irl_fate.proofs.Reading.{rising_absent, read_absent}
use Rattle.irl_fate.proofs.Settling.{settle_parts}
use Rattle.irl_fate.proofs.Steps.{PassParts, pass_parts, empty_at}
use Rattle.irl_fate.proofs.Waiting.{present_count, count_at_most, read_below, pass_stands, pass_waiting, settle_stands}

-- ---- an event that breaks no rule
pub record Keeps (x : Progress) (event : Event) (places : List Place) : Type 0 where
  pub pairs : pairs_rise x event ≡ true
  pub passes : passes_on x event places ≡ true
  pub settled : settles x event ≡ true

some_none : (n : ℕ) → Some n ≡ None → ⊥
some_none n e = cc

unbroken : (a b c d e : Bool) → ◌≡◌ {A = Option ℕ} (cond (not a) (Some 1) (cond (not b) (Some 2) (cond (not c) (Some 3) (cond (not d) (Some 4) (cond (not e) (Some 5) None))))) None → (b ≡ true)
    × (c ≡ true) × (e ≡ true)
unbroken false b c d e h = absurd (some_none 1 h)
unbroken true false c d e h = absurd (some_none 2 h)
unbroken true true false d e h = absurd (some_none 3 h)
unbroken true true true false e h = absurd (some_none 4 h)
unbroken true true true true false h = absurd (some_none 5 h)
unbroken true true true true true h = (refl, refl, refl)

pub keeps : (x : Progress) (event : Event) (places : List Place) → broken x event places ≡ None → Keeps x event places
keeps x event places h =
    let all = unbroken (begins_once x event) (pairs_rise x event) (passes_on x event places) (is_noted event) (settles x event) h in
    record { pairs = all.0; passes = all.1; settled = all.2 }

-- ---- numbers that are read
rising_once : (from to : ℕ) (ns : List ℕ) (n : ℕ) → are_rising from to ns ≡ true → count n ns ≡ one_if (has_number ns n)
rising_once from to [] n h = refl
rising_once from to (m ∷ ns) n h =
    let parts = and_parts (nat_le from m && nat_lt m to) (are_rising (m + 1) to ns) h in
    elim (cases_Bool (nat_eq m n)) [
      | inl here ↦
          let same : m ≡ n = eqb-true m n here in
          let one : one_if (nat_eq m n) ≡ 1 = one_true (nat_eq m n) here in
          let none : count n ns ≡ 0 = absent_count ns n (rising_absent (m + 1) to ns n parts.1 (inl (omega arith))) in
          let there : one_if (has_number (m ∷ ns) n) ≡ 1 = one_true (has_number (m ∷ ns) n) (or_left (nat_eq m n) (has_number ns n) here) in
          omega arith
      | inr other ↦
          let none : one_if (nat_eq m n) ≡ 0 = one_false (nat_eq m n) other in
          let there : one_if (has_number (m ∷ ns) n) ≡ one_if (has_number ns n) = ap (λ b. one_if (b || has_number ns n)) other in
          omega (arith, rising_once (m + 1) to ns n parts.1)
    ]

-- a number that isn't in the queue is read once at most
read_once : (queue : List ℕ) (from to : ℕ) (ns : List ℕ) (n : ℕ) → are_read queue from to ns ≡ true → count n queue ≡ 0 → count n ns ≡ one_if (has_number ns n)
read_once [] from to ns n h none = rising_once from to ns n h
read_once (q ∷ queue) from to [] n h none = refl
read_once (q ∷ queue) from to (m ∷ ns) n h none =
    let parts = and_parts (nat_eq q m) (are_read queue from to ns) h in
    let same : one_if (nat_eq q n) ≡ one_if (nat_eq m n) = ap (λ (k : ℕ). one_if (nat_eq k n)) (eqb-true q m parts.0) in
    elim (cases_Bool (nat_eq m n)) [
      | inl here ↦ let one : one_if (nat_eq m n) ≡ 1 = one_true (nat_eq m n) here in absurd (omega arith)
      | inr other ↦
          let out : one_if (nat_eq m n) ≡ 0 = one_false (nat_eq m n) other in
          let rest : count n ns ≡ one_if (has_number ns n) = read_once queue from to ns n parts.1 (omega arith) in
          let there : one_if (has_number (m ∷ ns) n) ≡ one_if (has_number ns n) = ap (λ b. one_if (b || has_number ns n)) other in
          omega arith
    ]

-- ---- what events keep
-- what has come of a crawl over so many buckets whose passes have read these numbers
pub record Stood (buckets : ℕ) (read : ℕ → Bool) (x : Progress) : Type 0 where
  pub waiting : IsWaiting x.waiting
  pub once : (n : ℕ) → stands x n ≡ one_if (read n)
  pub above : (n : ℕ) → x.read ≤ n → read n ≡ false
  pub sent : x.read ≤ x.sent
  pub fronts : length x.fronts ≡ buckets

or_false : (b : Bool) → (b || false) ≡ b
or_false true = refl
or_false false = refl

or_all : (a b c : Bool) → ((a || b) || c) ≡ (a || (b || c))
or_all true b c = refl
or_all false b c = refl

stood_same : {buckets : ℕ} {r s : ℕ → Bool} {x : Progress} → ((n : ℕ) → r n ≡ s n) → Stood buckets r x → Stood buckets s x
stood_same same is = record {
  waiting = is.waiting;
  once = λ n. is.once n ∙ ap one_if (same n);
  above = λ n le. sym (same n) ∙ is.above n le;
  sent = is.sent;
  fronts = is.fronts;
}

fell_long : (xs ys : List ℕ) → none_fell xs ys ≡ true → length ys ≡ length xs
fell_long [] [] h = refl
fell_long [] (y ∷ ys) h = absurd (false≢true h)
fell_long (x ∷ xs) [] h = absurd (false≢true h)
fell_long (x ∷ xs) (y ∷ ys) h =
    let rest : length ys ≡ length xs = fell_long xs ys (and_parts (nat_le x y) (none_fell xs ys) h).1 in
    omega arith

one_most : (b : Bool) → one_if b ≤ 1
one_most true = omega arith
one_most false = omega arith

module _ (buckets : ℕ) (read : ℕ → Bool) (x : Progress) (is : Stood buckets read x) where
  none_above : (n : ℕ) → x.read ≤ n → stands x n ≡ 0
  none_above n le = is.once n ∙ ap one_if (is.above n le)

  stood_pass : (judged : ℕ) (places : List Place) → passes_on x (Pass judged) places ≡ true → Stood buckets (λ n. read n || has_number (numbers_of places) n) (after_event x (Pass judged) places)
  stood_pass judged places h =
      let parts = pass_parts x judged places h in
      let queue = list_at x.waiting.lists x.waiting.passes in
      let ns = numbers_of places in
      let told : PassParts (record x { begun = true; sent = judged }) judged places = record { number = refl; none = parts.none; numbers = parts.numbers; slots = parts.slots } in
      let fresh : List ℕ = filter (λ m. nat_le x.read m) ns in
      let number : judged ≡ x.sent = parts.number in
      record {
        waiting = pass_waiting x judged places is.waiting told;
        once = λ n.
            let moved : stands (after_event x (Pass judged) places) n ≡ stands x n + count n fresh = pass_stands x judged places is.waiting told n (none_above n) in
            let before : stands x n ≡ one_if (read n) = is.once n in
            elim (cases_lt n x.read) [
              | inl lt ↦
                  let none : count n fresh ≡ 0 = count_filter (λ m. nat_le x.read m) ns n ∙ cond-false (nat_le x.read n) (count n ns) 0 (lt-leb x.read n lt) in
                  let old : stands (after_event x (Pass judged) places) n ≡ one_if (read n) = omega arith in
                  old ∙ ap one_if (sym (elim (cases_Bool (has_number ns n)) [
                    | inl there ↦
                        let some : 1 ≤ count n ns = present_count ns n there in
                        let same : count n ns ≡ count n queue = read_below queue x.read judged ns n parts.numbers lt in
                        let part : count n queue ≤ stands x n = omega (arith, count_at_most n x.waiting.lists x.waiting.passes) in
                        let yes : read n ≡ true = elim (cases_Bool (read n)) [ inl e ↦ e | inr e ↦ let zero_count : one_if (read n) ≡ 0 = one_false (read n) e in absurd (omega arith) ] in
                        or_left (read n) (has_number ns n) yes ∙ sym yes
                    | inr absent ↦ ap (λ b. read n || b) absent ∙ or_false (read n)
                  ]))
              | inr le ↦
                  let all : count n fresh ≡ count n ns = count_filter (λ m. nat_le x.read m) ns n ∙ cond-true (nat_le x.read n) (count n ns) 0 (le-leb x.read n le) in
                  let nowhere : stands x n ≡ 0 = none_above n le in
                  let none : count n queue ≡ 0 = omega (arith, count_at_most n x.waiting.lists x.waiting.passes) in
                  let single : count n ns ≡ one_if (has_number ns n) = read_once queue x.read judged ns n parts.numbers none in
                  let now : stands (after_event x (Pass judged) places) n ≡ one_if (has_number ns n) = omega arith in
                  now ∙ ap (λ b. one_if (b || has_number ns n)) (sym (is.above n le))
            ];
        above = λ n le. (
            let sent : x.read ≤ x.sent = is.sent in
            let high : x.read ≤ n = omega arith in
            let nowhere : stands x n ≡ 0 = none_above n high in
            let none : count n queue ≡ 0 = omega (arith, count_at_most n x.waiting.lists x.waiting.passes) in
            or_from (read n) (has_number ns n) (is.above n high)
            (read_absent queue x.read judged ns n parts.numbers (has_of_count queue n false none) (inr le)));
        sent = omega arith;
        fronts = is.fronts;
      }

  stood_settle : (fronts : List ℕ) (outcomes : List (ℕ × Outcome)) (places : List Place) → settles x (Settle fronts outcomes) ≡ true
      → Stood buckets read (after_event x (Settle fronts outcomes) places)
  stood_settle fronts outcomes places h =
      let moves = nat_lt 0 (length outcomes) || one_rose x.fronts fronts in
      let front = list_all (λ d. has_number x.front d.0) outcomes in
      let distinct = are_distinct (numbers_done outcomes) in
      let fell : none_fell x.fronts fronts ≡ true = (and_parts (moves && front && distinct) (none_fell x.fronts fronts) h).1 in
      record {
        waiting = is.waiting;
        once = λ n.
            let most : stands x n ≤ 1 = omega (arith, is.once n, one_most (read n)) in
            settle_stands x fronts outcomes n (settle_parts x fronts outcomes h) most ∙ is.once n;
        above = is.above;
        sent = is.sent;
        fronts = fell_long x.fronts fronts fell ∙ is.fronts;
      }

  pub stood_event : (event : Event) (places : List Place) → broken x event places ≡ None → Stood buckets (λ n. read n || reads event places n) (after_event x event places)
  stood_event (Begin suffixes) places h =
      stood_same (λ n. sym (or_false (read n))) (record { waiting = is.waiting; once = is.once; above = is.above; sent = is.sent; fronts = is.fronts })
  stood_event (Pairs cuts judged pairs) places h =
      let k = keeps x (Pairs cuts judged pairs) places h in
      let rise : x.sent ≤ judged = leb-true x.sent judged (and_parts (nat_le x.cuts cuts) (nat_le x.sent judged)
      (and_parts (nat_le x.cuts cuts && nat_le x.sent judged) (nat_le x.pairs pairs) k.pairs).0).1 in
      let before : x.read ≤ x.sent = is.sent in
      stood_same (λ n. sym (or_false (read n))) (record { waiting = is.waiting; once = is.once; above = is.above; sent = omega arith; fronts = is.fronts })
  stood_event (Pass judged) places h = stood_pass judged places (keeps x (Pass judged) places h).passes
  stood_event (Robots note) places h =
      stood_same (λ n. sym (or_false (read n))) (record { waiting = is.waiting; once = is.once; above = is.above; sent = is.sent; fronts = is.fronts })
  stood_event (Settle fronts outcomes) places h =
      stood_same (λ n. sym (or_false (read n))) (stood_settle fronts outcomes places (keeps x (Settle fronts outcomes) places h).settled)

stood_after : (buckets : ℕ) (read : ℕ → Bool) (x : Progress) (events : List Happened) → AreLegalAfter x events → Stood buckets read x
    → Stood buckets (λ n. read n || was_read events n) (after_events x events)
stood_after buckets read x [] legal is = stood_same (λ n. sym (or_false (read n))) is
stood_after buckets read x (h ∷ hs) legal is =
    stood_same (λ n. or_all (read n) (reads h.0 h.1 n) (was_read hs n))
    (stood_after buckets (λ n. read n || reads h.0 h.1 n) (after_event x h.0 h.1) hs legal.1 (stood_event buckets read x is h.0 h.1 legal.0))

pub stood_first : (queues buckets : ℕ) → 1 ≤ queues → queues ≤ 64 → Stood buckets (λ n. false) (before_all queues buckets)
stood_first queues buckets least most = record {
  waiting = record { lists = refl; round = omega arith; most = most; spent = λ k lt. absurd (omega arith); unused = λ k le lt. empty_at k };
  once = λ n. refl;
  above = λ n le. refl;
  sent = omega arith;
  fronts = length-replicate buckets 0;
}

stood : (queues buckets : ℕ) (events : List Happened) → IsCrawl queues buckets events → Stood buckets (was_read events) (progress queues buckets events)
stood queues buckets events is =
    stood_after buckets (λ n. false) (before_all queues buckets) events is.2 (stood_first queues buckets is.0 is.1)

-- ---- the laws
pub crawl_once : (queues buckets : ℕ) (events : List Happened) (n : ℕ) → IsCrawl queues buckets events → stands (progress queues buckets events) n ≡ one_if (was_read events n)
crawl_once queues buckets events n is = (stood queues buckets events is).once n

one_zero : (b : Bool) → one_if b ≡ 0 → b ≡ false
one_zero true h = absurd (omega (arith, h))
one_zero false h = refl

pub crawl_fresh : (queues buckets : ℕ) (events : List Happened) (n : ℕ) → IsCrawl queues buckets events → fate_of (progress queues buckets events) n ≡ Fresh → was_read events n ≡ false
crawl_fresh queues buckets events n is h =
    one_zero (was_read events n) (sym (crawl_once queues buckets events n is) ∙ fresh_nowhere (progress queues buckets events) n h)

pub crawl_unread : (queues buckets : ℕ) (events : List Happened) (n : ℕ) → IsCrawl queues buckets events → was_read events n ≡ false → fate_of (progress queues buckets events) n ≡ Fresh
crawl_unread queues buckets events n is h =
    nowhere_fresh (progress queues buckets events) n (crawl_once queues buckets events n is ∙ one_false (was_read events n) h)

legal_front : (x : Progress) (hs more : List Happened) → AreLegalAfter x (hs ++ more) → AreLegalAfter x hs
legal_front x [] more legal = tt
legal_front x (h ∷ hs) more legal = (legal.0, legal_front (after_event x h.0 h.1) hs more legal.1)

-- a crawl was one at each time before
pub crawl_front : (queues buckets : ℕ) (events more : List Happened) → IsCrawl queues buckets (events ++ more) → IsCrawl queues buckets events
crawl_front queues buckets events more is = (is.0, is.1, legal_front (before_all queues buckets) events more is.2)

pub crawl_again : (queues buckets : ℕ) (events more : List Happened) (n : ℕ) → IsCrawl queues buckets (events ++ more) → fate_of (progress queues buckets events) n ≢ Fresh
    → fate_of (progress queues buckets (events ++ more)) n ≢ Fresh
crawl_again queues buckets events more n is old now =
    let none : (was_read events n || was_read more n) ≡ false = sym (list_any-append (λ h. reads h.0 h.1 n) events more) ∙ crawl_fresh queues buckets (events ++ more) n is now in
    old (crawl_unread queues buckets events n (crawl_front queues buckets events more is) (or_parts (was_read events n) (was_read more n) none).0)

pub crawl_below : (queues buckets : ℕ) (events : List Happened) (n : ℕ) → IsCrawl queues buckets events → was_read events n ≡ true → n < (progress queues buckets events).read
crawl_below queues buckets events n is h = elim (cases_lt n (progress queues buckets events).read) [
  | inl lt ↦ lt
  | inr le ↦ absurd (false≢true (sym ((stood queues buckets events is).above n le) ∙ h))
]

pub crawl_waiting : (queues buckets : ℕ) (events : List Happened) → IsCrawl queues buckets events → IsWaiting (progress queues buckets events).waiting
crawl_waiting queues buckets events is = (stood queues buckets events is).waiting

pub crawl_queue : (queues buckets : ℕ) (events : List Happened) (n i : ℕ) → IsCrawl queues buckets events → fate_of (progress queues buckets events) n ≡ Queue i
    → ((progress queues buckets events).waiting.passes < i) × (i ≤ (progress queues buckets events).waiting.queues)
crawl_queue queues buckets events n i is h =
    queue_within (progress queues buckets events) n i (crawl_waiting queues buckets events is) h

pub crawl_fronts : (queues buckets : ℕ) (events : List Happened) → IsCrawl queues buckets events → length (progress queues buckets events).fronts ≡ buckets
crawl_fronts queues buckets events is = (stood queues buckets events is).fronts

pub crawl_sent : (queues buckets : ℕ) (events : List Happened) → IsCrawl queues buckets events → (progress queues buckets events).read ≤ (progress queues buckets events).sent
crawl_sent queues buckets events is = (stood queues buckets events is).sent

-- ---- what is done
pub after_append : (x : Progress) (hs more : List Happened) → after_events x (hs ++ more) ≡ after_events (after_events x hs) more
after_append x [] more = refl
after_append x (h ∷ hs) more = after_append (after_event x h.0 h.1) hs more

-- later outcomes stand behind the earlier ones
pub record LaterDone (old new : List (ℕ × Outcome)) : Type 0 where
  pub more : List (ℕ × Outcome)
  pub is : new ≡ old ++ more

later_none : (x : Progress) → LaterDone x.done x.done
later_none x = record { more = []; is = sym (append-nil x.done) }

later_event : (x : Progress) (event : Event) (places : List Place) → LaterDone x.done (after_event x event places).done
later_event x (Begin suffixes) places = later_none x
later_event x (Pairs cuts judged pairs) places = later_none x
later_event x (Pass judged) places = later_none x
later_event x (Robots note) places = later_none x
later_event x (Settle fronts outcomes) places = record { more = outcomes; is = refl }

pub later_done : (x : Progress) (events : List Happened) → LaterDone x.done (after_events x events).done
later_done x [] = later_none x
later_done x (h ∷ hs) =
    let one = later_event x h.0 h.1 in
    let rest = later_done (after_event x h.0 h.1) hs in
    record { more = one.more ++ rest.more; is = rest.is ∙ ap (λ (ds : List (ℕ × Outcome)). ds ++ rest.more) one.is ∙ append_assoc x.done one.more rest.more }

pub crawl_done : (queues buckets : ℕ) (events more : List Happened) (n : ℕ) (outcome : Outcome) → IsCrawl queues buckets (events ++ more) → fate_of (progress queues buckets events) n ≡ Done outcome
    → fate_of (progress queues buckets (events ++ more)) n ≡ Done outcome
crawl_done queues buckets events more n outcome is h =
    let old = progress queues buckets events in
    let later = later_done old more in
    let all = after_append (before_all queues buckets) events more in
    let most : stands (progress queues buckets (events ++ more)) n ≤ 1 = omega (arith, crawl_once queues buckets (events ++ more) n is, one_most (was_read (events ++ more) n)) in
    done_stays old (progress queues buckets (events ++ more)) later.more n outcome (ap (λ (x : Progress). x.done) all ∙ later.is) most h
