-- What calls make of an open store's state are steps of the core on it.
use Rattle.std.proofs.Common.{lt_of_not-le, ◌≡◌, ◌∙◌, ℕ, zero, suc, ◌+◌, ◌-◌, ◌<◌, ◌≤◌, Bool, true, false, if◌then◌else◌, List, [], ◌∷◌, ◌++◌, length, map, get_or, nat_eq, nat_le, nat_lt, None, Some, refl, sym, ap, subst, arith}
use Rattle.std.specs.Prelude.{◌&&◌, ◌||◌, is_none, slice_index}
use Rattle.std.specs.Cmp.Lexicographic.{pointwise}
use Rattle.std.specs.List.{filter}
use Rattle.std.proofs.lemmas.Bool.{cond-false, cond-true, eq-eqb, lt-leb, lt-ltb, le-leb}
use Rattle.std.proofs.lemmas.List.Elements.{filter-append}
use Rattle.irl_base.specs.Lists.{list_at}
use Rattle.irl_offer.specs.Tuple.{Tuple}
use Rattle.irl_offer.specs.declared.outcome.Outcome.{Outcome}
use Rattle.irl_offer.specs.declared.place.Place.{Place}
use Rattle.irl_offer.specs.declared.settings.Settings.{Settings}
use Rattle.irl_model.specs.Book.{Book, judged_cut, lengths_of}
use Rattle.irl_events.specs.Events.{Event, Pass as PassEvent, Settle as SettleEvent, Progress, has_number, numbers_of, progress}
use Rattle.irl_events.specs.Legal.{broken, one_rose, passes_on}
use Rattle.irl_events.specs.Queues.{Waiting}
use Rattle.irl_events.specs.State.{State}
use Rattle.irl_fate.specs.Standing.{count, count_all}
use Rattle.irl_fate.proofs.Steps.{pass_parts}
use Rattle.irl_fate.proofs.Waiting.{count_at_most, present_count}
use Rattle.irl_disk.specs.Disk.{Files}
use Rattle.irl_bay.specs.Drum.{Drum, IsDrum, HasNumbers, SomePending, durable_at, pending_at}
use Rattle.irl_bay.specs.Flushing.{MayFlush}
use Rattle.irl_schedule.proofs.Counts.{durable_index}
use Rattle.irl_core.specs.Steps.{CoreState, array_of, broken_in_core, judged_in, may_flush, may_merge, may_pass, may_settle, settle_event, taken_if, unread, url_numbers}
use Rattle.irl_core.specs.Stores.{IsOfUrls, IsStored, is_step, opened_core, steps_among}
use Rattle.irl_core.specs.declared.step.Step.TheVariants.{FlushStop, MergeStop, SettleStop}
use Rattle.irl_core.specs.declared.step.Reply.{Reply}
use Rattle.irl_core.specs.declared.step.Reply.TheVariants.{Taken, Cut, Stopped}
use Rattle.irl_core.specs.Laws.{IsCore}
use Rattle.irl_core.proofs.Keeping.{unread_nowhere}
use Rattle.irl_core.proofs.Numbers.{count_all_read, count_from}
use Rattle.irl_core.proofs.Opened.{opened_kept}
use Rattle.irl_core.proofs.Stores.{alike_pass, alike_settle, alike_steps, steps_one}
use Rattle.irl_yard.specs.Core.{FlushIsStep, Makes, MergeIsStep, PassIsStep, SettleIsStep, core_at}
use Rattle.irl_yard.specs.Adding.{with_event}
use Rattle.irl_yard.specs.Holding.{HoldsUrls, with_cut, with_offers}

-- ---- what a bay counts
durable_is : (drum : Drum) (book : Book) (b : ℕ) → HasNumbers drum book → slice_index (lengths_of book) b ≡ durable_at drum b
durable_is drum book b numbers = ap (λ (l : List ℕ). slice_index l b) (sym numbers.offers) ∙ durable_index drum b

pending_is : (drum : Drum) (book : Book) (b : ℕ) → HasNumbers drum book → slice_index (lengths_of book) b - slice_index (judged_cut book) b ≡ pending_at drum b
pending_is drum book b numbers =
    let cut = ap (λ (l : List ℕ). slice_index l b) (sym numbers.commit.cut) in
    omega (arith, cut, durable_is drum book b numbers)

rose_at : (xs ys : List ℕ) (b : ℕ) → b < length xs → get_or xs b 0 < get_or ys b 0 → one_rose xs ys ≡ true
rose_at [] ys b within lt = absurd (omega (arith, within))
rose_at (x ∷ xs) [] b within lt = absurd (omega (arith, lt))
rose_at (x ∷ xs) (y ∷ ys) zero within lt = ap (λ (t : Bool). t || one_rose xs ys) (lt-ltb x y lt)
rose_at (x ∷ xs) (y ∷ ys) (suc b) within lt = by (nat_lt x y) (rose_at xs ys b (omega (arith, within)) lt)
  where
    by : (t : Bool) → one_rose xs ys ≡ true → (t || one_rose xs ys) ≡ true
    by true rose = refl
    by false rose = rose

all_true : (a b c d : Bool) → a ≡ true → b ≡ true → c ≡ true → d ≡ true → (a && b && c && d) ≡ true
all_true a b c d p q r s = rw (p, q, r, s) refl

-- ---- a step that is taken
taken : (may : Bool) (old new : CoreState) (reply : Reply) → may ≡ true → taken_if may old new reply ≡ (new, reply)
taken may old new reply is = rw is refl

module _ (images : Files → Type 0) (urls : Drum) (state : State) (arrays : List (List Tuple)) (acknowledged : List ℕ) (law : IsDrum urls) (holds : HoldsUrls images urls state) where
  abbrev x : CoreState
  x = core_at urls.settings arrays acknowledged state

  abbrev numbers : HasNumbers urls state.urls
  numbers = holds.urls_hold.numbers

  flush_may : (b : ℕ) → MayFlush b (array_of x b) urls → durable_at urls b + length (array_of x b) ≤ urls.settings.cap → may_flush x b ≡ true
  flush_may b may fits = all_true _ _ _ _
      (lt-ltb b urls.settings.buckets may.bucket)
      (lt-ltb 0 (length (array_of x b)) (omega (arith, may.some)))
      (lt-ltb _ urls.settings.trigger (omega (arith, may.pending, pending_is urls state.urls b numbers)))
      (le-leb _ urls.settings.cap (omega (arith, fits, durable_is urls state.urls b numbers)))

  pub flush_step : (b : ℕ) → MayFlush b (array_of x b) urls → durable_at urls b + length (array_of x b) ≤ urls.settings.cap → FlushIsStep x b state
  flush_step b may fits =
      let is = flush_may b may fits in
      let done = taken (may_flush x b) x _ Taken is in
      record {
        done = record { answers = ap (λ (r : CoreState × Reply). r.1) done; urls = ap (λ (r : CoreState × Reply). r.0.urls) done; events = ap (λ (r : CoreState × Reply). r.0.events) done };
        stopped = λ took. stop_of took is;
      }
    where
      stop_of : (took : Bool) → may_flush x b ≡ true → Makes x (FlushStop b took) Stopped (if took then with_offers b (array_of x b) state else state)
      stop_of true is =
          let done = taken (may_flush x b) x _ Stopped is in
          record { answers = ap (λ (r : CoreState × Reply). r.1) done; urls = ap (λ (r : CoreState × Reply). r.0.urls) done; events = ap (λ (r : CoreState × Reply). r.0.events) done }
      stop_of false is =
          let done = taken (may_flush x b) x _ Stopped is in
          record { answers = ap (λ (r : CoreState × Reply). r.1) done; urls = ap (λ (r : CoreState × Reply). r.0.urls) done; events = ap (λ (r : CoreState × Reply). r.0.events) done }

  merge_may : SomePending urls → may_merge x ≡ true
  merge_may some =
      let b = some.0 in
      let cut = ap (λ (l : List ℕ). get_or l b 0) numbers.commit.cut in
      let size = ap (λ (l : List ℕ). length l) numbers.commit.cut in
      rose_at (judged_cut state.urls) (lengths_of state.urls) b (omega (arith, size, law.last.count, some.1)) (omega (arith, cut, durable_is urls state.urls b numbers, some.2))

  pub merge_step : SomePending urls → MergeIsStep x (urls.cuts + 1) state
  merge_step some =
      let is = merge_may some in
      let done = taken (may_merge x) x _ (Cut (state.urls.dropped + length state.urls.cuts + 1)) is in
      record {
        done = record {
          answers = ap (λ (r : CoreState × Reply). r.1) done ∙ ap (λ (n : ℕ). Cut (n + 1)) (sym numbers.cuts);
          urls = ap (λ (r : CoreState × Reply). r.0.urls) done;
          events = ap (λ (r : CoreState × Reply). r.0.events) done;
        };
        stopped = λ took. stop_of took is;
      }
    where
      stop_of : (took : Bool) → may_merge x ≡ true → Makes x (MergeStop took) Stopped (if took then with_cut state else state)
      stop_of true is =
          let done = taken (may_merge x) x _ Stopped is in
          record { answers = ap (λ (r : CoreState × Reply). r.1) done; urls = ap (λ (r : CoreState × Reply). r.0.urls) done; events = ap (λ (r : CoreState × Reply). r.0.events) done }
      stop_of false is =
          let done = taken (may_merge x) x _ Stopped is in
          record { answers = ap (λ (r : CoreState × Reply). r.1) done; urls = ap (λ (r : CoreState × Reply). r.0.urls) done; events = ap (λ (r : CoreState × Reply). r.0.events) done }

-- ---- events
-- one that breaks no rule, and begins nothing, comes once the crawl has begun
has_begun : (x : Progress) (fronts : List ℕ) (outcomes : List (ℕ × Outcome)) → broken x (SettleEvent fronts outcomes) [] ≡ None → x.begun ≡ true
has_begun x fronts outcomes is = by x.begun refl
  where
    by : (b : Bool) → x.begun ≡ b → x.begun ≡ true
    by true e = e
    by false e = absurd (let no : Some 1 ≡ None = sym (rw e refl) ∙ is in cc)

module _ (settings : Settings) (arrays : List (List Tuple)) (acknowledged : List ℕ) (state : State) where
  abbrev at : CoreState
  at = core_at settings arrays acknowledged state

  abbrev come : Progress
  come = progress settings.queues settings.buckets state.events

  settle_may : (outcomes : List (ℕ × Outcome)) → broken come (SettleEvent (lengths_of state.urls) outcomes) [] ≡ None → may_settle at outcomes ≡ true
  settle_may outcomes keeps =
      ap is_none (sym (alike_settle come (progress settings.queues settings.buckets (steps_among state.events)) (judged_in at) (lengths_of state.urls) outcomes
      (alike_steps settings.queues settings.buckets state.events) (has_begun come (lengths_of state.urls) outcomes keeps)) ∙ keeps)

  one_more : (event : Event) (places : List Place) → is_step event ≡ true → at.events ++ (event, places) ∷ [] ≡ steps_among (state.events ++ (event, places) ∷ [])
  one_more event places is = sym (ap (λ (y : CoreState). y.events) (steps_one settings arrays state.urls state.events (event, places) acknowledged is))

  pub settle_step : (outcomes : List (ℕ × Outcome)) → broken come (SettleEvent (lengths_of state.urls) outcomes) [] ≡ None → SettleIsStep at outcomes state
  settle_step outcomes keeps =
      let is = settle_may outcomes keeps in
      let done = taken (may_settle at outcomes) at _ Taken is in
      record {
        done = record {
          answers = ap (λ (r : CoreState × Reply). r.1) done;
          urls = ap (λ (r : CoreState × Reply). r.0.urls) done;
          events = ap (λ (r : CoreState × Reply). r.0.events) done ∙ one_more (settle_event at outcomes) [] refl;
        };
        stopped = λ took. stop_of took is;
      }
    where
      stop_of : (took : Bool) → may_settle at outcomes ≡ true
          → Makes at (SettleStop outcomes took) Stopped (if took then with_event (SettleEvent (lengths_of state.urls) outcomes) [] state else state)
      stop_of true is =
          let done = taken (may_settle at outcomes) at _ Stopped is in
          record {
            answers = ap (λ (r : CoreState × Reply). r.1) done;
            urls = ap (λ (r : CoreState × Reply). r.0.urls) done;
            events = ap (λ (r : CoreState × Reply). r.0.events) done ∙ one_more (settle_event at outcomes) [] refl;
          }
      stop_of false is =
          let done = taken (may_settle at outcomes) at _ Stopped is in
          record { answers = ap (λ (r : CoreState × Reply). r.1) done; urls = ap (λ (r : CoreState × Reply). r.0.urls) done; events = ap (λ (r : CoreState × Reply). r.0.events) done }

-- ---- a pass
or_true : (b : Bool) → (b || true) ≡ true
or_true true = refl
or_true false = refl

and_true : (b : Bool) → (b && true) ≡ b
and_true true = refl
and_true false = refl

first_has : (m : ℕ) (ns : List ℕ) → has_number (m ∷ ns) m ≡ true
first_has m ns = ap (λ (t : Bool). t || has_number ns m) (eq-eqb m m refl)

rest_has : (m n : ℕ) (ns : List ℕ) → has_number ns n ≡ true → has_number (m ∷ ns) n ≡ true
rest_has m n ns has = ap (λ (t : Bool). nat_eq m n || t) has ∙ or_true (nat_eq m n)

-- of numbers that are all below the least none is left
none_left : (least : ℕ) (ns : List ℕ) → ((n : ℕ) → has_number ns n ≡ true → n < least) → filter (λ n. nat_le least n) ns ≡ []
none_left least [] low = refl
none_left least (m ∷ ns) low =
    cond-false (nat_le least m) (m ∷ filter (λ n. nat_le least n) ns) (filter (λ n. nat_le least n) ns) (lt-leb least m (low m (first_has m ns)))
    ∙ none_left least ns (λ n has. low n (rest_has m n ns has))

-- and of numbers that are all below the most, those within both are those from the least on
all_left : (least most : ℕ) (ns : List ℕ) → ((n : ℕ) → has_number ns n ≡ true → n < most)
    → filter (λ n. nat_le least n) (filter (λ n. nat_le least n && nat_lt n most) ns) ≡ filter (λ n. nat_le least n) ns
all_left least most [] low = refl
all_left least most (m ∷ ns) low = by (all_left least most ns (λ n has. low n (rest_has m n ns has))) (nat_le least m) refl
  where
    from : ℕ → Bool
    from n = nat_le least n

    within : ℕ → Bool
    within n = nat_le least n && nat_lt n most

    test : (b : Bool) → nat_le least m ≡ b → within m ≡ b
    test b is = ap (λ (t : Bool). nat_le least m && t) (lt-ltb m most (low m (first_has m ns))) ∙ and_true (nat_le least m) ∙ is

    by : filter from (filter within ns) ≡ filter from ns → (b : Bool) → nat_le least m ≡ b → filter from (filter within (m ∷ ns)) ≡ filter from (m ∷ ns)
    by rest true is =
        ap (filter from) (cond-true (within m) (m ∷ filter within ns) (filter within ns) (test true is))
        ∙ cond-true (from m) (m ∷ filter from (filter within ns)) (filter from (filter within ns)) is
        ∙ ap (λ (l : List ℕ). m ∷ l) rest ∙ sym (cond-true (from m) (m ∷ filter from ns) (filter from ns) is)
    by rest false is =
        ap (filter from) (cond-false (within m) (m ∷ filter within ns) (filter within ns) (test false is)) ∙ rest
        ∙ sym (cond-false (from m) (m ∷ filter from ns) (filter from ns) is)

same_pointwise : (ns : List ℕ) → pointwise nat_eq ns ns ≡ true
same_pointwise [] = refl
same_pointwise (n ∷ ns) = ap (λ (t : Bool). t && pointwise nat_eq ns ns) (eq-eqb n n refl) ∙ same_pointwise ns

-- a pass that breaks no rule comes once the crawl has begun, and its number is that of the sent offers
pass_begun : (x : Progress) (judged : ℕ) (places : List Place) → broken x (PassEvent judged) places ≡ None → x.begun ≡ true
pass_begun x judged places is = by x.begun refl
  where
    by : (b : Bool) → x.begun ≡ b → x.begun ≡ true
    by true e = e
    by false e = absurd (let no : Some 1 ≡ None = sym (rw e refl) ∙ is in cc)

pass_keeps : (x : Progress) (judged : ℕ) (places : List Place) → broken x (PassEvent judged) places ≡ None → passes_on x (PassEvent judged) places ≡ true
pass_keeps x judged places is = by (passes_on x (PassEvent judged) places) refl
  where
    by : (b : Bool) → passes_on x (PassEvent judged) places ≡ b → passes_on x (PassEvent judged) places ≡ true
    by true e = e
    by false e = absurd (let no : Some 3 ≡ None = sym (rw (pass_begun x judged places is, e) refl) ∙ is in cc)

module _ (settings : Settings) (arrays : List (List Tuple)) (acknowledged : List ℕ) (state : State) (stored : IsStored settings state.urls state.events) (places : List Place) where
  abbrev here : CoreState
  here = core_at settings arrays acknowledged state

  abbrev far : Progress
  far = progress settings.queues settings.buckets state.events

  abbrev steps : Progress
  steps = progress settings.queues settings.buckets (steps_among state.events)

  abbrev all : ℕ
  all = judged_in here

  module _ (keeps : broken far (PassEvent all) places ≡ None) (are : IsOfUrls state.urls far (PassEvent all) places) where
    opened : IsCore (opened_core settings state.urls state.events)
    opened = opened_kept settings state.urls state.events stored

    same_read : far.read ≡ steps.read
    same_read = (alike_steps settings.queues settings.buckets state.events).read

    abbrev waits : List ℕ
    waits = list_at far.waiting.lists far.waiting.passes

    -- what waits was read before
    waits_low : (n : ℕ) → has_number waits n ≡ true → n < far.read
    waits_low n has = lt_of_not-le (λ le.
        let none : count n steps.front + count_all n steps.waiting.lists + count n (map (λ d. d.0) steps.done) ≡ 0 =
        unread_nowhere (opened_core settings state.urls state.events) opened n (subst (λ (r : ℕ). r ≤ n) same_read le) in
        let some : 1 ≤ count n waits = present_count waits n has in
        let most : count n waits ≤ count_all n far.waiting.lists = count_at_most n far.waiting.lists far.waiting.passes in
        let alike : count_all n far.waiting.lists ≡ count_all n steps.waiting.lists = ap (λ (w : Waiting ℕ). count_all n w.lists) (alike_steps settings.queues settings.buckets state.events).waiting in
        omega (arith, none, some, most, alike))

    -- and each URL's number is below the count of judged offers
    numbers_low : (n : ℕ) → has_number (url_numbers here) n ≡ true → n < all
    numbers_low n has = lt_of_not-le (λ le.
        let some = present_count (url_numbers here) n has in
        omega (arith, some, count_from n all (url_numbers here) le, count_all_read n state.urls))

    unread_same : unread here (numbers_of places) ≡ unread here (url_numbers here)
    unread_same =
        let from : ℕ → Bool = λ n. nat_le steps.read n in
        let within : List ℕ = filter (λ n. nat_le far.read n && nat_lt n all) (url_numbers here) in
        ap (filter from) are ∙ filter-append from waits within
        ∙ ap (λ (l : List ℕ). l ++ filter from within)
        (ap (λ (r : ℕ). filter (λ n. nat_le r n) waits) (sym same_read) ∙ none_left far.read waits waits_low)
        ∙ ap (λ (r : ℕ). filter (λ n. nat_le r n) within) (sym same_read) ∙ all_left far.read all (url_numbers here) numbers_low
        ∙ ap (λ (r : ℕ). filter (λ n. nat_le r n) (url_numbers here)) same_read

    may : may_pass here places ≡ true
    may =
        let sent = (pass_parts far all places (pass_keeps far all places keeps)).number in
        let rule : is_none (broken_in_core steps all (PassEvent all) places) ≡ true = ap is_none
        (sym (alike_pass far steps all places (alike_steps settings.queues settings.buckets state.events) (pass_begun far all places keeps) (sym sent)) ∙ keeps) in
        ap (λ (t : Bool). t && pointwise nat_eq (unread here (numbers_of places)) (unread here (url_numbers here))) rule
        ∙ ap (λ (l : List ℕ). pointwise nat_eq l (unread here (url_numbers here))) unread_same ∙ same_pointwise (unread here (url_numbers here))

    pub pass_step : PassIsStep here places state
    pass_step =
        let done = taken (may_pass here places) here _ Taken may in
        let urls = ap (λ (r : CoreState × Reply). r.0.urls) done in
        let events = ap (λ (r : CoreState × Reply). r.0.events) done ∙ one_more settings arrays acknowledged state (PassEvent all) places refl in
        record {
          done = record { answers = ap (λ (r : CoreState × Reply). r.1) done; urls = urls; events = events };
          stopped = record { answers = refl; urls = refl; events = refl };
          stopped_after = record { answers = refl; urls = urls; events = events };
        }
