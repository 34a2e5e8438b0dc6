-- A store that was opened is a core.
use Rattle.std.proofs.Common.{◌≡◌, ◌∙◌, ℕ, zero, suc, ◌+◌, ◌<◌, ◌≤◌, List, [], ◌∷◌, length, get_or, sym, ap, subst, arith, refl, Bool, true, false, cond, not, inl, inr, None}
use Rattle.std.specs.Prelude.{◌&&◌, ◌||◌, nat_eq, nat_le, nat_lt, replicate}
use Rattle.std.specs.List.{filter}
use Rattle.std.proofs.lemmas.Bool.{cases_Bool, cases_lt, lt-ltb, le-ltb, lt-leb, le-leb, ltb-true, eqb-true, false≢true}
use Rattle.std.proofs.lemmas.List.Folds.{list_any-append}
use Rattle.std.proofs.lemmas.List.{length-replicate}
use Rattle.irl_offer.specs.Tuple.{Tuple}
use Rattle.irl_offer.specs.declared.outcome.Outcome.{Outcome}
use Rattle.irl_offer.specs.declared.place.Place.{Place}
use Rattle.irl_offer.specs.declared.settings.Settings.{Settings}
use Rattle.irl_model.specs.Book.{Book, IsBelow, gone, judged, lengths_of, list_lengths}
use Rattle.irl_events.specs.Events.{Event, Begin, Pairs, Pass, Robots, Settle, Happened, Progress, has_number, numbers_of, after_event, after_events, before_all, progress}
use Rattle.irl_events.specs.Legal.{AreLegalAfter, broken, passes_on}
use Rattle.irl_base.specs.Lists.{list_at}
use Rattle.irl_events.specs.Queues.{Waiting}
use Rattle.irl_model.proofs.Stretches.{below_same}
use Rattle.irl_fate.specs.Reads.{reads, was_read, IsCrawl}
use Rattle.irl_fate.specs.Standing.{count, count_all, one_if, stands, IsWaiting}
use Rattle.irl_fate.proofs.Crawls.{Stood, keeps, stood_event, stood_first, crawl_once, crawl_waiting, crawl_sent}
use Rattle.irl_fate.proofs.Marking.{numbers_done}
use Rattle.irl_fate.proofs.Steps.{pass_parts}
use Rattle.irl_fate.proofs.Waiting.{present_count, count_at_most}
use Rattle.irl_core.specs.Laws.{IsCore}
use Rattle.irl_core.specs.Stores.{AreEquallyFar, AreOfUrls, IsOfUrls, IsStored, opened_core, steps_among}
use Rattle.irl_core.proofs.Keeping.{blank_at, each_blank}
use Rattle.irl_core.proofs.Numbers.{told_once, numbers_in, from_on, count_from, count_before}
use Rattle.irl_core.proofs.Stores.{alike_steps}

alike_stands : (x y : Progress) (n : ℕ) → AreEquallyFar x y → stands x n ≡ stands y n
alike_stands x y n a =
    ap (λ (front : List ℕ). count n front + count_all n x.waiting.lists + count n (numbers_done x.done)) a.front
    ∙ ap (λ (w : Waiting ℕ). count n y.front + count_all n w.lists + count n (numbers_done x.done)) a.waiting
    ∙ ap (λ (done : List (ℕ × Outcome)). count n y.front + count_all n y.waiting.lists + count n (numbers_done done)) a.done

and_true : (b : Bool) → (b && true) ≡ b
and_true true = refl
and_true false = refl

and_false : (b : Bool) → (b && false) ≡ false
and_false true = refl
and_false false = refl

and_swap : (a b : Bool) → (a && b) ≡ (b && a)
and_swap true b = sym (and_true b)
and_swap false b = sym (and_false b)

or_false : (b : Bool) → (b || false) ≡ b
or_false true = refl
or_false false = refl

or_all : (a b c : Bool) → ((a || b) || c) ≡ (a || (b || c))
or_all true b c = refl
or_all false b c = refl

has_filter : (t : ℕ → Bool) (ns : List ℕ) (n : ℕ) → has_number (filter t ns) n ≡ (t n && has_number ns n)
has_filter t [] n = sym (and_false (t n))
has_filter t (m ∷ ns) n = elim (cases_Bool (nat_eq m n)) [
  | inl here ↦
      let same : t m ≡ t n = ap t (eqb-true m n here) in
      by_test (t m) ∙ ap (λ (b : Bool). b || has_number (filter t ns) n) (ap (λ (b : Bool). t m && b) here ∙ and_true (t m) ∙ same)
      ∙ held (t n) (has_number (filter t ns) n) (has_number ns n) (has_filter t ns n) ∙ ap (λ (b : Bool). t n && (b || has_number ns n)) (sym here)
  | inr other ↦
      by_test (t m) ∙ ap (λ (b : Bool). b || has_number (filter t ns) n) (ap (λ (b : Bool). t m && b) other ∙ and_false (t m))
      ∙ has_filter t ns n ∙ ap (λ (b : Bool). t n && (b || has_number ns n)) (sym other)
]
  where
    by_test : (b : Bool) → has_number (cond b (m ∷ filter t ns) (filter t ns)) n ≡ ((b && nat_eq m n) || has_number (filter t ns) n)
    by_test true = refl
    by_test false = refl

    held : (b c d : Bool) → c ≡ (b && d) → (b || c) ≡ (b && (true || d))
    held true c d e = refl
    held false c d e = e

-- ---- what has come of a crawl, by the URLs
record Told (urls : Book) (read : ℕ → Bool) (x : Progress) : Type 0 where
  once : (n : ℕ) → read n ≡ (has_number (numbers_in urls) n && nat_lt n x.read)
  sent : x.sent ≤ gone urls + length (judged urls)
  fronts : IsBelow x.fronts (lengths_of urls)

told_same : {urls : Book} {r s : ℕ → Bool} {x : Progress} → ((n : ℕ) → r n ≡ s n) → Told urls r x → Told urls s x
told_same same is = record { once = λ n. sym (same n) ∙ is.once n; sent = is.sent; fronts = is.fronts }

module _ (buckets : ℕ) (urls : Book) (read : ℕ → Bool) (x : Progress) (stood : Stood buckets read x) (told : Told urls read x) where
  abbrev numbers : List ℕ
  numbers = numbers_in urls

  -- a number of the queue that is read was read before
  queued_read : (n : ℕ) → has_number (list_at x.waiting.lists x.waiting.passes) n ≡ true → read n ≡ true
  queued_read n there = elim (cases_Bool (read n)) [
    | inl yes_read ↦ yes_read
    | inr unread ↦
        let nowhere : stands x n ≡ 0 = stood.once n ∙ ap one_if unread in
        let some : 1 ≤ count n (list_at x.waiting.lists x.waiting.passes) = present_count (list_at x.waiting.lists x.waiting.passes) n there in
        absurd (omega (arith, count_at_most n x.waiting.lists x.waiting.passes))
  ]

  read_either : (h q f l m : Bool) → f ≡ ((not l && m) && h) → (q ≡ true → (h && l) ≡ true) → (l ≡ true → m ≡ true) → ((h && l) || (q || f)) ≡ (h && m)
  read_either h true f true m e old lt =
      let has : h ≡ true = sym (and_true h) ∙ old refl in
      ap (λ (b : Bool). (b && true) || true) has ∙ sym (ap (λ (b : Bool). b && m) has ∙ lt refl)
  read_either h true f false m e old lt = absurd (false≢true (sym (and_false h) ∙ old refl))
  read_either h false f true m e old lt =
      ap (λ (b : Bool). (h && true) || b) e ∙ or_false (h && true) ∙ ap (λ (b : Bool). h && b) (sym (lt refl))
  read_either h false f false m e old lt = ap (λ (b : Bool). b || f) (and_false h) ∙ e ∙ and_swap m h

  told_pass : (sent : ℕ) (places : List Place) → IsOfUrls urls x (Pass sent) places → passes_on x (Pass sent) places ≡ true
      → Told urls (λ n. read n || has_number (numbers_of places) n) (after_event x (Pass sent) places)
  told_pass sent places books breaks_none =
      let queue = list_at x.waiting.lists x.waiting.passes in
      let fresh : List ℕ = filter (λ n. nat_le x.read n && nat_lt n sent) numbers in
      let number : sent ≡ x.sent = (pass_parts x sent places breaks_none).number in
      let below : x.read ≤ x.sent = stood.sent in
      record {
        once = λ n.
            ap (λ (ns : List ℕ). read n || has_number ns n) books
            ∙ ap (λ (b : Bool). read n || b) (list_any-append (λ m. nat_eq m n) queue fresh)
            ∙ ap (λ (b : Bool). b || (has_number queue n || has_number fresh n)) (told.once n)
            ∙ read_either (has_number numbers n) (has_number queue n) (has_number fresh n) (nat_lt n x.read) (nat_lt n sent)
            (has_filter (λ m. nat_le x.read m && nat_lt m sent) numbers n ∙ ap (λ (b : Bool). (b && nat_lt n sent) && has_number numbers n) (not_below n))
            (λ there. sym (told.once n) ∙ queued_read n there)
            (λ lt. lt-ltb n sent (let less : n < x.read = ltb-true n x.read lt in omega arith));
        sent = told.sent;
        fronts = told.fronts;
      }
    where
      not_below : (n : ℕ) → nat_le x.read n ≡ not (nat_lt n x.read)
      not_below n = elim (cases_lt n x.read) [
        | inl lt ↦ lt-leb x.read n lt ∙ sym (ap not (lt-ltb n x.read lt))
        | inr le ↦ le-leb x.read n le ∙ sym (ap not (le-ltb n x.read le))
      ]

  told_event : (event : Event) (places : List Place) → IsOfUrls urls x event places → broken x event places ≡ None → Told urls (λ n. read n || reads event places n) (after_event x event places)
  told_event (Begin suffixes) places books h = told_same (λ n. sym (or_false (read n))) (record { once = told.once; sent = told.sent; fronts = told.fronts })
  told_event (Pairs cuts sent pairs) places books h = told_same (λ n. sym (or_false (read n))) (record { once = told.once; sent = books; fronts = told.fronts })
  told_event (Pass sent) places books h = told_pass sent places books (keeps x (Pass sent) places h).passes
  told_event (Robots note) places books h = told_same (λ n. sym (or_false (read n))) (record { once = told.once; sent = told.sent; fronts = told.fronts })
  told_event (Settle fronts outcomes) places books h = told_same (λ n. sym (or_false (read n))) (record { once = told.once; sent = told.sent; fronts = books })

told_after : (buckets : ℕ) (urls : Book) (read : ℕ → Bool) (x : Progress) (events : List Happened) → AreLegalAfter x events → AreOfUrls urls x events → Stood buckets read x → Told urls read x
    → Told urls (λ n. read n || was_read events n) (after_events x events)
told_after buckets urls read x [] legal books stood told = told_same (λ n. sym (or_false (read n))) told
told_after buckets urls read x (h ∷ hs) legal books stood told =
    told_same (λ n. or_all (read n) (reads h.0 h.1 n) (was_read hs n))
    (told_after buckets urls (λ n. read n || reads h.0 h.1 n) (after_event x h.0 h.1) hs legal.1 books.1 (stood_event buckets read x stood h.0 h.1 legal.0)
    (told_event buckets urls read x stood told h.0 h.1 books.0 legal.0))

-- no bucket's list is shorter than nothing
below_firsts : (n : ℕ) (firsts : List ℕ) (lists : List (List Tuple)) → length firsts ≡ n → length lists ≡ n → IsBelow (replicate n 0) (list_lengths firsts lists)
below_firsts zero [] [] e f = tt
below_firsts zero (first ∷ firsts) lists e f = absurd (omega (arith, e))
below_firsts zero [] (list ∷ lists) e f = absurd (omega (arith, f))
below_firsts (suc n) [] lists e f = absurd (omega (arith, e))
below_firsts (suc n) (first ∷ firsts) [] e f = absurd (omega (arith, f))
below_firsts (suc n) (first ∷ firsts) (list ∷ lists) e f = (omega arith, below_firsts n firsts lists (omega (arith, e)) (omega (arith, f)))

module _ (settings : Settings) (urls : Book) (events : List Happened) (is : IsStored settings urls events) where
  abbrev x : Progress
  x = progress settings.queues settings.buckets events

  abbrev y : Progress
  y = progress settings.queues settings.buckets (steps_among events)

  crawl : IsCrawl settings.queues settings.buckets events
  crawl = (is.valid.budgets.queues.0, is.valid.budgets.queues.1, is.rules)

  told : Told urls (was_read events) x
  told =
      told_after settings.buckets urls (λ n. false) (before_all settings.queues settings.buckets) events is.rules is.each
      (stood_first settings.queues settings.buckets is.valid.budgets.queues.0 is.valid.budgets.queues.1) (record {
        once = λ n. sym (ap (λ (b : Bool). has_number (numbers_in urls) n && b) (le-ltb n 0 (omega arith)) ∙ and_false (has_number (numbers_in urls) n));
        sent = omega arith;
        fronts = below_firsts settings.buckets urls.firsts urls.lists (is.book.firsts ∙ is.buckets) (is.book.lists ∙ is.buckets);
      })

  far : AreEquallyFar x y
  far = alike_steps settings.queues settings.buckets events

  opened_once : (n : ℕ) → count n (from_on x.read (numbers_in urls)) + stands x n ≡ one_if (has_number (numbers_in urls) n)
  opened_once n =
      let there = has_number (numbers_in urls) n in
      let stood : stands x n ≡ one_if (there && nat_lt n x.read) = crawl_once settings.queues settings.buckets events n crawl ∙ ap one_if (told.once n) in
      elim (cases_lt n x.read) [
        | inl lt ↦
            let none : count n (from_on x.read (numbers_in urls)) ≡ 0 = count_before n x.read (numbers_in urls) lt in
            let yes : stands x n ≡ one_if there = stood ∙ ap (λ (b : Bool). one_if (there && b)) (lt-ltb n x.read lt) ∙ ap one_if (and_true there) in
            omega arith
        | inr le ↦
            let all : count n (from_on x.read (numbers_in urls)) ≡ count n (numbers_in urls) = count_from n x.read (numbers_in urls) le in
            let one : count n (numbers_in urls) ≡ one_if there = told_once n (gone urls) (judged urls) in
            let none : stands x n ≡ 0 = stood ∙ ap (λ (b : Bool). one_if (there && b)) (le-ltb n x.read le) ∙ ap one_if (and_false there) in
            omega arith
      ]

  pub opened_kept : IsCore (opened_core settings urls events)
  opened_kept = record {
    settings = is.valid;
    urls = is.book;
    buckets = is.buckets;
    rule = is.rule;
    arrays = length-replicate settings.buckets [];
    each = each_blank settings.buckets 0 settings.buckets;
    room = λ b. (let none : length (get_or {A = List Tuple} (replicate settings.buckets []) b []) ≡ 0 = ap length (blank_at settings.buckets b) in omega arith);
    acknowledged = below_same (lengths_of urls);
    waiting = subst IsWaiting far.waiting (crawl_waiting settings.queues settings.buckets events crawl);
    read = (
        let same : x.read ≡ y.read = far.read in
        let below : x.read ≤ x.sent = crawl_sent settings.queues settings.buckets events crawl in
        let sent : x.sent ≤ gone urls + length (judged urls) = told.sent in
        omega arith);
    fronts = subst (λ (ns : List ℕ). IsBelow ns (lengths_of urls)) far.fronts told.fronts;
    once = λ n.
        ap (λ (least : ℕ). count n (from_on least (numbers_in urls)) + stands y n) (sym far.read)
        ∙ ap (λ (m : ℕ). count n (from_on x.read (numbers_in urls)) + m) (sym (alike_stands x y n far))
        ∙ opened_once n;
  }
