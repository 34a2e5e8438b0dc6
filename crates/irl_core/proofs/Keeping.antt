-- What every core keeps: a new one has it, and each step leaves it.
use Rattle.std.proofs.Common.{◌≡◌, ◌≢◌, ◌∙◌, ℕ, zero, suc, ◌+◌, ◌<◌, ◌≤◌, List, [], ◌∷◌, ◌++◌, map, length, get_or, set, sym, ap, subst, arith, refl, Bool, true, false, cond, inl, inr, None, Some, length-append}
use Rattle.std.specs.Prelude.{nat_eq, nat_lt, not, is_none, replicate}
use Rattle.std.specs.Cmp.Lexicographic.{pointwise}
use Rattle.std.specs.List.{AllByRecursion}
use Rattle.std.proofs.lemmas.Bool.{cases_eq, cases_lt, and_parts, or_from, eqb-true, ltb-true, le-ltb, false≢true}
use Rattle.std.proofs.lemmas.List.{length-set, length-map, length-replicate, get_or-set_same, get_or-set_other, set_past}
use Rattle.irl_offer.specs.Buckets.{IsBucketCount, bucket_of}
use Rattle.irl_offer.specs.Settings.{AreValid}
use Rattle.irl_offer.specs.Tuple.{Tuple}
use Rattle.irl_offer.specs.declared.offer.Rule.{Rule}
use Rattle.irl_offer.specs.declared.outcome.Outcome.{Outcome}
use Rattle.irl_offer.specs.declared.place.Place.{Place}
use Rattle.irl_offer.specs.declared.settings.Settings.{Settings}
use Rattle.irl_model.specs.Book.{IsBook, IsBelow, AreOfBuckets, blank_book, list_lengths, lengths_of, judged_cut, gone, judged, judged_next, flushed, flushed_lists, merged}
use Rattle.irl_events.specs.Events.{Event, Pass, Settle, Progress, has_number, numbers_of, before_all, after_event}
use Rattle.irl_events.specs.Legal.{one_rose, passes_on, settles}
use Rattle.irl_model.proofs.FrontLaws.{flushed_judged, merged_book}
use Rattle.irl_model.proofs.Flushes.{flushed_lists-set, length-flushed_lists, flushed_book, flushed_uniques}
use Rattle.irl_model.proofs.Merges.{merged_judged}
use Rattle.irl_model.proofs.Stretches.{below_same, below_both}
use Rattle.irl_fate.specs.Standing.{count, one_if, stands, IsWaiting}
use Rattle.irl_events.proofs.Following.{after_more}
use Rattle.irl_fate.proofs.Settling.{settle_parts}
use Rattle.irl_fate.proofs.Steps.{pass_parts}
use Rattle.irl_fate.proofs.Waiting.{pass_stands, pass_waiting, settle_stands}
use Rattle.irl_core.specs.declared.step.Step.{Step}
use Rattle.irl_core.specs.declared.step.Step.TheVariants.{Offer, Flush, Merge, Stop, FlushStop, MergeStop, Pass as PassStep, Settle as SettleStep, SettleStop}
use Rattle.irl_core.specs.declared.step.Reply.{Reply}
use Rattle.irl_core.specs.Steps.{CoreState, new_core, array_of, judged_in, course, url_numbers, unread, pass_event, settle_event, may_offer, may_flush, may_merge, may_pass, may_settle}
use Rattle.irl_core.specs.Steps.{with_offer, with_list, with_word, with_cut, with_event, emptied, stopped, taken_if, step, after_steps, core_of}
use Rattle.irl_core.specs.Laws.{IsCore}
use Rattle.irl_core.proofs.Numbers.{told_once, numbers_in, from_on, count_from, count_all_read, merged_unread}

-- ---- lists of arrays
-- an array among arrays of buckets is of its bucket
pub of_bucket_at : (buckets b c i : ℕ) (lists : List (List Tuple)) → b ≡ c + i → AreOfBuckets buckets c lists → AllByRecursion (λ (o : Tuple). bucket_of buckets o.key ≡ b) (get_or lists i [])
of_bucket_at buckets b c i [] is each = tt
of_bucket_at buckets b c zero (list ∷ lists) is each =
    let same : c ≡ b = omega arith in
    subst (λ (k : ℕ). AllByRecursion (λ (o : Tuple). bucket_of buckets o.key ≡ k) list) same each.0
of_bucket_at buckets b c (suc i) (list ∷ lists) is each = of_bucket_at buckets b (c + 1) i lists (omega arith) each.1

all_join : {X : Type 0} (P : X → Type 0) (xs ys : List X) → AllByRecursion P xs → AllByRecursion P ys → AllByRecursion P (xs ++ ys)
all_join P [] ys h k = k
all_join P (x ∷ xs) ys h k = (h.0, all_join P xs ys h.1 k)

each_flushed : (buckets b c i : ℕ) (news : List Tuple) (lists : List (List Tuple)) → b ≡ c + i → AllByRecursion (λ (o : Tuple). bucket_of buckets o.key ≡ b) news → AreOfBuckets buckets c lists
    → AreOfBuckets buckets c (flushed_lists i news lists)
each_flushed buckets b c i news [] is theirs each = tt
each_flushed buckets b c zero news (list ∷ lists) is theirs each =
    let same : b ≡ c = omega arith in
    (all_join (λ (o : Tuple). bucket_of buckets o.key ≡ c) list news each.0 (subst (λ (k : ℕ). AllByRecursion (λ (o : Tuple). bucket_of buckets o.key ≡ k) news) same theirs), each.1)
each_flushed buckets b c (suc i) news (list ∷ lists) is theirs each = (each.0, each_flushed buckets b (c + 1) i news lists (omega arith) theirs each.1)

each_cleared : (buckets c at : ℕ) (lists : List (List Tuple)) → AreOfBuckets buckets c lists → AreOfBuckets buckets c (set lists at [])
each_cleared buckets c at [] each = tt
each_cleared buckets c zero (list ∷ lists) each = (tt, each.1)
each_cleared buckets c (suc at) (list ∷ lists) each = (each.0, each_cleared buckets (c + 1) at lists each.1)

each_emptied : (buckets c : ℕ) (lists : List (List Tuple)) → AreOfBuckets buckets c (map (λ (array : List Tuple). []) lists)
each_emptied buckets c [] = tt
each_emptied buckets c (list ∷ lists) = (tt, each_emptied buckets (c + 1) lists)

pub each_blank : (buckets c n : ℕ) → AreOfBuckets buckets c (replicate n [])
each_blank buckets c zero = tt
each_blank buckets c (suc n) = (tt, each_blank buckets (c + 1) n)

pub emptied_at : (lists : List (List Tuple)) (b : ℕ) → get_or {A = List Tuple} (map (λ (array : List Tuple). []) lists) b [] ≡ []
emptied_at [] b = refl
emptied_at (list ∷ lists) zero = refl
emptied_at (list ∷ lists) (suc b) = emptied_at lists b

pub blank_at : (n b : ℕ) → get_or {A = List Tuple} (replicate n []) b [] ≡ []
blank_at zero b = refl
blank_at (suc n) zero = refl
blank_at (suc n) (suc b) = blank_at n b

pub room_set : (room at : ℕ) (list : List Tuple) (lists : List (List Tuple)) → length list ≤ room → ((b : ℕ) → length (get_or lists b []) ≤ room) → (b : ℕ)
    → length (get_or (set lists at list) b []) ≤ room
room_set room at list lists short all b = elim (cases_eq b at) [
  | inl here ↦ elim (cases_lt at (length lists)) [
    | inl lt ↦
        let is : length (get_or (set lists at list) b []) ≡ length list = ap (λ n. length (get_or (set lists at list) n [])) here ∙ ap length (get_or-set_same lists at list [] lt) in
        omega arith
    | inr le ↦
        let is : length (get_or (set lists at list) b []) ≡ length (get_or lists b []) = ap (λ (ls : List (List Tuple)). length (get_or ls b [])) (set_past lists at list le) in
        let old = all b in
        omega arith
  ]
  | inr other ↦
      let is : length (get_or (set lists at list) b []) ≡ length (get_or lists b []) = ap length (get_or-set_other lists at b list [] other) in
      let old = all b in
      omega arith
]

-- ---- lengths
pub below_flushed : (b : ℕ) (news : List Tuple) (firsts : List ℕ) (lists : List (List Tuple)) → IsBelow (list_lengths firsts lists) (list_lengths firsts (flushed_lists b news lists))
below_flushed b news [] lists = tt
below_flushed b news (first ∷ firsts) [] = tt
below_flushed zero news (first ∷ firsts) (list ∷ lists) = (omega (arith, length-append list news), below_same (list_lengths firsts lists))
below_flushed (suc b) news (first ∷ firsts) (list ∷ lists) = (omega arith, below_flushed b news firsts lists)

below_set : (ns ms : List ℕ) (b : ℕ) → IsBelow ns ms → IsBelow (set ns b (get_or ms b 0)) ms
below_set [] [] b h = tt
below_set [] (m ∷ ms) b h = absurd h
below_set (n ∷ ns) [] b h = absurd h
below_set (n ∷ ns) (m ∷ ms) zero h = (omega arith, h.1)
below_set (n ∷ ns) (m ∷ ms) (suc b) h = (h.0, below_set ns ms b h.1)

pub below_raised : (ns ms : List ℕ) (b : ℕ) → IsBelow ns ms → IsBelow ns (set ns b (get_or ms b 0))
below_raised [] [] b h = tt
below_raised [] (m ∷ ms) b h = absurd h
below_raised (n ∷ ns) [] b h = absurd h
below_raised (n ∷ ns) (m ∷ ms) zero h = (h.0, below_same ns)
below_raised (n ∷ ns) (m ∷ ms) (suc b) h = (omega arith, below_raised ns ms b h.1)

not_risen : (ns : List ℕ) → one_rose ns ns ≡ false
not_risen [] = refl
not_risen (n ∷ ns) = or_from (nat_lt n n) (one_rose ns ns) (le-ltb n n (omega arith)) (not_risen ns)

pub risen_differs : (ns ms : List ℕ) → one_rose ns ms ≡ true → ns ≢ ms
risen_differs ns ms h e = false≢true (sym (not_risen ns) ∙ ap (one_rose ns) e ∙ h)

zeros_below : (n : ℕ) → IsBelow (replicate n 0) (list_lengths (replicate n 0) (replicate n []))
zeros_below zero = tt
zeros_below (suc n) = (omega arith, zeros_below n)

pub blank_at_numbers : (n b : ℕ) → get_or {A = List ℕ} (replicate n []) b [] ≡ []
blank_at_numbers zero b = refl
blank_at_numbers (suc n) zero = refl
blank_at_numbers (suc n) (suc b) = blank_at_numbers n b

-- ---- a new core
blank_is_book : (buckets : ℕ) (rule : Rule) → IsBucketCount buckets → IsBook (blank_book buckets rule)
blank_is_book buckets rule is = record {
  buckets = is;
  firsts = length-replicate buckets 0;
  lists = length-replicate buckets [];
  each = each_blank buckets 0 buckets;
  cuts = zeros_below buckets;
  none = λ e. (refl, refl);
}

pub new_kept : (settings : Settings) → AreValid settings → IsCore (new_core settings)
new_kept settings valid =
    let least : 1 ≤ settings.queues = valid.budgets.queues.0 in
    let most : settings.queues ≤ 64 = valid.budgets.queues.1 in
    record {
      settings = valid;
      urls = blank_is_book settings.buckets settings.rule valid.buckets;
      buckets = refl;
      rule = refl;
      arrays = length-replicate settings.buckets [];
      each = each_blank settings.buckets 0 settings.buckets;
      room = λ b. (let none : length (get_or {A = List Tuple} (replicate settings.buckets []) b []) ≡ 0 = ap length (blank_at settings.buckets b) in omega arith);
      acknowledged = zeros_below settings.buckets;
      waiting = record { lists = refl; round = omega arith; most = most; spent = λ k lt. absurd (omega arith); unused = λ k le lt. blank_at_numbers 65 k };
      read = omega arith;
      fronts = zeros_below settings.buckets;
      once = λ n. refl;
    }

-- ---- an offer
pub offer_kept : (x : CoreState) (b : ℕ) (offer : Tuple) → IsCore x → may_offer x b offer ≡ true → IsCore (with_offer b offer x)
offer_kept x b offer is may =
    let parts = and_parts (nat_eq b (bucket_of x.settings.buckets offer.key)) (nat_lt (length (array_of x b)) x.settings.array) may in
    let bucket : bucket_of x.settings.buckets offer.key ≡ b = sym (eqb-true b (bucket_of x.settings.buckets offer.key) parts.0) in
    let short : length (array_of x b) < x.settings.array = ltb-true (length (array_of x b)) x.settings.array parts.1 in
    let fits : length (array_of x b ++ offer ∷ []) ≤ x.settings.array = omega (arith, length-append (array_of x b) (offer ∷ [])) in
    let set_is = flushed_lists-set b (offer ∷ []) x.arrays in
    record {
      settings = is.settings;
      urls = is.urls;
      buckets = is.buckets;
      rule = is.rule;
      arrays = length-flushed_lists b (offer ∷ []) x.arrays ∙ is.arrays;
      each = each_flushed x.settings.buckets b 0 b (offer ∷ []) x.arrays (omega arith) (bucket, tt) is.each;
      room = subst (λ (ls : List (List Tuple)). (c : ℕ) → length (get_or ls c []) ≤ x.settings.array) (sym set_is) (room_set x.settings.array b (array_of x b ++ offer ∷ []) x.arrays fits is.room);
      acknowledged = is.acknowledged;
      waiting = is.waiting;
      read = is.read;
      fronts = is.fronts;
      once = is.once;
    }

-- ---- a flush
theirs_at : (x : CoreState) (b : ℕ) → IsCore x → AllByRecursion (λ (o : Tuple). bucket_of x.urls.buckets o.key ≡ b) (array_of x b)
theirs_at x b is =
    subst (λ (k : ℕ). AllByRecursion (λ (o : Tuple). bucket_of k o.key ≡ b) (array_of x b)) (sym is.buckets) (of_bucket_at x.settings.buckets b 0 b x.arrays (omega arith) is.each)

pub list_kept : (x : CoreState) (b : ℕ) → IsCore x → IsCore (with_list b x)
list_kept x b is =
    let news = array_of x b in
    let same : numbers_in (flushed b news x.urls) ≡ url_numbers x = ap (map (λ (p : ℕ × Tuple). p.0)) (flushed_uniques b news x.urls is.urls) in
    record {
      settings = is.settings;
      urls = flushed_book b news x.urls is.urls (theirs_at x b is);
      buckets = is.buckets;
      rule = is.rule;
      arrays = length-set x.arrays b [] ∙ is.arrays;
      each = each_cleared x.settings.buckets 0 b x.arrays is.each;
      room = room_set x.settings.array b [] x.arrays (omega arith) is.room;
      acknowledged = below_both x.acknowledged (lengths_of x.urls) (lengths_of (flushed b news x.urls)) is.acknowledged (below_flushed b news x.urls.firsts x.urls.lists);
      waiting = is.waiting;
      read = subst (λ n. (course x).read ≤ gone x.urls + n) (sym (ap length (flushed_judged b news x.urls is.urls))) is.read;
      fronts = below_both (course x).fronts (lengths_of x.urls) (lengths_of (flushed b news x.urls)) is.fronts (below_flushed b news x.urls.firsts x.urls.lists);
      once = λ n.
          subst (λ (numbers : List ℕ). count n (from_on (course x).read numbers) + stands (course x) n ≡ one_if (has_number numbers n)) (sym same) (is.once n);
    }

pub word_kept : (x : CoreState) (b : ℕ) → IsCore x → IsCore (with_word b x)
word_kept x b is = record {
  settings = is.settings;
  urls = is.urls;
  buckets = is.buckets;
  rule = is.rule;
  arrays = is.arrays;
  each = is.each;
  room = is.room;
  acknowledged = below_set x.acknowledged (lengths_of x.urls) b is.acknowledged;
  waiting = is.waiting;
  read = is.read;
  fronts = is.fronts;
  once = is.once;
}

-- ---- a merge
pub cut_kept : (x : CoreState) → IsCore x → may_merge x ≡ true → IsCore (with_cut x)
cut_kept x is may =
    let longer : length (judged (merged x.urls)) ≡ length (judged x.urls) + length (judged_next x.urls) = ap length (merged_judged x.urls) ∙ length-append (judged x.urls) (judged_next x.urls) in
    let below : (course x).read ≤ gone x.urls + length (judged x.urls) = is.read in
    record {
      settings = is.settings;
      urls = merged_book x.urls is.urls (risen_differs (judged_cut x.urls) (lengths_of x.urls) may);
      buckets = is.buckets;
      rule = is.rule;
      arrays = is.arrays;
      each = is.each;
      room = is.room;
      acknowledged = is.acknowledged;
      waiting = is.waiting;
      read = omega arith;
      fronts = is.fronts;
      once = λ n.
          let before : count n (from_on (course x).read (numbers_in x.urls)) + stands (course x) n ≡ one_if (has_number (numbers_in x.urls) n) = is.once n in
          let old : count n (numbers_in x.urls) ≡ one_if (has_number (numbers_in x.urls) n) = told_once n (gone x.urls) (judged x.urls) in
          let new : count n (numbers_in (merged x.urls)) ≡ one_if (has_number (numbers_in (merged x.urls)) n) = told_once n (gone x.urls) (judged (merged x.urls)) in
          let moved = merged_unread n (course x).read x.urls below in
          omega arith;
    }

-- ---- passes and settles
-- a number that no pass has read stands nowhere, and none stands twice
pub unread_nowhere : (x : CoreState) → IsCore x → (n : ℕ) → (course x).read ≤ n → stands (course x) n ≡ 0
unread_nowhere x is n le =
    let before : count n (from_on (course x).read (numbers_in x.urls)) + stands (course x) n ≡ one_if (has_number (numbers_in x.urls) n) = is.once n in
    let all : count n (from_on (course x).read (numbers_in x.urls)) ≡ count n (numbers_in x.urls) = count_from n (course x).read (numbers_in x.urls) le in
    let one : count n (numbers_in x.urls) ≡ one_if (has_number (numbers_in x.urls) n) = told_once n (gone x.urls) (judged x.urls) in
    omega arith

pub one_most : (b : Bool) → one_if b ≤ 1
one_most true = omega arith
one_most false = omega arith

pub stands_most : (x : CoreState) → IsCore x → (n : ℕ) → stands (course x) n ≤ 1
stands_most x is n =
    let before : count n (from_on (course x).read (numbers_in x.urls)) + stands (course x) n ≡ one_if (has_number (numbers_in x.urls) n) = is.once n in
    let most = one_most (has_number (numbers_in x.urls) n) in
    omega arith

-- what the answer says of the rule that may be broken
pub third_kept : (b : Bool) → is_none {T = ℕ} (cond (not b) (Some 3) None) ≡ true → b ≡ true
third_kept true h = refl
third_kept false h = absurd (false≢true h)

pub fifth_kept : (b : Bool) → is_none {T = ℕ} (cond (not b) (Some 5) None) ≡ true → b ≡ true
fifth_kept true h = refl
fifth_kept false h = absurd (false≢true h)

pub same_numbers : (ns ms : List ℕ) → pointwise nat_eq ns ms ≡ true → ns ≡ ms
same_numbers [] [] h = refl
same_numbers [] (m ∷ ms) h = absurd (false≢true h)
same_numbers (n ∷ ns) [] h = absurd (false≢true h)
same_numbers (n ∷ ns) (m ∷ ms) h =
    let parts = and_parts (nat_eq n m) (pointwise nat_eq ns ms) h in
    ap (λ k. k ∷ ns) (eqb-true n m parts.0) ∙ ap (λ (ks : List ℕ). m ∷ ks) (same_numbers ns ms parts.1)

abbrev Waits : Progress → Type 0
Waits p = IsWaiting p.waiting

-- how far the crawl has come by one event more
pub course_more : (x : CoreState) (event : Event) (places : List Place) → course (with_event event places x) ≡ after_event (course x) event places
course_more x event places = after_more (before_all x.settings.queues x.settings.buckets) x.events (event, places)

pub pass_kept : (x : CoreState) (places : List Place) → IsCore x → may_pass x places ≡ true → IsCore (with_event (pass_event x) places x)
pass_kept x places is may =
    let q = judged_in x in
    let told : Progress = record (course x) { begun = true; sent = q } in
    let both = and_parts (is_none {T = ℕ} (cond (not (passes_on told (Pass q) places)) (Some 3) None)) (pointwise nat_eq (unread x (numbers_of places)) (unread x (url_numbers x))) may in
    let parts = pass_parts told q places (third_kept (passes_on told (Pass q) places) both.0) in
    let same = same_numbers (unread x (numbers_of places)) (unread x (url_numbers x)) both.1 in
    let more = course_more x (Pass q) places in
    record {
      settings = is.settings;
      urls = is.urls;
      buckets = is.buckets;
      rule = is.rule;
      arrays = is.arrays;
      each = is.each;
      room = is.room;
      acknowledged = is.acknowledged;
      waiting = subst Waits (sym more) (pass_waiting (course x) q places is.waiting parts);
      read = (let P : Progress → Type 0 = λ p. p.read ≤ q in subst P (sym more) (omega arith));
      fronts = (let P : Progress → Type 0 = λ p. IsBelow p.fronts (lengths_of x.urls) in subst P (sym more) is.fronts);
      once = λ n.
          let P : Progress → Type 0 = λ p. count n (from_on p.read (numbers_in x.urls)) + stands p n ≡ one_if (has_number (numbers_in x.urls) n) in
          let before : count n (from_on (course x).read (numbers_in x.urls)) + stands (course x) n ≡ one_if (has_number (numbers_in x.urls) n) = is.once n in
          let none : count n (from_on q (numbers_in x.urls)) ≡ 0 = count_all_read n x.urls in
          let all : count n (from_on (course x).read (numbers_of places)) ≡ count n (from_on (course x).read (numbers_in x.urls)) = ap (count n) same in
          let stood : stands (after_event (course x) (Pass q) places) n ≡ stands (course x) n + count n (from_on (course x).read (numbers_of places)) =
          pass_stands (course x) q places is.waiting parts n (unread_nowhere x is n) in
          let now : count n (from_on q (numbers_in x.urls)) + stands (after_event (course x) (Pass q) places) n ≡ one_if (has_number (numbers_in x.urls) n) = omega arith in
          subst P (sym more) now;
    }

pub settle_kept : (x : CoreState) (outcomes : List (ℕ × Outcome)) → IsCore x → may_settle x outcomes ≡ true → IsCore (with_event (settle_event x outcomes) [] x)
settle_kept x outcomes is may =
    let fronts = lengths_of x.urls in
    let told : Progress = record (course x) { begun = true; sent = judged_in x } in
    let parts = settle_parts told fronts outcomes (fifth_kept (settles told (Settle fronts outcomes)) may) in
    let more = course_more x (Settle fronts outcomes) [] in
    record {
      settings = is.settings;
      urls = is.urls;
      buckets = is.buckets;
      rule = is.rule;
      arrays = is.arrays;
      each = is.each;
      room = is.room;
      acknowledged = is.acknowledged;
      waiting = subst Waits (sym more) is.waiting;
      read = (let P : Progress → Type 0 = λ p. p.read ≤ judged_in x in subst P (sym more) is.read);
      fronts = (let P : Progress → Type 0 = λ p. IsBelow p.fronts fronts in subst P (sym more) (below_same fronts));
      once = λ n.
          let P : Progress → Type 0 = λ p. count n (from_on p.read (numbers_in x.urls)) + stands p n ≡ one_if (has_number (numbers_in x.urls) n) in
          let before : count n (from_on (course x).read (numbers_in x.urls)) + stands (course x) n ≡ one_if (has_number (numbers_in x.urls) n) = is.once n in
          let stood : stands (after_event (course x) (Settle fronts outcomes) []) n ≡ stands (course x) n =
          settle_stands (course x) fronts outcomes n (record { front = parts.front; distinct = parts.distinct }) (stands_most x is n) in
          let now : count n (from_on (course x).read (numbers_in x.urls)) + stands (after_event (course x) (Settle fronts outcomes) []) n ≡ one_if (has_number (numbers_in x.urls) n) = omega arith in
          subst P (sym more) now;
    }

-- ---- a stop
pub emptied_kept : (x : CoreState) → IsCore x → IsCore (emptied x)
emptied_kept x is = record {
  settings = is.settings;
  urls = is.urls;
  buckets = is.buckets;
  rule = is.rule;
  arrays = length-map x.arrays (λ (array : List Tuple). []) ∙ is.arrays;
  each = each_emptied x.settings.buckets 0 x.arrays;
  room = λ b. (let none : length (get_or {A = List Tuple} (map (λ (array : List Tuple). []) x.arrays) b []) ≡ 0 = ap length (emptied_at x.arrays b) in omega arith);
  acknowledged = is.acknowledged;
  waiting = is.waiting;
  read = is.read;
  fronts = is.fronts;
  once = is.once;
}

-- ---- every step
-- what holds of the state before and of the one that a step makes holds of the state after
pub taken_state : (P : CoreState → Type 0) (b : Bool) (old new : CoreState) (reply : Reply) → P old → (b ≡ true → P new) → P (taken_if b old new reply).0
taken_state P true old new reply h k = k refl
taken_state P false old new reply h k = h

pub stopped_state : (P : CoreState → Type 0) (took : Bool) (effect : CoreState → CoreState) (x : CoreState) → ((y : CoreState) → P y → P (emptied y)) → P x → P (effect x) → P (stopped took effect x)
stopped_state P true effect x empties h k = empties (effect x) k
stopped_state P false effect x empties h k = empties x h

pub step_kept : (x : CoreState) (s : Step) → IsCore x → IsCore (step x s).0
step_kept x (Offer b offer) is = taken_state IsCore (may_offer x b offer) x (with_offer b offer x) _ is (offer_kept x b offer is)
step_kept x (Flush b) is = taken_state IsCore (may_flush x b) x (with_word b (with_list b x)) _ is (λ may. word_kept (with_list b x) b (list_kept x b is))
step_kept x Merge is = taken_state IsCore (may_merge x) x (with_cut x) _ is (cut_kept x is)
step_kept x Stop is = emptied_kept x is
step_kept x (FlushStop b took) is =
    taken_state IsCore (may_flush x b) x (stopped took (with_list b) x) _ is (λ may. stopped_state IsCore took (with_list b) x emptied_kept is (list_kept x b is))
step_kept x (MergeStop took) is =
    taken_state IsCore (may_merge x) x (stopped took with_cut x) _ is (λ may. stopped_state IsCore took with_cut x emptied_kept is (cut_kept x is may))
step_kept x (PassStep places) is = taken_state IsCore (may_pass x places) x (with_event (pass_event x) places x) _ is (pass_kept x places is)
step_kept x (SettleStep outcomes) is = taken_state IsCore (may_settle x outcomes) x (with_event (settle_event x outcomes) [] x) _ is (settle_kept x outcomes is)
step_kept x (SettleStop outcomes took) is =
    taken_state IsCore (may_settle x outcomes) x (stopped took (with_event (settle_event x outcomes) []) x) _ is
    (λ may. stopped_state IsCore took (with_event (settle_event x outcomes) []) x emptied_kept is (settle_kept x outcomes is may))

pub steps_kept : (x : CoreState) (steps : List Step) → IsCore x → IsCore (after_steps x steps)
steps_kept x [] is = is
steps_kept x (s ∷ steps) is = steps_kept (step x s).0 steps (step_kept x s is)

pub core_kept : (settings : Settings) (steps : List Step) → AreValid settings → IsCore (core_of settings steps)
core_kept settings steps valid = steps_kept (new_core settings) steps (new_kept settings valid)

-- one step more
pub steps_more : (x : CoreState) (steps : List Step) (s : Step) → after_steps x (steps ++ s ∷ []) ≡ (step (after_steps x steps) s).0
steps_more x [] s = refl
steps_more x (t ∷ steps) s = steps_more (step x t).0 steps s
