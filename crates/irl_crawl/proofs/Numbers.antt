-- How often numbers stand in lists, and that what stands in a crawl's front is a unique URL, and stands there once.
use Rattle.std.proofs.Common.{◌≡◌, ◌≢◌, ◌∙◌, ℕ, ◌+◌, ◌≤◌, nat_eq, Bool, true, false, ◌||◌, List, [], ◌∷◌, ◌++◌, length, take, get_or, refl, sym, ap, subst, arith}
use Rattle.std.specs.Prelude.{AllPairs}
use Rattle.std.specs.List.{All, Contains, sum_by}
use Rattle.std.specs.List.Sorted.{IsPermutation}
use Rattle.std.proofs.lemmas.Bool.{eq-eqb, eqb-true}
use Rattle.std.proofs.lemmas.List.{length-take}
use Rattle.std.proofs.lemmas.List.Elements.{Contains-get_or}
use Rattle.std.proofs.lemmas.List.Kept.{AllPairs-cons}
use Rattle.std.proofs.lemmas.List.Sorted.{length_permutation, sum_by-IsPermutation}
use Rattle.std.proofs.lemmas.List.Sums.{sum_by-append, sum_by-cons, sum_by-take-le}
use Rattle.irl_core.proofs.Opened.{opened_kept}
use Rattle.irl_core.proofs.StateLemmas.{legal_stored}
use Rattle.irl_core.proofs.Stores.{alike_steps}
use Rattle.irl_core.specs.Steps.{unread, url_numbers}
use Rattle.irl_core.specs.Stores.{opened_core, steps_among}
use Rattle.irl_events.specs.Events.{Progress, has_number, progress}
use Rattle.irl_events.specs.State.{State}
use Rattle.irl_fate.proofs.Counting.{one_true}
use Rattle.irl_fate.proofs.Crawls.{crawl_once}
use Rattle.irl_fate.specs.Fronts.{AreFirst}
use Rattle.irl_fate.specs.Reads.{was_read}
use Rattle.irl_fate.specs.Standing.{count, one_if, stands}
use Rattle.irl_key.specs.Key.{key_of}
use Rattle.irl_offer.specs.declared.settings.Settings.{Settings}
use Rattle.irl_reach.specs.Crawls.{IsCrawlStore, domain_of, numbers_in}
use Rattle.irl_reach.proofs.Members.{first_member, later_member}
use Rattle.irl_reach.proofs.Settled.{member_count}

-- ---- counts
count_sum : (n : ℕ) (ns : List ℕ) → count n ns ≡ sum_by (λ m. one_if (nat_eq m n)) ns
count_sum n [] = refl
count_sum n (m ∷ ns) = ap (λ k. one_if (nat_eq m n) + k) (count_sum n ns) ∙ sym (sum_by-cons (λ m. one_if (nat_eq m n)) m ns)

pub count_permuted : (n : ℕ) (xs ys : List ℕ) → IsPermutation xs ys → count n ys ≡ count n xs
count_permuted n xs ys is = count_sum n ys ∙ sum_by-IsPermutation (λ m. one_if (nat_eq m n)) xs ys is ∙ sym (count_sum n xs)

pub count_both : (n : ℕ) (xs ys : List ℕ) → count n (xs ++ ys) ≡ count n xs + count n ys
count_both n xs ys =
    let f : ℕ → ℕ = λ m. one_if (nat_eq m n) in
    count_sum n (xs ++ ys) ∙ sum_by-append f xs ys ∙ ap (λ k. k + sum_by f ys) (sym (count_sum n xs)) ∙ ap (λ k. count n xs + k) (sym (count_sum n ys))

count_first : (n : ℕ) (most : ℕ) (ns : List ℕ) → count n (take most ns) ≤ count n ns
count_first n most ns =
    let f : ℕ → ℕ = λ m. one_if (nat_eq m n) in
    omega (arith, count_sum n (take most ns), count_sum n ns, sum_by-take-le f ns most)

has_member : (ns : List ℕ) (n : ℕ) → has_number ns n ≡ true → Contains ns n
has_member [] n h = absurd (cc)
has_member (m ∷ ns) n h = by (nat_eq m n) refl (has_member ns n) h
  where
    by : (b : Bool) → nat_eq m n ≡ b → (has_number ns n ≡ true → Contains ns n) → (b || has_number ns n) ≡ true → Contains (m ∷ ns) n
    by true e later h = subst (λ k. Contains (m ∷ ns) k) (eqb-true m n e) (first_member m ns)
    by false e later h = later_member m ns n (later h)

pub counted_member : (ns : List ℕ) (n : ℕ) → 1 ≤ count n ns → Contains ns n
counted_member [] n h = absurd (omega arith)
counted_member (m ∷ ns) n h = by (nat_eq m n) refl (counted_member ns n) h
  where
    by : (b : Bool) → nat_eq m n ≡ b → (1 ≤ count n ns → Contains ns n) → 1 ≤ one_if b + count n ns → Contains (m ∷ ns) n
    by true e later h = subst (λ k. Contains (m ∷ ns) k) (eqb-true m n e) (first_member m ns)
    by false e later h = later_member m ns n (later (omega arith))

-- numbers that each stand once differ
pub once_differ : (ns : List ℕ) → ((n : ℕ) → count n ns ≤ 1) → AllPairs (λ x y. x ≢ y) ns
once_differ [] once = λ i j d lt within. absurd (omega arith)
once_differ (m ∷ ns) once =
    let head : All (λ n. m ≢ n) ns = λ k d lt same.
    let there : Contains ns (get_or ns k d) = Contains-get_or ns k d lt in
    let some : 1 ≤ count m ns = member_count ns m (subst (λ n. Contains ns n) (sym same) there) in
    let here : one_if (nat_eq m m) ≡ 1 = one_true (nat_eq m m) (eq-eqb m m refl) in
    let most : one_if (nat_eq m m) + count m ns ≤ 1 = once m in
    omega (arith, some, here, most) in
    AllPairs-cons (λ x y. x ≢ y) m ns head (once_differ ns (λ n.
    let most : one_if (nat_eq m n) + count n ns ≤ 1 = once n in
    omega (arith, most)))

-- ---- the front
at_most_one : (b : Bool) → one_if b ≤ 1
at_most_one true = omega arith
at_most_one false = omega arith

module _ (settings : Settings) (state : State) (is : IsCrawlStore settings state) where
  abbrev reached : Progress
  reached = progress settings.queues settings.buckets state.events

  pub front_once : (n : ℕ) → count n reached.front ≤ 1
  front_once n =
      let queues = is.valid.budgets.queues in
      let once = crawl_once settings.queues settings.buckets state.events n (queues.0, queues.1, is.legal.rules) in
      let most = at_most_one (was_read state.events n) in
      omega (arith, once, most)

  pub front_unique : (n : ℕ) → Contains reached.front n → Contains (numbers_in state.urls) n
  front_unique n there =
      let core = opened_core settings state.urls state.events in
      let stored = legal_stored domain_of key_of settings state.urls state.pairs is.book state.events is.valid is.buckets is.rule is.legal in
      let y : Progress = progress settings.queues settings.buckets (steps_among state.events) in
      let once : count n (unread core (url_numbers core)) + stands y n ≡ one_if (has_number (numbers_in state.urls) n) = (opened_kept settings state.urls state.events stored).once n in
      let front : reached.front ≡ y.front = (alike_steps settings.queues settings.buckets state.events).front in
      let least : 1 ≤ count n y.front = member_count y.front n (subst (λ ns. Contains ns n) front there) in
      by (has_number (numbers_in state.urls) n) refl (omega (arith, once, least))
    where
      by : (b : Bool) → has_number (numbers_in state.urls) n ≡ b → 1 ≤ one_if b → Contains (numbers_in state.urls) n
      by true e least = has_member (numbers_in state.urls) n e
      by false e least = absurd (omega arith)

  -- the first so many of the front, in some order
  module _ (most : ℕ) (numbers loaded : List ℕ) (first : AreFirst reached.front most numbers) (each : IsPermutation loaded numbers) where
    loaded_counts : (n : ℕ) → count n loaded ≤ count n reached.front
    loaded_counts n =
        let same : count n numbers ≡ count n loaded = count_permuted n loaded numbers each in
        let taken : count n numbers ≡ count n (take most first.all) = ap (λ ns. count n ns) first.first in
        omega (arith, same, taken, count_first n most first.all, first.same n)

    pub loaded_once : (n : ℕ) → count n loaded ≤ 1
    loaded_once n = omega (arith, loaded_counts n, front_once n)

    pub loaded_front : (n : ℕ) → Contains loaded n → Contains reached.front n
    loaded_front n there = counted_member reached.front n (omega (arith, loaded_counts n, member_count loaded n there))

    pub loaded_most : length loaded ≤ most
    loaded_most =
        let same : length numbers ≡ length loaded = length_permutation loaded numbers each in
        let taken : length numbers ≡ length (take most first.all) = ap length first.first in
        omega (arith, same, taken, length-take most first.all)
