-- What holds of each event and of those before it, one event after another.
use Rattle.std.proofs.Common.{◌≡◌, ◌∙◌, ℕ, zero, suc, ◌+◌, ◌-◌, ◌<◌, ◌≤◌, nat_eq, nat_le, nat_lt, ◌&&◌, Bool, true, false, not, cond, if◌then◌else◌, List, [], ◌∷◌, ◌++◌, map, length, take, get_or, set, replicate, refl, sym, ap, subst, append_assoc, length-append, arith, Option, None, Some}
use Rattle.std.specs.Prelude.{unwrap_or, option_map, find, sum}
use Rattle.std.specs.Option.{option_or}
use Rattle.std.specs.List.{AllByRecursion, filter}
use Rattle.std.proofs.lemmas.Bool.{and_parts, and_right, cond-false, eqb-true, false≢true, le-ltb, ltb-true, ne_eqb}
use Rattle.std.proofs.lemmas.List.{append-nil, take-append-le}
use Rattle.std.proofs.lemmas.List.Elements.{filter-append}
use Rattle.std.proofs.lemmas.List.Folds.{find-append}
use Rattle.irl_offer.specs.Settings.{AreValid}
use Rattle.irl_offer.specs.declared.place.Place.{Place}
use Rattle.irl_offer.specs.declared.place.Slot.{Slot}
use Rattle.irl_offer.specs.declared.place.Slot.TheVariants.{Front, Queue, Last}
use Rattle.irl_offer.specs.declared.receipt.Judged.{Judged}
use Rattle.irl_offer.specs.declared.settings.Settings.{Settings}
use Rattle.irl_offer.specs.Tuple.{Tuple}
use Rattle.irl_model.specs.Book.{Book, IsBook, IsFront, IsBelow, ArePrefixes, at_cut, gone, is_unique, judged, judged_offers, lengths_of, list_lengths, stretches, uniques, uniques_from, with_cuts}
use Rattle.irl_events.specs.Events.{Event, Begin, Pairs, Pass, Robots, Settle, Happened, Progress, after_event, before_all, numbers_of, progress}
use Rattle.irl_events.specs.Legal.{AreLegalAfter, are_read, are_rising, begins_once, broken, pairs_rise, passes_on}
use Rattle.irl_events.specs.Links.{AreAlike, first_with, linked, pair_offers, pairs as pairs_of}
use Rattle.irl_base.specs.Lists.{list_at, with_one}
use Rattle.irl_events.specs.Queues.{Waiting, delivered, next_queues, put, round_ended}
use Rattle.irl_model.proofs.FrontLaws.{front_same, judged_front, judged_offers_front, stretches_same}
use Rattle.irl_events.proofs.LinkLemmas.{pairs-append}
use Rattle.irl_model.proofs.Merges.{earlier_all, earlier_book, earlier_front, length-judged, uniques_from-append}
use Rattle.irl_model.proofs.Stretches.{below_both}
use Rattle.irl_star.specs.Budgets.{budget}
use Rattle.irl_beast.specs.declared.item.Item.{Item}
use Rattle.irl_beast.specs.Passes.{item_numbers}
use Rattle.irl_beast.specs.Places.{place}
use Rattle.irl_beast.proofs.LegalPasses.{place_numbers}
use Rattle.irl_events.proofs.Following.{after_more}
use Rattle.irl_fate.proofs.Applying.{lawful_more}
use Rattle.irl_fate.proofs.Steps.{PassParts, pass_parts}
use Rattle.irl_core.specs.States.{AreOffered, HoldsLinks, IsLegalState, IsOfBooks, begun_with, cut_count, item_of, judged_by, offers_of, read_by, suffixes_of, uniques_within, url_text}
use Rattle.irl_core.specs.Stores.{AreOfUrls, IsOfUrls, IsStored}

-- each of some events has P, with those before it, the first of which are these
abbrev pub Along : (List Happened → Happened → Type 0) → List Happened → List Happened → Type 0
Along P seen [] = Unit {0}
Along P seen (h ∷ hs) = P seen h × Along P (seen ++ h ∷ []) hs

pub each-along : (P : List Happened → Happened → Type 0) (seen events before : List Happened) (h : Happened) (after : List Happened) → Along P seen events → events ≡ before ++ h ∷ after
    → P (seen ++ before) h
each-along P seen [] [] h after all is = absurd (cc)
each-along P seen [] (b ∷ before) h after all is = absurd (cc)
each-along P seen (e ∷ es) [] h after all is =
    let same : e ≡ h = cc in
    subst (λ (y : Happened). P (seen ++ []) y) same (subst (λ (hs : List Happened). P hs e) (sym (append-nil seen)) all.0)
each-along P seen (e ∷ es) (b ∷ before) h after all is =
    let same : e ≡ b = cc in
    let rest : es ≡ before ++ h ∷ after = cc in
    let there : P ((seen ++ e ∷ []) ++ before) h = each-along P (seen ++ e ∷ []) es before h after all.1 rest in
    subst (λ (hs : List Happened). P hs h) (append_assoc seen (e ∷ []) before ∙ ap (λ (y : Happened). seen ++ y ∷ before) same) there

pub along-each : (P : List Happened → Happened → Type 0) (seen events : List Happened)
    → ((before : List Happened) (h : Happened) (after : List Happened) → events ≡ before ++ h ∷ after → P (seen ++ before) h) → Along P seen events
along-each P seen [] all = tt
along-each P seen (e ∷ es) all =
    let here : P seen e = subst (λ (hs : List Happened). P hs e) (append-nil seen) (all [] e es refl) in (
      here,
      along-each P (seen ++ e ∷ []) es (λ before h after is. subst (λ (hs : List Happened). P hs h) (sym (append_assoc seen (e ∷ []) before))
          (all (e ∷ before) h after (ap (λ (hs : List Happened). e ∷ hs) is))),
    )

pub along-more : (P : List Happened → Happened → Type 0) (seen events : List Happened) (h : Happened) → Along P seen events → P (seen ++ events) h → Along P seen (events ++ h ∷ [])
along-more P seen [] h all one = (subst (λ (hs : List Happened). P hs h) (append-nil seen) one, tt)
along-more P seen (e ∷ es) h all one =
    (all.0, along-more P (seen ++ e ∷ []) es h all.1 (subst (λ (hs : List Happened). P hs h) (sym (append_assoc seen (e ∷ []) es)) one))

module _ (domain : List ℕ → List ℕ → List ℕ) (key : List ℕ → ℕ) (settings : Settings) (urls pairs : Book) where
  abbrev come : List Happened → Progress
  come events = progress settings.queues settings.buckets events

  -- what the books say of each event, by this suffix text
  abbrev ByBooks : List ℕ → List Happened → Happened → Type 0
  ByBooks suffixes before h = IsOfBooks (domain suffixes) key settings urls pairs (come before) h.0 h.1

  begun-more : (event : Event) → offers_of pairs ≡ [] → HoldsLinks domain key urls pairs (suffixes_of event)
  begun-more (Begin suffixes) none = subst (λ (os : List Tuple). AreOffered (pairs_of (domain suffixes) key urls (cut_count urls)) os) (sym none) nothing_offered
    where
      nothing_offered : AreOffered (pairs_of (domain suffixes) key urls (cut_count urls)) []
      nothing_offered = record { each = λ k other within. absurd (omega arith); first = λ k other is. absurd (cc) }
  begun-more (Pairs cuts judged sent) none = none
  begun-more (Pass judged) none = none
  begun-more (Robots note) none = none
  begun-more (Settle fronts outcomes) none = none

  pub legal-more : (events : List Happened) (event : Event) (places : List Place) → IsLegalState domain key settings urls pairs events → broken (come events) event places ≡ None
      → IsOfBooks (domain (unwrap_or (begun_with (events ++ (event, places) ∷ [])) [])) key settings urls pairs (come events) event places
      → IsLegalState domain key settings urls pairs (events ++ (event, places) ∷ [])
  legal-more [] event places legal keeps books = record {
    rules = (keeps, tt);
    each = λ before after e p is. each-along (ByBooks (unwrap_or (suffixes_of event) [])) [] ((event, places) ∷ []) before (e, p) after (books, tt) is;
    links = begun-more event legal.links;
  }
  legal-more (h ∷ hs) event places legal keeps books =
      let Q : List Happened → Happened → Type 0 = ByBooks (unwrap_or (suffixes_of h.0) []) in
      let all : Along Q [] (h ∷ hs) = along-each Q [] (h ∷ hs) (λ before e after is. legal.each before after e.0 e.1 is) in
      record {
        rules = lawful_more (come (h ∷ hs)) event places keeps settings.queues settings.buckets (h ∷ hs) refl legal.rules;
        each = λ before after e p is. each-along Q [] (h ∷ hs ++ (event, places) ∷ []) before (e, p) after (along-more Q [] (h ∷ hs) (event, places) all books) is;
        links = legal.links;
      }

-- ---- books that grow
-- P of each part of a list, where one part changes or others come
all_set : {X : Type 0} (P : X → Type 0) (xs : List X) (at : ℕ) (x : X) → AllByRecursion P xs → P x → AllByRecursion P (set xs at x)
all_set P [] at x all one = tt
all_set P (y ∷ ys) zero x all one = (one, all.1)
all_set P (y ∷ ys) (suc at) x all one = (all.0, all_set P ys at x all.1 one)

all_at : {X : Type 0} (P : X → Type 0) (xs : List X) (at : ℕ) (d : X) → AllByRecursion P xs → P d → P (get_or xs at d)
all_at P [] at d all one = one
all_at P (y ∷ ys) zero d all one = all.0
all_at P (y ∷ ys) (suc at) d all one = all_at P ys at d all.1 one

all_append : {X : Type 0} (P : X → Type 0) (xs ys : List X) → AllByRecursion P xs → AllByRecursion P ys → AllByRecursion P (xs ++ ys)
all_append P [] ys all more = more
all_append P (x ∷ xs) ys all more = (all.0, all_append P xs ys all.1 more)

-- numbers that all lie below another, and lists of such
abbrev AreLow : ℕ → List ℕ → Type 0
AreLow t ns = AllByRecursion (λ n. n < t) ns

abbrev AreLowLists : ℕ → List (List ℕ) → Type 0
AreLowLists t lists = AllByRecursion (λ list. AllByRecursion (λ n. n < t) list) lists

low_set : (t : ℕ) (lists : List (List ℕ)) (at : ℕ) (list : List ℕ) → AreLowLists t lists → AreLow t list → AreLowLists t (set lists at list)
low_set t lists at list all one = all_set (AreLow t) lists at list all one

low_at : (t : ℕ) (lists : List (List ℕ)) (at : ℕ) → AreLowLists t lists → AreLow t (list_at lists at)
low_at t lists at all = all_at (AreLow t) lists at [] all tt

low_one : (t : ℕ) (lists : List (List ℕ)) (at n : ℕ) → AreLowLists t lists → n < t → AreLowLists t (with_one lists at n)
low_one t lists at n all lt = low_set t lists at (list_at lists at ++ n ∷ []) all (all_append (λ (m : ℕ). m < t) (list_at lists at) (n ∷ []) (low_at t lists at all) (lt, tt))

low_put : (t : ℕ) (lists : List (List ℕ)) (n : ℕ) (slot : Slot) → AreLowLists t lists → n < t → AreLowLists t (put lists n slot)
low_put t lists n Front all lt = all
low_put t lists n (Queue number) all lt = low_one t lists (number - 1) n all lt
low_put t lists n Last all lt = low_one t lists 64 n all lt

low_delivered : (t : ℕ) (lists : List (List ℕ)) (ns : List ℕ) (places : List Place) → AreLowLists t lists → AreLow t ns → AreLowLists t (delivered lists ns places)
unfolding delivered
low_delivered t lists [] places all low = all
low_delivered t lists (n ∷ ns) [] all low = all
low_delivered t lists (n ∷ ns) (place ∷ places) all low = low_delivered t (put lists n place.slot) ns places (low_put t lists n place.slot all low.0) low.1

abbrev ended_by : Bool → List (List ℕ) → ℕ → ℕ → Waiting ℕ
ended_by b lists queues passes =
    if b then record { lists = lists; queues = queues; passes = passes }
    else record { lists = set (set lists 64 []) 0 (list_at lists 64); queues = next_queues queues (list_at lists 64); passes = 0 }

low_ended : (t : ℕ) (lists : List (List ℕ)) (queues passes : ℕ) → AreLowLists t lists → AreLowLists t (round_ended lists queues passes).lists
low_ended t lists queues passes all = by (nat_lt passes queues)
  where
    by : (b : Bool) → AreLowLists t (ended_by b lists queues passes).lists
    by true = all
    by false = low_set t (set lists 64 []) 0 (list_at lists 64) (low_set t lists 64 [] all tt) (low_at t lists 64 all)

low_blank : (t n : ℕ) → AreLowLists t (replicate n [])
low_blank t zero = tt
low_blank t (suc n) = (tt, low_blank t n)

low_rising : (t from to : ℕ) (ns : List ℕ) → are_rising from to ns ≡ true → to ≤ t → AreLow t ns
low_rising t from to [] h le = tt
low_rising t from to (n ∷ ns) h le =
    let parts = and_parts (nat_le from n && nat_lt n to) (are_rising (n + 1) to ns) h in
    let two = and_parts (nat_le from n) (nat_lt n to) parts.0 in
    let lt : n < to = ltb-true n to two.1 in
    (omega arith, low_rising t (n + 1) to ns parts.1 le)

low_read : (t : ℕ) (queue : List ℕ) (from to : ℕ) (ns : List ℕ) → are_read queue from to ns ≡ true → AreLow t queue → to ≤ t → AreLow t ns
low_read t [] from to ns h low le = low_rising t from to ns h le
low_read t (q ∷ queue) from to [] h low le = absurd (false≢true h)
low_read t (q ∷ queue) from to (n ∷ ns) h low le =
    let parts = and_parts (nat_eq q n) (are_read queue from to ns) h in
    (subst (λ (m : ℕ). m < t) (eqb-true q n parts.0) low.0, low_read t queue from to ns parts.1 low.1 le)

third_rule : (a b c : Bool) (rest : Option ℕ) → (if not a then Some 1 else (if not b then Some 2 else (if not c then Some 3 else rest))) ≡ None → c ≡ true
third_rule true true true rest h = refl
third_rule true true false rest h = absurd (cc)
third_rule true false c rest h = absurd (cc)
third_rule false b c rest h = absurd (cc)

-- ---- unique offers behind a number
high_uniques : (t n : ℕ) (js : List Judged) → t ≤ n → AllByRecursion (λ (p : ℕ × Tuple). t ≤ p.0) (uniques_from n js)
high_uniques t n [] le = tt
high_uniques t n (j ∷ js) le = by (is_unique j.verdict) refl (high_uniques t (n + 1) js (omega arith))
  where
    by : (unique : Bool) → is_unique j.verdict ≡ unique → AllByRecursion (λ (p : ℕ × Tuple). t ≤ p.0) (uniques_from (n + 1) js) → AllByRecursion (λ (p : ℕ × Tuple). t ≤ p.0) (uniques_from n (j ∷ js))
    by true e rest = rw e (le, rest)
    by false e rest = rw e rest

abbrev is_within : ℕ → ℕ → ℕ × Tuple → Bool
is_within from to p = nat_le from p.0 && nat_lt p.0 to

none_within : (t from to : ℕ) (us : List (ℕ × Tuple)) → to ≤ t → AllByRecursion (λ (p : ℕ × Tuple). t ≤ p.0) us → filter (is_within from to) us ≡ []
none_within t from to [] le high = refl
none_within t from to (u ∷ us) le high =
    let above : t ≤ u.0 = high.0 in
    cond-false (is_within from to u) (u ∷ filter (is_within from to) us) (filter (is_within from to) us) (and_right (nat_le from u.0) (nat_lt u.0 to) (le-ltb u.0 to (omega arith)))
    ∙ none_within t from to us le high.1

none_at : (t n : ℕ) (us : List (ℕ × Tuple)) → n < t → AllByRecursion (λ (p : ℕ × Tuple). t ≤ p.0) us → find (λ (p : ℕ × Tuple). nat_eq p.0 n) us ≡ None
none_at t n [] lt high = refl
none_at t n (u ∷ us) lt high =
    let above : t ≤ u.0 = high.0 in
    cond-false (nat_eq u.0 n) (Some u) (find (λ (p : ℕ × Tuple). nat_eq p.0 n) us) (ne_eqb u.0 n (λ e. omega arith)) ∙ none_at t n us lt high.1

low_within : (t from to : ℕ) (us : List (ℕ × Tuple)) → to ≤ t → AreLow t (map (λ (p : ℕ × Tuple). p.0) (filter (is_within from to) us))
low_within t from to [] le = tt
low_within t from to (u ∷ us) le = by (nat_le from u.0) (nat_lt u.0 to) refl (low_within t from to us le)
  where
    by : (a b : Bool) → nat_lt u.0 to ≡ b → AreLow t (map (λ (p : ℕ × Tuple). p.0) (filter (is_within from to) us))
        → AreLow t (map (λ (p : ℕ × Tuple). p.0) (cond (a && b) (u ∷ filter (is_within from to) us) (filter (is_within from to) us)))
    by true true e rest = (let lt : u.0 < to = ltb-true u.0 to e in omega arith, rest)
    by true false e rest = rest
    by false b e rest = rest

or_none : {X : Type 0} (o : Option X) → option_or o None ≡ o
or_none None = refl
or_none (Some x) = refl

longer_lists : (firsts : List ℕ) (lists more : List (List Tuple)) → ArePrefixes lists more → IsBelow (list_lengths firsts lists) (list_lengths firsts more)
longer_lists [] lists more h = tt
longer_lists (f ∷ fs) [] [] h = tt
longer_lists (f ∷ fs) [] (m ∷ more) h = absurd h
longer_lists (f ∷ fs) (l ∷ lists) [] h = absurd h
longer_lists (f ∷ fs) (l ∷ lists) (m ∷ more) h = (omega (arith, ap length h.0.1, length-append l h.0.0), longer_lists fs lists more h.1)

-- ---- a book and one that it is a front of
module _ (book more : Book) (is : IsBook book) (front : IsFront book more) where
  abbrev pub total : ℕ
  total = gone book + length (judged book)

  pub cuts_same : (n : ℕ) → n ≤ cut_count book → judged_offers (at_cut n more) ≡ judged_offers (at_cut n book)
  cuts_same n le =
      let k = n - book.dropped in
      let there : k ≤ length book.cuts = omega arith in
      ap (λ (fs : List ℕ). stretches fs fs (take (n - more.dropped) more.cuts) more.lists) front.firsts
      ∙ ap (λ (d : ℕ). stretches book.firsts book.firsts (take (n - d) more.cuts) more.lists) front.dropped
      ∙ ap (λ (cs : List (List ℕ)). stretches book.firsts book.firsts (take k cs) more.lists) front.cuts.1
      ∙ ap (λ (cs : List (List ℕ)). stretches book.firsts book.firsts cs more.lists) (take-append-le k book.cuts front.cuts.0 there)
      ∙ stretches_same book.firsts book.firsts (take k book.cuts) book.lists more.lists (earlier_book k book is).cuts front.lists

  pub judged_by_same : (n : ℕ) → n ≤ cut_count book → judged_by more n ≡ judged_by book n
  judged_by_same n le =
      ap (λ (fs : List ℕ). sum fs + length (judged_offers (at_cut n more))) front.firsts
      ∙ ap (λ (os : List Tuple). gone book + length os) (cuts_same n le)

  pub judged_within : (n : ℕ) → judged_by book n ≤ total
  judged_within n =
      let k = n - book.dropped in
      let h = judged_offers_front (with_cuts k book) book (earlier_book k book is) (earlier_front k book) in
      omega (arith, ap length h.1, length-append (judged_offers (with_cuts k book)) h.0, length-judged book)

  pub cuts_more : cut_count book ≤ cut_count more
  cuts_more = omega (arith, front.dropped, ap length front.cuts.1, length-append book.cuts front.cuts.0)

  lengths_more : IsBelow (lengths_of book) (lengths_of more)
  lengths_more = subst (λ (fs : List ℕ). IsBelow (lengths_of book) (list_lengths fs more.lists)) (sym front.firsts) (longer_lists book.firsts book.lists more.lists front.lists)

  abbrev pub later : List (ℕ × Tuple)
  later = uniques_from (gone book + length (judged book)) (judged_front book more is front).0

  later_high : AllByRecursion (λ (p : ℕ × Tuple). total ≤ p.0) later
  later_high = high_uniques total total (judged_front book more is front).0 (omega arith)

  pub uniques_more : uniques more ≡ uniques book ++ later
  uniques_more =
      ap (λ (fs : List ℕ). uniques_from (sum fs) (judged more)) front.firsts
      ∙ ap (uniques_from (gone book)) (judged_front book more is front).1
      ∙ uniques_from-append (gone book) (judged book) (judged_front book more is front).0

  pub within_same : (from to : ℕ) → to ≤ total → uniques_within from to more ≡ uniques_within from to book
  within_same from to le =
      ap (filter (is_within from to)) uniques_more ∙ filter-append (is_within from to) (uniques book) later
      ∙ ap (λ (us : List (ℕ × Tuple)). uniques_within from to book ++ us) (none_within total from to later le later_high)
      ∙ append-nil (uniques_within from to book)

  pub text_same : (n : ℕ) → n < total → url_text more n ≡ url_text book n
  text_same n lt =
      let test : ℕ × Tuple → Bool = λ p. nat_eq p.0 n in
      let text : Option (ℕ × Tuple) → List ℕ = λ o. unwrap_or (option_map (λ (p : ℕ × Tuple). p.1.aux) o) [] in
      ap (λ (us : List (ℕ × Tuple)). text (find test us)) uniques_more
      ∙ ap text (find-append test (uniques book) later ∙ ap (λ (o : Option (ℕ × Tuple)). option_or (find test (uniques book)) o) (none_at total n later lt later_high)
      ∙ or_none (find test (uniques book)))

  items_same : (domain : List ℕ → List ℕ) (ns : List ℕ) → AreLow total ns → map (item_of domain more) ns ≡ map (item_of domain book) ns
  items_same domain [] low = refl
  items_same domain (n ∷ ns) low =
      ap (λ (text : List ℕ). record { number = n; pld = domain text } ∷ map (item_of domain more) ns) (text_same n low.0)
      ∙ ap (λ (is : List Item). item_of domain book n ∷ is) (items_same domain ns low.1)

  read_same : (domain : List ℕ → List ℕ) (x : Progress) (q : ℕ) → AreLowLists total x.waiting.lists → q ≤ total → read_by domain more x q ≡ read_by domain book x q
  read_same domain x q low le =
      let waits = list_at x.waiting.lists x.waiting.passes in
      ap (λ (us : List (ℕ × Tuple)). map (item_of domain more) (waits ++ map (λ (p : ℕ × Tuple). p.0) us)) (within_same x.read q le)
      ∙ items_same domain (waits ++ map (λ (p : ℕ × Tuple). p.0) (uniques_within x.read q book))
      (all_append (λ (n : ℕ). n < total) waits (map (λ (p : ℕ × Tuple). p.0) (uniques_within x.read q book)) (low_at total x.waiting.lists x.waiting.passes low)
      (low_within total x.read q (uniques book) le))

  pub all_judged : (b : Book) → judged_offers (at_cut (cut_count b) b) ≡ judged_offers b
  all_judged b = ap judged_offers (earlier_all (cut_count b - b.dropped) b (omega arith))

  module _ (domain : List ℕ → List ℕ) (key : List ℕ → ℕ) where
    pub pairs_same : (n : ℕ) → n ≤ cut_count book → pairs_of domain key more n ≡ pairs_of domain key book n
    pairs_same n le = ap (pair_offers domain key) (cuts_same n le)

    -- all links: those of the front, and others behind them
    pub links_more : (rest : List Tuple) × (pairs_of domain key more (cut_count more) ≡ pairs_of domain key book (cut_count book) ++ rest)
    links_more =
        let h = judged_offers_front book more is front in (
          pair_offers domain key h.0,
          ap (pair_offers domain key) (all_judged more ∙ h.1) ∙ pairs-append domain key (judged_offers book) h.0
              ∙ ap (λ (os : List Tuple). pair_offers domain key os ++ pair_offers domain key h.0) (sym (all_judged book)),
        )

    pub offered_more : (offers : List Tuple) → AreOffered (pairs_of domain key book (cut_count book)) offers → AreOffered (pairs_of domain key more (cut_count more)) offers
    offered_more offers h = record {
      each = h.each;
      first = λ k offer is.
          let test : Tuple → Bool = λ o. nat_eq o.key k in
          ap (find test) links_more.1 ∙ find-append test (pairs_of domain key book (cut_count book)) links_more.0
          ∙ ap (λ (o : Option Tuple). option_or o (find test links_more.0)) (h.first k offer is);
    }

-- ---- events beside books that grow
module _ (domain : List ℕ → List ℕ → List ℕ) (key : List ℕ → ℕ) (settings : Settings) (urls more pairs : Book) (is : IsBook urls) (front : IsFront urls more) where
  abbrev most : ℕ
  most = gone urls + length (judged urls)

  -- what waits, and what was sent, is of the URLs
  record IsLow (x : Progress) : Type 0 where
    cuts : x.cuts ≤ cut_count urls
    sent : x.sent ≤ most
    lists : AreLowLists most x.waiting.lists

  pass_of : (x : Progress) (q : ℕ) (places : List Place) → broken x (Pass q) places ≡ None → PassParts x q places
  pass_of x q places none = pass_parts x q places (third_rule (begins_once x (Pass q)) (pairs_rise x (Pass q)) (passes_on x (Pass q) places) _ none)

  low_after : (suffixes : List ℕ) (x : Progress) (event : Event) (places : List Place) → IsLow x → broken x event places ≡ None → IsOfBooks (domain suffixes) key settings urls pairs x event places
      → IsLow (after_event x event places)
  low_after suffixes x (Begin text) places low none books = record { cuts = low.cuts; sent = low.sent; lists = low.lists }
  low_after suffixes x (Pairs cuts many sent) places low none books =
      record { cuts = books.0.made; sent = omega (arith, books.0.counted, judged_within urls more is front cuts); lists = low.lists }
  low_after suffixes x (Pass q) places low none books =
      let parts = pass_of x q places none in
      let waits = list_at x.waiting.lists x.waiting.passes in
      let read : AreLow most (numbers_of places) = low_read most waits x.read q (numbers_of places) parts.numbers (low_at most x.waiting.lists x.waiting.passes low.lists)
      (omega (arith, parts.number, low.sent)) in
      record {
        cuts = low.cuts;
        sent = low.sent;
        lists = low_ended most (delivered (set x.waiting.lists x.waiting.passes []) (numbers_of places) places) x.waiting.queues (x.waiting.passes + 1)
            (low_delivered most (set x.waiting.lists x.waiting.passes []) (numbers_of places) places (low_set most x.waiting.lists x.waiting.passes [] low.lists tt) read);
      }
  low_after suffixes x (Robots note) places low none books = record { cuts = low.cuts; sent = low.sent; lists = low.lists }
  low_after suffixes x (Settle fronts outcomes) places low none books = record { cuts = low.cuts; sent = low.sent; lists = low.lists }

  of_more : (suffixes : List ℕ) (x : Progress) (event : Event) (places : List Place) → IsLow x → broken x event places ≡ None → IsOfBooks (domain suffixes) key settings urls pairs x event places
      → IsOfBooks (domain suffixes) key settings more pairs x event places
  of_more suffixes x (Begin text) places low none books = books
  of_more suffixes x (Pairs cuts many sent) places low none books =
      let made : cuts ≤ cut_count urls = books.0.made in
      let longer : cut_count urls ≤ cut_count more = cuts_more urls more is front in (
        record {
          made = omega arith;
          counted = books.0.counted ∙ sym (judged_by_same urls more is front cuts made);
          at_a_cut = books.0.at_a_cut;
          alike = subst (λ (links : List Tuple). AreAlike (map (λ p. p.1) (uniques_within 0 sent pairs)) links) (sym (pairs_same urls more is front (domain suffixes) key cuts made)) books.0.alike;
        },
        books.1,
      )
  of_more suffixes x (Pass q) places low none books =
      let parts = pass_of x q places none in
      let within : q ≤ most = omega (arith, parts.number, low.sent) in
      books
      ∙ sym (ap (λ (links : List Tuple). place x.waiting.passes x.waiting.queues (budget settings (linked links)) (read_by (domain suffixes) more x q))
      (pairs_same urls more is front (domain suffixes) key x.cuts low.cuts)
      ∙ ap (place x.waiting.passes x.waiting.queues (budget settings (linked (pairs_of (domain suffixes) key urls x.cuts)))) (read_same urls more is front (domain suffixes) x q low.lists within))
  of_more suffixes x (Robots note) places low none books = books
  of_more suffixes x (Settle fronts outcomes) places low none books = (below_both fronts (lengths_of urls) (lengths_of more) books.0 (lengths_more urls more is front), books.1)

  along_more_urls : (suffixes : List ℕ) (seen events : List Happened) → IsLow (progress settings.queues settings.buckets seen) → AreLegalAfter (progress settings.queues settings.buckets seen) events
      → Along (ByBooks domain key settings urls pairs suffixes) seen events → Along (ByBooks domain key settings more pairs suffixes) seen events
  along_more_urls suffixes seen [] low legal all = tt
  along_more_urls suffixes seen (h ∷ hs) low legal all =
      let x = progress settings.queues settings.buckets seen in
      let y = progress settings.queues settings.buckets (seen ++ h ∷ []) in
      let same : y ≡ after_event x h.0 h.1 = after_more (before_all settings.queues settings.buckets) seen h in (
        of_more suffixes x h.0 h.1 low legal.0 all.0,
        along_more_urls suffixes (seen ++ h ∷ []) hs (subst IsLow (sym same) (low_after suffixes x h.0 h.1 low legal.0 all.0)) (subst (λ (z : Progress). AreLegalAfter z hs) (sym same) legal.1) all.1,
      )

  links_more_urls : (begun : Option (List ℕ)) → HoldsLinks domain key urls pairs begun → HoldsLinks domain key more pairs begun
  links_more_urls None h = h
  links_more_urls (Some suffixes) h = offered_more urls more is front (domain suffixes) key (offers_of pairs) h

  pub more_urls : (events : List Happened) → IsLegalState domain key settings urls pairs events → IsLegalState domain key settings more pairs events
  more_urls events legal =
      let suffixes = unwrap_or (begun_with events) [] in
      let low : IsLow (progress settings.queues settings.buckets []) = record { cuts = omega arith; sent = omega arith; lists = low_blank most 65 } in
      let all : Along (ByBooks domain key settings urls pairs suffixes) [] events =
      along-each (ByBooks domain key settings urls pairs suffixes) [] events (λ before e after same. legal.each before after e.0 e.1 same) in
      let kept : Along (ByBooks domain key settings more pairs suffixes) [] events = along_more_urls suffixes [] events low legal.rules all in
      record {
        rules = legal.rules;
        each = λ before after e p same. each-along (ByBooks domain key settings more pairs suffixes) [] events before (e, p) after kept same;
        links = links_more_urls (begun_with events) legal.links;
      }

module _ (domain : List ℕ → List ℕ → List ℕ) (key : List ℕ → ℕ) (settings : Settings) (urls pairs more : Book) (is : IsBook pairs) (front : IsFront pairs more) where
  of_more_pairs : (suffixes : List ℕ) (x : Progress) (event : Event) (places : List Place) → IsOfBooks (domain suffixes) key settings urls pairs x event places
      → IsOfBooks (domain suffixes) key settings urls more x event places
  of_more_pairs suffixes x (Begin text) places books = books
  of_more_pairs suffixes x (Pairs cuts many sent) places books =
      let cut = books.0.at_a_cut.0 in
      let made : cut ≤ cut_count pairs = books.0.at_a_cut.1 in
      let counted : sent ≡ judged_by pairs cut = books.0.at_a_cut.2 in
      let longer : cut_count pairs ≤ cut_count more = cuts_more pairs more is front in
      let within : sent ≤ gone pairs + length (judged pairs) = omega (arith, counted, judged_within pairs more is front cut) in (
        record {
          made = books.0.made;
          counted = books.0.counted;
          at_a_cut = (cut, omega arith, counted ∙ sym (judged_by_same pairs more is front cut made));
          alike = λ k. ap (λ (us : List (ℕ × Tuple)). option_map (λ (o : Tuple). o.aux) (first_with k (map (λ (p : ℕ × Tuple). p.1) us))) (within_same pairs more is front 0 sent within)
              ∙ books.0.alike k;
        },
        books.1,
      )
  of_more_pairs suffixes x (Pass q) places books = books
  of_more_pairs suffixes x (Robots note) places books = books
  of_more_pairs suffixes x (Settle fronts outcomes) places books = books

  pub more_pairs : (events : List Happened) → HoldsLinks domain key urls more (begun_with events) → IsLegalState domain key settings urls pairs events
      → IsLegalState domain key settings urls more events
  more_pairs events links legal = record {
    rules = legal.rules;
    each = λ before after e p same. of_more_pairs (unwrap_or (begun_with events) []) (progress settings.queues settings.buckets before) e p (legal.each before after e p same);
    links = links;
  }

-- ---- a legal state as a store
items_numbers : (domain : List ℕ → List ℕ) (urls : Book) (ns : List ℕ) → item_numbers (map (item_of domain urls) ns) ≡ ns
items_numbers domain urls [] = refl
items_numbers domain urls (n ∷ ns) = ap (λ (ms : List ℕ). n ∷ ms) (items_numbers domain urls ns)

abbrev is_number_within : ℕ → ℕ → ℕ → Bool
is_number_within from to n = nat_le from n && nat_lt n to

within_numbers : (from to : ℕ) (us : List (ℕ × Tuple)) → map (λ (p : ℕ × Tuple). p.0) (filter (is_within from to) us) ≡ filter (is_number_within from to) (map (λ (p : ℕ × Tuple). p.0) us)
within_numbers from to [] = refl
within_numbers from to (u ∷ us) = by (is_within from to u) (within_numbers from to us)
  where
    by : (b : Bool) → map (λ (p : ℕ × Tuple). p.0) (filter (is_within from to) us) ≡ filter (is_number_within from to) (map (λ (p : ℕ × Tuple). p.0) us)
        → map (λ (p : ℕ × Tuple). p.0) (cond b (u ∷ filter (is_within from to) us) (filter (is_within from to) us))
        ≡ cond b (u.0 ∷ filter (is_number_within from to) (map (λ (p : ℕ × Tuple). p.0) us)) (filter (is_number_within from to) (map (λ (p : ℕ × Tuple). p.0) us))
    by true e = ap (λ (ns : List ℕ). u.0 ∷ ns) e
    by false e = e

-- the numbers of what a pass reads
read_numbers : (domain : List ℕ → List ℕ) (urls : Book) (x : Progress) (q : ℕ) → item_numbers (read_by domain urls x q) ≡ list_at x.waiting.lists x.waiting.passes
    ++ filter (is_number_within x.read q) (map (λ (p : ℕ × Tuple). p.0) (uniques urls))
read_numbers domain urls x q =
    let waits = list_at x.waiting.lists x.waiting.passes in
    items_numbers domain urls (waits ++ map (λ (p : ℕ × Tuple). p.0) (uniques_within x.read q urls))
    ∙ ap (λ (ns : List ℕ). waits ++ ns) (within_numbers x.read q (uniques urls))

module _ (domain : List ℕ → List ℕ → List ℕ) (key : List ℕ → ℕ) (settings : Settings) (urls pairs : Book) (is : IsBook urls) where
  of_urls : (suffixes : List ℕ) (x : Progress) (event : Event) (places : List Place) → IsOfBooks (domain suffixes) key settings urls pairs x event places → IsOfUrls urls x event places
  of_urls suffixes x (Begin text) places books = tt
  of_urls suffixes x (Pairs cuts many sent) places books = omega (arith, books.0.counted, judged_within urls urls is (front_same urls) cuts)
  of_urls suffixes x (Pass q) places books =
      ap (λ (ps : List Place). numbers_of ps) books
      ∙ place_numbers x.waiting.passes x.waiting.queues (budget settings (linked (pairs_of (domain suffixes) key urls x.cuts))) (read_by (domain suffixes) urls x q)
      ∙ read_numbers (domain suffixes) urls x q
  of_urls suffixes x (Robots note) places books = tt
  of_urls suffixes x (Settle fronts outcomes) places books = books.0

  along_urls : (suffixes : List ℕ) (seen events : List Happened) → Along (ByBooks domain key settings urls pairs suffixes) seen events
      → AreOfUrls urls (progress settings.queues settings.buckets seen) events
  along_urls suffixes seen [] all = tt
  along_urls suffixes seen (h ∷ hs) all =
      let same : progress settings.queues settings.buckets (seen ++ h ∷ []) ≡ after_event (progress settings.queues settings.buckets seen) h.0 h.1 =
      after_more (before_all settings.queues settings.buckets) seen h in (
        of_urls suffixes (progress settings.queues settings.buckets seen) h.0 h.1 all.0,
        subst (λ (x : Progress). AreOfUrls urls x hs) same (along_urls suffixes (seen ++ h ∷ []) hs all.1),
      )

  pub legal_stored : (events : List Happened) → AreValid settings → urls.buckets ≡ settings.buckets → urls.rule ≡ settings.rule → IsLegalState domain key settings urls pairs events
      → IsStored settings urls events
  legal_stored events valid buckets rule legal =
      let suffixes = unwrap_or (begun_with events) [] in
      let all : Along (ByBooks domain key settings urls pairs suffixes) [] events =
      along-each (ByBooks domain key settings urls pairs suffixes) [] events (λ before e after same. legal.each before after e.0 e.1 same) in
      record {
        valid = valid;
        book = is;
        buckets = buckets;
        rule = rule;
        rules = legal.rules;
        each = along_urls suffixes [] events all;
      }
