-- The degrees of the pairs that a ledger was told, once all links are sent: the links' own, whatever was judged of the pairs since.
use Rattle.std.proofs.Common.{◌≡◌, ◌∙◌, Bool, true, false, cond, ℕ, zero, suc, ◌+◌, ◌-◌, ◌≤◌, nat_eq, nat_le, nat_lt, ◌&&◌, List, [], ◌∷◌, ◌++◌, length, map, take, drop, Option, None, Some, append_assoc, refl, sym, ap, subst, arith}
use Rattle.std.specs.Prelude.{bytes_eq, count_by, option_map}
use Rattle.std.specs.List.{AllByRecursion, flat_map}
use Rattle.std.specs.Option.{option_or}
use Rattle.std.proofs.lemmas.Bool.{cond-false, cond-true, eq-eqb, eqb-true}
use Rattle.std.proofs.lemmas.List.{append-nil, map-append}
use Rattle.std.proofs.lemmas.List.Folds.{find-append}
use Rattle.std.proofs.Math.Seq.{take-add}
use Rattle.irl_offer.specs.Tuple.{Tuple}
use Rattle.irl_offer.specs.declared.offer.Verdict.{Verdict}
use Rattle.irl_offer.specs.declared.place.Place.{Place}
use Rattle.irl_offer.specs.declared.receipt.Judged.{Judged}
use Rattle.irl_offer.specs.declared.settings.Settings.{Settings}
use Rattle.irl_model.specs.Book.{Book, IsBook, gone, is_unique, judged, judged_as, judged_offers, uniques_from, with_cuts}
use Rattle.irl_model.proofs.JudgingLaws.{judgements-judged_on}
use Rattle.irl_model.proofs.Merges.{uniques_from-append}
use Rattle.irl_events.specs.Events.{Event, Begin, Pairs, Pass, Robots, Settle, Happened, Progress, after_event, before_all, progress}
use Rattle.irl_events.specs.Links.{AreAlike, first_with, linked, pair_offers, pairs as pairs_of}
use Rattle.irl_events.proofs.Degrees.{linked_kept, same_degrees}
use Rattle.irl_events.proofs.Following.{after_more}
use Rattle.irl_star.specs.Budgets.{budget, degree}
use Rattle.irl_star.proofs.SameDegrees.{same_budget}
use Rattle.irl_core.specs.States.{AreOffered, IsOfBooks, offers_of, uniques_within}
use Rattle.irl_core.proofs.StateLemmas.{Along, along-each}
use Rattle.irl_bay.proofs.JudgedBooks.{each_judged}
use Rattle.irl_bay.specs.Standing.{IsBookOf}
use Rattle.irl_ledger.specs.Holding.{domains_told}
use Rattle.irl_ledger.proofs.FreshUrls.{none_behind, uniques-cons, within_from}
use Rattle.irl_ledger.proofs.Reading.{all_index, all_judged_as, none_gone}

-- ---- what was sent last
module _ (domain : List ℕ → List ℕ) (key : List ℕ → ℕ) (settings : Settings) (urls pairs : Book) where
  abbrev come : List Happened → Progress
  come events = progress settings.queues settings.buckets events

  -- the unique ones of the pairs that were sent are those of the links that the cuts show
  abbrev IsSent : Progress → Type 0
  IsSent x = AreAlike (map (λ p. p.1) (uniques_within 0 x.pairs pairs)) (pairs_of domain key urls x.cuts)

  sent_after : (x : Progress) (event : Event) (places : List Place) → IsOfBooks domain key settings urls pairs x event places → IsSent x → IsSent (after_event x event places)
  sent_after x (Begin suffixes) places books sent = sent
  sent_after x (Pairs cuts judged count) places books sent = books.0.alike
  sent_after x (Pass judged) places books sent = sent
  sent_after x (Robots note) places books sent = sent
  sent_after x (Settle fronts outcomes) places books sent = sent

  abbrev ByBooks : List Happened → Happened → Type 0
  ByBooks before h = IsOfBooks domain key settings urls pairs (come before) h.0 h.1

  sent_along : (seen events : List Happened) → Along ByBooks seen events → IsSent (come seen) → IsSent (come (seen ++ events))
  sent_along seen [] all sent = subst (λ (hs : List Happened). IsSent (come hs)) (sym (append-nil seen)) sent
  sent_along seen (h ∷ hs) all sent =
      let next : IsSent (come (seen ++ h ∷ [])) = subst IsSent (sym (after_more (before_all settings.queues settings.buckets) seen h)) (sent_after (come seen) h.0 h.1 all.0 sent) in
      subst (λ (es : List Happened). IsSent (come es)) (append_assoc seen (h ∷ []) hs) (sent_along (seen ++ h ∷ []) hs all.1 next)

  no_links : pairs_of domain key urls 0 ≡ []
  no_links = let none : 0 - urls.dropped ≡ 0 = omega arith in ap (λ (n : ℕ). pair_offers domain key (judged_offers (with_cuts n urls))) none

  sent_none : IsSent (before_all settings.queues settings.buckets)
  sent_none k =
      ap (λ (us : List (ℕ × Tuple)). option_map (λ (offer : Tuple). offer.aux) (first_with k (map (λ (p : ℕ × Tuple). p.1) us))) (none_behind (gone pairs) 0 0 (judged pairs) (omega arith))
      ∙ sym (ap (λ (links : List Tuple). option_map (λ (offer : Tuple). offer.aux) (first_with k links)) no_links)

  pub sent_now : (events : List Happened) → ((before after : List Happened) (event : Event) (places : List Place) → events ≡ before ++ (event, places) ∷ after
      → IsOfBooks domain key settings urls pairs (come before) event places) → IsSent (come events)
  sent_now events each = sent_along [] events (along-each ByBooks [] events (λ before h after is. each before after h.0 h.1 is)) sent_none

-- ---- the keys of what was judged are among those that were offered
abbrev HasKey : List Tuple → ℕ → Type 0
HasKey offers k = (o : Tuple) × (first_with k offers ≡ Some o)

key_behind : (o : Tuple) (offers : List Tuple) (k : ℕ) → HasKey offers k → HasKey (o ∷ offers) k
key_behind o offers k has = by (nat_eq o.key k) refl
  where
    by : (b : Bool) → nat_eq o.key k ≡ b → HasKey (o ∷ offers) k
    by true e = (o, cond-true (nat_eq o.key k) (Some o) (first_with k offers) e)
    by false e = (has.0, cond-false (nat_eq o.key k) (Some o) (first_with k offers) e ∙ has.1)

keys_behind : (o : Tuple) (offers others : List Tuple) → AllByRecursion (λ t. HasKey offers t.key) others → AllByRecursion (λ t. HasKey (o ∷ offers) t.key) others
keys_behind o offers [] all = tt
keys_behind o offers (t ∷ ts) all = (key_behind o offers t.key all.0, keys_behind o offers ts all.1)

has_self : (offers : List Tuple) → AllByRecursion (λ t. HasKey offers t.key) offers
has_self [] = tt
has_self (o ∷ offers) = ((o, cond-true (nat_eq o.key o.key) (Some o) (first_with o.key offers) (eq-eqb o.key o.key refl)), keys_behind o offers offers (has_self offers))

all_first : {X : Type 0} (P : X → Type 0) (xs ys : List X) → AllByRecursion P (xs ++ ys) → AllByRecursion P xs × AllByRecursion P ys
all_first P [] ys all = (tt, all)
all_first P (x ∷ xs) ys all = let rest = all_first P xs ys all.1 in ((all.0, rest.0), rest.1)

all_lists : (P : Tuple → Type 0) (lists : List (List Tuple)) → AllByRecursion P (flat_map (λ list. list) lists) → AllByRecursion (AllByRecursion P) lists
all_lists P [] all = tt
all_lists P (list ∷ lists) all = let two = all_first P list (flat_map (λ l. l) lists) all in (two.0, all_lists P lists two.1)

all_take : {X : Type 0} (P : X → Type 0) (n : ℕ) (xs : List X) → AllByRecursion P xs → AllByRecursion P (take n xs)
all_take P zero xs all = tt
all_take P (suc n) [] all = tt
all_take P (suc n) (x ∷ xs) all = (all.0, all_take P n xs all.1)

all_drop : {X : Type 0} (P : X → Type 0) (n : ℕ) (xs : List X) → AllByRecursion P xs → AllByRecursion P (drop n xs)
all_drop P zero xs all = all
all_drop P (suc n) [] all = tt
all_drop P (suc n) (x ∷ xs) all = all_drop P n xs all.1

judged_keys : (book : Book) → IsBook book → AllByRecursion (λ (j : Judged). HasKey (offers_of book) j.offer.key) (judged book)
judged_keys book is =
    let P : Tuple → Type 0 = λ t. HasKey (offers_of book) t.key in
    let lists : AllByRecursion (AllByRecursion P) book.lists = all_lists P book.lists (has_self (offers_of book)) in
    let offers : AllByRecursion P (judged_offers book) = each_judged P book is (λ b lt. all_index (AllByRecursion P) book.lists b [] lists (omega (arith, lt, is.lists))) in
    subst (λ (js : List (Tuple × Option Verdict)). AllByRecursion (λ (j : Judged). P j.offer) (map (judged_as book.buckets) js))
    (sym (judgements-judged_on book.rule book.base (judged_offers book))) (all_judged_as P book.buckets book.rule book.base (judged_offers book) offers)

abbrev offers_at : ℕ → List Judged → List Tuple
offers_at n js = map (λ (p : ℕ × Tuple). p.1) (uniques_from n js)

found_key : (offers : List Tuple) (n k : ℕ) (js : List Judged) (o : Tuple) → AllByRecursion (λ (j : Judged). HasKey offers j.offer.key) js → first_with k (offers_at n js) ≡ Some o → HasKey offers k
found_key offers n k [] o all is = absurd (cc)
found_key offers n k (j ∷ js) o all is =
    by (is_unique j.verdict) (λ found. found_key offers (n + 1) k js o all.1 found)
    (ap (λ (us : List (ℕ × Tuple)). first_with k (map (λ (p : ℕ × Tuple). p.1) us)) (sym (uniques-cons n j js)) ∙ is)
  where
    at : (b : Bool) → (first_with k (offers_at (n + 1) js) ≡ Some o → HasKey offers k) → nat_eq j.offer.key k ≡ b
        → cond b (Some j.offer) (first_with k (offers_at (n + 1) js)) ≡ Some o → HasKey offers k
    at true later e found = subst (HasKey offers) (eqb-true j.offer.key k e) all.0
    at false later e found = later found

    by : (b : Bool) → (first_with k (offers_at (n + 1) js) ≡ Some o → HasKey offers k)
        → first_with k (map (λ (p : ℕ × Tuple). p.1) (cond b ((n, j.offer) ∷ uniques_from (n + 1) js) (uniques_from (n + 1) js))) ≡ Some o → HasKey offers k
    by true later found = at (nat_eq j.offer.key k) later refl found
    by false later found = later found

-- ---- the degrees
module _ (settings : Settings) (links : List Tuple) (pairs : Book) (is : IsBookOf settings pairs) (offered : AreOffered links (offers_of pairs)) (sent told : ℕ) (le : sent ≤ told)
    (alike : AreAlike (map (λ p. p.1) (uniques_within 0 sent pairs)) links) where
  abbrev js : List Judged
  js = judged pairs

  first_ones : (to : ℕ) → uniques_within 0 to pairs ≡ uniques_from 0 (take to js)
  first_ones to =
      let zero_gone : gone pairs + 0 ≡ 0 = omega (arith, none_gone settings pairs is) in
      let all : to - 0 ≡ to = omega arith in
      within_from (gone pairs) 0 0 to js zero_gone ∙ ap (λ (n : ℕ). uniques_from 0 (take n js)) all

  abbrev rest : List Judged
  rest = take (told - sent) (drop sent js)

  more_ones : map (λ (p : ℕ × Tuple). p.1) (uniques_within 0 told pairs) ≡ map (λ (p : ℕ × Tuple). p.1) (uniques_within 0 sent pairs) ++ offers_at (0 + length (take sent js)) rest
  more_ones =
      let own : ℕ × Tuple → Tuple = λ p. p.1 in
      let sum : told ≡ sent + (told - sent) = omega (arith, le) in
      ap (map own) (first_ones told ∙ ap (λ (n : ℕ). uniques_from 0 (take n js)) sum ∙ ap (uniques_from 0) (take-add sent (told - sent) js)
      ∙ uniques_from-append 0 (take sent js) rest)
      ∙ map-append own (uniques_from 0 (take sent js)) (uniques_from (0 + length (take sent js)) rest)
      ∙ ap (λ (us : List (ℕ × Tuple)). map own us ++ offers_at (0 + length (take sent js)) rest) (sym (first_ones sent))

  rest_keys : AllByRecursion (λ (j : Judged). HasKey (offers_of pairs) j.offer.key) rest
  rest_keys =
      let P : Judged → Type 0 = λ j. HasKey (offers_of pairs) j.offer.key in
      all_take P (told - sent) (drop sent js) (all_drop P sent js (judged_keys pairs is.is_book))

  -- whatever was judged since is of a key that was sent
  pub told_alike : AreAlike (map (λ p. p.1) (uniques_within 0 told pairs)) links
  told_alike k =
      let test : Tuple → Bool = λ o. nat_eq o.key k in
      let own : Option Tuple → Option (List ℕ) = option_map (λ (o : Tuple). o.aux) in
      let front : List Tuple = map (λ p. p.1) (uniques_within 0 sent pairs) in
      let back : List Tuple = offers_at (0 + length (take sent js)) rest in
      ap (λ (os : List Tuple). own (first_with k os)) more_ones ∙ ap own (find-append test front back)
      ∙ by (first_with k front) (alike k) (first_with k back) refl
    where
      none_there : (m : Option Tuple) → first_with k (offers_at (0 + length (take sent js)) rest) ≡ m → None ≡ option_map (λ (o : Tuple). o.aux) (first_with k links)
          → option_map (λ (o : Tuple). o.aux) m ≡ option_map (λ (o : Tuple). o.aux) (first_with k links)
      none_there None e none = none
      none_there (Some o) e none =
          let has = found_key (offers_of pairs) (0 + length (take sent js)) k rest o rest_keys e in
          let linked_one : first_with k links ≡ Some has.0 = offered.first k has.0 has.1 in
          let no : None ≡ option_map (λ (o : Tuple). o.aux) (Some has.0) = none ∙ ap (option_map (λ (o : Tuple). o.aux)) linked_one in
          absurd (cc)

      by : (f : Option Tuple) → option_map (λ (o : Tuple). o.aux) f ≡ option_map (λ (o : Tuple). o.aux) (first_with k links) → (m : Option Tuple)
          → first_with k (offers_at (0 + length (take sent js)) rest) ≡ m
          → option_map (λ (o : Tuple). o.aux) (option_or f m) ≡ option_map (λ (o : Tuple). o.aux) (first_with k links)
      by (Some o) same m e = same
      by None same m e = none_there m e same

  told_degrees : (name : List ℕ) → degree (domains_told told pairs) name ≡ degree (linked links) name
  unfolding degree
  told_degrees name =
      ap (λ (texts : List (List ℕ)). count_by (λ (text : List ℕ). bytes_eq name text) texts) (sym (linked_kept (λ (p : ℕ × Tuple). nat_le 0 p.0 && nat_lt p.0 told) pairs))
      ∙ same_degrees (map (λ (p : ℕ × Tuple). p.1) (uniques_within 0 told pairs)) links told_alike name

  pub told_budgets : (s : Settings) (name : List ℕ) → budget s (domains_told told pairs) name ≡ budget s (linked links) name
  told_budgets s name = same_budget s (domains_told told pairs) (linked links) told_degrees name
