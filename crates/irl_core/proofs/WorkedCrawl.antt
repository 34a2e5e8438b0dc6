-- The small crawl, step by step.
use Rattle.std.proofs.Common.{get_or, ◌≡◌, ◌≢◌, ◌∙◌, ℕ, zero, suc, ◌<◌, ◌≤◌, nat_eq, nat_le, nat_lt, ◌&&◌, Bool, true, false, if◌then◌else◌, List, [], ◌∷◌, ◌++◌, map, refl, sym, ap, arith, Option, None, Some}
use Rattle.std.specs.Prelude.{unwrap_or, option_map, find}
use Rattle.std.specs.List.{filter}
use Rattle.std.specs.Ordering.{nat_cmp}
use Rattle.std.specs.Cmp.{nat_cmp_total}
use Rattle.std.specs.FinMap.{empty, get, insert, get-empty, get-insert}
use Rattle.irl_offer.specs.declared.offer.Op.TheVariants.{Both}
use Rattle.irl_offer.specs.declared.offer.Rule.TheVariants.{Keep}
use Rattle.irl_offer.specs.declared.outcome.Outcome.TheVariants.{Page}
use Rattle.irl_offer.specs.declared.receipt.Judged.{Judged}
use Rattle.irl_offer.specs.declared.place.Place.{Place}
use Rattle.irl_offer.specs.declared.place.Slot.{Slot}
use Rattle.irl_offer.specs.declared.place.Slot.TheVariants.{Front, Queue, Last}
use Rattle.irl_offer.specs.Tuple.{Tuple}
use Rattle.irl_model.specs.Judging.{KeyMap, answer, combined}
use Rattle.irl_model.specs.Book.{Book, blank_book, uniques, is_unique}
use Rattle.irl_events.specs.Events.{Event, Begin, Pairs, Pass, Settle, Happened, progress}
use Rattle.irl_events.specs.Legal.{AreLegal}
use Rattle.irl_events.specs.Links.{first_with, linked, pairs as pairs_of}
use Rattle.irl_events.specs.Queues.{delivered}
use Rattle.irl_star.specs.Budgets.{degree, domains, ranks_before, rank, budget}
use Rattle.irl_beast.specs.declared.item.Item.{Item}
use Rattle.irl_beast.specs.Places.{count_of, place, places_behind}
use Rattle.irl_core.specs.States.{AreOffered, AreSent, IsLegalState, IsOfBooks, offers_of, places_of}
use Rattle.irl_core.specs.Worked.{at, crawl, domain, events, key, more_events, more_urls, offer, other_pairs, pairs, places, settings, stray_pairs, two_passes, urls}
use Rattle.irl_core.proofs.StateLemmas.{each-along}

-- an offer with its number, judged by what the set had at its key
abbrev numbered : ℕ → Tuple → Option ℕ → ℕ × Judged
numbered number offer known = (number, record { bucket = 0; offer = offer; verdict = answer Both known })

abbrev unique_of : List (ℕ × Judged) → List (ℕ × Tuple)
unique_of ps = map (λ p. (p.0, p.1.offer)) (filter (λ p. is_unique p.1.verdict) ps)

abbrev first : Tuple
first = offer 1 0 (97 ∷ [])

abbrev second : Tuple
second = offer 2 0 (97 ∷ 47 ∷ [])

abbrev third : Tuple
third = offer 3 5 (98 ∷ 47 ∷ 47 ∷ [])

abbrev pair : Tuple
pair = offer 9 0 (98 ∷ [])

abbrev found : List (ℕ × Tuple)
found = (0, first) ∷ (1, second) ∷ (2, third) ∷ []

abbrev fourth : Tuple
fourth = offer 4 5 (98 ∷ 47 ∷ 47 ∷ 47 ∷ [])

abbrev other : Tuple
other = offer 9 0 (99 ∷ [])

abbrev none : KeyMap
none = empty

abbrev one : KeyMap
one = insert none 1 (combined Keep (get none 1) 0)

abbrev two : KeyMap
two = insert one 2 (combined Keep (get one 2) 0)

abbrev three : KeyMap
three = insert two 3 (combined Keep (get two 3) 0)

-- the sets before each offer have no key of it
no_first : get none 1 ≡ None
no_first = get-empty nat_cmp 1

no_second : get one 2 ≡ None
no_second = get-insert nat_cmp_total none 1 (combined Keep (get none 1) 0) 2 ∙ get-empty nat_cmp 2

no_third : get two 3 ≡ None
no_third = get-insert nat_cmp_total one 2 (combined Keep (get one 2) 0) 3 ∙ get-insert nat_cmp_total none 1 (combined Keep (get none 1) 0) 3 ∙ get-empty nat_cmp 3

no_fourth : get three 4 ≡ None
no_fourth = get-insert nat_cmp_total two 3 (combined Keep (get two 3) 0) 4 ∙ get-insert nat_cmp_total one 2 (combined Keep (get one 2) 0) 4
    ∙ get-insert nat_cmp_total none 1 (combined Keep (get none 1) 0) 4 ∙ get-empty nat_cmp 4

urls_are : uniques urls ≡ found
urls_are =
    ap (λ (o : Option ℕ). unique_of (numbered 0 first o ∷ numbered 1 second (get one 2) ∷ numbered 2 third (get two 3) ∷ [])) no_first
    ∙ ap (λ (o : Option ℕ). (0, first) ∷ unique_of (numbered 1 second o ∷ numbered 2 third (get two 3) ∷ [])) no_second
    ∙ ap (λ (o : Option ℕ). (0, first) ∷ (1, second) ∷ unique_of (numbered 2 third o ∷ [])) no_third

abbrev more_found : List (ℕ × Tuple)
more_found = (0, first) ∷ (1, second) ∷ (2, third) ∷ (3, fourth) ∷ []

more_urls_are : uniques more_urls ≡ more_found
more_urls_are =
    ap (λ (o : Option ℕ). unique_of (numbered 0 first o ∷ numbered 1 second (get one 2) ∷ numbered 2 third (get two 3) ∷ numbered 3 fourth (get three 4) ∷ [])) no_first
    ∙ ap (λ (o : Option ℕ). (0, first) ∷ unique_of (numbered 1 second o ∷ numbered 2 third (get two 3) ∷ numbered 3 fourth (get three 4) ∷ [])) no_second
    ∙ ap (λ (o : Option ℕ). (0, first) ∷ (1, second) ∷ unique_of (numbered 2 third o ∷ numbered 3 fourth (get three 4) ∷ [])) no_third
    ∙ ap (λ (o : Option ℕ). (0, first) ∷ (1, second) ∷ (2, third) ∷ unique_of (numbered 3 fourth o ∷ [])) no_fourth

pairs_are : uniques pairs ≡ (0, pair) ∷ []
pairs_are = ap (λ (o : Option ℕ). unique_of (numbered 0 pair o ∷ [])) (get-empty nat_cmp 9)

other_pairs_are : uniques other_pairs ≡ (0, other) ∷ []
other_pairs_are = ap (λ (o : Option ℕ). unique_of (numbered 0 other o ∷ [])) (get-empty nat_cmp 9)

-- ---- where the pass puts what it reads
-- what waits where the pass comes
abbrev before : ℕ → ℕ → ℕ → List Happened
before cuts judged sent = (Begin [], []) ∷ (Pairs cuts judged sent, []) ∷ []

-- the items of some numbers, and of those of some URLs that lie between two others
abbrev items : List ℕ → ℕ → ℕ → List (ℕ × Tuple) → List Item
items waits from to us =
    map (λ n. record { number = n; pld = domain [] (unwrap_or (option_map (λ (p : ℕ × Tuple). p.1.aux) (find (λ (p : ℕ × Tuple). nat_eq p.0 n) us)) []) })
    (waits ++ map (λ (p : ℕ × Tuple). p.0) (filter (λ (p : ℕ × Tuple). nat_le from p.0 && nat_lt p.0 to) us))

-- and their places behind so many passes, by the links of so many cuts of a book
abbrev placed_by : ℕ → Book → ℕ → List Item → List Place
placed_by passes book cuts read = place passes 2 (budget settings (linked (pairs_of (domain []) key book cuts))) read

placed : places_of (domain []) key settings urls (progress 2 1 (before 1 3 1)) 3 ≡ places (Queue 2)
unfolding places_behind count_of budget rank ranks_before domains degree
placed = ap (λ (us : List (ℕ × Tuple)). placed_by 0 urls 1 (items [] 0 3 us)) urls_are

placed_later : places_of (domain []) key settings more_urls (progress 2 1 (before 1 3 1)) 3 ≡ places (Queue 2)
unfolding places_behind count_of budget rank ranks_before domains degree
placed_later = ap (λ (us : List (ℕ × Tuple)). placed_by 0 more_urls 1 (items [] 0 3 us)) more_urls_are

-- the places of all four
abbrev more_places : Slot → List Place
more_places slot = at 0 Front ∷ at 1 (Queue 2) ∷ at 2 Front ∷ at 3 slot ∷ []

placed_more : places_of (domain []) key settings more_urls (progress 2 1 (before 2 4 1)) 4 ≡ more_places Front
unfolding places_behind count_of budget rank ranks_before domains degree
placed_more = ap (λ (us : List (ℕ × Tuple)). placed_by 0 more_urls 2 (items [] 0 4 us)) more_urls_are

-- what is read before the second pass
abbrev read_before : List Happened
read_before = (Begin [], []) ∷ (Pairs 1 3 1, []) ∷ (Pass 3, places (Queue 2)) ∷ (Settle (4 ∷ []) ((0, Page) ∷ (2, Page) ∷ []), []) ∷ (Pairs 2 4 1, []) ∷ []

placed_again : places_of (domain []) key settings more_urls (progress 2 1 read_before) 4 ≡ at 1 Front ∷ at 3 Front ∷ []
unfolding delivered places_behind count_of budget rank ranks_before domains degree
placed_again = ap (λ (us : List (ℕ × Tuple)). placed_by 1 more_urls 2 (items (1 ∷ []) 3 4 us)) more_urls_are

rules : AreLegal 2 1 (events (Queue 2))
unfolding delivered
rules = (refl, (refl, (refl, (refl, tt))))

more_rules : AreLegal 2 1 (more_events Front)
unfolding delivered
more_rules = (refl, (refl, (refl, (refl, tt))))

again_rules : AreLegal 2 1 two_passes
unfolding delivered
again_rules = (refl, (refl, (refl, (refl, (refl, (refl, tt))))))

-- ---- what was sent
-- the text of a key among so many of the unique pairs
abbrev text_at : ℕ → ℕ → List (ℕ × Tuple) → Option (List ℕ)
text_at sent k us = option_map (λ (o : Tuple). o.aux) (first_with k (map (λ (p : ℕ × Tuple). p.1) (filter (λ (p : ℕ × Tuple). nat_le 0 p.0 && nat_lt p.0 sent) us)))

sent : AreSent (pairs_of (domain []) key urls 1) urls pairs 1 3 1
sent = record { made = omega arith; counted = refl; at_a_cut = (1, omega arith, refl); alike = λ k. ap (text_at 1 k) pairs_are }

sent_later : AreSent (pairs_of (domain []) key more_urls 1) more_urls pairs 1 3 1
sent_later = record { made = omega arith; counted = refl; at_a_cut = (1, omega arith, refl); alike = λ k. ap (text_at 1 k) pairs_are }

-- both links have one key
one_key : (k : ℕ) → text_at 1 k ((0, pair) ∷ []) ≡ option_map (λ (o : Tuple). o.aux) (first_with k (pair ∷ pair ∷ []))
one_key k = by (nat_eq 9 k)
  where
    by : (same : Bool) → option_map (λ (o : Tuple). o.aux) (if same then Some pair else None) ≡ option_map (λ (o : Tuple). o.aux) (if same then Some pair else (if same then Some pair else None))
    by true = refl
    by false = refl

sent_more : AreSent (pairs_of (domain []) key more_urls 2) more_urls pairs 2 4 1
sent_more = record { made = omega arith; counted = refl; at_a_cut = (1, omega arith, refl); alike = λ k. ap (text_at 1 k) pairs_are ∙ one_key k }

-- ---- what was offered
both : (k : ℕ) (other : Tuple) → k < 1 → (get_or (pair ∷ []) k other).op ≡ Both
both zero other within = refl
both (suc k) other within = absurd (omega arith)

offered : AreOffered (pairs_of (domain []) key urls 1) (offers_of pairs)
offered = record { each = both; first = λ k o is. is }

first_of_both : (k : ℕ) (o : Tuple) → first_with k (pair ∷ []) ≡ Some o → first_with k (pair ∷ pair ∷ []) ≡ Some o
first_of_both k o is = by (nat_eq 9 k) is
  where
    by : (same : Bool) → (if same then Some pair else None) ≡ Some o → (if same then Some pair else (if same then Some pair else None)) ≡ Some o
    by true is = is
    by false is = is

more_offered : AreOffered (pairs_of (domain []) key more_urls 2) (offers_of pairs)
more_offered = record { each = both; first = first_of_both }

-- ---- what is legal
abbrev ByBooks : Book → List Happened → Happened → Type 0
ByBooks book seen h = IsOfBooks (domain []) key settings book pairs (progress 2 1 seen) h.0 h.1

pub worked : IsLegalState domain key settings urls pairs (events (Queue 2))
worked = record {
  rules = rules;
  each = λ before after event places is.
      each-along (ByBooks urls) [] (events (Queue 2)) before (event, places) after (refl, ((sent, refl), (sym placed, (((omega arith, tt), refl), tt)))) is;
  links = offered;
}

pub later : IsLegalState domain key settings more_urls pairs (events (Queue 2))
later = record {
  rules = rules;
  each = λ before after event places is.
      each-along (ByBooks more_urls) [] (events (Queue 2)) before (event, places) after (refl, ((sent_later, refl), (sym placed_later, (((omega arith, tt), refl), tt)))) is;
  links = more_offered;
}

pub budgeted : IsLegalState domain key settings more_urls pairs (more_events Front)
budgeted = record {
  rules = more_rules;
  each = λ before after event places is.
      each-along (ByBooks more_urls) [] (more_events Front) before (event, places) after (refl, ((sent_more, refl), (sym placed_more, (((omega arith, tt), refl), tt)))) is;
  links = more_offered;
}

pub again : IsLegalState domain key settings more_urls pairs two_passes
again = record {
  rules = again_rules;
  each = λ before after event places is.
      each-along (ByBooks more_urls) [] two_passes before (event, places) after
      (refl, ((sent_later, refl), (sym placed_later, (((omega arith, tt), refl), ((sent_more, refl), (sym placed_again, tt)))))) is;
  links = more_offered;
}

pub blank : IsLegalState domain key settings (blank_book 1 Keep) (blank_book 1 Keep) []
blank = record { rules = tt; each = none_happened; links = refl }
  where
    none_happened : (before after : List Happened) (event : Event) (places : List Place) → [] ≡ before ++ (event, places) ∷ after →
        IsOfBooks (domain []) key settings (blank_book 1 Keep) (blank_book 1 Keep) (progress 2 1 before) event places
    none_happened [] after event places is = absurd (cc)
    none_happened (b ∷ before) after event places is = absurd (cc)

-- ---- what isn't
-- the slot of a place, by its number in the list
abbrev slot_of : ℕ → List Place → Slot
slot_of n [] = Front
slot_of zero (p ∷ ps) = p.slot
slot_of (suc n) (p ∷ ps) = slot_of n ps

-- two texts that differ, or a text and none
abbrev byte_of : Option (List ℕ) → ℕ
byte_of text = get_or (unwrap_or text []) 0 0

differ : (x y : Option (List ℕ)) → x ≡ y → byte_of x ≢ byte_of y → ⊥
differ x y same apart = apart (ap byte_of same)

-- the settle at the end
abbrev end : ℕ → Happened
end front = (Settle (front ∷ []) ((0, Page) ∷ []), [])

pub misplaced : IsLegalState domain key settings urls pairs (events Last) → ⊥
misplaced legal =
    let is : places Last ≡ places (Queue 2) = legal.each (before 1 3 1) (end 3 ∷ []) (Pass 3) (places Last) refl ∙ placed in
    let same : Last ≡ Queue 2 = ap (slot_of 1) is in
    absurd (cc)

pub unbudgeted : IsLegalState domain key settings more_urls pairs (more_events (Queue 2)) → ⊥
unbudgeted legal =
    let is : more_places (Queue 2) ≡ more_places Front = legal.each (before 2 4 1) (end 4 ∷ []) (Pass 4) (more_places (Queue 2)) refl ∙ placed_more in
    let same : Queue 2 ≡ Front = ap (slot_of 3) is in
    absurd (cc)

pub unsent : IsLegalState domain key settings urls pairs (crawl 1 3 0 (places (Queue 2)) 3) → ⊥
unsent legal =
    let keeps : AreSent (pairs_of (domain []) key urls 1) urls pairs 1 3 0 = (legal.each ((Begin [], []) ∷ []) ((Pass 3, places (Queue 2)) ∷ end 3 ∷ []) (Pairs 1 3 0) [] refl).0 in
    differ None (Some (98 ∷ [])) (sym (ap (text_at 0 9) pairs_are) ∙ keeps.alike 9) (omega arith)

pub miscounted : IsLegalState domain key settings urls pairs (crawl 1 2 1 (at 0 Front ∷ at 1 (Queue 2) ∷ []) 3) → ⊥
miscounted legal =
    let keeps : AreSent (pairs_of (domain []) key urls 1) urls pairs 1 2 1 = (legal.each ((Begin [], []) ∷ []) ((Pass 2, at 0 Front ∷ at 1 (Queue 2) ∷ []) ∷ end 3 ∷ []) (Pairs 1 2 1) [] refl).0 in
    let same : ◌≡◌ {A = ℕ} 2 3 = keeps.counted in
    absurd (omega arith)

pub other_text : IsLegalState domain key settings urls other_pairs (events (Queue 2)) → ⊥
other_text legal =
    let keeps : AreSent (pairs_of (domain []) key urls 1) urls other_pairs 1 3 1 = (legal.each ((Begin [], []) ∷ []) ((Pass 3, places (Queue 2)) ∷ end 3 ∷ []) (Pairs 1 3 1) [] refl).0 in
    differ (Some (99 ∷ [])) (Some (98 ∷ [])) (sym (ap (text_at 1 9) other_pairs_are) ∙ keeps.alike 9) (omega arith)

no_offer : (offer : Tuple) → None ≡ Some offer → ⊥
no_offer offer same = absurd (cc)

pub strayed : IsLegalState domain key settings urls stray_pairs (events (Queue 2)) → ⊥
strayed legal = no_offer (offer 7 0 (98 ∷ [])) (legal.links.first 7 (offer 7 0 (98 ∷ [])) refl)

pub past_list : IsLegalState domain key settings urls pairs (crawl 1 3 1 (places (Queue 2)) 4) → ⊥
past_list legal =
    let within : 4 ≤ 3 = (legal.each ((Begin [], []) ∷ (Pairs 1 3 1, []) ∷ (Pass 3, places (Queue 2)) ∷ []) [] (Settle (4 ∷ []) ((0, Page) ∷ [])) [] refl).0.0 in
    absurd (omega arith)

pub beside : IsLegalState domain key settings urls pairs ((Begin [], at 0 Front ∷ []) ∷ []) → ⊥
beside legal =
    let same : at 0 Front ∷ [] ≡ [] = legal.each [] [] (Begin []) (at 0 Front ∷ []) refl in
    absurd (cc)

pub unbegun : IsLegalState domain key settings urls pairs [] → ⊥
unbegun legal =
    let same : pair ∷ [] ≡ [] = legal.links in
    absurd (cc)
