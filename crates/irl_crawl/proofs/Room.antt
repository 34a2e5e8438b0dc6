-- How many offers a crawl hands in, and what room they take.
use Rattle.std.proofs.Common.{◌≡◌, ℕ, ◌+◌, ◌-◌, ◌*◌, ◌<◌, ◌≤◌, nat_eq, Bool, true, false, List, [], ◌∷◌, ◌++◌, filter, map, length, drop, Option, None, Some, refl, ap, length-append, arith}
use Rattle.std.specs.Prelude.{flat_map, if◌then◌else◌, not, option_to_list, sum}
use Rattle.std.proofs.lemmas.List.{length-drop, length-map, length-take}
use Rattle.std.proofs.lemmas.List.Filters.{length-filter_both}
use Rattle.std.proofs.lemmas.List.Sorted.{length_permutation}
use Rattle.std.proofs.lemmas.List.Sums.{sum_by-cons}
use Rattle.irl_answer.specs.Found.{base_for, most_links, offer_from, offers_of, webs_at, webs_of, webs_on, domain_key}
use Rattle.irl_answer.specs.Outcomes.{is_success, location_of}
use Rattle.irl_answer.specs.Pages.{spans_on}
use Rattle.irl_base.specs.Among.{IsAmong}
use Rattle.irl_events.specs.Links.{links_domains, pair_offer}
use Rattle.irl_events.specs.State.{State}
use Rattle.irl_key.specs.Key.{key_of}
use Rattle.irl_ledger.specs.Crawling.{domain_of}
use Rattle.irl_ledger.specs.Sending.{judged_after, links_of}
use Rattle.irl_model.proofs.Merges.{judged_count}
use Rattle.irl_model.specs.Book.{AreCuts, ArePrefixes, Book, IsBelow, IsBook, IsFront, gone, judged, judged_cut, last_cut, lengths_of, list_lengths, part}
use Rattle.irl_offer.specs.Buckets.{bucket_of}
use Rattle.irl_offer.specs.Replies.{Received}
use Rattle.irl_offer.specs.Tuple.{Tuple}
use Rattle.irl_offer.specs.declared.receipt.Judged.{Judged}
use Rattle.irl_offer.specs.declared.reply.Answer.{Answer}
use Rattle.irl_offer.specs.declared.reply.Answer.TheVariants.{Reply, NoReply, Short, BadReply, TooLarge, Coded}
use Rattle.irl_offer.specs.declared.settings.Settings.{Settings}
use Rattle.irl_reach.specs.Crawls.{Visit, added_to, found_by}
use Rattle.irl_schedule.specs.Feeding.{list_at}
use Rattle.irl_yard.specs.Passing.{come}
use Rattle.irl_crawl.specs.Room.{HasRoomFor, most_handed}
use Rattle.irl_crawl.specs.Sending.{links_since, pairs_for}

fewer : {X : Type 0} (test : X → Bool) (xs : List X) → length (filter test xs) ≤ length xs
fewer test xs = let both = length-filter_both test (λ x. not (test x)) (λ x. refl) xs in omega (arith, both)

-- ---- what is handed in
one_at_most : {X : Type 0} (option : Option X) → length (option_to_list option) ≤ most_links
one_at_most None = omega arith
one_at_most (Some x) = omega arith

-- a reply names no more pages than are offered,
webs_few : (url : List ℕ) (reply : Received) → length (webs_of url reply) ≤ most_links
webs_few url reply = by (is_success reply.status) reply.html
  where
    by : (success html : Bool) → length (if success then (if html then webs_on url reply.body else []) else option_to_list (location_of url reply)) ≤ most_links
    by true true =
        let long = length-take most_links (webs_at reply.body (base_for url reply.body) (spans_on reply.body)) in
        omega (arith, long)
    by true false = omega arith
    by false html = one_at_most (location_of url reply)

-- and nor does a visit
found_few : (suffixes url : List ℕ) (answer : Answer) → length (offers_of suffixes url answer) ≤ most_links
found_few suffixes url (Reply reply) =
    let long = length-map (webs_of url reply) (offer_from (domain_key suffixes url)) in
    let few = webs_few url reply in
    omega (arith, long, few)
found_few suffixes url NoReply = omega arith
found_few suffixes url (Short n) = omega arith
found_few suffixes url (BadReply n) = omega arith
found_few suffixes url (TooLarge n) = omega arith
found_few suffixes url Coded = omega arith

found_all : (suffixes : List ℕ) (urls : Book) (visits : List Visit) → length (flat_map (found_by suffixes urls) visits) ≤ length visits * most_links
found_all suffixes urls [] = omega arith
found_all suffixes urls (visit ∷ visits) =
    let here : length (found_by suffixes urls visit) ≤ most_links = found_few suffixes _ visit.answer in
    let rest = found_all suffixes urls visits in
    let both = length-append (found_by suffixes urls visit) (flat_map (found_by suffixes urls) visits) in
    omega (arith, here, rest, both)

-- the seeds, and what few visits found
pub handed_few : (suffixes : List ℕ) (seeds : List (List ℕ)) (urls : Book) (visits : List Visit) (pages : ℕ) → length visits ≤ pages
    → length (map (offer_from 0) seeds ++ flat_map (found_by suffixes urls) visits) ≤ most_handed pages seeds
handed_few suffixes seeds urls visits pages few =
    let both = length-append (map (offer_from 0) seeds) (flat_map (found_by suffixes urls) visits) in
    let first = length-map seeds (offer_from 0) in
    let found = found_all suffixes urls visits in
    omega (arith, both, first, found, few)

-- ---- what is judged
sum_below : (xs ys : List ℕ) → IsBelow xs ys → sum xs ≤ sum ys
sum_below [] [] below = omega arith
sum_below [] (y ∷ ys) below = absurd below
sum_below (x ∷ xs) [] below = absurd below
sum_below (x ∷ xs) (y ∷ ys) below =
    omega (arith, below.0, sum_below xs ys below.1, sum_by-cons (λ (n : ℕ). n) x xs, sum_by-cons (λ (n : ℕ). n) y ys)

last_below : (from : List ℕ) (cuts : List (List ℕ)) (end : List ℕ) → AreCuts from cuts end → IsBelow (last_cut from cuts) end
last_below from [] end are = are
last_below from (cut ∷ cuts) end are = last_below cut cuts end are.2

judged_few : (from : ℕ) (book : Book) → IsBook book → length (judged_after from book) ≤ sum (lengths_of book) - from
judged_few from book is =
    let count = judged_count book is in
    let below = sum_below (judged_cut book) (lengths_of book) (last_below book.firsts book.cuts (lengths_of book) is.cuts) in
    let long = length-drop (from - gone book) (judged book) in
    omega (arith, count, below, long)

-- lists have no more than others of which they begin with, and what was added
added_sum : (firsts : List ℕ) (lists more : List (List Tuple)) → ArePrefixes lists more → sum (list_lengths firsts more) ≤ sum (list_lengths firsts lists) + length (added_to lists more)
added_sum [] lists more front = omega arith
added_sum (first ∷ firsts) [] [] front = omega arith
added_sum (first ∷ firsts) [] (m ∷ more) front = absurd front
added_sum (first ∷ firsts) (list ∷ lists) [] front = absurd front
added_sum (first ∷ firsts) (list ∷ lists) (m ∷ more) front =
    let rest = added_sum firsts lists more front.1 in
    let long = ap (λ (l : List Tuple). length l) front.0.1 in
    omega (
      arith,
      rest,
      long,
      length-append list front.0.0,
      length-drop (length list) m,
      length-append (drop (length list) m) (added_to lists more),
      sum_by-cons (λ (n : ℕ). n) (first + length m) (list_lengths firsts more),
      sum_by-cons (λ (n : ℕ). n) (first + length list) (list_lengths firsts lists),
    )

-- ---- the room
links_few : (suffixes : List ℕ) (found : List Judged) → length (links_of suffixes found) ≤ length found
links_few suffixes found =
    let offers : List Tuple = map (λ (one : Judged). one.offer) found in
    let linked : List Tuple = filter (links_domains (domain_of suffixes) key_of) offers in
    let all : length offers ≡ length found = length-map found (λ (one : Judged). one.offer) in
    let some : length linked ≤ length offers = fewer (links_domains (domain_of suffixes) key_of) offers in
    let pairs : length (links_of suffixes found) ≡ length linked = length-map linked (λ (offer : Tuple). pair_offer key_of offer.from (domain_of suffixes offer.aux)) in
    omega (arith, all, some, pairs)

part_few : (buckets b : ℕ) (offers : List Tuple) → length (part buckets b offers) ≤ length offers
part_few buckets b offers = fewer (λ (offer : Tuple). nat_eq (bucket_of buckets offer.key) b) offers

module _ (suffixes : List ℕ) (settings : Settings) (handed : List Tuple) (most : ℕ) (x y : State) (room : HasRoomFor most settings x) (few : length handed ≤ most) (b : ℕ)
    (within : b < settings.buckets) where
  pub room_urls : length (list_at x.urls b) + length (part settings.buckets b handed) ≤ settings.cap
  room_urls =
      let fits = room.urls b within in
      let part = part_few settings.buckets b handed in
      omega (arith, fits, part, few)

  pub room_pairs : IsFront x.urls y.urls → IsAmong (added_to x.urls.lists y.urls.lists) handed → IsBook y.urls → length (pairs_for suffixes settings x y.urls b) ≤ settings.cap
  room_pairs front among is =
      let sent : ℕ = (come settings x).sent in
      let links : List Tuple = links_since suffixes settings x y.urls in
      let fits = room.pairs b within in
      let both : length (pairs_for suffixes settings x y.urls b) ≡ length (list_at x.pairs b) + length (part settings.buckets b links) =
      length-append (list_at x.pairs b) (part settings.buckets b links) in
      let some = part_few settings.buckets b links in
      let linked : length links ≤ length (judged_after sent y.urls) = links_few suffixes (judged_after sent y.urls) in
      let judged = judged_few sent y.urls is in
      let firsts : sum (lengths_of y.urls) ≡ sum (list_lengths x.urls.firsts y.urls.lists) = ap (λ (firsts : List ℕ). sum (list_lengths firsts y.urls.lists)) front.firsts in
      let added : sum (list_lengths x.urls.firsts y.urls.lists) ≤ sum (lengths_of x.urls) + length (added_to x.urls.lists y.urls.lists) =
      added_sum x.urls.firsts x.urls.lists y.urls.lists front.lists in
      let long = length_permutation (added_to x.urls.lists y.urls.lists ++ among.rest) handed among.is in
      let parts = length-append (added_to x.urls.lists y.urls.lists) among.rest in
      omega (arith, fits, both, some, linked, judged, firsts, added, long, parts, few)
