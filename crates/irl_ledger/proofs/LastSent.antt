-- What the last event of sent pairs says of the books, and how the book of pairs goes on behind it.
use Rattle.std.proofs.Common.{◌≡◌, ◌∙◌, ℕ, zero, suc, ◌+◌, ◌-◌, ◌<◌, ◌≤◌, ◌^◌, nat_eq, nat_le, nat_lt, ◌&&◌, Bool, true, false, List, [], ◌∷◌, ◌++◌, map, length, drop, get_or, if◌then◌else◌, Option, None, Some, refl, sym, ap, subst, append_assoc, append-nil, arith}
use Rattle.std.specs.Prelude.{option_map, unwrap_or}
use Rattle.std.specs.List.{AllByRecursion, filter}
use Rattle.std.proofs.lemmas.Bool.{and_right, cond-false, le-ltb, ne_eqb}
use Rattle.std.proofs.lemmas.List.Elements.{recursion_from_All}
use Rattle.irl_offer.specs.Buckets.{bucket_of}
use Rattle.irl_offer.specs.declared.offer.Op.TheVariants.{Both}
use Rattle.irl_offer.specs.declared.place.Place.{Place}
use Rattle.irl_offer.specs.declared.receipt.Judged.{Judged}
use Rattle.irl_offer.specs.declared.settings.Settings.{Settings}
use Rattle.irl_offer.specs.Tuple.{Tuple}
use Rattle.irl_key.specs.Key.{key_of}
use Rattle.irl_model.specs.Book.{ArePrefixes, Book, IsBook, IsFront, IsPrefixOf, at_cut, gone, judged, judged_cut, judged_offers, lengths_of, part, uniques, with_cuts}
use Rattle.irl_model.proofs.FrontLaws.{judged_offers_front}
use Rattle.irl_model.proofs.Merges.{earlier_all, earlier_book, earlier_front, length-judged}
use Rattle.irl_events.specs.Events.{Event, Begin, Pairs, Pass, Robots, Settle, Happened, Progress, after_event, before_all, progress}
use Rattle.irl_events.specs.Links.{AreAlike, first_with, links_domains, pair_offer, pair_offers, pairs as pairs_of}
use Rattle.irl_events.proofs.Following.{after_more}
use Rattle.irl_events.proofs.LinkLemmas.{pairs-append}
use Rattle.irl_core.specs.States.{AreOffered, AreSent, HoldsLinks, IsOfBooks, begun_with, cut_count, judged_by, offers_of, uniques_within}
use Rattle.irl_core.proofs.StateLemmas.{Along, along-each, more_pairs}
use Rattle.irl_bay.specs.Standing.{IsBookOf}
use Rattle.irl_schedule.specs.Feeding.{list_at}
use Rattle.irl_ledger.specs.Crawling.{IsCrawlState, domain_of, pair_settings}
use Rattle.irl_ledger.specs.Sending.{judged_after, links_of}
use Rattle.irl_ledger.proofs.KeyBounds.{bucket_small, key_small}
use Rattle.irl_ledger.proofs.Reading.{none_gone}
use Rattle.irl_ledger.proofs.SentLinks.{BehindLinks, all_alike, first_same, judged_are_offers, still_offered}

none_below : (us : List (ℕ × Tuple)) → filter (λ (p : ℕ × Tuple). nat_le 0 p.0 && nat_lt p.0 0) us ≡ []
none_below [] = refl
none_below (u ∷ us) = rw (and_right (nat_le 0 u.0) (nat_lt u.0 0) (le-ltb u.0 0 (omega arith))) (none_below us)

module _ (domain : List ℕ → List ℕ) (key : List ℕ → ℕ) (settings : Settings) (urls pairs : Book) where
  -- the last numbers of sent pairs are those of some cuts, or none were sent
  pub record IsSent (x : Progress) : Type 0 where
    pub made : x.cuts ≤ cut_count urls
    pub counted : x.sent ≡ judged_by urls x.cuts
    pub alike : AreAlike (map (λ (p : ℕ × Tuple). p.1) (uniques_within 0 x.pairs pairs)) (pairs_of domain key urls x.cuts)

  pub sent_none : urls.dropped ≡ 0 → gone urls ≡ 0 → IsSent (before_all settings.queues settings.buckets)
  sent_none dropped none =
      let nothing : judged_offers (at_cut 0 urls) ≡ [] = let k : 0 - urls.dropped ≡ 0 = omega arith in ap (λ (n : ℕ). judged_offers (with_cuts n urls)) k in
      record {
        made = omega arith;
        counted = omega (arith, none, ap (λ (l : List Tuple). length l) nothing);
        alike = λ k. ap (λ (us : List (ℕ × Tuple)). option_map (λ (o : Tuple). o.aux) (first_with k (map (λ (p : ℕ × Tuple). p.1) us))) (none_below (uniques pairs))
            ∙ ap (λ (l : List Tuple). option_map (λ (o : Tuple). o.aux) (first_with k (pair_offers domain key l))) (sym nothing);
      }

  sent_after : (x : Progress) (event : Event) (places : List Place) → IsSent x → IsOfBooks domain key settings urls pairs x event places → IsSent (after_event x event places)
  sent_after x (Begin suffixes) places sent books = record { made = sent.made; counted = sent.counted; alike = sent.alike }
  sent_after x (Pairs cuts many count) places sent books = record { made = books.0.made; counted = books.0.counted; alike = books.0.alike }
  sent_after x (Pass q) places sent books = record { made = sent.made; counted = sent.counted; alike = sent.alike }
  sent_after x (Robots note) places sent books = record { made = sent.made; counted = sent.counted; alike = sent.alike }
  sent_after x (Settle fronts outcomes) places sent books = record { made = sent.made; counted = sent.counted; alike = sent.alike }

  abbrev OfBooks : List Happened → Happened → Type 0
  OfBooks before h = IsOfBooks domain key settings urls pairs (progress settings.queues settings.buckets before) h.0 h.1

  sent_along : (events seen : List Happened) → IsSent (progress settings.queues settings.buckets seen) → Along OfBooks seen events → IsSent (progress settings.queues settings.buckets (seen ++ events))
  sent_along [] seen sent all = subst (λ (hs : List Happened). IsSent (progress settings.queues settings.buckets hs)) (sym (append-nil seen)) sent
  sent_along (h ∷ hs) seen sent all =
      let next : IsSent (progress settings.queues settings.buckets (seen ++ h ∷ [])) =
      subst IsSent (sym (after_more (before_all settings.queues settings.buckets) seen h)) (sent_after (progress settings.queues settings.buckets seen) h.0 h.1 sent all.0) in
      subst (λ (es : List Happened). IsSent (progress settings.queues settings.buckets es)) (append_assoc seen (h ∷ []) hs) (sent_along hs (seen ++ h ∷ []) next all.1)

  pub sent_last : (events : List Happened) → urls.dropped ≡ 0 → gone urls ≡ 0
      → ((before after : List Happened) (event : Event) (places : List Place) → events ≡ before ++ (event, places) ∷ after
      → IsOfBooks domain key settings urls pairs (progress settings.queues settings.buckets before) event places) → IsSent (progress settings.queues settings.buckets events)
  sent_last events dropped none each = sent_along events [] (sent_none dropped none) (along-each OfBooks [] events (λ before h after same. each before after h.0 h.1 same))

  -- the links of all cuts are those of the cuts of the last pairs, and then those of what was judged since
  pub links_split : (x : Progress) → IsBook urls → IsSent x
      → pairs_of domain key urls (cut_count urls) ≡ pairs_of domain key urls x.cuts ++ pair_offers domain key (drop (x.sent - gone urls) (judged_offers urls))
  links_split x is sent =
      let k = x.cuts - urls.dropped in
      let front = judged_offers_front (with_cuts k urls) urls (earlier_book k urls is) (earlier_front k urls) in
      let all : judged_offers (at_cut (cut_count urls) urls) ≡ judged_offers urls = ap judged_offers (earlier_all (cut_count urls - urls.dropped) urls (omega arith)) in
      let count : x.sent - gone urls ≡ length (judged_offers (with_cuts k urls)) = omega (arith, sent.counted) in
      let rest : drop (x.sent - gone urls) (judged_offers urls) ≡ front.0 =
      ap (λ (n : ℕ). drop n (judged_offers urls)) count ∙ ap (λ (l : List Tuple). drop (length (judged_offers (with_cuts k urls))) l) front.1 ∙ drop_front (judged_offers (with_cuts k urls)) front.0 in
      ap (pair_offers domain key) (all ∙ front.1) ∙ pairs-append domain key (judged_offers (with_cuts k urls)) front.0
      ∙ ap (λ (l : List Tuple). pairs_of domain key urls x.cuts ++ pair_offers domain key l) (sym rest)
    where
      drop_front : (xs ys : List Tuple) → drop (length xs) (xs ++ ys) ≡ ys
      drop_front [] ys = refl
      drop_front (x ∷ xs) ys = drop_front xs ys

  -- each pair is a check that enters
  pub links_enter : (offers : List Tuple) → AllByRecursion (λ (o : Tuple). o.op ≡ Both) (pair_offers domain key offers)
  links_enter [] = tt
  links_enter (offer ∷ offers) = by (links_domains domain key offer) (links_enter offers)
    where
      by : (test : Bool) → AllByRecursion (λ (o : Tuple). o.op ≡ Both) (pair_offers domain key offers)
          → AllByRecursion (λ (o : Tuple). o.op ≡ Both) (map (λ o. pair_offer key o.from (domain o.aux)) (if test then offer
          ∷ filter (links_domains domain key) offers else filter (links_domains domain key) offers))
      by true rest = (refl, rest)
      by false rest = rest

-- ---- a crawl's state
-- the links of what was judged since the last pairs
pub links_since : (suffixes : List ℕ) (from : ℕ) (urls : Book) → links_of suffixes (judged_after from urls) ≡ pair_offers (domain_of suffixes) key_of (drop (from - gone urls) (judged_offers urls))
links_since suffixes from urls =
    ap (pair_offers (domain_of suffixes) key_of) (map_drop (from - gone urls) (judged urls) ∙ ap (λ (l : List Tuple). drop (from - gone urls) l) (judged_are_offers urls))
  where
    map_drop : (n : ℕ) (js : List Judged) → map (λ (j : Judged). j.offer) (drop n js) ≡ drop n (map (λ (j : Judged). j.offer) js)
    map_drop zero js = refl
    map_drop (suc n) [] = refl
    map_drop (suc n) (j ∷ js) = map_drop n js

some_bucket : (book : Book) → IsBook book → 0 < book.buckets
some_bucket book is = let count = is.buckets in grind arith

pub prefixes_at : (xs ys : List (List Tuple)) (b : ℕ) → ArePrefixes xs ys → b < length xs → IsPrefixOf (get_or xs b []) (get_or ys b [])
prefixes_at [] ys b are within = absurd (omega (arith, within))
prefixes_at (x ∷ xs) [] b are within = absurd are
prefixes_at (x ∷ xs) (y ∷ ys) zero are within = are.0
prefixes_at (x ∷ xs) (y ∷ ys) (suc b) are within = prefixes_at xs ys b are.1 (omega (arith, within))

module _ (settings : Settings) (urls pairs more : Book) (events : List Happened) (suffixes : List ℕ) (urls_are : IsBookOf settings urls) (state : IsCrawlState settings urls pairs events)
    (begun : begun_with events ≡ Some suffixes) (more_is : IsBookOf (pair_settings settings) more) (front : IsFront pairs more)
    (takes : (b : ℕ) → b < settings.buckets → IsPrefixOf (list_at more b) (list_at pairs b
    ++ part settings.buckets b (links_of suffixes (judged_after (progress settings.queues settings.buckets events).sent urls)))) where
  abbrev x : Progress
  x = progress settings.queues settings.buckets events

  abbrev news : List Tuple
  news = links_of suffixes (judged_after x.sent urls)

  abbrev links : List Tuple
  links = pairs_of (domain_of suffixes) key_of urls (cut_count urls)

  of_suffixes : unwrap_or (begun_with events) [] ≡ suffixes
  of_suffixes = ap (λ (s : Option (List ℕ)). unwrap_or s []) begun

  sent : IsSent (domain_of suffixes) key_of settings urls pairs x
  sent = sent_last (domain_of suffixes) key_of settings urls pairs events urls_are.dropped (none_gone settings urls urls_are)
      (λ before after event places same. subst (λ (text : List ℕ). IsOfBooks (domain_of text) key_of settings urls pairs (progress settings.queues settings.buckets before) event places) of_suffixes
      (state.legal.each before after event places same))

  offered : AreOffered links (offers_of pairs)
  offered = subst (HoldsLinks domain_of key_of urls pairs) begun state.legal.links

  whole : links ≡ pairs_of (domain_of suffixes) key_of urls x.cuts ++ news
  whole = links_split (domain_of suffixes) key_of settings urls pairs x urls_are.is_book sent
      ∙ ap (λ (l : List Tuple). pairs_of (domain_of suffixes) key_of urls x.cuts ++ l) (sym (links_since suffixes x.sent urls))

  abbrev test : ℕ × Tuple → Bool
  test p = nat_le 0 p.0 && nat_lt p.0 x.pairs

  behind : BehindLinks pairs more news
  behind = record {
    book = more_is.is_book;
    buckets = front.buckets;
    front = λ b within. prefixes_at pairs.lists more.lists b front.lists (omega (arith, within, state.pairs_are.is_book.lists));
    takes = λ b within. subst (λ (n : ℕ). IsPrefixOf (list_at more b) (list_at pairs b ++ part n b news)) (sym state.pairs_are.buckets)
        (takes b (subst (λ (n : ℕ). b < n) state.pairs_are.buckets within));
  }

  enter_all : AllByRecursion (λ (o : Tuple). o.op ≡ Both) news
  enter_all = subst (AllByRecursion (λ (o : Tuple). o.op ≡ Both)) (sym (links_since suffixes x.sent urls))
      (links_enter (domain_of suffixes) key_of settings urls pairs (drop (x.sent - gone urls) (judged_offers urls)))

  more_offered : AreOffered links (offers_of more)
  more_offered = still_offered links (pairs_of (domain_of suffixes) key_of urls x.cuts) news pairs more test whole state.pairs_are.is_book sent.alike offered behind enter_all

  -- the state is a crawl's with the longer book
  pub crawl_longer : IsCrawlState settings urls more events
  crawl_longer = record {
    pairs_are = more_is;
    legal = more_pairs domain_of key_of settings urls pairs more state.pairs_are.is_book front events (subst (HoldsLinks domain_of key_of urls more) (sym begun) more_offered) state.legal;
    taken = state.taken;
  }

  -- a key past those that have a bucket is in no link
  no_link : (k : ℕ) → pairs.buckets ≤ bucket_of pairs.buckets k → first_with k links ≡ None
  no_link k past = none_of (judged_offers (at_cut (cut_count urls) urls))
    where
      count : 0 < pairs.buckets
      count = some_bucket pairs state.pairs_are.is_book

      differs : (o : Tuple) → o.key < 2 ^ 64 → nat_eq o.key k ≡ false
      differs o small = ne_eqb o.key k (λ same. let within = bucket_small pairs.buckets k count (subst (λ (n : ℕ). n < 2 ^ 64) same small) in absurd (omega (arith, within, past)))

      none_of : (os : List Tuple) → first_with k (pair_offers (domain_of suffixes) key_of os) ≡ None
      none_of [] = refl
      none_of (o ∷ os) = by (links_domains (domain_of suffixes) key_of o) (none_of os)
        where
          by : (test : Bool) → first_with k (pair_offers (domain_of suffixes) key_of os) ≡ None
              → first_with k (map (λ o. pair_offer key_of o.from (domain_of suffixes o.aux))
              (if test then o ∷ filter (links_domains (domain_of suffixes) key_of) os else filter (links_domains (domain_of suffixes) key_of) os)) ≡ None
          by true rest = cond-false (nat_eq (pair_offer key_of o.from (domain_of suffixes o.aux)).key k) (Some (pair_offer key_of o.from (domain_of suffixes o.aux)))
              (first_with k (pair_offers (domain_of suffixes) key_of os)) (differs (pair_offer key_of o.from (domain_of suffixes o.aux)) (key_small _)) ∙ rest
          by false rest = rest

  -- where the book has them all and judged all, its pairs are those of all cuts
  pub sent_now : judged_cut more ≡ lengths_of more
      → ((b : ℕ) → b < settings.buckets → list_at more b ≡ list_at pairs b ++ part settings.buckets b (links_of suffixes (judged_after (progress settings.queues settings.buckets events).sent urls)))
      → AreSent (pairs_of (domain_of suffixes) key_of urls (cut_count urls)) urls more (cut_count urls) (judged_by urls (cut_count urls)) (judged_by more (cut_count more))
  sent_now all have = record {
    made = omega arith;
    counted = refl;
    at_a_cut = (cut_count more, omega arith, refl);
    alike = subst (λ (n : ℕ). AreAlike (map (λ (p : ℕ × Tuple). p.1) (uniques_within 0 n more)) links) count
        (all_alike links more more_is.is_book (more_is.is_book.none more_is.dropped).0 all
        (recursion_from_All (λ (o : Tuple). o.op ≡ Both) (offers_of more) more_offered.each)
        (λ k. first_same links (pairs_of (domain_of suffixes) key_of urls x.cuts) news pairs more test whole state.pairs_are.is_book sent.alike offered behind k
        (λ b within. subst (λ (n : ℕ). list_at more b ≡ list_at pairs b ++ part n b news) (sym state.pairs_are.buckets) (have b (subst (λ (n : ℕ). b < n) state.pairs_are.buckets within)))
        (no_link k)));
  }
    where
      count : gone more + length (judged more) ≡ judged_by more (cut_count more)
      count = omega (arith, length-judged more, ap (λ (b : Book). length (judged_offers b)) (earlier_all (cut_count more - more.dropped) more (omega arith)))
