-- The pairs that are sent over stretches of time, one behind the other.
use Rattle.std.proofs.Common.{◌≡◌, ◌∙◌, ⊎_elim, ℕ, zero, suc, ◌-◌, ◌≤◌, ◌<◌, nat_eq, List, [], ◌∷◌, ◌++◌, map, length, drop, Some, refl, sym, ap, subst, append_assoc, append-nil, length-append, arith}
use Rattle.std.specs.List.{AllByRecursion}
use Rattle.std.specs.Prelude.{⊤, sum, unwrap_or}
use Rattle.std.proofs.lemmas.List.{map-append}
use Rattle.std.proofs.lemmas.List.Elements.{filter-append}
use Rattle.irl_bay.specs.Standing.{IsBookOf}
use Rattle.irl_core.specs.States.{begun_with, cut_count}
use Rattle.irl_events.proofs.LinkLemmas.{pairs-append}
use Rattle.irl_events.specs.Links.{pair_offers}
use Rattle.irl_events.specs.Events.{Event, Begin, Pairs, Pass, Robots, Settle, Happened, Progress, after_event, after_events, before_all, progress}
use Rattle.irl_events.specs.State.{State, IsFrontState, blank_state}
use Rattle.irl_key.specs.Key.{key_of}
use Rattle.irl_ledger.proofs.LastSent.{IsSent, sent_last}
use Rattle.irl_ledger.proofs.Reading.{none_gone}
use Rattle.irl_ledger.specs.Crawling.{domain_of}
use Rattle.irl_ledger.specs.Sending.{judged_after, links_of}
use Rattle.irl_model.proofs.FrontLaws.{judged_front, judged_offers_front}
use Rattle.irl_model.proofs.Merges.{earlier_all, earlier_book, earlier_front, length-judged}
use Rattle.irl_model.specs.Book.{Book, IsFront, IsPrefixOf, gone, judged, judged_offers, part, with_cuts}
use Rattle.irl_offer.specs.Buckets.{bucket_of}
use Rattle.irl_offer.specs.Tuple.{Tuple}
use Rattle.irl_offer.specs.declared.receipt.Judged.{Judged}
use Rattle.irl_offer.specs.declared.settings.Settings.{Settings}
use Rattle.irl_reach.proofs.Growing.{drop_front, made_fronts}
use Rattle.irl_reach.specs.Crawls.{IsCrawlStore, IsStore}
use Rattle.irl_schedule.specs.Feeding.{list_at}
use Rattle.irl_crawl.specs.Sending.{SendsAll, SendsLinks, links_since, pairs_for}

-- of how many judged offers a state's events say that their pairs are sent
abbrev pub sent_by : Settings → State → ℕ
sent_by settings x = (progress settings.queues settings.buckets x.events).sent

-- ---- events that don't tell of pairs
abbrev pub TellsNoPairs : Event → Type 0
TellsNoPairs (Begin suffixes) = ⊤
TellsNoPairs (Pairs cuts judged pairs) = ⊥
TellsNoPairs (Pass judged) = ⊤
TellsNoPairs (Robots note) = ⊤
TellsNoPairs (Settle fronts outcomes) = ⊤

pub after_both : (p : Progress) (hs more : List Happened) → after_events p (hs ++ more) ≡ after_events (after_events p hs) more
after_both p [] more = refl
after_both p (h ∷ hs) more = after_both (after_event p h.0 h.1) hs more

same_sent : (p : Progress) (hs : List Happened) → AllByRecursion (λ (h : Happened). TellsNoPairs h.0) hs → (after_events p hs).sent ≡ p.sent
same_sent p [] all = refl
same_sent p ((Begin suffixes, places) ∷ hs) all = same_sent (after_event p (Begin suffixes) places) hs all.1
same_sent p ((Pairs cuts judged pairs, places) ∷ hs) all = absurd all.0
same_sent p ((Pass judged, places) ∷ hs) all = same_sent (after_event p (Pass judged) places) hs all.1
same_sent p ((Robots note, places) ∷ hs) all = same_sent (after_event p (Robots note) places) hs all.1
same_sent p ((Settle fronts outcomes, places) ∷ hs) all = same_sent (after_event p (Settle fronts outcomes) places) hs all.1

pub sent_same : (settings : Settings) (x y : State) (more : List Happened) → y.events ≡ x.events ++ more → AllByRecursion (λ (h : Happened). TellsNoPairs h.0) more
    → sent_by settings y ≡ sent_by settings x
sent_same settings x y more events none =
    let start : Progress = before_all settings.queues settings.buckets in
    ap (λ (hs : List Happened). (after_events start hs).sent) events ∙ ap (λ (p : Progress). p.sent) (after_both start x.events more)
    ∙ same_sent (after_events start x.events) more none

-- ---- what is still to be sent
-- of these URLs two states are to have the same pairs
abbrev pub OweAlike : List ℕ → Settings → State → State → Book → Type 0
OweAlike suffixes settings x y urls = (b : ℕ) → b < settings.buckets → pairs_for suffixes settings x urls b ≡ pairs_for suffixes settings y urls b

module _ (suffixes : List ℕ) (settings : Settings) (x y : State) where
  -- no pair is sent
  pub sends_same : y.pairs ≡ x.pairs → SendsLinks suffixes settings x y
  sends_same same b within = (
    part settings.buckets b (links_since suffixes settings x y.urls),
    ap (λ (pairs : Book). list_at pairs b ++ part settings.buckets b (links_since suffixes settings x y.urls)) (sym same),
  )

  -- and no event tells of any
  pub owe_from : y.pairs ≡ x.pairs → sent_by settings y ≡ sent_by settings x → (urls : Book) → OweAlike suffixes settings x y urls
  owe_from same sent urls b within =
      ap (λ (pairs : Book). list_at pairs b ++ part settings.buckets b (links_since suffixes settings x urls)) (sym same)
      ∙ ap (λ (n : ℕ). list_at y.pairs b ++ part settings.buckets b (links_of suffixes (judged_after n urls))) (sym sent)

module _ (suffixes : List ℕ) (settings : Settings) (x y z : State) where
  pub sends_by : OweAlike suffixes settings x y z.urls → SendsLinks suffixes settings y z → SendsLinks suffixes settings x z
  sends_by owe sends b within = subst (IsPrefixOf (list_at z.pairs b)) (sym (owe b within)) (sends b within)

  pub sends_all_by : OweAlike suffixes settings x y z.urls → SendsAll suffixes settings y z → SendsAll suffixes settings x z
  sends_all_by owe sends b within = sends b within ∙ sym (owe b within)

  pub sends_from : y.pairs ≡ x.pairs → sent_by settings y ≡ sent_by settings x → SendsLinks suffixes settings y z → SendsLinks suffixes settings x z
  sends_from same sent = sends_by (owe_from suffixes settings x y same sent z.urls)

  pub sends_all_from : y.pairs ≡ x.pairs → sent_by settings y ≡ sent_by settings x → SendsAll suffixes settings y z → SendsAll suffixes settings x z
  sends_all_from same sent = sends_all_by (owe_from suffixes settings x y same sent z.urls)

  -- the books of the last one stay
  pub sends_to : z.urls ≡ y.urls → z.pairs ≡ y.pairs → SendsLinks suffixes settings x y → SendsLinks suffixes settings x z
  sends_to urls pairs sends b within =
      subst (λ (book : Book). IsPrefixOf (list_at z.pairs b) (pairs_for suffixes settings x book b)) (sym urls)
      (subst (λ (book : Book). IsPrefixOf (list_at book b) (pairs_for suffixes settings x y.urls b)) (sym pairs) (sends b within))

  pub sends_all_to : z.urls ≡ y.urls → z.pairs ≡ y.pairs → SendsAll suffixes settings x y → SendsAll suffixes settings x z
  sends_all_to urls pairs sends b within =
      ap (λ (book : Book). list_at book b) pairs ∙ sends b within ∙ ap (λ (book : Book). pairs_for suffixes settings x book b) (sym urls)

-- ---- what a legal state's events say of its URLs
module _ (settings : Settings) (x : State) (is : IsCrawlStore settings x) where
  book_of : IsBookOf settings x.urls
  book_of = record { is_book = is.book; buckets = is.buckets; rule = is.rule; dropped = is.dropped }

  pub gone_none : gone x.urls ≡ 0
  gone_none = none_gone settings x.urls book_of

  abbrev come_so : Progress
  come_so = progress settings.queues settings.buckets x.events

  abbrev domain_so : List ℕ → List ℕ
  domain_so = domain_of (unwrap_or (begun_with x.events) [])

  sent_is : IsSent domain_so key_of settings x.urls x.pairs come_so
  sent_is = sent_last domain_so key_of settings x.urls x.pairs x.events is.dropped gone_none is.legal.each

  abbrev first_cuts : ℕ
  first_cuts = come_so.cuts - x.urls.dropped

  -- no more are sent than are judged,
  pub sent_few : sent_by settings x ≤ length (judged x.urls)
  sent_few =
      let front = judged_offers_front (with_cuts first_cuts x.urls) x.urls (earlier_book first_cuts x.urls is.book) (earlier_front first_cuts x.urls) in
      let long = ap (λ (l : List Tuple). length l) front.1 in
      omega (arith, sent_is.counted, gone_none, long, length-append (judged_offers (with_cuts first_cuts x.urls)) front.0, length-judged x.urls)

  -- and all where the pairs of all cuts are sent
  pub sent_all : come_so.cuts ≡ cut_count x.urls → sent_by settings x ≡ length (judged x.urls)
  sent_all cuts =
      let whole : with_cuts first_cuts x.urls ≡ x.urls = earlier_all first_cuts x.urls (omega (arith, cuts)) in
      let long = ap (λ (book : Book). length (judged_offers book)) whole in
      omega (arith, sent_is.counted, gone_none, long, length-judged x.urls)

-- ---- lists
drop_first : {X : Type 0} (n : ℕ) (xs ys : List X) → n ≤ length xs → drop n (xs ++ ys) ≡ drop n xs ++ ys
drop_first zero xs ys within = refl
drop_first (suc n) [] ys within = absurd (omega (arith, within))
drop_first (suc n) (x ∷ xs) ys within = drop_first n xs ys (omega (arith, within))

drop_all : {X : Type 0} (n : ℕ) (xs : List X) → length xs ≤ n → drop n xs ≡ []
drop_all zero [] within = refl
drop_all zero (x ∷ xs) within = absurd (omega (arith, within))
drop_all (suc n) [] within = refl
drop_all (suc n) (x ∷ xs) within = drop_all n xs (omega (arith, within))

links_both : (suffixes : List ℕ) (xs ys : List Judged) → links_of suffixes (xs ++ ys) ≡ links_of suffixes xs ++ links_of suffixes ys
links_both suffixes xs ys =
    let offers : List Judged → List Tuple = map (λ (one : Judged). one.offer) in
    ap (pair_offers (domain_of suffixes) key_of) (map-append (λ (one : Judged). one.offer) xs ys) ∙ pairs-append (domain_of suffixes) key_of (offers xs) (offers ys)

-- ---- one stretch of time behind another
-- All links of the first are sent.
module _ (suffixes : List ℕ) (settings : Settings) (x y z : State) (store : IsStore x) (made : IsCrawlStore settings y) (one : IsFrontState x y) (two : IsFrontState y z)
    (cuts : (progress settings.queues settings.buckets y.events).cuts ≡ cut_count y.urls) where
  later : IsFront y.urls z.urls
  later = (made_fronts settings y z made two).urls

  more : IsPrefixOf (judged y.urls) (judged z.urls)
  more = judged_front y.urls z.urls made.book later

  gone_y : gone y.urls ≡ 0
  gone_y = gone_none settings y made

  gone_z : gone z.urls ≡ 0
  gone_z = ap sum later.firsts ∙ gone_y

  sent_y : sent_by settings y ≡ length (judged y.urls)
  sent_y = sent_all settings y made cuts

  few_blank : x ≡ blank_state → sent_by settings x ≤ length (judged y.urls)
  few_blank blank = let none : sent_by settings x ≡ 0 = ap (λ (s : State). sent_by settings s) blank in omega (arith, none)

  few_made : (other : Settings) → IsCrawlStore other x → sent_by settings x ≤ length (judged y.urls)
  few_made other is =
      let fronts = made_fronts other x y is one in
      let same_some : Some other ≡ Some settings = sym is.settings_are ∙ sym fronts.settings ∙ made.settings_are in
      let same : other ≡ settings = cc in
      let few : sent_by settings x ≤ length (judged x.urls) = subst (λ (s : Settings). sent_by s x ≤ length (judged x.urls)) same (sent_few other x is) in
      let front = judged_front x.urls y.urls is.book fronts.urls in
      let long = ap (λ (l : List Judged). length l) front.1 in
      omega (arith, few, long, length-append (judged x.urls) front.0)

  few : sent_by settings x ≤ length (judged y.urls)
  few = ⊎_elim few_blank (λ (is : (other : Settings) × IsCrawlStore other x). few_made is.0 is.1) store

  judged_x : judged_after (sent_by settings x) z.urls ≡ judged_after (sent_by settings x) y.urls ++ more.0
  judged_x =
      let n = sent_by settings x in
      let at_z : n - gone z.urls ≡ n = omega (arith, gone_z) in
      let at_y : n ≡ n - gone y.urls = omega (arith, gone_y) in
      ap (λ (k : ℕ). drop k (judged z.urls)) at_z ∙ ap (drop n) more.1 ∙ drop_first n (judged y.urls) more.0 few ∙ ap (λ (k : ℕ). drop k (judged y.urls) ++ more.0) at_y

  judged_y : judged_after (sent_by settings y) z.urls ≡ more.0
  judged_y =
      let n = sent_by settings y in
      let at_z : n - gone z.urls ≡ length (judged y.urls) = omega (arith, gone_z, sent_y) in
      ap (λ (k : ℕ). drop k (judged z.urls)) at_z ∙ ap (drop (length (judged y.urls))) more.1 ∙ drop_front (judged y.urls) more.0

  links_x : links_since suffixes settings x z.urls ≡ links_since suffixes settings x y.urls ++ links_since suffixes settings y z.urls
  links_x =
      ap (links_of suffixes) judged_x ∙ links_both suffixes (judged_after (sent_by settings x) y.urls) more.0
      ∙ ap (λ (l : List Judged). links_since suffixes settings x y.urls ++ links_of suffixes l) (sym judged_y)

  pub owe_then : SendsAll suffixes settings x y → OweAlike suffixes settings x y z.urls
  owe_then sends b within =
      let at : List Tuple → List Tuple = part settings.buckets b in
      let old = list_at x.pairs b in
      let first = links_since suffixes settings x y.urls in
      let second = links_since suffixes settings y z.urls in
      ap (λ (l : List Tuple). old ++ at l) links_x
      ∙ ap (λ (l : List Tuple). old ++ l) (filter-append (λ (offer : Tuple). nat_eq (bucket_of settings.buckets offer.key) b) first second)
      ∙ sym (append_assoc old (at first) (at second)) ∙ ap (λ (l : List Tuple). l ++ at second) (sym (sends b within))

  pub sends_then : SendsAll suffixes settings x y → SendsLinks suffixes settings y z → SendsLinks suffixes settings x z
  sends_then all sends = sends_by suffixes settings x y z (owe_then all) sends

  pub sends_all_then : SendsAll suffixes settings x y → SendsAll suffixes settings y z → SendsAll suffixes settings x z
  sends_all_then all sends = sends_all_by suffixes settings x y z (owe_then all) sends

-- where all is sent nothing is owed
pub sends_none : (suffixes : List ℕ) (settings : Settings) (x : State) → IsCrawlStore settings x → (progress settings.queues settings.buckets x.events).cuts ≡ cut_count x.urls
    → SendsAll suffixes settings x x
sends_none suffixes settings x is cuts b within =
    let few : length (judged x.urls) ≤ sent_by settings x - gone x.urls = omega (arith, sent_all settings x is cuts, gone_none settings x is) in
    let none : judged_after (sent_by settings x) x.urls ≡ [] = drop_all (sent_by settings x - gone x.urls) (judged x.urls) few in
    sym (ap (λ (l : List Judged). list_at x.pairs b ++ part settings.buckets b (links_of suffixes l)) none ∙ append-nil (list_at x.pairs b))
