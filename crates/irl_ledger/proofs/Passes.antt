-- A pass of a ledger, over the state that it holds: its places are those that the links give, and the tables stay those of the crawl.
use Rattle.std.proofs.Common.{◌≡◌, ◌∙◌, Bool, true, false, ℕ, zero, suc, ◌+◌, ◌-◌, ◌≤◌, nat_eq, nat_le, nat_lt, ◌&&◌, List, [], ◌∷◌, ◌++◌, map, set, cond, Option, Some, refl, sym, ap, subst, arith}
use Rattle.std.specs.Prelude.{find, option_map, unwrap_or}
use Rattle.std.specs.List.{AllByRecursion}
use Rattle.std.proofs.lemmas.List.{map-append}
use mathlib.Core.Path.{fun_ext}
use Rattle.irl_base.specs.Lists.{list_at, with_one}
use Rattle.irl_offer.specs.Purses.{Budget}
use Rattle.irl_offer.specs.Tuple.{Tuple}
use Rattle.irl_offer.specs.declared.place.Place.{Place}
use Rattle.irl_offer.specs.declared.place.Slot.{Slot}
use Rattle.irl_offer.specs.declared.place.Slot.TheVariants.{Front, Queue, Last}
use Rattle.irl_offer.specs.declared.settings.Settings.{Settings}
use Rattle.irl_key.specs.Key.{key_of}
use Rattle.irl_beast.specs.declared.item.Item.{Item}
use Rattle.irl_beast.specs.Passes.{item_numbers, numbered, passed, read_by as read_items_by}
use Rattle.irl_beast.specs.Places.{place}
use Rattle.irl_model.specs.Book.{Book, uniques}
use Rattle.irl_events.specs.Events.{Pass, Happened, Progress, after_event, before_all, progress}
use Rattle.irl_events.specs.Links.{AreAlike, linked, pairs as pairs_of}
use Rattle.irl_events.specs.Queues.{Waiting, delivered, next_queues, put, round_ended}
use Rattle.irl_events.proofs.Following.{after_more}
use Rattle.irl_star.specs.Budgets.{budget}
use Rattle.irl_core.specs.States.{AreOffered, HoldsLinks, IsOfBooks, begun_with, cut_count, item_of, offers_of, places_of, read_by, uniques_within, url_text}
use Rattle.irl_bay.specs.Drum.{Drum}
use Rattle.irl_frontier.specs.Frontier.{Frontier, IsFrontier, after_pass, places_for}
use Rattle.irl_ledger.specs.Crawling.{IsCrawlState, domain_of, pair_settings}
use Rattle.irl_ledger.specs.Holding.{FitsBays, IsFrontierOf, IsItemOf, domain_by, domains_told}
use Rattle.irl_ledger.specs.Passing.{fresh_of}
use Rattle.irl_ledger.proofs.FreshUrls.{all_found, all_filter}
use Rattle.irl_ledger.proofs.ToldDegrees.{sent_now, told_budgets}

-- ---- items that wait
abbrev AreEach : (Item → Type 0) → List (List Item) → Type 0
AreEach P lists = AllByRecursion (λ list. AllByRecursion P list) lists

module _ (P : Item → Type 0) where
  each_both : (xs ys : List Item) → AllByRecursion P xs → AllByRecursion P ys → AllByRecursion P (xs ++ ys)
  each_both [] ys all more = more
  each_both (x ∷ xs) ys all more = (all.0, each_both xs ys all.1 more)

  each_set : (lists : List (List Item)) (at : ℕ) (list : List Item) → AreEach P lists → AllByRecursion P list → AreEach P (set lists at list)
  each_set [] at list all one = tt
  each_set (l ∷ lists) zero list all one = (one, all.1)
  each_set (l ∷ lists) (suc at) list all one = (all.0, each_set lists at list all.1 one)

  pub each_at : (lists : List (List Item)) (at : ℕ) → AreEach P lists → AllByRecursion P (list_at lists at)
  each_at [] at all = tt
  each_at (l ∷ lists) zero all = all.0
  each_at (l ∷ lists) (suc at) all = each_at lists at all.1

  each_one : (lists : List (List Item)) (at : ℕ) (item : Item) → AreEach P lists → P item → AreEach P (with_one lists at item)
  each_one lists at item all one = each_set lists at (list_at lists at ++ item ∷ []) all (each_both (list_at lists at) (item ∷ []) (each_at lists at all) (one, tt))

  each_put : (lists : List (List Item)) (item : Item) (slot : Slot) → AreEach P lists → P item → AreEach P (put lists item slot)
  each_put lists item Front all one = all
  each_put lists item (Queue number) all one = each_one lists (number - 1) item all one
  each_put lists item Last all one = each_one lists 64 item all one

  each_delivered : (lists : List (List Item)) (items : List Item) (places : List Place) → AreEach P lists → AllByRecursion P items → AreEach P (delivered lists items places)
  unfolding delivered
  each_delivered lists [] places all more = all
  each_delivered lists (item ∷ items) [] all more = all
  each_delivered lists (item ∷ items) (place ∷ places) all more = each_delivered (put lists item place.slot) items places (each_put lists item place.slot all more.0) more.1

  each_ended : (lists : List (List Item)) (queues passes : ℕ) → AreEach P lists → AreEach P (round_ended lists queues passes).lists
  each_ended lists queues passes all = by (nat_lt passes queues)
    where
      by : (b : Bool) → AreEach P (Waiting.lists {X = Item} (cond b (record { lists = lists; queues = queues; passes = passes })
          (record { lists = set (set lists 64 []) 0 (list_at lists 64); queues = next_queues queues (list_at lists 64); passes = 0 })))
      by true = all
      by false = each_set (set lists 64 []) 0 (list_at lists 64) (each_set lists 64 [] all tt) (each_at lists 64 all)

  -- what waits after a pass waited before it, or was fresh
  pub each_passed : (b : Budget) (waiting : Waiting Item) (fresh : List Item) → AreEach P waiting.lists → AllByRecursion P fresh → AreEach P (passed b waiting fresh).lists
  each_passed b waiting fresh all more =
      let read : List Item = read_items_by waiting fresh in
      let rest : List (List Item) = set waiting.lists waiting.passes [] in
      each_ended (delivered rest read (place waiting.passes waiting.queues b read)) waiting.queues (waiting.passes + 1)
      (each_delivered rest read (place waiting.passes waiting.queues b read) (each_set waiting.lists waiting.passes [] all tt)
      (each_both (list_at waiting.lists waiting.passes) fresh (each_at waiting.lists waiting.passes all) more))

-- ---- items of URLs
at_numbers : (lists : List (List Item)) (at : ℕ) → list_at (map item_numbers lists) at ≡ item_numbers (list_at lists at)
at_numbers [] at = refl
at_numbers (l ∷ lists) zero = refl
at_numbers (l ∷ lists) (suc at) = at_numbers lists at

module _ (domain : List ℕ → List ℕ) (urls : Book) where
  item_is : (item : Item) → IsItemOf domain urls item → item ≡ item_of domain urls item.number
  item_is item has =
      let text : url_text urls item.number ≡ has.url.1.aux = ap (λ (o : Option (ℕ × Tuple)). unwrap_or (option_map (λ p. p.1.aux) o) []) has.found in
      let pld : item.pld ≡ domain (url_text urls item.number) = has.pld ∙ ap domain (sym text) in
      ap (λ (name : List ℕ). let one : Item = record { number = item.number; pld = name } in one) pld

  items_are : (items : List Item) → AllByRecursion (IsItemOf domain urls) items → items ≡ map (item_of domain urls) (item_numbers items)
  items_are [] all = refl
  items_are (item ∷ items) all =
      ap (λ (one : Item). one ∷ items) (item_is item all.0) ∙ ap (λ (rest : List Item). item_of domain urls item.number ∷ rest) (items_are items all.1)

  found_items : (us : List (ℕ × Tuple)) → AllByRecursion (λ (p : ℕ × Tuple). find (λ (q : ℕ × Tuple). nat_eq q.0 p.0) (uniques urls) ≡ Some p) us
      → AllByRecursion (IsItemOf domain urls) (map (item_of domain urls) (map (λ (p : ℕ × Tuple). p.0) us))
  found_items [] found = tt
  found_items (u ∷ us) found =
      let text : url_text urls u.0 ≡ u.1.aux = ap (λ (o : Option (ℕ × Tuple)). unwrap_or (option_map (λ p. p.1.aux) o) []) found.0 in
      (record { url = u; found = found.0; pld = ap domain text }, found_items us found.1)

  -- the fresh ones are items of URLs
  pub fresh_items_of : (from to : ℕ) → AllByRecursion (IsItemOf domain urls) (fresh_of domain urls from to)
  fresh_items_of from to =
      found_items (uniques_within from to urls)
      (all_filter (λ (p : ℕ × Tuple). find (λ (q : ℕ × Tuple). nat_eq q.0 p.0) (uniques urls) ≡ Some p) (λ (p : ℕ × Tuple). nat_le from p.0 && nat_lt p.0 to) (uniques urls) (all_found urls))

  -- what a pass reads, as items and by their numbers
  pub read_same : (waiting : Waiting Item) (x : Progress) (judged : ℕ) → x.waiting ≡ numbered waiting → AllByRecursion (λ list. AllByRecursion (IsItemOf domain urls) list) waiting.lists
      → read_items_by waiting (fresh_of domain urls x.read judged) ≡ read_by domain urls x judged
  read_same waiting x judged same items =
      let queue : List Item = list_at waiting.lists waiting.passes in
      let numbers : List ℕ = map (λ p. p.0) (uniques_within x.read judged urls) in
      let there : list_at x.waiting.lists x.waiting.passes ≡ item_numbers queue =
      ap (λ (w : Waiting ℕ). list_at w.lists w.passes) same ∙ at_numbers waiting.lists waiting.passes in
      ap (λ (is : List Item). is ++ fresh_of domain urls x.read judged) (items_are queue (each_at (IsItemOf domain urls) waiting.lists waiting.passes items))
      ∙ sym (map-append (item_of domain urls) (item_numbers queue) numbers)
      ∙ ap (λ (ns : List ℕ). map (item_of domain urls) (ns ++ numbers)) (sym there)

-- ---- a pass
begun_same : (events : List Happened) (h : Happened) (suffixes : List ℕ) → begun_with events ≡ Some suffixes → begun_with (events ++ h ∷ []) ≡ begun_with events
begun_same [] h suffixes is = absurd (cc)
begun_same (e ∷ es) h suffixes is = refl

-- no number of the tables passes the counts of the bays then
pub fits_passed : (urls pairs : Drum) (adds : List (List ℕ)) (x : Frontier) (fresh : List Item) → FitsBays urls pairs x → FitsBays urls pairs (after_pass adds x x.progress.sent fresh)
fits_passed urls pairs adds x fresh fits = record {
  settings = fits.settings;
  cuts = fits.cuts;
  sent = fits.sent;
  read = omega arith;
  fronts = fits.fronts;
  pairs_sent = fits.pairs_sent;
  told = fits.told;
}

module _ (settings : Settings) (urls pairs : Book) (events : List Happened) (x : Frontier) (state : IsCrawlState settings urls pairs events) (keeps : IsFrontier x)
    (tables : IsFrontierOf settings urls pairs events x)
    (suffixes : List ℕ) (begun : begun_with events ≡ Some suffixes) (all : x.progress.cuts ≡ cut_count urls) (told : x.progress.pairs ≤ x.told) where
  abbrev domain : List ℕ → List ℕ
  domain = domain_by events

  abbrev adds : List (List ℕ)
  adds = domains_told x.told pairs

  abbrev fresh : List Item
  fresh = fresh_of domain urls x.progress.read x.progress.sent

  abbrev placed : List Place
  placed = places_for adds x fresh

  abbrev links : List (List ℕ)
  links = linked (pairs_of domain key_of urls x.progress.cuts)

  offered : AreOffered (pairs_of domain key_of urls (cut_count urls)) (offers_of pairs)
  offered =
      let held : HoldsLinks domain_of key_of urls pairs (Some suffixes) = subst (HoldsLinks domain_of key_of urls pairs) begun state.legal.links in
      subst (λ (o : Option (List ℕ)). AreOffered (pairs_of (domain_of (unwrap_or o [])) key_of urls (cut_count urls)) (offers_of pairs)) (sym begun) held

  alike : AreAlike (map (λ p. p.1) (uniques_within 0 x.progress.pairs pairs)) (pairs_of domain key_of urls (cut_count urls))
  alike =
      let now : AreAlike (map (λ p. p.1) (uniques_within 0 x.progress.pairs pairs)) (pairs_of domain key_of urls x.progress.cuts) =
      subst (λ (y : Progress). AreAlike (map (λ p. p.1) (uniques_within 0 y.pairs pairs)) (pairs_of domain key_of urls y.cuts)) (sym tables.progress_is)
      (sent_now domain key_of settings urls pairs events state.legal.each) in
      subst (λ (n : ℕ). AreAlike (map (λ p. p.1) (uniques_within 0 x.progress.pairs pairs)) (pairs_of domain key_of urls n)) all now

  budgets : budget x.settings adds ≡ budget settings links
  budgets =
      ap (λ (s : Settings). budget s adds) tables.settings_are
      ∙ fun_ext (told_budgets (pair_settings settings) (pairs_of domain key_of urls (cut_count urls)) pairs state.pairs_are offered x.progress.pairs x.told told alike settings)
      ∙ ap (λ (n : ℕ). budget settings (linked (pairs_of domain key_of urls n))) (sym all)

  -- its places are those of the definition
  pub places_are : placed ≡ places_of domain key_of settings urls x.progress x.progress.sent
  places_are =
      let passes : x.progress.waiting.passes ≡ x.waiting.passes = ap (λ (w : Waiting ℕ). w.passes) keeps.waiting in
      let queues : x.progress.waiting.queues ≡ x.waiting.queues = ap (λ (w : Waiting ℕ). w.queues) keeps.waiting in
      let read : List Item = read_by domain urls x.progress x.progress.sent in
      ap (λ (b : Budget). place x.waiting.passes x.waiting.queues b (read_items_by x.waiting fresh)) budgets
      ∙ ap (place x.waiting.passes x.waiting.queues (budget settings links)) (read_same domain urls x.waiting x.progress x.progress.sent keeps.waiting tables.items)
      ∙ ap (λ (n : ℕ). place n x.waiting.queues (budget settings links) read) (sym passes)
      ∙ ap (λ (n : ℕ). place x.progress.waiting.passes n (budget settings links) read) (sym queues)

  abbrev more : List Happened
  more = events ++ (Pass x.progress.sent, placed) ∷ []

  begun_still : begun_with more ≡ begun_with events
  begun_still = begun_same events (Pass x.progress.sent, placed) suffixes begun

  pub pass_books : IsOfBooks (domain_by more) key_of settings urls pairs (progress settings.queues settings.buckets events) (Pass x.progress.sent) placed
  pass_books =
      places_are
      ∙ ap (λ (y : Progress). places_of domain key_of settings urls y x.progress.sent) tables.progress_is
      ∙ ap (λ (o : Option (List ℕ)). places_of (domain_of (unwrap_or o [])) key_of settings urls (progress settings.queues settings.buckets events) x.progress.sent) (sym begun_still)

  pub pass_begun : begun_with more ≡ Some suffixes
  pass_begun = begun_still ∙ begun

  -- and the tables are those of the events with it
  pub pass_tables : IsFrontierOf settings urls pairs more (after_pass adds x x.progress.sent fresh)
  pass_tables = record {
    settings_are = tables.settings_are;
    progress_is = ap (λ (y : Progress). after_event y (Pass x.progress.sent) placed) tables.progress_is
        ∙ sym (after_more (before_all settings.queues settings.buckets) events (Pass x.progress.sent, placed));
    items = subst (λ (o : Option (List ℕ)). AreEach (IsItemOf (domain_of (unwrap_or o [])) urls) (passed (budget x.settings adds) x.waiting fresh).lists) (sym begun_still)
        (each_passed (IsItemOf domain urls) (budget x.settings adds) x.waiting fresh tables.items (fresh_items_of domain urls x.progress.read x.progress.sent));
    degrees = tables.degrees;
  }
