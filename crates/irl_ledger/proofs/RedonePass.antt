-- A pass that is done again: its places are those that the crawl's books give, and the tables stay those of the crawl.
use Rattle.std.proofs.Common.{◌≡◌, ◌∙◌, inl, inr, ⊎_elim, true, false, ℕ, ◌+◌, nat_eq, nat_le, nat_lt, ◌&&◌, List, [], ◌∷◌, ◌++◌, map, length, Option, None, Some, Result, Ok, Err, IsErrOf, append_assoc, refl, sym, ap, subst}
use Rattle.std.specs.Prelude.{bytes_eq, count_by, is_some, unwrap_or}
use Rattle.std.specs.List.{AllByRecursion, list_all}
use Rattle.std.specs.Option.{ForSome}
use Rattle.std.proofs.lemmas.Bool.{eqb-true, false≢true}
use mathlib.Core.Path.{fun_ext}
use Rattle.irl_base.specs.Lists.{list_at}
use Rattle.irl_base.specs.declared.fault.Fault.{Fault}
use Rattle.irl_base.specs.declared.fault.Fault.TheVariants.{Damaged, Failed, Full}
use Rattle.irl_offer.specs.Purses.{Budget}
use Rattle.irl_offer.specs.Tuple.{Tuple}
use Rattle.irl_offer.specs.declared.place.Place.{Place}
use Rattle.irl_offer.specs.declared.settings.Settings.{Settings}
use Rattle.irl_key.specs.Key.{key_of}
use Rattle.irl_beast.specs.declared.item.Item.{Item}
use Rattle.irl_beast.specs.Passes.{passed, read_by as read_items_by}
use Rattle.irl_beast.specs.Places.{place}
use Rattle.irl_model.specs.Book.{Book}
use Rattle.irl_events.specs.Events.{Event, Pass, Happened, Progress, after_event, before_all, numbers_of, progress}
use Rattle.irl_events.specs.Legal.{are_read, begins_once, broken, is_noted, is_slot_within, pairs_rise, passes_on, settles}
use Rattle.irl_events.specs.Links.{AreAlike, linked, pairs as pairs_of}
use Rattle.irl_events.specs.Queues.{Waiting}
use Rattle.irl_events.proofs.Degrees.{linked_kept, same_degrees}
use Rattle.irl_events.proofs.Following.{after_more}
use Rattle.irl_star.specs.Budgets.{budget, degree}
use Rattle.irl_star.specs.Degrees.{Counts}
use Rattle.irl_star.proofs.SameDegrees.{same_budget}
use Rattle.irl_core.specs.States.{IsOfBooks, begun_with, places_of, read_by, uniques_within}
use Rattle.irl_disk.specs.Effects.{OnlyReads}
use Rattle.irl_disk.specs.Images.{Told, IsConsistent}
use Rattle.irl_disk.specs.Taken.{TakesAmong}
use Rattle.irl_disk.proofs.Effects.{reads_for}
use Rattle.irl_bay.specs.Drum.{Drum}
use Rattle.irl_bay.specs.Holding.{Holds}
use Rattle.irl_bay.specs.JudgedSpoilt.{IsJudgedFile}
use Rattle.irl_frontier.specs.Frontier.{Frontier, IsFrontier, after_pass, places_for}
use Rattle.irl_head.specs.StoreFiles.{crawl_file}
use Rattle.irl_ledger.specs.declared.ledger.Ledger.{Ledger}
use Rattle.irl_ledger.specs.Crawling.{domain_of}
use Rattle.irl_ledger.specs.Holding.{FitsBays, IsFrontierOf, IsItemOf, domain_by, domains_told}
use Rattle.irl_ledger.specs.Redoing.{HasNext, IsNextOf, IsRedone, IsRedoneFile, Redoes, RedoesReading}
use Rattle.irl_ledger.specs.Passing.{fresh_of}
use Rattle.irl_ledger.specs.Reading.{ReadsUrls}
use Rattle.irl_ledger.proofs.Broken.{all_kept, first_of_four}
use Rattle.irl_ledger.proofs.Opening.{begins_legal, named, next_begun, next_books, next_domain, next_legal}
use Rattle.irl_ledger.proofs.Passes.{each_passed, fits_passed, fresh_items_of, read_same}
use Rattle.irl_ledger.proofs.ToldDegrees.{sent_now}

-- a pass that breaks no rule has the number of the last Pairs
pub pass_sent : (x : Progress) (judged : ℕ) (places : List Place) → broken x (Pass judged) places ≡ None → judged ≡ x.sent
pass_sent x judged places none =
    let event : Event = Pass judged in
    let kept = all_kept (begins_once x event) (pairs_rise x event) (passes_on x event places) (is_noted event) (settles x event) none in
    eqb-true judged x.sent (first_of_four (nat_eq judged x.sent) (nat_eq (length x.front) 0) (are_read (list_at x.waiting.lists x.waiting.passes) x.read judged (numbers_of places))
    (list_all (λ (place : Place). is_slot_within (x.waiting.passes + 2) x.waiting.queues place.slot) places) kept.2)

-- pairs with the same first texts give the same budgets
alike_degrees : (links : List Tuple) (pairs : Book) (told : ℕ) → AreAlike (map (λ p. p.1) (uniques_within 0 told pairs)) links → (name : List ℕ)
    → degree (domains_told told pairs) name ≡ degree (linked links) name
unfolding degree
alike_degrees links pairs told alike name =
    ap (λ (texts : List (List ℕ)). count_by (λ (text : List ℕ). bytes_eq name text) texts) (sym (linked_kept (λ (p : ℕ × Tuple). nat_le 0 p.0 && nat_lt p.0 told) pairs))
    ∙ same_degrees (map (λ (p : ℕ × Tuple). p.1) (uniques_within 0 told pairs)) links alike name

module _ (store : Told) (urls : Drum) (old : Ledger) (settings : Settings) (u p : Book) (first more : List Happened) (judged : ℕ) (places : List Place)
    (next : IsNextOf store.images urls old settings u p first more (Pass judged) places) (told : old.frontier.told ≡ old.frontier.progress.pairs) (keeps : IsFrontier old.frontier) where
  abbrev x : Frontier
  x = old.frontier

  abbrev whole : List Happened
  whole = first ++ (Pass judged, places) ∷ more

  abbrev domain : List ℕ → List ℕ
  domain = domain_by first

  legal : broken x.progress (Pass judged) places ≡ None
  legal = next_legal store urls old settings u p first more (Pass judged) places next

  begun : x.progress.begun ≡ true
  begun = begins_legal x.progress (Pass judged) places legal

  judged_is : judged ≡ x.progress.sent
  judged_is = pass_sent x.progress judged places legal

  domain_same : domain_by whole ≡ domain
  domain_same = next_domain store urls old settings u p first more (Pass judged) places next begun

  abbrev adds : List (List ℕ)
  adds = domains_told x.told p

  abbrev links : List Tuple
  links = pairs_of domain key_of u x.progress.cuts

  each : (before after : List Happened) (event : Event) (ps : List Place) → first ≡ before ++ (event, ps) ∷ after
      → IsOfBooks domain key_of settings u p (progress settings.queues settings.buckets before) event ps
  each before after event ps is =
      let all : whole ≡ before ++ (event, ps) ∷ (after ++ (Pass judged, places) ∷ more) =
      ap (λ (hs : List Happened). hs ++ (Pass judged, places) ∷ more) is ∙ append_assoc before ((event, ps) ∷ after) ((Pass judged, places) ∷ more) in
      subst (λ (d : List ℕ → List ℕ). IsOfBooks d key_of settings u p (progress settings.queues settings.buckets before) event ps) domain_same
      (next.state.legal.each before (after ++ (Pass judged, places) ∷ more) event ps all)

  alike : AreAlike (map (λ p. p.1) (uniques_within 0 x.told p)) links
  alike =
      let now : AreAlike (map (λ p. p.1) (uniques_within 0 x.progress.pairs p)) links =
      subst (λ (y : Progress). AreAlike (map (λ p. p.1) (uniques_within 0 y.pairs p)) (pairs_of domain key_of u y.cuts)) (sym next.tables.progress_is)
      (sent_now domain key_of settings u p first each) in
      subst (λ (n : ℕ). AreAlike (map (λ p. p.1) (uniques_within 0 n p)) links) (sym told) now

  budgets : budget x.settings adds ≡ budget settings (linked links)
  budgets = ap (λ (s : Settings). budget s adds) next.tables.settings_are ∙ fun_ext (same_budget settings adds (linked links) (alike_degrees links p x.told alike))

  abbrev fresh : List Item
  fresh = fresh_of domain u x.progress.read x.progress.sent

  abbrev placed : List Place
  placed = places_for adds x fresh

  placed_are : placed ≡ places_of domain key_of settings u x.progress x.progress.sent
  placed_are =
      let passes : x.progress.waiting.passes ≡ x.waiting.passes = ap (λ (w : Waiting ℕ). w.passes) keeps.waiting in
      let queues : x.progress.waiting.queues ≡ x.waiting.queues = ap (λ (w : Waiting ℕ). w.queues) keeps.waiting in
      let read : List Item = read_by domain u x.progress x.progress.sent in
      ap (λ (b : Budget). place x.waiting.passes x.waiting.queues b (read_items_by x.waiting fresh)) budgets
      ∙ ap (place x.waiting.passes x.waiting.queues (budget settings (linked links))) (read_same domain u x.waiting x.progress x.progress.sent keeps.waiting next.tables.items)
      ∙ ap (λ (n : ℕ). place n x.waiting.queues (budget settings (linked links)) read) (sym passes)
      ∙ ap (λ (n : ℕ). place x.progress.waiting.passes n (budget settings (linked links)) read) (sym queues)

  -- the places of the crawl's pass are those that the tables give
  pub placed_next : placed ≡ places
  placed_next =
      placed_are ∙ ap (places_of domain key_of settings u x.progress) (sym judged_is) ∙ ap (λ (y : Progress). places_of domain key_of settings u y judged) next.tables.progress_is
      ∙ ap (λ (d : List ℕ → List ℕ). places_of d key_of settings u (progress settings.queues settings.buckets first) judged) (sym domain_same)
      ∙ sym (next_books store urls old settings u p first more (Pass judged) places next)

  pub legal_placed : broken x.progress (Pass judged) placed ≡ None
  legal_placed = subst (λ (ps : List Place). broken x.progress (Pass judged) ps ≡ None) (sym placed_next) legal

  begun_still : begun_with (first ++ (Pass judged, placed) ∷ []) ≡ begun_with first
  begun_still = next_begun store urls old settings u p first more (Pass judged) places next ((Pass judged, placed) ∷ []) begun

  abbrev AreItems : Option (List ℕ) → List (List Item) → Type 0
  AreItems o lists = AllByRecursion (λ list. AllByRecursion (IsItemOf (domain_of (unwrap_or o [])) u) list) lists

  -- and the tables are those of the events with it
  pub pass_next : (new : Ledger) → new.frontier ≡ after_pass adds x judged fresh → new.suffixes ≡ old.suffixes → HasNext new settings u p first (Pass judged) places
  pass_next new is suffixes = subst (HasNext new settings u p first (Pass judged)) placed_next (record {
    tables = subst (IsFrontierOf settings u p (first ++ (Pass judged, placed) ∷ [])) (sym is) (record {
      settings_are = next.tables.settings_are;
      progress_is = ap (λ (y : Progress). after_event y (Pass judged) placed) next.tables.progress_is
          ∙ sym (after_more (before_all settings.queues settings.buckets) first (Pass judged, placed));
      items = subst (λ (o : Option (List ℕ)). AreItems o (passed (budget x.settings adds) x.waiting fresh).lists) (sym begun_still)
          (each_passed (IsItemOf domain u) (budget x.settings adds) x.waiting fresh next.tables.items (fresh_items_of domain u x.progress.read x.progress.sent));
      degrees = next.tables.degrees;
    });
    suffixes = suffixes ∙ next.suffixes ∙ sym begun_still;
  })

-- ---- what it leaves
takes_wider : (among wide : ℕ → Type 0) (old new : Option (ℕ → ℕ)) → ((f : ℕ) → among f → wide f) → TakesAmong among old new → TakesAmong wide old new
takes_wider among wide None new wider takes = takes
takes_wider among wide (Some old) new wider takes = (takes.0, takes.1, λ f not. takes.2 f (λ is. not (wider f is)))

pub reads_wider : (among wide : ℕ → Type 0) (failed answered : Type 0) (old new : Told) → ((f : ℕ) → among f → wide f) → (answered → failed) → OnlyReads among failed old new
    → OnlyReads wide answered old new
reads_wider among wide failed answered old new wider only reads =
    reads_for wide failed answered old new only
    (record { same = reads.same; stops = reads.stops; taken = takes_wider among wide old.taken new.taken wider reads.taken; cause = reads.cause })

module _ (at judged : ℕ) (urls : Drum) (old : Ledger) (s t : Told) where
  -- the fresh URLs weren't read
  pub fresh_refused : {A : Type 0} (result : Result A Fault) (gives : A → Book → Type 0) (fault : Fault) → result ≡ Err fault → ReadsUrls result gives urls s t
      → Redoes (Err fault) at (Pass judged) urls old old s t
  fresh_refused result gives fault is reads =
      let answer : Result Unit Fault = Err fault in
      let same : (e : Fault) → IsErrOf answer e → IsErrOf result e = λ e named. is ∙ (let one : fault ≡ e = cc in ap (λ (x : Fault). Err x) one) in
      record {
        pairs = refl;
        log = refl;
        keeps = tt;
        legal = tt;
        tables = tt;
        whole = λ f place named files told settings u p first more places next. reads.whole f place (same (Damaged f place) named) files told u next.urls_hold next.state.taken;
        spoilt = λ f place named. inr (λ files told. ⊎_elim (λ spoilt. inl spoilt) (λ strange. inr (inl strange)) (reads.spoilt f place (same (Damaged f place) named) files told));
        full = λ n named. reads.full n (same (Full n) named);
        reads = reads_wider (IsJudgedFile urls) (IsRedoneFile urls old.pairs) (IsErrOf result Failed) (IsErrOf answer Failed) s t (λ f is. inl is) (same Failed) reads.reads;
      }

  redone_pass : (new : Ledger) (names : List (List ℕ)) (items : List Item) → IsRedone urls old → broken old.frontier.progress (Pass judged) (places_for names old.frontier items) ≡ None
      → new ≡ record old { frontier = after_pass names old.frontier judged items } → IsRedone urls new
  redone_pass new names items redone legal done =
      let begun : old.frontier.progress.begun ≡ true = begins_legal old.frontier.progress (Pass judged) (places_for names old.frontier items) legal in
      let judged_is : judged ≡ old.frontier.progress.sent = pass_sent old.frontier.progress judged (places_for names old.frontier items) legal in
      subst (IsRedone urls) (sym done) (record {
        fits = subst (λ (n : ℕ). FitsBays urls old.pairs (after_pass names old.frontier n items)) (sym judged_is) (fits_passed urls old.pairs names old.frontier items redone.fits);
        told = redone.told;
        begun = sym begun ∙ redone.begun;
      })

  pub pass_done : (result : Result Unit Fault) (new : Ledger) (items : List Item) → IsFrontier old.frontier → IsRedone urls old
      → ForSome s.files (λ _. (book : Book) → Holds s.images urls book
      → items ≡ fresh_of (domain_of (unwrap_or old.suffixes [])) book old.frontier.progress.read old.frontier.progress.sent)
      → OnlyReads (IsJudgedFile urls) ⊥ s t → ((adds : List (List ℕ)) → Counts old.frontier.degrees adds → RedoesReading result at judged items adds old new)
      → Redoes result at (Pass judged) urls old new s t
  pass_done (Ok value) new items keeps redone found reads redoes =
      let one = redoes keeps.degrees.0 keeps.degrees.1 in
      record {
        pairs = ap (λ (l : Ledger). l.pairs) one.done;
        log = ap (λ (l : Ledger). l.log) one.done;
        keeps = redone_pass new keeps.degrees.0 items redone one.legal one.done;
        legal = record {
          places = places_for keeps.degrees.0 old.frontier items;
          given = (keeps.degrees.0, items, keeps.degrees.1, refl);
          legal = one.legal;
          progress_is = ap (λ (l : Ledger). l.frontier.progress) one.done;
          within = tt;
        };
        tables = λ files told settings u p first more places next.
            let here = redoes (domains_told old.frontier.told p) next.tables.degrees in
            let is : items ≡ fresh_of (domain_by first) u old.frontier.progress.read old.frontier.progress.sent =
            found files told u next.urls_hold
            ∙ ap (λ (o : Option (List ℕ)). fresh_of (domain_of (unwrap_or o [])) u old.frontier.progress.read old.frontier.progress.sent) next.suffixes in
            pass_next s urls old settings u p first more judged places next redone.told keeps new
            (ap (λ (l : Ledger). l.frontier) here.done ∙ ap (after_pass (domains_told old.frontier.told p) old.frontier judged) is) (ap (λ (l : Ledger). l.suffixes) here.done);
        whole = λ f place named. absurd (cc);
        spoilt = λ f place named. absurd (cc);
        full = one.full;
        reads = reads_wider (IsJudgedFile urls) (IsRedoneFile urls old.pairs) ⊥ (IsErrOf (Ok value) Failed) s t (λ f is. inl is) one.failed reads;
      }
  pass_done (Err fault) new items keeps redone found reads redoes =
      let one = redoes keeps.degrees.0 keeps.degrees.1 in
      let answer : Result Unit Fault = Err fault in
      let same : new ≡ old = one.kept refl in
      record {
        pairs = ap (λ (l : Ledger). l.pairs) same;
        log = ap (λ (l : Ledger). l.log) same;
        keeps = tt;
        legal = tt;
        tables = tt;
        whole = λ f place named files told settings u p first more places next.
            let here = redoes (domains_told old.frontier.told p) next.tables.degrees in
            let same_items : items ≡ fresh_of (domain_by first) u old.frontier.progress.read old.frontier.progress.sent =
            found files told u next.urls_hold
            ∙ ap (λ (o : Option (List ℕ)). fresh_of (domain_of (unwrap_or o [])) u old.frontier.progress.read old.frontier.progress.sent) next.suffixes in
            (here.damaged f place named).2 (subst (λ (is : List Item). broken old.frontier.progress (Pass judged) (places_for (domains_told old.frontier.told p) old.frontier is) ≡ None)
            (sym same_items)
            (legal_placed s urls old settings u p first more judged places next redone.told keeps));
        spoilt = λ f place named.
            let why = one.damaged f place named in
            inl (why.0, why.1, (places_for keeps.degrees.0 old.frontier items, (keeps.degrees.0, items, keeps.degrees.1, refl), λ legal fits. why.2 legal));
        full = one.full;
        reads = reads_wider (IsJudgedFile urls) (IsRedoneFile urls old.pairs) ⊥ (IsErrOf answer Failed) s t (λ f is. inl is) one.failed reads;
      }

-- a pass before the beginning
pub pass_unbegun : (at judged : ℕ) (urls : Drum) (old : Ledger) (s : Told) → IsConsistent s → IsFrontier old.frontier → IsRedone urls old → is_some old.suffixes ≡ false
    → Redoes (Err (Damaged crawl_file at)) at (Pass judged) urls old old s s
pass_unbegun at judged urls old s consistent keeps redone none =
    let not_begun : old.frontier.progress.begun ≡ false = redone.begun ∙ none in
    let refused : (places : List Place) → broken old.frontier.progress (Pass judged) places ≡ None → ⊥ =
    λ places legal. false≢true (sym not_begun ∙ begins_legal old.frontier.progress (Pass judged) places legal) in
    named at (Pass judged) urls old s consistent
    (places_for keeps.degrees.0 old.frontier [], (keeps.degrees.0, [], keeps.degrees.1, refl), λ legal fits. refused (places_for keeps.degrees.0 old.frontier []) legal)
    (λ settings u p first more places next. refused places (next_legal s urls old settings u p first more (Pass judged) places next))
