-- URLs that are settled: the state has the event, and the links of what is done are kept.
use Rattle.std.proofs.Common.{◌≡◌, ◌∙◌, inl, inr, true, List, [], ◌∷◌, ◌++◌, None, Some, Result, refl, sym, ap, subst}
use Rattle.std.specs.List.{AllByRecursion}
use Rattle.irl_base.specs.declared.fault.Fault.{Fault}
use Rattle.irl_offer.specs.declared.done.Done.{Done}
use Rattle.irl_offer.specs.declared.place.Place.{Place}
use Rattle.irl_offer.specs.declared.settings.Kind.{Kind}
use Rattle.irl_offer.specs.declared.settings.Kind.TheVariants.{Lines, Tuples, Crawl as CrawlKind}
use Rattle.irl_offer.specs.declared.settings.Settings.{Settings}
use Rattle.irl_model.specs.Book.{Book, IsBelow, lengths_of}
use Rattle.irl_model.proofs.Stretches.{below_same}
use Rattle.irl_events.specs.Events.{Event, Happened, Progress, progress}
use Rattle.irl_events.specs.Legal.{broken}
use Rattle.irl_events.specs.State.{State, IsFrontState}
use Rattle.irl_core.specs.States.{begun_with}
use Rattle.irl_disk.specs.Disk.{Files}
use Rattle.irl_disk.specs.Images.{Told, IsConsistent, Leaves}
use Rattle.irl_disk.proofs.Stretches.{left_now, widens}
use Rattle.irl_bay.specs.Drum.{Drum, IsDrum, durables}
use Rattle.irl_frontier.specs.Frontier.{IsFrontier, after_other}
use Rattle.irl_ledger.specs.declared.ledger.Ledger.{Ledger}
use Rattle.irl_ledger.specs.Holding.{FitsBays, IsFrontierOf}
use Rattle.irl_ledger.specs.Settling.{IsFlushed, MaySettle}
use Rattle.irl_ledger.proofs.Settling.{HasBegun, settle_keeps, settled_begun}
use Rattle.irl_ledger.proofs.Tables.{tables_other}
use Rattle.irl_yard.specs.declared.parts.Parts.{Parts}
use Rattle.irl_yard.specs.Adding.{AddsEvent, with_event}
use Rattle.irl_yard.specs.Holding.{HoldsState, HoldsUrls, HasOneOf}
use Rattle.irl_yard.specs.Settling.{HasLinks, HaveLinks, KeepsLinks, StayLinks, settle_of}
use Rattle.irl_yard.specs.Standing.{HasState, IsRest}
use Rattle.irl_yard.proofs.Adding.{IsNext, begun_more}
use Rattle.irl_yard.proofs.Receipts.{links_flushed, links_later, links_stay}
use Rattle.irl_yard.proofs.States.{no_settings}

-- ---- the event
pub settle_next : (images : Files → Type 0) (urls : Drum) (ledger : Ledger) (state : State) (done : List Done) → IsDrum urls → IsFrontier ledger.frontier
    → HasBegun ledger.frontier → FitsBays urls ledger.pairs ledger.frontier → MaySettle urls ledger done → HoldsUrls images urls state
    → IsFrontierOf urls.settings state.urls state.pairs state.events ledger.frontier
    → IsNext urls.settings state.urls state.pairs state.events (settle_of urls done) [] × (begun_with (with_event (settle_of urls done) [] state).events ≡ begun_with state.events)
    × IsFrontierOf urls.settings state.urls state.pairs (with_event (settle_of urls done) [] state).events (after_other ledger.frontier (settle_of urls done))
settle_next images urls ledger state done law keeps has_begun fits may held tables =
    let settings = urls.settings in
    let event = settle_of urls done in
    let begun : (progress settings.queues settings.buckets state.events).begun ≡ true = ap (λ (p : Progress). p.begun) (sym tables.progress_is) ∙ settled_begun urls ledger done has_begun may in
    let same = begun_more settings.queues settings.buckets state.events (event, []) begun in (
      record {
        keeps = subst (λ (p : Progress). broken p event [] ≡ None) tables.progress_is (settle_keeps urls ledger.pairs ledger done law keeps has_begun fits may);
        told = (subst (IsBelow (durables urls)) held.urls_hold.numbers.offers (below_same (durables urls)), refl);
      },
      same,
      tables_other settings state.urls state.pairs state.events ledger.frontier event same tables,
    )

-- ---- the links
none_more : (earlier later : List Happened) (h : Happened) → [] ≡ earlier ++ h ∷ later → ⊥
none_more [] later h is = cc
none_more (e ∷ es) later h is = cc

-- a store with the event has lists that are no shorter
event_below : (kind : Kind) (settings : Settings) (was : Drum) (urls pairs : Book) (events earlier later : List Happened) (done : List Done) (places : List Place)
    → IsRest kind settings urls pairs events → events ≡ earlier ++ (settle_of was done, places) ∷ later → IsBelow (durables was) (lengths_of urls)
event_below Lines settings was urls pairs events earlier later done places rest is = absurd (none_more earlier later (settle_of was done, places) (sym rest.events_are ∙ is))
event_below Tuples settings was urls pairs events earlier later done places rest is = absurd (none_more earlier later (settle_of was done, places) (sym rest.events_are ∙ is))
event_below CrawlKind settings was urls pairs events earlier later done places rest is = (rest.legal.each earlier later (settle_of was done) places is).0

state_links : (was : Drum) (state : State) (files : Files) (earlier later : List Happened) (done : List Done) (places : List Place) → HasState state files
    → AllByRecursion (λ d. AllByRecursion (IsFlushed was) d.receipts) done → state.events ≡ earlier ++ (settle_of was done, places) ∷ later → HasLinks done state.urls
state_links was state files earlier later done places (inl blank) links is =
    absurd (none_more earlier later (settle_of was done, places) (ap (λ (s : State). s.events) (sym blank.1) ∙ is))
state_links was state files earlier later done places (inr made) links is =
    links_flushed made.0 was state.urls done made.1.urls.book_is (event_below made.0.kind made.0 was state.urls state.pairs state.events earlier later done places made.1.legal is) links

-- files of the state with the event, or without, have its URLs
have_links : (event : Event) (done : List Done) (state : State) (files : Files) → HasLinks done state.urls → HasOneOf state (with_event event [] state) files → HaveLinks done state.urls files
have_links event done state files links (inl was) = record { state = state; stand = was; urls_are = refl; links = links }
have_links event done state files links (inr more) = record { state = with_event event [] state; stand = more; urls_are = refl; links = links }

-- what becomes of a state that has settings
later_links : (done : List Done) (settings : Settings) (state later : State) → state.settings ≡ Some settings → HasLinks done state.urls → IsFrontState state later
    → HasLinks done later.urls × StayLinks done state.urls later.urls
later_links done settings state later is links (inl none) = absurd (no_settings settings (sym is ∙ none))
later_links done settings state later is links (inr fronts) = (links_later state.urls later.urls done fronts.urls links, links_stay state.urls later.urls done fronts.urls)

module _ {S : Type 0} (tells : S → Told) (law : (s : S) → IsConsistent (tells s)) (result : Result Unit Fault) (done : List Done) (was now : Parts) (before after : S)
    (links : AllByRecursion (λ d. AllByRecursion (IsFlushed was.urls) d.receipts) done) (adds : AddsEvent tells result (settle_of was.urls done) was now before after) where
  held_links : (state : State) → HoldsState (tells before).images was state → HasLinks done state.urls
  held_links state holds =
      let bay = holds.urls.urls_hold in
      links_flushed was.urls.settings was.urls state.urls done bay.book_is (subst (IsBelow (durables was.urls)) bay.numbers.offers (below_same (durables was.urls))) links

  stops_links : (state : State) → HoldsState (tells before).images was state → Leaves (tells before) (tells after) (HaveLinks done state.urls)
  stops_links state holds = widens (tells before) (tells after) (HasOneOf state (with_event (settle_of was.urls done) [] state)) (HaveLinks done state.urls) (adds.stops state holds)
      (λ image one. have_links (settle_of was.urls done) done state image (held_links state holds) one)

  left_links : (state : State) (image : Files) → HoldsState (tells before).images was state → (tells after).images image → HaveLinks done state.urls image
  left_links state image holds left = left_now (tells before) (tells after) (HaveLinks done state.urls) (law after) (stops_links state holds) image left

  pub keeps_links : KeepsLinks done was (tells before) (tells after)
  keeps_links = record {
    held = held_links;
    stops = stops_links;
    left = left_links;
    told = λ state holds files told. left_links state files holds ((law after).told files told);
    stay = λ state later holds front. later_links done was.urls.settings state later holds.urls.settings (held_links state holds) front;
    ever = λ state files earlier later places has is. state_links was.urls state files earlier later done places has links is;
  }
