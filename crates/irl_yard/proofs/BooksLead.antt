-- What the schedule makes of a book leads the state that has it.
use Rattle.std.proofs.Common.{◌≡◌, inr, ℕ, List, refl, sym, subst}
use Rattle.irl_offer.specs.declared.settings.Settings.{Settings}
use Rattle.irl_offer.specs.Tuple.{Tuple}
use Rattle.irl_model.specs.Book.{Book, IsFront}
use Rattle.irl_model.proofs.FrontLaws.{front_both}
use Rattle.irl_events.specs.State.{State}
use Rattle.irl_disk.specs.Disk.{Files}
use Rattle.irl_disk.specs.Images.{IsConsistent}
use Rattle.irl_disk.proofs.Stretches.{widens}
use Rattle.irl_bay.specs.Drum.{Drum, IsDrum}
use Rattle.irl_schedule.specs.Feeding.{Fed, Moment, Stays, Stranded}
use Rattle.irl_ledger.specs.Crawling.{MayFollow}
use Rattle.irl_yard.specs.declared.parts.Parts.{Parts}
use Rattle.irl_yard.specs.Holding.{HoldsOpen, HoldsState, HoldsUrls, IsOpenRest}
use Rattle.irl_yard.specs.Leading.{FailsAt, HasOneBetween, LeadsTo}
use Rattle.irl_yard.specs.Lifting.{HasStateBetween, IsWithBook, LiftsBooks}
use Rattle.irl_yard.specs.Standing.{with_urls}
use Rattle.irl_yard.proofs.Beside.{open_after}
use Rattle.irl_yard.proofs.ByKind.{follows_between, follows_same}
use Rattle.irl_yard.proofs.Lifting.{fronts_lifted, lifts_books}

-- a joint image between two books is one between two states
between_states : (settings : Settings) (state : State) (x y : Book) (image : Files) → HasStateBetween settings state x y image → HasOneBetween (with_urls x state) (with_urls y state) image
between_states settings state x y image has = (with_urls has.0 state, has.1, fronts_lifted state x has.0 has.2, fronts_lifted state has.0 y has.3)

module _ (old new : Moment) (was now : Parts) (state : State) (early : ℕ) (uneven : ℕ → ℕ) (news : List Tuple) (was_urls : was.urls ≡ old.drum) (now_urls : now.urls ≡ new.drum)
    (open_rest : IsOpenRest was.urls was.rest old.store.files) (law : IsDrum was.urls) (consistent : IsConsistent new.store) (holds : HoldsState old.store.images was state) (still : Stays old new)
    (same : now.rest ≡ was.rest) (fed : Fed early uneven news old new state.urls) (follows : MayFollow old.drum.settings.kind state.urls fed.book) where
  law_old : IsDrum old.drum
  law_old = subst IsDrum was_urls law

  held : HoldsUrls old.store.images old.drum state
  held = subst (λ (d : Drum). HoldsUrls old.store.images d state) was_urls holds.urls

  kept : MayFollow old.drum.settings.kind state.urls state.urls
  kept = follows_same old.drum.settings state.pairs state.events old.drum.settings.kind state.urls held.legal

  lifts : LiftsBooks state old new
  lifts = lifts_books state old new consistent law_old held still

  beside : HoldsOpen new.store.images now.urls.settings now.rest fed.book state.pairs state.events
  beside = subst (λ (d : Drum). HoldsOpen new.store.images d.settings now.rest fed.book state.pairs state.events) (sym now_urls)
      (open_after old new was.rest now.rest state.urls fed.book state.pairs state.events law_old consistent still
      (subst (λ (d : Drum). IsOpenRest d was.rest old.store.files) was_urls open_rest) same held.urls_hold.book_is.is_book follows
      (subst (λ (d : Drum). HoldsOpen old.store.images d.settings was.rest state.urls state.pairs state.events) was_urls holds.open_rest))

  pub books_lead : LeadsTo state (with_urls fed.book state) now old.store new.store
  books_lead = record {
    holds = record { urls = subst (λ (d : Drum). HoldsUrls new.store.images d (with_urls fed.book state)) (sym now_urls) (lifts.holds fed.book follows fed.holds); open_rest = beside };
    front = fronts_lifted state state.urls fed.book fed.grows.front;
    stops = widens old.store new.store _ _ (lifts.stops state.urls fed.book kept follows fed.stops) (λ image has. between_states old.drum.settings state state.urls fed.book image has);
  }

module _ (old new : Moment) (state : State) (early : ℕ) (uneven : ℕ → ℕ) (news : List Tuple) (law : IsDrum old.drum) (consistent : IsConsistent new.store)
    (held : HoldsUrls old.store.images old.drum state)
    (still : Stays old new) (stranded : Stranded early uneven news old new state.urls) (follows : MayFollow old.drum.settings.kind state.urls stranded.most) where
  first_follows : MayFollow old.drum.settings.kind state.urls state.urls
  first_follows = follows_same old.drum.settings state.pairs state.events old.drum.settings.kind state.urls held.legal

  later_follows : (x : Book) → IsFront state.urls x → IsFront x stranded.most → MayFollow old.drum.settings.kind state.urls x
  later_follows x below above = follows_between old.drum.settings.kind state.urls state.urls x stranded.most first_follows follows below above

  up : IsFront stranded.kept stranded.most
  up = front_both stranded.kept stranded.book stranded.most stranded.kept_front stranded.front

  kept_follows : MayFollow old.drum.settings.kind state.urls stranded.kept
  kept_follows = later_follows stranded.kept stranded.kept_grows.front up

  book_follows : MayFollow old.drum.settings.kind state.urls stranded.book
  book_follows = later_follows stranded.book stranded.grows.front stranded.front

  lifted : LiftsBooks state old new
  lifted = lifts_books state old new consistent law held still

  fails_so : FailsAt (IsWithBook old.drum.settings.kind state) state old.store new.store
  fails_so = record {
    kept = with_urls stranded.kept state;
    state = with_urls stranded.book state;
    most = with_urls stranded.most state;
    may_kept = (stranded.kept, kept_follows, refl);
    may_state = (stranded.book, book_follows, refl);
    may_most = (stranded.most, follows, refl);
    told = lifted.told stranded.book book_follows stranded.told;
    first = fronts_lifted state state.urls stranded.kept stranded.kept_grows.front;
    fronts = (fronts_lifted state stranded.kept stranded.book stranded.kept_front, fronts_lifted state stranded.book stranded.most stranded.front);
    legal = (
      inr (old.drum.settings, lifted.legal stranded.kept kept_follows stranded.kept_legal),
      inr (old.drum.settings, lifted.legal stranded.most follows stranded.legal),
    );
    stops = widens old.store new.store _ _ (lifted.stops state.urls stranded.most first_follows follows stranded.stops)
        (λ image has. between_states old.drum.settings state state.urls stranded.most image has);
    now = λ image left. between_states old.drum.settings state stranded.kept stranded.most image (lifted.now stranded.kept stranded.most image kept_follows follows left (stranded.now image left));
  }

  pub books_fail : (fails : FailsAt (IsWithBook old.drum.settings.kind state) state old.store new.store) × (fails.kept ≡ with_urls stranded.kept state) × (fails.state ≡ with_urls stranded.book state)
      × (fails.most ≡ with_urls stranded.most state)
  unfolding fails_so
  books_fail = (fails_so, refl, refl, refl)
