-- What calls over the bay of URLs make of the state that an open store holds.
use Rattle.std.proofs.Common.{ℕ, inr, refl}
use Rattle.irl_model.specs.Book.{Book, IsFront}
use Rattle.irl_model.proofs.FrontLaws.{front_same, prefix_same}
use Rattle.irl_events.specs.State.{State, IsFrontState}
use Rattle.irl_disk.specs.Disk.{Files, ChangesOnly}
use Rattle.irl_disk.specs.Images.{IsConsistent, Follows}
use Rattle.irl_disk.proofs.Stretches.{widens, left_now}
use Rattle.irl_layout.specs.BayFiles.{IsFileOf}
use Rattle.irl_bay.specs.Drum.{IsDrum}
use Rattle.irl_bay.specs.Standing.{Stands}
use Rattle.irl_schedule.specs.Feeding.{Moment, Stays, HasBetween}
use Rattle.irl_schedule.proofs.Journals.{leaves_pair}
use Rattle.irl_yard.specs.Holding.{HoldsUrls}
use Rattle.irl_yard.specs.Lifting.{HasStateBetween, LiftsBooks}
use Rattle.irl_ledger.specs.Crawling.{MayFollow}
use Rattle.irl_yard.specs.Standing.{HasState, IsRest, with_urls}
use Rattle.irl_yard.proofs.ByKind.{follows_between, rest_follows}
use Rattle.irl_yard.proofs.Holding.{has_state, held_beside, held_state, holds_after, rest_kept}

pub fronts_lifted : (state : State) (x y : Book) → IsFront x y → IsFrontState (with_urls x state) (with_urls y state)
fronts_lifted state x y front = inr (record { settings = refl; urls = front; pairs = front_same state.pairs; events = prefix_same state.events })

module _ (state : State) (old new : Moment) (consistent : IsConsistent new.store) (law : IsDrum old.drum) (held : HoldsUrls old.store.images old.drum state) (still : Stays old new) where
  abbrev among : ℕ → Type 0
  among = IsFileOf old.drum.base old.drum.settings.buckets

  -- a book that may follow is legal
  legal_with : (book : Book) → MayFollow old.drum.settings.kind state.urls book → IsRest old.drum.settings.kind old.drum.settings book state.pairs state.events
  legal_with book follows = rest_follows old.drum.settings state.pairs state.events old.drum.settings.kind state.urls book held.urls_hold.book_is.is_book follows held.legal

  -- a joint image that follows
  stands : (book : Book) (image : Files) → MayFollow old.drum.settings.kind state.urls book → Follows (ChangesOnly among) old.store.images image
      → Stands old.drum.base old.drum.settings book image → HasState (with_urls book state) image
  stands book image follows from is =
      has_state old.store.images old.drum state book image law held (legal_with book follows)
      (rest_kept among old.drum state from.0 image law held.base (λ f is. is) from.2 (held_beside old.store.images old.drum state from.0 held from.1)) is

  between : (x y : Book) (image : Files) → MayFollow old.drum.settings.kind state.urls x → MayFollow old.drum.settings.kind state.urls y → Follows (ChangesOnly among) old.store.images image
      → HasBetween old.drum.base old.drum.settings x y image → HasStateBetween old.drum.settings state x y image
  between x y image one other from has =
      (has.0, stands has.0 image (follows_between old.drum.settings.kind state.urls x has.0 y one other has.2 has.3) from has.1, has.2, has.3, has.4)

  pub lifts_books : LiftsBooks state old new
  lifts_books = record {
    holds = λ book follows holds.
        holds_after among old.store new.store old.drum new.drum state book law consistent (λ f is. is) still.others_stop still.base still.settings held (legal_with book follows) holds;
    told = λ book follows told files is. stands book files follows (left_now old.store new.store _ consistent still.others_stop files (consistent.told files is)) (told files is);
    stops = λ x y one other leaves.
        widens old.store new.store _ _ (leaves_pair old.store new.store _ _ still.others_stop leaves) (λ image left. between x y image one other left.0 left.1);
    now = λ x y image one other left has. between x y image one other (left_now old.store new.store _ consistent still.others_stop image left) has;
    fronts = fronts_lifted state;
    legal = λ book follows is. held_state old.store.images old.drum state book law held (legal_with book follows) is;
  }
