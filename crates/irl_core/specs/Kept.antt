-- What the fields of `Core` show, and what they keep.
use Rattle.std.specs.Prelude.{◌≡◌, ℕ, ◌≤◌, true, List, map, length, replicate}
use Rattle.irl_offer.specs.declared.place.Place.{Place}
use Rattle.irl_model.specs.Book.{last_cut}
use Rattle.irl_events.specs.Events.{Progress, Happened}
use Rattle.irl_base.specs.Lists.{items_of}
use Rattle.irl_model.specs.Plain.{whole_book}
use Rattle.irl_events.specs.declared.event.Event.{Event}
use Rattle.irl_events.specs.Seen.{seen}
use Rattle.irl_core.specs.declared.pure.Core.TheInside.{Inside}
use Rattle.irl_core.specs.Steps.{CoreState, course, judged_in, list_of}
use Rattle.irl_core.specs.Stores.{AreEquallyFar}
use Rattle.irl_core.specs.Laws.{IsCore}

-- events with their places, as definitions have them
abbrev pub happened : List (Event × List Place) → List Happened
happened events = map (λ e. (seen e.0, e.1)) events

abbrev pub shown : Inside → CoreState
shown a = record {
  settings = a.settings;
  arrays = items_of a.arrays.items;
  urls = whole_book a.settings.buckets a.settings.rule (items_of a.lists.items) (items_of a.cuts.items);
  events = happened a.events.items;
  acknowledged = a.acknowledged.items;
}

-- The fates are those of the core's events. They were told of a beginning, and of sent pairs of so many judged offers
-- at most, which a core has no events of.
pub record AreFatesOf (fates x : Progress) (judged : ℕ) : Type 0 where
  pub begun : fates.begun ≡ true
  pub cuts : fates.cuts ≡ 0
  pub pairs : fates.pairs ≡ 0
  pub sent : fates.sent ≤ judged
  pub alike : AreEquallyFar fates x

pub record IsKept (a : Inside) : Type 0 where
  pub core : IsCore (shown a)
  pub fates : AreFatesOf a.fates (course (shown a)) (judged_in (shown a))
  pub read : a.read ≡ a.fates.read
  -- no list passes the cap
  pub short : (b : ℕ) → length (list_of (shown a) b) ≤ a.settings.cap
  pub cut : a.cut.items ≡ last_cut (replicate a.settings.buckets 0) (items_of a.cuts.items)
