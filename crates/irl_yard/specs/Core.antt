-- The state of an open store as a core (irl_core), before whose lists arrays wait: the calls on the store are its
-- steps.
use Rattle.std.specs.Prelude.{◌≡◌, ℕ, Bool, if◌then◌else◌, List, []}
use Rattle.irl_offer.specs.declared.outcome.Outcome.{Outcome}
use Rattle.irl_offer.specs.declared.place.Place.{Place}
use Rattle.irl_offer.specs.declared.settings.Settings.{Settings}
use Rattle.irl_offer.specs.Tuple.{Tuple}
use Rattle.irl_model.specs.Book.{lengths_of}
use Rattle.irl_events.specs.Events.{Pass as PassEvent, Settle as SettleEvent}
use Rattle.irl_events.specs.State.{State}
use Rattle.irl_core.specs.Steps.{CoreState, array_of, judged_in, step}
use Rattle.irl_core.specs.Stores.{core_of_store, steps_among}
use Rattle.irl_core.specs.declared.step.Step.{Step}
use Rattle.irl_core.specs.declared.step.Step.TheVariants.{Flush, Merge, Stop, FlushStop, MergeStop, Pass, Settle, SettleStop}
use Rattle.irl_core.specs.declared.step.Reply.{Reply}
use Rattle.irl_core.specs.declared.step.Reply.TheVariants.{Taken, Cut, Stopped}
use Rattle.irl_yard.specs.Adding.{with_event}
use Rattle.irl_yard.specs.Holding.{with_cut, with_offers}

-- the core of a store with these settings, before whose lists these arrays wait, and of which so much is acknowledged
abbrev pub core_at : Settings → List (List Tuple) → List ℕ → State → CoreState
core_at settings arrays acknowledged state = core_of_store settings arrays state.urls state.events acknowledged

-- A step gets this reply, and makes of a core one with a state's URLs, and with the passes and settles of its events.
pub record Makes (x : CoreState) (s : Step) (reply : Reply) (state : State) : Type 0 where
  pub answers : (step x s).1 ≡ reply
  pub urls : (step x s).0.urls ≡ state.urls
  pub events : (step x s).0.events ≡ steps_among state.events

-- ---- the calls
-- a flush of a bucket's array is the step Flush, and a stop in it FlushStop, whether the flush took effect or not
pub record FlushIsStep (x : CoreState) (b : ℕ) (state : State) : Type 0 where
  pub done : Makes x (Flush b) Taken (with_offers b (array_of x b) state)
  pub stopped : (took : Bool) → Makes x (FlushStop b took) Stopped
      (if took then with_offers b (array_of x b) state else state)

-- a merge, which gives so many cuts
pub record MergeIsStep (x : CoreState) (cuts : ℕ) (state : State) : Type 0 where
  pub done : Makes x Merge (Cut cuts) (with_cut state)
  pub stopped : (took : Bool) → Makes x (MergeStop took) Stopped (if took then with_cut state else state)

-- a settle of these outcomes
pub record SettleIsStep (x : CoreState) (outcomes : List (ℕ × Outcome)) (state : State) : Type 0 where
  pub done : Makes x (Settle outcomes) Taken (with_event (SettleEvent (lengths_of state.urls) outcomes) [] state)
  pub stopped : (took : Bool) → Makes x (SettleStop outcomes took) Stopped
      (if took then with_event (SettleEvent (lengths_of state.urls) outcomes) [] state else state)

-- a pass with these places; a stop in it is Stop, or Pass and then Stop
pub record PassIsStep (x : CoreState) (places : List Place) (state : State) : Type 0 where
  pub done : Makes x (Pass places) Taken (with_event (PassEvent (judged_in x)) places state)
  pub stopped : Makes x Stop Stopped state
  pub stopped_after : Makes (step x (Pass places)).0 Stop Stopped
      (with_event (PassEvent (judged_in x)) places state)
