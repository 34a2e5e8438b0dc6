-- Keeping a turn's notes, settling its outcomes, and judging what is unjudged.
use Rattle.std.specs.Prelude.{◌≡◌, ◌⊎◌, ℕ, List, [], Result, OnOk}
use Rattle.irl_base.specs.declared.fault.Fault.{Fault}
use Rattle.irl_events.specs.Events.{Settle}
use Rattle.irl_events.specs.State.{State}
use Rattle.irl_ledger.specs.Settling.{outcomes_of}
use Rattle.irl_model.specs.Book.{lengths_of}
use Rattle.irl_offer.specs.declared.done.Done.{Done}
use Rattle.irl_offer.specs.declared.note.Note.{Note}
use Rattle.irl_offer.specs.declared.settings.Settings.{Settings}
use Rattle.irl_yard.specs.Adding.{with_event, with_notes}
use Rattle.irl_crawl.specs.Judging.{IsJudged, OnlyJudges}
use Rattle.irl_crawl.specs.Leading.{HasGround}
use Rattle.irl_crawl.specs.Sending.{SendsAll}

-- the state with these notes, and then with these outcomes
abbrev pub settled_state : List Note → List Done → State → State
settled_state notes done state =
    with_event (Settle (lengths_of state.urls) (outcomes_of done)) [] (with_notes notes state)

-- as far as settling came: nothing, the notes, or the outcomes too, and judging behind them
abbrev pub IsSettling : List ℕ → Settings → List Note → List Done → State → State → Type 0
IsSettling suffixes settings notes done x y =
    (y ≡ x) ⊎ (y ≡ with_notes notes x) ⊎ OnlyJudges suffixes settings (settled_state notes done x) y

-- by the answer: how many were settled
pub record Settles (result : Result ℕ Fault) (suffixes : List ℕ) (settings : Settings) (notes : List Note)
    (done : List Done) (x y : State) : Type 0 where
  pub is : IsSettling suffixes settings notes done x y
  pub all : OnOk result (OnlyJudges suffixes settings (settled_state notes done x) y × IsJudged settings y
      × SendsAll suffixes settings x y)
  pub ground : HasGround result suffixes settings [] x y
