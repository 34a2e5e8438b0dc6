-- Workers side by side: how each is before its turn, and what each has done in it.
use Rattle.std.specs.Prelude.{◌≡◌, ℕ, List, [], ◌∷◌, false, Option, Some, None, Result, ⊤}
use Rattle.irl_base.specs.declared.fault.Fault.{Fault}
use Rattle.irl_offer.specs.Tuple.{Tuple}
use Rattle.irl_polite.specs.Inside.{schedule}
use Rattle.irl_fetch.specs.Telling.{Fetcher, Offering, TakesPages}
use Rattle.irl_fetch.specs.Working.{Works}
use Rattle.irl_fetch.specs.declared.working.WorkLog.{WorkLog}
use Rattle.irl_workers.specs.declared.halves.Worker.{Worker}

-- ---- one worker
-- No fault was answered yet, what a crawl offers is taken, and no robots file is awaited.
pub record IsReady {O : Type 0} (last_fault : O → Option Fault) (takes : O → Tuple → Type 0) (worker : Worker O)
    : Type 0 where
  pub calm : last_fault worker.offers ≡ None
  pub pages : TakesPages (takes worker.offers)
  pub awaits : (name : List ℕ) → (schedule worker.front).awaited name ≡ false

-- Its turn is over: this came of it, and it is what doing all that its front says leaves.
pub record IsDone {F O : Type 0} (told : F → Fetcher) (offered : O → Offering O) (suffixes : List ℕ) (old new : F)
    (before after : Worker O) : Type 0 where
  pub result : Result WorkLog Fault
  pub done : after.done ≡ Some result
  pub works : Works result suffixes (told old) (told new) (schedule before.front) (schedule after.front)
      (offered before.offers) (offered after.offers)

-- ---- all of them
-- This holds of each worker: of its fetcher before and after, and of itself before and after. There are as many of
-- each.
abbrev pub EachWorker : {F W : Type 0} → (F → F → W → W → Type 0) → List F → List F → List W → List W → Type 0
EachWorker Holds [] [] [] [] = ⊤
EachWorker Holds (old ∷ olds) (new ∷ news) (before ∷ befores) (after ∷ afters) =
    Holds old new before after × EachWorker Holds olds news befores afters
EachWorker Holds [] [] [] (after ∷ afters) = ⊥
EachWorker Holds [] [] (before ∷ befores) afters = ⊥
EachWorker Holds [] (new ∷ news) befores afters = ⊥
EachWorker Holds (old ∷ olds) [] befores afters = ⊥
EachWorker Holds (old ∷ olds) (new ∷ news) [] afters = ⊥
EachWorker Holds (old ∷ olds) (new ∷ news) (before ∷ befores) [] = ⊥
