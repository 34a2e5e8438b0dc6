-- The settle of an open store is a step of the core on its state.
use Rattle.std.proofs.Common.{◌≡◌, ℕ, List, [], None, Option, refl, ap, subst}
use Rattle.irl_offer.specs.Tuple.{Tuple}
use Rattle.irl_offer.specs.declared.done.Done.{Done}
use Rattle.irl_model.specs.Book.{lengths_of}
use Rattle.irl_events.specs.Events.{Event, Settle, progress}
use Rattle.irl_events.specs.Legal.{broken}
use Rattle.irl_events.specs.State.{State}
use Rattle.irl_disk.specs.Disk.{Files}
use Rattle.irl_bay.specs.Drum.{Drum, IsDrum}
use Rattle.irl_frontier.specs.Frontier.{IsFrontier}
use Rattle.irl_ledger.specs.declared.ledger.Ledger.{Ledger}
use Rattle.irl_ledger.specs.Settling.{outcomes_of}
use Rattle.irl_ledger.proofs.Settling.{HasBegun}
use Rattle.irl_yard.specs.declared.parts.Rest.{Rest}
use Rattle.irl_yard.specs.declared.parts.Rest.TheVariants.{Plain, Crawl}
use Rattle.irl_yard.specs.Core.{SettleIsStep, core_at}
use Rattle.irl_yard.specs.Holding.{HoldsOpen, HoldsUrls, IsOpenRest}
use Rattle.irl_yard.specs.Settling.{MaySettle, settle_of}
use Rattle.irl_yard.proofs.Core.{settle_step}
use Rattle.irl_yard.proofs.Settling.{settle_next}

module _ (images : Files → Type 0) (told : Option Files) (urls : Drum) (state : State) (arrays : List (List Tuple)) (acknowledged : List ℕ) (done : List Done) (law : IsDrum urls)
    (held : HoldsUrls images urls state) where
  pub settle_is_step : (rest : Rest) → HoldsOpen images urls.settings rest state.urls state.pairs state.events → IsOpenRest urls rest told
      → ((ledger : Ledger) → rest ≡ Crawl ledger → IsFrontier ledger.frontier) → ((ledger : Ledger) → rest ≡ Crawl ledger → HasBegun ledger.frontier) → MaySettle urls rest done
      → (settle_of urls done ≡ Settle (lengths_of state.urls) (outcomes_of done)) × SettleIsStep (core_at urls.settings arrays acknowledged state) (outcomes_of done) state
  settle_is_step Plain beside open_rest keeps begun may = absurd may
  settle_is_step (Crawl ledger) beside open_rest keeps begun may =
      let fits = (open_rest.1 ledger refl).1.fits in
      let next = settle_next images urls ledger state done law (keeps ledger refl) (begun ledger refl) fits may held beside.1.frontier in
      let same : settle_of urls done ≡ Settle (lengths_of state.urls) (outcomes_of done) = ap (λ (lengths : List ℕ). Settle lengths (outcomes_of done)) held.urls_hold.numbers.offers in (
        same,
        settle_step urls.settings arrays acknowledged state (outcomes_of done)
            (subst (λ (event : Event). broken (progress urls.settings.queues urls.settings.buckets state.events) event [] ≡ None) same next.0.keeps),
      )
