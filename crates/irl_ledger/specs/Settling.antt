-- A call that settles URLs: what it asks.
use Rattle.std.specs.Prelude.{◌≡◌, ℕ, ◌<◌, ◌≤◌, true, List, map, length}
use Rattle.std.specs.List.{AllByRecursion}
use Rattle.irl_offer.specs.declared.done.Done.{Done}
use Rattle.irl_offer.specs.declared.outcome.Outcome.{Outcome}
use Rattle.irl_offer.specs.declared.receipt.Receipt.{Receipt}
use Rattle.irl_events.specs.Events.{has_number}
use Rattle.irl_events.specs.Legal.{are_distinct}
use Rattle.irl_bay.specs.Drum.{Drum, durable_at}
use Rattle.irl_ledger.specs.declared.ledger.Ledger.{Ledger}

-- what came of each URL, by its number
abbrev pub outcomes_of : List Done → List (ℕ × Outcome)
outcomes_of done = map (λ d. (d.number, d.outcome)) done

-- the most URLs that are settled at once
abbrev pub max_settled : ℕ
max_settled = 16384

-- a receipt of an offer that the bay has flushed
abbrev pub IsFlushed : Drum → Receipt → Type 0
IsFlushed urls receipt = (receipt.bucket < urls.settings.buckets) × (receipt.number < durable_at urls receipt.bucket)

-- These URLs may be settled, where the bay of URLs is so.
pub record MaySettle (urls : Drum) (ledger : Ledger) (done : List Done) : Type 0 where
  -- there is one, and there aren't too many
  pub some : 1 ≤ length done
  pub limit : length done ≤ max_settled
  -- each is in the front, and none stands twice
  pub front : AllByRecursion (λ d. has_number ledger.frontier.progress.front d.number ≡ true) done
  pub once : are_distinct (map (λ d. d.number) done) ≡ true
  -- and the offers of its links are flushed
  pub links : AllByRecursion (λ d. AllByRecursion (IsFlushed urls) d.receipts) done
