-- The definitions on a worked row: five URLs of one domain with a budget of 1, with 2 queues; then a pass with nothing fresh.
use Rattle.std.proofs.Common.{◌≡◌, ℕ, List, [], ◌∷◌, map, refl}
use Rattle.std.specs.Prelude.{None, Some}
use Rattle.irl_offer.specs.declared.place.Place.{Place}
use Rattle.irl_offer.specs.declared.place.Slot.TheVariants.{Front as InFront, Queue as InQueue, Last as InLast}
use Rattle.irl_offer.specs.declared.outcome.Outcome.TheVariants.{Page}
use Rattle.irl_events.specs.Queues.{delivered, queue_of, last_of}
use Rattle.irl_events.specs.Events.{Begin, Pairs, Pass, Settle, Happened, progress}
use Rattle.irl_events.specs.Legal.{broken}
use Rattle.irl_fate.specs.declared.fate.Fate.TheVariants.{Fresh, Queue, Last, Front, Done}
use Rattle.irl_fate.specs.Fates.{fate_of}

abbrev places : List Place
places =
    (record { number = 0; slot = InFront }) ∷ (record { number = 1; slot = InQueue 2 }) ∷ (record { number = 2; slot = InLast }) ∷ (record { number = 3; slot = InLast })
    ∷ (record { number = 4; slot = InLast }) ∷ []

abbrev first : List Happened
first = (Begin [], []) ∷ (Pairs 1 5 0, []) ∷ (Pass 5, places) ∷ []

abbrev second : List Happened
second =
    (Begin [], []) ∷ (Pairs 1 5 0, []) ∷ (Pass 5, places) ∷ (Settle (7 ∷ []) ((0, Page) ∷ []), []) ∷ (Pass 5, (record { number = 1; slot = InFront }) ∷ []) ∷ []

first_row : map (fate_of (progress 2 1 first)) (0 ∷ 1 ∷ 2 ∷ 3 ∷ 4 ∷ 5 ∷ []) ≡ Front ∷ Queue 2 ∷ Last ∷ Last ∷ Last ∷ Fresh ∷ []
unfolding delivered
first_row = refl

second_row : map (fate_of (progress 2 1 second)) (0 ∷ 1 ∷ 2 ∷ 3 ∷ 4 ∷ 5 ∷ []) ≡ Done Page ∷ Front ∷ Queue 1 ∷ Queue 1 ∷ Queue 1 ∷ Fresh ∷ []
unfolding delivered
second_row = refl

round_row : ◌≡◌ {A = List ℕ × (List ℕ × (ℕ × ℕ))} (
  queue_of (progress 2 1 second).waiting 1,
  (last_of (progress 2 1 second).waiting, ((progress 2 1 second).waiting.queues, (progress 2 1 second).waiting.passes)),
) (2 ∷ 3 ∷ 4 ∷ [], ([], (4, 0)))
unfolding delivered
round_row = refl

-- the pass comes only once the front is empty, with the queue's number first
legal_row : broken (progress 2 1 ((Begin [], []) ∷ (Pairs 1 5 0, []) ∷ [])) (Pass 5) places ≡ None
legal_row = refl

early_row : broken (progress 2 1 first) (Pass 5) ((record { number = 1; slot = InFront }) ∷ []) ≡ Some 3
unfolding delivered
early_row = refl

none_settled_row : broken (progress 2 1 first) (Settle (0 ∷ []) []) [] ≡ Some 5
none_settled_row = refl

front_rose_row : broken (progress 2 1 first) (Settle (1 ∷ []) []) [] ≡ None
front_rose_row = refl
