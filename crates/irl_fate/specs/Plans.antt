-- An event that is planned before it is done.
use Rattle.std.specs.Prelude.{◌≡◌, ℕ, ◌+◌, ◌-◌, ◌≤◌, [], length, true, slice_set, Vec, vec_len, vec_capacity}
use Rattle.std.specs.List.{filter}
use Rattle.std.specs.List.Sorted.{IsPermutation, IsSorted}
use Rattle.std.specs.Ordering.{nat_cmp}
use Rattle.irl_base.specs.Lists.{items_of, list_at}
use Rattle.irl_events.specs.Queues.{delivered}
use Rattle.irl_events.specs.Events.{Progress, Pass as SeenPass, Settle as SeenSettle, after_event, numbers_of, is_in_front}
use Rattle.irl_events.specs.Legal.{passes_on, settles}
use Rattle.irl_fate.specs.Standing.{read_count}
use Rattle.irl_fate.specs.declared.plan.Plan.{Plan}
use Rattle.irl_fate.specs.declared.plan.Reading.{Reading}
use Rattle.irl_fate.specs.declared.plan.Act.{Act}
use Rattle.irl_fate.specs.declared.plan.Act.TheVariants.{Begin, Pairs, Pass, Settle}

-- an empty vector that may take so many items
pub record IsRoom {X A : Type 0} (many : ℕ) (room : Vec X A) : Type 0 where
  pub none : room.items ≡ []
  pub fits : many ≤ vec_capacity room

-- what a pass is to do is legal, and all of it is there
pub record IsReading (x : Progress) (r : Reading) : Type 0 where
  pub legal : passes_on x (SeenPass r.judged) r.places.items ≡ true
  -- what it puts into the front
  pub front : r.front.items ≡ numbers_of (filter (λ place. is_in_front place.slot) r.places.items)
  -- and that in rising order
  pub order : IsPermutation r.front.items r.order.items
  pub rising : IsSorted nat_cmp r.order.items
  -- the lists as it leaves them, before the end of the round is looked at
  pub lists : items_of r.lists.items
      ≡ delivered (slice_set x.waiting.lists x.waiting.passes []) (numbers_of r.places.items) r.places.items
  pub many : vec_len r.lists ≡ 65
  -- room for the fates of all that was read and of the fresh numbers, those behind the queue
  pub fates : IsRoom (read_count x + (length r.places.items
      - length (list_at x.waiting.lists x.waiting.passes))) r.fates
  -- room for what is done and for the front, whose numbers come to be done
  pub done : IsRoom (length x.done + length r.front.items) r.done

-- what is to be done is legal, and the memory that it takes is there
abbrev pub CanBeDone : Progress → Act → Type 0
CanBeDone x Begin = Unit {0}
CanBeDone x (Pairs cuts judged pairs) = x.sent ≤ judged
CanBeDone x (Pass reading) = IsReading x reading
CanBeDone x (Settle fronts done) = settles x (SeenSettle fronts.items done.items) ≡ true

-- it is a plan of a crawl that has come so far: it stays one while the crawl stays there
abbrev pub IsPlanOf : Progress → Plan → Type 0
IsPlanOf x plan = CanBeDone x plan.act

-- after something is done
abbrev pub after_act : Progress → Act → Progress
after_act x Begin = record x { begun = true }
after_act x (Pairs cuts judged pairs) = record x { begun = true; cuts = cuts; sent = judged; pairs = pairs }
after_act x (Pass reading) = after_event x (SeenPass reading.judged) reading.places.items
after_act x (Settle fronts done) = after_event x (SeenSettle fronts.items done.items) []

-- how far the crawl comes by the plan
abbrev pub after_plan : Progress → Plan → Progress
after_plan x plan = after_act x plan.act
