use Rattle.std.proofs.Common.{◌∙◌, ◌+◌, ℕ, List, set, ap}
use Rattle.irl_base.specs.Lists.{items_of}
use Rattle.irl_events.specs.Events.{numbers_of}
use Rattle.irl_events.specs.Queues.{delivered, round_ended}
use Rattle.irl_events.proofs.plain.pass.Goals as goal

pub returns-clause-ok : goal.returns-clause-ok
returns-clause-ok c =
    let was = c.args.waiting.now in
    let places = c.args.places.now in
    c.end_pass.ensures.ended
    ∙ ap (λ (ls : List (List ℕ)). round_ended ls was.queues (was.passes + 1))
    (c.in_ok-put_all.ensures.ok ∙ ap (λ (ls : List (List ℕ)). delivered ls (numbers_of places) places)
    (c.replaced.ensures.lists ∙ ap (set (items_of was.lists.items) was.passes) c.new.ensures.items))
