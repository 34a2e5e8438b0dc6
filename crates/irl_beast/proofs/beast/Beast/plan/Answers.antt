use Rattle.std.proofs.Common.{◌≡◌, ◌∙◌, ℕ, ◌+◌, ◌-◌, ◌++◌, List, [], map, length, set, ap, arith}
use Rattle.std.specs.Prelude.{Vec}
use Rattle.irl_offer.specs.declared.place.Place.{Place}
use Rattle.irl_base.specs.Lists.{items_of, list_at}
use Rattle.irl_events.specs.Queues.{Waiting, delivered, empty_lists}
use Rattle.irl_beast.specs.declared.item.Item.{Item}
use Rattle.irl_beast.specs.Passes.{read_by}
use Rattle.irl_beast.specs.Places.{place}
use Rattle.irl_beast.specs.Plans.{planned}
use Rattle.irl_beast.proofs.Reserving.{ok_as}
use Rattle.irl_beast.proofs.beast.Beast.plan.Goals as goal

pub returns : goal.returns
returns g c =
    let w = c.args.self.now in
    let budget = g.B.Purse.budgets c.args.purse.now in
    let inside = c.self.inside in
    let passes : inside.passes ≡ w.passes = ap (λ (v : Waiting Item). v.passes) c.self.view_is in
    let queues : inside.queues ≡ w.queues = ap (λ (v : Waiting Item). v.queues) c.self.view_is in
    let at : inside.passes + 1 - 1 ≡ w.passes = omega arith in
    let read : c.queue-queue.result.now ++ c.args.fresh.now ≡ read_by w c.args.fresh.now =
    ap (λ (xs : List Item). xs ++ c.args.fresh.now) (c.queue-queue.ensures ∙ ap (list_at w.lists) at) in
    let given : (xs : List Item) → xs ≡ read_by w c.args.fresh.now → place inside.passes inside.queues budget xs ≡ place w.passes w.queues budget (read_by w c.args.fresh.now) =
    λ xs is. ap (λ (n : ℕ). place n inside.queues budget xs) passes ∙ ap (λ (n : ℕ). place w.passes n budget xs) queues ∙ ap (place w.passes w.queues budget) is in
    let places : c.in_ok-placed.placed.places.items ≡ place w.passes w.queues budget (read_by w c.args.fresh.now) =
    c.in_ok-placed.ensures.places ∙ given _ read in
    let more : items_of c.in_ok-placed.placed.more.items ≡ delivered empty_lists (read_by w c.args.fresh.now) (place w.passes w.queues budget (read_by w c.args.fresh.now)) =
    c.in_ok-placed.ensures.more ∙ ap (λ (xs : List Item). delivered empty_lists xs (place inside.passes inside.queues budget (c.queue-queue.result.now ++ c.args.fresh.now))) read
    ∙ ap (delivered empty_lists (read_by w c.args.fresh.now)) (given _ read) in
    let lengths : c.in_ok-lengths.lengths.items ≡ map length (set w.lists w.passes []) =
    c.in_ok-lengths.ensures.lengths ∙ ap (λ (ls : List (Vec Item _)). map length (set (items_of ls) inside.passes [])) c.deref.ensures.value
    ∙ ap (λ (v : Waiting Item). map length (set v.lists v.passes [])) c.self.view_is in
    ok_as c.new.result _ (planned budget w c.args.fresh.now)
    (ap (λ (ps : List Place). record { places = ps; lengths = c.in_ok-lengths.lengths.items; more = items_of c.in_ok-placed.placed.more.items }) places
    ∙ ap (λ (ns : List ℕ). record { places = place w.passes w.queues budget (read_by w c.args.fresh.now); lengths = ns; more = items_of c.in_ok-placed.placed.more.items }) lengths
    ∙ ap (λ (ls : List (List Item)). record { places = place w.passes w.queues budget (read_by w c.args.fresh.now); lengths = map length (set w.lists w.passes []); more = ls }) more)
    c.new.ensures
