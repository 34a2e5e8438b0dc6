use Rattle.std.proofs.Common.{◌≡◌, ◌∙◌, ◌+◌, List, [], map, length, set, sym, ap, rules}
use Rattle.std.specs.Prelude.{Vec, vec_len}
use Rattle.std.proofs.lemmas.List.{length-map}
use Rattle.irl_offer.specs.declared.place.Place.{Place}
use Rattle.irl_base.specs.Lists.{items_of}
use Rattle.irl_events.specs.Queues.{Waiting, delivered, round_ended}
use Rattle.irl_beast.specs.declared.item.Item.{Item}
use Rattle.irl_beast.specs.Passes.{read_by}
use Rattle.irl_beast.specs.Places.{place}
use Rattle.irl_beast.specs.Plans.{Planned, joined}
use Rattle.irl_beast.proofs.Joining.{joined_items}
use Rattle.irl_beast.proofs.beast.Beast.commit.Goals as goal

pub put-places-requires-clause-lengths : goal.put-places-requires-clause-lengths
put-places-requires-clause-lengths c =
    ap (λ (p : Planned). p.lengths) c.requires.2
    ∙ ap (λ (w : Waiting Item). map length (set w.lists w.passes [])) (sym c.self.view_is)
    ∙ ap (λ (ls : List (List Item)). map length ls) (sym c.take_out.ensures.left)

pub returns-clause-passed : goal.returns-clause-passed
returns-clause-passed c = λ budget fresh is.
    let w = c.args.self.now in
    let inside = c.self.inside in
    let read : List Item = read_by w fresh in
    let places : List Place = place w.passes w.queues budget read in
    let left : items_of c.take_out.new.lists.items ≡ set w.lists w.passes [] =
    c.take_out.ensures.left ∙ ap (λ (v : Waiting Item). set v.lists v.passes []) c.self.view_is in
    let long : vec_len c.take_out.new.lists ≡ length c.take_out.new.lists.items = search rules in
    let many : vec_len c.take_out.new.lists ≡ 65 = c.take_out.ensures.len ∙ c.self.invariant.0 in
    let count : length (set w.lists w.passes []) ≡ 65 = sym (ap length left) ∙ length-map c.take_out.new.lists.items (λ (v : Vec Item _). v.items) ∙ sym long ∙ many in
    let lists : items_of c.put-places.new.lists.items ≡ delivered (set w.lists w.passes []) read places =
    c.put-places.ensures.lists ∙ ap (λ (ls : List (List Item)). joined ls c.args.plan.more) left
    ∙ ap (λ (p : Planned). joined (set w.lists w.passes []) p.more) is ∙ joined_items (set w.lists w.passes []) read places count in
    c.end_pass.ensures ∙ ap (λ (ls : List (List Item)). round_ended ls inside.queues (inside.passes + 1)) lists
    ∙ ap (λ (v : Waiting Item). round_ended (delivered (set w.lists w.passes []) read places) v.queues (v.passes + 1)) c.self.view_is
