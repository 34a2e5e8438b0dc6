use Rattle.std.proofs.Common.{◌≡◌, ◌∙◌, ℕ, List, map, length, sym, ap, subst, arith}
use Rattle.std.specs.Prelude.{Vec}
use Rattle.std.proofs.lemmas.List.{take_at}
use Rattle.irl_base.specs.Lists.{items_of}
use Rattle.irl_beast.specs.declared.item.Item.{Item}
use Rattle.irl_beast.specs.Plans.{Planned, joined}
use Rattle.irl_beast.specs.Rooms.{HaveRoom}
use Rattle.irl_beast.proofs.plan.Plan.put.Goals as goal

pub put_all-requires-clause-room : goal.put_all-requires-clause-room
put_all-requires-clause-room c =
    let inside = c.self.inside in
    let lengths : inside.lengths.items ≡ map length (items_of c.deref_mut.result.now) =
    ap (λ (p : Planned). p.lengths) c.self.view_is ∙ c.requires.lengths ∙ ap (λ (ls : List (Vec Item _)). map length (items_of ls)) (sym c.deref_mut.ensures.value) in
    subst (λ (ns : List ℕ). HaveRoom ns c.deref_mut-2.result.now c.deref_mut-3.result.now) lengths
    (subst (λ (ls : List (Vec Item _)). HaveRoom inside.lengths.items ls c.deref_mut-3.result.now) (sym c.deref_mut-2.ensures.value)
    (subst (λ (ls : List (Vec Item _)). HaveRoom inside.lengths.items inside.more.items ls) (sym c.deref_mut-3.ensures.value) c.self.invariant))

pub returns-clause-lists : goal.returns-clause-lists
returns-clause-lists c =
    let old = c.args.lists.now in
    let count : length c.put_all.new.lists ≡ old.len = omega (arith, c.put_all.auto.lists, c.deref_mut.ensures.len) in
    ap (λ (ls : List (Vec Item _)). items_of ls) (take_at c.put_all.new.lists _ old.len count) ∙ c.put_all.ensures
    ∙ ap (λ (ls : List (Vec Item _)). joined (items_of ls) (items_of c.deref_mut-2.result.now)) c.deref_mut.ensures.value
    ∙ ap (λ (ls : List (Vec Item _)). joined (items_of old.items) (items_of ls)) c.deref_mut-2.ensures.value
    ∙ ap (λ (p : Planned). joined (items_of old.items) p.more) c.self.view_is
