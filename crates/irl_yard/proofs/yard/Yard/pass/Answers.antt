use Rattle.std.proofs.Common.{List, Ok, IsErrOf, sym, subst, rules}
use Rattle.irl_base.specs.declared.fault.Fault.TheVariants.{Failed}
use Rattle.irl_beast.specs.declared.item.Item.{Item}
use Rattle.irl_yard.specs.Passing.{AreFresh}
use Rattle.irl_yard.proofs.PassWhole.{pass_added, pass_unread}
use Rattle.irl_yard.proofs.yard.Yard.pass.Goals as goal

pub returns-in_err-fresh-clause-passes : goal.returns-in_err-fresh-clause-passes
returns-in_err-fresh-clause-passes g c =
    let self = c.args.self.now in
    let new = c.read_fresh.new.self in
    pass_unread g.S.Store.told g.met.S.Store.is_consistent self.parts new.parts self.store new.store c.read_fresh.result c.from_residual.result _ (search rules) (λ e is. search rules)
    c.read_fresh.ensures.reads c.read_fresh.ensures.states c.read_fresh.ensures.rest

pub returns-in_err-add_pass-clause-passes : goal.returns-in_err-add_pass-clause-passes
returns-in_err-add_pass-clause-passes g c =
    let self = c.args.self.now in
    let mid = c.read_fresh.new.self in
    let new = c.add_pass.new.self in
    let read = c.in_ok-fresh.ensures.states in
    pass_added g.S.Store.told g.met.S.Store.is_consistent self.parts new.parts self.store new.store mid.parts mid.store c.deref.result.now c.add_pass.result c.from_residual-in_err-add_pass.result
    (IsErrOf c.read_fresh.result Failed) c.read_fresh.ensures.reads.reads
    (λ files told state holds. subst (λ (items : List Item). AreFresh self.parts.rest items state.urls) (sym c.deref.ensures.value) (read.value files told state holds))
    c.read_fresh.ensures.states.holds c.read_fresh.ensures.states.stops c.read_fresh.ensures.states.same c.read_fresh.ensures.rest c.add_pass.ensures.adds
    (λ ok. search rules) (λ err. search rules) (λ e is. search rules) (search rules)

pub returns-clause-passes : goal.returns-clause-passes
returns-clause-passes g c =
    let self = c.args.self.now in
    let mid = c.read_fresh.new.self in
    let new = c.add_pass.new.self in
    let read = c.in_ok-fresh.ensures.states in
    pass_added g.S.Store.told g.met.S.Store.is_consistent self.parts new.parts self.store new.store mid.parts mid.store c.deref.result.now c.add_pass.result (Ok c.front_len.result)
    (IsErrOf c.read_fresh.result Failed) c.read_fresh.ensures.reads.reads
    (λ files told state holds. subst (λ (items : List Item). AreFresh self.parts.rest items state.urls) (sym c.deref.ensures.value) (read.value files told state holds))
    c.read_fresh.ensures.states.holds c.read_fresh.ensures.states.stops c.read_fresh.ensures.states.same c.read_fresh.ensures.rest c.add_pass.ensures.adds
    (λ ok. search rules) (λ err. cc) (λ e is. cc) c.front_len.ensures
