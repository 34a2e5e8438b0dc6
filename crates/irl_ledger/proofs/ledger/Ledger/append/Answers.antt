use Rattle.std.proofs.Common.{◌≡◌, ◌∙◌, Ok, Err, refl, ap, rules}
use Rattle.irl_base.specs.declared.fault.Fault.TheVariants.{Memory}
use Rattle.irl_events.specs.Seen.{seen}
use Rattle.irl_frontier.specs.Plans.{after_plan}
use Rattle.irl_ledger.specs.Noting.{noted}
use Rattle.irl_ledger.proofs.Adding.{appended_of, no_room_of, refused_of}
use Rattle.irl_ledger.proofs.ledger.Ledger.append.Goals as goal

pub returns-in-Err : goal.returns-in-Err
returns-in-Err g c =
    let self = c.args.self.now in
    refused_of g.S.Store.told (Err c.in-Err.fault) c.append.result c.in-Err.fault (seen c.args.event) (after_plan self.frontier c.args.plan) self.suffixes self c.append.new.self c.put_back.new.self
    c.args.store.now c.append.new.store c.in-Err.is refl c.append.ensures (c.put_back.ensures ∙ c.in_ok-before.ensures.restores)

pub returns-in_err-before : goal.returns-in_err-before
returns-in_err-before g c =
    let self = c.args.self.now in
    let same : c.from_residual.result ≡ Err Memory = search rules in
    no_room_of g.S.Store.told c.from_residual.result (seen c.args.event) (after_plan self.frontier c.args.plan) self.suffixes self c.take.new.self c.args.store.now same c.in_err-before.ensures.err

pub returns : goal.returns
returns g c =
    let self = c.args.self.now in
    let is : c.append.result ≡ Ok tt = search rules in
    appended_of g.S.Store.told c.append.result (seen c.args.event) (after_plan self.frontier c.args.plan) c.commit.new.self self c.append.new.self c.take.new.self c.args.store.now c.append.new.store
    is
    c.append.ensures c.commit.ensures (c.in_ok-before.ensures.ok ∙ ap (λ n. noted n (seen c.args.event) self.notes) c.end.ensures)
