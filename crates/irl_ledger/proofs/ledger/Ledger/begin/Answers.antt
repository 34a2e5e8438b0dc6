use Rattle.std.proofs.Common.{◌≡◌, ℕ, List, Ok, ap, rules}
use Rattle.irl_events.specs.Events.{Begin, Event}
use Rattle.irl_frontier.specs.Frontier.{after_other}
use Rattle.irl_ledger.proofs.Adding.{begun_of}
use Rattle.irl_ledger.proofs.ledger.Ledger.begin.Goals as goal

pub returns : goal.returns
returns g c =
    let text = c.args.suffixes.now in
    let is : c.add.result ≡ Ok tt = search rules in
    let copy : c.in_ok-copy.field-0 ≡ text = search rules in
    let same : c.in-Ok.read ≡ text = search rules in
    begun_of g.S.Store.told c.add.result (Begin c.in_ok-copy.field-0) (Begin text) (λ (e : Event). after_other c.args.self.now.frontier e) c.args.self.now c.add.new.self c.in-Ok.read text
    c.args.store.now c.add.new.store is (ap (λ (t : List ℕ). Begin t) copy) same c.add.ensures
