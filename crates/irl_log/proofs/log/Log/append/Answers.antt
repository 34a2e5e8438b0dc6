use Rattle.std.proofs.Common.{map, subst}
use Rattle.irl_events.specs.Seen.{seen}
use Rattle.irl_log.specs.Appending.{AppendsEvents}
use Rattle.irl_log.specs.Log.{OpenLog}
use Rattle.irl_log.proofs.Appended.{appends}
use Rattle.irl_log.proofs.Events.{all_fit}
use Rattle.irl_log.proofs.log.Log.append.Goals as goal

pub invariant_of-payloads : goal.invariant_of-payloads
invariant_of-payloads g c = record { fit = all_fit c.args.self.now.buckets (map seen c.args.events.now) c.requires.logged }

pub returns : goal.returns
returns g c =
    let inside = c.self.inside in
    let more = map seen c.args.events.now in
    let later : OpenLog = record { journal = c.append_all.new.self; buckets = inside.buckets } in
    subst (λ (log : OpenLog). AppendsEvents g.S.Store.told c.append_all.result more log later c.args.store.now c.append_all.new.store) c.self.view_is
    (appends g.S.Store.told c.append_all.result more inside.journal c.append_all.new.self inside.buckets c.args.store.now c.append_all.new.store
    (rw (← c.self.view_is) at c.requires.logged) c.append_all.ensures)
