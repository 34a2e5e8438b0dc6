use Rattle.std.proofs.Common.{sym, subst}
use Rattle.irl_events.specs.Seen.{seen}
use Rattle.irl_events.specs.declared.event.Event.{Event as LogEvent}
use Rattle.irl_ledger.specs.Opening.{IsCounted}
use Rattle.irl_ledger.proofs.Opening.{redoes_by, when_ok}
use Rattle.irl_ledger.proofs.ledger.Ledger.redo.Goals as goal

pub returns-in-Begin : goal.returns-in-Begin
returns-in-Begin g c =
    redoes_by c.args.counts.now c.redo_begin.result c.args.at (seen c.args.event.now) c.args.urls.now c.args.self.now c.redo_begin.new.self (g.S.Store.told c.args.store.now)
    (g.S.Store.told c.redo_begin.new.store)
    (when_ok c.redo_begin.result _ (subst (λ (e : LogEvent). IsCounted c.args.counts.now.urls.items c.args.counts.now.pairs.items (seen e)) (sym c.in-Begin.is) tt)) c.redo_begin.ensures

pub returns-in-Pass : goal.returns-in-Pass
returns-in-Pass g c =
    redoes_by c.args.counts.now c.redo_pass.result c.args.at (seen c.args.event.now) c.args.urls.now c.args.self.now c.redo_pass.new.self (g.S.Store.told c.args.store.now)
    (g.S.Store.told c.redo_pass.new.store)
    (when_ok c.redo_pass.result _ (subst (λ (e : LogEvent). IsCounted c.args.counts.now.urls.items c.args.counts.now.pairs.items (seen e)) (sym c.in-Pass.is) tt)) c.redo_pass.ensures

pub returns-in-Robots : goal.returns-in-Robots
returns-in-Robots g c =
    redoes_by c.args.counts.now c.redo_note.result c.args.at (seen c.args.event.now) c.args.urls.now c.args.self.now c.redo_note.new.self (g.S.Store.told c.args.store.now)
    (g.S.Store.told c.redo_note.new.store)
    (when_ok c.redo_note.result _ (subst (λ (e : LogEvent). IsCounted c.args.counts.now.urls.items c.args.counts.now.pairs.items (seen e)) (sym c.in-Robots.is) tt)) c.redo_note.ensures

pub returns-in-Settle : goal.returns-in-Settle
returns-in-Settle g c =
    redoes_by c.args.counts.now c.redo_settle.result c.args.at (seen c.args.event.now) c.args.urls.now c.args.self.now c.redo_settle.new.self (g.S.Store.told c.args.store.now)
    (g.S.Store.told c.redo_settle.new.store)
    (when_ok c.redo_settle.result _ (subst (λ (e : LogEvent). IsCounted c.args.counts.now.urls.items c.args.counts.now.pairs.items (seen e)) (sym c.in-Settle.is) tt)) c.redo_settle.ensures
