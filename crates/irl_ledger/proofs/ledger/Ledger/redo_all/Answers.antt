use Rattle.std.proofs.Common.{◌≡◌, ◌∙◌, ℕ, ◌+◌, ◌≤◌, List, length, map, drop, get_or, take, Result, Ok, Err, sym, ap, subst, arith}
use Rattle.std.proofs.lemmas.Result.{err_from_is_err_and}
use Rattle.irl_base.specs.declared.fault.Fault.{Fault}
use Rattle.irl_events.specs.Events.{Event}
use Rattle.irl_events.specs.Seen.{seen}
use Rattle.irl_events.specs.declared.event.Event.{Event as LogEvent}
use Rattle.irl_ledger.specs.Redoing.{RedoesAll, RedoesBy}
use Rattle.irl_ledger.proofs.RedoneAll.{IsPlaced, SoFar, all_done, all_placed, all_seen, done_more, is_placed, left_at, may_redo, none_left, one_more, one_refused, seen_twice}
use Rattle.irl_ledger.proofs.ledger.Ledger.redo_all.Goals as goal

pub redo-requires-clause-may : goal.redo-requires-clause-may
redo-requires-clause-may g c =
    may_redo c.args.counts.now _ _ _ c.args.urls.now c.args.self.now c.loop-at.self (g.S.Store.told c.args.store.now) (g.S.Store.told c.loop-at.store) c.loop-at.invariant c.requires.may

pub returns-in_err-redo : goal.returns-in_err-redo
returns-in_err-redo g c =
    let s = g.S.Store.told c.args.store.now in
    let t = g.S.Store.told c.loop-at.store in
    let w = g.S.Store.told c.redo.new.store in
    let urls = c.args.urls.now in
    let old = c.args.self.now in
    let counts = c.args.counts.now in
    let events = c.args.events.now in
    let i = c.loop-at.at-index in
    let d = c.loop-at-item.result in
    let left = all_seen (drop (i + 1) events) in
    let so = subst (λ (l : List Event). SoFar counts (all_seen (take i events)) l (all_seen events) urls old c.loop-at.self s t) (left_at events i d c.loop-at-test.true) c.loop-at.invariant in
    let out = err_from_is_err_and c.from_residual.result c.from_residual.ensures.1 in
    let fault = c.in_err-redo.field-0.0 in
    let is : c.from_residual.result ≡ Err fault = out.1 ∙ ap (λ e. Err e) out.2 in
    let same : d ≡ get_or events i d = c.loop-at-item.is in
    let redoes = subst (λ (r : Result Unit Fault). RedoesBy counts r d.0 (seen d.1) urls c.loop-at.self c.redo.new.self t w) c.in_err-redo.was c.redo.ensures in
    subst (λ (r : Result Unit Fault). RedoesAll counts r (map (λ (e : ℕ × LogEvent). (e.0, seen e.1)) events) urls old c.redo.new.self s w) (sym is)
    (one_refused counts d.0 (seen (get_or events i d).1) (all_seen (take i events)) left (all_seen events) urls old c.loop-at.self c.redo.new.self s t w c.is_sound-is_drum.ensures.drum
    c.is_sound-is_sound.ensures.drum
    (g.met.S.Store.is_consistent c.loop-at.store) so fault (map (λ (e : ℕ × LogEvent). (e.0, seen e.1)) events) (seen_twice events)
    (subst (λ (x : ℕ × LogEvent). IsPlaced x.0 (seen (get_or events i d).1) (all_seen (take i events)) (all_placed events)) (sym same) (is_placed events i d c.loop-at-test.true))
    (subst (λ (x : ℕ × LogEvent). RedoesBy counts (Err fault) d.0 (seen x.1) urls c.loop-at.self c.redo.new.self t w) same redoes))

pub loop-at-preserved : goal.loop-at-preserved
loop-at-preserved g c =
    let s = g.S.Store.told c.args.store.now in
    let t = g.S.Store.told c.loop-at.store in
    let w = g.S.Store.told c.redo.new.store in
    let urls = c.args.urls.now in
    let old = c.args.self.now in
    let counts = c.args.counts.now in
    let events = c.args.events.now in
    let i = c.loop-at.at-index in
    let d = c.loop-at-item.result in
    let left = all_seen (drop (i + 1) events) in
    let so = subst (λ (l : List Event). SoFar counts (all_seen (take i events)) l (all_seen events) urls old c.loop-at.self s t) (left_at events i d c.loop-at-test.true) c.loop-at.invariant in
    let same : d ≡ get_or events i d = c.loop-at-item.is in
    let redoes = subst (λ (r : Result Unit Fault). RedoesBy counts r d.0 (seen d.1) urls c.loop-at.self c.redo.new.self t w) c.in_ok-redo.was c.redo.ensures in
    subst (λ (l : List Event). SoFar counts l left (all_seen events) urls old c.redo.new.self s w) (done_more events i d c.loop-at-test.true)
    (one_more counts d.0 (seen (get_or events i d).1) (all_seen (take i events)) left (all_seen events) urls old c.loop-at.self c.redo.new.self s t w c.is_sound-is_drum.ensures.drum
    c.is_sound-is_sound.ensures.drum
    (g.met.S.Store.is_consistent c.loop-at.store) so c.in_ok-redo.field-0
    (subst (λ (x : ℕ × LogEvent). RedoesBy counts (Ok c.in_ok-redo.field-0) d.0 (seen x.1) urls c.loop-at.self c.redo.new.self t w) same redoes))

pub returns : goal.returns
returns g c =
    let s = g.S.Store.told c.args.store.now in
    let t = g.S.Store.told c.loop-at.store in
    let urls = c.args.urls.now in
    let old = c.args.self.now in
    let counts = c.args.counts.now in
    let events = c.args.events.now in
    let over : length events ≤ c.loop-at.at-index = omega (arith, c.loop-at-test.false) in
    all_done counts (all_seen (take c.loop-at.at-index events)) (all_seen events) (map (λ (e : ℕ × LogEvent). (e.0, seen e.1)) events) urls old c.loop-at.self s t (seen_twice events)
    (subst (λ (l : List Event). SoFar counts (all_seen (take c.loop-at.at-index events)) l (all_seen events) urls old c.loop-at.self s t) (none_left events c.loop-at.at-index over)
    c.loop-at.invariant)
