use Rattle.std.proofs.Common.{◌≡◌, ◌∙◌, ℕ, List, map, None, Result, Ok, Err, IsErrOf, refl, rules, sym, ap, subst}
use Rattle.std.specs.List.{AllByRecursion}
use Rattle.std.proofs.lemmas.Result.{err_from_is_err_and}
use Rattle.irl_base.specs.declared.fault.Fault.{Fault}
use Rattle.irl_base.specs.declared.fault.Fault.TheVariants.{Failed, Memory}
use Rattle.irl_events.specs.Events.{Event}
use Rattle.irl_events.specs.Seen.{seen}
use Rattle.irl_events.specs.declared.event.Event.{Event as LogEvent}
use Rattle.irl_offer.specs.Settings.{AreValid}
use Rattle.irl_offer.specs.declared.settings.Settings.{Settings}
use Rattle.irl_bay.specs.Drum.{Drum}
use Rattle.irl_bay.specs.Opening.{AdoptMayLeave, AdoptRefused, Adopts}
use Rattle.irl_head.specs.StoreFiles.{pairs_base}
use Rattle.irl_log.specs.Form.{HasForm}
use Rattle.irl_ledger.specs.declared.ledger.Ledger.{Ledger}
use Rattle.irl_ledger.specs.declared.open.JudgedCounts.{JudgedCounts}
use Rattle.irl_ledger.specs.Crawling.{pair_settings}
use Rattle.irl_ledger.specs.Noting.{NotePlaces}
use Rattle.irl_ledger.specs.Opening.{OpensLedger}
use Rattle.irl_ledger.specs.Redoing.{ReadsCounts, RedoesAll}
use Rattle.irl_ledger.proofs.Making.{pair_valid}
use Rattle.irl_ledger.proofs.OpenedLedger.{AreFormed, adopt_refused, all_redone, counts_refused, opened_may, redo_refused, seen_formed, tables_refused, taken_formed}
use Rattle.irl_ledger.proofs.PairsOpened.{adopted_changes}
use Rattle.irl_ledger.proofs.ledger.Ledger.open.Goals as goal

-- ---- what the calls ask
pub adopt-requires-clause-settings : goal.adopt-requires-clause-settings
adopt-requires-clause-settings g c = subst AreValid (sym c.pair_settings.ensures) (pair_valid c.args.settings.now c.requires.valid)

pub redo_all-requires-clause-form : goal.redo_all-requires-clause-form
redo_all-requires-clause-form g c =
    let buckets = c.args.settings.now.buckets in
    let took = c.requires.took in
    let all : AreFormed buckets c.args.history.events = taken_formed buckets 0 took.events _ c.args.history took.each took.took tt in
    let raw : AreFormed buckets (map (λ (e : ℕ × LogEvent). (e.0, seen e.1)) c.deref.result.now) =
    subst (AreFormed buckets) (sym (ap (map (λ (e : ℕ × LogEvent). (e.0, seen e.1))) c.deref.ensures.value ∙ c.into_parts-events.ensures.events)) all in
    subst (λ (s : Settings). AllByRecursion (λ (e : ℕ × LogEvent). HasForm s.buckets (seen e.1)) c.deref.result.now) (sym c.requires.settings_are) (seen_formed buckets c.deref.result.now raw)

pub redo_all-requires-clause-may : goal.redo_all-requires-clause-may
redo_all-requires-clause-may g c =
    let tells = g.S.Store.told in
    let law = g.met.S.Store.is_consistent in
    let settings = c.args.settings.now in
    let s = tells c.args.store.now in
    let t = tells c.adopt.new.store in
    let old : Ledger = record { alloc = c.args.alloc; pairs = c.in_ok-pairs.pairs; log = c.args.log; frontier = c.in_ok-frontier.frontier; suffixes = None; notes = c.new-2.result } in
    let adopts = subst (λ (x : Settings). Adopts (Ok c.in_ok-pairs.pairs) pairs_base x s t) c.pair_settings.ensures c.in_ok-pairs.ensures.adopts in
    let leaves = subst (λ (x : Settings). AdoptMayLeave (IsErrOf c.adopt.result Failed) pairs_base x s t) c.pair_settings.ensures c.adopt.ensures.leaves in
    let read = subst (λ (r : Result JudgedCounts Fault). ReadsCounts r c.args.urls.now old.pairs t (tells c.judged_counts.new.store)) c.in_ok-counts.was c.judged_counts.ensures in
    opened_may settings c.args.urls.now c.args.history old (IsErrOf c.adopt.result Failed) s t c.is_sound-is_drum.ensures.drum (law c.adopt.new.store) c.requires adopts leaves
    c.in_ok-counts.counts (tells c.judged_counts.new.store) (law c.judged_counts.new.store) c.in_ok-frontier.ensures refl read

-- ---- what is answered
pub returns-in_err-frontier : goal.returns-in_err-frontier
returns-in_err-frontier g c =
    let s = g.S.Store.told c.args.store.now in
    let is : c.from_residual.result ≡ Err Memory = search rules in
    subst (λ (r : Result Ledger Fault). OpensLedger r c.args.settings.now c.args.urls.now c.args.log c.args.history s s) (sym is)
    (tables_refused c.args.settings.now c.args.urls.now c.args.log c.args.history s (g.met.S.Store.is_consistent c.args.store.now))

pub returns-in_err-pairs : goal.returns-in_err-pairs
returns-in_err-pairs g c =
    let s = g.S.Store.told c.args.store.now in
    let t = g.S.Store.told c.adopt.new.store in
    let settings = c.args.settings.now in
    let urls = c.args.urls.now in
    let history = c.args.history in
    let out = err_from_is_err_and c.from_residual-in_err-pairs.result c.from_residual-in_err-pairs.ensures.1 in
    let fault = c.in_err-pairs.field-0.0 in
    let is : c.from_residual-in_err-pairs.result ≡ Err fault = out.1 ∙ ap (λ e. Err e) out.2 in
    let refused = subst (λ (r : Result Drum Fault). AdoptRefused r pairs_base (pair_settings settings) s.files) c.in_err-pairs.was
    (subst (λ (x : Settings). AdoptRefused c.adopt.result pairs_base x s.files) c.pair_settings.ensures c.adopt.ensures.refused) in
    let leaves = subst (λ (r : Result Drum Fault). AdoptMayLeave (IsErrOf r Failed) pairs_base (pair_settings settings) s t) c.in_err-pairs.was
    (subst (λ (x : Settings). AdoptMayLeave (IsErrOf c.adopt.result Failed) pairs_base x s t) c.pair_settings.ensures c.adopt.ensures.leaves) in
    subst (λ (r : Result Ledger Fault). OpensLedger r settings urls c.args.log history s t) (sym is)
    (adopt_refused settings urls c.args.log history fault s t refused
    (adopted_changes settings urls (IsErrOf {T = Drum} (Err fault) Failed) s t (record {
      valid = c.requires.valid;
      law = c.is_sound-is_drum.ensures.drum;
      base = c.requires.base;
      same = c.requires.settings_are;
      consistent = g.met.S.Store.is_consistent c.adopt.new.store;
      leaves = leaves;
    })))

pub returns-in_err-counts : goal.returns-in_err-counts
returns-in_err-counts g c =
    let tells = g.S.Store.told in
    let settings = c.args.settings.now in
    let s = tells c.args.store.now in
    let t = tells c.adopt.new.store in
    let w = tells c.judged_counts.new.store in
    let out = err_from_is_err_and c.from_residual-in_err-counts.result c.from_residual-in_err-counts.ensures.1 in
    let fault = c.in_err-counts.field-0.0 in
    let is : c.from_residual-in_err-counts.result ≡ Err fault = out.1 ∙ ap (λ e. Err e) out.2 in
    let old : Ledger = record { alloc = c.args.alloc; pairs = c.in_ok-pairs.pairs; log = c.args.log; frontier = c.in_ok-frontier.frontier; suffixes = None; notes = c.new-2.result } in
    let adopts = subst (λ (x : Settings). Adopts (Ok c.in_ok-pairs.pairs) pairs_base x s t) c.pair_settings.ensures c.in_ok-pairs.ensures.adopts in
    let leaves = subst (λ (x : Settings). AdoptMayLeave (IsErrOf c.adopt.result Failed) pairs_base x s t) c.pair_settings.ensures c.adopt.ensures.leaves in
    let read = subst (λ (r : Result JudgedCounts Fault). ReadsCounts r c.args.urls.now old.pairs t w) c.in_err-counts.was c.judged_counts.ensures in
    subst (λ (r : Result Ledger Fault). OpensLedger r settings c.args.urls.now c.args.log c.args.history s w) (sym is)
    (counts_refused settings c.args.urls.now c.args.history old (IsErrOf c.adopt.result Failed) s t c.is_sound-is_drum.ensures.drum (g.met.S.Store.is_consistent c.adopt.new.store) c.requires
    adopts leaves fault w read)

pub returns-in_err-redo_all : goal.returns-in_err-redo_all
returns-in_err-redo_all g c =
    let tells = g.S.Store.told in
    let law = g.met.S.Store.is_consistent in
    let settings = c.args.settings.now in
    let urls = c.args.urls.now in
    let history = c.args.history in
    let s = tells c.args.store.now in
    let t = tells c.adopt.new.store in
    let w = tells c.judged_counts.new.store in
    let v = tells c.redo_all.new.store in
    let out = err_from_is_err_and c.from_residual-in_err-redo_all.result c.from_residual-in_err-redo_all.ensures.1 in
    let fault = c.in_err-redo_all.field-0.0 in
    let is : c.from_residual-in_err-redo_all.result ≡ Err fault = out.1 ∙ ap (λ e. Err e) out.2 in
    let old : Ledger = record { alloc = c.args.alloc; pairs = c.in_ok-pairs.pairs; log = c.args.log; frontier = c.in_ok-frontier.frontier; suffixes = None; notes = c.new-2.result } in
    let counts = c.in_ok-counts.counts in
    let adopts = subst (λ (x : Settings). Adopts (Ok c.in_ok-pairs.pairs) pairs_base x s t) c.pair_settings.ensures c.in_ok-pairs.ensures.adopts in
    let leaves = subst (λ (x : Settings). AdoptMayLeave (IsErrOf c.adopt.result Failed) pairs_base x s t) c.pair_settings.ensures c.adopt.ensures.leaves in
    let read = subst (λ (r : Result JudgedCounts Fault). ReadsCounts r urls old.pairs t w) c.in_ok-counts.was c.judged_counts.ensures in
    let events : map (λ (e : ℕ × LogEvent). (e.0, seen e.1)) c.deref.result.now ≡ history.events =
    ap (map (λ (e : ℕ × LogEvent). (e.0, seen e.1))) c.deref.ensures.value ∙ c.into_parts-events.ensures.events in
    let redoes = subst (λ (r : Result Unit Fault). RedoesAll counts r history.events urls old c.redo_all.new.self w v) c.in_err-redo_all.was
    (subst (λ (es : List (ℕ × Event)). RedoesAll counts c.redo_all.result es urls old c.redo_all.new.self w v) events c.redo_all.ensures) in
    subst (λ (r : Result Ledger Fault). OpensLedger r settings urls c.args.log history s v) (sym is)
    (redo_refused settings urls history old (IsErrOf c.adopt.result Failed) s t c.is_sound-is_drum.ensures.drum (law c.adopt.new.store) c.requires adopts leaves counts w
    (law c.judged_counts.new.store) c.in_ok-frontier.ensures refl read fault c.redo_all.new.self v redoes)

pub returns : goal.returns
returns g c =
    let tells = g.S.Store.told in
    let law = g.met.S.Store.is_consistent in
    let settings = c.args.settings.now in
    let urls = c.args.urls.now in
    let history = c.args.history in
    let s = tells c.args.store.now in
    let t = tells c.adopt.new.store in
    let w = tells c.judged_counts.new.store in
    let v = tells c.redo_all.new.store in
    let old : Ledger = record { alloc = c.args.alloc; pairs = c.in_ok-pairs.pairs; log = c.args.log; frontier = c.in_ok-frontier.frontier; suffixes = None; notes = c.new-2.result } in
    let counts = c.in_ok-counts.counts in
    let adopts = subst (λ (x : Settings). Adopts (Ok c.in_ok-pairs.pairs) pairs_base x s t) c.pair_settings.ensures c.in_ok-pairs.ensures.adopts in
    let leaves = subst (λ (x : Settings). AdoptMayLeave (IsErrOf c.adopt.result Failed) pairs_base x s t) c.pair_settings.ensures c.adopt.ensures.leaves in
    let read = subst (λ (r : Result JudgedCounts Fault). ReadsCounts r urls old.pairs t w) c.in_ok-counts.was c.judged_counts.ensures in
    let events : map (λ (e : ℕ × LogEvent). (e.0, seen e.1)) c.deref.result.now ≡ history.events =
    ap (map (λ (e : ℕ × LogEvent). (e.0, seen e.1))) c.deref.ensures.value ∙ c.into_parts-events.ensures.events in
    let redoes = subst (λ (r : Result Unit Fault). RedoesAll counts r history.events urls old c.redo_all.new.self w v) c.in_ok-redo_all.was
    (subst (λ (es : List (ℕ × Event)). RedoesAll counts c.redo_all.result es urls old c.redo_all.new.self w v) events c.redo_all.ensures) in
    subst (λ (n : NotePlaces). OpensLedger (Ok (record c.redo_all.new.self { notes = n })) settings urls c.args.log history s v) (sym c.into_parts-events.ensures.notes)
    (all_redone settings urls history old (IsErrOf c.adopt.result Failed) s t c.is_sound-is_drum.ensures.drum (law c.adopt.new.store) c.requires adopts leaves counts w (law c.judged_counts.new.store)
    c.in_ok-frontier.ensures refl read c.in_ok-redo_all.field-0 c.redo_all.new.self v (law c.redo_all.new.store) redoes)
