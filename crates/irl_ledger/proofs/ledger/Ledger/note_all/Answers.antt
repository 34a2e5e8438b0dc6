use Rattle.std.proofs.Common.{◌≡◌, ◌∙◌, ◌+◌, ◌^◌, ◌<◌, ℕ, List, Ok, length, map, sym, ap, subst, arith, rules}
use Rattle.std.specs.List.{AllByRecursion}
use Rattle.irl_events.specs.Events.{Event, Robots}
use Rattle.irl_events.specs.Seen.{seen}
use Rattle.irl_events.specs.declared.event.Event.{Event as LogEvent}
use Rattle.irl_journal.specs.Format.{IsPayload, records_text}
use Rattle.irl_log.specs.Log.{AreLogged}
use Rattle.irl_log.specs.Spelling.{log_records}
use Rattle.irl_ledger.specs.Noting.{NotePlaces, noted_all}
use Rattle.irl_ledger.proofs.Adding.{appended_all, ends_there}
use Rattle.irl_ledger.proofs.SeveralNotes.{notes_fit, notes_logged}
use Rattle.irl_ledger.proofs.ledger.Ledger.note_all.Goals as goal

pub take_all-requires : goal.take_all-requires
take_all-requires g c =
    let seens : map seen c.deref.result.now ≡ map Robots c.args.notes.now = ap (map seen) c.deref.ensures.value ∙ c.in_ok-events.ensures.value in
    subst (λ (es : List Event). AllByRecursion IsPayload (log_records es)) (sym seens) (notes_fit c.args.notes.now c.requires.notes.1)

pub append-requires-clause-logged : goal.append-requires-clause-logged
append-requires-clause-logged g c =
    let buckets = c.args.self.now.log.buckets in
    let seens : map seen c.deref-2.result.now ≡ map Robots c.args.notes.now = ap (map seen) c.deref-2.ensures.value ∙ c.in_ok-events.ensures.value in
    subst (AreLogged buckets) (sym seens) (notes_logged buckets c.args.notes.now c.requires.notes.1)

pub returns : goal.returns
returns g c =
    let self = c.args.self.now in
    let notes = c.args.notes.now in
    let seens = map seen c.deref-2.result.now in
    let seen_are : seens ≡ map Robots notes = ap (map seen) c.deref-2.ensures.value ∙ c.in_ok-events.ensures.value in
    let same : map seen c.deref.result.now ≡ seens = ap (map seen) (c.deref.ensures.value ∙ sym c.deref-2.ensures.value) in
    let is : c.append.result ≡ Ok tt = search rules in
    let end = ends_there g.S.Store.told c.append.result seens self.log c.append.new.self c.args.store.now c.append.new.store is c.append.ensures in
    let within : c.end.result + length (records_text (log_records (map seen c.deref.result.now))) < 2 ^ 64 =
    omega (arith, end, c.end.ensures, c.end-end.ensures, ap (λ (es : List Event). length (records_text (log_records es))) same) in
    appended_all g.S.Store.told c.append.result seens (map Robots notes) self c.append.new.self c.take_all.new.self c.args.store.now c.append.new.store is seen_are c.append.ensures
    (c.in_ok-before.ensures.ok within ∙ ap (λ (n : ℕ). noted_all n (map seen c.deref.result.now) self.notes) c.end.ensures
    ∙ ap (λ (es : List Event). noted_all self.log.journal.end es self.notes) same)
