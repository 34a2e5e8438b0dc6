use Rattle.std.proofs.Common.{◌≡◌, ◌∙◌, ℕ, Option, Some, cond, sym, ap, rules}
use Rattle.std.specs.Prelude.{bytes_eq}
use Rattle.std.specs.FinMap.{get}
use Rattle.std.specs.Option.{option_flatten}
use Rattle.irl_events.specs.Events.{Event, Robots}
use Rattle.irl_events.specs.Seen.{seen}
use Rattle.irl_base.proofs.TextMaps.{value_at, value_at-insert}
use Rattle.irl_ledger.specs.Noting.{NotePlaces, noted, places_in, with_place}
use Rattle.irl_ledger.proofs.NoteMaps.{get-places_in, place_set, places_set, put_back}
use Rattle.irl_ledger.proofs.notes.Notes.take.Goals as goal

pub returns-in_ok-before-in-Robots-clause-ok : goal.returns-in_ok-before-in-Robots-clause-ok
returns-in_ok-before-in-Robots-clause-ok c =
    let old = c.self.inside.places.entries in
    let new = c.insert.new.self.entries in
    let at : Option ℕ = Some c.args.at in
    let host = c.in-Robots.note.host in
    let key : c.in_ok-host-in-Robots.host.items ≡ host = search rules in
    let event : seen c.args.event.now ≡ Robots c.in-Robots.note = search rules in
    places_set old new host at
    (λ q. value_at-insert q c.in_ok-host-in-Robots.host at old new c.in_ok-before-in-Robots.ensures.entries
    ∙ ap (λ t. cond (bytes_eq q t) (Some at) (value_at old q)) key)
    ∙ ap (with_place host at) c.self.view_is
    ∙ ap (λ (e : Event). noted c.args.at e c.args.self.now) (sym event)

pub returns-in_ok-before-in-Robots-clause-can : goal.returns-in_ok-before-in-Robots-clause-can
returns-in_ok-before-in-Robots-clause-can c =
    let host = c.in-Robots.note.host in
    let name : c.in_ok-name-in-Robots.name ≡ host = search rules in
    let event : seen c.args.event.now ≡ Robots c.in-Robots.note = search rules in
    let new = returns-in_ok-before-in-Robots-clause-ok c ∙ ap (λ (e : Event). noted c.args.at e c.args.self.now) event in (
      c.args.at,
      ap (get (places_in c.insert.new.self.entries)) name ∙ ap (λ (m : NotePlaces). get m host) new ∙ place_set host (Some c.args.at) c.args.self.now,
    )

pub returns-in_ok-before-in-Robots-clause-restores : goal.returns-in_ok-before-in-Robots-clause-restores
returns-in_ok-before-in-Robots-clause-restores c =
    let old = c.self.inside.places.entries in
    let host = c.in-Robots.note.host in
    let key : c.in_ok-host-in-Robots.host.items ≡ host = search rules in
    let name : c.in_ok-name-in-Robots.name ≡ host = search rules in
    let event : seen c.args.event.now ≡ Robots c.in-Robots.note = search rules in
    let new = returns-in_ok-before-in-Robots-clause-ok c ∙ ap (λ (e : Event). noted c.args.at e c.args.self.now) event in
    let before : c.flatten.result ≡ get c.args.self.now host =
    c.flatten.ensures ∙ ap (λ o. option_flatten o) (c.in_ok-before-in-Robots.ensures.old ∙ ap (value_at old) key) ∙ sym (get-places_in old host) ∙ ap (λ (m : NotePlaces). get m host) c.self.view_is in
    ap (λ t. with_place t c.flatten.result (places_in c.insert.new.self.entries)) name
    ∙ ap (λ o. with_place host o (places_in c.insert.new.self.entries)) before
    ∙ ap (with_place host (get c.args.self.now host)) new
    ∙ put_back host (Some c.args.at) c.args.self.now
