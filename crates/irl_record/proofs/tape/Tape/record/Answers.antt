use Rattle.std.proofs.Common.{◌≡◌, ◌∙◌, Some, None, ap, rules}
use Rattle.std.specs.Prelude.{option_copied}
use Rattle.irl_record.specs.Index.{found}
use Rattle.irl_record.specs.Taped.{record_at}
use Rattle.irl_record.proofs.IndexLemmas.{led_to, led_place}
use Rattle.irl_record.proofs.tape.Tape.record.Goals as goal

pub returns-in-Some : goal.returns-in-Some
returns-in-Some c =
    let records = c.self.inside.records.items in
    let url = c.args.url.now in
    let place : Some c.in-Some.place.now ≡ found c.self.inside.index.entries c.args.url.now = c.in-Some.ensures.value in
    let step : option_copied c.record_in.result ≡ led_to c.self.inside.records.items (Some c.in-Some.place.now) = search rules in
    step ∙ ap (led_to records) (place ∙ c.self.invariant.1 url) ∙ led_place records url ∙ ap (λ t. record_at t.records url) c.self.view_is

pub returns-in-None : goal.returns-in-None
returns-in-None c =
    let records = c.self.inside.records.items in
    let url = c.args.url.now in
    let none : None ≡ found c.self.inside.index.entries c.args.url.now = c.in-None.ensures.value in
    ap (led_to records) (none ∙ c.self.invariant.1 url) ∙ led_place records url ∙ ap (λ t. record_at t.records url) c.self.view_is
