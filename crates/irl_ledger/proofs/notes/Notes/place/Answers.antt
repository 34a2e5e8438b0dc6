use Rattle.std.proofs.Common.{◌∙◌, sym, ap}
use Rattle.std.specs.FinMap.{get}
use Rattle.std.specs.Option.{option_flatten}
use Rattle.irl_ledger.specs.Noting.{NotePlaces}
use Rattle.irl_ledger.proofs.NoteMaps.{get-places_in}
use Rattle.irl_ledger.proofs.notes.Notes.place.Goals as goal

pub returns : goal.returns
returns c =
    c.flatten.ensures ∙ ap (λ o. option_flatten o) (c.copied.ensures ∙ c.get.ensures.value)
    ∙ sym (get-places_in c.self.inside.places.entries c.args.host.now) ∙ ap (λ (m : NotePlaces). get m c.args.host.now) c.self.view_is
