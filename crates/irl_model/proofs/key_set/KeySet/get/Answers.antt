use Rattle.std.proofs.Common.{◌∙◌, sym, ap}
use Rattle.std.specs.FinMap as map
use Rattle.irl_model.proofs.KeyMaps.{get-entries_map}
use Rattle.irl_model.proofs.key_set.KeySet.get.Goals as goal

pub returns : goal.returns
returns c =
    c.copied.ensures ∙ c.get.ensures.value ∙ sym (get-entries_map c.self.inside.values.entries c.args.key)
    ∙ ap (λ m. map.get m c.args.key) c.self.view_is
