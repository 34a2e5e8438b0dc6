use Rattle.std.proofs.Common.{◌∙◌, ℕ, List, Option, ap}
use Rattle.std.specs.Prelude.{is_some}
use Rattle.irl_yard.proofs.MayAsk.{copied_some}
use Rattle.irl_crawl.proofs.PassLeads.{has_suffixes}
use Rattle.irl_crawl.proofs.crawling.crew_of.Goals as goal

pub unwrap-requires : goal.unwrap-requires
unwrap-requires g c =
    let yard = c.args.yard.now in
    copied_some c.suffixes.result ∙ ap (λ (x : Option (List ℕ)). is_some x) c.suffixes.ensures.value
    ∙ has_suffixes yard.parts.urls yard.parts.rest (g.S.Store.told yard.store).files yard.rest_is c.requires.begun
