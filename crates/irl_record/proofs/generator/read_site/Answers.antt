use Rattle.std.proofs.Common.{ap, ◌∙◌}
use Rattle.irl_record.specs.Site.{site_text}
use Rattle.irl_record.proofs.SiteTapes.{only_memory}
use Rattle.irl_record.proofs.generator.read_site.Goals as goal

pub returns-clause-cause : goal.returns-clause-cause
returns-clause-cause c = λ few.
    let text = c.new-source.ensures ∙ c.in_ok-text.ensures ∙ ap site_text c.from.ensures in
    only_memory c.args.pages c.new-source.result c.read.result few text c.read.ensures.refused c.read.ensures.cause
