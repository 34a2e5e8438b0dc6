use Rattle.std.proofs.Common.{◌∙◌, ◌++◌, ap}
use Rattle.std.specs.Prelude.{codes}
use Rattle.irl_record.specs.Site.{page_lines}
use Rattle.irl_record.proofs.SiteLemmas.{pages_more}
use Rattle.irl_record.proofs.generator.site_text.Goals as goal

pub loop-number-preserved : goal.loop-number-preserved
loop-number-preserved c =
    let page = page_lines c.args.pages in
    c.in_ok-add_page.ensures ∙ ap (λ t. t ++ page c.loop-number.number) c.loop-number.invariant
    ∙ pages_more page (codes "suffix test\nseed http://s0.test/p0\n") c.loop-number.number
