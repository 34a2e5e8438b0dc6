use Rattle.std.proofs.Common.{ap, ◌∙◌, take, map}
use Rattle.irl_answer.specs.Pages.{cut_of}
use Rattle.irl_answer.specs.Found.{base_for, offer_from, webs_at}
use Rattle.irl_answer.proofs.pages.Links.new.Goals as goal

pub returns : goal.returns
returns c =
    let page = c.args.page.now in
    let spans = c.in_ok-spans.ensures.only (cut_of page).0 (cut_of page).1 in
    ap (λ base. map (offer_from c.args.domain) (take 10000 (webs_at page base c.in_ok-spans.spans.items))) c.in_ok-base.ensures
    ∙ ap (λ spans. map (offer_from c.args.domain) (take 10000 (webs_at page (base_for c.args.url.now page) spans))) spans
