use Rattle.std.proofs.Common.{All, get_or, sym, ap, ◌∙◌, subst}
use Rattle.irl_key.specs.Web.{IsVisible, target_of}
use Rattle.irl_key.proofs.WebLemmas.{text_between-target, target_of-serialize, rooted_target, visible_target}
use Rattle.irl_key.proofs.web.Web.target.Goals as goal

pub returns-clause-value : goal.returns-clause-value
returns-clause-value c =
    let url = c.self.inside.url in
    c.as_bytes.ensures.value ∙ c.slice.ensures.value ∙ text_between-target url ∙ sym (target_of-serialize url c.self.invariant)
    ∙ ap target_of c.self.view_is

pub returns-clause-rooted : goal.returns-clause-rooted
returns-clause-rooted c =
    let url = c.self.inside.url in
    ap (λ t. get_or t 0 0) (c.as_bytes.ensures.value ∙ c.slice.ensures.value ∙ text_between-target url) ∙ rooted_target url c.self.invariant

pub returns-clause-visible : goal.returns-clause-visible
returns-clause-visible c =
    let url = c.self.inside.url in
    subst (All IsVisible) (sym (c.as_bytes.ensures.value ∙ c.slice.ensures.value ∙ text_between-target url)) (visible_target url c.self.invariant)
