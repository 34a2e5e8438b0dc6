use Rattle.std.proofs.Common.{All, sym, ◌∙◌, subst}
use Rattle.irl_key.specs.Web.{IsVisible}
use Rattle.irl_key.proofs.WebLemmas.{visible_text}
use Rattle.irl_key.proofs.web.Web.text.Goals as goal

pub returns-clause-visible : goal.returns-clause-visible
returns-clause-visible c =
    subst (All IsVisible) (sym (c.as_bytes.ensures.value ∙ c.as_str.ensures.value)) (visible_text c.self.inside.url c.self.invariant)
