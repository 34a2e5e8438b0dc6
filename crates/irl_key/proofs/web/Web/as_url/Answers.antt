use Rattle.std.proofs.Common.{None, sym, ap, ◌∙◌}
use Rattle.irl_key.specs.Web.{url_against}
use Rattle.irl_key.proofs.WebLemmas.{url_against-serialize}
use Rattle.irl_key.proofs.web.Web.as_url.Goals as goal

pub returns : goal.returns
returns c = ap (url_against None) (sym c.self.view_is) ∙ url_against-serialize c.self.inside.url None c.self.invariant
