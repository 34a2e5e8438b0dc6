use Rattle.std.proofs.Common.{◌<◌, All, length, refl, sym, ap, ◌∙◌, subst}
use Rattle.url.specs.Parts.{serialize}
use Rattle.irl_key.specs.Web.{IsVisible, host_of}
use Rattle.irl_key.proofs.WebLemmas.{text_between-host, host_of-serialize, nonempty_host, visible_host}
use Rattle.irl_key.proofs.web.Web.host.Goals as goal

pub returns-clause-value : goal.returns-clause-value
returns-clause-value c =
    let url = c.self.inside.url in
    c.as_bytes.ensures.value ∙ c.slice.ensures.value ∙ text_between-host url ∙ sym (host_of-serialize url c.self.invariant)
    ∙ ap host_of c.self.view_is

pub returns-clause-given : goal.returns-clause-given
returns-clause-given c =
    let url = c.self.inside.url in
    record {
      text = serialize url;
      web = record { url = url; web = c.self.invariant; written = refl };
      given = c.as_bytes.ensures.value ∙ c.slice.ensures.value ∙ text_between-host url ∙ sym (host_of-serialize url c.self.invariant);
    }

pub returns-clause-nonempty : goal.returns-clause-nonempty
returns-clause-nonempty c =
    let url = c.self.inside.url in
    subst (λ t. 0 < length t) (sym (c.as_bytes.ensures.value ∙ c.slice.ensures.value ∙ text_between-host url)) (nonempty_host url c.self.invariant)

pub returns-clause-visible : goal.returns-clause-visible
returns-clause-visible c =
    let url = c.self.inside.url in
    subst (All IsVisible) (sym (c.as_bytes.ensures.value ∙ c.slice.ensures.value ∙ text_between-host url)) (visible_host url c.self.invariant)
