use Rattle.std.proofs.Common.{◌≤◌, length, arith, sym, ap, ◌∙◌, subst}
use Rattle.irl_pld.specs.Domains.{bare, domain_of}
use Rattle.irl_pld.specs.Names.{is_listed}
use Rattle.irl_pld.specs.Longest.{EndsIn, IsDomain}
use Rattle.irl_pld.proofs.DomainLemmas.{domain_is, domain_ends, empty_from_domain, within_from_ends, bare_within}
use Rattle.irl_pld.proofs.suffixes.Suffixes.pld.Goals as goal

pub returns-clause-domain : goal.returns-clause-domain
returns-clause-domain c =
    let text = c.args.self.now in
    let host = bare c.args.host.now in
    subst (IsDomain text host) (sym (c.domain.ensures ∙ ap (domain_of (is_listed text)) c.bare.ensures)) (domain_is text host)

pub returns-clause-ends : goal.returns-clause-ends
returns-clause-ends c =
    let listed = is_listed c.args.self.now in
    let host = bare c.args.host.now in
    subst (EndsIn host) (sym (c.domain.ensures ∙ ap (domain_of listed) c.bare.ensures)) (domain_ends listed host)

pub returns-clause-within : goal.returns-clause-within
returns-clause-within c =
    let listed = is_listed c.args.self.now in
    let host = bare c.args.host.now in
    let domain = within_from_ends host _ (domain_ends listed host) in
    let inside = bare_within c.args.host.now in
    subst (λ d. length d ≤ length c.args.host.now) (sym (c.domain.ensures ∙ ap (domain_of listed) c.bare.ensures)) (omega arith)

pub returns-clause-empty : goal.returns-clause-empty
returns-clause-empty c =
    let listed = is_listed c.args.self.now in
    λ none. empty_from_domain listed (bare c.args.host.now) (sym (c.domain.ensures ∙ ap (domain_of listed) c.bare.ensures) ∙ none)
