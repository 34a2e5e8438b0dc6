use Rattle.std.proofs.Common.{◌≡◌, ℕ, ◌+◌, ◌≤◌, List, length, Some, None, sym, ap, ◌∙◌, subst}
use Rattle.url.specs.Parts.{Parts, serialize}
use Rattle.irl_key.specs.Web.{url_against, host_of, target_of, robots_text, IsWeb, IsHost}
use Rattle.irl_base.specs.Limits.{max_text}
use Rattle.irl_key.proofs.LinkLemmas.{canon_of-own}
use Rattle.irl_key.proofs.WebLemmas.{robots_reads, length-robots, host_of-serialize, target_of-serialize}
use Rattle.irl_key.proofs.canon.robots_of.Goals as goal

-- the URL that the code reads is that of the robots file
pub is_robots : (host text : List ℕ) (url : Parts) (h : IsHost host) → text ≡ robots_text host → Some url ≡ url_against None text → url ≡ (robots_reads host h).url
is_robots host text url h spelled read =
    let same : Some url ≡ Some (robots_reads host h).url = read ∙ ap (url_against None) spelled ∙ (robots_reads host h).reads in
    cc

pub invariant_of-result : goal.invariant_of-result
invariant_of-result c =
    let host = c.args.host.now in
    let is = is_robots host _ c.in-Some.url c.requires (c.deref.ensures.value ∙ c.in_ok-text.ensures) (sym c.in-Some.is ∙ c.in_ok-url.ensures) in
    subst IsWeb (sym is) (robots_reads host c.requires).web

pub unreachable-requires : goal.unreachable-requires
unreachable-requires c =
    let host = c.args.host.now in
    let same : None ≡ Some (robots_reads host c.requires).url = sym c.in-None.is ∙ c.in_ok-url.ensures ∙ ap (url_against None) (c.deref.ensures.value ∙ c.in_ok-text.ensures)
    ∙ (robots_reads host c.requires).reads in
    cc

pub returns-clause-text : goal.returns-clause-text
returns-clause-text c =
    let host = c.args.host.now in
    let is = is_robots host _ c.in-Some.url c.requires (c.deref.ensures.value ∙ c.in_ok-text.ensures) (sym c.in-Some.is ∙ c.in_ok-url.ensures) in
    ap serialize is ∙ (robots_reads host c.requires).written

pub returns-clause-short : goal.returns-clause-short
returns-clause-short c =
    let host = c.args.host.now in
    let is = is_robots host _ c.in-Some.url c.requires (c.deref.ensures.value ∙ c.in_ok-text.ensures) (sym c.in-Some.is ∙ c.in_ok-url.ensures) in
    subst (λ t. length t ≤ max_text + 10) (sym (ap serialize is ∙ (robots_reads host c.requires).written)) (length-robots host (robots_reads host c.requires))

pub returns-clause-host : goal.returns-clause-host
returns-clause-host c =
    let host = c.args.host.now in
    let is = is_robots host _ c.in-Some.url c.requires (c.deref.ensures.value ∙ c.in_ok-text.ensures) (sym c.in-Some.is ∙ c.in_ok-url.ensures) in
    let reads = robots_reads host c.requires in
    ap (λ (u : Parts). host_of (serialize u)) is ∙ host_of-serialize reads.url reads.web ∙ reads.host_is

pub returns-clause-target : goal.returns-clause-target
returns-clause-target c =
    let host = c.args.host.now in
    let is = is_robots host _ c.in-Some.url c.requires (c.deref.ensures.value ∙ c.in_ok-text.ensures) (sym c.in-Some.is ∙ c.in_ok-url.ensures) in
    let reads = robots_reads host c.requires in
    ap (λ (u : Parts). target_of (serialize u)) is ∙ target_of-serialize reads.url reads.web ∙ reads.target_is

pub returns-clause-own : goal.returns-clause-own
returns-clause-own c =
    let host = c.args.host.now in
    let is = is_robots host _ c.in-Some.url c.requires (c.deref.ensures.value ∙ c.in_ok-text.ensures) (sym c.in-Some.is ∙ c.in_ok-url.ensures) in
    let reads = robots_reads host c.requires in
    λ base. canon_of-own base _ (record { url = reads.url; web = reads.web; written = ap serialize is })
