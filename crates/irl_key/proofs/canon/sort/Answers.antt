use Rattle.std.proofs.Common.{◌≡◌, ◌∙◌, sym, [], length, ◌≤◌, codes}
use Rattle.url.specs.Parts.{serialize}
use Rattle.irl_base.specs.Limits.{max_text}
use Rattle.irl_key.specs.Web.{IsWeb}
use Rattle.irl_key.proofs.LinkLemmas.{canonical_from_same, same_from_ne, empty_from_is_empty, empty_from_none}
use Rattle.irl_key.proofs.WebLemmas.{tested_web}
use Rattle.irl_key.proofs.canon.sort.Goals as goal

-- What passes the three tests is a web URL.
pub invariant_of-result : goal.invariant_of-result
invariant_of-result c =
    let url = c.in-Some.url in
    let http : url.scheme ≡ codes "http" = sym c.scheme.ensures.value ∙ same_from_ne _ _ c.if-ne.ensures in
    let username : url.username ≡ [] = sym c.username.ensures ∙ empty_from_is_empty _ c.if-not-is_empty.ensures in
    let password : url.password ≡ [] = empty_from_none c.password.result url.password c.if-is_some.ensures c.password.ensures in
    let short : length (serialize c.in_ok-url.url) ≤ max_text = rw (sym c.as_str.ensures.value) c.if-as_str-gt-MAX_TEXT.false in
    tested_web url c.in_ok-url.url c.in_ok-url.ensures http username password c.as_str.ensures.valid short

-- Its text is a canonical one.
pub returns-clause-found : goal.returns-clause-found
returns-clause-found c =
    let url = c.in-Some.url in
    let http : url.scheme ≡ codes "http" = sym c.scheme.ensures.value ∙ same_from_ne _ _ c.if-ne.ensures in
    let username : url.username ≡ [] = sym c.username.ensures ∙ empty_from_is_empty _ c.if-not-is_empty.ensures in
    let password : url.password ≡ [] = empty_from_none c.password.result url.password c.if-is_some.ensures c.password.ensures in
    let short : length (serialize c.in_ok-url.url) ≤ max_text = rw (sym c.as_str.ensures.value) c.if-as_str-gt-MAX_TEXT.false in
    let own : IsWeb c.in_ok-url.url = tested_web url c.in_ok-url.url c.in_ok-url.ensures http username password c.as_str.ensures.valid short in
    λ web same. canonical_from_same c.in_ok-url.url web own short same
