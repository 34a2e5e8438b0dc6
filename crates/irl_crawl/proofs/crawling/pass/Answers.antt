use Rattle.std.proofs.Common.{◌≡◌, ◌∙◌, ℕ, Result, Err, IsErrOf, sym, ap, subst}
use Rattle.std.proofs.lemmas.Result.{err_from_is_err_and}
use Rattle.irl_base.specs.declared.fault.Fault.{Fault}
use Rattle.irl_base.specs.declared.fault.Fault.TheVariants.{Failed}
use Rattle.irl_yard.specs.Leading.{IsEither}
use Rattle.irl_yard.specs.Passing.{with_pass}
use Rattle.irl_crawl.proofs.PassLeads.{pass_keeps, pass_ok, pass_part}
use Rattle.irl_crawl.specs.Leading.{Leads}
use Rattle.irl_crawl.specs.Running.{Passes}
use Rattle.irl_bay.specs.Drum.{IsDrum}
use Rattle.irl_crawl.proofs.Records.{crawl_of}
use Rattle.irl_crawl.proofs.RecordsJudged.{begun_passed, failed_on, ok_or_failed}
use Rattle.irl_crawl.proofs.RecordsOfLog.{pass_batch}
use Rattle.irl_crawl.proofs.RecordsThen.{batches_more, same_within}
use Rattle.irl_crawl.specs.Batches.{just}
use Rattle.irl_crawl.proofs.Refusing.{refused_ok, refused_on, refused_passes}
use Rattle.irl_crawl.proofs.crawling.pass.Goals as goal

pub returns-in_err-pass-clause-leads : goal.returns-in_err-pass-clause-leads
returns-in_err-pass-clause-leads g c =
    let tells = g.S.Store.told in
    let was = c.args.yard.now in
    let now = c.pass.new.self in
    let out = err_from_is_err_and c.from_residual.result c.from_residual.ensures.1 in
    let same : c.pass.result ≡ c.from_residual.result = c.in_err-pass.was ∙ sym (out.1 ∙ ap (λ (e : Fault). Err e) out.2) in
    subst (λ (r : Result ℕ Fault). Leads (IsErrOf r Failed) (λ x y. IsEither x (with_pass was.parts.urls.settings x) y) (Passes r was.parts.urls.settings) was.parts now.parts (tells was.store)
    (tells now.store)) same
    (pass_part tells c.pass.result was.parts now.parts was.store now.store (g.met.S.Store.is_consistent now.store) c.pass.ensures.passes c.pass.ensures.goes_on)

pub returns-clause-leads : goal.returns-clause-leads
returns-clause-leads g c =
    let was = c.args.yard.now in
    let now = c.pass.new.self in
    pass_ok g.S.Store.told c.pass.result was.parts now.parts was.store now.store (g.met.S.Store.is_consistent now.store) c.pass.ensures.passes c.pass.ensures.goes_on c.in_ok-pass.field-0 0
    c.in_ok-pass.was

pub returns-clause-keeps : goal.returns-clause-keeps
returns-clause-keeps g c =
    let tells = g.S.Store.told in
    let was = c.args.yard.now in
    let now = c.pass.new.self in
    pass_keeps tells c.pass.result was.parts now.parts was.store now.store (g.met.S.Store.is_consistent now.store) c.pass.ensures.passes c.pass.ensures.goes_on (tells was.store).files (tells
    now.store).files was.rest_is
    now.rest_is c.requires.open.begun c.requires.sent

pub returns-in_err-pass-clause-batches : goal.returns-in_err-pass-clause-batches
returns-in_err-pass-clause-batches g c =
    let tells = g.S.Store.told in
    let was = c.args.yard.now in
    let now = c.pass.new.self in
    let passes = c.pass.ensures.passes in
    let begun = c.requires.open.begun in
    let out = err_from_is_err_and c.from_residual.result c.from_residual.ensures.1 in
    batches_more (IsErrOf c.pass.result Failed) (IsErrOf c.from_residual.result Failed) (just 0 0) (just 0 0) (just 0 0) (just 0 0) was.parts now.parts (tells was.store) (tells now.store)
    (failed_on c.pass.result c.from_residual.result c.in_err-pass.field-0.0 c.in_err-pass.was (out.1 ∙ ap (λ (e : Fault). Err e) out.2)) (same_within (just 0 0)) (same_within (just 0 0))
    (pass_batch tells g.met.S.Store.is_consistent was.parts now.parts was.store now.store was.rest_is now.rest_is (subst IsDrum passes.urls c.pass.ensures.goes_on.drum) (crawl_of was.parts.rest begun)
    c.pass.result passes (crawl_of now.parts.rest
    (begun_passed was.parts now.parts (tells was.store).files (tells now.store).files was.rest_is now.rest_is passes.urls passes.suffixes begun)))

pub returns-clause-batches : goal.returns-clause-batches
returns-clause-batches g c =
    let tells = g.S.Store.told in
    let was = c.args.yard.now in
    let now = c.pass.new.self in
    let passes = c.pass.ensures.passes in
    let begun = c.requires.open.begun in
    batches_more (IsErrOf c.pass.result Failed) _ (just 0 0) (just 0 0) (just 0 0) (just 0 0) was.parts now.parts (tells was.store) (tells now.store)
    (λ failed. absurd (ok_or_failed c.pass.result c.in_ok-pass.field-0 c.in_ok-pass.was failed)) (same_within (just 0 0)) (same_within (just 0 0))
    (pass_batch tells g.met.S.Store.is_consistent was.parts now.parts was.store now.store was.rest_is now.rest_is (subst IsDrum passes.urls c.pass.ensures.goes_on.drum) (crawl_of was.parts.rest begun)
    c.pass.result passes (crawl_of now.parts.rest
    (begun_passed was.parts now.parts (tells was.store).files (tells now.store).files was.rest_is now.rest_is passes.urls passes.suffixes begun)))

pub returns-in_err-pass-clause-refused : goal.returns-in_err-pass-clause-refused
returns-in_err-pass-clause-refused g c =
    let tells = g.S.Store.told in
    let was = c.args.yard.now in
    let now = c.pass.new.self in
    let passes = c.pass.ensures.passes in
    let out = err_from_is_err_and c.from_residual.result c.from_residual.ensures.1 in
    refused_on c.pass.result c.from_residual.result c.in_err-pass.field-0.0 now.parts (tells now.store) c.in_err-pass.was (out.1 ∙ ap (λ (e : Fault). Err e) out.2)
    (refused_passes tells c.pass.result was.parts now.parts was.store now.store (subst IsDrum passes.urls c.pass.ensures.goes_on.drum) was.rest_is c.requires.open.begun passes)

pub returns-clause-refused : goal.returns-clause-refused
returns-clause-refused g c = refused_ok 0 c.pass.new.self.parts (g.S.Store.told c.pass.new.self.store)
