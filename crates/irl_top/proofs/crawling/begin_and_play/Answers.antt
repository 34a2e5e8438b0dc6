use Rattle.std.proofs.Common.{◌≡◌, List, ℕ, Ok, Err, Result, subst}
use Rattle.std.specs.Prelude.{IsErrOf}
use Rattle.irl_crawl.specs.Leading.{Leads}
use Rattle.irl_crawl.specs.Workers.{given_by}
use Rattle.irl_top.specs.Crawled.{part_task, Begins, BeginsAt, KeepsSuffixes, RefusesSuffixes}
use Rattle.irl_top.specs.declared.ending.Ending.{Ending}
use Rattle.irl_top.specs.declared.ending.Ending.TheVariants.{DiskFault}
use Rattle.irl_top.proofs.Batching.{behind_batch, none_added}
use Rattle.irl_top.proofs.CrawlParts.{leads_behind, leads_unbegun}
use Rattle.irl_top.proofs.Giving.{none_rose}
use Rattle.irl_top.proofs.crawling.begin_and_play.Goals as goal

pub returns-in-Ok-clause-leads : goal.returns-in-Ok-clause-leads
returns-in-Ok-clause-leads g c =
    let tells = g.S.Store.told in
    let was = c.args.yard in
    let mid = c.begin.new.yard in
    let now = c.play.result.1 in
    let first = subst (λ (t : List ℕ). Leads (IsErrOf {T = Unit {0}} {E = Ending} (Ok tt) DiskFault) (BeginsAt t) (Begins (Ok tt) t) was.parts mid.parts (tells was.store) (tells mid.store))
    c.suffixes.ensures.value c.in-Ok.ensures.leads in
    let keeps = subst (λ (t : List ℕ). KeepsSuffixes mid.parts t) c.suffixes.ensures.value c.in-Ok.ensures.open.1 in
    let task = part_task c.args.options.now (given_by g.F.Fetch.asked g.F.Fetch.gives g.F.Fetch.faults c.args.fetchers.now c.play.new.fetchers) in
    leads_behind task c.args.tape.now c.play.result.0 was.parts mid.parts now.parts (tells was.store) (tells mid.store) (tells now.store) c.is_sound-is_sound.ensures.drum
    c.in-Ok.ensures.leads.goes_on.drum c.requires.kind first (c.play.ensures.leads keeps)

pub returns-in-Err-clause-leads : goal.returns-in-Err-clause-leads
returns-in-Err-clause-leads g c =
    let tells = g.S.Store.told in
    let was = c.args.yard in
    let now = c.begin.new.yard in
    let ending = c.in-Err.ending in
    let first = subst (λ (t : List ℕ). Leads (IsErrOf {T = Unit {0}} {E = Ending} (Err ending) DiskFault) (BeginsAt t) (Begins (Err ending) t) was.parts now.parts (tells was.store) (tells now.store))
    c.suffixes.ensures.value c.in-Err.ensures.leads in
    let task = part_task c.args.options.now (given_by g.F.Fetch.asked g.F.Fetch.gives g.F.Fetch.faults c.args.fetchers.now c.args.fetchers.now) in
    leads_unbegun task c.args.tape.now ending was.parts now.parts (tells was.store) (tells now.store) c.is_sound-is_sound.ensures.drum c.requires.kind
    c.in-Err.ensures.leads.goes_on.drum (none_rose g.F.Fetch.faults c.args.fetchers.now) first

pub returns-in-Err-clause-suffixes : goal.returns-in-Err-clause-suffixes
returns-in-Err-clause-suffixes g c = subst (λ (t : List ℕ). RefusesSuffixes (Err c.in-Err.ending) t) c.suffixes.ensures.value c.in-Err.ensures.suffixes

pub returns-in-Ok-clause-batches : goal.returns-in-Ok-clause-batches
returns-in-Ok-clause-batches g c =
    let tells = g.S.Store.told in
    let was = c.args.yard in
    let mid = c.begin.new.yard in
    let now = c.play.result.1 in
    behind_batch c.play.result.0 c.suffixes.result.now was.parts mid.parts now.parts (tells was.store) (tells mid.store) (tells now.store) c.in-Ok.ensures.leads c.in-Ok.ensures.batches
    c.play.ensures.batches

pub returns-in-Err-clause-batches : goal.returns-in-Err-clause-batches
returns-in-Err-clause-batches g c =
    let tells = g.S.Store.told in
    let was = c.args.yard in
    let now = c.begin.new.yard in
    none_added _ _ was.parts now.parts (tells was.store) (tells now.store) (λ is. is) c.in-Err.ensures.batches

pub returns-in-Ok-clause-found : goal.returns-in-Ok-clause-found
returns-in-Ok-clause-found g c = c.play.ensures.found

pub returns-in-Err-clause-found : goal.returns-in-Err-clause-found
returns-in-Err-clause-found g c = c.in-Err.ensures.found
