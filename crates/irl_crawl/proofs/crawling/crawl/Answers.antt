use Rattle.std.proofs.Common.{◌≡◌, ◌∙◌, Err, Some, refl, sym, IsErrOf}
use Rattle.irl_schedule.proofs.Outcomes.{ok_gives}
use Rattle.irl_crawl.proofs.Rising.{rose_between_same}
use Rattle.irl_crawl.proofs.SeedsRun.{crawl_lacks, crawl_refused, crawl_runs, seeds_are}
use Rattle.irl_base.specs.declared.fault.Fault.TheVariants.{Failed}
use Rattle.irl_crawl.proofs.RecordsJudged.{ok_or_failed, suffixes_there}
use Rattle.irl_crawl.proofs.RecordsThen.{leads_on}
use Rattle.irl_crawl.proofs.RecordsTurned.{crawl_batch, ended_failed, seeds_alone}
use Rattle.irl_crawl.proofs.Refusing.{refused_memory, refused_on}
use Rattle.irl_crawl.proofs.crawling.crawl.Goals as goal

pub returns-in-Err-clause-leads : goal.returns-in-Err-clause-leads
returns-in-Err-clause-leads g c = λ suffixes is.
    crawl_refused _ _ _ _ _ (seeds_are c.deref.ensures.value (c.seed-seeded.ensures.leads suffixes is)) (rose_between_same g.F.Fetch.faults c.args.fetchers.now) c.in-Err.fault c.in-Err.is

pub returns-in-Err-crew_of-clause-leads : goal.returns-in-Err-crew_of-clause-leads
returns-in-Err-crew_of-clause-leads g c = λ suffixes is.
    crawl_lacks _ _ _ _ _ (seeds_are c.deref.ensures.value (c.seed-seeded.ensures.leads suffixes is)) (rose_between_same g.F.Fetch.faults c.args.fetchers.now) c.in_default.field-0 c.in_default.is

pub returns-in-Ok-clause-leads : goal.returns-in-Ok-clause-leads
returns-in-Ok-clause-leads g c = λ suffixes is.
    let keeps = (ok_gives c.seed-seeded.result.0 c.in_default.field-0 c.seed-seeded.ensures.keeps c.in_default.is).0.keeps in
    let same : Some c.in-Ok.crew.suffixes ≡ Some suffixes = sym c.in-Ok.ensures.suffixes ∙ keeps.suffixes ∙ is in
    let same_suffixes : c.in-Ok.crew.suffixes ≡ suffixes = cc in
    crawl_runs _ _ _ _ _ (seeds_are c.deref.ensures.value (c.seed-seeded.ensures.leads suffixes is)) c.in_default.field-0 c.in_default.is c.is_sound-is_sound.ensures.drum c.requires.open.begun
    keeps.begun
    c.go_on.result.0
    c.go_on.result.1.parts (g.S.Store.told c.go_on.result.1.store) c.in-Ok.crew.agent c.in-Ok.crew.suffixes c.in-Ok.ensures.agent same_suffixes c.go_on.ensures.leads

pub returns-in-Err-clause-batches : goal.returns-in-Err-clause-batches
returns-in-Err-clause-batches g c =
    let tells = g.S.Store.told in
    let was = c.args.yard in
    let now = c.seed-seeded.result.1 in
    seeds_alone c.seed-seeded.result.0 _ was.parts now.parts (tells was.store) (tells now.store) (ended_failed c.seed-seeded.result.0 c.in-Err.fault c.in-Err.is) c.seed-seeded.ensures.batches

pub returns-in-Err-crew_of-clause-batches : goal.returns-in-Err-crew_of-clause-batches
returns-in-Err-crew_of-clause-batches g c =
    let tells = g.S.Store.told in
    let was = c.args.yard in
    let now = c.seed-seeded.result.1 in
    seeds_alone c.seed-seeded.result.0 _ was.parts now.parts (tells was.store) (tells now.store)
    (λ failed. absurd (ok_or_failed c.seed-seeded.result.0 c.in_default.field-0 c.in_default.is failed)) c.seed-seeded.ensures.batches

pub returns-in-Ok-clause-batches : goal.returns-in-Ok-clause-batches
returns-in-Ok-clause-batches g c =
    let tells = g.S.Store.told in
    let was = c.args.yard in
    let mid = c.seed-seeded.result.1 in
    let now = c.go_on.result.1 in
    let seeded = c.seed-seeded.result.0 in
    let suffixes = suffixes_there was.parts (tells was.store).files was.rest_is c.requires.open.begun in
    crawl_batch seeded c.in_default.field-0 _ was.parts mid.parts now.parts (tells was.store) (tells mid.store) (tells now.store) c.in_default.is
    (leads_on (IsErrOf seeded Failed) _ _ was.parts mid.parts (tells was.store) (tells mid.store) (c.seed-seeded.ensures.leads suffixes.0 suffixes.1)) c.seed-seeded.ensures.batches
    c.go_on.ensures.batches

pub returns-in-Err-clause-refused : goal.returns-in-Err-clause-refused
returns-in-Err-clause-refused g c =
    let now = c.seed-seeded.result.1 in
    refused_on {B = Unit} c.seed-seeded.result.0 (Err c.in-Err.fault) c.in-Err.fault now.parts (g.S.Store.told now.store) c.in-Err.is refl c.seed-seeded.ensures.refused

pub returns-in-Err-crew_of-clause-refused : goal.returns-in-Err-crew_of-clause-refused
returns-in-Err-crew_of-clause-refused g c = refused_memory c.seed-seeded.result.1.parts (g.S.Store.told c.seed-seeded.result.1.store)

pub returns-in-Ok-clause-refused : goal.returns-in-Ok-clause-refused
returns-in-Ok-clause-refused g c = c.go_on.ensures.refused
