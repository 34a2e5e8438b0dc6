use Rattle.irl_crawl.specs.Workers.{given_by}
use Rattle.irl_top.specs.Crawled.{part_task}
use Rattle.irl_top.proofs.Batching.{none_crawled, played_batch}
use Rattle.irl_top.proofs.CrawlParts.{crawl_found, crawl_kinds, crawl_refuses, kind_begun, memory_found, played_by, suffixes_begun, unplayed}
use Rattle.irl_top.proofs.Giving.{none_rose}
use Rattle.irl_top.proofs.crawling.play.Given.{Over}
use Rattle.irl_disk.specs.Images.{IsConsistent}
use Rattle.irl_top.proofs.crawling.play.Goals as goal

-- what a store that may be sent keeps in every thread, it keeps in this one
abbrev consistent : (g : Over) (store : g.row.S.Denot) → IsConsistent (g.S.Store.told store)
consistent g = (g.met.S.Store g.world.𝓛 g.world.𝓜 g.world.𝓡 ((λ s x. x), (λ x. x), (λ x. x), λ x. x)).is_consistent

pub returns-in-Err-clause-leads : goal.returns-in-Err-clause-leads
returns-in-Err-clause-leads g c = λ keeps.
    let yard = c.args.yard in
    let law = consistent g yard.store in
    let task = part_task c.args.options.now (given_by g.F.Fetch.asked g.F.Fetch.gives g.F.Fetch.faults c.args.fetchers.now c.args.fetchers.now) in
    unplayed task c.args.tape.now yard.parts (g.S.Store.told yard.store) law c.is_sound-is_sound.ensures.drum c.requires.open.sound
    (none_rose g.F.Fetch.faults c.args.fetchers.now)

pub returns-in_default-clause-leads : goal.returns-in_default-clause-leads
returns-in_default-clause-leads g c = λ keeps.
    let yard = c.args.yard in
    let law = consistent g yard.store in
    let task = part_task c.args.options.now (given_by g.F.Fetch.asked g.F.Fetch.gives g.F.Fetch.faults c.args.fetchers.now c.args.fetchers.now) in
    unplayed task c.args.tape.now yard.parts (g.S.Store.told yard.store) law c.is_sound-is_sound.ensures.drum c.requires.open.sound
    (none_rose g.F.Fetch.faults c.args.fetchers.now)

pub returns-clause-leads : goal.returns-clause-leads
returns-clause-leads g c = λ keeps.
    let tells = g.S.Store.told in
    let yard = c.args.yard in
    let later = c.crawl-ended.result.1 in
    let found = suffixes_begun yard.parts.urls yard.parts.rest (tells yard.store).files yard.rest_is c.requires.open.begun in
    let kind = kind_begun yard.parts.urls yard.parts.rest (tells yard.store).files yard.rest_is c.requires.open.begun in
    rw c.ending_of_crawl.ensures
    (played_by c.args.options.now c.args.tape.now c.in-Ok.plan c.crawl-ended.result.0 found.0 _ yard.parts later.parts (tells yard.store) (tells later.store) c.in-Ok.ensures kind found.1 keeps
    (c.crawl-ended.ensures.leads found.0 found.1))

pub returns-clause-kinds : goal.returns-clause-kinds
returns-clause-kinds g c = rw c.ending_of_crawl.ensures (crawl_kinds c.crawl-ended.result.0)

pub returns-clause-suffixes : goal.returns-clause-suffixes
returns-clause-suffixes g c = rw c.ending_of_crawl.ensures (crawl_refuses c.crawl-ended.result.0 c.args.tape.now.suffixes)

pub returns-in-Err-clause-batches : goal.returns-in-Err-clause-batches
returns-in-Err-clause-batches g c =
    let yard = c.args.yard in
    let told = g.S.Store.told yard.store in
    let kind = kind_begun yard.parts.urls yard.parts.rest told.files yard.rest_is c.requires.open.begun in
    none_crawled _ yard.parts told (consistent g yard.store) c.is_sound-is_sound.ensures.drum yard.rest_is kind

pub returns-in_default-clause-batches : goal.returns-in_default-clause-batches
returns-in_default-clause-batches g c =
    let yard = c.args.yard in
    let told = g.S.Store.told yard.store in
    let kind = kind_begun yard.parts.urls yard.parts.rest told.files yard.rest_is c.requires.open.begun in
    none_crawled _ yard.parts told (consistent g yard.store) c.is_sound-is_sound.ensures.drum yard.rest_is kind

pub returns-clause-batches : goal.returns-clause-batches
returns-clause-batches g c =
    let tells = g.S.Store.told in
    let yard = c.args.yard in
    let later = c.crawl-ended.result.1 in
    rw c.ending_of_crawl.ensures (played_batch c.crawl-ended.result.0 yard.parts later.parts (tells yard.store) (tells later.store) c.crawl-ended.ensures.batches)

pub returns-in-Err-clause-found : goal.returns-in-Err-clause-found
returns-in-Err-clause-found g c = memory_found c.args.yard.parts (g.S.Store.told c.args.yard.store)

pub returns-in_default-clause-found : goal.returns-in_default-clause-found
returns-in_default-clause-found g c = memory_found c.args.yard.parts (g.S.Store.told c.args.yard.store)

pub returns-clause-found : goal.returns-clause-found
returns-clause-found g c =
    let later = c.crawl-ended.result.1 in
    rw c.ending_of_crawl.ensures (crawl_found c.crawl-ended.result.0 later.parts (g.S.Store.told later.store) c.crawl-ended.ensures.refused)
