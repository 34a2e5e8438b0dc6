use Rattle.std.proofs.Common.{◌≡◌, Ok, Err, subst}
use Rattle.std.specs.Prelude.{IfErr, IsErrOf, Result}
use Rattle.irl_crawl.specs.Leading.{Leads}
use Rattle.irl_crawl.specs.Workers.{given_by}
use Rattle.irl_report.specs.Report.{report_of}
use Rattle.irl_top.specs.Crawled.{part_task, Crawled, EndsAsFound, IsCrawlEnding, MayCrawlInput, RefusesSuffixes}
use Rattle.irl_top.specs.Outside.{stream}
use Rattle.irl_top.specs.declared.ending.Ending.{Ending}
use Rattle.irl_top.specs.declared.ending.Ending.TheVariants.{DiskFault}
use Rattle.irl_top.proofs.Batching.{CrawlBatches}
use Rattle.irl_top.proofs.CrawlInputs.{tape_printed, tape_refused}
use Rattle.irl_top.proofs.Shows.{printed_of}
use Rattle.irl_top.proofs.crawling.crawl_tape.Goals as goal

pub returns-in-Ok-clause-tape : goal.returns-in-Ok-clause-tape
returns-in-Ok-clause-tape g c =
    let tells = g.S.Store.told in
    let sink = stream g.O.Sink.written g.O.Sink.faults in
    let was = c.args.yard in
    let now = c.begin_and_play-crawled.result.1 in
    let task = part_task c.args.options.now (given_by g.F.Fetch.asked g.F.Fetch.gives g.F.Fetch.faults c.args.fetchers.now c.begin_and_play-crawled.new.fetchers) in
    let tape = c.args.tape.now in
    let leads = subst (λ (r : Result Unit Ending). Leads (IsErrOf r DiskFault) (MayCrawlInput task was.parts.urls.settings tape) (Crawled r task was.parts.urls.settings tape) was.parts now.parts
    (tells was.store) (tells now.store)) c.in-Ok.is c.begin_and_play-crawled.ensures.leads in
    let batches = subst (λ (r : Result Unit Ending). CrawlBatches (IsErrOf r DiskFault) was.parts now.parts (tells was.store) (tells now.store)) c.in-Ok.is c.begin_and_play-crawled.ensures.batches in
    let r = c.print_report-printed.result in
    let h = c.print_report-printed.ensures in
    let out = c.print_report-printed.new.output in
    let printed = printed_of r (sink c.args.output.now) (sink out) (report_of c.counts.result) h.ok h.err h.kinds h.cause in
    rw c.of.ensures
    (tape_printed task tape r c.counts.result was.parts now.parts (tells was.store) (tells now.store) (sink c.args.output.now) (sink out) leads batches c.counts.ensures printed)

pub returns-in-Err-clause-tape : goal.returns-in-Err-clause-tape
returns-in-Err-clause-tape g c =
    let tells = g.S.Store.told in
    let sink = stream g.O.Sink.written g.O.Sink.faults in
    let was = c.args.yard in
    let now = c.begin_and_play-crawled.result.1 in
    let task = part_task c.args.options.now (given_by g.F.Fetch.asked g.F.Fetch.gives g.F.Fetch.faults c.args.fetchers.now c.begin_and_play-crawled.new.fetchers) in
    let tape = c.args.tape.now in
    let ending = c.in-Err.ending in
    let leads = subst (λ (r : Result Unit Ending). Leads (IsErrOf r DiskFault) (MayCrawlInput task was.parts.urls.settings tape) (Crawled r task was.parts.urls.settings tape) was.parts now.parts
    (tells was.store) (tells now.store)) c.in-Err.is c.begin_and_play-crawled.ensures.leads in
    let batches = subst (λ (r : Result Unit Ending). CrawlBatches (IsErrOf r DiskFault) was.parts now.parts (tells was.store) (tells now.store)) c.in-Err.is c.begin_and_play-crawled.ensures.batches in
    let kind = subst (λ (r : Result Unit Ending). IfErr r IsCrawlEnding) c.in-Err.is c.begin_and_play-crawled.ensures.kinds in
    let refuses = subst (λ (r : Result Unit Ending). RefusesSuffixes r tape.suffixes) c.in-Err.is c.begin_and_play-crawled.ensures.suffixes in
    let found = subst (λ (r : Result Unit Ending). EndsAsFound (IsErrOf r) now.parts (tells now.store)) c.in-Err.is c.begin_and_play-crawled.ensures.found in
    tape_refused task tape ending was.parts now.parts (tells was.store) (tells now.store) (sink c.args.output.now) kind refuses leads batches found
