-- Cuts and records that come in batches, in the parts of a command that crawls.
use Rattle.std.proofs.Common.{◌≡◌, List, ℕ, ap, arith}
use Rattle.std.specs.Prelude.{Result, Ok, Err, IsErrOf}
use Rattle.irl_base.specs.declared.fault.Fault.{Fault}
use Rattle.irl_base.specs.declared.fault.Fault.TheVariants.{Failed as StoreFailed}
use Rattle.irl_bay.specs.Drum.{IsDrum}
use Rattle.irl_crawl.specs.Batches.{Batches, besides, just}
use Rattle.irl_crawl.specs.Leading.{Leads}
use Rattle.irl_crawl.specs.declared.plan.Ended.{Ended}
use Rattle.irl_crawl.specs.declared.plan.Ended.TheVariants.{Fault as CrawlFault}
use Rattle.irl_crawl.proofs.RecordsJudged.{none_besides, same_batch}
use Rattle.irl_crawl.proofs.RecordsOfLog.{event_batch}
use Rattle.irl_crawl.proofs.RecordsThen.{batches_more, batches_then, leads_on, same_within}
use Rattle.irl_disk.specs.Images.{IsConsistent, Told}
use Rattle.irl_events.specs.Events.{Begin}
use Rattle.irl_offer.specs.declared.settings.Kind.TheVariants.{Crawl as CrawlKind}
use Rattle.irl_yard.specs.declared.parts.Parts.{Parts}
use Rattle.irl_yard.specs.Adding.{AddsEvent}
use Rattle.irl_yard.specs.Holding.{IsOpenRest}
use Rattle.irl_yard.proofs.Begun.{ledger_in}
use Rattle.irl_top.specs.Crawled.{Begins, BeginsAt, ending_of_crawl}
use Rattle.irl_top.specs.declared.ending.Ending.{Ending}
use Rattle.irl_top.specs.declared.ending.Ending.TheVariants.{DiskFault}
use Rattle.irl_top.proofs.CrawlParts.{answer_of}

-- what a crawl may add
abbrev pub CrawlBatches : Type 0 → Parts → Parts → Told → Told → Type 0
CrawlBatches failed was now before after = Batches failed (besides 2 1) (besides 2 1) was now before after

-- nothing was done
pub none_begun : (failed : Type 0) (parts : Parts) (now : Told) → IsConsistent now → IsDrum parts.urls → IsOpenRest parts.urls parts.rest now.files → parts.urls.settings.kind ≡ CrawlKind
    → Batches failed (just 0 0) (just 0 0) parts parts now now
none_begun failed parts now law drum opened kind = same_batch failed parts now opened drum law (ledger_in parts.urls parts.rest now.files opened kind)

-- a part that adds none
pub none_added : (failed other : Type 0) (was now : Parts) (before after : Told) → (failed → other) → Batches failed (just 0 0) (just 0 0) was now before after
    → CrawlBatches other was now before after
none_added failed other was now before after there one =
    batches_more failed other (just 0 0) (just 0 0) (besides 2 1) (besides 2 1) was now before after there (none_besides 2 1) (none_besides 2 1) one

pub none_crawled : (failed : Type 0) (parts : Parts) (now : Told) → IsConsistent now → IsDrum parts.urls → IsOpenRest parts.urls parts.rest now.files → parts.urls.settings.kind ≡ CrawlKind
    → CrawlBatches failed parts parts now now
none_crawled failed parts now law drum opened kind = none_added failed failed parts parts now now (λ is. is) (none_begun failed parts now law drum opened kind)

-- a failure may have another name
pub named_batch : (failed other : Type 0) (was now : Parts) (before after : Told) → (failed → other) → CrawlBatches failed was now before after → CrawlBatches other was now before after
named_batch failed other was now before after there one =
    batches_more failed other (besides 2 1) (besides 2 1) (besides 2 1) (besides 2 1) was now before after there (same_within (besides 2 1)) (same_within (besides 2 1)) one

-- a beginning
pub begin_batch : {S : Type 0} (tells : S → Told) (law : (s : S) → IsConsistent (tells s)) (r : Result Unit Fault) (text : List ℕ) (was now : Parts) (before after : S) → IsDrum was.urls
    → was.urls.settings.kind ≡ CrawlKind → now.urls.settings.kind ≡ CrawlKind → IsOpenRest was.urls was.rest (tells before).files → IsOpenRest now.urls now.rest (tells after).files
    → AddsEvent tells r (Begin text) was now before after → Batches (IsErrOf (answer_of r) DiskFault) (just 0 0) (just 0 0) was now (tells before) (tells after)
begin_batch tells law r text was now before after drum kind kind_now opened later adds =
    batches_more (IsErrOf r StoreFailed) (IsErrOf (answer_of r) DiskFault) (just 0 0) (just 0 0) (just 0 0) (just 0 0) was now (tells before) (tells after) (λ is. ap answer_of is)
    (same_within (just 0 0)) (same_within (just 0 0))
    (event_batch tells law was now before after opened later drum (ledger_in was.urls was.rest (tells before).files opened kind) r (Begin text) adds
    (ledger_in now.urls now.rest (tells after).files later kind_now))

-- and the crawl behind it
pub behind_batch : (r : Result Unit Ending) (text : List ℕ) (was mid now : Parts) (before between after : Told)
    → Leads (IsErrOf {T = Unit {0}} {E = Ending} (Ok tt) DiskFault) (BeginsAt text) (Begins (Ok tt) text) was mid before between
    → Batches (IsErrOf {T = Unit {0}} {E = Ending} (Ok tt) DiskFault) (just 0 0) (just 0 0) was mid before between → CrawlBatches (IsErrOf r DiskFault) mid now between after
    → CrawlBatches (IsErrOf r DiskFault) was now before after
behind_batch r text was mid now before between after leads first second =
    let began = IsErrOf {T = Unit {0}} {E = Ending} (Ok tt) DiskFault in
    batches_then began (IsErrOf r DiskFault) (just 0 0) (just 0 0) (besides 2 1) (besides 2 1) (besides 2 1) (besides 2 1) was mid now before between after
    (leads_on began (BeginsAt text) (Begins (Ok tt) text) was mid before between leads) (λ no. let never : ⊥ = cc in never) first second (none_besides 2 1)
    (λ files told x y held held_mid n. (omega arith, omega arith, omega arith))
    (λ files told x y z held held_mid held_now. (omega arith, omega arith, omega arith))

-- by the answer of a crawl
pub played_batch : (ended : Ended) (was now : Parts) (before after : Told) → CrawlBatches (ended ≡ CrawlFault StoreFailed) was now before after
    → CrawlBatches (IsErrOf (ending_of_crawl ended) DiskFault) was now before after
played_batch ended was now before after one = named_batch (ended ≡ CrawlFault StoreFailed) (IsErrOf (ending_of_crawl ended) DiskFault) was now before after (λ is. ap ending_of_crawl is) one
