use Rattle.std.proofs.Common.{refl}
use Rattle.irl_events.specs.Events.{after_event}
use Rattle.irl_fate.proofs.Applying.{progress_more, lawful_more}
use Rattle.irl_frontier.proofs.laws.an_event_brings_a_crawl_on.Goals as goal

pub returns-clause-on : goal.returns-clause-on
returns-clause-on c = λ x event places queues buckets events from. progress_more x (after_event x event places) event places refl queues buckets events from

pub returns-clause-lawful : goal.returns-clause-lawful
returns-clause-lawful c = λ x event places queues buckets events from legal before. lawful_more x event places legal queues buckets events from before
