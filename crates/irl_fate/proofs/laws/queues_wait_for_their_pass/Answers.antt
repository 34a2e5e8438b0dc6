use Rattle.irl_fate.proofs.Crawls.{crawl_fronts, crawl_queue, crawl_sent, crawl_waiting}
use Rattle.irl_fate.proofs.laws.queues_wait_for_their_pass.Goals as goal

pub returns-clause-waiting : goal.returns-clause-waiting
returns-clause-waiting c = crawl_waiting

pub returns-clause-queue : goal.returns-clause-queue
returns-clause-queue c = crawl_queue

pub returns-clause-fronts : goal.returns-clause-fronts
returns-clause-fronts c = crawl_fronts

pub returns-clause-sent : goal.returns-clause-sent
returns-clause-sent c = crawl_sent
