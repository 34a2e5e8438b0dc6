use Rattle.irl_fate.proofs.Crawls.{crawl_again, crawl_below, crawl_fresh, crawl_once, crawl_unread}
use Rattle.irl_fate.proofs.laws.what_was_read_stands_once.Goals as goal

pub returns-clause-once : goal.returns-clause-once
returns-clause-once c = crawl_once

pub returns-clause-fresh : goal.returns-clause-fresh
returns-clause-fresh c = λ queues buckets events n is. (crawl_fresh queues buckets events n is, crawl_unread queues buckets events n is)

pub returns-clause-again : goal.returns-clause-again
returns-clause-again c = crawl_again

pub returns-clause-below : goal.returns-clause-below
returns-clause-below c = crawl_below
