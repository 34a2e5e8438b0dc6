use Rattle.irl_fate.proofs.Crawls.{crawl_done}
use Rattle.irl_fate.proofs.laws.what_is_done_stays_done.Goals as goal

pub returns : goal.returns
returns c = crawl_done
