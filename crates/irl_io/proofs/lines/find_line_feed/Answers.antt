use Rattle.std.proofs.Common.{sym}
use Rattle.irl_io.proofs.FeedLemmas.{found_if, none_if}
use Rattle.irl_io.proofs.lines.find_line_feed.Goals as goal

pub returns-clause-found : goal.returns-clause-found
returns-clause-found c = found_if c.args.bytes.now c.min.result c.memchr.result c.min.ensures c.memchr.ensures

pub returns-clause-none : goal.returns-clause-none
returns-clause-none c = rw (sym c.min.ensures) (none_if c.args.bytes.now c.min.result c.memchr.result c.min.ensures c.memchr.ensures)
