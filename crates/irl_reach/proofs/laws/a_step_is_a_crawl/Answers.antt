use Rattle.irl_record.specs.Fetched.{by_tape}
use Rattle.irl_reach.proofs.Turns.{crawls_event, crawls_made, crawls_quiet, crawls_seeds, crawls_unvisited, number_offered, visits_apart}
use Rattle.irl_reach.proofs.laws.a_step_is_a_crawl.Goals as goal

pub returns-clause-offered : goal.returns-clause-offered
returns-clause-offered c = number_offered

pub returns-clause-apart : goal.returns-clause-apart
returns-clause-apart c = λ suffixes tape agent end made visits. visits_apart suffixes (by_tape tape) agent end made visits

pub returns-clause-unvisited : goal.returns-clause-unvisited
returns-clause-unvisited c = λ input tape agent before start end more. crawls_unvisited input (by_tape tape) agent before start end more

pub returns-clause-seeds : goal.returns-clause-seeds
returns-clause-seeds c = λ input tape agent before start end. crawls_seeds input (by_tape tape) agent before start end

pub returns-clause-quiet : goal.returns-clause-quiet
returns-clause-quiet c = λ input tape agent before start end. crawls_quiet input (by_tape tape) agent before start end

pub returns-clause-event : goal.returns-clause-event
returns-clause-event c = λ input tape agent before start end event places. crawls_event input (by_tape tape) agent before start end event places

pub returns-clause-made : goal.returns-clause-made
returns-clause-made c = λ input tape agent before end. crawls_made input (by_tape tape) agent before end
