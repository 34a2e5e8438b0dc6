use Rattle.irl_record.specs.Fetched.{by_tape}
use Rattle.irl_reach.proofs.Joining.{seeds_join, seeds_leave}
use Rattle.irl_reach.proofs.Settled.{front_unsettled}
use Rattle.irl_reach.proofs.Turns.{crawls_behind, leaves_settled, once_more}
use Rattle.irl_reach.proofs.laws.two_crawls_are_one.Goals as goal

pub returns-clause-crawls : goal.returns-clause-crawls
returns-clause-crawls c = λ input tape agent few many before first second start middle end a b once store made one two.
    seeds_join input (by_tape tape) agent few many before first second start middle end a b store made one two once

pub returns-clause-leaves : goal.returns-clause-leaves
returns-clause-leaves c = λ input tape agent few many before first second start middle end a b store made one two.
    seeds_leave input (by_tape tape) agent few many before first second start middle end a b store made one two

pub returns-clause-behind : goal.returns-clause-behind
returns-clause-behind c = λ input tape agent before visits start end. crawls_behind input (by_tape tape) agent before visits start end

pub returns-clause-once : goal.returns-clause-once
returns-clause-once c = once_more

pub returns-clause-front : goal.returns-clause-front
returns-clause-front c = λ settings state number is. front_unsettled settings state is number

pub returns-clause-settled : goal.returns-clause-settled
returns-clause-settled c = leaves_settled
