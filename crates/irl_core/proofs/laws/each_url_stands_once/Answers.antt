use Rattle.irl_fate.proofs.Fresh.{queue_within}
use Rattle.irl_core.specs.Steps.{course}
use Rattle.irl_core.proofs.Fresh.{unread_fresh, read_stands}
use Rattle.irl_core.proofs.Keeping.{core_kept}
use Rattle.irl_core.proofs.laws.each_url_stands_once.Goals as goal

pub returns-clause-once : goal.returns-clause-once
returns-clause-once c = λ x n is. is.once n

pub returns-clause-fresh : goal.returns-clause-fresh
returns-clause-fresh c = unread_fresh

pub returns-clause-read : goal.returns-clause-read
returns-clause-read c = read_stands

pub returns-clause-queue : goal.returns-clause-queue
returns-clause-queue c = λ x n i is h. queue_within (course x) n i is.waiting h

pub returns-clause-all : goal.returns-clause-all
returns-clause-all c = λ settings steps n valid. (core_kept settings steps valid).once n
