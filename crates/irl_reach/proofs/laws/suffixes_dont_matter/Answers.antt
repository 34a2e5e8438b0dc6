use Rattle.irl_reach.proofs.Suffixes.{along_by, reached_by}
use Rattle.irl_reach.proofs.laws.suffixes_dont_matter.Goals as goal

pub returns-clause-along : goal.returns-clause-along
returns-clause-along c = λ tape agent suffixes state. along_by suffixes tape agent state

pub returns-clause-reached : goal.returns-clause-reached
returns-clause-reached c = λ tape agent suffixes key. reached_by suffixes tape agent key
