use Rattle.irl_reach.proofs.Ending.{reached_unique, unique_reached}
use Rattle.irl_reach.proofs.laws.all_that_is_reached_is_judged.Goals as goal

pub returns : goal.returns
returns c = λ tape agent settings state along is none seeds all key.
    (unique_reached tape agent state along key, reached_unique tape agent settings state along is.book is.dropped is.both none seeds all key)
