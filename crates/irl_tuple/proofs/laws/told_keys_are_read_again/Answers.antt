use Rattle.irl_tuple.proofs.KeyLemmas.{key-again}
use Rattle.irl_tuple.proofs.laws.told_keys_are_read_again.Goals as goal

pub returns : goal.returns
returns c = key-again
