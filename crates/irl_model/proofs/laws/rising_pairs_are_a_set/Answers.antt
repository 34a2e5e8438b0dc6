use Rattle.irl_model.proofs.Parts.{parts_of_pairs}
use Rattle.irl_model.proofs.RisingKeys.{pairs_are, pairs_rise}
use Rattle.irl_model.proofs.laws.rising_pairs_are_a_set.Goals as goal

pub returns : goal.returns
returns c = record { are = pairs_are; rise = pairs_rise; parts = parts_of_pairs }
