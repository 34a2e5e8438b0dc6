use Rattle.irl_merge.proofs.Given.{given_within, given_is_rising}
use Rattle.irl_merge.proofs.laws.what_is_given_rises.Goals as goal

pub returns : goal.returns
returns c = record { rises = given_is_rising; within = given_within }
