use Rattle.irl_model.proofs.BucketOrder.{border, buckets_rise}
use Rattle.irl_model.proofs.laws.buckets_follow_the_keys.Goals as goal

pub returns : goal.returns
returns c = record { border = border; rising = buckets_rise }
