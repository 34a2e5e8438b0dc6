use Rattle.irl_schedule.proofs.Journals.{buckets_apart}
use Rattle.irl_yard.proofs.Journals.{sides_apart, merge_apart}
use Rattle.irl_yard.proofs.laws.a_buckets_files_are_its_own.Goals as goal

pub returns-clause-bucket : goal.returns-clause-bucket
returns-clause-bucket c = buckets_apart

pub returns-clause-sides : goal.returns-clause-sides
returns-clause-sides c = sides_apart

pub returns-clause-merge : goal.returns-clause-merge
returns-clause-merge c = merge_apart
