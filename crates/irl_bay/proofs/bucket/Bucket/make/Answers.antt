use Rattle.irl_bay.proofs.Bucketing.{new_bucket}
use Rattle.irl_bay.proofs.bucket.Bucket.make.Goals as goal

pub returns-clause-holds : goal.returns-clause-holds
returns-clause-holds g c = λ array. rw c.at.ensures (new_bucket (g.S.Store.told c.make.new.store).images c.in_ok-journal.journal c.number-2.result c.args.start array c.in_ok-journal.ensures.open)
