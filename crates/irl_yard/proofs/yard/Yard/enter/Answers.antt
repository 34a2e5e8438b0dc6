use Rattle.irl_yard.proofs.Answered.{enters_for}
use Rattle.irl_yard.proofs.yard.Yard.enter.Goals as goal

pub returns-in-Ok-clause-entered : goal.returns-in-Ok-clause-entered
returns-in-Ok-clause-entered g c = enters_for c.args.asked.now _ _ (g.S.Store.told c.args.store) (g.S.Store.told c.open.new.store) (λ no. absurd no) c.open.ensures.entered

pub returns-in-Err-clause-entered_err : goal.returns-in-Err-clause-entered_err
returns-in-Err-clause-entered_err g c = enters_for c.args.asked.now _ _ (g.S.Store.told c.args.store) (g.S.Store.told c.open.new.store) (λ is. let failed : _ = cc in failed) c.open.ensures.entered
