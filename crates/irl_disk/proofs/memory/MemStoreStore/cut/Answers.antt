use Rattle.irl_disk.specs.declared.calls.Call.TheVariants.{Cut}
use Rattle.irl_disk.proofs.Steps.{cut_prefix, cut_leaves, cut_none, made, not_done_stays, tells_change}
use Rattle.std.proofs.lemmas.Result.{on_ok_weaker, on_err_weaker}
use Rattle.irl_disk.specs.Disk.{IsPrefix, PartlyCut}
use Rattle.irl_disk.proofs.memory.MemStoreStore.cut.Goals as goal

pub returns-clause-ok : goal.returns-clause-ok
returns-clause-ok c = on_ok_weaker c.make.result (λ logs. tells_change c.args.self.now c.make.new.self c.args.f (IsPrefix c.args.to)
    (cut_prefix c.args.f c.args.to c.args.self.now c.make.new.self logs)) c.make.ensures.done

pub returns-clause-err : goal.returns-clause-err
returns-clause-err c = on_err_weaker c.make.result (λ failed. tells_change c.args.self.now c.make.new.self c.args.f (PartlyCut c.args.to)
    (cut_none c.args.to c.args.f _ _ (not_done_stays (Cut c.args.f c.args.to) c.args.self.now c.make.new.self failed))) c.make.ensures.failed

pub returns-clause-stops : goal.returns-clause-stops
returns-clause-stops c = cut_leaves c.args.f c.args.to c.args.self.now c.make.new.self (made c.make.result (Cut c.args.f c.args.to) _ _ c.make.ensures.done c.make.ensures.failed)
