use Rattle.std.proofs.Common.{ap, ◌∙◌, Some}
use Rattle.irl_disk.specs.declared.calls.Call.TheVariants.{Sync}
use Rattle.irl_disk.proofs.Steps.{files_stay, made, same_told, sync_durable, sync_is_quiet, sync_leaves}
use Rattle.irl_disk.specs.Disk.{Files}
use Rattle.std.proofs.lemmas.Result.{on_ok_weaker}
use Rattle.irl_disk.proofs.memory.MemStoreStore.sync.Goals as goal

pub returns-clause-durable : goal.returns-clause-durable
returns-clause-durable c = on_ok_weaker c.make.result (λ logs files told image left. sync_durable c.args.f c.args.self.now c.make.new.self logs image left
    ∙ ap (λ (told_files : Files). told_files c.args.f) (same_told _ files told)) c.make.ensures.done

pub returns-clause-same : goal.returns-clause-same
returns-clause-same c = ap Some (files_stay (Sync c.args.f) (sync_is_quiet c.args.f) c.args.self.now c.make.new.self (made c.make.result (Sync c.args.f) _ _ c.make.ensures.done c.make.ensures.failed))

pub returns-clause-stops : goal.returns-clause-stops
returns-clause-stops c = sync_leaves c.args.f c.args.self.now c.make.new.self (made c.make.result (Sync c.args.f) _ _ c.make.ensures.done c.make.ensures.failed)
