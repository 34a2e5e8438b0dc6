use Rattle.std.proofs.Common.{ℕ, List, ap, ◌∙◌, Some, length}
use Rattle.irl_disk.specs.declared.calls.Call.TheVariants.{Query}
use Rattle.irl_disk.proofs.Steps.{done_made, failed_made, files_stay, query_is_quiet, query_leaves, query_stays}
use Rattle.irl_disk.proofs.memory.MemStoreStore.length.Goals as goal

pub returns-in_err-make-clause-same : goal.returns-in_err-make-clause-same
returns-in_err-make-clause-same c = ap Some (files_stay Query query_is_quiet c.args.self.now c.make.new.self (failed_made Query _ _ c.in_err-make.ensures.failed))

pub returns-in_err-make-clause-stops : goal.returns-in_err-make-clause-stops
returns-in_err-make-clause-stops c = query_leaves c.args.self.now c.make.new.self (failed_made Query _ _ c.in_err-make.ensures.failed)

pub returns-clause-value : goal.returns-clause-value
returns-clause-value c = ap (λ (xs : List ℕ). length xs) (c.file.ensures ∙ query_stays c.args.self.now c.make.new.self (done_made Query _ _ c.in_ok-make.ensures.done) c.args.f)

pub returns-clause-same : goal.returns-clause-same
returns-clause-same c = ap Some (files_stay Query query_is_quiet c.args.self.now c.make.new.self (done_made Query _ _ c.in_ok-make.ensures.done))

pub returns-clause-stops : goal.returns-clause-stops
returns-clause-stops c = query_leaves c.args.self.now c.make.new.self (done_made Query _ _ c.in_ok-make.ensures.done)
