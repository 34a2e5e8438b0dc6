use Rattle.std.proofs.Common.{ℕ, List, ap, ◌∙◌, Some, length, refl, subst, sym}
use Rattle.irl_disk.specs.declared.calls.Call.TheVariants.{Query}
use Rattle.irl_disk.proofs.Steps.{Made, done_made, failed_made, files_stay, query_is_quiet, query_leaves, query_stays}
use Rattle.irl_disk.specs.Calls.{History}
use Rattle.irl_disk.specs.Disk.{Reads}
use Rattle.irl_disk.proofs.memory.MemStoreStore.read.Goals as goal

pub returns-in_err-make-clause-same : goal.returns-in_err-make-clause-same
returns-in_err-make-clause-same c = ap Some (files_stay Query query_is_quiet c.args.self.now c.make.new.self (failed_made Query _ _ c.in_err-make.ensures.failed))

pub returns-in_err-make-clause-stops : goal.returns-in_err-make-clause-stops
returns-in_err-make-clause-stops c = query_leaves c.args.self.now c.make.new.self (failed_made Query _ _ c.in_err-make.ensures.failed)

pub copied-count-requires : goal.copied-count-requires
copied-count-requires c = rw (c.file.ensures ∙ query_stays c.args.self.now c.make.new.self (done_made Query _ _ c.in_ok-make.ensures.done) c.args.f) (c.requires.place _ refl)

pub returns-in_err-count-clause-same : goal.returns-in_err-count-clause-same
returns-in_err-count-clause-same c = ap Some (files_stay Query query_is_quiet c.args.self.now c.count.new.self
    (subst (λ (h : History). Made Query c.args.self.now.log h) (sym c.in_err-count.ensures.log) (done_made Query _ _ c.in_ok-make.ensures.done)))

pub returns-in_err-count-clause-stops : goal.returns-in_err-count-clause-stops
returns-in_err-count-clause-stops c = query_leaves c.args.self.now c.count.new.self
    (subst (λ (h : History). Made Query c.args.self.now.log h) (sym c.in_err-count.ensures.log) (done_made Query _ _ c.in_ok-make.ensures.done))

pub returns-clause-bytes : goal.returns-clause-bytes
returns-clause-bytes c = subst (λ (file : List ℕ). Reads c.args.at (length c.copied-count.new.into) c.copied-count.result c.copied-count.new.into file) (c.file.ensures
    ∙ query_stays c.args.self.now c.make.new.self (done_made Query _ _ c.in_ok-make.ensures.done) c.args.f) c.copied-count.ensures.bytes

pub returns-clause-same : goal.returns-clause-same
returns-clause-same c = ap Some (files_stay Query query_is_quiet c.args.self.now c.count.new.self
    (subst (λ (h : History). Made Query c.args.self.now.log h) (sym c.in_ok-count.ensures.log) (done_made Query _ _ c.in_ok-make.ensures.done)))

pub returns-clause-stops : goal.returns-clause-stops
returns-clause-stops c = query_leaves c.args.self.now c.count.new.self (subst (λ (h : History). Made Query c.args.self.now.log h) (sym c.in_ok-count.ensures.log)
    (done_made Query _ _ c.in_ok-make.ensures.done))
