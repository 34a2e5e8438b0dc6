use Rattle.std.proofs.Common.{◌≡◌, ◌≤◌, ℕ, List, Vec, ap, arith, length, refl, subst}
use Rattle.irl_disk.specs.declared.calls.Call.TheVariants.{Write}
use Rattle.std.specs.declared.alloc.Global.{Global}
use Rattle.irl_disk.proofs.Steps.{made, on_ok_at, not_done_stays, refused_leaves, scribbled_images, scribbled_none, tells_change, write_holds, write_leaves, write_logged}
use Rattle.std.proofs.lemmas.Result.{on_ok_weaker, on_err_weaker}
use Rattle.irl_disk.specs.Disk.{ChangesFile, Holds, Scribbled}
use Rattle.irl_disk.specs.Images.{Follows, LeavesBy}
use Rattle.irl_disk.specs.Memory.{files_in, told_by}
use Rattle.irl_disk.proofs.memory.MemStoreStore.write.Goals as goal

pub returns-in-Ok-clause-within : goal.returns-in-Ok-clause-within
returns-in-Ok-clause-within c =
    let place : c.args.at ≤ length (files_in c.args.self.now c.args.f) = c.requires.place _ refl in
    let same : c.in-Ok.bytes.items ≡ c.args.bytes.now = c.in-Ok.ensures.items_if_clones_equal (λ x y e. e) in
    rw (← same) (on_ok_weaker c.make.result (λ within. omega (arith, within)) c.make.ensures.within)

pub returns-in-Ok-clause-ok : goal.returns-in-Ok-clause-ok
returns-in-Ok-clause-ok c =
    let same : c.in-Ok.bytes.items ≡ c.args.bytes.now = c.in-Ok.ensures.items_if_clones_equal (λ x y e. e) in
    on_ok_weaker c.make.result
    (λ logs. tells_change c.args.self.now c.make.new.self c.args.f (Holds c.args.at c.args.bytes.now)
    (subst (λ (bytes : List ℕ). ChangesFile c.args.f (Holds c.args.at bytes) (files_in c.args.self.now) (files_in c.make.new.self)) same
    (write_holds c.args.f c.args.at c.in-Ok.bytes c.args.self.now c.make.new.self (c.requires.place _ refl) logs)))
    c.make.ensures.done

pub returns-in-Ok-clause-err : goal.returns-in-Ok-clause-err
returns-in-Ok-clause-err c = on_err_weaker c.make.result
    (λ failed. tells_change c.args.self.now c.make.new.self c.args.f (Scribbled c.args.at (length c.args.bytes.now))
    (scribbled_none c.args.at (length c.args.bytes.now) c.args.f _ _ (not_done_stays (Write c.args.f c.args.at c.in-Ok.bytes) c.args.self.now c.make.new.self failed)))
    c.make.ensures.failed

pub returns-in-Ok-clause-stops : goal.returns-in-Ok-clause-stops
returns-in-Ok-clause-stops c =
    let same : c.in-Ok.bytes.items ≡ c.args.bytes.now = c.in-Ok.ensures.items_if_clones_equal (λ x y e. e) in
    let was = made c.make.result (Write c.args.f c.args.at c.in-Ok.bytes) _ _ c.make.ensures.done c.make.ensures.failed in
    subst (λ (bytes : List ℕ). LeavesBy (ChangesFile c.args.f (Scribbled c.args.at (length bytes))) (told_by c.args.self.now) (told_by c.make.new.self)) same
    (write_leaves c.args.f c.args.at c.in-Ok.bytes c.args.self.now c.make.new.self (c.requires.place _ refl) was)

pub returns-in-Err-clause-stops : goal.returns-in-Err-clause-stops
returns-in-Err-clause-stops c = refused_leaves c.args.self.now c.fault.new.self (Follows (ChangesFile c.args.f (Scribbled c.args.at (length c.args.bytes.now))) ((told_by c.args.self.now).images))
    c.fault.ensures.log
    (scribbled_images c.args.at (length c.args.bytes.now) c.args.f ((told_by c.args.self.now).images))

pub returns-in-Ok-clause-logs : goal.returns-in-Ok-clause-logs
returns-in-Ok-clause-logs c =
    let same : c.in-Ok.bytes.items ≡ c.args.bytes.now = c.in-Ok.ensures.items_if_clones_equal (λ x y e. e) in
    record {
      log = write_logged c.args.f c.args.at c.in-Ok.bytes c.args.bytes.now c.make.result c.args.self.now.log c.make.new.self.log same c.make.ensures.done c.make.ensures.failed;
      faults = c.make.ensures.faults;
      listed = on_ok_at c.make.result c.make.ensures.listed;
      failing = ap (λ (v : Vec ℕ Global). v.items) c.make.ensures.failing;
    }
