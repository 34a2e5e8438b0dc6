use Rattle.std.proofs.Common.{◌≡◌, ◌≤◌, ◌+◌, ℕ, List, Result, Ok, Err, refl, sym, ap, subst, arith, length, is_ok, OnOk, get_or, []}
use Rattle.irl_disk.specs.DeviceCall.{Write}
use Rattle.irl_disk.specs.Disk.{Files, Changes, ChangesFile, Holds}
use Rattle.irl_disk.specs.Sure.{Held, SureCall, bytes_held, sure_files, told_surely}
use Rattle.irl_disk.specs.SureLaws.{held_same, held_written}
use Rattle.irl_disk_tests.proofs.sure.put_surely.Goals as goal

no_more : {T E : Type 0} (r : Result T E) (f : ℕ) (bytes : List ℕ) (old new : Held) → OnOk r (Changes f (Holds 0 bytes) (told_surely old).files (told_surely new).files)
    → SureCall (Write f 0 bytes) (is_ok r) old new → bytes_held new ≤ bytes_held old + length bytes
no_more (Ok value) f bytes old new changes call =
    let same : sure_files new ≡ changes.0 = let told = changes.1 in cc in
    omega (arith, held_written f 0 bytes old new (omega arith) (subst (λ (files : Files). ChangesFile f (Holds 0 bytes) (sure_files old) files) (sym same) changes.2))
no_more (Err error) f bytes old new changes call = omega (arith, held_same old new (ap {B = Files} (λ (files : List (List ℕ)). λ (g : ℕ). get_or files g []) (call.kept refl).0))

pub returns-clause-held : goal.returns-clause-held
returns-clause-held c = no_more c.write.result c.args.f c.args.bytes.now c.args.store.now c.write.new.self c.write.ensures.ok c.write.ensures.logs
