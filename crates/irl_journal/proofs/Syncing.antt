-- A write and the sync behind it.
use Rattle.std.proofs.Common.{◌≡◌, ◌≤◌, ℕ, List, length, Option, None, Some, Result, Ok, Err, OnOk, refl}
use Rattle.std.specs.Option.{ForSome}
use Rattle.irl_disk.specs.Disk.{Files, Changes, ChangesFile, Holds, Scribbled}
use Rattle.irl_disk.proofs.SureCalls.{scribbled_by_write}

pub on_ok : {A E P : Type 0} (r : Result A E) → P → OnOk r P
on_ok (Ok x) p = p
on_ok (Err e) p = tt

-- a whole write is one that leaves any bytes in its range
pub told_scribbled : (f at : ℕ) (bytes : List ℕ) (old new : Option Files) → ForSome old (λ files. at ≤ length (files f)) → Changes f (Holds at bytes) old new
    → Changes f (Scribbled at (length bytes)) old new
told_scribbled f at bytes None new within wrote = wrote
told_scribbled f at bytes (Some old) new within wrote = (wrote.0, wrote.1, scribbled_by_write f at bytes old wrote.0 (within old refl) wrote.2)
