use Rattle.std.proofs.Common.{◌≡◌, ◌≤◌, length, subst, sym, ap, le_refl, Option, Some, None}
use Rattle.irl_disk.specs.Disk.{Files}
use Rattle.irl_disk.specs.Memory.{files_in}
use Rattle.irl_bay_tests.proofs.quiet.Quiet.length_of.Goals as goal

-- the files, where there are some
abbrev files_or : Files → Option Files → Files
files_or other (Some files) = files
files_or other None = other

pub returns-in-Ok-clause-long : goal.returns-in-Ok-clause-long
returns-in-Ok-clause-long c =
    let f = c.args.f in
    let same : files_in c.length.new.self ≡ files_in c.args.self.now.store = ap (files_or (files_in c.args.self.now.store)) c.length.ensures.same in
    subst (λ files. c.in-Ok.length ≤ length (files f)) (sym same)
    (subst (λ most. c.in-Ok.length ≤ most) c.in-Ok.ensures.value (le_refl c.in-Ok.length))
