use Rattle.std.proofs.Common.{◌∙◌, refl}
use Rattle.irl_disk.proofs.Pieces.{file_resized}
use Rattle.irl_disk.proofs.sure.resize.Goals as goal

pub returns-clause-files : goal.returns-clause-files
returns-clause-files c =
    file_resized c.args.lengths.now c.args.f c.args.bytes.now c.args.to c.copy_within.new.self c.requires.file c.requires.fits c.requires.room
    (c.copy_within.ensures.after ∙ rw (c.start_of-start.ensures, c.total-used.ensures) refl)
