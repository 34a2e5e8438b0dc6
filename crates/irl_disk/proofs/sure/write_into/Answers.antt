use Rattle.std.proofs.Common.{arith}
use Rattle.irl_disk.specs.Sure.{files_cut}
use Rattle.irl_disk.proofs.Pieces.{file_written_past, piece_long}
use Rattle.irl_disk.proofs.sure.write_into.Goals as goal
use Rattle.irl_disk.proofs.sure.write_into.Goals.{then-new-rest+else-new-rest-2, else-new-rest}

pub returns-clause-ok : goal.returns-clause-ok
returns-clause-ok c =
    let old = files_cut c.args.lengths.now c.args.bytes.now in
    let long = piece_long c.args.lengths.now c.args.bytes.now c.args.f c.requires.fits in
    elim c.if-new-rest.branch [
      | then-new-rest+else-new-rest-2 w ↦ file_written_past c.args.f c.args.at c.args.new.now old (files_cut c.if-new-rest.lengths c.if-new-rest.bytes)
          (files_cut c.if-new-rest.lengths c.overwrite.new.bytes)
          (omega (arith, long, c.requires.place)) (omega (arith, long, w.if-new-rest.true)) (rw (w.bytes-is, w.lengths-is) w.resize.ensures.files) c.overwrite.ensures
      | else-new-rest w ↦ rw (← w.bytes-is, ← w.lengths-is) c.overwrite.ensures
    ]
