use Rattle.irl_disk.proofs.Torn.{write_shows_torn}
use Rattle.irl_disk.specs.Calls.{files_of}
use Rattle.irl_disk.proofs.changes.tear_next.Goals as goal

pub returns-in_ok-new-in-Write : goal.returns-in_ok-new-in-Write
returns-in_ok-new-in-Write c =
    write_shows_torn c.replace.result c.args.entry.now c.in-Write.file c.in-Write.at c.in-Write.bytes c.in_ok-new-in-Write.new (files_of c.args.now.now) (files_of c.args.shown.now)
    (files_of c.replace.new.files)
    c.in-Write.is (rw (c.bytes_in-old.ensures, c.deref.ensures.value) at c.in_ok-new-in-Write.ensures) c.replace.ensures.ok
