use Rattle.irl_journal.proofs.Growing.{put_none}
use Rattle.irl_journal.proofs.file_writer.FileWriter.with_room.Goals as goal

pub returns-clause-put : goal.returns-clause-put
returns-clause-put c = λ told long. put_none c.args.f c.args.length told long
