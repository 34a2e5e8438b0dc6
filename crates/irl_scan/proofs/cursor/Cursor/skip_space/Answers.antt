use Rattle.irl_scan.proofs.Searches.{space_run}
use Rattle.irl_scan.proofs.cursor.Cursor.skip_space.Goals as goal

pub returns-clause-rest : goal.returns-clause-rest
returns-clause-rest c = space_run c.args.self.now.rest.now c.trim_ascii_start-self.result.now c.trim_ascii_start-self.ensures.value
