use Rattle.irl_bay.proofs.Apart.{stands_apart, long_apart}
use Rattle.irl_bay.proofs.laws.other_files_are_free.Goals as goal

pub returns-clause-stands : goal.returns-clause-stands
returns-clause-stands c = stands_apart

pub returns-clause-long : goal.returns-clause-long
returns-clause-long c = long_apart
