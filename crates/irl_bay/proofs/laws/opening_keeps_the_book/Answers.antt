use Rattle.irl_bay.proofs.Apart.{stands_opened}
use Rattle.irl_bay.proofs.laws.opening_keeps_the_book.Goals as goal

pub returns : goal.returns
returns c = stands_opened
