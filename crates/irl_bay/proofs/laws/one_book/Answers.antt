use Rattle.irl_bay.proofs.OneBook.{one_book}
use Rattle.irl_bay.proofs.laws.one_book.Goals as goal

pub returns : goal.returns
returns c = one_book
