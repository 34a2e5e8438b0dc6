use Rattle.irl_tuple.proofs.FormLemmas.{from_line, to_line}
use Rattle.irl_tuple.proofs.laws.tuple_lines_are_their_forms.Goals as goal

pub returns : goal.returns
returns c = λ line offer. (to_line line offer, from_line line offer)
