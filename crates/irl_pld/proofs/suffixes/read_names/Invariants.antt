use Rattle.std.proofs.Common.{option_copied}
use Rattle.irl_pld.specs.Cut.{parts_left}
use Rattle.irl_pld.proofs.ReadLemmas.{ReadsOn}
use Rattle.irl_pld.proofs.suffixes.read_names.Given as goal

abbrev pub invariant-loop-line : goal.invariant-loop-line
invariant-loop-line l =
    ReadsOn l.names l.text l.number (parts_left l.line-iterator.separator (option_copied l.line-iterator.left))
