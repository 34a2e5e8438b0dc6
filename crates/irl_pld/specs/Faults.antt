-- Why a suffix text is refused.
use Rattle.std.specs.Prelude.{◌≡◌, ℕ, List, Some, ⊤}
use Rattle.irl_pld.specs.declared.suffixes.SuffixFault.{SuffixFault}
use Rattle.irl_pld.specs.declared.suffixes.SuffixFault.TheVariants.{BadLine, Memory}
use Rattle.irl_pld.specs.Names.{bad_line}

-- line n is the first that is no name; want of memory may come at any time
abbrev pub IsCause : List ℕ → SuffixFault → Type 0
IsCause text (BadLine n) = bad_line text ≡ Some n
IsCause text Memory = ⊤
