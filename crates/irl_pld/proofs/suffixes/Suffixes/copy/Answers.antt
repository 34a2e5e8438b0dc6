use Rattle.irl_pld.proofs.SetLemmas.{names_from_clone}
use Rattle.irl_pld.proofs.suffixes.Suffixes.copy.Goals as goal

pub invariant_of-result : goal.invariant_of-result
invariant_of-result c =
    names_from_clone c.self.inside.names c.in_ok-names.names c.self.inside.text c.in_ok-text.text c.self.invariant c.in_ok-names.ensures.cases c.in_ok-text.ensures
