use Rattle.std.proofs.Common.{not, nat_eq, rules, tests}
use Rattle.std.proofs.lemmas.Iterator.{YieldsList-from_slice}
use Rattle.std.proofs.lemmas.Iterator.Search.{all_from_yields_List}
use Rattle.irl_offer.specs.Tuple.{Tuple}
use Rattle.irl_events.proofs.links.is_new.Goals as goal

pub returns : goal.returns
returns c =
    all_from_yields_List (λ (pair : Tuple). not (nat_eq c.args.key pair.key)) _ _ c.all.result c.all.ensures.ran (YieldsList-from_slice c.args.earlier.now cc) (λ x b q k. search (rules, tests))
