use Rattle.std.proofs.Common.{option_copied}
use Rattle.irl_key.proofs.LinkLemmas.{value_of_result, cause_of_result, own_of_result, again_of_result}
use Rattle.irl_key.proofs.canon.canonical.Goals as goal

pub returns-clause-value : goal.returns-clause-value
returns-clause-value c = value_of_result c.sort.result (option_copied c.args.base) c.args.text.now c.in_ok-link.link c.in_ok-link.ensures c.sort.ensures.value

pub returns-clause-cause : goal.returns-clause-cause
returns-clause-cause c = cause_of_result c.sort.result (option_copied c.args.base) c.args.text.now c.in_ok-link.link c.in_ok-link.ensures c.sort.ensures.value

pub returns-clause-again : goal.returns-clause-again
returns-clause-again c =
    again_of_result c.sort.result (option_copied c.args.base) c.args.text.now c.in_ok-link.link c.in_ok-link.ensures c.sort.ensures.value c.sort.ensures.found

pub returns-clause-own : goal.returns-clause-own
returns-clause-own c = own_of_result c.sort.result (option_copied c.args.base) c.args.text.now c.in_ok-link.link c.in_ok-link.ensures c.sort.ensures.value
