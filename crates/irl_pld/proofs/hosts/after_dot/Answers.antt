use Rattle.std.proofs.Common.{sym, ap, ◌∙◌}
use Rattle.irl_pld.specs.Domains.{tails_left}
use Rattle.irl_pld.proofs.CutLemmas.{tails-cut}
use Rattle.irl_pld.proofs.hosts.after_dot.Goals as goal

pub returns-clause-tails : goal.returns-clause-tails
returns-clause-tails c = tails-cut c.args.bytes.now ∙ ap tails_left (sym c.cut.ensures.rest)
