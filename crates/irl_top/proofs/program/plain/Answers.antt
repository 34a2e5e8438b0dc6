use Rattle.std.proofs.Common.{◌∙◌, inr, refl, sym}
use Rattle.irl_top.proofs.Deciding.{accepted, says_of}
use Rattle.irl_top.proofs.program.plain.Goals as goal

pub returns-clause-obeys : goal.returns-clause-obeys
returns-clause-obeys g c = record {
  ending = c.carry_out-ending.result.0;
  status_is = c.status.ensures;
  does = c.carry_out-ending.ensures;
  ports = tt;
  offline = inr refl;
  says = says_of c.tell.result _ _ _ c.tell.ensures.ok c.tell.ensures.err c.tell.ensures.cause;
}

pub returns-clause-accepted : goal.returns-clause-accepted
returns-clause-accepted g c = λ is. accepted c.args.command.now _ _ _ _ c.carry_out-ending.result.0 c.carry_out-ending.ensures c.requires.range c.requires.plain (sym c.status.ensures ∙ is)
