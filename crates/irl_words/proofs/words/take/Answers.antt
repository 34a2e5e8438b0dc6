use Rattle.std.proofs.Common.{◌≡◌, true, false}
use Rattle.irl_words.proofs.Taking.{refused, taken}
use Rattle.irl_words.proofs.words.take.Goals as goal

pub returns-in-Ok : goal.returns-in-Ok
returns-in-Ok c =
    taken c.args.name _ c.in_ok-command.field-0 c.in-Ok.matches c.in_ok-command.ensures c.in-Ok.ensures.parsed c.in-Ok.ensures.matches c.in-Ok.ensures.kinds

pub returns : goal.returns
returns c =
    refused c.args.name _ c.in_ok-command.field-0 c.in-Err.error c.in_ok-command.ensures c.in-Err.ensures.kinds
    (λ e. let bad : false ≡ true = rw (c.kind.ensures, e) at c.if-eq.ensures in cc)
