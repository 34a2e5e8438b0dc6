use Rattle.std.proofs.Common.{◌∙◌, Option, sym, subst, arith}
use Rattle.irl_offer.specs.declared.receipt.Pair.{Pair}
use Rattle.irl_merge.specs.Pairs.{HasGiven, IsUpTo}
use Rattle.irl_merge.proofs.Keys.{made_none, made_here, made_above, get_at}
use Rattle.irl_merge.proofs.last.last_value.Goals as goal

pub returns-in-Some : goal.returns-in-Some
returns-in-Some c = λ keys given made up.
    let has = subst (HasGiven keys given) c.in-Some.is made in
    sym (get_at keys c.in-Some.pair.key c.args.key c.if-pair-key.true ∙ made_here keys given c.in-Some.pair has)

pub returns-in_default : goal.returns-in_default
returns-in_default c = λ keys given made up.
    let has = subst (HasGiven keys given) c.in-Some.is made in
    let most = subst (λ (h : Option Pair). IsUpTo h c.args.key) c.in-Some.is up in
    sym (made_above keys given c.in-Some.pair c.args.key has (omega arith))

pub returns-in_default-2 : goal.returns-in_default-2
returns-in_default-2 c = λ keys given made up. sym (made_none keys given c.args.key (subst (HasGiven keys given) c.in_default.is made))
