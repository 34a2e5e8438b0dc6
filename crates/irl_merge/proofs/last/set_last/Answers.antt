use Rattle.std.proofs.Common.{List, ◌++◌, Option, Some, subst, arith}
use Rattle.std.specs.FinMap.{insert}
use Rattle.irl_offer.specs.declared.receipt.Pair.{Pair}
use Rattle.irl_merge.specs.Pairs.{HasGiven, IsUpTo}
use Rattle.irl_merge.proofs.Keys.{none_more, one_more, put_first, put_here, put_above}
use Rattle.irl_merge.proofs.last.set_last.Goals as goal

pub returns-in_ok-push-clause-given : goal.returns-in_ok-push-clause-given
returns-in_ok-push-clause-given c = λ keys given more e has up.
    let before : Pair = c.in-Some.before in
    let here = subst (HasGiven keys given) c.in-Some.is has in
    let most = subst (λ (h : Option Pair). IsUpTo h c.args.pair.key) c.in-Some.is up in
    subst (λ (ps : List Pair). HasGiven (insert keys c.args.pair.key c.args.pair.value) (given ++ ps) (Some c.args.pair))
    (one_more c.args.out.now.items c.push.new.self.items more before c.in_ok-push.ensures.items e)
    (put_above keys given before c.args.pair here (omega arith))

pub returns-else-before-pair-clause-given : goal.returns-else-before-pair-clause-given
returns-else-before-pair-clause-given c = λ keys given more e has up.
    subst (λ (ps : List Pair). HasGiven (insert keys c.args.pair.key c.args.pair.value) ps (Some c.args.pair)) (none_more given c.args.out.now.items more e)
    (put_here keys given c.in-Some.before c.args.pair (subst (HasGiven keys given) c.in-Some.is has) (omega arith))

pub returns-in_default-clause-given : goal.returns-in_default-clause-given
returns-in_default-clause-given c = λ keys given more e has up.
    subst (λ (ps : List Pair). HasGiven (insert keys c.args.pair.key c.args.pair.value) ps (Some c.args.pair)) (none_more given c.args.out.now.items more e)
    (put_first keys given c.args.pair (subst (HasGiven keys given) c.in_default.is has))
