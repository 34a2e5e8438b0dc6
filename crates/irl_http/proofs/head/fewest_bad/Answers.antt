-- The bytes so far may become a head while they are none.
use Rattle.std.proofs.Common.{◌+◌, ◌-◌, ◌/◌, sym, subst, length, arith}
use Rattle.std.proofs.lemmas.List.{take_all}
use Rattle.httparse.specs.Grammar.{NeverHasResponse}
use Rattle.irl_http.proofs.HeadLemmas.{empty_may, some_bad, cut_take}
use Rattle.irl_http.proofs.head.fewest_bad.Goals as goal

pub loop-bad-init : goal.loop-bad-init
loop-bad-init c =
    let front = c.args.front.now in
    record {
      ordered = some_bad front c.requires.bad;
      within = omega arith;
      bad = subst NeverHasResponse (sym (take_all (length front) front (omega arith))) c.requires.bad;
      good = empty_may;
    }

pub is_bad-requires : goal.is_bad-requires
is_bad-requires c = cut_take c.args.front.now (c.loop-bad.good + (c.loop-bad.bad - c.loop-bad.good) / 2) c.requires.cut (omega arith)
