use Rattle.std.proofs.Common.{◌∙◌, length, sym, arith}
use Rattle.std.proofs.lemmas.Bool.{eqb-false}
use Rattle.irl_log.specs.Form.{IsDone}
use Rattle.irl_log.specs.Spelling.{done_bytes}
use Rattle.irl_log.proofs.Runs.{read_more, dones_behind, no_dones}
use Rattle.irl_log.proofs.codec.reading.read_done.Goals as goal

pub returns-in_default-clause-none : goal.returns-in_default-clause-none
returns-in_default-clause-none c = λ no done all are.
    let rest = c.loop-rest.rest.now in
    no_dones rest (omega (arith, eqb-false (length rest) 0 (sym c.is_empty.ensures ∙ c.loop-rest-test.true))) c.in_default.ensures.none (c.loop-rest.invariant.1 (done, all, are))

pub loop-rest-preserved : goal.loop-rest-preserved
loop-rest-preserved c =
    let one = c.in-Some.ensures.found in (
      rw c.in_ok-push.ensures.ok (read_more done_bytes IsDone c.args.bytes.now c.loop-rest.rest.now c.in-Some.behind.now c.loop-rest.done c.in-Some.one c.loop-rest.invariant.0 one.1 one.0),
      λ all. dones_behind c.loop-rest.rest.now c.in-Some.behind.now c.in-Some.one one.1 (c.loop-rest.invariant.1 all),
    )
