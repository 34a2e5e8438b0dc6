use Rattle.irl_log.proofs.Behind.{settle_behind, settle_cut, settle_made}
use Rattle.irl_log.proofs.Runs.{none_else}
use Rattle.irl_log.proofs.codec.reading.read_settle.Goals as goal

pub returns-in_default-2 : goal.returns-in_default-2
returns-in_default-2 c = λ event is.
    let settle = settle_behind c.args.buckets c.args.bytes.now event is in
    c.in_ok-done.ensures.none (none_else c.in_ok-done.field-0 c.in_default-2.not-Some) settle.1 settle.2.done_are
    (settle_cut c.args.buckets c.args.bytes.now c.in-Some.fronts.now c.in-Some.done.now settle.0 settle.1 c.in-Some.ensures.found c.requires settle.2 settle.3)

pub returns : goal.returns
returns c =
    let fronts = c.in_ok-fronts.ensures in
    let done = rw c.in-Some-2.is at c.in_ok-done.ensures.found in
    settle_made c.args.buckets c.args.bytes.now c.in-Some.fronts.now c.in-Some.done.now c.in_ok-fronts.fronts c.in-Some-2.done c.in-Some.ensures.found fronts.0 fronts.1 done.0 done.1
