use Rattle.irl_log.proofs.Behind.{done_cut}
use Rattle.irl_log.proofs.codec.reading.split_done.Goals as goal

pub returns-in_err-outcome_of-clause-none : goal.returns-in_err-outcome_of-clause-none
returns-in_err-outcome_of-clause-none c =
    rw c.from_residual-in_err-outcome_of.ensures (λ done behind is bytes.
    let number = c.in_ok-number.ensures.found in
    let detail = c.in_ok-detail.ensures.found in
    let cut = done_cut c.args.bytes.now c.in_ok-number.number c.in_ok-number.rest.now c.in_ok-kind.kind.now c.in_ok-kind.rest.now c.in_ok-detail.detail c.in_ok-detail.rest.now behind done is number.1
    detail.1 number.0 c.in_ok-kind.ensures.cases.0 detail.0 bytes in
    c.in_err-outcome_of.ensures.none done.1 is.outcome cut.0 cut.1)
