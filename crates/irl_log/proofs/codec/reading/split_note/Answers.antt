use Rattle.std.proofs.Common.{◌≡◌, ◌∙◌, true, false, not, [], length, sym, ap, arith, eq-eqb}
use Rattle.std.proofs.lemmas.Bool.{eqb-true}
use Rattle.irl_log.proofs.Behind.{note_cut, state_facts}
use Rattle.irl_log.proofs.codec.reading.split_note.Goals as goal
use Rattle.irl_log.proofs.codec.reading.split_note.Goals.{then-is_empty-via-then-is_empty, then-is_empty-via-else-is_empty+then-host-gt-MAX_TEXT}
use Rattle.irl_log.proofs.codec.reading.split_note.Goals.{then-is_empty-via-else-is_empty+else-host-gt-MAX_TEXT+then-text-gt-MAX_ROBOTS}
use Rattle.irl_log.proofs.codec.reading.split_note.Goals.{then-state-gt2-via-then-state-gt2, then-state-gt2-via-else-state-gt2+then-not-is_empty}
use Rattle.irl_log.proofs.codec.reading.split_note.Goals.{then-state-ne0, else-state-ne0}

pub returns-then-is_empty-clause-none : goal.returns-then-is_empty-clause-none
returns-then-is_empty-clause-none c = λ note is bytes.
    let split = rw c.from.ensures at c.in_ok-host.ensures.cases in
    let cut = note_cut c.args.bytes.now c.in_ok-when.when c.in_ok-when.rest.now c.in_ok-state.state.now c.in_ok-state.rest.now c.in_ok-len.len c.in_ok-len.rest.now c.in_ok-host.host.now
    c.in_ok-host.text.now note is c.in_ok-len.ensures.found.1 c.in_ok-when.ensures.found.0 c.in_ok-state.ensures.cases.0 c.in_ok-len.ensures.found.0 split bytes in
    elim c.then-is_empty.branch [
      | then-is_empty-via-then-is_empty w ↦
          omega (arith, is.host, ap length cut.1, eqb-true (length c.in_ok-host.host.now) 0 (sym c.is_empty.ensures ∙ w.if-is_empty.true))
      | then-is_empty-via-else-is_empty+then-host-gt-MAX_TEXT w ↦ omega (arith, is.host_limit, ap length cut.1, w.if-host-gt-MAX_TEXT.true)
      | then-is_empty-via-else-is_empty+else-host-gt-MAX_TEXT+then-text-gt-MAX_ROBOTS w ↦ omega (arith, is.text_limit, ap length cut.2, w.if-text-gt-MAX_ROBOTS.true)
    ]

pub returns-then-state-gt2-clause-none : goal.returns-then-state-gt2-clause-none
returns-then-state-gt2-clause-none c = λ note is bytes.
    let split = rw c.from.ensures at c.in_ok-host.ensures.cases in
    let cut = note_cut c.args.bytes.now c.in_ok-when.when c.in_ok-when.rest.now c.in_ok-state.state.now c.in_ok-state.rest.now c.in_ok-len.len c.in_ok-len.rest.now c.in_ok-host.host.now
    c.in_ok-host.text.now note is c.in_ok-len.ensures.found.1 c.in_ok-when.ensures.found.0 c.in_ok-state.ensures.cases.0 c.in_ok-len.ensures.found.0 split bytes in
    let known = state_facts note.state in
    elim c.then-state-gt2.branch [
      | then-state-gt2-via-then-state-gt2 w ↦ omega (arith, known.0, cut.0, w.if-state-gt2.true)
      | then-state-gt2-via-else-state-gt2+then-not-is_empty w ↦ elim w.if-state-ne0.branch [
        | then-state-ne0 u ↦
            let empty : c.in_ok-host.text.now ≡ [] = cut.2 ∙ known.1 (omega (arith, cut.0, u.if-state-ne0.true)) in
            let clash : true ≡ false =
            sym w.if-not-is_empty.true ∙ u.value-is ∙ ap not (u.is_empty-then-state-ne0.ensures ∙ eq-eqb (length c.in_ok-host.text.now) 0 (ap length empty)) in
            cc
        | else-state-ne0 u ↦
            let clash : true ≡ false = sym w.if-not-is_empty.true ∙ u.value-is ∙ ap not (eq-eqb c.in_ok-state.state.now 0 u.if-state-ne0.false) in
            cc
      ]
    ]
