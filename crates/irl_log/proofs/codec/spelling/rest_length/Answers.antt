use Rattle.std.proofs.Common.{◌≡◌, ◌∙◌, ◌+◌, ◌*◌, length, ap, arith}
use Rattle.irl_events.specs.Seen.{seen}
use Rattle.irl_events.specs.declared.event.Event.{Event}
use Rattle.irl_events.specs.Legal.{text_of}
use Rattle.irl_log.specs.Spelling.{rest_of}
use Rattle.irl_log.proofs.Spellings.{length-note, length-settle}
use Rattle.irl_log.proofs.codec.spelling.rest_length.Goals as goal

pub overflow_add-result-in-Robots : goal.overflow_add-result-in-Robots
overflow_add-result-in-Robots c =
    let note = c.in-Robots.note in
    let long : length (rest_of (seen c.args.event.now)) ≡ 11 + (length note.host + length (text_of note.state)) =
    ap (λ (event : Event). length (rest_of (seen event))) c.in-Robots.is ∙ length-note note in
    let host : length c.bytes-in-Robots.result.now ≡ length note.host = ap length c.bytes-in-Robots.ensures in
    let text : length c.text_of.result.now ≡ length (text_of note.state) = ap length c.text_of.ensures in
    omega (arith, long, host, text, c.requires)

pub returns-in-Settle : goal.returns-in-Settle
returns-in-Settle c =
    let long : length (rest_of (seen c.args.event.now)) ≡ 4 + (8 * length c.in-Settle.fronts + 13 * length c.in-Settle.done) =
    ap (λ (event : Event). length (rest_of (seen event))) c.in-Settle.is ∙ length-settle c.in-Settle.fronts c.in-Settle.done in
    omega (arith, long, ap length c.items.ensures, ap length c.items-in-Settle.ensures)
