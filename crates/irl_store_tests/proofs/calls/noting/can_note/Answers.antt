use Rattle.std.proofs.Common.{◌≡◌, true, rules}
use Rattle.irl_offer.specs.declared.note.Note.{Note}
use Rattle.irl_log.specs.Form.{IsNote}
use Rattle.irl_yard.specs.declared.parts.Rest.{Rest}
use Rattle.irl_yard.specs.declared.parts.Rest.TheVariants.{Plain, Crawl}
use Rattle.irl_yard.specs.Adding.{MayNote}
use Rattle.irl_yard.specs.Sending.{HasBegun}
use Rattle.irl_store_tests.proofs.calls.noting.can_note.Goals as goal

may_note : (rest : Rest) (note : Note) → HasBegun rest → IsNote note → MayNote rest note
may_note Plain note begun form = absurd begun
may_note (Crawl ledger) note begun form = (begun, form)

pub returns-clause-notes : goal.returns-clause-notes
returns-clause-notes c = λ is.
    let begun : c.has_begun.result ≡ true = search rules in
    may_note c.args.yard.now.parts.rest c.args.note.now (c.has_begun.ensures.value.0 begun) (c.is_note.ensures is)
