use Rattle.std.proofs.Common.{List}
use Rattle.std.specs.List.{AllByRecursion}
use Rattle.irl_offer.specs.declared.note.Note.{Note}
use Rattle.irl_log.specs.Form.{IsNote}
use Rattle.irl_yard.specs.declared.parts.Rest.{Rest}
use Rattle.irl_yard.specs.declared.parts.Rest.TheVariants.{Plain, Crawl}
use Rattle.irl_yard.specs.Adding.{MayNoteAll}
use Rattle.irl_yard.specs.Sending.{HasBegun}
use Rattle.irl_store_tests.proofs.calls.noting.can_note_all.Goals as goal

may_note_all : (rest : Rest) (notes : List Note) → HasBegun rest → AllByRecursion IsNote notes → MayNoteAll rest notes
may_note_all Plain notes begun each = absurd begun
may_note_all (Crawl ledger) notes begun each = (begun, each)

pub returns-clause-notes : goal.returns-clause-notes
returns-clause-notes c = λ is. may_note_all c.args.yard.now.parts.rest c.args.notes.now (c.has_begun.ensures.value.0 is) c.requires
