-- The text is that of each reading, since there is only one.
use Rattle.std.proofs.Common.{◌≡◌, List, slice_range, ◌∙◌}
use Rattle.std.proofs.lemmas.Result.{IfOk-weaker}
use Rattle.irl_scan.specs.Text.{Item, Reads, text_of}
use Rattle.irl_scan.specs.Reading.{HasText}
use Rattle.irl_scan.proofs.References.{one_text}
use Rattle.irl_scan.proofs.reference.text.Goals as goal

pub returns-clause-only : goal.returns-clause-only
returns-clause-only c =
    let value = slice_range c.args.page.now c.args.span.now.start c.args.span.now.end in
    IfOk-weaker c.read_text.result (HasText value) (λ text. (items : List Item) → Reads value items → text ≡ text_of items)
    (λ text has items reads. has.text_is ∙ one_text value has.items items has.reads reads) c.read_text.ensures
