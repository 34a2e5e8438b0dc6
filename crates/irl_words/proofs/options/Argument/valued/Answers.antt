use Rattle.std.proofs.Common.{rules, ◌≡◌, ◌∙◌, ap, Some}
use Rattle.std.specs.Range.{range_inclusive_start, range_inclusive_end}
use Rattle.clap.specs.declared.builder.value_parser.ValueParser.TheVariants.{Unsigned}
use Rattle.irl_words.proofs.Tables.{ranged}
use Rattle.irl_words.proofs.options.Argument.valued.Goals as goal

pub returns-in-Number-clause-rule : goal.returns-in-Number-clause-rule
returns-in-Number-clause-rule c =
    let small = rw c.in-Number.is at c.requires in
    let parser = ranged c.value_parser.result c.range.result (range_inclusive_start c.new-in-Number.result) (range_inclusive_end c.new-in-Number.result) c.in-Number.least c.in-Number.most
    c.value_parser.ensures c.new-in-Number.ensures.start c.new-in-Number.ensures.end small.0 small.1 c.range.ensures in
    let given = c.value_parser-in-Number.ensures.given in
    let is : c.value_parser-in-Number.result.value_parser ≡ Some (Unsigned c.in-Number.least c.in-Number.most) = given.1 ∙ ap (λ p. Some p) (given.2 ∙ parser) in
    search rules
