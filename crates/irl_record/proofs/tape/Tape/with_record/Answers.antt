use Rattle.std.proofs.Common.{◌≡◌, ◌∙◌, ℕ, List, ◌++◌, ◌∷◌, [], length, sym, ap, rules}
use Rattle.irl_record.specs.declared.record.Record.{Record}
use Rattle.irl_record.specs.Taped.{Records}
use Rattle.irl_record.specs.Index.{Enters, place_of}
use Rattle.irl_record.proofs.IndexLemmas.{index_more}
use Rattle.irl_record.proofs.tape.Tape.with_record.Goals as goal

pub invariant_of-tape : goal.invariant_of-tape
invariant_of-tape c =
    let inside = c.tape.inside in
    let records = inside.records.items in
    let last : List ℕ × Record = (c.args.web, c.args.entry) in
    let entered : Enters c.args.web (length c.tape.inside.records.items) c.tape.inside.index.entries c.enter.new.index.entries = search rules in
    let pushed : c.push.new.self.items ≡ c.tape.inside.records.items ++ (c.args.web, c.args.entry) ∷ [] = search rules in (
      c.tape.invariant.0,
      λ url. index_more inside.index.entries c.enter.new.index.entries records last c.tape.invariant.1 entered url ∙ ap (λ (r : Records). place_of r url) (sym pushed),
    )
