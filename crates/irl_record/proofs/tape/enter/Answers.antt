use Rattle.std.proofs.Common.{◌≡◌, true, false, rules}
use Rattle.std.specs.Prelude.{is_some}
use Rattle.irl_record.specs.Index.{found}
use Rattle.irl_record.proofs.IndexLemmas.{has_place, takes_place}
use Rattle.irl_record.proofs.tape.enter.Goals as goal

pub returns-then-contains_key : goal.returns-then-contains_key
returns-then-contains_key c =
    let had : is_some (found c.args.index.now.entries c.args.url.now) ≡ true = search rules in
    has_place c.args.index.now.entries c.args.url.now c.args.place had

pub returns : goal.returns
returns c =
    let none : is_some (found c.args.index.now.entries c.args.url.now) ≡ false = search rules in
    let text : c.in_ok-key.key.items ≡ c.args.url.now = search rules in
    takes_place c.args.index.now.entries c.args.url.now c.args.place none c.in_ok-key.key text c.insert.new.self.entries c.in_ok-insert.ensures.entries
