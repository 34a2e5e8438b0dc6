use Rattle.std.proofs.Common.{◌≡◌, ◌∙◌, arith, sym, ap, length, true, rules}
use Rattle.irl_pld.specs.Names.{is_name}
use Rattle.irl_record.specs.Names.{joined}
use Rattle.irl_record.proofs.NameLemmas.{names_more}
use Rattle.irl_record.proofs.names.Names.add.Goals as goal

pub invariant_of-result : goal.invariant_of-result
invariant_of-result c =
    let same : c.in_ok-to_vec.field-0.items ≡ c.args.name.now = search rules in
    let name : is_name c.args.name.now ≡ true = sym c.if-not-is_name.ensures in
    let longer : c.from_vec-text.result ≡ joined c.self.inside.text c.args.name.now = c.from_vec-text.ensures ∙ c.in_ok-text.ensures ∙ ap (λ t. joined t c.args.name.now) c.into_vec.ensures in
    let size = ap length c.from_vec-text.ensures in
    record {
      good = names_more c.self.inside.names c.insert.new.self c.in_ok-to_vec.field-0 c.self.inside.text c.args.name.now c.from_vec-text.result c.self.invariant.good name same
          c.in_ok-insert.ensures.keys longer;
      short = omega arith;
    }
