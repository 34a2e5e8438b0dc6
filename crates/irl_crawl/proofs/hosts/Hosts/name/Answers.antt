use Rattle.std.proofs.Common.{◌∙◌, refl, sym, ap}
use Rattle.std.specs.BTreeMap.{insert_entry, is_at}
use Rattle.std.specs.Map.{lookup}
use Rattle.std.specs.Option.{option_map}
use Rattle.std.specs.Cmp.Lexicographic.{slice_cmp}
use Rattle.std.specs.Ordering.{nat_cmp}
use Rattle.irl_base.proofs.TextMaps.{vec_cmp}
use Rattle.irl_crawl.specs.declared.hosts.Named.{Named}
use Rattle.irl_crawl.proofs.Numbering.{entered, written}
use Rattle.irl_crawl.proofs.hosts.Hosts.name.Goals as goal

pub returns-in-Some-clause-kept : goal.returns-in-Some-clause-kept
returns-in-Some-clause-kept c = λ name n is.
    let old = c.in-Some.named.now in
    let new : Named = record { number = old.number; turn = c.args.self.now.turn } in
    ap (λ es. option_map (λ (m : Named). m.number) (lookup (is_at (λ k. slice_cmp nat_cmp name k.items)) es)) (c.get_mut.follows.holds new).0
    ∙ written (is_at (λ k. slice_cmp nat_cmp c.args.host.now k.items)) (is_at (λ k. slice_cmp nat_cmp name k.items)) old new refl c.args.self.now.named.entries (sym c.in-Some.ensures.value)
    ∙ is

pub returns-clause-kept : goal.returns-clause-kept
returns-clause-kept c = λ name n is.
    let key = c.in_ok-to_vec.field-0 in
    let named : Named = record { number = c.len-number.result; turn = c.args.self.now.turn } in
    entered c.args.self.now.named.entries c.insert.new.self.entries key c.args.host.now named name n (c.in_ok-to_vec.ensures.items_if_clones_equal (λ x y same. same))
    (c.in_ok-insert.ensures.entries ∙ ap (λ m. insert_entry vec_cmp m.entries key named) c.get_mut.follows.holds-at-none) (sym c.in_default.ensures.value) is
