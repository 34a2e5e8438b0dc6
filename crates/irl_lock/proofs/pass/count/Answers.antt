use Rattle.std.proofs.Common.{rules, ◌∙◌, ap}
use Rattle.std.proofs.Math.Nat.{mod-eq_of_lt}
use Rattle.atomic_table.specs.Table.{rest}
use Rattle.irl_lock.proofs.CountSteps.{counted_told, counts_at, on_later}
use Rattle.irl_lock.proofs.pass.count.Goals as goal

pub fetch_add-requires : goal.fetch_add-requires
fetch_add-requires g c = (
  search rules,
  search rules,
  counts_at (λ s. g.met.S.Store.is_consistent s) _ _ _ c.args.b c.args.offer.now _ c.args.bin.now (rest c.args.token.now.me.0.turns) _ _ _ (search rules) c.requires.says.0 c.requires.says.1
      c.requires.turn (search rules) (search rules) (search rules) (search rules) c.requires.number c.requires.taken,
)

pub returns-clause-own : goal.returns-clause-own
returns-clause-own g c =
    let told = counted_told c.args.b _ c.args.offer.now _ _ _ _ _ _ c.requires.says.0 c.requires.says.1 c.fetch_add.ensures.2 c.requires.turn in
    on_later _ _ _ _ _ _ c.requires.own c.fetch_add.ensures.0 (ap (λ m. m.0.opening) told.1) (ap (λ m. m.0.known.parts) told.1)

pub returns-clause-number : goal.returns-clause-number
returns-clause-number g c =
    (counted_told c.args.b _ c.args.offer.now _ _ _ _ _ _ c.requires.says.0 c.requires.says.1 c.fetch_add.ensures.2 c.requires.turn).0 ∙ mod-eq_of_lt c.requires.number

pub returns-clause-counted : goal.returns-clause-counted
returns-clause-counted g c = (counted_told c.args.b _ c.args.offer.now _ _ _ _ _ _ c.requires.says.0 c.requires.says.1 c.fetch_add.ensures.2 c.requires.turn).1
