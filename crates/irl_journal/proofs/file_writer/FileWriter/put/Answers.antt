-- The bytes are gathered, or put by `put_past` from what a refused gathering leaves.
use Rattle.std.proofs.Common.{◌≡◌, refl, subst}
use Rattle.irl_journal.specs.Growing.{Writer, Puts}
use Rattle.irl_journal.proofs.file_writer.FileWriter.put.Goals as goal

pub returns : goal.returns
returns g c =
    let tells = g.S.Store.told in
    let first : c.gather.new.self ≡ c.args.self.now = c.if-gather.ensures.same refl in
    subst (λ (w : Writer). Puts c.put_past.result c.args.more.now w c.put_past.new.self (tells c.args.store.now) (tells c.put_past.new.store)) first c.put_past.ensures
