-- The write is behind the front, so whatever it leaves keeps the front; and once it is synced, each image has the bytes.
use Rattle.std.proofs.Common.{◌≡◌, ◌≤◌, length, length-append, refl, sym, subst, arith, rules}
use Rattle.std.specs.Option.{ForSome}
use Rattle.irl_disk.proofs.Effects.{changes_for}
use Rattle.irl_journal.specs.Blob.{Front}
use Rattle.irl_journal.proofs.Fronts.{all_grow}
use Rattle.irl_journal.proofs.Growing.{keeps_synced}
use Rattle.irl_journal.proofs.blob.Blob.append.Goals as goal

pub write_synced-requires-clause-place : goal.write_synced-requires-clause-place
write_synced-requires-clause-place g c =
    subst (λ (blob : Front). ForSome (g.S.Store.told c.args.store.now).files (λ files. blob.length ≤ length (files blob.file))) (sym c.self.view_is) c.requires

-- it was refused
pub returns-in_err-write_synced-clause-changes : goal.returns-in_err-write_synced-clause-changes
returns-in_err-write_synced-clause-changes g c =
    let n = c.self.inside.length in
    rw (← c.self.view_is) (
    changes_for _ _ _ _ _ (λ e. search rules)
    (keeps_synced c.self.inside.file n n _ _ (g.S.Store.told c.args.store.now) (g.S.Store.told c.write_synced.new.store) (omega arith) c.write_synced.ensures.changes))

-- it is done
pub returns-clause-changes : goal.returns-clause-changes
returns-clause-changes g c =
    let n = c.self.inside.length in
    rw (← c.self.view_is) (
    changes_for _ _ _ _ _ (λ e. cc)
    (keeps_synced c.self.inside.file n n _ _ (g.S.Store.told c.args.store.now) (g.S.Store.told c.write_synced.new.store) (omega arith) c.write_synced.ensures.changes))

-- and then the bytes are on the disk
pub returns-clause-committed : goal.returns-clause-committed
returns-clause-committed g c = rw (← c.self.view_is) (λ held committed.
    let tells = g.S.Store.told in
    let law = g.met.S.Store.is_consistent in
    record {
      size = omega (arith, committed.size, length-append held c.args.bytes.now);
      each = all_grow c.self.inside.file c.self.inside.length held c.args.bytes.now (tells c.args.store.now) (tells c.write_synced.new.store) (tells c.write_synced.new.store) (law c.args.store.now)
          (law c.write_synced.new.store) committed.size committed.each c.in_ok-write_synced.ensures.holds refl c.in_ok-write_synced.ensures.durable;
    })
