-- The write, and the sync behind it, which changes nothing more.
use Rattle.std.proofs.Common.{◌≡◌, ◌≤◌, List, ℕ, length, sym, subst, rules}
use Rattle.std.specs.Option.{ForSome}
use Rattle.irl_disk.specs.Disk.{Changes, ChangesFile, Holds, Scribbled}
use Rattle.irl_disk.proofs.Stretches.{reads_on}
use Rattle.irl_journal.proofs.Syncing.{on_ok, told_scribbled}
use Rattle.irl_journal.proofs.synced.write_synced.Goals as goal

pub returns : goal.returns
returns g c =
    let f = c.args.f in
    let tells = g.S.Store.told in
    let wrote = c.in_ok-write.ensures.ok in
    record {
      within = on_ok c.sync.result c.in_ok-write.ensures.within;
      holds = on_ok c.sync.result (rw c.sync.ensures.same wrote);
      durable = rw c.sync.ensures.same c.sync.ensures.durable;
      changes = record {
        told = rw c.sync.ensures.same (told_scribbled f c.args.at c.args.bytes.now _ _ c.requires.place wrote);
        stops = reads_on (tells c.args.store.now) (tells c.write.new.self) (tells c.sync.new.self) _ (g.met.S.Store.is_consistent c.write.new.self) c.write.ensures.stops c.sync.ensures.stops;
        taken = search rules;
        cause = search rules;
      };
    }
