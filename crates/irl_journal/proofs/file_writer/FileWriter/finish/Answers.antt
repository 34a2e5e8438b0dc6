-- What waits is written and synced behind what was, and whatever a stop leaves, what stays is before it.
use Rattle.std.proofs.Common.{◌≡◌, ℕ, ◌+◌, ◌≤◌, List, Ok, length, take, length-take-le, sym, subst, ap, arith, rules}
use Rattle.std.specs.Option.{ForSome}
use Rattle.irl_disk.specs.declared.store.Failed.{Failed}
use Rattle.irl_disk.specs.Disk.{Scribbled}
use Rattle.irl_disk.proofs.Effects.{changes_for}
use Rattle.irl_journal.specs.Growing.{Writer, Finishes, ReachesPlace}
use Rattle.irl_journal.specs.Synced.{WritesSynced}
use Rattle.irl_journal.proofs.Growing.{finishes, keeps_synced}
use Rattle.irl_journal.proofs.file_writer.FileWriter.finish.Goals as goal

pub write_synced-requires-clause-place : goal.write_synced-requires-clause-place
write_synced-requires-clause-place g c =
    subst (λ (v : Writer). ForSome (g.S.Store.told c.args.store.now).files (λ files. v.place ≤ length (files v.file))) (sym c.self.view_is) c.requires

pub returns-in_err-write_synced : goal.returns-in_err-write_synced
returns-in_err-write_synced g c = record {
  committed = search rules;
  put = search rules;
  durable = search rules;
  length = search rules;
  bound = search rules;
  long = search rules;
  rest = search rules;
  changes = rw (← c.self.view_is) (
      changes_for _ _ _ _ _ (λ e. search rules) (
      keeps_synced c.self.inside.file c.self.inside.kept c.self.inside.place _ _ (g.S.Store.told c.args.store.now) (g.S.Store.told c.write_synced.new.store)
      (omega (arith, c.self.invariant.1)) c.write_synced.ensures.changes));
}

pub returns : goal.returns
returns g c =
    let s = c.self.inside in
    let tells = g.S.Store.told in
    let law = g.met.S.Store.is_consistent in
    let old = tells c.args.store.now in
    let new = tells c.write_synced.new.store in
    let w : Writer = record { file = s.file; kept = s.kept; place = s.place; waiting = take s.count s.buffer.items } in
    let size : s.place + length w.waiting ≡ s.place + s.count =
    ap (λ (n : ℕ). s.place + n) (length-take-le s.count s.buffer.items (omega (arith, c.self.invariant.3, c.deref.ensures.len))) in
    let wrote = subst (λ (items : List ℕ). WritesSynced {A = Unit {0}} {E = Failed} (Ok tt) s.file s.place (take s.count items) (Scribbled s.place (length (take s.count items))) old new)
    c.deref.ensures.value c.in_ok-write_synced.ensures in
    let long = subst (λ (v : Writer). ForSome old.files (ReachesPlace v)) (sym c.self.view_is) c.requires in
    rw (← c.self.view_is) (
    subst (λ (n : ℕ). Finishes {E = Failed} (Ok n) w old new) size
    (finishes w old new (law c.args.store.now) (law c.write_synced.new.store) (omega (arith, c.self.invariant.1)) long wrote))
