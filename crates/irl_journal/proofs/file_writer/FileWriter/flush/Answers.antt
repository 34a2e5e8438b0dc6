-- What waited is written behind what was, and whatever the write leaves, what stays is before it.
use Rattle.std.proofs.Common.{◌≡◌, ℕ, ◌+◌, ◌≤◌, List, [], length, take, length-take-le, subst, arith, ap, sym, rules}
use Rattle.std.specs.Option.{ForSome}
use Rattle.irl_disk.specs.Disk.{Changes, Holds}
use Rattle.irl_disk.specs.Images.{Told}
use Rattle.irl_journal.specs.Growing.{Writer, HasPut, KeepsRest, ReachesPlace}
use Rattle.irl_journal.proofs.Growing.{put_flushed, put_torn, long_wrote, keeps_wrote, keeps_torn, stops_wrote, rest_wrote}
use Rattle.irl_journal.proofs.file_writer.FileWriter.flush.Goals as goal

-- the file reaches the place
abbrev within : (w view : Writer) (now : Told) → view ≡ w → ForSome now.files (ReachesPlace w) → ForSome now.files (ReachesPlace view)
within w view now is long = subst (λ (v : Writer). ForSome now.files (ReachesPlace v)) (sym is) long

pub write-requires-clause-place : goal.write-requires-clause-place
write-requires-clause-place g c = within _ _ (g.S.Store.told c.args.store.now) c.self.view_is c.requires

-- the write failed
pub returns-in_err-write-clause-put : goal.returns-in_err-write-clause-put
returns-in_err-write-clause-put g c = rw (← c.self.view_is) (λ bytes put. put_torn _ _ bytes _ _ put c.in_err-write.ensures.err)

pub returns-in_err-write-clause-changes : goal.returns-in_err-write-clause-changes
returns-in_err-write-clause-changes g c =
    rw (← c.self.view_is) (record {
      told = keeps_torn _ _ c.self.inside.place _ _ _ (omega (arith, c.self.invariant.1)) c.in_err-write.ensures.err;
      stops = stops_wrote _ _ c.self.inside.place _ _ _ (omega (arith, c.self.invariant.1)) c.write.ensures.stops;
      taken = search rules;
      cause = search rules;
    })

-- it is done
pub returns-clause-put : goal.returns-clause-put
returns-clause-put g c = rw (← c.self.view_is) (λ bytes put.
    let s = c.self.inside in
    let tells = g.S.Store.told in
    let wrote = subst (λ (items : List ℕ). Changes s.file (Holds s.place (take s.count items)) (tells c.args.store.now).files (tells c.write.new.self).files) c.deref.ensures.value
    c.in_ok-write.ensures.ok in
    let size : s.place + length (take s.count s.buffer.items) ≡ s.place + s.count =
    ap (λ (n : ℕ). s.place + n) (length-take-le s.count s.buffer.items (omega (arith, c.self.invariant.3, c.deref.ensures.len))) in
    subst (λ (n : ℕ). HasPut (tells c.write.new.self).files bytes (record { file = s.file; kept = s.kept; place = n; waiting = [] })) size
    (put_flushed _ bytes _ _ put wrote))

pub returns-clause-long : goal.returns-clause-long
returns-clause-long g c =
    let s = c.self.inside in
    let tells = g.S.Store.told in
    let size : s.place + length (take s.count c.deref.result.now) ≡ s.place + s.count =
    ap (λ (n : ℕ). s.place + n) (length-take-le s.count c.deref.result.now (omega (arith, c.self.invariant.3, c.deref.ensures.len))) in
    subst (λ (n : ℕ). ForSome (tells c.write.new.self).files (λ files. n ≤ length (files s.file))) size
    (long_wrote s.file s.place _ _ _ (within _ _ (tells c.args.store.now) c.self.view_is c.requires) c.in_ok-write.ensures.ok)

pub returns-clause-rest : goal.returns-clause-rest
returns-clause-rest g c = rw (← c.self.view_is) (
    let s = c.self.inside in
    let tells = g.S.Store.told in
    subst (λ (items : List ℕ). Changes s.file (KeepsRest (s.place + length (take s.count items))) (tells c.args.store.now).files (tells c.write.new.self).files) c.deref.ensures.value
    (rest_wrote s.file s.place _ _ _ (within _ _ (tells c.args.store.now) c.self.view_is c.requires) c.in_ok-write.ensures.ok))

pub returns-clause-changes : goal.returns-clause-changes
returns-clause-changes g c =
    let long = within _ _ (g.S.Store.told c.args.store.now) c.self.view_is c.requires in
    rw (← c.self.view_is) (record {
      told = keeps_wrote _ _ c.self.inside.place _ _ _ (omega (arith, c.self.invariant.1)) long c.in_ok-write.ensures.ok;
      stops = stops_wrote _ _ c.self.inside.place _ _ _ (omega (arith, c.self.invariant.1)) c.write.ensures.stops;
      taken = search rules;
      cause = search rules;
    })
