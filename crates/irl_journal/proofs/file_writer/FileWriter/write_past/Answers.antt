-- The bytes are written behind what was, and whatever the write leaves, what stays is before it.
use Rattle.std.proofs.Common.{◌≡◌, ℕ, ◌+◌, List, [], ◌++◌, length, take, subst, arith, ap, sym, rules}
use Rattle.std.specs.Option.{ForSome}
use Rattle.irl_disk.specs.Disk.{Changes}
use Rattle.irl_disk.specs.Images.{Told}
use Rattle.irl_journal.specs.Growing.{Writer, HasPut, KeepsRest, ReachesPlace}
use Rattle.irl_journal.proofs.Growing.{on_err, put_flushed, put_more, put_torn, long_wrote, keeps_wrote, keeps_torn, stops_wrote, rest_wrote}
use Rattle.irl_journal.proofs.file_writer.FileWriter.write_past.Goals as goal

-- the file reaches the place
abbrev within : (w view : Writer) (now : Told) → view ≡ w → ForSome now.files (ReachesPlace w) → ForSome now.files (ReachesPlace view)
within w view now is long = subst (λ (v : Writer). ForSome now.files (ReachesPlace v)) (sym is) long

pub write-requires-clause-place : goal.write-requires-clause-place
write-requires-clause-place g c = within _ _ (g.S.Store.told c.args.store.now) c.self.view_is c.requires.long

-- the write failed
pub returns-in_err-write : goal.returns-in_err-write
returns-in_err-write g c = record {
  put = search rules;
  put_before = rw (← c.self.view_is) (on_err c.from_residual.result (λ bytes put. put_torn _ _ bytes _ _ put c.in_err-write.ensures.err));
  end = search rules;
  end_before = search rules;
  file = search rules;
  kept = search rules;
  long = search rules;
  rest = search rules;
  changes = rw (← c.self.view_is) (record {
    told = keeps_torn _ _ c.self.inside.place _ _ _ (omega (arith, c.self.invariant.1)) c.in_err-write.ensures.err;
    stops = stops_wrote _ _ c.self.inside.place _ _ _ (omega (arith, c.self.invariant.1)) c.write.ensures.stops;
    taken = search rules;
    cause = search rules;
  });
}

-- it is done
pub returns : goal.returns
returns g c =
    let long = within _ _ (g.S.Store.told c.args.store.now) c.self.view_is c.requires.long in
    record {
      put = λ bytes put.
          let s = c.self.inside in
          let tells = g.S.Store.told in
          let w : Writer = record { file = s.file; kept = s.kept; place = s.place; waiting = c.args.more.now } in
          let none = rw (← c.self.view_is) at c.requires.none in
          let here = rw (← c.self.view_is) at put in
          let more = subst (λ (l : List ℕ). HasPut (tells c.args.store.now).files (bytes ++ c.args.more.now) (record { file = s.file; kept = s.kept; place = s.place; waiting = l ++ c.args.more.now }))
          none (put_more _ c.args.more.now bytes _ here) in
          subst (λ (l : List ℕ). HasPut (tells c.write.new.self).files (bytes ++ c.args.more.now) (record { file = s.file; kept = s.kept; place = s.place + length c.args.more.now; waiting = l }))
          (sym none)
          (put_flushed w (bytes ++ c.args.more.now) _ _ more c.in_ok-write.ensures.ok);
      put_before = search rules;
      end = search rules;
      end_before = search rules;
      file = search rules;
      kept = search rules;
      rest =
          let s = c.self.inside in
          let tells = g.S.Store.told in
          let none : take s.count s.buffer.items ≡ [] = rw (← c.self.view_is) at c.requires.none in
          let size : s.place + length c.args.more.now + length (take s.count s.buffer.items) ≡ s.place + length c.args.more.now = omega (arith, ap length none) in
          rw (← c.self.view_is) (
          subst (λ (n : ℕ). Changes s.file (KeepsRest n) (tells c.args.store.now).files (tells c.write.new.self).files) (sym size)
          (rest_wrote s.file s.place c.args.more.now _ _ long c.in_ok-write.ensures.ok));
      long = long_wrote c.self.inside.file c.self.inside.place _ _ _ long c.in_ok-write.ensures.ok;
      changes = rw (← c.self.view_is) (record {
        told = keeps_wrote _ _ c.self.inside.place _ _ _ (omega (arith, c.self.invariant.1)) long c.in_ok-write.ensures.ok;
        stops = stops_wrote _ _ c.self.inside.place _ _ _ (omega (arith, c.self.invariant.1)) c.write.ensures.stops;
        taken = search rules;
        cause = search rules;
      });
    }
