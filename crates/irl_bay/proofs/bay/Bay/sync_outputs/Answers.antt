use Rattle.std.proofs.Common.{◌≡◌, ◌≢◌, ◌∙◌, ◌+◌, ◌-◌, ◌*◌, ◌/◌, ◌≤◌, ◌++◌, ℕ, List, Option, Some, length, map, refl, sym, ap, subst, arith, rules, length-append}
use Rattle.std.specs.Option.{ForSome}
use Rattle.irl_disk.specs.Disk.{Files, Changes, ChangesFile}
use Rattle.irl_disk.specs.Images.{LeavesBy}
use Rattle.irl_journal.specs.Blob.{Front, IsCommitted, KeepsFront}
use Rattle.irl_model.specs.Pairs.{pair_of}
use Rattle.irl_cache.specs.SortedRun.{pairs_bytes}
use Rattle.irl_journal.specs.Growing.{HasPut, Writer, end_of}
use Rattle.irl_bay.specs.declared.bay.Bay.TheInside.{Inside}
use Rattle.irl_layout.specs.Commits.{live_side}
use Rattle.irl_bay.specs.Drum.{Drum, IsDrum, judged_front, texts_front}
use Rattle.irl_bay.specs.Judging.{batch_of}
use Rattle.irl_bay.specs.Merging.{next_cache, next_judged, next_texts}
use Rattle.irl_layout.specs.Runs.{texts_of}
use Rattle.irl_bay.proofs.BatchWrites.{cache_writes, front, front_is, is_long_batch, is_written, judged_writes, step_then, texts_writes}
use Rattle.irl_bay.proofs.JudgedMore.{length-entries}
use Rattle.irl_bay.proofs.Judges.{judged_apart, texts_apart}
use Rattle.irl_bay.proofs.NextBatch.{has_room}
use Rattle.irl_bay.proofs.Sweeps.{put_on, same_file, still_reached}
use Rattle.irl_bay.proofs.bay.Bay.sync_outputs.Goals as goal

abbrev drum_of : Inside → Drum
drum_of b = record { base = b.base; settings = b.settings; is_sound = b.is_sound; manifest = b.manifest; last = b.last; cuts = b.cuts; buckets = b.buckets.items }

-- the end of a writer is what stays and what was put
end_is : (told : Option Files) (bytes : List ℕ) (writer : Writer) → HasPut told bytes writer → end_of writer ≡ writer.kept + length bytes
end_is told bytes writer has = omega (arith, has.place, ap (λ (l : List ℕ). length l) has.are, length-append has.written writer.waiting)

pub returns-in_err-entries-clause-others : goal.returns-in_err-entries-clause-others
returns-in_err-entries-clause-others g c =
    let writes = cache_writes c.args.self.now c.args.sides.writer.out.file _ _ c.requires.sides.to c.finish.ensures.changes.told c.finish.ensures.changes.stops in
    record { told = writes.told; stops = writes.stops; taken = search rules; cause = search rules }

pub finish-requires-2 : goal.finish-requires-2
finish-requires-2 g c =
    let now = c.args.self.now in
    let tells = g.S.Store.told in
    still_reached (tells c.args.store.now).files (tells c.finish.new.store).files c.args.telling.judged
    (same_file c.args.sides.writer.out.file c.args.telling.judged.file _ _ _ (judged_apart now c.args.sides c.args.telling c.requires.sides c.requires.telling) c.finish.ensures.changes.told)
    c.requires.judged

pub returns-in_err-judged-clause-others : goal.returns-in_err-judged-clause-others
returns-in_err-judged-clause-others g c =
    let now = c.args.self.now in
    let by = c.requires.telling in
    let writes = step_then now _ _ _ (g.met.S.Store.is_consistent c.finish.new.store) (cache_writes now c.args.sides.writer.out.file _ _ c.requires.sides.to c.finish.ensures.changes.told
    c.finish.ensures.changes.stops)
    (judged_writes now _ _ _ _ by.judged_file by.judged_kept c.finish-2.ensures.changes.told c.finish-2.ensures.changes.stops) in
    record { told = writes.told; stops = writes.stops; taken = search rules; cause = search rules }

pub finish-requires-3 : goal.finish-requires-3
finish-requires-3 g c =
    let now = c.args.self.now in
    let by = c.requires.telling in
    let tells = g.S.Store.told in
    let apart : c.args.telling.texts.file ≢ c.args.telling.judged.file = λ e. omega (arith, e, by.judged_file, by.texts_file) in
    still_reached (tells c.finish.new.store).files (tells c.finish-2.new.store).files c.args.telling.texts
    (same_file c.args.telling.judged.file c.args.telling.texts.file _ _ _ apart c.finish-2.ensures.changes.told)
    (still_reached (tells c.args.store.now).files (tells c.finish.new.store).files c.args.telling.texts
    (same_file c.args.sides.writer.out.file c.args.telling.texts.file _ _ _ (texts_apart now c.args.sides c.args.telling c.requires.sides c.requires.telling) c.finish.ensures.changes.told)
    c.requires.texts)

pub returns-in_err-texts-clause-others : goal.returns-in_err-texts-clause-others
returns-in_err-texts-clause-others g c =
    let now = c.args.self.now in
    let by = c.requires.telling in
    let law = g.met.S.Store.is_consistent in
    let writes = step_then now _ _ _ (law c.finish-2.new.store)
    (step_then now _ _ _ (law c.finish.new.store) (cache_writes now c.args.sides.writer.out.file _ _ c.requires.sides.to c.finish.ensures.changes.told c.finish.ensures.changes.stops)
    (judged_writes now _ _ _ _ by.judged_file by.judged_kept c.finish-2.ensures.changes.told c.finish-2.ensures.changes.stops))
    (texts_writes now _ _ _ _ by.texts_file by.texts_kept c.finish-3.ensures.changes.told c.finish-3.ensures.changes.stops) in
    record { told = writes.told; stops = writes.stops; taken = search rules; cause = search rules }

pub returns-clause-others : goal.returns-clause-others
returns-clause-others g c =
    let now = c.args.self.now in
    let by = c.requires.telling in
    let law = g.met.S.Store.is_consistent in
    let writes = step_then now _ _ _ (law c.finish-2.new.store)
    (step_then now _ _ _ (law c.finish.new.store) (cache_writes now c.args.sides.writer.out.file _ _ c.requires.sides.to c.finish.ensures.changes.told c.finish.ensures.changes.stops)
    (judged_writes now _ _ _ _ by.judged_file by.judged_kept c.finish-2.ensures.changes.told c.finish-2.ensures.changes.stops))
    (texts_writes now _ _ _ _ by.texts_file by.texts_kept c.finish-3.ensures.changes.told c.finish-3.ensures.changes.stops) in
    record { told = writes.told; stops = writes.stops; taken = search rules; cause = search rules }

pub returns-clause-synced : goal.returns-clause-synced
returns-clause-synced g c = λ b offers verdicts merged has.
    let now = c.args.self.now in
    let law : IsDrum now = subst IsDrum c.self.view_is c.self.invariant in
    let is = ap drum_of c.self-inside.view_is ∙ c.self.view_is in
    let tells = g.S.Store.told in
    let laws = g.met.S.Store.is_consistent in
    let s0 = tells c.args.store.now in
    let s1 = tells c.finish.new.store in
    let s2 = tells c.finish-2.new.store in
    let s3 = tells c.finish-3.new.store in
    let of = c.requires.sides in
    let by = c.requires.telling in
    let batch = batch_of now merged.put offers verdicts in
    let telling = c.args.telling in
    let writer = c.args.sides.writer in
    -- how many and how long
    let entries : c.in_ok-entries.entries ≡ length merged.put = c.in_ok-entries.ensures.count merged.put merged.written in
    let judged_long = end_is s0.files _ telling.judged has.judged in
    let texts_long = end_is s0.files _ telling.texts has.texts in
    let judged_bytes = length-entries now.last.texts now.settings.buckets offers verdicts has.count in
    let judged_end : c.in_ok-judged.judged ≡ 48 * (now.last.judged + length offers) = omega (arith, c.in_ok-judged.ensures.length, judged_long, by.judged_kept, judged_bytes) in
    let texts_end : c.in_ok-texts.texts ≡ now.last.texts + length (texts_of offers) = omega (arith, c.in_ok-texts.ensures.length, texts_long, by.texts_kept) in
    let judged_many : c.in_ok-judged.judged / 48 ≡ now.last.judged + length offers = omega (arith, judged_end) in
    -- the fronts
    let cache_front_is : front writer.out.file (16 * c.in_ok-entries.entries) ≡ next_cache now batch = front_is _ _ _ of.to (ap (λ (n : ℕ). 16 * n) entries) in
    let judged_from : front telling.judged.file telling.judged.kept ≡ judged_front now = front_is _ _ _ by.judged_file by.judged_kept in
    let judged_to : front telling.judged.file c.in_ok-judged.judged ≡ next_judged now batch = front_is _ _ _ by.judged_file judged_end in
    let texts_from : front telling.texts.file telling.texts.kept ≡ texts_front now = front_is _ _ _ by.texts_file by.texts_kept in
    let texts_to : front telling.texts.file c.in_ok-texts.texts ≡ next_texts now batch = front_is _ _ _ by.texts_file texts_end in
    let first : LeavesBy (ChangesFile (next_cache now batch).file (KeepsFront 0)) s0 s1 = subst (λ (f : ℕ). LeavesBy (ChangesFile f (KeepsFront 0)) s0 s1) of.to c.finish.ensures.changes.stops in
    let second : LeavesBy (ChangesFile (judged_front now).file (KeepsFront (judged_front now).length)) s1 s2 =
    subst (λ (x : Front). LeavesBy (ChangesFile x.file (KeepsFront x.length)) s1 s2) judged_from c.finish-2.ensures.changes.stops in
    let third : LeavesBy (ChangesFile (texts_front now).file (KeepsFront (texts_front now).length)) s2 s3 =
    subst (λ (x : Front). LeavesBy (ChangesFile x.file (KeepsFront x.length)) s2 s3) texts_from c.finish-3.ensures.changes.stops in
    let second_told : Changes (judged_front now).file (KeepsFront (judged_front now).length) s1.files s2.files =
    subst (λ (x : Front). Changes x.file (KeepsFront x.length) s1.files s2.files) judged_from c.finish-2.ensures.changes.told in
    let third_told : Changes (texts_front now).file (KeepsFront (texts_front now).length) s2.files s3.files =
    subst (λ (x : Front). Changes x.file (KeepsFront x.length) s2.files s3.files) texts_from c.finish-3.ensures.changes.told in
    -- what was put is still there
    let texts_judged : telling.texts.file ≢ telling.judged.file = λ e. omega (arith, e, by.judged_file, by.texts_file) in
    let judged_put = put_on s0.files s1.files _ telling.judged (same_file writer.out.file telling.judged.file _ _ _ (judged_apart now c.args.sides telling of by) c.finish.ensures.changes.told)
    has.judged in
    let texts_put = put_on s1.files s2.files _ telling.texts (same_file telling.judged.file telling.texts.file _ _ _ texts_judged c.finish-2.ensures.changes.told)
    (put_on s0.files s1.files _ telling.texts (same_file writer.out.file telling.texts.file _ _ _ (texts_apart now c.args.sides telling of by) c.finish.ensures.changes.told) has.texts) in
    let cache = subst (λ (x : Front). IsCommitted s1.images x (pairs_bytes (map pair_of merged.put))) cache_front_is (c.in_ok-entries.ensures.committed merged.put merged.written) in
    let live : Some (1 - c.live_side.result) ≡ Some (1 - live_side now.last) = ap (λ (n : ℕ). Some (1 - n)) (c.live_side.ensures ∙ ap (λ (d : Drum). live_side d.last) c.self.view_is) in
    record {
      next_is = λ i. record {
        side = ap (λ (d : Drum). 1 - d.last.side) is i;
        live = live i;
        entries = entries i;
        judged = judged_many i;
        unique = has.unique i;
        texts = texts_end i;
        cut = c.requires.cut i;
      };
      room = has_room now batch law refl (omega (arith, c.in_ok-entries.ensures.bound, entries)) (omega (arith, c.in_ok-judged.ensures.bound, judged_end))
          (omega (arith, c.in_ok-texts.ensures.bound, texts_end))
          (rw c.requires.cut at (rw c.deref.ensures.value at c.numbers_fit.ensures));
      written = is_written now batch s0 s1 s2 s3 (laws c.finish.new.store) (laws c.finish-2.new.store) (laws c.finish-3.new.store) cache first second third
          (λ held was. subst (λ (x : Front). IsCommitted s2.images x (held ++ batch.judged)) judged_to
          (c.in_ok-judged.ensures.committed batch.judged held judged_put (subst (λ (x : Front). IsCommitted s1.images x held) (sym judged_from) was)))
          (λ held was. subst (λ (x : Front). IsCommitted s3.images x (held ++ batch.texts)) texts_to
          (c.in_ok-texts.ensures.committed batch.texts held texts_put (subst (λ (x : Front). IsCommitted s2.images x held) (sym texts_from) was)));
      long = is_long_batch now batch s1.files s2.files s3.files
          (subst (λ (x : Front). ForSome s1.files (λ files. x.length ≤ length (files x.file))) cache_front_is c.in_ok-entries.ensures.long) second_told
          (subst (λ (x : Front). ForSome s2.files (λ files. x.length ≤ length (files x.file))) judged_to c.in_ok-judged.ensures.long) third_told
          (subst (λ (x : Front). ForSome s3.files (λ files. x.length ≤ length (files x.file))) texts_to c.in_ok-texts.ensures.long);
    }
