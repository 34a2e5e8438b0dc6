use Rattle.std.proofs.Common.{◌≡◌, ◌∙◌, ◌+◌, ◌*◌, ℕ, Option, length, map, refl, sym, ap, subst, arith}
use Rattle.std.proofs.lemmas.Result.{err_from_is_err_and}
use Rattle.std.specs.FinMap.{entries}
use Rattle.irl_offer.specs.Tuple.{Tuple}
use Rattle.irl_offer.specs.declared.offer.Verdict.{Verdict}
use Rattle.irl_model.specs.Book.{seen}
use Rattle.irl_model.specs.Judging.{after, judgements}
use Rattle.irl_model.specs.Pairs.{ArePairsOf, keys_of}
use Rattle.irl_disk.specs.Effects.{OnlyChanges}
use Rattle.irl_disk.specs.Taken.{TakesOf}
use Rattle.irl_journal.specs.Blob.{BeginsWith}
use Rattle.irl_cache.specs.SortedRun.{pairs_bytes}
use Rattle.irl_cache.specs.Reading.{read_of}
use Rattle.irl_bay.specs.Drum.{IsDrum, cache_front}
use Rattle.irl_bay.proofs.DrumFiles.{takes_of_both, takes_of_none}
use Rattle.irl_bay.specs.Judging.{batch_of}
use Rattle.irl_bay.specs.Merging.{KeepsCommitted, WritesOn}
use Rattle.irl_bay.proofs.BatchWrites.{on_as, on_only, on_then, writes_of, written_first}
use Rattle.irl_bay.proofs.HeldBuckets.{cache_held, count_all, cut_long, words_held}
use Rattle.irl_bay.proofs.Judges.{fed_are, held_on, judges_for, judges_none, keys_grown, read_all, told_after}
use Rattle.irl_bay.proofs.NextBatch.{fits_batch, is_batch, waits_all}
use Rattle.irl_bay.proofs.Sweeps.{has_place, put_reached}
use Rattle.irl_bay.proofs.bay.Bay.judge.Given.{Over}
use Rattle.irl_bay.proofs.bay.Bay.judge.Goals.{After-sync_outputs}
use Rattle.irl_bay.proofs.bay.Bay.judge.Goals as goal

pub returns-in_err-cut-clause-judges : goal.returns-in_err-cut-clause-judges
returns-in_err-cut-clause-judges g c =
    let out = err_from_is_err_and c.from_residual.result c.from_residual.ensures.1 in
    judges_none c.from_residual.result c.args.self.now (g.S.Store.told c.args.store.now) (g.met.S.Store.is_consistent c.args.store.now) (let first = out.1 in let second = out.2 in cc)

pub returns-in_err-sides-clause-judges : goal.returns-in_err-sides-clause-judges
returns-in_err-sides-clause-judges g c =
    let out = err_from_is_err_and c.from_residual-in_err-sides.result c.from_residual-in_err-sides.ensures.1 in
    judges_none c.from_residual-in_err-sides.result c.args.self.now (g.S.Store.told c.args.store.now) (g.met.S.Store.is_consistent c.args.store.now) (let first = out.1 in let second = out.2 in cc)

pub returns-in_err-telling-clause-judges : goal.returns-in_err-telling-clause-judges
returns-in_err-telling-clause-judges g c =
    let out = err_from_is_err_and c.from_residual-in_err-telling.result c.from_residual-in_err-telling.ensures.1 in
    judges_none c.from_residual-in_err-telling.result c.args.self.now (g.S.Store.told c.args.store.now) (g.met.S.Store.is_consistent c.args.store.now) (let first = out.1 in let second = out.2 in cc)

pub judge_buckets-requires-clause-telling : goal.judge_buckets-requires-clause-telling
judge_buckets-requires-clause-telling g c = c.in_ok-telling.ensures (g.S.Store.told c.args.store.now).files c.requires

pub returns-in_err-judge_buckets-clause-judges : goal.returns-in_err-judge_buckets-clause-judges
returns-in_err-judge_buckets-clause-judges g c =
    let out = err_from_is_err_and c.from_residual-in_err-judge_buckets.result c.from_residual-in_err-judge_buckets.ensures.1 in
    let tells = g.S.Store.told in
    judges_for c.in_err-judge_buckets.field-0.0 _ c.from_residual-in_err-judge_buckets.result c.args.self.now (tells c.args.store.now) (tells c.judge_buckets.new.store)
    refl (let first = out.1 in let second = out.2 in cc) c.in_err-judge_buckets.ensures.judges

pub sync_outputs-requires-clause-sides : goal.sync_outputs-requires-clause-sides
sync_outputs-requires-clause-sides g c = c.in_ok-judge_buckets.ensures.judged.of

pub sync_outputs-requires-clause-telling : goal.sync_outputs-requires-clause-telling
sync_outputs-requires-clause-telling g c = c.in_ok-judge_buckets.ensures.judged.tells.of

pub sync_outputs-requires-clause-keys : goal.sync_outputs-requires-clause-keys
sync_outputs-requires-clause-keys g c = has_place _ _ c.judge_buckets.new.sides.writer c.in_ok-judge_buckets.ensures.judged.merged.written

pub sync_outputs-requires-clause-judged : goal.sync_outputs-requires-clause-judged
sync_outputs-requires-clause-judged g c = put_reached _ _ c.judge_buckets.new.telling.judged c.in_ok-judge_buckets.ensures.judged.tells.judged

pub sync_outputs-requires-clause-texts : goal.sync_outputs-requires-clause-texts
sync_outputs-requires-clause-texts g c = put_reached _ _ c.judge_buckets.new.telling.texts c.in_ok-judge_buckets.ensures.judged.tells.texts

-- what is written once the files are synced, or not
written : (g : Over) (c : After-sync_outputs g) (failed : Type 0) → OnlyChanges (KeepsCommitted c.args.self.now) failed (g.S.Store.told c.judge_buckets.new.store)
    (g.S.Store.told c.sync_outputs.new.store)
    → WritesOn c.args.self.now failed (g.S.Store.told c.args.store.now) (g.S.Store.told c.sync_outputs.new.store)
written g c failed others =
    let tells = g.S.Store.told in
    let now = c.args.self.now in
    on_then now _ _ (tells c.args.store.now) (tells c.judge_buckets.new.store) (tells c.sync_outputs.new.store)
    (g.met.S.Store.is_consistent c.judge_buckets.new.store) c.judge_buckets.ensures.judges.writes
    (on_only now _ _ _ (record { told = others.told; stops = others.stops }) others.taken others.cause)

pub returns-in_err-sync_outputs-clause-judges : goal.returns-in_err-sync_outputs-clause-judges
returns-in_err-sync_outputs-clause-judges g c =
    let out = err_from_is_err_and c.from_residual-in_err-sync_outputs.result c.from_residual-in_err-sync_outputs.ensures.1 in
    record {
      spoilt = λ f at e. let no = rw (out.1, out.2) at e in absurd (cc);
      whole = λ f at e. let no = rw (out.1, out.2) at e in absurd (cc);
      full = λ n e. let no = rw (out.1, out.2) at e in cc;
      writes = on_as c.args.self.now _ _ _ _ (written g (goal.at.returns-in_err-sync_outputs-clause-judges g c).After-sync_outputs _ c.in_err-sync_outputs.ensures.others) (λ e. refl);
    }

pub returns-clause-judges : goal.returns-clause-judges
returns-clause-judges g c = record {
  spoilt = λ f at e. absurd (cc);
  whole = λ f at e. absurd (cc);
  full = λ n e. cc;
  writes = on_as c.args.self.now _ _ _ _ (written g (goal.at.returns-clause-judges g c).After-sync_outputs _ c.in_ok-sync_outputs.ensures.others) (λ e. absurd (cc));
}

pub returns-clause-judged : goal.returns-clause-judged
returns-clause-judged g c =
    let drum = c.args.self.now in
    let law : IsDrum drum = c.lengths.ensures.drum in
    let tells = g.S.Store.told in
    let a = tells c.args.store.now in
    let b = tells c.judge_buckets.new.store in
    let law_b = g.met.S.Store.is_consistent c.judge_buckets.new.store in
    let j = c.in_ok-judge_buckets.ensures.judged in
    let writes = writes_of drum _ a b c.judge_buckets.ensures.judges.writes in
    let sides = c.judge_buckets.new.sides in
    let n = drum.settings.buckets in
    let m = j.merged in
    let put = m.put in
    let all : n ≡ sides.buckets = sym j.of.buckets in
    let count = sides.valid in
    let synced = c.in_ok-sync_outputs.ensures.synced n j.offers j.verdicts m j.tells in
    let grown = keys_grown n j.offers j.verdicts b.files sides m count all in
    record {
      batch = batch_of drum put j.offers j.verdicts;
      fits = fits_batch drum put j.offers j.verdicts j.tells.count (omega (arith, grown, j.of.entries)) (count_all drum n (length j.offers) law (omega arith) j.count);
      synced = record {
        next_is = synced.next_is;
        room = synced.room;
        written = written_first drum (batch_of drum put j.offers j.verdicts) a b (tells c.sync_outputs.new.store).images law_b writes synced.written;
        long = synced.long;
      };
      of_book = λ files told book holds.
          let to = told_after _ a.files b.files files writes.told told in
          let kept = held_on drum a b law writes.stops book law_b holds in
          let has = cache_held b.images drum book kept to.0 (law_b.told to.0 to.1) in
          let begins = subst (λ (f : ℕ). BeginsWith (to.0 f) (pairs_bytes (entries (seen book)))) (sym j.of.from) has.bytes in
          let keys = fed_are n j.offers j.verdicts b.files sides m count all to.0 (seen book) to.1 (words_held b.images drum book kept) (j.of.entries ∙ has.count) begins in
          let waits = waits_all book holds.book_is.is_book holds.book_is.dropped (cut_long a.images drum book holds) n (omega (arith, holds.book_is.buckets)) in
          is_batch drum book m.fed put j.offers j.verdicts (sym holds.book_is.rule) (sym holds.book_is.buckets) holds.numbers.commit.texts (j.of_book files told book holds ∙ waits) keys
          (m.verdicts_are ∙ ap (λ r. map (λ (p : Tuple × Option Verdict). p.1) (judgements r (keys_of m.fed) j.offers)) j.of.rule)
          (subst (λ r. ArePairsOf (after r (keys_of m.fed) j.offers) put) j.of.rule m.keys);
    }

pub returns-clause-read : goal.returns-clause-read
returns-clause-read g c =
    let drum = c.args.self.now in
    let b = g.S.Store.told c.judge_buckets.new.store in
    let j = c.in_ok-judge_buckets.ensures.judged in
    let sides = c.judge_buckets.new.sides in
    let all = read_all drum.settings.buckets j.offers j.verdicts b.files sides j.merged sides.valid (sym j.of.buckets) in
    let file = (cache_front drum).file in
    let took = takes_of_both file _ 0 _ _ _ c.in_ok-judge_buckets.ensures.read (takes_of_none file _ _ c.sync_outputs.ensures.others.taken) in
    let many : 16 * read_of sides.reader + 0 ≡ 16 * drum.last.entries = omega (arith, all, j.of.entries) in
    subst (λ (n : ℕ). TakesOf file n (g.S.Store.told c.args.store.now).taken (g.S.Store.told c.sync_outputs.new.store).taken) many took
