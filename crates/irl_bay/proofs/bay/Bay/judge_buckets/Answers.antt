use Rattle.std.proofs.Common.{◌≡◌, ◌∙◌, ◌+◌, ◌-◌, ◌*◌, ◌<◌, ◌++◌, ℕ, List, [], inl, inr, length, drop, get_or, refl, sym, ap, subst, arith, rules, length-append}
use Rattle.std.proofs.lemmas.List.{length-map}
use Rattle.std.proofs.lemmas.Result.{err_from_is_err_and}
use Rattle.std.specs.List.{AllByRecursion}
use Rattle.std.specs.Option.{ForSome}
use Rattle.std.specs.Prelude.{IsErrOf}
use Rattle.irl_offer.specs.Buckets.{bucket_of}
use Rattle.irl_offer.specs.Tuple.{Tuple}
use Rattle.irl_offer.specs.declared.entry.Entry.{Entry}
use Rattle.irl_base.specs.declared.fault.Fault.TheVariants.{Damaged, Failed}
use Rattle.irl_model.specs.Book.{judged_cut}
use Rattle.irl_base.specs.Faults.{HasCause}
use Rattle.irl_disk.specs.Effects.{OnlyReads}
use Rattle.irl_disk.specs.Taken.{TakesOf}
use Rattle.irl_cache.specs.Reading.{read_of}
use Rattle.irl_cache.specs.SortedRun.{IsSpoiltRun}
use Rattle.irl_layout.specs.Commits.{live_offers}
use Rattle.irl_bay.specs.Drum.{Drum, IsDrum, bucket_at, cache_front, judged_at, pending_at}
use Rattle.irl_bay.specs.Judging.{HasJudged, waiting}
use Rattle.irl_bay.specs.Merging.{WritesOn}
use Rattle.irl_bay.specs.Pending.{AreOffersOf}
use Rattle.irl_layout.specs.Runs.{entry_of_offer}
use Rattle.irl_bay.specs.Sides.{IsSidesOf, ReadsAndPuts}
use Rattle.irl_bay.specs.Telling.{HasTold}
use Rattle.irl_bay.proofs.BatchWrites.{on_as, on_for, on_none, on_only, on_puts, on_reads, on_then, writes_of}
use Rattle.irl_bay.proofs.DrumFiles.{bucket_is_file, takes_of_both, takes_of_exactly, takes_of_none, takes_of_other}
use Rattle.irl_bay.proofs.HeldBuckets.{count_more, cut_held, cut_long, live_of, live_waits}
use Rattle.irl_bay.proofs.Judges.{ask_the_same, few_bytes, held_on, judged_apart, long_kept, merged_on, of_bucket_too, offers_are, offers_in, only_same, reader_apart, run_spoilt, run_whole, some_offers, spoilt_first, texts_apart, told_after, told_on, writer_apart}
use Rattle.irl_bay.proofs.NextBatch.{waits_more, waits_none}
use Rattle.irl_bay.proofs.PendingTexts.{same_offers}
use Rattle.irl_bay.proofs.Sweeps.{put_reached, same_file, same_told, still_reached}
use Rattle.irl_bay.proofs.bay.Bay.judge_buckets.Given.{Over}
use Rattle.irl_bay.proofs.bay.Bay.judge_buckets.Goals.{After-pending_of, After-pending_texts_of, After-sweep, After-tell}
use Rattle.irl_bay.proofs.bay.Bay.judge_buckets.Goals as goal

pub loop-b-init : goal.loop-b-init
loop-b-init g c =
    let tells = g.S.Store.told in
    let drum = c.args.self.now in
    let here = tells c.args.store.now in
    record {
      writes = on_none drum here (g.met.S.Store.is_consistent c.args.store.now);
      judged = record {
        offers = [];
        verdicts = [];
        of = c.requires.sides.of;
        merged = c.requires.sides.none here.files;
        tells = c.requires.telling;
        count = refl;
        of_book = λ files told book holds. sym (waits_none book holds.book_is.is_book holds.book_is.dropped (cut_long here.images drum book holds));
      };
      read =
          let none : 0 ≡ 16 * read_of c.args.sides.now.reader = omega (arith, c.requires.sides.unread) in
          let file = (cache_front drum).file in
          subst (λ (n : ℕ). TakesOf file n here.taken here.taken) none (takes_of_none file here.taken here.taken refl);
    }

-- ---- what the calls of one bucket write, one after the other
pended : (g : Over) (c : After-pending_of g) → WritesOn c.args.self.now (IsErrOf c.pending_of.result Failed) (g.S.Store.told c.args.store.now) (g.S.Store.told c.pending_of.new.store)
pended g c =
    let tells = g.S.Store.told in
    let now = c.args.self.now in
    let law : IsDrum now = subst IsDrum c.self.view_is c.self.invariant in
    let lt : c.loop-b.b < now.settings.buckets = subst (λ (d : Drum). c.loop-b.b < d.settings.buckets) c.self.view_is c.loop-b-test.true in
    on_then now _ _ (tells c.args.store.now) (tells c.loop-b.store) (tells c.pending_of.new.store) (g.met.S.Store.is_consistent c.loop-b.store) c.loop-b.invariant.writes
    (on_reads now (bucket_at now c.loop-b.b).journal.file _ _ _ (bucket_is_file now c.loop-b.b _ law lt (inl refl)) c.pending_of.ensures.reads)

swept : (g : Over) (c : After-sweep g) → WritesOn c.args.self.now ⊥ (g.S.Store.told c.args.store.now) (g.S.Store.told c.pending_of.new.store)
    → (failed : Type 0) → ReadsAndPuts c.loop-b.sides failed (g.S.Store.told c.pending_of.new.store) (g.S.Store.told c.sweep.new.store)
    → WritesOn c.args.self.now failed (g.S.Store.told c.args.store.now) (g.S.Store.told c.sweep.new.store)
swept g c so_far failed others =
    let tells = g.S.Store.told in
    let now = c.args.self.now in
    let law : IsDrum now = subst IsDrum c.self.view_is c.self.invariant in
    on_then now _ _ (tells c.args.store.now) (tells c.pending_of.new.store) (tells c.sweep.new.store) (g.met.S.Store.is_consistent c.pending_of.new.store) so_far
    (on_puts now c.loop-b.sides _ _ _ law c.loop-b.invariant.judged.of others)

texted : (g : Over) (c : After-pending_texts_of g) → WritesOn c.args.self.now ⊥ (g.S.Store.told c.args.store.now) (g.S.Store.told c.sweep.new.store)
    → (failed : Type 0) → OnlyReads (λ f. f ≡ (bucket_at c.args.self.now c.loop-b.b).aux.file) failed (g.S.Store.told c.sweep.new.store) (g.S.Store.told c.pending_texts_of.new.store)
    → WritesOn c.args.self.now failed (g.S.Store.told c.args.store.now) (g.S.Store.told c.pending_texts_of.new.store)
texted g c so_far failed reads =
    let tells = g.S.Store.told in
    let now = c.args.self.now in
    let law : IsDrum now = subst IsDrum c.self.view_is c.self.invariant in
    let lt : c.loop-b.b < now.settings.buckets = subst (λ (d : Drum). c.loop-b.b < d.settings.buckets) c.self.view_is c.loop-b-test.true in
    on_then now _ _ (tells c.args.store.now) (tells c.sweep.new.store) (tells c.pending_texts_of.new.store) (g.met.S.Store.is_consistent c.sweep.new.store) so_far
    (on_reads now (bucket_at now c.loop-b.b).aux.file _ _ _ (bucket_is_file now c.loop-b.b _ law lt (inr refl)) reads)

told : (g : Over) (c : After-tell g) → WritesOn c.args.self.now ⊥ (g.S.Store.told c.args.store.now) (g.S.Store.told c.pending_texts_of.new.store)
    → (failed : Type 0) → HasCause failed (g.S.Store.told c.pending_texts_of.new.store).faults (g.S.Store.told c.tell.new.store).faults
    → WritesOn c.args.self.now failed (g.S.Store.told c.args.store.now) (g.S.Store.told c.tell.new.store)
told g c so_far failed cause =
    let tells = g.S.Store.told in
    let now = c.args.self.now in
    on_then now _ _ (tells c.args.store.now) (tells c.pending_texts_of.new.store) (tells c.tell.new.store) (g.met.S.Store.is_consistent c.pending_texts_of.new.store) so_far
    (on_only now _ _ _ (c.tell.ensures.step now c.loop-b.invariant.judged.tells.of) c.tell.ensures.others.taken cause)

pub sweep-requires-clause-merged : goal.sweep-requires-clause-merged
sweep-requires-clause-merged g c =
    let j = c.loop-b.invariant.judged in
    let told = (g.S.Store.told c.loop-b.store).files in
    let next = (g.S.Store.told c.pending_of.new.store).files in (
      j.offers,
      j.verdicts,
      merged_on c.loop-b.b j.offers j.verdicts told next c.loop-b.sides (same_told _ told next c.in_ok-pending.ensures.reads.same) (same_told _ told next c.in_ok-pending.ensures.reads.same)
          j.merged,
    )

pub sweep-requires-clause-entries : goal.sweep-requires-clause-entries
sweep-requires-clause-entries g c =
    let j = c.loop-b.invariant.judged in
    let pending = c.in_ok-pending.pending in
    let left = drop pending.skip pending.entries.items in
    let some = some_offers left in
    let same : c.entries.result.now ≡ left = c.entries.ensures in (
      some.0,
      (
        ask_the_same some.0 c.entries.result.now (some.1 ∙ sym same),
        subst (λ (n : ℕ). AllByRecursion (λ (o : Tuple). bucket_of n o.key ≡ c.loop-b.b) some.0) (sym j.of.buckets)
            (of_bucket_too c.args.self.now.settings.buckets c.loop-b.b some.0 left some.1 c.in_ok-pending.ensures.here),
      ),
    )

pub pending_texts_of-requires-clause-long : goal.pending_texts_of-requires-clause-long
pending_texts_of-requires-clause-long g c =
    let now = c.args.self.now in
    let law : IsDrum now = subst IsDrum c.self.view_is c.self.invariant in
    let tells = g.S.Store.told in
    let at = goal.at.pending_texts_of-requires-clause-long g c in
    let writes = swept g at.After-sweep (on_for now _ ⊥ _ _ (λ no. absurd no) (pended g at.After-pending_of)) _ c.in_ok-verdicts.ensures.others in
    long_kept now (tells c.args.store.now) (tells c.sweep.new.store) law (writes_of now _ _ _ writes) c.requires.long

pub tell-requires-clause-bucket : goal.tell-requires-clause-bucket
tell-requires-clause-bucket g c =
    let drum : IsDrum c.args.self.now = subst IsDrum c.self.view_is c.self.invariant in
    few_bytes c.args.self.now.settings.buckets c.loop-b.b drum.settings.buckets (search rules)

pub tell-requires-clause-judged : goal.tell-requires-clause-judged
tell-requires-clause-judged g c =
    let j = c.loop-b.invariant.judged in
    let drum : IsDrum c.args.self.now = subst IsDrum c.self.view_is c.self.invariant in
    let told = (g.S.Store.told c.loop-b.store).files in
    let next = (g.S.Store.told c.pending_of.new.store).files in
    let then_ = (g.S.Store.told c.sweep.new.store).files in
    let file = c.loop-b.telling.judged.file in
    let read = (g.S.Store.told c.pending_texts_of.new.store).files in
    still_reached then_ read c.loop-b.telling.judged (same_told file then_ read c.pending_texts_of.ensures.reads.same)
    (still_reached next then_ c.loop-b.telling.judged (same_file c.loop-b.sides.writer.out.file file _ next then_ (judged_apart c.args.self.now c.loop-b.sides c.loop-b.telling j.of j.tells.of)
    c.sweep.ensures.others.told)
    (still_reached told next c.loop-b.telling.judged (same_told file told next c.in_ok-pending.ensures.reads.same) (put_reached told _ c.loop-b.telling.judged j.tells.judged)))

pub tell-requires-clause-texts : goal.tell-requires-clause-texts
tell-requires-clause-texts g c =
    let j = c.loop-b.invariant.judged in
    let drum : IsDrum c.args.self.now = subst IsDrum c.self.view_is c.self.invariant in
    let told = (g.S.Store.told c.loop-b.store).files in
    let next = (g.S.Store.told c.pending_of.new.store).files in
    let then_ = (g.S.Store.told c.sweep.new.store).files in
    let file = c.loop-b.telling.texts.file in
    let read = (g.S.Store.told c.pending_texts_of.new.store).files in
    still_reached then_ read c.loop-b.telling.texts (same_told file then_ read c.pending_texts_of.ensures.reads.same)
    (still_reached next then_ c.loop-b.telling.texts (same_file c.loop-b.sides.writer.out.file file _ next then_ (texts_apart c.args.self.now c.loop-b.sides c.loop-b.telling j.of j.tells.of)
    c.sweep.ensures.others.told)
    (still_reached told next c.loop-b.telling.texts (same_told file told next c.in_ok-pending.ensures.reads.same) (put_reached told _ c.loop-b.telling.texts j.tells.texts)))

-- the bucket couldn't be read
pub returns-in_err-pending-clause-judges : goal.returns-in_err-pending-clause-judges
returns-in_err-pending-clause-judges g c =
    let now = c.args.self.now in
    let law : IsDrum now = subst IsDrum c.self.view_is c.self.invariant in
    let tells = g.S.Store.told in
    let out = err_from_is_err_and c.from_residual.result c.from_residual.ensures.1 in
    let b = c.loop-b.b in
    let lt : b < now.settings.buckets = subst (λ (d : Drum). c.loop-b.b < d.settings.buckets) c.self.view_is c.loop-b-test.true in
    let before = writes_of now _ _ _ c.loop-b.invariant.writes in
    record {
      spoilt = λ f at e.
          let same : c.in_err-pending.field-0.0 ≡ Damaged f at = let is = rw (out.1, out.2) at e in cc in
          spoilt_first now (tells c.args.store.now) (tells c.loop-b.store) f at law before (λ files told. inr (b, lt, c.in_err-pending.ensures.damaged f at (rw same refl) files told));
      whole = λ f at e files told book holds.
          let same : c.in_err-pending.field-0.0 ≡ Damaged f at = let is = rw (out.1, out.2) at e in cc in
          let then_ = told_after _ (tells c.args.store.now).files (tells c.loop-b.store).files files before.told told in
          let kept = held_on now (tells c.args.store.now) (tells c.loop-b.store) law before.stops book (g.met.S.Store.is_consistent c.loop-b.store) holds in
          let within : b < book.buckets = omega (arith, lt, kept.book_is.buckets) in
          let held = kept.buckets b within in
          let here = law.buckets b lt in
          let cut : ℕ = judged_at now b - (bucket_at now b).start in
          let list = live_offers book now.last b in
          let count : pending_at now b + cut ≡ length list = omega (arith, held.durable, held.judged, here.start, here.judged) in
          c.in_err-pending.ensures.whole f at (rw same refl) then_.0 then_.1 cut list held (live_of _ now book kept law b within) count;
      full = search rules;
      writes = on_for now _ _ _ _ (λ e. let is = rw (out.1, out.2) at e in cc) (pended g (goal.at.returns-in_err-pending-clause-judges g c).After-pending_of);
    }

-- the cache couldn't be read or written
pub returns-in_err-verdicts-clause-judges : goal.returns-in_err-verdicts-clause-judges
returns-in_err-verdicts-clause-judges g c =
    let now = c.args.self.now in
    let law : IsDrum now = subst IsDrum c.self.view_is c.self.invariant in
    let tells = g.S.Store.told in
    let laws = g.met.S.Store.is_consistent in
    let j = c.loop-b.invariant.judged in
    let out = err_from_is_err_and c.from_residual-in_err-verdicts.result c.from_residual-in_err-verdicts.ensures.1 in
    let at_exit = goal.at.returns-in_err-verdicts-clause-judges g c in
    let on_first = on_for now _ ⊥ _ _ (λ no. absurd no) (pended g at_exit.After-pending_of) in
    let first = writes_of now _ _ _ on_first in
    let next = (tells c.pending_of.new.store).files in
    let spoilt_there : (f at : ℕ) → IsErrOf c.from_residual-in_err-verdicts.result (Damaged f at)
    → ForSome next (λ files. (f ≡ (cache_front now).file) × IsSpoiltRun now.last.entries (files f) at) = λ f at e.
    let same : c.in_err-verdicts.field-0.0 ≡ Damaged f at = let is = rw (out.1, out.2) at e in cc in
    subst (λ (n : ℕ). ForSome next (λ files. (f ≡ (cache_front now).file) × IsSpoiltRun n (files f) at)) j.of.entries
    (subst (λ (r : ℕ). ForSome next (λ files. (f ≡ r) × IsSpoiltRun c.loop-b.sides.reader.entries (files f) at)) j.of.from (c.in_err-verdicts.ensures.passes.damaged f at (rw same refl))) in
    record {
      spoilt = λ f at e.
          let long = long_kept now (tells c.args.store.now) (tells c.pending_of.new.store) law first c.requires.long in
          spoilt_first now (tells c.args.store.now) (tells c.pending_of.new.store) f at law first (λ files told. run_spoilt now files f at (long files told) (spoilt_there f at e files told));
      whole = λ f at e files told book holds.
          let then_ = told_after _ (tells c.args.store.now).files next files first.told told in
          let kept = held_on now (tells c.args.store.now) (tells c.pending_of.new.store) law first.stops book (laws c.pending_of.new.store) holds in
          run_whole (tells c.pending_of.new.store).images now book then_.0 f at kept ((laws c.pending_of.new.store).told then_.0 then_.1) (spoilt_there f at e then_.0 then_.1);
      full = search rules;
      writes = on_as now _ _ _ _ (swept g at_exit.After-sweep on_first _ c.in_err-verdicts.ensures.others) (λ e.
          let same : c.in_err-verdicts.field-0.0 ≡ Failed = let is = rw (out.1, out.2) at e in cc in rw same refl);
    }

-- the texts couldn't be read: a store that tells has them
pub returns-in_err-texts-clause-judges : goal.returns-in_err-texts-clause-judges
returns-in_err-texts-clause-judges g c =
    let now = c.args.self.now in
    let tells = g.S.Store.told in
    let out = err_from_is_err_and c.from_residual-in_err-texts.result c.from_residual-in_err-texts.ensures.1 in
    let at_exit = goal.at.returns-in_err-texts-clause-judges g c in
    let on_swept = on_for now _ ⊥ _ _ (λ no. absurd no) (swept g at_exit.After-sweep (on_for now _ ⊥ _ _ (λ no. absurd no) (pended g at_exit.After-pending_of)) _ c.in_ok-verdicts.ensures.others) in
    let there : (f at : ℕ) → IsErrOf c.from_residual-in_err-texts.result (Damaged f at) → ForSome (tells c.args.store.now).files (λ _. ⊥) = λ f at e files told.
    let same : c.in_err-texts.field-0.0 ≡ Damaged f at = let is = rw (out.1, out.2) at e in cc in
    let then_ = told_after _ (tells c.args.store.now).files (tells c.sweep.new.store).files files on_swept.told told in
    c.in_err-texts.ensures.damaged f at (rw same refl) then_.0 then_.1 in
    record {
      spoilt = λ f at e files told. absurd (there f at e files told);
      whole = λ f at e files told book holds. there f at e files told;
      full = search rules;
      writes = on_as now _ _ _ _ (texted g at_exit.After-pending_texts_of on_swept _ c.in_err-texts.ensures.reads) (λ e.
          let same : c.in_err-texts.field-0.0 ≡ Failed = let is = rw (out.1, out.2) at e in cc in rw same refl);
    }

-- what is judged couldn't be written
pub returns-in_err-tell-clause-judges : goal.returns-in_err-tell-clause-judges
returns-in_err-tell-clause-judges g c =
    let now = c.args.self.now in
    let out = err_from_is_err_and c.from_residual-in_err-tell.result c.from_residual-in_err-tell.ensures.1 in
    let at_exit = goal.at.returns-in_err-tell-clause-judges g c in
    let on_swept = on_for now _ ⊥ _ _ (λ no. absurd no) (swept g at_exit.After-sweep (on_for now _ ⊥ _ _ (λ no. absurd no) (pended g at_exit.After-pending_of)) _ c.in_ok-verdicts.ensures.others) in
    let on_read = on_for now _ ⊥ _ _ (λ no. absurd no) (texted g at_exit.After-pending_texts_of on_swept _ c.in_ok-texts.ensures.reads) in
    let none : (f at : ℕ) → IsErrOf c.from_residual-in_err-tell.result (Damaged f at) → ⊥ = λ f at e.
    let same : c.in_err-tell.field-0.0 ≡ Damaged f at = let is = rw (out.1, out.2) at e in cc in
    c.in_err-tell.ensures.refuses.damaged f at (rw same refl) in
    record {
      spoilt = λ f at e. absurd (none f at e);
      whole = λ f at e. absurd (none f at e);
      full = search rules;
      writes = on_as now _ _ _ _ (told g at_exit.After-tell on_read _ c.in_err-tell.ensures.others.cause) (λ e.
          let same : c.in_err-tell.field-0.0 ≡ Failed = let is = rw (out.1, out.2) at e in cc in rw same refl);
    }

-- one bucket more
pub loop-b-preserved : goal.loop-b-preserved
loop-b-preserved g c =
    let now = c.args.self.now in
    let drum : IsDrum now = subst IsDrum c.self.view_is c.self.invariant in
    let tells = g.S.Store.told in
    let law = g.met.S.Store.is_consistent in
    let before = c.loop-b.invariant in
    let j = before.judged in
    let b = c.loop-b.b in
    let lt : b < now.settings.buckets = search rules in
    let begun = (tells c.loop-b.store).files in
    let next = (tells c.pending_of.new.store).files in
    let through = (tells c.sweep.new.store).files in
    let read = (tells c.pending_texts_of.new.store).files in
    let then_ = (tells c.tell.new.store).files in
    let pending = c.in_ok-pending.pending in
    let left = drop pending.skip pending.entries.items in
    let texts = c.in_ok-texts.texts.items in
    let news = offers_in left texts in
    let are = offers_are left texts (c.in_ok-pending.ensures.texts ∙ sym c.in_ok-texts.ensures.length) in
    let here = of_bucket_too now.settings.buckets b news left are.entries_are c.in_ok-pending.ensures.here in
    let sides = c.loop-b.sides in
    let telling = c.loop-b.telling in
    let same = c.in_ok-pending.ensures.reads.same in
    let of = j.of in
    let kept = c.sweep.ensures.passes.same in
    let of_new : IsSidesOf now c.sweep.new.self = record {
      rule = kept.rule ∙ of.rule;
      buckets = kept.buckets ∙ of.buckets;
      from = kept.from ∙ of.from;
      entries = kept.entries ∙ of.entries;
      to = kept.to ∙ of.to;
    } in
    let merged_next = merged_on b j.offers j.verdicts begun next sides (same_told _ begun next same) (same_told _ begun next same) j.merged in
    let asked = ask_the_same news c.entries.result.now (are.entries_are ∙ sym c.entries.ensures) in
    let here_sides = subst (λ (n : ℕ). AllByRecursion (λ (o : Tuple). bucket_of n o.key ≡ b) news) (sym of.buckets) here in
    let merged_swept = c.in_ok-verdicts.ensures.merged j.offers j.verdicts news merged_next (asked, here_sides) in
    let told_next = told_on now j.offers j.verdicts begun next telling (same_told _ begun next same) (same_told _ begun next same) j.tells in
    let told_swept = told_on now j.offers j.verdicts next through telling (same_file sides.writer.out.file telling.judged.file _ next through (judged_apart now sides telling of j.tells.of)
    c.sweep.ensures.others.told)
    (same_file sides.writer.out.file telling.texts.file _ next through (texts_apart now sides telling of j.tells.of) c.sweep.ensures.others.told) told_next in
    let stayed = c.in_ok-texts.ensures.reads.same in
    let told_read = told_on now j.offers j.verdicts through read telling (same_told _ through read stayed) (same_told _ through read stayed) told_swept in
    let verdicts : c.deref-in-loop-b.result.now ≡ c.in_ok-verdicts.verdicts.items = c.deref-in-loop-b.ensures.value in
    let those : AreOffersOf news c.entries-in-loop-b.result.now c.deref.result.now =
    record { entries_are = are.entries_are ∙ sym c.entries-in-loop-b.ensures; texts_are = are.texts_are ∙ sym c.deref.ensures.value } in
    let all_told = c.in_ok-tell.ensures.told now j.offers j.verdicts news told_read those here in
    let merged_read = merged_on (b + 1) (j.offers ++ news) (j.verdicts ++ c.in_ok-verdicts.verdicts.items) through read c.sweep.new.self (same_told _ through read stayed)
    (same_told _ through read stayed)
    merged_swept in
    let merged_then = merged_on (b + 1) (j.offers ++ news) (j.verdicts ++ c.in_ok-verdicts.verdicts.items) read then_ c.sweep.new.self
    (only_same _ c.sweep.new.self.reader.file read then_ (reader_apart now drum c.sweep.new.self telling of_new j.tells.of) c.tell.ensures.others.told)
    (only_same _ c.sweep.new.self.writer.out.file read then_ (writer_apart now drum c.sweep.new.self telling of_new j.tells.of) c.tell.ensures.others.told) merged_read in
    let at_end = goal.at.loop-b-preserved g c in
    let on_swept = on_for now _ ⊥ _ _ (λ no. absurd no) (swept g at_end.After-sweep (on_for now _ ⊥ _ _ (λ no. absurd no) (pended g at_end.After-pending_of)) _ c.in_ok-verdicts.ensures.others) in
    let on_read = on_for now _ ⊥ _ _ (λ no. absurd no) (texted g at_end.After-pending_texts_of on_swept _ c.in_ok-texts.ensures.reads) in
    record {
      writes = on_for now _ ⊥ _ _ (λ no. absurd no) (told g at_end.After-tell on_read _ c.in_ok-tell.ensures.others.cause);
      judged = record {
        offers = j.offers ++ news;
        verdicts = j.verdicts ++ c.in_ok-verdicts.verdicts.items;
        of = of_new;
        merged = merged_then;
        tells = subst (λ v. HasTold now (j.offers ++ news) (j.verdicts ++ v) then_ c.tell.new.self) verdicts all_told;
        count =
            let many : length (j.offers ++ news) ≡ length j.offers + pending_at now b =
            length-append j.offers news ∙ ap (λ (n : ℕ). length j.offers + n) (sym (length-map news entry_of_offer) ∙ ap (λ (l : List Entry). length l) are.entries_are
            ∙ c.in_ok-pending.ensures.count) in
            count_more now b (length j.offers) (length (j.offers ++ news)) drum lt j.count many;
        of_book = λ files is book holds.
            let held = held_on now (tells c.args.store.now) (tells c.loop-b.store) drum before.writes.stops book (law c.loop-b.store) holds in
            let to = told_after _ (tells c.args.store.now).files begun files before.writes.told is in
            let list = get_or book.lists b [] in
            let within : b < book.buckets = omega (arith, lt, held.book_is.buckets) in
            let first_one : ℕ = judged_at now b - (bucket_at now b).start in
            let live = drop first_one (live_offers book now.last b) in
            let entries_held = c.in_ok-pending.ensures.held to.0 to.1 first_one (live_offers book now.last b) (held.buckets b within) in
            -- the sweep left the bucket's texts
            let held_then = held_on now (tells c.args.store.now) (tells c.sweep.new.store) drum on_swept.stops book (law c.sweep.new.store) holds in
            let to_then = told_after _ (tells c.args.store.now).files through files on_swept.told is in
            let texts_held = c.in_ok-texts.ensures.held to_then.0 to_then.1 now.settings.array first_one (live_offers book now.last b) (held_then.buckets b within) in
            let items : news ≡ drop (judged_at now b) list = same_offers news live (are.entries_are ∙ sym entries_held) (are.texts_are ∙ texts_held) ∙ live_waits _ now book held drum b within in
            let more = waits_more book held.book_is.is_book held.book_is.dropped (cut_long _ now book held) b within in
            let cut : get_or (judged_cut book) b 0 ≡ judged_at now b = ap (λ (l : List ℕ). get_or l b 0) (cut_held _ now book held) in
            ap (λ (l : List Tuple). l ++ news) (j.of_book files is book holds) ∙ ap (λ (l : List Tuple). waiting book b ++ l) items ∙ sym (more ∙ ap (λ (n : ℕ). waiting book b ++ drop n list) cut);
      };
      read =
          let more = c.in_ok-verdicts.ensures.passes.read in
          let file = (cache_front now).file in
          let took = subst (λ (f : ℕ). TakesOf f (16 * (read_of c.sweep.new.self.reader - read_of sides.reader)) (g.S.Store.told c.pending_of.new.store).taken (g.S.Store.told c.sweep.new.store).taken)
          of.from (takes_of_exactly sides.reader.file _ _ _ more.1) in
          let first = takes_of_both file _ 0 _ _ _ before.read (takes_of_other (bucket_at now b).journal.file file _ _
          (λ e. omega (arith, e, (drum.buckets b lt).journal)) c.in_ok-pending.ensures.reads.taken) in
          let second = takes_of_both file _ _ _ _ _ first took in
          let third = takes_of_both file _ 0 _ _ _ second (takes_of_other (bucket_at now b).aux.file file _ _ (λ e. omega (arith, e, (drum.buckets b lt).aux)) c.in_ok-texts.ensures.reads.taken) in
          let fourth = takes_of_both file _ 0 _ _ _ third (takes_of_none file _ _ c.tell.ensures.others.taken) in
          let all : (((16 * read_of sides.reader + 0) + 16 * (read_of c.sweep.new.self.reader - read_of sides.reader)) + 0) + 0 ≡ 16 * read_of c.sweep.new.self.reader = omega (arith, more.0) in
          subst (λ (n : ℕ). TakesOf file n (g.S.Store.told c.args.store.now).taken (g.S.Store.told c.tell.new.store).taken) all fourth;
    }

pub returns-clause-judged : goal.returns-clause-judged
returns-clause-judged g c =
    let tells = g.S.Store.told in
    let all : c.loop-b.b ≡ c.args.self.now.settings.buckets = search rules in
    subst (λ (n : ℕ). HasJudged c.args.self.now n (tells c.args.store.now) (tells c.loop-b.store).files c.loop-b.sides c.loop-b.telling) all c.loop-b.invariant.judged

pub returns-clause-judges : goal.returns-clause-judges
returns-clause-judges g c = record {
  spoilt = λ f at e. absurd (cc);
  whole = λ f at e. absurd (cc);
  full = λ n e. cc;
  writes = on_for c.args.self.now ⊥ _ _ _ (λ e. cc) c.loop-b.invariant.writes;
}
