-- It reads and writes, the side that isn't live is emptied, and then the record stands in the manifest.
use Rattle.std.proofs.Common.{rules, ◌≡◌, ◌∙◌, ◌+◌, ◌*◌, ℕ, [], refl, sym, ap, subst, arith}
use Rattle.std.proofs.lemmas.Result.{err_from_is_err_and}
use Rattle.std.specs.Option.{ForSome}
use Rattle.irl_model.specs.Book.{Book, merged}
use Rattle.irl_disk.specs.Images.{Told}
use Rattle.irl_disk.specs.Taken.{TakesAmong, TakesOf}
use Rattle.irl_base.specs.Faults.{HasCause}
use Rattle.irl_layout.specs.BayFiles.{IsFileOf}
use Rattle.irl_bay.specs.Merges.{MergeMayLeave}
use Rattle.irl_journal.specs.Appending.{IsOpen}
use Rattle.irl_bay.specs.declared.bay.Bay.TheInside.{Inside}
use Rattle.irl_layout.specs.Commits.{Commit}
use Rattle.irl_bay.specs.Drum.{CountsMerge, Drum, IsDrum, bucket_at, cache_front}
use Rattle.irl_bay.specs.Holding.{Holds, IsLong}
use Rattle.irl_bay.specs.Merging.{HasRoom, next_commit, with_commit}
use Rattle.irl_bay.proofs.BatchWrites.{writes_of}
use Rattle.irl_bay.proofs.DrumFiles.{takes_of_both, takes_of_none}
use Rattle.irl_bay.proofs.Judges.{long_kept}
use Rattle.irl_bay.proofs.Keeping.{IsMerging, IsPrepared, drum_failed, error_of, holds_on, holds_said, long_said, manifest_long, merge_cuts, merge_empties, merge_holds, merge_long, merging_appended, merging_emptied, merging_none, merging_written, prepared, writes_none, written_spares}
use Rattle.irl_bay.proofs.Merged.{counts_merged}
use Rattle.irl_bay.proofs.bay.Bay.merge.Given.{Over}
use Rattle.irl_bay.proofs.bay.Bay.merge.Goals.{After-empty_side, After-judge, After-append_commit, In_ok-append_commit}
use Rattle.irl_bay.proofs.bay.Bay.merge.Goals as goal

abbrev drum_of : Inside → Drum
drum_of b = record { base = b.base; settings = b.settings; is_sound = b.is_sound; manifest = b.manifest; last = b.last; cuts = b.cuts; buckets = b.buckets.items }

-- ---- what each ending leaves
-- while it is judged
judged : (g : Over) (c : After-judge g) → IsMerging c.args.self.now (g.S.Store.told c.args.store.now) (g.S.Store.told c.judge.new.store)
judged g c = merging_written c.args.self.now (g.S.Store.told c.args.store.now) (g.S.Store.told c.judge.new.store) (rw c.self.view_is at c.self.invariant)
    (writes_of c.args.self.now _ _ _ c.judge.ensures.judges.writes)

-- the bay holds its book then
holds_judged : (g : Over) (c : After-judge g) (book : Book) → Holds (g.S.Store.told c.args.store.now).images c.args.self.now book → Holds (g.S.Store.told c.judge.new.store).images c.args.self.now book
holds_judged g c book holds =
    let now = c.args.self.now in
    let law : IsDrum now = rw c.self.view_is at c.self.invariant in
    let a = g.S.Store.told c.args.store.now in
    let b = g.S.Store.told c.judge.new.store in
    holds_on now a b law (written_spares now a b law c.judge.ensures.judges.writes.stops) book (g.met.S.Store.is_consistent c.judge.new.store) holds

-- while the other side is emptied
emptied : (g : Over) (c : After-empty_side g) → IsMerging c.args.self.now (g.S.Store.told c.args.store.now) (g.S.Store.told c.empty_side.new.store)
emptied g c =
    let tells = g.S.Store.told in
    merging_emptied c.args.self.now (tells c.args.store.now) (tells c.judge.new.store) (tells c.empty_side.new.store) (rw c.self.view_is at c.self.invariant)
    (g.met.S.Store.is_consistent c.judge.new.store) (writes_of c.args.self.now _ _ _ c.judge.ensures.judges.writes) c.empty_side.ensures.others.told c.empty_side.ensures.others.stops

-- and then kept
before_keep : (g : Over) (c : After-append_commit g) → IsPrepared c.args.self.now c.in-Ok.ensures.judged.batch c.in-Ok.next (g.S.Store.told c.args.store.now) (g.S.Store.told c.empty_side.new.store)
before_keep g c =
    let tells = g.S.Store.told in
    let laws = g.met.S.Store.is_consistent in
    prepared c.args.self.now c.in-Ok.next (tells c.args.store.now) (tells c.judge.new.store) (tells c.empty_side.new.store) (rw c.self.view_is at c.self.invariant) c.requires.sound c.requires.pending
    (laws c.judge.new.store) (laws c.empty_side.new.store) (writes_of c.args.self.now _ _ _ c.judge.ensures.judges.writes)
    c.in-Ok.ensures.judged c.empty_side.ensures.others.told c.empty_side.ensures.others.stops c.in-Ok-empty_side.ensures.holds

kept : (g : Over) (c : After-append_commit g) → IsMerging c.args.self.now (g.S.Store.told c.args.store.now) (g.S.Store.told c.append_commit.new.store)
kept g c =
    let tells = g.S.Store.told in
    let laws = g.met.S.Store.is_consistent in
    merging_appended c.args.self.now c.in-Ok.ensures.judged.batch c.in-Ok.next (tells c.args.store.now) (tells c.empty_side.new.store) (tells c.append_commit.new.store) (before_keep g c)
    (laws c.args.store.now) (laws c.empty_side.new.store) c.append_commit.ensures.appends.others.stops (λ payloads is_open. (c.append_commit.ensures.appends.changes payloads is_open).stops)
    c.append_commit.ensures.appends.others.told

committed : (g : Over) (c : In_ok-append_commit g) → c.append_commit.new.self ≡ with_commit c.append_commit.new.self.manifest (next_commit c.args.self.now c.in-Ok.ensures.judged.batch) c.args.self.now
committed g c = c.in_ok-append_commit.ensures.value ∙ ap (λ (next : Commit). with_commit c.append_commit.new.self.manifest next c.args.self.now) c.in-Ok.ensures.judged.synced.next_is

-- what a stop leaves then
leaves : (failed : Type 0) (drum : Drum) (a b : Told) → IsMerging drum a b → TakesAmong (IsFileOf drum.base drum.settings.buckets) a.taken b.taken → HasCause failed a.faults b.faults
    → MergeMayLeave failed drum a b
leaves failed drum a b merging taken cause = record {
  stops = merging.stops;
  records = merging.records_stop;
  others = record { told = merging.others; stops = merging.others_stop; taken = taken; cause = cause };
}

-- ---- each clause
-- no memory for the frame
pub returns-in_err-frame-clause-refused : goal.returns-in_err-frame-clause-refused
returns-in_err-frame-clause-refused g c =
    let none = writes_none c.args.self.now (g.S.Store.told c.args.store.now) (g.met.S.Store.is_consistent c.args.store.now) in
    record {
      counts = search rules;
      memory = λ is. record { same = refl; holds = λ book holds. holds; writes = none };
      damaged = λ f at is. record { same = refl; holds = λ book holds. holds; writes = none };
      spoilt = search rules;
      whole = search rules;
      full = search rules;
    }

pub returns-in_err-frame-clause-leaves : goal.returns-in_err-frame-clause-leaves
returns-in_err-frame-clause-leaves g c =
    let tells = g.S.Store.told c.args.store.now in
    leaves _ c.args.self.now tells tells (merging_none c.args.self.now tells (rw c.self.view_is at c.self.invariant) (g.met.S.Store.is_consistent c.args.store.now)) (search rules) (search rules)

-- or for the buckets
pub returns-in_err-buckets-clause-refused : goal.returns-in_err-buckets-clause-refused
returns-in_err-buckets-clause-refused g c =
    let none = writes_none c.args.self.now (g.S.Store.told c.args.store.now) (g.met.S.Store.is_consistent c.args.store.now) in
    record {
      counts = search rules;
      memory = λ is. record { same = refl; holds = λ book holds. holds; writes = none };
      damaged = λ f at is. record { same = refl; holds = λ book holds. holds; writes = none };
      spoilt = search rules;
      whole = search rules;
      full = search rules;
    }

pub returns-in_err-buckets-clause-leaves : goal.returns-in_err-buckets-clause-leaves
returns-in_err-buckets-clause-leaves g c =
    let tells = g.S.Store.told c.args.store.now in
    leaves _ c.args.self.now tells tells (merging_none c.args.self.now tells (rw c.self.view_is at c.self.invariant) (g.met.S.Store.is_consistent c.args.store.now)) (search rules) (search rules)

-- it couldn't be judged
pub returns-in-Err-clause-refused : goal.returns-in-Err-clause-refused
returns-in-Err-clause-refused g c =
    let after = (goal.at.returns-in-Err-clause-refused g c).After-judge in
    record {
      counts = search rules;
      memory = λ is. record {
        same = search rules;
        holds = λ book holds. let held = holds_judged g after book holds in holds_said _ (drum_of c.self.inside) _ book
            (rw (← c.self.view_is) at held);
        writes = writes_of c.args.self.now _ _ _ c.judge.ensures.judges.writes;
      };
      damaged = λ f at is. record {
        same = search rules;
        holds = λ book holds. let held = holds_judged g after book holds in holds_said _ (drum_of c.self.inside) _ book
            (rw (← c.self.view_is) at held);
        writes = writes_of c.args.self.now _ _ _ c.judge.ensures.judges.writes;
      };
      spoilt = λ f at is. c.in-Err.ensures.judges.spoilt f at (error_of c.in-Err.fault _ is);
      whole = λ f at is. c.in-Err.ensures.judges.whole f at (error_of c.in-Err.fault _ is);
      full = search rules;
    }

pub returns-in-Err-clause-leaves : goal.returns-in-Err-clause-leaves
returns-in-Err-clause-leaves g c =
    let tells = g.S.Store.told in
    leaves _ c.args.self.now (tells c.args.store.now) (tells c.judge.new.store) (judged g (goal.at.returns-in-Err-clause-leaves g c).After-judge) (search rules) (search rules)

pub returns-in-Err-clause-goes_on : goal.returns-in-Err-clause-goes_on
returns-in-Err-clause-goes_on g c = record {
  drum = search rules;
  sound = search rules;
  long = λ yes.
      let tells = g.S.Store.told in
      let now = c.args.self.now in
      let law : IsDrum now = rw c.self.view_is at c.self.invariant in
      let long = long_kept now (tells c.args.store.now) (tells c.judge.new.store) law (writes_of c.args.self.now _ _ _ c.judge.ensures.judges.writes) c.requires.long in
      long_said (drum_of c.self.inside) _ (tells c.judge.new.store).files (rw (← c.self.view_is) at long);
}

-- the side couldn't be emptied
pub invariant_of-self-in-Err-empty_side : goal.invariant_of-self-in-Err-empty_side
invariant_of-self-in-Err-empty_side g c = drum_failed (drum_of c.self.inside) c.self.invariant

pub returns-in-Err-empty_side-clause-leaves : goal.returns-in-Err-empty_side-clause-leaves
returns-in-Err-empty_side-clause-leaves g c =
    let tells = g.S.Store.told in
    leaves _ c.args.self.now (tells c.args.store.now) (tells c.empty_side.new.store) (emptied g (goal.at.returns-in-Err-empty_side-clause-leaves g c).After-empty_side) (search rules) (search rules)

pub returns-in-Err-empty_side-clause-goes_on : goal.returns-in-Err-empty_side-clause-goes_on
returns-in-Err-empty_side-clause-goes_on g c = record {
  drum = drum_failed (drum_of c.self.inside) c.self.invariant;
  sound = search rules;
  long = λ no. absurd (cc);
}

-- it is judged and emptied
pub append_commit-requires-clause-commit : goal.append_commit-requires-clause-commit
append_commit-requires-clause-commit g c =
    let j = c.in-Ok.ensures.judged in
    record {
      room = subst (HasRoom c.args.self.now.settings.buckets) (sym j.synced.next_is) j.synced.room;
      cut = ap (λ (x : Commit). x.cut) j.synced.next_is ∙ j.fits.cut;
      live = ap (λ (x : Commit). x.live) j.synced.next_is;
      buckets_are = c.in-Ok-empty_side.ensures.buckets;
    }

pub append_commit-requires-clause-long : goal.append_commit-requires-clause-long
append_commit-requires-clause-long g c =
    let tells = g.S.Store.told in
    let now = c.args.self.now in
    let law : IsDrum now = rw c.self.view_is at c.self.invariant in
    let a = tells c.args.store.now in
    let b = tells c.judge.new.store in
    let d = tells c.empty_side.new.store in
    manifest_long now b.files d.files law (long_kept now a b law (writes_of c.args.self.now _ _ _ c.judge.ensures.judges.writes) c.requires.long) c.empty_side.ensures.others.told

-- the record couldn't be appended
pub returns-in_err-append_commit-clause-refused : goal.returns-in_err-append_commit-clause-refused
returns-in_err-append_commit-clause-refused g c =
    let out = err_from_is_err_and c.from_residual-in_err-append_commit.result c.from_residual-in_err-append_commit.ensures.1 in
    record {
      counts = rw out.1 c.in_err-append_commit.ensures.counts_kept;
      memory = λ is. let no = rw (out.1, out.2) at is in absurd (cc);
      damaged = λ f at is. let no = rw (out.1, out.2) at is in absurd (cc);
      spoilt = λ f at is. let no = rw (out.1, out.2) at is in absurd (cc);
      whole = λ f at is. let no = rw (out.1, out.2) at is in absurd (cc);
      full = λ n is. let no = rw (out.1, out.2) at is in cc;
    }

pub returns-in_err-append_commit-clause-goes_on : goal.returns-in_err-append_commit-clause-goes_on
returns-in_err-append_commit-clause-goes_on g c = record {
  drum = c.append_commit.ensures.drum;
  sound = search rules;
  long = λ yes. let ok = c.in_err-append_commit.ensures.sound.0 yes in absurd (cc);
}

pub returns-in_err-append_commit-clause-leaves : goal.returns-in_err-append_commit-clause-leaves
returns-in_err-append_commit-clause-leaves g c =
    let tells = g.S.Store.told in
    leaves _ c.args.self.now (tells c.args.store.now) (tells c.append_commit.new.store) (kept g (goal.at.returns-in_err-append_commit-clause-leaves g c).After-append_commit) (search rules) (record {
      later = omega (arith, c.judge.ensures.judges.writes.cause.later, c.empty_side.ensures.others.cause.later, c.append_commit.ensures.appends.others.cause.later);
      rose = λ is. omega (arith, c.judge.ensures.judges.writes.cause.later, c.empty_side.ensures.others.cause.later, c.in_err-append_commit.ensures.appends.others.cause.rose refl);
    })

-- and kept
pub returns-clause-merges : goal.returns-clause-merges
returns-clause-merges g c =
    let tells = g.S.Store.told in
    let now = c.args.self.now in
    let a = tells c.args.store.now in
    let d = tells c.empty_side.new.store in
    let e = tells c.append_commit.new.store in
    let law_e = g.met.S.Store.is_consistent c.append_commit.new.store in
    let law : IsDrum now = rw c.self.view_is at c.self.invariant in
    let j = c.in-Ok.ensures.judged in
    let is = committed g (goal.at.returns-clause-merges g c).In_ok-append_commit in
    let p = before_keep g (goal.at.returns-clause-merges g c).After-append_commit in
    let file = (cache_front now).file in
    let many : 16 * now.last.entries + 0 ≡ 16 * now.last.entries = omega arith in
    record {
      holds = λ files told book holds. subst (λ (new : Drum). Holds e.images new (merged book)) (sym is)
          (merge_holds now j.batch c.in-Ok.next c.append_commit.new.self.manifest a d e p law_e c.append_commit.ensures.appends.others.stops c.in_ok-append_commit.ensures.appends.acknowledged files
          told book holds);
      counts = subst (λ (new : Drum). CountsMerge now new) (sym is) (counts_merged now j.batch c.append_commit.new.self.manifest p.law p.fits);
      value = search rules;
      emptied = λ n within. subst (λ (new : Drum). IsOpen e.images (bucket_at new n).journal []) (sym c.in_ok-append_commit.ensures.value)
          (merge_empties now c.in-Ok.next c.append_commit.new.self.manifest d e n law within law_e c.in-Ok-empty_side.ensures.holds c.append_commit.ensures.appends.others.stops);
      cut = merge_cuts now d.files e.files law c.in-Ok-empty_side.ensures.empty c.append_commit.ensures.appends.others.told;
      read = subst (λ (n : ℕ). TakesOf file n a.taken e.taken) many
          (takes_of_both file _ 0 _ _ _ c.in-Ok.ensures.read (takes_of_none file _ _ (c.append_commit.ensures.appends.others.taken ∙ c.empty_side.ensures.others.taken)));
    }

pub returns-clause-leaves : goal.returns-clause-leaves
returns-clause-leaves g c =
    let tells = g.S.Store.told in
    leaves _ c.args.self.now (tells c.args.store.now) (tells c.append_commit.new.store) (kept g (goal.at.returns-clause-leaves g c).After-append_commit) (search rules) (search rules)

pub returns-clause-goes_on : goal.returns-clause-goes_on
returns-clause-goes_on g c = record {
  drum = c.append_commit.ensures.drum;
  sound = search rules;
  long = λ yes.
      let tells = g.S.Store.told in
      let e = tells c.append_commit.new.store in
      let j = c.in-Ok.ensures.judged in
      subst (λ (new : Drum). ForSome e.files (λ files. IsLong new files)) (sym (committed g (goal.at.returns-clause-goes_on g c).In_ok-append_commit))
      (merge_long c.args.self.now j.batch c.append_commit.new.self.manifest (tells c.judge.new.store).files (tells c.empty_side.new.store).files e.files
      (rw c.self.view_is at c.self.invariant) j.synced.long c.empty_side.ensures.others.told c.in-Ok-empty_side.ensures.empty
      c.append_commit.ensures.appends.others.told c.in_ok-append_commit.ensures.long_kept);
}
