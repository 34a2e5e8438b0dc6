-- One bucket after the other is opened, and the others stay as they are.
use Rattle.std.proofs.Common.{◌≡◌, ◌∙◌, ℕ, ◌+◌, List, length, refl, ap, subst, arith, rules, [], ◌∷◌, length-append}
use Rattle.std.proofs.lemmas.Result.{err_from_is_err_and}
use Rattle.irl_disk.specs.Disk.{Changes, ChangesFile}
use Rattle.irl_disk.specs.Images.{LeavesBy}
use Rattle.irl_disk.specs.Taken.{TakesOnly}
use Rattle.irl_disk.proofs.Frames.{takes_both, takes_only}
use Rattle.irl_journal.specs.Visiting.{IsOpened}
use Rattle.irl_layout.specs.BayFiles.{file_of}
use Rattle.irl_layout.specs.declared.commit.Live.{Live}
use Rattle.irl_layout.specs.declared.files.BayFile.TheVariants.{Journal}
use Rattle.irl_layout.specs.Commits.{live_at, live_side}
use Rattle.irl_bay.specs.declared.bucket.Bucket.{Bucket}
use Rattle.irl_bay.specs.Damage.{IsDamagedBucket}
use Rattle.irl_bay.specs.Drum.{no_bucket}
use Rattle.irl_bay.specs.Opening.{IsJournalBelow, OpensBucket}
use Rattle.irl_bay.proofs.Adopting.{tells_more, stops_more, tells_wider, stops_wider, each_item, damaged_back, side_fits, opened_on, opened_back}
use Rattle.irl_bay.proofs.adopt.open_buckets.Goals as goal

pub adopt-requires-clause-side : goal.adopt-requires-clause-side
adopt-requires-clause-side g c =
    let side : c.live_of.result.side ≡ live_side c.args.last.now = ap (λ (live : Live). live.side) c.live_of.ensures in
    omega (arith, side, side_fits c.args.settings.now.buckets c.args.last.now c.requires.commit)

pub returns-in_err-bucket-clause-refused : goal.returns-in_err-bucket-clause-refused
returns-in_err-bucket-clause-refused g c = record {
  damaged = λ f at e files tells.
      let out = err_from_is_err_and c.from_residual-in_err-bucket.result c.from_residual-in_err-bucket.ensures.1 in
      let is = rw (out.1, out.2) at e in
      let mid = rw tells at c.loop-b.invariant.files in
      let side : c.live_of.result.side ≡ live_side c.args.last.now = ap (λ (live : Live). live.side) c.live_of.ensures in
      let named = c.in_err-bucket.ensures.refused.damaged f at (search rules) mid.0 mid.1 in (
        c.loop-b.b,
        c.loop-b-test.true,
        λ k below. let whole = (c.loop-b.invariant.opened k below).found files tells in (whole.runs, whole.has, whole.texts),
        damaged_back c.args.base (live_side c.args.last.now) c.args.settings.now c.loop-b.b files mid.0 f at mid.2
            (subst (λ (s : ℕ). IsDamagedBucket c.args.base s c.args.settings.now c.loop-b.b mid.0 f at) side named),
      );
  full = search rules;
}

pub returns-in_err-bucket-clause-changes : goal.returns-in_err-bucket-clause-changes
returns-in_err-bucket-clause-changes g c =
    let tell = g.S.Store.told in
    let base = c.args.base in
    let side = live_side c.args.last.now in
    let b = c.loop-b.b in
    let n = c.args.settings.now.buckets in
    let same : c.live_of.result.side ≡ side = ap (λ (live : Live). live.side) c.live_of.ensures in
    let step = c.in_err-bucket.ensures.changes in
    record {
      told = tells_wider base side (b + 1) n (tell c.args.store.now).files (tell c.adopt.new.store).files (omega (arith, c.loop-b-test.true))
          (tells_more base side b (tell c.args.store.now).files (tell c.loop-b.store).files (tell c.adopt.new.store).files c.loop-b.invariant.files
          (subst (λ (s : ℕ). Changes (file_of base 0 (Journal s b)) IsOpened (tell c.loop-b.store).files (tell c.adopt.new.store).files) same step.told));
      stops = stops_wider base side (b + 1) n (tell c.args.store.now) (tell c.adopt.new.store) (omega (arith, c.loop-b-test.true))
          (stops_more base side b (tell c.args.store.now) (tell c.loop-b.store) (tell c.adopt.new.store) (g.met.S.Store.is_consistent c.loop-b.store) c.loop-b.invariant.stops
          (subst (λ (s : ℕ). LeavesBy (ChangesFile (file_of base 0 (Journal s b)) IsOpened) (tell c.loop-b.store) (tell c.adopt.new.store)) same step.stops));
      taken = takes_both (IsJournalBelow base side n) _ _ _ c.loop-b.invariant.taken
          (takes_only (IsJournalBelow base side n) (file_of base 0 (Journal side b)) _ _ (b, c.loop-b-test.true, refl)
          (subst (λ (s : ℕ). TakesOnly (file_of base 0 (Journal s b)) ((tell c.loop-b.store).taken) (tell c.adopt.new.store).taken) same step.taken));
      cause = search rules;
    }

pub loop-b-preserved : goal.loop-b-preserved
loop-b-preserved g c =
    let tell = g.S.Store.told in
    let law = g.met.S.Store.is_consistent in
    let before = c.loop-b.invariant in
    let base = c.args.base in
    let settings = c.args.settings.now in
    let last = c.args.last.now in
    let b = c.loop-b.b in
    let items = c.loop-b.buckets.items in
    let new = c.push_reserved.new.self.items in
    let bucket = c.in_ok-bucket.bucket in
    let side : ℕ = live_side last in
    let live : c.live_of.result ≡ live_at settings.buckets last b = c.live_of.ensures ∙ ap (λ (n : ℕ). live_at n last b) c.requires.commit.count in
    let same : c.live_of.result.side ≡ side = ap (λ (l : Live). l.side) live in
    let step = c.in_ok-bucket.ensures.changes in
    let changes = subst (λ (s : ℕ). Changes (file_of base 0 (Journal s b)) IsOpened (tell c.loop-b.store).files (tell c.adopt.new.store).files) same step.told in
    let stops = subst (λ (s : ℕ). LeavesBy (ChangesFile (file_of base 0 (Journal s b)) IsOpened) (tell c.loop-b.store) (tell c.adopt.new.store)) same step.stops in
    let opened = subst (λ (l : Live). OpensBucket base settings b l (tell c.loop-b.store) (tell c.adopt.new.store) bucket) live c.in_ok-bucket.ensures.opened in
    record {
      count = omega (arith, before.count, ap (λ (l : List Bucket). length l) c.push_reserved.ensures.items, length-append items (bucket ∷ []));
      room = omega (arith, before.room, c.push_reserved.ensures.capacity);
      opened = each_item (λ k one. OpensBucket base settings k (live_at settings.buckets last k) (tell c.args.store.now) (tell c.adopt.new.store) one) items new bucket no_bucket b before.count
          c.push_reserved.ensures.items
          (λ k below. opened_on base b k settings (live_at settings.buckets last k) _ (tell c.args.store.now) (tell c.loop-b.store) (tell c.adopt.new.store) (law c.adopt.new.store) below changes stops
          (before.opened k below))
          (opened_back base b settings (live_at settings.buckets last b) bucket (tell c.args.store.now) (tell c.loop-b.store) (tell c.adopt.new.store) before.files opened);
      files = tells_more base side b (tell c.args.store.now).files (tell c.loop-b.store).files (tell c.adopt.new.store).files before.files changes;
      stops = stops_more base side b (tell c.args.store.now) (tell c.loop-b.store) (tell c.adopt.new.store) (law c.loop-b.store) before.stops stops;
      taken = takes_both (IsJournalBelow base side settings.buckets) _ _ _ before.taken
          (takes_only (IsJournalBelow base side settings.buckets) (file_of base 0 (Journal side b)) _ _ (b, c.loop-b-test.true, refl)
          (subst (λ (s : ℕ). TakesOnly (file_of base 0 (Journal s b)) ((tell c.loop-b.store).taken) (tell c.adopt.new.store).taken) same step.taken));
      later = omega (arith, before.later, step.cause.later);
    }

pub returns-clause-opened : goal.returns-clause-opened
returns-clause-opened g c = λ b below. c.loop-b.invariant.opened b (omega (arith, below, c.loop-b-test.false))
