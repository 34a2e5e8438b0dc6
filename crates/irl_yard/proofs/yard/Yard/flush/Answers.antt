use Rattle.std.proofs.Common.{◌++◌, ◌∷◌, [], inl, refl, ap}
use Rattle.irl_model.specs.Book.{flushed}
use Rattle.irl_events.specs.State.{State}
use Rattle.irl_layout.specs.BayFiles.{IsBucketFile}
use Rattle.irl_layout.specs.Commits.{live_side}
use Rattle.irl_layout.specs.Runs.{run_bytes}
use Rattle.irl_bay.proofs.Apart.{bucket_files}
use Rattle.irl_bay.proofs.DrumFiles.{live_low}
use Rattle.irl_schedule.proofs.Journals.{journal_stays, records_stay, gains_stay, buckets_apart, manifest_apart}
use Rattle.irl_schedule.proofs.Counts.{flushed_grow, kept_grow}
use Rattle.irl_schedule.proofs.Outcomes.{by_answer, unless_failed}
use Rattle.irl_yard.specs.Holding.{HoldsState}
use Rattle.irl_yard.proofs.Beside.{rest_beside, state_after}
use Rattle.irl_yard.proofs.ByKind.{follows_flushed, rest_follows}
use Rattle.irl_yard.proofs.Holding.{AreOfUrls, stops_one_of, on_ok_both}
use Rattle.irl_yard.proofs.Journals.{journal_same, flush_keeps}
use Rattle.irl_yard.proofs.yard.Yard.flush.Goals as goal

pub flush-requires-clause-long : goal.flush-requires-clause-long
flush-requires-clause-long g c = λ files told. c.args.self.now.long c.requires.sound.0 files told

pub invariant_of-self : goal.invariant_of-self
invariant_of-self g c =
    let was = c.args.self.now.parts.urls in
    let law = c.is_sound-is_sound.ensures.drum in
    let are : AreOfUrls was (IsBucketFile was.base (live_side was.last) c.args.b) =
    λ f is. bucket_files was.base was.settings.buckets (live_side was.last) c.args.b f c.requires.offers.bucket is (live_low was.last.live law.last.live) in
    let same = flush_keeps c.flush.result _ _ was c.flush.new.self c.flush.ensures.flushes.counts c.flush.ensures.refused.counts in
    record {
      long = c.flush.ensures.goes_on.long;
      rest_is = rest_beside _ _ _ was c.flush.new.self c.args.self.now.parts.rest law are c.flush.ensures.leaves.others.told same.0 same.1
          (by_answer c.flush.result c.flush.ensures.flushes.counts c.flush.ensures.refused.counts
          (λ counts. flushed_grow c.args.b _ was c.flush.new.self law c.requires.offers.bucket counts) (λ counts. kept_grow was c.flush.new.self counts)) c.args.self.now.rest_is;
    }

pub returns-clause-states : goal.returns-clause-states
returns-clause-states g c =
    let old = g.S.Store.told c.args.self.now.store in
    let new = g.S.Store.told c.flush.new.store in
    let parts = c.args.self.now.parts in
    let was = parts.urls in
    let now = c.flush.new.self in
    let b = c.args.b in
    let news = c.args.array.now.items in
    let law = c.is_sound-is_sound.ensures.drum in
    let lawful = g.met.S.Store.is_consistent in
    let ok = c.flush.ensures.flushes in
    let refused = c.flush.ensures.refused in
    let leaves = c.flush.ensures.leaves in
    let others = leaves.others.stops in
    let are : AreOfUrls was (IsBucketFile was.base (live_side was.last) b) =
    λ f is. bucket_files was.base was.settings.buckets (live_side was.last) b f c.requires.offers.bucket is (live_low was.last.live law.last.live) in
    let follows = λ (state : State) (holds : HoldsState old.images parts state).
    follows_flushed was.settings state.pairs state.events was.settings.kind b news state.urls c.requires.taken holds.urls.legal in
    let legal = λ (state : State) (holds : HoldsState old.images parts state). rest_follows was.settings state.pairs state.events was.settings.kind state.urls (flushed b news state.urls)
    holds.urls.urls_hold.book_is.is_book (follows state holds) holds.urls.legal in
    record {
      holds = on_ok_both c.flush.result ok.holds ok.counts (λ gives counts state holds.
          state_after _ old new parts _ state (flushed b news state.urls) law (lawful c.flush.new.store) are others c.args.self.now.rest_is counts.base counts.settings refl holds (follows state holds)
          (gives state.urls holds.urls.urls_hold));
      stops = λ state holds.
          stops_one_of _ old new was state (flushed b news state.urls) law are holds.urls (legal state holds) (leaves.stops state.urls holds.urls.urls_hold);
      -- a stop leaves the bucket's own live journal as it was, or with one record more
      gains = λ state payloads holds has.
          gains_stay old new was state.urls b payloads (payloads ++ run_bytes news ∷ []) law holds.urls.urls_hold others (leaves.gains payloads has);
      -- the live journal of another bucket ends where it did
      records = λ sound state other payloads differs within holds has.
          unless_failed c.flush.result _ (λ failed. let no = c.flush.ensures.goes_on.sound.1 failed in cc)
          (on_ok_both c.flush.result ok.holds ok.counts (λ gives counts.
          journal_stays _ old new was now (flushed b news state.urls) other payloads law c.flush.ensures.goes_on.drum (lawful c.flush.new.store) within
          (buckets_apart was.base (live_side was.last) other b _ differs (inl refl)) others counts.base counts.settings counts.last (gives state.urls holds.urls.urls_hold) has))
          (λ is. journal_same old new was now other payloads (ap g.S.Store.told (refused.memory_same is).0) (refused.memory_same is).1 has)
          (λ n is. journal_same old new was now other payloads (ap g.S.Store.told (refused.full_same n is).0) (refused.full_same n is).1 has)
          (λ f at is. absurd (refused.damaged f at is));
      records_stop = λ state other payloads differs within holds has.
          records_stay _ old new was state.urls other payloads law holds.urls.urls_hold within
          (buckets_apart was.base (live_side was.last) other b _ differs (inl refl)) (manifest_apart was.base (live_side was.last) b) others has;
    }
