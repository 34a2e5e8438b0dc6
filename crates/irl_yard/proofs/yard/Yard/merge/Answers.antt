use Rattle.std.proofs.Common.{ap, refl}
use Rattle.irl_model.specs.Book.{merged}
use Rattle.irl_events.specs.State.{State}
use Rattle.irl_bay.specs.Drum.{Drum}
use Rattle.irl_bay.proofs.Apart.{merge_files}
use Rattle.irl_schedule.proofs.Counts.{kept_grow, merged_grow}
use Rattle.irl_schedule.proofs.Outcomes.{by_answer}
use Rattle.irl_yard.specs.Holding.{HoldsState}
use Rattle.irl_yard.proofs.Beside.{rest_beside, state_after}
use Rattle.irl_yard.proofs.ByKind.{follows_merged, follows_same, rest_follows}
use Rattle.irl_yard.proofs.Holding.{stops_one_of, on_ok_both}
use Rattle.irl_yard.proofs.Journals.{merge_keeps, merge_stays, unless_ok}
use Rattle.irl_yard.proofs.yard.Yard.merge.Goals as goal

pub merge-requires-clause-long : goal.merge-requires-clause-long
merge-requires-clause-long g c = λ files told. c.args.self.now.long c.requires.sound.0 files told

pub invariant_of-self : goal.invariant_of-self
invariant_of-self g c =
    let was = c.args.self.now.parts.urls in
    let same = merge_stays c.merge.result was c.merge.new.self c.merge.ensures.merges.counts c.merge.ensures.refused.counts in
    record {
      long = c.merge.ensures.goes_on.long;
      rest_is = rest_beside _ _ _ was c.merge.new.self c.args.self.now.parts.rest c.is_sound-is_sound.ensures.drum (merge_files was) c.merge.ensures.leaves.others.told same.0 same.1
          (by_answer c.merge.result c.merge.ensures.merges.counts c.merge.ensures.refused.counts (λ counts. merged_grow was c.merge.new.self counts) (λ counts. kept_grow was c.merge.new.self counts))
          c.args.self.now.rest_is;
    }

pub returns-clause-states : goal.returns-clause-states
returns-clause-states g c =
    let lawful = g.met.S.Store.is_consistent in
    let old = g.S.Store.told c.args.self.now.store in
    let new = g.S.Store.told c.merge.new.store in
    let parts = c.args.self.now.parts in
    let was = parts.urls in
    let now = c.merge.new.self in
    let law = c.is_sound-is_sound.ensures.drum in
    let merges = c.merge.ensures.merges in
    let refused = c.merge.ensures.refused in
    let leaves = c.merge.ensures.leaves in
    let others = leaves.others.stops in
    let follows = λ (state : State) (holds : HoldsState old.images parts state). follows_merged was.settings state.pairs state.events was.settings.kind state.urls holds.urls.legal in
    let same = λ (state : State) (holds : HoldsState old.images parts state). follows_same was.settings state.pairs state.events was.settings.kind state.urls holds.urls.legal in
    let legal = λ (state : State) (holds : HoldsState old.images parts state). rest_follows was.settings state.pairs state.events was.settings.kind state.urls (merged state.urls)
    holds.urls.urls_hold.book_is.is_book (follows state holds) holds.urls.legal in
    record {
      holds = on_ok_both c.merge.result merges.holds merges.counts (λ gives counts files told state holds.
          state_after _ old new parts _ state (merged state.urls) law (lawful c.merge.new.store) (merge_files was) others c.args.self.now.rest_is counts.base counts.settings refl holds
          (follows state holds) (gives files told state.urls holds.urls.urls_hold));
      -- want of memory and damage leave the state
      memory = λ is state holds.
          let kept = refused.memory is in
          state_after _ old new parts _ state state.urls law (lawful c.merge.new.store) (merge_files was) others c.args.self.now.rest_is (ap (λ (d : Drum). d.base) kept.same)
          (ap (λ (d : Drum). d.settings) kept.same) refl holds (same state holds) (kept.holds state.urls holds.urls.urls_hold);
      damaged = λ f at is state holds.
          let kept = refused.damaged f at is in
          state_after _ old new parts _ state state.urls law (lawful c.merge.new.store) (merge_files was) others c.args.self.now.rest_is (ap (λ (d : Drum). d.base) kept.same)
          (ap (λ (d : Drum). d.settings) kept.same) refl holds (same state holds) (kept.holds state.urls holds.urls.urls_hold);
      whole = λ f at is files told state holds. refused.whole f at is files told state.urls holds.urls.urls_hold;
      stops = λ state holds.
          stops_one_of _ old new was state (merged state.urls) law (merge_files was) holds.urls (legal state holds) (leaves.stops state.urls holds.urls.urls_hold);
      -- where it is refused, the live journals of the buckets end where they did
      records = unless_ok c.merge.result _ (λ failed sound. let no = c.merge.ensures.goes_on.sound.1 failed in absurd (cc))
          (λ is sound state b payloads within holds has.
          let kept = refused.memory is in
          merge_keeps old new was now state.urls b payloads law c.merge.ensures.goes_on.drum (lawful c.merge.new.store) within others kept.same (kept.holds state.urls holds.urls.urls_hold) has)
          (λ n is. absurd (refused.full n is))
          (λ f at is sound state b payloads within holds has.
          let kept = refused.damaged f at is in
          merge_keeps old new was now state.urls b payloads law c.merge.ensures.goes_on.drum (lawful c.merge.new.store) within others kept.same (kept.holds state.urls holds.urls.urls_hold) has);
      records_stop = λ state b payloads within holds has. leaves.records state.urls b payloads holds.urls.urls_hold within has;
    }
