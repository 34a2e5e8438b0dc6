-- The files are cut, and one journal after the other is made.
use Rattle.std.proofs.Common.{◌≡◌, ◌∙◌, ◌+◌, ◌-◌, ◌<◌, ℕ, inl, List, length, refl, sym, ap, subst, arith}
use Rattle.irl_bay.specs.declared.bucket.Bucket.{Bucket}
use Rattle.irl_layout.specs.declared.files.BayFile.TheVariants.{Journal}
use Rattle.irl_layout.specs.BayFiles.{file_of}
use Rattle.irl_layout.specs.Commits.{live_side}
use Rattle.irl_bay.specs.Drum.{Drum, IsDrum, durable_at}
use Rattle.irl_bay.specs.Merging.{emptied}
use Rattle.irl_bay.proofs.Emptied.{EmptiedSoFar, emptied_none, emptied_more, emptied_all, side_changes}
use Rattle.irl_bay.proofs.HeldBuckets.{same_bucket}
use Rattle.irl_bay.proofs.bay.Bay.empty_side.Goals as goal

pub loop-b-init : goal.loop-b-init
loop-b-init g c =
    let tells = g.S.Store.told in
    let now = c.args.self.now in
    let side_is : 1 - c.live_side-side.result ≡ 1 - live_side now.last = ap (λ (n : ℕ). 1 - n) (c.live_side-side.ensures ∙ ap (λ (d : Drum). live_side d.last) c.self.view_is) in
    record {
      made = subst (λ (side : ℕ). EmptiedSoFar now side now.settings.buckets (tells c.args.store.now) (tells c.cut_side.new.store) c.args.room.items 0) side_is
          (emptied_none now (1 - c.live_side-side.result) now.settings.buckets (tells c.args.store.now) (tells c.cut_side.new.store) c.args.room.items c.requires.none c.in_ok-cut_side.ensures.cut
          _ c.in_ok-cut_side.ensures.others);
      room = c.requires.room;
    }

-- a journal is refused
pub returns-in_err-make-clause-others : goal.returns-in_err-make-clause-others
returns-in_err-make-clause-others g c =
    let tells = g.S.Store.told in
    let now = c.args.self.now in
    let within : c.loop-b.b < now.settings.buckets = subst (λ (d : Drum). c.loop-b.b < d.settings.buckets) c.self.view_is c.loop-b-test.true in
    let base_is : c.self.inside.base ≡ now.base = ap (λ (d : Drum). d.base) c.self.view_is in
    let side_is : c.live_side-side.result ≡ live_side now.last = c.live_side-side.ensures ∙ ap (λ (d : Drum). live_side d.last) c.self.view_is in
    side_changes now.base (1 - live_side now.last) now.settings.buckets (file_of c.self.inside.base 0 (Journal (1 - c.live_side-side.result) c.loop-b.b)) c.loop-b.b within
    (inl (omega (arith, base_is, side_is))) _ _ _ _ (tells c.args.store.now) (tells c.loop-b.store) (tells c.make.new.store) (λ is. refl) (g.met.S.Store.is_consistent c.loop-b.store)
    c.loop-b.invariant.made.others c.make.ensures.changes.told c.make.ensures.changes.stops c.make.ensures.changes.taken c.in_err-make.ensures.changes.cause

pub loop-b-preserved : goal.loop-b-preserved
loop-b-preserved g c =
    let tells = g.S.Store.told in
    let laws = g.met.S.Store.is_consistent in
    let now = c.args.self.now in
    let law : IsDrum now = rw c.self.view_is at c.self.invariant in
    let inside = c.self.inside in
    let within : c.loop-b.b < now.settings.buckets = subst (λ (d : Drum). c.loop-b.b < d.settings.buckets) c.self.view_is c.loop-b-test.true in
    let base_is : inside.base ≡ now.base = ap (λ (d : Drum). d.base) c.self.view_is in
    let side_is : c.live_side-side.result ≡ live_side now.last = c.live_side-side.ensures ∙ ap (λ (d : Drum). live_side d.last) c.self.view_is in
    let durable_is : c.index.result.now.durable ≡ durable_at now c.loop-b.b =
    ap (λ (one : Bucket). one.durable) (same_bucket inside.buckets.items c.loop-b.b c.index.result.now (omega (arith, c.loop-b-test.true, c.self.invariant.count)) c.index.ensures)
    ∙ ap (λ (d : Drum). durable_at d c.loop-b.b) c.self.view_is in
    let bucket_is : c.in_ok-make.field-0 ≡ emptied now.base (1 - live_side now.last) c.loop-b.b (durable_at now c.loop-b.b) =
    c.in_ok-make.ensures.bucket ∙ ap (λ (n : ℕ). emptied n (1 - c.live_side-side.result) c.loop-b.b c.index.result.now.durable) base_is
    ∙ ap (λ (n : ℕ). emptied now.base (1 - n) c.loop-b.b c.index.result.now.durable) side_is ∙ ap (λ (n : ℕ). emptied now.base (1 - live_side now.last) c.loop-b.b n) durable_is in
    record {
      made = subst (λ (made : List Bucket). EmptiedSoFar now (1 - live_side now.last) now.settings.buckets (tells c.args.store.now) (tells c.make.new.store) made (c.loop-b.b + 1))
          (sym c.push_reserved.ensures.items)
          (emptied_more now (1 - live_side now.last) now.settings.buckets (file_of inside.base 0 (Journal (1 - c.live_side-side.result) c.loop-b.b)) (tells c.args.store.now) (tells c.loop-b.store)
          (tells c.make.new.store) c.loop-b.buckets.items c.loop-b.b c.in_ok-make.field-0
          (laws c.loop-b.store) (laws c.make.new.store) within law.count c.loop-b.invariant.made (omega (arith, base_is, side_is)) bucket_is c.in_ok-make.ensures.holds c.in_ok-make.ensures.ok
          c.make.ensures.changes.stops c.make.ensures.changes.taken _ c.in_ok-make.ensures.changes.cause);
      room = omega (arith, c.loop-b.invariant.room, c.push_reserved.ensures.capacity);
    }

-- all are made
pub returns-clause-buckets : goal.returns-clause-buckets
returns-clause-buckets g c =
    let tells = g.S.Store.told in
    let now = c.args.self.now in
    let law : IsDrum now = rw c.self.view_is at c.self.invariant in
    let count : now.settings.buckets ≡ c.self.inside.settings.buckets = ap (λ (d : Drum). d.settings.buckets) (sym c.self.view_is) in
    let all : c.loop-b.b ≡ length now.buckets = omega (arith, c.loop-b-test.false, c.loop-b.auto.b-end, law.count, count) in
    emptied_all now (1 - live_side now.last) now.settings.buckets (tells c.args.store.now) (tells c.loop-b.store) c.loop-b.buckets.items c.loop-b.b all c.loop-b.invariant.made

pub returns-clause-empty : goal.returns-clause-empty
returns-clause-empty g c = λ files told.
    let made = c.loop-b.invariant.made in
    let count : c.args.self.now.settings.buckets ≡ c.self.inside.settings.buckets = ap (λ (d : Drum). d.settings.buckets) (sym c.self.view_is) in
    record {
      journals = λ b within. made.journals files told b (omega (arith, within, count, c.loop-b-test.false));
      auxes = made.auxes files told;
    }
