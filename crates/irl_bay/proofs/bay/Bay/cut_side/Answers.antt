-- A bucket's journal is cut, and then its texts.
use Rattle.std.proofs.Common.{◌≡◌, ◌<◌, inl, inr, refl, ap, subst, arith}
use Rattle.irl_disk.specs.Disk.{ChangesOnly}
use Rattle.irl_disk.specs.Effects.{OnlyChanges}
use Rattle.irl_layout.specs.BayFiles.{IsSideFile}
use Rattle.irl_bay.specs.Drum.{Drum}
use Rattle.irl_bay.proofs.Emptied.{cut_more, cut_none, side_changes}
use Rattle.irl_bay.proofs.bay.Bay.cut_side.Given.{Over}
use Rattle.irl_bay.proofs.bay.Bay.cut_side.Goals.{In_ok-cut}
use Rattle.irl_bay.proofs.bay.Bay.cut_side.Goals as goal

pub loop-b-init : goal.loop-b-init
loop-b-init g c = let now = c.args.self.now in record { cut = cut_none now.base c.args.side now.settings.buckets (g.S.Store.told c.args.store.now) (g.met.S.Store.is_consistent c.args.store.now) }

-- the journal couldn't be cut
pub returns-in_err-cut-clause-others : goal.returns-in_err-cut-clause-others
returns-in_err-cut-clause-others g c =
    let tells = g.S.Store.told in
    let now = c.args.self.now in
    let within : c.loop-b.b < now.settings.buckets = subst (λ (d : Drum). c.loop-b.b < d.settings.buckets) c.self.view_is c.loop-b-test.true in
    let base_is : c.self.inside.base ≡ now.base = ap (λ (d : Drum). d.base) c.self.view_is in
    side_changes now.base c.args.side now.settings.buckets c.number.result c.loop-b.b within (inl (omega (arith, c.number.ensures.value, base_is))) _ _ _ _ (tells c.args.store.now)
    (tells c.loop-b.store)
    (tells c.cut.new.self) (λ is. refl) (g.met.S.Store.is_consistent c.loop-b.store) c.loop-b.invariant.cut.others c.in_err-cut.ensures.err c.cut.ensures.stops c.cut.ensures.taken
    c.in_err-cut.ensures.cause

-- it was
journal_cut : (g : Over) (c : In_ok-cut g) → OnlyChanges (ChangesOnly (IsSideFile c.args.self.now.base c.args.side c.args.self.now.settings.buckets)) ⊥ (g.S.Store.told c.args.store.now)
    (g.S.Store.told c.cut.new.self)
journal_cut g c =
    let tells = g.S.Store.told in
    let now = c.args.self.now in
    let within : c.loop-b.b < now.settings.buckets = subst (λ (d : Drum). c.loop-b.b < d.settings.buckets) c.self.view_is c.loop-b-test.true in
    let base_is : c.self.inside.base ≡ now.base = ap (λ (d : Drum). d.base) c.self.view_is in
    side_changes now.base c.args.side now.settings.buckets c.number.result c.loop-b.b within (inl (omega (arith, c.number.ensures.value, base_is))) _ _ _ ⊥ (tells c.args.store.now)
    (tells c.loop-b.store)
    (tells c.cut.new.self) (λ no. absurd no) (g.met.S.Store.is_consistent c.loop-b.store) c.loop-b.invariant.cut.others c.in_ok-cut.ensures.ok c.cut.ensures.stops c.cut.ensures.taken
    c.in_ok-cut.ensures.cause

-- its texts couldn't
pub returns-in_err-cut-2-clause-others : goal.returns-in_err-cut-2-clause-others
returns-in_err-cut-2-clause-others g c =
    let tells = g.S.Store.told in
    let now = c.args.self.now in
    let within : c.loop-b.b < now.settings.buckets = subst (λ (d : Drum). c.loop-b.b < d.settings.buckets) c.self.view_is c.loop-b-test.true in
    let base_is : c.self.inside.base ≡ now.base = ap (λ (d : Drum). d.base) c.self.view_is in
    side_changes now.base c.args.side now.settings.buckets c.number-in-loop-b.result c.loop-b.b within (inr (omega (arith, c.number-in-loop-b.ensures.value, base_is))) _ _ _ _ (tells c.args.store.now)
    (tells c.cut.new.self) (tells c.cut-in-loop-b.new.self) (λ is. refl) (g.met.S.Store.is_consistent c.cut.new.self) (journal_cut g (goal.at.returns-in_err-cut-2-clause-others g c).In_ok-cut)
    c.in_err-cut-2.ensures.err c.cut-in-loop-b.ensures.stops c.cut-in-loop-b.ensures.taken c.in_err-cut-2.ensures.cause

pub loop-b-preserved : goal.loop-b-preserved
loop-b-preserved g c =
    let tells = g.S.Store.told in
    let now = c.args.self.now in
    let within : c.loop-b.b < now.settings.buckets = subst (λ (d : Drum). c.loop-b.b < d.settings.buckets) c.self.view_is c.loop-b-test.true in
    let base_is : c.self.inside.base ≡ now.base = ap (λ (d : Drum). d.base) c.self.view_is in
    let both = side_changes now.base c.args.side now.settings.buckets c.number-in-loop-b.result c.loop-b.b within (inr (omega (arith, c.number-in-loop-b.ensures.value, base_is))) _ _ _ ⊥
    (tells c.args.store.now) (tells c.cut.new.self) (tells c.cut-in-loop-b.new.self) (λ no. absurd no) (g.met.S.Store.is_consistent c.cut.new.self)
    (journal_cut g (goal.at.loop-b-preserved g c).In_ok-cut) c.in_ok-cut-2.ensures.ok c.cut-in-loop-b.ensures.stops c.cut-in-loop-b.ensures.taken c.in_ok-cut-2.ensures.cause in
    record {
      cut = cut_more now.base c.args.side now.settings.buckets c.number.result c.number-in-loop-b.result c.loop-b.b (tells c.args.store.now) (tells c.loop-b.store) (tells c.cut.new.self)
          (tells c.cut-in-loop-b.new.self) (omega (arith, c.number.ensures.value, base_is)) (omega (arith, c.number-in-loop-b.ensures.value, base_is)) c.loop-b.invariant.cut c.in_ok-cut.ensures.ok
          c.in_ok-cut-2.ensures.ok both;
    }

-- all are cut
pub returns-clause-cut : goal.returns-clause-cut
returns-clause-cut g c = λ files told f is.
    let count = ap (λ (d : Drum). d.settings.buckets) c.self.view_is in
    c.loop-b.invariant.cut.cut files told f (is.0, omega (arith, is.1, c.loop-b-test.false, count), is.2)
