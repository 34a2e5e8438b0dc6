use Rattle.std.proofs.Common.{◌≡◌, ◌∙◌, ◌⊎◌, ◌<◌, ◌+◌, ℕ, refl, sym, subst, arith, ⊎_elim}
use Rattle.irl_disk.proofs.Stretches.{left_now, reads_on, stays}
use Rattle.irl_yard.proofs.enter.sync_files.Goals as goal

pub loop-f-init : goal.loop-f-init
loop-f-init g c =
    let now = g.S.Store.told c.args.store.now in
    record {
      synced = λ files told image left f above below. absurd (omega (arith, above, below));
      same = refl;
      stops = stays now now.images (g.met.S.Store.is_consistent c.args.store.now) (λ image was. was);
      taken = refl;
      later = omega arith;
    }

pub loop-f-preserved : goal.loop-f-preserved
loop-f-preserved g c =
    let tells = g.S.Store.told in
    let was = c.loop-f.invariant in
    let call = c.sync.ensures in
    let law = g.met.S.Store.is_consistent c.sync.new.self in
    record {
      synced = λ files told image left f above below.
          let before = was.synced files told image (left_now (tells c.loop-f.store) (tells c.sync.new.self) _ law call.stops image left) in
          let here = c.in_ok-sync.ensures.durable files (was.same ∙ told) image left in
          ⊎_elim (λ (within : f < c.loop-f.f). before f above within)
          (λ (e : f ≡ c.loop-f.f). subst (λ (n : ℕ). image n ≡ files n) (sym e) here)
          (below_or_here f c.loop-f.f below);
      same = call.same ∙ was.same;
      stops = reads_on (tells c.args.store.now) (tells c.loop-f.store) (tells c.sync.new.self) _ (g.met.S.Store.is_consistent c.loop-f.store) was.stops call.stops;
      taken = call.taken ∙ was.taken;
      later = omega (arith, was.later, call.cause.later);
    }
  where
    below_or_here : (f n : ℕ) → f < n + 1 → (f < n) ⊎ (f ≡ n)
    below_or_here f n within = grind arith

pub returns-clause-synced : goal.returns-clause-synced
returns-clause-synced g c = λ files told image left f above below. c.loop-f.invariant.synced files told image left f above (omega (arith, below, c.loop-f-test.false))
