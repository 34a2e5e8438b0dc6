-- the bucket is being judged
use Rattle.std.proofs.Common.{◌≡◌, ◌-◌, true, List, Option}
use Rattle.irl_offer.specs.Tuple.{Tuple}
use Rattle.irl_offer.specs.declared.offer.Verdict.{Verdict}
use Rattle.irl_bay.specs.Sides.{AreHere, HasMerged, IsSweeping, IsSameCache, ReadsAndPuts, ReadsOn}
use Rattle.irl_bay.proofs.sides.Sides.sweep.Given as goal

abbrev pub invariant-loop-sweep : goal.invariant-loop-sweep
invariant-loop-sweep g l =
    let store = g.S.Store in
    record {
      sound : l.sweep.is_sound ≡ true;
      same : IsSameCache l.fn.self l.self;
      sweeping : (offers : List Tuple) (verdicts : List (Option Verdict)) (news : List Tuple) → HasMerged l.b offers verdicts (store.told l.fn.store).files l.fn.self
          → AreHere l.b l.fn.self l.entries news
          → IsSweeping l.b offers verdicts news (store.told l.store).files l.sweep l.self;
      others : ReadsAndPuts l.fn.self ⊥ (store.told l.fn.store) (store.told l.store);
      read : ReadsOn l.fn.self.reader l.self.reader (store.told l.fn.store).taken (store.told l.store).taken;
    }

abbrev pub decreases-loop-sweep : goal.decreases-loop-sweep
decreases-loop-sweep g l = l.self.reader.entries - l.self.reader.given
