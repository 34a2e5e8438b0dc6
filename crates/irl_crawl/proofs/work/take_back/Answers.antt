use Rattle.std.proofs.Common.{◌<◌, length, map, Some, arith}
use Rattle.std.specs.Prelude.{vec_capacity}
use Rattle.std.proofs.lemmas.List.{length-map}
use Rattle.irl_crawl.proofs.Seating.{room_for_one}
use Rattle.irl_crawl.proofs.work.take_back.Goals as goal

pub push_reserved-requires : goal.push_reserved-requires
push_reserved-requires g c =
    let i = c.loop-worker.invariant in
    let room : length (map (λ r. Some r) c.loop-worker.results.items) < vec_capacity c.loop-worker.results =
    room_for_one _ _ c.in-Some.worker _ _ _ _ i.results c.in-Some.ensures.items (omega (arith, i.results_room, c.requires.results)) in
    omega (arith, room, length-map c.loop-worker.results.items (λ r. Some r), c.loop-worker.results.ok.0)

pub push_reserved-requires-in-Some : goal.push_reserved-requires-in-Some
push_reserved-requires-in-Some g c =
    let i = c.loop-worker.invariant in
    let room : length c.loop-worker.passes.items < vec_capacity c.loop-worker.passes =
    room_for_one _ _ c.in-Some.worker _ _ _ _ i.passes c.in-Some.ensures.items (omega (arith, i.passes_room, c.requires.passes)) in
    omega (arith, room, c.loop-worker.passes.ok.0)

pub push_reserved-requires-in-Some-2 : goal.push_reserved-requires-in-Some-2
push_reserved-requires-in-Some-2 g c =
    let i = c.loop-worker.invariant in
    let room : length c.loop-worker.fronts.items < vec_capacity c.loop-worker.fronts =
    room_for_one _ _ c.in-Some.worker _ _ _ _ i.fronts c.in-Some.ensures.items (omega (arith, i.fronts_room, c.requires.fronts)) in
    omega (arith, room, c.loop-worker.fronts.ok.0)
