use Rattle.std.proofs.Common.{◌≡◌, ◌∙◌, ℕ, ◌<◌, ◌∷◌, length, Option, Some, false, refl, sym, ap, subst, true, rules, arith}
use Rattle.std.specs.Prelude.{IsSome}
use Rattle.std.specs.BinaryHeap.{heap_items, heap_len, heap_capacity}
use Rattle.std.specs.List.Sorted.{IsPermutation}
use Rattle.irl_polite.specs.declared.hosts.Host.{Host}
use Rattle.irl_polite.specs.declared.known.Known.{Known}
use Rattle.irl_polite.specs.Inside.{Held, IsSound, schedule, schedule_of, place_of, seen_at, Turn}
use Rattle.irl_polite.specs.Schedule.{handed_in}
use Rattle.irl_polite.proofs.MoveLemmas.{awaiting, Awaiting, room_for_it, sound_handed, means_handed}
use Rattle.irl_polite.proofs.front.Front.robots_done.Goals as goal

pub unwrap-requires : goal.unwrap-requires
unwrap-requires c =
    let s = c.self.inside in
    let i = c.self.invariant in
    let place = c.unwrap-place.result in
    let named : place_of s.names.entries c.args.host ≡ Some place =
    ap (place_of s.names.entries) (sym c.bytes.ensures) ∙ sym c.find.ensures ∙ c.unwrap-place.ensures in
    let waits : (seen_at (place_of s.names.entries) s.hosts.items c.args.host).awaited ≡ true =
    ap (λ (h : Held). (schedule h).awaited c.args.host) c.self.view_is ∙ c.requires in
    let w : Awaiting s.hosts.items place = awaiting _ _ _ _ _ _ i c.args.host place named waits in
    let is = c.hand_in-due.ensures w.owner w.held in
    let first : c.hand_in-due.result.1 ≡ Some w.at = ap (λ (r : ℕ × Option ℕ). r.1) is.0 ∙ w.first in
    subst IsSome (sym first) refl

pub push-requires-clause-room : goal.push-requires-clause-room
push-requires-clause-room c =
    let s = c.self.inside in
    let i = c.self.invariant in
    let place = c.unwrap-place.result in
    let named : place_of s.names.entries c.args.host ≡ Some place =
    ap (place_of s.names.entries) (sym c.bytes.ensures) ∙ sym c.find.ensures ∙ c.unwrap-place.ensures in
    let waits : (seen_at (place_of s.names.entries) s.hosts.items c.args.host).awaited ≡ true =
    ap (λ (h : Held). (schedule h).awaited c.args.host) c.self.view_is ∙ c.requires in
    let w : Awaiting s.hosts.items place = awaiting _ _ _ _ _ _ i c.args.host place named waits in
    let is = c.hand_in-due.ensures w.owner w.held in
    let room : length (heap_items s.turns) < heap_capacity s.turns = room_for_it _ _ _ _ _ _ i c.args.host place w.owner named w.held w.awaited w.at w.first in
    let len : heap_len s.turns ≡ length (heap_items s.turns) = search rules in
    omega arith

pub invariant_of-self : goal.invariant_of-self
invariant_of-self c =
    let s = c.self.inside in
    let i = c.self.invariant in
    let place = c.unwrap-place.result in
    let named : place_of s.names.entries c.args.host ≡ Some place =
    ap (place_of s.names.entries) (sym c.bytes.ensures) ∙ sym c.find.ensures ∙ c.unwrap-place.ensures in
    let waits : (seen_at (place_of s.names.entries) s.hosts.items c.args.host).awaited ≡ true =
    ap (λ (h : Held). (schedule h).awaited c.args.host) c.self.view_is ∙ c.requires in
    let w : Awaiting s.hosts.items place = awaiting _ _ _ _ _ _ i c.args.host place named waits in
    let is = c.hand_in-due.ensures w.owner w.held in
    let known : Known = record { state = c.args.state; when = c.args.when } in
    let first : c.hand_in-due.result.1 ≡ Some w.at = ap (λ (r : ℕ × Option ℕ). r.1) is.0 ∙ w.first in
    let at : c.unwrap.result ≡ w.at = cc in
    let due : c.hand_in-due.result.0 ≡ w.owner.due = ap (λ (r : ℕ × Option ℕ). r.0) is.0 in
    let turn : ◌≡◌ {A = Turn} (record { 0 = (c.hand_in-due.result.0, c.unwrap.result) }) (record { 0 = (w.owner.due, w.at) }) = λ x. record { 0 = (due x, at x) } in
    let pushed : IsPermutation ((record { 0 = (w.owner.due, w.at) }) ∷ heap_items s.turns) (heap_items c.push.new.turns) =
    subst (λ (t : Turn). IsPermutation (t ∷ heap_items s.turns) (heap_items c.push.new.turns)) turn c.push.ensures.turns in
    subst (λ hs. IsSound (place_of s.names.entries) hs s.slots.items s.left (heap_items c.push.new.turns) (heap_capacity c.push.new.turns)) (sym is.1)
    (sound_handed _ _ _ _ _ _ i c.args.host place w.owner named w.held w.awaited w.at w.first known (heap_items c.push.new.turns) (heap_capacity c.push.new.turns) pushed c.push.ensures.heap
    c.push.ensures.room)

pub returns : goal.returns
returns c =
    let s = c.self.inside in
    let i = c.self.invariant in
    let place = c.unwrap-place.result in
    let named : place_of s.names.entries c.args.host ≡ Some place =
    ap (place_of s.names.entries) (sym c.bytes.ensures) ∙ sym c.find.ensures ∙ c.unwrap-place.ensures in
    let waits : (seen_at (place_of s.names.entries) s.hosts.items c.args.host).awaited ≡ true =
    ap (λ (h : Held). (schedule h).awaited c.args.host) c.self.view_is ∙ c.requires in
    let w : Awaiting s.hosts.items place = awaiting _ _ _ _ _ _ i c.args.host place named waits in
    let is = c.hand_in-due.ensures w.owner w.held in
    let moved : Host = record w.owner { name = c.args.host; known = Some (record { state = c.args.state; when = c.args.when }); awaited = false } in
    let means = means_handed _ _ _ _ _ _ i c.args.host place w.owner named w.held s.agent s.delay s.moment moved c.args.state c.args.when refl refl refl in (
      c.requires,
      ap (λ hs. schedule_of s.agent s.delay s.moment (place_of s.names.entries) hs s.slots.items) is.1
          ∙ means ∙ ap (λ (h : Held). handed_in (schedule h) c.args.host c.args.state c.args.when) c.self.view_is,
    )
