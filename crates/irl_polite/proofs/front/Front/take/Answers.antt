use Rattle.std.proofs.Common.{◌≡◌, ◌∙◌, ◌<◌, ◌≤◌, ◌+◌, ◌-◌, [], length, set, get_or, true, refl, sym, ap, subst, rules, arith}
use Rattle.std.specs.Prelude.{slice_get, vec_len, IsSome}
use Rattle.std.specs.BinaryHeap.{heap_items, heap_capacity}
use Rattle.std.proofs.lemmas.Option.{slice_get_read, get_or_from_slice_get}
use Rattle.irl_key.specs.Web.{IsHost}
use Rattle.irl_key.specs.declared.web.Work.{Work}
use Rattle.irl_polite.specs.declared.hosts.Host.{Host}
use Rattle.irl_polite.specs.declared.slots.Slot.{Slot}
use Rattle.irl_polite.specs.declared.job.Job.{Job}
use Rattle.irl_polite.specs.declared.job.Job.TheVariants.{Robots, WaitTill, Idle}
use Rattle.irl_polite.specs.Schedule.{Schedule, raised, next_due, host}
use Rattle.irl_polite.specs.Answers.{Answers}
use Rattle.irl_polite.specs.Inside.{Held, IsTop, IsSound, IsReplaced, Says, SaysNothing, Turn, answer_of, due_by, place_of, schedule, schedule_of}
use Rattle.irl_polite.proofs.Lists.{get_within, same_some}
use Rattle.irl_polite.proofs.AnswerLemmas.{waits_iff, idle_iff}
use Rattle.irl_polite.proofs.MoveLemmas.{sound_asked, sound_answered}
use Rattle.irl_polite.proofs.TakeLemmas.{idles, found, Picked, some_left, own_name, waits, asks, answers}
use Rattle.irl_polite.proofs.front.Front.take.Goals as goal

pub returns-in_default-clause-step : goal.returns-in_default-clause-step
returns-in_default-clause-step c =
    let s = c.self.inside in
    let same : schedule_of s.agent s.delay c.max-self-inside.result (place_of s.names.entries) s.hosts.items s.slots.items ≡ raised (schedule c.args.self.now) c.args.now =
    ap (λ k. schedule_of s.agent s.delay k (place_of s.names.entries) s.hosts.items s.slots.items) c.max-self-inside.ensures
    ∙ ap (λ (h : Held). raised (schedule h) c.args.now) c.self.view_is in
    let m = c.max-self-inside.result in
    let none : heap_items s.turns ≡ [] = c.in_default.ensures.none in
    let a : Answers (raised (schedule c.args.self.now) c.args.now) Idle (schedule_of s.agent s.delay m (place_of s.names.entries) s.hosts.items s.slots.items) =
    subst (λ (old : Schedule). Answers old Idle (schedule_of s.agent s.delay m (place_of s.names.entries) s.hosts.items s.slots.items)) same
    (idles s.agent s.delay m (place_of s.names.entries) s.hosts.items s.slots.items s.left (heap_items s.turns) (heap_capacity s.turns) c.self.invariant none) in
    a

pub returns-in_default-clause-waits : goal.returns-in_default-clause-waits
returns-in_default-clause-waits c =
    let s = c.self.inside in
    let same : schedule_of s.agent s.delay c.max-self-inside.result (place_of s.names.entries) s.hosts.items s.slots.items ≡ raised (schedule c.args.self.now) c.args.now =
    ap (λ k. schedule_of s.agent s.delay k (place_of s.names.entries) s.hosts.items s.slots.items) c.max-self-inside.ensures
    ∙ ap (λ (h : Held). raised (schedule h) c.args.now) c.self.view_is in
    let m = c.max-self-inside.result in
    let none : heap_items s.turns ≡ [] = c.in_default.ensures.none in
    let a : Answers (raised (schedule c.args.self.now) c.args.now) Idle (schedule_of s.agent s.delay m (place_of s.names.entries) s.hosts.items s.slots.items) =
    subst (λ (old : Schedule). Answers old Idle (schedule_of s.agent s.delay m (place_of s.names.entries) s.hosts.items s.slots.items)) same
    (idles s.agent s.delay m (place_of s.names.entries) s.hosts.items s.slots.items s.left (heap_items s.turns) (heap_capacity s.turns) c.self.invariant none) in
    waits_iff _ _ Idle a

pub returns-in_default-clause-idle : goal.returns-in_default-clause-idle
returns-in_default-clause-idle c =
    let s = c.self.inside in
    let same : schedule_of s.agent s.delay c.max-self-inside.result (place_of s.names.entries) s.hosts.items s.slots.items ≡ raised (schedule c.args.self.now) c.args.now =
    ap (λ k. schedule_of s.agent s.delay k (place_of s.names.entries) s.hosts.items s.slots.items) c.max-self-inside.ensures
    ∙ ap (λ (h : Held). raised (schedule h) c.args.now) c.self.view_is in
    let m = c.max-self-inside.result in
    let none : heap_items s.turns ≡ [] = c.in_default.ensures.none in
    let a : Answers (raised (schedule c.args.self.now) c.args.now) Idle (schedule_of s.agent s.delay m (place_of s.names.entries) s.hosts.items s.slots.items) =
    subst (λ (old : Schedule). Answers old Idle (schedule_of s.agent s.delay m (place_of s.names.entries) s.hosts.items s.slots.items)) same
    (idles s.agent s.delay m (place_of s.names.entries) s.hosts.items s.slots.items s.left (heap_items s.turns) (heap_capacity s.turns) c.self.invariant none) in
    idle_iff _ _ Idle a

pub returns-then-self-due-clause-step : goal.returns-then-self-due-clause-step
returns-then-self-due-clause-step c =
    let s = c.self.inside in
    let i = c.self.invariant in
    let m = c.max-self-inside.result in
    let due = c.in-Some.due in
    let at = c.in-Some.at in
    let names = place_of s.names.entries in
    let hosts = s.hosts.items in
    let slots = s.slots.items in
    let turns = heap_items s.turns in
    let top : IsTop (heap_items s.turns) (c.in-Some.due, c.in-Some.at) = c.in-Some.ensures.some in
    let p : Picked s.agent s.delay m names hosts slots s.left turns (heap_capacity s.turns) i due at top =
    found s.agent s.delay m names hosts slots s.left turns (heap_capacity s.turns) i due at top in
    let within : at < length slots = get_within slots at p.slot p.stands in
    let len : vec_len s.slots ≡ length slots = search rules in
    let in_hosts : p.place < length hosts = get_within hosts p.place p.owner p.held in
    let hosts_len : vec_len s.hosts ≡ length hosts = search rules in
    let same : schedule_of s.agent s.delay c.max-self-inside.result (place_of s.names.entries) s.hosts.items s.slots.items ≡ raised (schedule c.args.self.now) c.args.now =
    ap (λ k. schedule_of s.agent s.delay k (place_of s.names.entries) s.hosts.items s.slots.items) c.max-self-inside.ensures
    ∙ ap (λ (h : Held). raised (schedule h) c.args.now) c.self.view_is in
    let lt : m < due = c.if-self-due.true in
    let a : Answers (raised (schedule c.args.self.now) c.args.now) (WaitTill due) (schedule_of s.agent s.delay m (place_of s.names.entries) s.hosts.items s.slots.items) =
    subst (λ (old : Schedule). Answers old (WaitTill due) (schedule_of s.agent s.delay m (place_of s.names.entries) s.hosts.items s.slots.items)) same
    (waits s.agent s.delay m names hosts slots s.left turns (heap_capacity s.turns) i due at top p lt) in
    a

pub returns-then-self-due-clause-waits : goal.returns-then-self-due-clause-waits
returns-then-self-due-clause-waits c =
    let s = c.self.inside in
    let i = c.self.invariant in
    let m = c.max-self-inside.result in
    let due = c.in-Some.due in
    let at = c.in-Some.at in
    let names = place_of s.names.entries in
    let hosts = s.hosts.items in
    let slots = s.slots.items in
    let turns = heap_items s.turns in
    let top : IsTop (heap_items s.turns) (c.in-Some.due, c.in-Some.at) = c.in-Some.ensures.some in
    let p : Picked s.agent s.delay m names hosts slots s.left turns (heap_capacity s.turns) i due at top =
    found s.agent s.delay m names hosts slots s.left turns (heap_capacity s.turns) i due at top in
    let within : at < length slots = get_within slots at p.slot p.stands in
    let len : vec_len s.slots ≡ length slots = search rules in
    let in_hosts : p.place < length hosts = get_within hosts p.place p.owner p.held in
    let hosts_len : vec_len s.hosts ≡ length hosts = search rules in
    let same : schedule_of s.agent s.delay c.max-self-inside.result (place_of s.names.entries) s.hosts.items s.slots.items ≡ raised (schedule c.args.self.now) c.args.now =
    ap (λ k. schedule_of s.agent s.delay k (place_of s.names.entries) s.hosts.items s.slots.items) c.max-self-inside.ensures
    ∙ ap (λ (h : Held). raised (schedule h) c.args.now) c.self.view_is in
    let lt : m < due = c.if-self-due.true in
    let a : Answers (raised (schedule c.args.self.now) c.args.now) (WaitTill due) (schedule_of s.agent s.delay m (place_of s.names.entries) s.hosts.items s.slots.items) =
    subst (λ (old : Schedule). Answers old (WaitTill due) (schedule_of s.agent s.delay m (place_of s.names.entries) s.hosts.items s.slots.items)) same
    (waits s.agent s.delay m names hosts slots s.left turns (heap_capacity s.turns) i due at top p lt) in
    waits_iff _ _ (WaitTill due) a

pub returns-then-self-due-clause-idle : goal.returns-then-self-due-clause-idle
returns-then-self-due-clause-idle c =
    let s = c.self.inside in
    let i = c.self.invariant in
    let m = c.max-self-inside.result in
    let due = c.in-Some.due in
    let at = c.in-Some.at in
    let names = place_of s.names.entries in
    let hosts = s.hosts.items in
    let slots = s.slots.items in
    let turns = heap_items s.turns in
    let top : IsTop (heap_items s.turns) (c.in-Some.due, c.in-Some.at) = c.in-Some.ensures.some in
    let p : Picked s.agent s.delay m names hosts slots s.left turns (heap_capacity s.turns) i due at top =
    found s.agent s.delay m names hosts slots s.left turns (heap_capacity s.turns) i due at top in
    let within : at < length slots = get_within slots at p.slot p.stands in
    let len : vec_len s.slots ≡ length slots = search rules in
    let in_hosts : p.place < length hosts = get_within hosts p.place p.owner p.held in
    let hosts_len : vec_len s.hosts ≡ length hosts = search rules in
    let same : schedule_of s.agent s.delay c.max-self-inside.result (place_of s.names.entries) s.hosts.items s.slots.items ≡ raised (schedule c.args.self.now) c.args.now =
    ap (λ k. schedule_of s.agent s.delay k (place_of s.names.entries) s.hosts.items s.slots.items) c.max-self-inside.ensures
    ∙ ap (λ (h : Held). raised (schedule h) c.args.now) c.self.view_is in
    let lt : m < due = c.if-self-due.true in
    let a : Answers (raised (schedule c.args.self.now) c.args.now) (WaitTill due) (schedule_of s.agent s.delay m (place_of s.names.entries) s.hosts.items s.slots.items) =
    subst (λ (old : Schedule). Answers old (WaitTill due) (schedule_of s.agent s.delay m (place_of s.names.entries) s.hosts.items s.slots.items)) same
    (waits s.agent s.delay m names hosts slots s.left turns (heap_capacity s.turns) i due at top p lt) in
    idle_iff _ _ (WaitTill due) a

pub index-requires : goal.index-requires
index-requires c =
    let s = c.self.inside in
    let i = c.self.invariant in
    let m = c.max-self-inside.result in
    let due = c.in-Some.due in
    let at = c.in-Some.at in
    let names = place_of s.names.entries in
    let hosts = s.hosts.items in
    let slots = s.slots.items in
    let turns = heap_items s.turns in
    let top : IsTop (heap_items s.turns) (c.in-Some.due, c.in-Some.at) = c.in-Some.ensures.some in
    let p : Picked s.agent s.delay m names hosts slots s.left turns (heap_capacity s.turns) i due at top =
    found s.agent s.delay m names hosts slots s.left turns (heap_capacity s.turns) i due at top in
    let within : at < length slots = get_within slots at p.slot p.stands in
    let len : vec_len s.slots ≡ length slots = search rules in
    let in_hosts : p.place < length hosts = get_within hosts p.place p.owner p.held in
    let hosts_len : vec_len s.hosts ≡ length hosts = search rules in
    omega arith

pub index-requires-2 : goal.index-requires-2
index-requires-2 c =
    let s = c.self.inside in
    let i = c.self.invariant in
    let m = c.max-self-inside.result in
    let due = c.in-Some.due in
    let at = c.in-Some.at in
    let names = place_of s.names.entries in
    let hosts = s.hosts.items in
    let slots = s.slots.items in
    let turns = heap_items s.turns in
    let top : IsTop (heap_items s.turns) (c.in-Some.due, c.in-Some.at) = c.in-Some.ensures.some in
    let p : Picked s.agent s.delay m names hosts slots s.left turns (heap_capacity s.turns) i due at top =
    found s.agent s.delay m names hosts slots s.left turns (heap_capacity s.turns) i due at top in
    let within : at < length slots = get_within slots at p.slot p.stands in
    let len : vec_len s.slots ≡ length slots = search rules in
    let in_hosts : p.place < length hosts = get_within hosts p.place p.owner p.held in
    let hosts_len : vec_len s.hosts ≡ length hosts = search rules in
    omega arith

pub index-requires-4 : goal.index-requires-4
index-requires-4 c =
    let s = c.self.inside in
    let i = c.self.invariant in
    let m = c.max-self-inside.result in
    let due = c.in-Some.due in
    let at = c.in-Some.at in
    let names = place_of s.names.entries in
    let hosts = s.hosts.items in
    let slots = s.slots.items in
    let turns = heap_items s.turns in
    let top : IsTop (heap_items s.turns) (c.in-Some.due, c.in-Some.at) = c.in-Some.ensures.some in
    let p : Picked s.agent s.delay m names hosts slots s.left turns (heap_capacity s.turns) i due at top =
    found s.agent s.delay m names hosts slots s.left turns (heap_capacity s.turns) i due at top in
    let within : at < length slots = get_within slots at p.slot p.stands in
    let len : vec_len s.slots ≡ length slots = search rules in
    let in_hosts : p.place < length hosts = get_within hosts p.place p.owner p.held in
    let hosts_len : vec_len s.hosts ≡ length hosts = search rules in
    omega arith

pub index-requires-3 : goal.index-requires-3
index-requires-3 c =
    let s = c.self.inside in
    let i = c.self.invariant in
    let m = c.max-self-inside.result in
    let due = c.in-Some.due in
    let at = c.in-Some.at in
    let names = place_of s.names.entries in
    let hosts = s.hosts.items in
    let slots = s.slots.items in
    let turns = heap_items s.turns in
    let top : IsTop (heap_items s.turns) (c.in-Some.due, c.in-Some.at) = c.in-Some.ensures.some in
    let p : Picked s.agent s.delay m names hosts slots s.left turns (heap_capacity s.turns) i due at top =
    found s.agent s.delay m names hosts slots s.left turns (heap_capacity s.turns) i due at top in
    let within : at < length slots = get_within slots at p.slot p.stands in
    let len : vec_len s.slots ≡ length slots = search rules in
    let in_hosts : p.place < length hosts = get_within hosts p.place p.owner p.held in
    let hosts_len : vec_len s.hosts ≡ length hosts = search rules in
    let inside : at < vec_len s.slots = omega arith in
    let slot_is : c.index.result.now ≡ p.slot = same_some c.index.result.now p.slot (sym (slice_get_read slots (vec_len s.slots) at c.index.result.now len inside c.index.ensures) ∙ p.stands) in
    let place_is : c.index.result.now.host ≡ p.place = ap (λ (x : Slot). x.host) slot_is ∙ p.owns in
    omega arith

pub says-leave-requires : goal.says-leave-requires
says-leave-requires c =
    let s = c.self.inside in
    let i = c.self.invariant in
    let m = c.max-self-inside.result in
    let due = c.in-Some.due in
    let at = c.in-Some.at in
    let names = place_of s.names.entries in
    let hosts = s.hosts.items in
    let slots = s.slots.items in
    let turns = heap_items s.turns in
    let top : IsTop (heap_items s.turns) (c.in-Some.due, c.in-Some.at) = c.in-Some.ensures.some in
    let p : Picked s.agent s.delay m names hosts slots s.left turns (heap_capacity s.turns) i due at top =
    found s.agent s.delay m names hosts slots s.left turns (heap_capacity s.turns) i due at top in
    let within : at < length slots = get_within slots at p.slot p.stands in
    let len : vec_len s.slots ≡ length slots = search rules in
    let in_hosts : p.place < length hosts = get_within hosts p.place p.owner p.held in
    let hosts_len : vec_len s.hosts ≡ length hosts = search rules in
    let inside : at < vec_len s.slots = omega arith in
    let slot4_is : c.index-4.result.now ≡ p.slot = same_some c.index-4.result.now p.slot (sym (slice_get_read slots (vec_len s.slots) at c.index-4.result.now len inside c.index-4.ensures)
    ∙ p.stands) in
    subst IsSome (sym (ap (λ (x : Slot). x.work) slot4_is ∙ p.has)) refl

pub ask-requires : goal.ask-requires
ask-requires c =
    let s = c.self.inside in
    let i = c.self.invariant in
    let m = c.max-self-inside.result in
    let due = c.in-Some.due in
    let at = c.in-Some.at in
    let names = place_of s.names.entries in
    let hosts = s.hosts.items in
    let slots = s.slots.items in
    let turns = heap_items s.turns in
    let top : IsTop (heap_items s.turns) (c.in-Some.due, c.in-Some.at) = c.in-Some.ensures.some in
    let p : Picked s.agent s.delay m names hosts slots s.left turns (heap_capacity s.turns) i due at top =
    found s.agent s.delay m names hosts slots s.left turns (heap_capacity s.turns) i due at top in
    let within : at < length slots = get_within slots at p.slot p.stands in
    let len : vec_len s.slots ≡ length slots = search rules in
    let in_hosts : p.place < length hosts = get_within hosts p.place p.owner p.held in
    let hosts_len : vec_len s.hosts ≡ length hosts = search rules in
    let inside : at < vec_len s.slots = omega arith in
    let slot_is : c.index.result.now ≡ p.slot = same_some c.index.result.now p.slot (sym (slice_get_read slots (vec_len s.slots) at c.index.result.now len inside c.index.ensures) ∙ p.stands) in
    let place_is : c.index.result.now.host ≡ p.place = ap (λ (x : Slot). x.host) slot_is ∙ p.owns in
    omega arith

pub advance-requires : goal.advance-requires
advance-requires c =
    let s = c.self.inside in
    let i = c.self.invariant in
    let m = c.max-self-inside.result in
    let due = c.in-Some.due in
    let at = c.in-Some.at in
    let names = place_of s.names.entries in
    let hosts = s.hosts.items in
    let slots = s.slots.items in
    let turns = heap_items s.turns in
    let top : IsTop (heap_items s.turns) (c.in-Some.due, c.in-Some.at) = c.in-Some.ensures.some in
    let p : Picked s.agent s.delay m names hosts slots s.left turns (heap_capacity s.turns) i due at top =
    found s.agent s.delay m names hosts slots s.left turns (heap_capacity s.turns) i due at top in
    let within : at < length slots = get_within slots at p.slot p.stands in
    let len : vec_len s.slots ≡ length slots = search rules in
    let in_hosts : p.place < length hosts = get_within hosts p.place p.owner p.held in
    let hosts_len : vec_len s.hosts ≡ length hosts = search rules in
    let inside : at < vec_len s.slots = omega arith in
    let slot_is : c.index.result.now ≡ p.slot = same_some c.index.result.now p.slot (sym (slice_get_read slots (vec_len s.slots) at c.index.result.now len inside c.index.ensures) ∙ p.stands) in
    let place_is : c.index.result.now.host ≡ p.place = ap (λ (x : Slot). x.host) slot_is ∙ p.owns in
    omega arith

pub overflow_sub-self : goal.overflow_sub-self
overflow_sub-self c =
    let s = c.self.inside in
    let i = c.self.invariant in
    let m = c.max-self-inside.result in
    let due = c.in-Some.due in
    let at = c.in-Some.at in
    let names = place_of s.names.entries in
    let hosts = s.hosts.items in
    let slots = s.slots.items in
    let turns = heap_items s.turns in
    let top : IsTop (heap_items s.turns) (c.in-Some.due, c.in-Some.at) = c.in-Some.ensures.some in
    let p : Picked s.agent s.delay m names hosts slots s.left turns (heap_capacity s.turns) i due at top =
    found s.agent s.delay m names hosts slots s.left turns (heap_capacity s.turns) i due at top in
    let within : at < length slots = get_within slots at p.slot p.stands in
    let len : vec_len s.slots ≡ length slots = search rules in
    let in_hosts : p.place < length hosts = get_within hosts p.place p.owner p.held in
    let hosts_len : vec_len s.hosts ≡ length hosts = search rules in
    some_left s.agent s.delay m names hosts slots s.left turns (heap_capacity s.turns) i due at top p

pub taken-requires : goal.taken-requires
taken-requires c =
    let s = c.self.inside in
    let i = c.self.invariant in
    let m = c.max-self-inside.result in
    let due = c.in-Some.due in
    let at = c.in-Some.at in
    let names = place_of s.names.entries in
    let hosts = s.hosts.items in
    let slots = s.slots.items in
    let turns = heap_items s.turns in
    let top : IsTop (heap_items s.turns) (c.in-Some.due, c.in-Some.at) = c.in-Some.ensures.some in
    let p : Picked s.agent s.delay m names hosts slots s.left turns (heap_capacity s.turns) i due at top =
    found s.agent s.delay m names hosts slots s.left turns (heap_capacity s.turns) i due at top in
    let within : at < length slots = get_within slots at p.slot p.stands in
    let len : vec_len s.slots ≡ length slots = search rules in
    let in_hosts : p.place < length hosts = get_within hosts p.place p.owner p.held in
    let hosts_len : vec_len s.hosts ≡ length hosts = search rules in
    (p.slot, p.work, p.stands, p.has)

pub invariant_of-self-in_default-leave : goal.invariant_of-self-in_default-leave
invariant_of-self-in_default-leave c =
    let s = c.self.inside in
    let i = c.self.invariant in
    let m = c.max-self-inside.result in
    let due = c.in-Some.due in
    let at = c.in-Some.at in
    let names = place_of s.names.entries in
    let hosts = s.hosts.items in
    let slots = s.slots.items in
    let turns = heap_items s.turns in
    let top : IsTop (heap_items s.turns) (c.in-Some.due, c.in-Some.at) = c.in-Some.ensures.some in
    let p : Picked s.agent s.delay m names hosts slots s.left turns (heap_capacity s.turns) i due at top =
    found s.agent s.delay m names hosts slots s.left turns (heap_capacity s.turns) i due at top in
    let within : at < length slots = get_within slots at p.slot p.stands in
    let len : vec_len s.slots ≡ length slots = search rules in
    let in_hosts : p.place < length hosts = get_within hosts p.place p.owner p.held in
    let hosts_len : vec_len s.hosts ≡ length hosts = search rules in
    let inside : at < vec_len s.slots = omega arith in
    let slot_is : c.index.result.now ≡ p.slot = same_some c.index.result.now p.slot (sym (slice_get_read slots (vec_len s.slots) at c.index.result.now len inside c.index.ensures) ∙ p.stands) in
    let place_is : c.index.result.now.host ≡ p.place = ap (λ (x : Slot). x.host) slot_is ∙ p.owns in
    let t : Turn = record { 0 = (due, at) } in
    let front : get_or turns 0 t ≡ t = get_or_from_slice_get turns 0 t t top.stands in
    let is = c.ask.ensures p.owner (ap (slice_get hosts) place_is ∙ p.held) in
    let changed : c.ask.new.hosts.items ≡ set hosts p.place (record p.owner { name = []; due = c.saturating_add-later.result; awaited = true }) =
    is.1 ∙ ap (λ k. set hosts k (record p.owner { name = []; due = c.saturating_add-later.result; awaited = true })) place_is in
    subst (λ hs. IsSound names hs slots s.left (heap_items c.remove_first.new.turns) (heap_capacity c.remove_first.new.turns)) (sym changed)
    (subst (λ n. IsSound names (set hosts p.place (record p.owner { name = []; due = c.saturating_add-later.result; awaited = true })) slots s.left (heap_items c.remove_first.new.turns) n)
    (sym c.remove_first.ensures.room)
    (sound_asked names hosts slots s.left turns (heap_capacity s.turns) i (host p.work) p.place p.owner p.named p.held t (heap_items c.remove_first.new.turns) c.saturating_add-later.result p.first
    (c.remove_first.ensures.turns t front) c.remove_first.ensures.heap))

pub returns-in_default-leave-clause-step : goal.returns-in_default-leave-clause-step
returns-in_default-leave-clause-step c =
    let s = c.self.inside in
    let i = c.self.invariant in
    let m = c.max-self-inside.result in
    let due = c.in-Some.due in
    let at = c.in-Some.at in
    let names = place_of s.names.entries in
    let hosts = s.hosts.items in
    let slots = s.slots.items in
    let turns = heap_items s.turns in
    let top : IsTop (heap_items s.turns) (c.in-Some.due, c.in-Some.at) = c.in-Some.ensures.some in
    let p : Picked s.agent s.delay m names hosts slots s.left turns (heap_capacity s.turns) i due at top =
    found s.agent s.delay m names hosts slots s.left turns (heap_capacity s.turns) i due at top in
    let within : at < length slots = get_within slots at p.slot p.stands in
    let len : vec_len s.slots ≡ length slots = search rules in
    let in_hosts : p.place < length hosts = get_within hosts p.place p.owner p.held in
    let hosts_len : vec_len s.hosts ≡ length hosts = search rules in
    let inside : at < vec_len s.slots = omega arith in
    let slot_is : c.index.result.now ≡ p.slot = same_some c.index.result.now p.slot (sym (slice_get_read slots (vec_len s.slots) at c.index.result.now len inside c.index.ensures) ∙ p.stands) in
    let place_is : c.index.result.now.host ≡ p.place = ap (λ (x : Slot). x.host) slot_is ∙ p.owns in
    let there : c.index.result.now.host < vec_len s.hosts = omega arith in
    let host_is : c.index-3.result.now ≡ p.owner = same_some c.index-3.result.now p.owner
    (sym (slice_get_read hosts (vec_len s.hosts) c.index.result.now.host c.index-3.result.now hosts_len there c.index-3.ensures) ∙ ap (slice_get hosts) place_is ∙ p.held) in
    let slot2_is : c.index-2.result.now ≡ p.slot = same_some c.index-2.result.now p.slot (sym (slice_get_read slots (vec_len s.slots) at c.index-2.result.now len inside c.index-2.ensures)
    ∙ p.stands) in
    let slot4_is : c.index-4.result.now ≡ p.slot = same_some c.index-4.result.now p.slot (sym (slice_get_read slots (vec_len s.slots) at c.index-4.result.now len inside c.index-4.ensures)
    ∙ p.stands) in
    let t : Turn = record { 0 = (due, at) } in
    let front : get_or turns 0 t ≡ t = get_or_from_slice_get turns 0 t t top.stands in
    let is = c.ask.ensures p.owner (ap (slice_get hosts) place_is ∙ p.held) in
    let changed : c.ask.new.hosts.items ≡ set hosts p.place (record p.owner { name = []; due = c.saturating_add-later.result; awaited = true }) =
    is.1 ∙ ap (λ k. set hosts k (record p.owner { name = []; due = c.saturating_add-later.result; awaited = true })) place_is in
    let same : schedule_of s.agent s.delay c.max-self-inside.result (place_of s.names.entries) s.hosts.items s.slots.items ≡ raised (schedule c.args.self.now) c.args.now =
    ap (λ k. schedule_of s.agent s.delay k (place_of s.names.entries) s.hosts.items s.slots.items) c.max-self-inside.ensures
    ∙ ap (λ (h : Held). raised (schedule h) c.args.now) c.self.view_is in
    let past : due ≤ m = c.if-self-due.false in
    let nothing : SaysNothing p.owner m = subst (λ (h : Host). SaysNothing h m) host_is c.in_default-leave.ensures.none in
    let new_hosts : c.ask.new.hosts.items ≡ set hosts p.place (record p.owner { name = []; due = next_due (schedule_of s.agent s.delay m names hosts slots); awaited = true }) =
    changed ∙ ap (λ d. set hosts p.place (record p.owner { name = []; due = d; awaited = true })) c.saturating_add-later.ensures in
    let a : Answers (raised (schedule c.args.self.now) c.args.now) (Robots c.ask.result) (schedule_of s.agent s.delay m names c.ask.new.hosts.items slots) =
    subst (λ (old : Schedule). Answers old (Robots c.ask.result) (schedule_of s.agent s.delay m names c.ask.new.hosts.items slots)) same
    (asks s.agent s.delay m names hosts slots s.left turns (heap_capacity s.turns) i due at top p past nothing c.ask.new.hosts.items c.ask.result is.0 new_hosts) in
    a

pub returns-in_default-leave-clause-waits : goal.returns-in_default-leave-clause-waits
returns-in_default-leave-clause-waits c =
    let s = c.self.inside in
    let i = c.self.invariant in
    let m = c.max-self-inside.result in
    let due = c.in-Some.due in
    let at = c.in-Some.at in
    let names = place_of s.names.entries in
    let hosts = s.hosts.items in
    let slots = s.slots.items in
    let turns = heap_items s.turns in
    let top : IsTop (heap_items s.turns) (c.in-Some.due, c.in-Some.at) = c.in-Some.ensures.some in
    let p : Picked s.agent s.delay m names hosts slots s.left turns (heap_capacity s.turns) i due at top =
    found s.agent s.delay m names hosts slots s.left turns (heap_capacity s.turns) i due at top in
    let within : at < length slots = get_within slots at p.slot p.stands in
    let len : vec_len s.slots ≡ length slots = search rules in
    let in_hosts : p.place < length hosts = get_within hosts p.place p.owner p.held in
    let hosts_len : vec_len s.hosts ≡ length hosts = search rules in
    let inside : at < vec_len s.slots = omega arith in
    let slot_is : c.index.result.now ≡ p.slot = same_some c.index.result.now p.slot (sym (slice_get_read slots (vec_len s.slots) at c.index.result.now len inside c.index.ensures) ∙ p.stands) in
    let place_is : c.index.result.now.host ≡ p.place = ap (λ (x : Slot). x.host) slot_is ∙ p.owns in
    let there : c.index.result.now.host < vec_len s.hosts = omega arith in
    let host_is : c.index-3.result.now ≡ p.owner = same_some c.index-3.result.now p.owner
    (sym (slice_get_read hosts (vec_len s.hosts) c.index.result.now.host c.index-3.result.now hosts_len there c.index-3.ensures) ∙ ap (slice_get hosts) place_is ∙ p.held) in
    let slot2_is : c.index-2.result.now ≡ p.slot = same_some c.index-2.result.now p.slot (sym (slice_get_read slots (vec_len s.slots) at c.index-2.result.now len inside c.index-2.ensures)
    ∙ p.stands) in
    let slot4_is : c.index-4.result.now ≡ p.slot = same_some c.index-4.result.now p.slot (sym (slice_get_read slots (vec_len s.slots) at c.index-4.result.now len inside c.index-4.ensures)
    ∙ p.stands) in
    let t : Turn = record { 0 = (due, at) } in
    let front : get_or turns 0 t ≡ t = get_or_from_slice_get turns 0 t t top.stands in
    let is = c.ask.ensures p.owner (ap (slice_get hosts) place_is ∙ p.held) in
    let changed : c.ask.new.hosts.items ≡ set hosts p.place (record p.owner { name = []; due = c.saturating_add-later.result; awaited = true }) =
    is.1 ∙ ap (λ k. set hosts k (record p.owner { name = []; due = c.saturating_add-later.result; awaited = true })) place_is in
    let same : schedule_of s.agent s.delay c.max-self-inside.result (place_of s.names.entries) s.hosts.items s.slots.items ≡ raised (schedule c.args.self.now) c.args.now =
    ap (λ k. schedule_of s.agent s.delay k (place_of s.names.entries) s.hosts.items s.slots.items) c.max-self-inside.ensures
    ∙ ap (λ (h : Held). raised (schedule h) c.args.now) c.self.view_is in
    let past : due ≤ m = c.if-self-due.false in
    let nothing : SaysNothing p.owner m = subst (λ (h : Host). SaysNothing h m) host_is c.in_default-leave.ensures.none in
    let new_hosts : c.ask.new.hosts.items ≡ set hosts p.place (record p.owner { name = []; due = next_due (schedule_of s.agent s.delay m names hosts slots); awaited = true }) =
    changed ∙ ap (λ d. set hosts p.place (record p.owner { name = []; due = d; awaited = true })) c.saturating_add-later.ensures in
    let a : Answers (raised (schedule c.args.self.now) c.args.now) (Robots c.ask.result) (schedule_of s.agent s.delay m names c.ask.new.hosts.items slots) =
    subst (λ (old : Schedule). Answers old (Robots c.ask.result) (schedule_of s.agent s.delay m names c.ask.new.hosts.items slots)) same
    (asks s.agent s.delay m names hosts slots s.left turns (heap_capacity s.turns) i due at top p past nothing c.ask.new.hosts.items c.ask.result is.0 new_hosts) in
    waits_iff _ _ (Robots c.ask.result) a

pub returns-in_default-leave-clause-idle : goal.returns-in_default-leave-clause-idle
returns-in_default-leave-clause-idle c =
    let s = c.self.inside in
    let i = c.self.invariant in
    let m = c.max-self-inside.result in
    let due = c.in-Some.due in
    let at = c.in-Some.at in
    let names = place_of s.names.entries in
    let hosts = s.hosts.items in
    let slots = s.slots.items in
    let turns = heap_items s.turns in
    let top : IsTop (heap_items s.turns) (c.in-Some.due, c.in-Some.at) = c.in-Some.ensures.some in
    let p : Picked s.agent s.delay m names hosts slots s.left turns (heap_capacity s.turns) i due at top =
    found s.agent s.delay m names hosts slots s.left turns (heap_capacity s.turns) i due at top in
    let within : at < length slots = get_within slots at p.slot p.stands in
    let len : vec_len s.slots ≡ length slots = search rules in
    let in_hosts : p.place < length hosts = get_within hosts p.place p.owner p.held in
    let hosts_len : vec_len s.hosts ≡ length hosts = search rules in
    let inside : at < vec_len s.slots = omega arith in
    let slot_is : c.index.result.now ≡ p.slot = same_some c.index.result.now p.slot (sym (slice_get_read slots (vec_len s.slots) at c.index.result.now len inside c.index.ensures) ∙ p.stands) in
    let place_is : c.index.result.now.host ≡ p.place = ap (λ (x : Slot). x.host) slot_is ∙ p.owns in
    let there : c.index.result.now.host < vec_len s.hosts = omega arith in
    let host_is : c.index-3.result.now ≡ p.owner = same_some c.index-3.result.now p.owner
    (sym (slice_get_read hosts (vec_len s.hosts) c.index.result.now.host c.index-3.result.now hosts_len there c.index-3.ensures) ∙ ap (slice_get hosts) place_is ∙ p.held) in
    let slot2_is : c.index-2.result.now ≡ p.slot = same_some c.index-2.result.now p.slot (sym (slice_get_read slots (vec_len s.slots) at c.index-2.result.now len inside c.index-2.ensures)
    ∙ p.stands) in
    let slot4_is : c.index-4.result.now ≡ p.slot = same_some c.index-4.result.now p.slot (sym (slice_get_read slots (vec_len s.slots) at c.index-4.result.now len inside c.index-4.ensures)
    ∙ p.stands) in
    let t : Turn = record { 0 = (due, at) } in
    let front : get_or turns 0 t ≡ t = get_or_from_slice_get turns 0 t t top.stands in
    let is = c.ask.ensures p.owner (ap (slice_get hosts) place_is ∙ p.held) in
    let changed : c.ask.new.hosts.items ≡ set hosts p.place (record p.owner { name = []; due = c.saturating_add-later.result; awaited = true }) =
    is.1 ∙ ap (λ k. set hosts k (record p.owner { name = []; due = c.saturating_add-later.result; awaited = true })) place_is in
    let same : schedule_of s.agent s.delay c.max-self-inside.result (place_of s.names.entries) s.hosts.items s.slots.items ≡ raised (schedule c.args.self.now) c.args.now =
    ap (λ k. schedule_of s.agent s.delay k (place_of s.names.entries) s.hosts.items s.slots.items) c.max-self-inside.ensures
    ∙ ap (λ (h : Held). raised (schedule h) c.args.now) c.self.view_is in
    let past : due ≤ m = c.if-self-due.false in
    let nothing : SaysNothing p.owner m = subst (λ (h : Host). SaysNothing h m) host_is c.in_default-leave.ensures.none in
    let new_hosts : c.ask.new.hosts.items ≡ set hosts p.place (record p.owner { name = []; due = next_due (schedule_of s.agent s.delay m names hosts slots); awaited = true }) =
    changed ∙ ap (λ d. set hosts p.place (record p.owner { name = []; due = d; awaited = true })) c.saturating_add-later.ensures in
    let a : Answers (raised (schedule c.args.self.now) c.args.now) (Robots c.ask.result) (schedule_of s.agent s.delay m names c.ask.new.hosts.items slots) =
    subst (λ (old : Schedule). Answers old (Robots c.ask.result) (schedule_of s.agent s.delay m names c.ask.new.hosts.items slots)) same
    (asks s.agent s.delay m names hosts slots s.left turns (heap_capacity s.turns) i due at top p past nothing c.ask.new.hosts.items c.ask.result is.0 new_hosts) in
    idle_iff _ _ (Robots c.ask.result) a

pub returns-in_default-leave-clause-given : goal.returns-in_default-leave-clause-given
returns-in_default-leave-clause-given c =
    let s = c.self.inside in
    let i = c.self.invariant in
    let m = c.max-self-inside.result in
    let due = c.in-Some.due in
    let at = c.in-Some.at in
    let names = place_of s.names.entries in
    let hosts = s.hosts.items in
    let slots = s.slots.items in
    let turns = heap_items s.turns in
    let top : IsTop (heap_items s.turns) (c.in-Some.due, c.in-Some.at) = c.in-Some.ensures.some in
    let p : Picked s.agent s.delay m names hosts slots s.left turns (heap_capacity s.turns) i due at top =
    found s.agent s.delay m names hosts slots s.left turns (heap_capacity s.turns) i due at top in
    let within : at < length slots = get_within slots at p.slot p.stands in
    let len : vec_len s.slots ≡ length slots = search rules in
    let in_hosts : p.place < length hosts = get_within hosts p.place p.owner p.held in
    let hosts_len : vec_len s.hosts ≡ length hosts = search rules in
    let inside : at < vec_len s.slots = omega arith in
    let slot_is : c.index.result.now ≡ p.slot = same_some c.index.result.now p.slot (sym (slice_get_read slots (vec_len s.slots) at c.index.result.now len inside c.index.ensures) ∙ p.stands) in
    let place_is : c.index.result.now.host ≡ p.place = ap (λ (x : Slot). x.host) slot_is ∙ p.owns in
    let t : Turn = record { 0 = (due, at) } in
    let front : get_or turns 0 t ≡ t = get_or_from_slice_get turns 0 t t top.stands in
    let is = c.ask.ensures p.owner (ap (slice_get hosts) place_is ∙ p.held) in
    let changed : c.ask.new.hosts.items ≡ set hosts p.place (record p.owner { name = []; due = c.saturating_add-later.result; awaited = true }) =
    is.1 ∙ ap (λ k. set hosts k (record p.owner { name = []; due = c.saturating_add-later.result; awaited = true })) place_is in
    λ name e.
    let one : c.ask.result ≡ name = cc in
    subst IsHost (sym (is.0 ∙ own_name s.agent s.delay m names hosts slots s.left turns (heap_capacity s.turns) i due at top p) ∙ one) p.given

pub invariant_of-self-2 : goal.invariant_of-self-2
invariant_of-self-2 c =
    let s = c.self.inside in
    let i = c.self.invariant in
    let m = c.max-self-inside.result in
    let due = c.in-Some.due in
    let at = c.in-Some.at in
    let names = place_of s.names.entries in
    let hosts = s.hosts.items in
    let slots = s.slots.items in
    let turns = heap_items s.turns in
    let top : IsTop (heap_items s.turns) (c.in-Some.due, c.in-Some.at) = c.in-Some.ensures.some in
    let p : Picked s.agent s.delay m names hosts slots s.left turns (heap_capacity s.turns) i due at top =
    found s.agent s.delay m names hosts slots s.left turns (heap_capacity s.turns) i due at top in
    let within : at < length slots = get_within slots at p.slot p.stands in
    let len : vec_len s.slots ≡ length slots = search rules in
    let in_hosts : p.place < length hosts = get_within hosts p.place p.owner p.held in
    let hosts_len : vec_len s.hosts ≡ length hosts = search rules in
    let inside : at < vec_len s.slots = omega arith in
    let slot_is : c.index.result.now ≡ p.slot = same_some c.index.result.now p.slot (sym (slice_get_read slots (vec_len s.slots) at c.index.result.now len inside c.index.ensures) ∙ p.stands) in
    let place_is : c.index.result.now.host ≡ p.place = ap (λ (x : Slot). x.host) slot_is ∙ p.owns in
    let there : c.index.result.now.host < vec_len s.hosts = omega arith in
    let host_is : c.index-3.result.now ≡ p.owner = same_some c.index-3.result.now p.owner
    (sym (slice_get_read hosts (vec_len s.hosts) c.index.result.now.host c.index-3.result.now hosts_len there c.index-3.ensures) ∙ ap (slice_get hosts) place_is ∙ p.held) in
    let slot2_is : c.index-2.result.now ≡ p.slot = same_some c.index-2.result.now p.slot (sym (slice_get_read slots (vec_len s.slots) at c.index-2.result.now len inside c.index-2.ensures)
    ∙ p.stands) in
    let slot4_is : c.index-4.result.now ≡ p.slot = same_some c.index-4.result.now p.slot (sym (slice_get_read slots (vec_len s.slots) at c.index-4.result.now len inside c.index-4.ensures)
    ∙ p.stands) in
    let t : Turn = record { 0 = (due, at) } in
    let front : get_or turns 0 t ≡ t = get_or_from_slice_get turns 0 t t top.stands in
    let new_due = c.due_after-due.result in
    let is = c.advance.ensures p.owner (ap (slice_get hosts) place_is ∙ p.held) in
    let next_is : c.index-2.result.now.next ≡ p.slot.next = ap (λ (x : Slot). x.next) slot2_is in
    let changed : c.advance.new.hosts.items ≡ set hosts p.place (record p.owner { due = new_due; first = p.slot.next }) =
    is ∙ (λ x. set hosts (place_is x) (record p.owner { due = new_due; first = next_is x })) in
    let out = c.taken.ensures p.slot p.stands in
    let replaced : IsReplaced turns t new_due p.slot.next (heap_items c.replace_first.new.turns) =
    subst (λ n. IsReplaced turns t new_due n (heap_items c.replace_first.new.turns)) next_is (c.replace_first.ensures.turns t front) in
    let some : 1 ≤ s.left = some_left s.agent s.delay m names hosts slots s.left turns (heap_capacity s.turns) i due at top p in
    let fewer : s.left - 1 + 1 ≡ s.left = omega arith in
    let sound = sound_answered names hosts slots s.left turns (heap_capacity s.turns) i (host p.work) p.place p.owner p.named p.held at p.slot p.work p.ready p.first p.stands p.has refl
    (own_name s.agent s.delay m names hosts slots s.left turns (heap_capacity s.turns) i due at top p) t new_due (heap_items c.replace_first.new.turns) (s.left - 1)
    (heap_capacity c.replace_first.new.turns)
    refl replaced c.replace_first.ensures.heap c.replace_first.ensures.room fewer in
    subst (λ hs. IsSound names hs c.taken.new.slots.items (s.left - 1) (heap_items c.replace_first.new.turns) (heap_capacity c.replace_first.new.turns)) (sym changed)
    (subst (λ ss. IsSound names (set hosts p.place (record p.owner { due = new_due; first = p.slot.next })) ss (s.left - 1) (heap_items c.replace_first.new.turns)
    (heap_capacity c.replace_first.new.turns)) (sym out.1) sound)

pub returns-clause-step : goal.returns-clause-step
returns-clause-step c =
    let s = c.self.inside in
    let i = c.self.invariant in
    let m = c.max-self-inside.result in
    let due = c.in-Some.due in
    let at = c.in-Some.at in
    let names = place_of s.names.entries in
    let hosts = s.hosts.items in
    let slots = s.slots.items in
    let turns = heap_items s.turns in
    let top : IsTop (heap_items s.turns) (c.in-Some.due, c.in-Some.at) = c.in-Some.ensures.some in
    let p : Picked s.agent s.delay m names hosts slots s.left turns (heap_capacity s.turns) i due at top =
    found s.agent s.delay m names hosts slots s.left turns (heap_capacity s.turns) i due at top in
    let within : at < length slots = get_within slots at p.slot p.stands in
    let len : vec_len s.slots ≡ length slots = search rules in
    let in_hosts : p.place < length hosts = get_within hosts p.place p.owner p.held in
    let hosts_len : vec_len s.hosts ≡ length hosts = search rules in
    let inside : at < vec_len s.slots = omega arith in
    let slot_is : c.index.result.now ≡ p.slot = same_some c.index.result.now p.slot (sym (slice_get_read slots (vec_len s.slots) at c.index.result.now len inside c.index.ensures) ∙ p.stands) in
    let place_is : c.index.result.now.host ≡ p.place = ap (λ (x : Slot). x.host) slot_is ∙ p.owns in
    let there : c.index.result.now.host < vec_len s.hosts = omega arith in
    let host_is : c.index-3.result.now ≡ p.owner = same_some c.index-3.result.now p.owner
    (sym (slice_get_read hosts (vec_len s.hosts) c.index.result.now.host c.index-3.result.now hosts_len there c.index-3.ensures) ∙ ap (slice_get hosts) place_is ∙ p.held) in
    let slot2_is : c.index-2.result.now ≡ p.slot = same_some c.index-2.result.now p.slot (sym (slice_get_read slots (vec_len s.slots) at c.index-2.result.now len inside c.index-2.ensures)
    ∙ p.stands) in
    let slot4_is : c.index-4.result.now ≡ p.slot = same_some c.index-4.result.now p.slot (sym (slice_get_read slots (vec_len s.slots) at c.index-4.result.now len inside c.index-4.ensures)
    ∙ p.stands) in
    let t : Turn = record { 0 = (due, at) } in
    let front : get_or turns 0 t ≡ t = get_or_from_slice_get turns 0 t t top.stands in
    let new_due = c.due_after-due.result in
    let is = c.advance.ensures p.owner (ap (slice_get hosts) place_is ∙ p.held) in
    let next_is : c.index-2.result.now.next ≡ p.slot.next = ap (λ (x : Slot). x.next) slot2_is in
    let changed : c.advance.new.hosts.items ≡ set hosts p.place (record p.owner { due = new_due; first = p.slot.next }) =
    is ∙ (λ x. set hosts (place_is x) (record p.owner { due = new_due; first = next_is x })) in
    let out = c.taken.ensures p.slot p.stands in
    let same : schedule_of s.agent s.delay c.max-self-inside.result (place_of s.names.entries) s.hosts.items s.slots.items ≡ raised (schedule c.args.self.now) c.args.now =
    ap (λ k. schedule_of s.agent s.delay k (place_of s.names.entries) s.hosts.items s.slots.items) c.max-self-inside.ensures
    ∙ ap (λ (h : Held). raised (schedule h) c.args.now) c.self.view_is in
    let past : due ≤ m = c.if-self-due.false in
    let leave = c.in-Some-leave.leave in
    let note : Says p.owner m p.work leave =
    subst (λ (h : Host). Says h m p.work leave) host_is (c.in-Some-leave.ensures.some p.work (ap (λ (x : Slot). x.work) slot4_is ∙ p.has)) in
    let is_new : new_due ≡ due_by leave (next_due (schedule_of s.agent s.delay m names hosts slots)) due =
    c.due_after-due.ensures ∙ ap (λ l. due_by leave l due) c.saturating_add-later.ensures in
    let work_is : c.taken.result ≡ p.work = same_some c.taken.result p.work (sym out.0 ∙ p.has) in
    let job_is : answer_of p.work leave ≡ c.answer.result = ap (λ (w : Work). answer_of w leave) (sym work_is) ∙ sym c.answer.ensures in
    let a : Answers (raised (schedule c.args.self.now) c.args.now) c.answer.result (schedule_of s.agent s.delay m names c.advance.new.hosts.items c.taken.new.slots.items) =
    subst (λ (old : Schedule). Answers old c.answer.result (schedule_of s.agent s.delay m names c.advance.new.hosts.items c.taken.new.slots.items)) same
    (subst (λ (j : Job). Answers (schedule_of s.agent s.delay m names hosts slots) j (schedule_of s.agent s.delay m names c.advance.new.hosts.items c.taken.new.slots.items)) job_is
    (answers s.agent s.delay m names hosts slots s.left turns (heap_capacity s.turns) i due at top p leave new_due is_new past note c.advance.new.hosts.items c.taken.new.slots.items changed out.1)) in
    a

pub returns-clause-waits : goal.returns-clause-waits
returns-clause-waits c =
    let s = c.self.inside in
    let i = c.self.invariant in
    let m = c.max-self-inside.result in
    let due = c.in-Some.due in
    let at = c.in-Some.at in
    let names = place_of s.names.entries in
    let hosts = s.hosts.items in
    let slots = s.slots.items in
    let turns = heap_items s.turns in
    let top : IsTop (heap_items s.turns) (c.in-Some.due, c.in-Some.at) = c.in-Some.ensures.some in
    let p : Picked s.agent s.delay m names hosts slots s.left turns (heap_capacity s.turns) i due at top =
    found s.agent s.delay m names hosts slots s.left turns (heap_capacity s.turns) i due at top in
    let within : at < length slots = get_within slots at p.slot p.stands in
    let len : vec_len s.slots ≡ length slots = search rules in
    let in_hosts : p.place < length hosts = get_within hosts p.place p.owner p.held in
    let hosts_len : vec_len s.hosts ≡ length hosts = search rules in
    let inside : at < vec_len s.slots = omega arith in
    let slot_is : c.index.result.now ≡ p.slot = same_some c.index.result.now p.slot (sym (slice_get_read slots (vec_len s.slots) at c.index.result.now len inside c.index.ensures) ∙ p.stands) in
    let place_is : c.index.result.now.host ≡ p.place = ap (λ (x : Slot). x.host) slot_is ∙ p.owns in
    let there : c.index.result.now.host < vec_len s.hosts = omega arith in
    let host_is : c.index-3.result.now ≡ p.owner = same_some c.index-3.result.now p.owner
    (sym (slice_get_read hosts (vec_len s.hosts) c.index.result.now.host c.index-3.result.now hosts_len there c.index-3.ensures) ∙ ap (slice_get hosts) place_is ∙ p.held) in
    let slot2_is : c.index-2.result.now ≡ p.slot = same_some c.index-2.result.now p.slot (sym (slice_get_read slots (vec_len s.slots) at c.index-2.result.now len inside c.index-2.ensures)
    ∙ p.stands) in
    let slot4_is : c.index-4.result.now ≡ p.slot = same_some c.index-4.result.now p.slot (sym (slice_get_read slots (vec_len s.slots) at c.index-4.result.now len inside c.index-4.ensures)
    ∙ p.stands) in
    let t : Turn = record { 0 = (due, at) } in
    let front : get_or turns 0 t ≡ t = get_or_from_slice_get turns 0 t t top.stands in
    let new_due = c.due_after-due.result in
    let is = c.advance.ensures p.owner (ap (slice_get hosts) place_is ∙ p.held) in
    let next_is : c.index-2.result.now.next ≡ p.slot.next = ap (λ (x : Slot). x.next) slot2_is in
    let changed : c.advance.new.hosts.items ≡ set hosts p.place (record p.owner { due = new_due; first = p.slot.next }) =
    is ∙ (λ x. set hosts (place_is x) (record p.owner { due = new_due; first = next_is x })) in
    let out = c.taken.ensures p.slot p.stands in
    let same : schedule_of s.agent s.delay c.max-self-inside.result (place_of s.names.entries) s.hosts.items s.slots.items ≡ raised (schedule c.args.self.now) c.args.now =
    ap (λ k. schedule_of s.agent s.delay k (place_of s.names.entries) s.hosts.items s.slots.items) c.max-self-inside.ensures
    ∙ ap (λ (h : Held). raised (schedule h) c.args.now) c.self.view_is in
    let past : due ≤ m = c.if-self-due.false in
    let leave = c.in-Some-leave.leave in
    let note : Says p.owner m p.work leave =
    subst (λ (h : Host). Says h m p.work leave) host_is (c.in-Some-leave.ensures.some p.work (ap (λ (x : Slot). x.work) slot4_is ∙ p.has)) in
    let is_new : new_due ≡ due_by leave (next_due (schedule_of s.agent s.delay m names hosts slots)) due =
    c.due_after-due.ensures ∙ ap (λ l. due_by leave l due) c.saturating_add-later.ensures in
    let work_is : c.taken.result ≡ p.work = same_some c.taken.result p.work (sym out.0 ∙ p.has) in
    let job_is : answer_of p.work leave ≡ c.answer.result = ap (λ (w : Work). answer_of w leave) (sym work_is) ∙ sym c.answer.ensures in
    let a : Answers (raised (schedule c.args.self.now) c.args.now) c.answer.result (schedule_of s.agent s.delay m names c.advance.new.hosts.items c.taken.new.slots.items) =
    subst (λ (old : Schedule). Answers old c.answer.result (schedule_of s.agent s.delay m names c.advance.new.hosts.items c.taken.new.slots.items)) same
    (subst (λ (j : Job). Answers (schedule_of s.agent s.delay m names hosts slots) j (schedule_of s.agent s.delay m names c.advance.new.hosts.items c.taken.new.slots.items)) job_is
    (answers s.agent s.delay m names hosts slots s.left turns (heap_capacity s.turns) i due at top p leave new_due is_new past note c.advance.new.hosts.items c.taken.new.slots.items changed out.1)) in
    waits_iff _ _ c.answer.result a

pub returns-clause-idle : goal.returns-clause-idle
returns-clause-idle c =
    let s = c.self.inside in
    let i = c.self.invariant in
    let m = c.max-self-inside.result in
    let due = c.in-Some.due in
    let at = c.in-Some.at in
    let names = place_of s.names.entries in
    let hosts = s.hosts.items in
    let slots = s.slots.items in
    let turns = heap_items s.turns in
    let top : IsTop (heap_items s.turns) (c.in-Some.due, c.in-Some.at) = c.in-Some.ensures.some in
    let p : Picked s.agent s.delay m names hosts slots s.left turns (heap_capacity s.turns) i due at top =
    found s.agent s.delay m names hosts slots s.left turns (heap_capacity s.turns) i due at top in
    let within : at < length slots = get_within slots at p.slot p.stands in
    let len : vec_len s.slots ≡ length slots = search rules in
    let in_hosts : p.place < length hosts = get_within hosts p.place p.owner p.held in
    let hosts_len : vec_len s.hosts ≡ length hosts = search rules in
    let inside : at < vec_len s.slots = omega arith in
    let slot_is : c.index.result.now ≡ p.slot = same_some c.index.result.now p.slot (sym (slice_get_read slots (vec_len s.slots) at c.index.result.now len inside c.index.ensures) ∙ p.stands) in
    let place_is : c.index.result.now.host ≡ p.place = ap (λ (x : Slot). x.host) slot_is ∙ p.owns in
    let there : c.index.result.now.host < vec_len s.hosts = omega arith in
    let host_is : c.index-3.result.now ≡ p.owner = same_some c.index-3.result.now p.owner
    (sym (slice_get_read hosts (vec_len s.hosts) c.index.result.now.host c.index-3.result.now hosts_len there c.index-3.ensures) ∙ ap (slice_get hosts) place_is ∙ p.held) in
    let slot2_is : c.index-2.result.now ≡ p.slot = same_some c.index-2.result.now p.slot (sym (slice_get_read slots (vec_len s.slots) at c.index-2.result.now len inside c.index-2.ensures)
    ∙ p.stands) in
    let slot4_is : c.index-4.result.now ≡ p.slot = same_some c.index-4.result.now p.slot (sym (slice_get_read slots (vec_len s.slots) at c.index-4.result.now len inside c.index-4.ensures)
    ∙ p.stands) in
    let t : Turn = record { 0 = (due, at) } in
    let front : get_or turns 0 t ≡ t = get_or_from_slice_get turns 0 t t top.stands in
    let new_due = c.due_after-due.result in
    let is = c.advance.ensures p.owner (ap (slice_get hosts) place_is ∙ p.held) in
    let next_is : c.index-2.result.now.next ≡ p.slot.next = ap (λ (x : Slot). x.next) slot2_is in
    let changed : c.advance.new.hosts.items ≡ set hosts p.place (record p.owner { due = new_due; first = p.slot.next }) =
    is ∙ (λ x. set hosts (place_is x) (record p.owner { due = new_due; first = next_is x })) in
    let out = c.taken.ensures p.slot p.stands in
    let same : schedule_of s.agent s.delay c.max-self-inside.result (place_of s.names.entries) s.hosts.items s.slots.items ≡ raised (schedule c.args.self.now) c.args.now =
    ap (λ k. schedule_of s.agent s.delay k (place_of s.names.entries) s.hosts.items s.slots.items) c.max-self-inside.ensures
    ∙ ap (λ (h : Held). raised (schedule h) c.args.now) c.self.view_is in
    let past : due ≤ m = c.if-self-due.false in
    let leave = c.in-Some-leave.leave in
    let note : Says p.owner m p.work leave =
    subst (λ (h : Host). Says h m p.work leave) host_is (c.in-Some-leave.ensures.some p.work (ap (λ (x : Slot). x.work) slot4_is ∙ p.has)) in
    let is_new : new_due ≡ due_by leave (next_due (schedule_of s.agent s.delay m names hosts slots)) due =
    c.due_after-due.ensures ∙ ap (λ l. due_by leave l due) c.saturating_add-later.ensures in
    let work_is : c.taken.result ≡ p.work = same_some c.taken.result p.work (sym out.0 ∙ p.has) in
    let job_is : answer_of p.work leave ≡ c.answer.result = ap (λ (w : Work). answer_of w leave) (sym work_is) ∙ sym c.answer.ensures in
    let a : Answers (raised (schedule c.args.self.now) c.args.now) c.answer.result (schedule_of s.agent s.delay m names c.advance.new.hosts.items c.taken.new.slots.items) =
    subst (λ (old : Schedule). Answers old c.answer.result (schedule_of s.agent s.delay m names c.advance.new.hosts.items c.taken.new.slots.items)) same
    (subst (λ (j : Job). Answers (schedule_of s.agent s.delay m names hosts slots) j (schedule_of s.agent s.delay m names c.advance.new.hosts.items c.taken.new.slots.items)) job_is
    (answers s.agent s.delay m names hosts slots s.left turns (heap_capacity s.turns) i due at top p leave new_due is_new past note c.advance.new.hosts.items c.taken.new.slots.items changed out.1)) in
    idle_iff _ _ c.answer.result a
