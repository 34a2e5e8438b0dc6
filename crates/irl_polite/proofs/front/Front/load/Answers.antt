use Rattle.std.proofs.Common.{◌≡◌, ◌∙◌, ◌≤◌, [], length, map, refl, sym, ap, subst, rules, arith}
use Rattle.std.specs.BinaryHeap.{heap_items, heap_capacity}
use Rattle.irl_polite.specs.Inside.{Held, Grows, IsPrepared, IsCommitted, place_of, schedule, schedule_of, items_of, bare_slot}
use Rattle.irl_polite.proofs.Tables.{schedules}
use Rattle.irl_polite.proofs.LinkingLemmas.{like_length}
use Rattle.irl_polite.proofs.LoadLemmas.{resting, no_turns, sound_grown, none_awaited, means_grown, all_placed, all_owned, sound_loaded, loaded_ready, means_loaded}
use Rattle.irl_polite.proofs.front.Front.load.Goals as goal

pub prepare-requires-clause-resting : goal.prepare-requires-clause-resting
prepare-requires-clause-resting c =
    let s = c.self.inside in
    let empty : items_of s.slots.items ≡ [] = ap (λ (h : Held). (schedule h).items) c.self.view_is ∙ c.requires in
    resting (place_of s.names.entries) s.hosts.items s.slots.items s.left (heap_items s.turns) (heap_capacity s.turns) c.self.invariant empty

pub invariant_of-self : goal.invariant_of-self
invariant_of-self c =
    let s = c.self.inside in
    let i = c.self.invariant in
    let names0 = place_of s.names.entries in
    let hosts0 = s.hosts.items in
    let names = place_of c.prepare.new.names.entries in
    let hosts = c.prepare.new.hosts.items in
    let grown : Grows names0 hosts0 names hosts = c.prepare.ensures.grown in
    let empty : items_of s.slots.items ≡ [] = ap (λ (h : Held). (schedule h).items) c.self.view_is ∙ c.requires in
    sound_grown names0 hosts0 s.slots.items s.left (heap_items s.turns) (heap_capacity s.turns) i empty names hosts (heap_items c.prepare.new.turns) (heap_capacity c.prepare.new.turns)
    grown c.prepare.ensures.turns c.prepare.ensures.kept

pub returns-in_err-slots-clause-ready : goal.returns-in_err-slots-clause-ready
returns-in_err-slots-clause-ready c =
    let s = c.self.inside in
    let i = c.self.invariant in
    let names0 = place_of s.names.entries in
    let hosts0 = s.hosts.items in
    let names = place_of c.prepare.new.names.entries in
    let hosts = c.prepare.new.hosts.items in
    let grown : Grows names0 hosts0 names hosts = c.prepare.ensures.grown in
    let empty : items_of s.slots.items ≡ [] = ap (λ (h : Held). (schedule h).items) c.self.view_is ∙ c.requires in
    none_awaited names hosts grown.table grown.resting

pub commit-requires-clause-placed : goal.commit-requires-clause-placed
commit-requires-clause-placed c =
    let s = c.self.inside in
    let i = c.self.invariant in
    let names0 = place_of s.names.entries in
    let hosts0 = s.hosts.items in
    let names = place_of c.prepare.new.names.entries in
    let hosts = c.prepare.new.hosts.items in
    let grown : Grows names0 hosts0 names hosts = c.prepare.ensures.grown in
    let empty : items_of s.slots.items ≡ [] = ap (λ (h : Held). (schedule h).items) c.self.view_is ∙ c.requires in
    let made = c.in_ok-slots.slots.items in
    let read = c.in_ok-slots.read.items in
    let items = c.args.items.items in
    let notes = c.args.notes.items in
    let prepared : IsPrepared names s.agent items notes made read =
    subst (λ a. IsPrepared names a items notes made read) c.bytes.ensures c.in_ok-slots.ensures.prepared in
    all_placed names s.agent hosts grown.table notes read prepared.heard

pub commit-requires-clause-owned : goal.commit-requires-clause-owned
commit-requires-clause-owned c =
    let s = c.self.inside in
    let i = c.self.invariant in
    let names0 = place_of s.names.entries in
    let hosts0 = s.hosts.items in
    let names = place_of c.prepare.new.names.entries in
    let hosts = c.prepare.new.hosts.items in
    let grown : Grows names0 hosts0 names hosts = c.prepare.ensures.grown in
    let empty : items_of s.slots.items ≡ [] = ap (λ (h : Held). (schedule h).items) c.self.view_is ∙ c.requires in
    let made = c.in_ok-slots.slots.items in
    let read = c.in_ok-slots.read.items in
    let items = c.args.items.items in
    let notes = c.args.notes.items in
    let prepared : IsPrepared names s.agent items notes made read =
    subst (λ a. IsPrepared names a items notes made read) c.bytes.ensures c.in_ok-slots.ensures.prepared in
    all_owned names s.agent hosts grown.table items made prepared.entered

pub commit-requires-clause-none : goal.commit-requires-clause-none
commit-requires-clause-none c =
    let s = c.self.inside in
    let i = c.self.invariant in
    let names0 = place_of s.names.entries in
    let hosts0 = s.hosts.items in
    let names = place_of c.prepare.new.names.entries in
    let hosts = c.prepare.new.hosts.items in
    let grown : Grows names0 hosts0 names hosts = c.prepare.ensures.grown in
    let empty : items_of s.slots.items ≡ [] = ap (λ (h : Held). (schedule h).items) c.self.view_is ∙ c.requires in
    c.prepare.ensures.turns ∙ no_turns names0 hosts0 s.slots.items s.left (heap_items s.turns) (heap_capacity s.turns) i empty

pub invariant_of-self-2 : goal.invariant_of-self-2
invariant_of-self-2 c =
    let s = c.self.inside in
    let i = c.self.invariant in
    let names0 = place_of s.names.entries in
    let hosts0 = s.hosts.items in
    let names = place_of c.prepare.new.names.entries in
    let hosts = c.prepare.new.hosts.items in
    let grown : Grows names0 hosts0 names hosts = c.prepare.ensures.grown in
    let empty : items_of s.slots.items ≡ [] = ap (λ (h : Held). (schedule h).items) c.self.view_is ∙ c.requires in
    let made = c.in_ok-slots.slots.items in
    let read = c.in_ok-slots.read.items in
    let items = c.args.items.items in
    let notes = c.args.notes.items in
    let prepared : IsPrepared names s.agent items notes made read =
    subst (λ a. IsPrepared names a items notes made read) c.bytes.ensures c.in_ok-slots.ensures.prepared in
    let new = c.commit.new.hosts.items in
    let slots = c.commit.new.slots.items in
    let done : IsCommitted hosts read new = c.commit.ensures.hosts in
    let like : map bare_slot slots ≡ map bare_slot made = c.commit.ensures.slots in
    let len : c.len.result ≡ length c.commit.new.slots.items = search rules in
    let same : length c.commit.new.slots.items ≡ length c.in_ok-slots.slots.items = like_length bare_slot slots made like in
    let room : length c.in_ok-slots.slots.items ≤ heap_capacity c.prepare.new.turns = c.in_ok-slots.ensures.room in
    let more : heap_capacity c.prepare.new.turns ≤ heap_capacity c.commit.new.turns = c.commit.ensures.room in
    sound_loaded names s.agent items notes hosts new made slots read grown.table grown.resting prepared done like c.len.result (heap_items c.commit.new.turns) (heap_capacity c.commit.new.turns)
    len c.commit.ensures.firsts c.commit.ensures.nexts c.commit.ensures.turns c.commit.ensures.heap (omega arith)

pub returns-clause-ok : goal.returns-clause-ok
returns-clause-ok c =
    let s = c.self.inside in
    let i = c.self.invariant in
    let names0 = place_of s.names.entries in
    let hosts0 = s.hosts.items in
    let names = place_of c.prepare.new.names.entries in
    let hosts = c.prepare.new.hosts.items in
    let grown : Grows names0 hosts0 names hosts = c.prepare.ensures.grown in
    let empty : items_of s.slots.items ≡ [] = ap (λ (h : Held). (schedule h).items) c.self.view_is ∙ c.requires in
    let made = c.in_ok-slots.slots.items in
    let read = c.in_ok-slots.read.items in
    let items = c.args.items.items in
    let notes = c.args.notes.items in
    let prepared : IsPrepared names s.agent items notes made read =
    subst (λ a. IsPrepared names a items notes made read) c.bytes.ensures c.in_ok-slots.ensures.prepared in
    let new = c.commit.new.hosts.items in
    let slots = c.commit.new.slots.items in
    let done : IsCommitted hosts read new = c.commit.ensures.hosts in
    let like : map bare_slot slots ≡ map bare_slot made = c.commit.ensures.slots in
    let bare : schedule_of s.agent s.delay s.moment names hosts s.slots.items ≡ schedule_of s.agent s.delay s.moment names hosts [] =
    schedules (schedule_of s.agent s.delay s.moment names hosts s.slots.items) (schedule_of s.agent s.delay s.moment names hosts []) refl refl refl empty (λ q. refl) (λ q. refl) (λ q. refl) in
    let was : schedule c.args.self.now ≡ schedule_of s.agent s.delay s.moment names hosts [] =
    sym (ap (λ (h : Held). schedule h) c.self.view_is)
    ∙ sym (means_grown s.agent s.delay s.moment names0 names hosts0 hosts s.slots.items grown) ∙ bare in (
      c.requires,
      means_loaded names s.agent items notes hosts new made slots read grown.table grown.resting prepared done like s.delay s.moment (schedule c.args.self.now) was,
    )

pub returns-clause-ready : goal.returns-clause-ready
returns-clause-ready c =
    let s = c.self.inside in
    let i = c.self.invariant in
    let names0 = place_of s.names.entries in
    let hosts0 = s.hosts.items in
    let names = place_of c.prepare.new.names.entries in
    let hosts = c.prepare.new.hosts.items in
    let grown : Grows names0 hosts0 names hosts = c.prepare.ensures.grown in
    let empty : items_of s.slots.items ≡ [] = ap (λ (h : Held). (schedule h).items) c.self.view_is ∙ c.requires in
    let made = c.in_ok-slots.slots.items in
    let read = c.in_ok-slots.read.items in
    let items = c.args.items.items in
    let notes = c.args.notes.items in
    let prepared : IsPrepared names s.agent items notes made read =
    subst (λ a. IsPrepared names a items notes made read) c.bytes.ensures c.in_ok-slots.ensures.prepared in
    let new = c.commit.new.hosts.items in
    let slots = c.commit.new.slots.items in
    let done : IsCommitted hosts read new = c.commit.ensures.hosts in
    let like : map bare_slot slots ≡ map bare_slot made = c.commit.ensures.slots in
    loaded_ready names s.agent items notes hosts new made slots read grown.table grown.resting prepared done like
