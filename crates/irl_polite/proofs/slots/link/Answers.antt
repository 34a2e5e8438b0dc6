use Rattle.std.proofs.Common.{◌≡◌, ◌∙◌, ◌+◌, ◌-◌, ◌<◌, ◌≤◌, length, map, set, Some, refl, sym, ap, subst, rules, arith}
use Rattle.std.specs.Prelude.{slice_get, vec_len, IsSome}
use Rattle.std.proofs.lemmas.List.{length-set}
use Rattle.irl_key.specs.declared.web.Work.{Work}
use Rattle.irl_polite.specs.declared.hosts.Host.{Host}
use Rattle.irl_polite.specs.declared.slots.Slot.{Slot}
use Rattle.irl_polite.specs.Inside.{IsOwned, AreFirsts, AreNexts, bare_host, bare_slot}
use Rattle.irl_polite.proofs.Lists.{get_some, some_value}
use Rattle.irl_polite.proofs.LinkingLemmas.{get_like, like_length, all_at, bare_slots_kept, bare_hosts_kept, firsts_linked, nexts_linked, firsts_none, nexts_none}
use Rattle.irl_polite.proofs.slots.link.Goals as goal

pub loop-at-init : goal.loop-at-init
loop-at-init c =
    let len : c.len-at.result ≡ length c.args.slots.now.items = search rules in
    record {
      within = omega arith;
      hosts = refl;
      slots = refl;
      firsts = firsts_none c.args.hosts.now.items c.args.slots.now.items c.len-at.result (omega arith) c.requires.resting;
      nexts = nexts_none c.args.slots.now.items c.len-at.result (omega arith);
    }

pub link_one-requires : goal.link_one-requires
link_one-requires c =
    let n = c.loop-at.at in
    let at = c.loop-at.at - 1 in
    let hosts = c.loop-at.hosts.items in
    let slots = c.loop-at.slots.items in
    let i = c.loop-at.invariant in
    let bound : c.loop-at.at ≤ length c.loop-at.slots.items = i.within in
    let some = get_some slots at (let h : c.loop-at.at - 1 < length c.loop-at.slots.items = omega arith in h) in
    let slot : Slot = some.0 in
    let like = get_like bare_slot slots c.args.slots.now.items at slot i.slots some.1 in
    let owned : IsOwned c.args.hosts.now.items like.0 = all_at (IsOwned c.args.hosts.now.items) c.args.slots.now.items at like.0 like.1 c.requires.owned in
    let count : length c.loop-at.hosts.items ≡ length c.args.hosts.now.items = like_length bare_host hosts c.args.hosts.now.items i.hosts in
    let old : like.0.host < length c.args.hosts.now.items = owned.within in
    let same : like.0.host ≡ slot.host = ap (λ (x : Slot). x.host) like.2 in
    let within : slot.host < length c.loop-at.hosts.items = omega arith in
    let len : vec_len c.loop-at.hosts ≡ length c.loop-at.hosts.items = search rules in
    (slot, some.1, omega arith)

pub loop-at-preserved : goal.loop-at-preserved
loop-at-preserved c =
    let n = c.loop-at.at in
    let at = c.loop-at.at - 1 in
    let hosts = c.loop-at.hosts.items in
    let slots = c.loop-at.slots.items in
    let i = c.loop-at.invariant in
    let bound : c.loop-at.at ≤ length c.loop-at.slots.items = i.within in
    let some = get_some slots at (let h : c.loop-at.at - 1 < length c.loop-at.slots.items = omega arith in h) in
    let slot : Slot = some.0 in
    let like = get_like bare_slot slots c.args.slots.now.items at slot i.slots some.1 in
    let owned : IsOwned c.args.hosts.now.items like.0 = all_at (IsOwned c.args.hosts.now.items) c.args.slots.now.items at like.0 like.1 c.requires.owned in
    let count : length c.loop-at.hosts.items ≡ length c.args.hosts.now.items = like_length bare_host hosts c.args.hosts.now.items i.hosts in
    let old : like.0.host < length c.args.hosts.now.items = owned.within in
    let same : like.0.host ≡ slot.host = ap (λ (x : Slot). x.host) like.2 in
    let within : slot.host < length c.loop-at.hosts.items = omega arith in
    let host = get_some hosts slot.host within in
    let owner : Host = host.0 in
    let held : slice_get c.loop-at.hosts.items slot.host ≡ Some owner = host.1 in
    let value = some_value slot.work (subst IsSome (ap (λ (x : Slot). x.work) like.2) owned.holds) in
    let work : Work = value.0 in
    let linked = c.link_one.ensures slot owner some.1 held in
    let up : c.loop-at.at ≡ at + 1 = omega arith in
    let firsts : AreFirsts c.loop-at.hosts.items c.loop-at.slots.items (at + 1) = subst (AreFirsts c.loop-at.hosts.items c.loop-at.slots.items) up i.firsts in
    let nexts : AreNexts c.loop-at.slots.items (at + 1) = subst (AreNexts c.loop-at.slots.items) up i.nexts in
    let new_firsts = firsts_linked hosts slots at slot work owner some.1 value.1 held firsts in
    let new_nexts = nexts_linked hosts slots at slot work owner some.1 value.1 held firsts nexts in
    let slots_len : length c.link_one.new.slots.items ≡ length c.loop-at.slots.items = ap length linked.0 ∙ length-set slots at (record slot { next = owner.first }) in
    record {
      within = omega arith;
      hosts = ap (map bare_host) linked.1 ∙ bare_hosts_kept hosts slots at slot work owner some.1 value.1 held ∙ i.hosts;
      slots = ap (map bare_slot) linked.0 ∙ bare_slots_kept hosts slots at slot work owner some.1 value.1 held ∙ i.slots;
      firsts = subst (λ hs. AreFirsts hs c.link_one.new.slots.items at) (sym linked.1)
          (subst (λ ss. AreFirsts (set hosts slot.host (record owner { first = Some at })) ss at) (sym linked.0) new_firsts);
      nexts = subst (λ ss. AreNexts ss at) (sym linked.0) new_nexts;
    }

pub returns-clause-firsts : goal.returns-clause-firsts
returns-clause-firsts c =
    let zero_at : c.loop-at.at ≡ 0 = omega arith in
    subst (AreFirsts c.loop-at.hosts.items c.loop-at.slots.items) zero_at c.loop-at.invariant.firsts
