use Rattle.std.proofs.Common.{◌≡◌, ◌∙◌, length, sym, subst}
use Rattle.std.specs.List.{All}
use Rattle.irl_polite.specs.Inside.{IsOwned, IsReady, bare_host}
use Rattle.irl_polite.proofs.GrowLemmas.{noted_length}
use Rattle.irl_polite.proofs.LinkingLemmas.{like_length}
use Rattle.irl_polite.proofs.LoadLemmas.{noted_resting, owned_longer, owned_like, all_ready}
use Rattle.irl_polite.proofs.loading.commit.Goals as goal

pub link-requires-clause-resting : goal.link-requires-clause-resting
link-requires-clause-resting c = noted_resting c.args.hosts.now.items c.args.read.items c.note_all.new.hosts.items c.note_all.ensures c.requires.resting

pub link-requires-clause-owned : goal.link-requires-clause-owned
link-requires-clause-owned c =
    owned_longer c.args.hosts.now.items c.note_all.new.hosts.items c.args.slots.now.items
    (noted_length c.args.hosts.now.items c.args.read.items c.note_all.new.hosts.items c.note_all.ensures) c.requires.owned

pub begin-requires-clause-owned : goal.begin-requires-clause-owned
begin-requires-clause-owned c =
    let count : length c.link.new.hosts.items ≡ length c.args.hosts.now.items =
    like_length bare_host c.link.new.hosts.items c.note_all.new.hosts.items c.link.ensures.hosts
    ∙ noted_length c.args.hosts.now.items c.args.read.items c.note_all.new.hosts.items c.note_all.ensures in
    let all : All (IsOwned c.link.new.hosts.items) c.link.new.slots.items =
    owned_longer c.args.hosts.now.items c.link.new.hosts.items c.link.new.slots.items count
    (owned_like c.args.hosts.now.items c.args.slots.now.items c.link.new.slots.items c.link.ensures.slots c.requires.owned) in
    subst (λ hs. All (IsOwned hs) c.deref-2.result.now) (sym c.deref.ensures.value) (subst (All (IsOwned c.link.new.hosts.items)) (sym c.deref-2.ensures.value) all)

pub begin-requires-clause-ready : goal.begin-requires-clause-ready
begin-requires-clause-ready c =
    subst (All IsReady) (sym c.deref.ensures.value)
    (all_ready c.link.new.hosts.items c.note_all.new.hosts.items c.link.ensures.hosts
    (noted_resting c.args.hosts.now.items c.args.read.items c.note_all.new.hosts.items c.note_all.ensures c.requires.resting))
