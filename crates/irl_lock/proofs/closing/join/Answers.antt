use Rattle.std.proofs.Common.{◌≡◌, ◌∙◌, ◌+◌, ◌++◌, ◌∷◌, List, map, length, sym, ap, subst, append-nil, arith}
use Rattle.std.specs.List.{AllByRecursion}
use Rattle.std.specs.Vec.Iter.{into_iter_items, into_iter_len}
use Rattle.irl_lock.specs.Books.{shares_of}
use Rattle.irl_lock.specs.Plays.{M}
use Rattle.irl_lock.specs.Sharing.{IsFree, IsOf, mine_of, opening_of, parts_in, parts_in_all}
use Rattle.irl_lock.specs.declared.pass.Pass.{Pass}
use Rattle.irl_lock.specs.declared.view.Share.{Share}
use Rattle.irl_lock.proofs.Leaving.{none_left, on_after, shares_more}
use Rattle.irl_lock.proofs.SeatSteps.{joins}
use Rattle.irl_lock.proofs.closing.join.Goals as goal

pub loop-pass-init : goal.loop-pass-init
loop-pass-init g c =
    let shared = c.args.shared.now in
    let first = c.in-Some.first in
    let rest = into_iter_items c.next.new.self in
    let items : c.args.passes.items ≡ first ∷ rest = sym c.into_iter-left.ensures.rest ∙ c.in-Some.ensures.items in
    let owns = subst (AllByRecursion (IsOf shared)) items c.requires.own in
    let frees = subst (AllByRecursion IsFree) items c.requires.free in
    record {
      own = owns.0.on;
      turns = frees.0.turns;
      slots = frees.0.slots;
      parts = ap parts_in_all (sym items) ∙ c.requires.all;
      shares = ap (λ (l : List Share). (first.token.me.0.known.mine ∷ l) ++ map mine_of rest) frees.0.joined ∙ ap (map mine_of) (sym items);
      long = omega (arith, c.in-Some.ensures.cases, c.into_iter-left.ensures.len, c.args.passes.ok.0, ap length items);
      owns = owns.1;
      frees = frees.1;
    }

pub join_seat-requires : goal.join_seat-requires
join_seat-requires g c =
    let i = c.loop-pass.invariant in
    let shared = c.args.shared.now in
    let pass = c.in-Some-next.pass in
    let own = (subst (AllByRecursion (IsOf shared)) c.in-Some-next.ensures.items i.owns).0 in
    let free = (subst (AllByRecursion IsFree) c.in-Some-next.ensures.items i.frees).0 in (
      i.own.own_is,
      own.on.own_is,
      free.slots,
      omega (arith, shared.words),
      joins (opening_of shared) c.loop-pass.token.id c.loop-pass.token.me.0 pass.token.id pass.token.me.0 free.turns i.own.part,
    )

pub loop-pass-preserved : goal.loop-pass-preserved
loop-pass-preserved g c =
    let i = c.loop-pass.invariant in
    let shared = c.args.shared.now in
    let token = c.loop-pass.token in
    let pass = c.in-Some-next.pass in
    let rest = into_iter_items c.next-in-loop-pass.new.self in
    let items = c.in-Some-next.ensures.items in
    let owns = subst (AllByRecursion (IsOf shared)) items i.owns in
    let frees = subst (AllByRecursion IsFree) items i.frees in
    let does = c.join_seat.ensures in
    let known : c.join_seat.new.seat.me.0.known.parts ≡ token.me.0.known.parts + parts_in pass = ap (λ (m : M g.S.Store). m.0.known.parts) does.2 in
    let all : parts_in_all (into_iter_items c.loop-pass.left) ≡ parts_in pass + parts_in_all rest = ap parts_in_all items in
    record {
      own = on_after shared.table.shared.table_id token.table_id c.join_seat.new.seat.table_id (opening_of shared) token.me c.join_seat.new.seat.me pass.token.me.0 i.own does.0 does.2;
      turns = ap (λ (m : M g.S.Store). m.0.turns) does.2 ∙ i.turns;
      slots = ap (λ (m : M g.S.Store). m.1) does.2 ∙ i.slots;
      parts = omega (arith, known, all, i.parts);
      shares = ap (λ (m : M g.S.Store). shares_of m.0.known ++ map mine_of rest) does.2 ∙ shares_more token.me.0.known pass.token.me.0.known (map mine_of rest) frees.0.joined
          ∙ ap (λ (l : List (Pass g.row.S.Denot g.S.Store)). shares_of token.me.0.known ++ map mine_of l) (sym items) ∙ i.shares;
      long = omega (arith, c.in-Some-next.ensures.cases.1, i.long, ap length items);
      owns = owns.1;
      frees = frees.1;
    }

pub returns-clause-parts : goal.returns-clause-parts
returns-clause-parts g c =
    let i = c.loop-pass.invariant in
    let none = none_left (into_iter_items c.loop-pass.left) (into_iter_len c.loop-pass.left) i.long c.in_default-next.ensures.cases.0 in
    omega (arith, i.parts, ap parts_in_all none)

pub returns-clause-shares : goal.returns-clause-shares
returns-clause-shares g c =
    let i = c.loop-pass.invariant in
    let none = none_left (into_iter_items c.loop-pass.left) (into_iter_len c.loop-pass.left) i.long c.in_default-next.ensures.cases.0 in
    let mine = shares_of c.loop-pass.token.me.0.known in
    sym (append-nil mine) ∙ ap (λ (l : List (Pass g.row.S.Denot g.S.Store)). mine ++ map mine_of l) (sym none) ∙ i.shares
