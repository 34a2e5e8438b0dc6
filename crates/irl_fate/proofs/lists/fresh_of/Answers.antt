use Rattle.std.proofs.Common.{◌≡◌, ◌∙◌, ap, sym, arith, rules, length, drop}
use Rattle.std.specs.Prelude.{vec_len}
use Rattle.irl_base.specs.Lists.{items_of, list_at}
use Rattle.irl_base.proofs.ListLemmas.{at_vec}
use Rattle.irl_fate.proofs.lists.fresh_of.Goals as goal

pub behind-requires : goal.behind-requires
behind-requires c =
    let lists = c.args.lists.now in
    let at = c.args.at in
    let v = c.index-lists-at.result in
    let count : vec_len v ≡ length v.items = search rules in
    let here : length (list_at (items_of lists) at) ≡ length v.items = ap length (at_vec lists at v c.requires.within ∙ ap (λ u. u.items) (sym c.index-lists-at.is)) in
    omega (arith, c.requires.long, c.len.ensures)

pub returns : goal.returns
returns c =
    let lists = c.args.lists.now in
    let at = c.args.at in
    let v = c.index-lists-at.result in
    let count : vec_len v ≡ length v.items = search rules in
    let here : length (list_at (items_of lists) at) ≡ length v.items = ap length (at_vec lists at v c.requires.within ∙ ap (λ u. u.items) (sym c.index-lists-at.is)) in
    c.behind.ensures ∙ ap (λ n. drop n c.args.places.now) (c.len.ensures ∙ count ∙ sym here)
