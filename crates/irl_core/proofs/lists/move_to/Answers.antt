use Rattle.std.proofs.Common.{◌<◌, ◌∙◌, ◌++◌, [], List, length, get_or, sym, ap, rules}
use Rattle.std.specs.Prelude.{Vec}
use Rattle.irl_offer.specs.Tuple.{Tuple}
use Rattle.irl_base.specs.Lists.{items_of}
use Rattle.irl_model.proofs.Flushes.{flushed_lists-set}
use Rattle.irl_base.proofs.ListLemmas.{on_err, set_vec, at_vec, same_vec}
use Rattle.irl_core.proofs.lists.move_to.Goals as goal

pub returns-in_err-append-clause-lists_kept : goal.returns-in_err-append-clause-lists_kept
returns-in_err-append-clause-lists_kept c =
    let within : c.args.at < length c.args.lists.now.items = search rules in
    on_err c.from_residual.result _
    (same_vec c.args.lists.now.items c.args.at c.append.new.self c.index_mut-list.result.now within c.index_mut-list.ensures.value c.in_err-append.ensures.items)

pub returns-in_err-append-clause-arrays_kept : goal.returns-in_err-append-clause-arrays_kept
returns-in_err-append-clause-arrays_kept c =
    let within : c.args.at < length c.args.arrays.now.items = search rules in
    on_err c.from_residual.result _
    (same_vec c.args.arrays.now.items c.args.at c.append.new.other c.index_mut-array.result.now within c.index_mut-array.ensures.value c.in_err-append.ensures.other_items)

pub returns-clause-lists : goal.returns-clause-lists
returns-clause-lists c =
    let lists = c.args.lists.now.items in
    let arrays = c.args.arrays.now.items in
    let at = c.args.at in
    let in_lists : at < length lists = search rules in
    let in_arrays : at < length arrays = search rules in
    let list = ap (λ (v : Vec Tuple _). v.items) c.index_mut-list.ensures.value ∙ sym (at_vec lists at c.index_mut-list.result.now in_lists) in
    let array = ap (λ (v : Vec Tuple _). v.items) c.index_mut-array.ensures.value ∙ sym (at_vec arrays at c.index_mut-array.result.now in_arrays) in
    set_vec lists at c.append.new.self _
    (c.in_ok-append.ensures.items
    ∙ ap (λ (t : List Tuple). t ++ c.index_mut-array.result.now.items) list
    ∙ ap (λ (t : List Tuple). get_or (items_of lists) at [] ++ t) array)
    ∙ sym (flushed_lists-set at (get_or (items_of arrays) at []) (items_of lists))

pub returns-clause-arrays : goal.returns-clause-arrays
returns-clause-arrays c = set_vec c.args.arrays.now.items c.args.at c.append.new.other _ c.in_ok-append.ensures.other_items
