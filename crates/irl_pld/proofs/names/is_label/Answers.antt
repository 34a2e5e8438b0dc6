use Rattle.std.proofs.Common.{◌≡◌, ◌∙◌, rules, tests}
use Rattle.std.specs.List.{list_all}
use Rattle.irl_pld.specs.Names.{is_name_byte}
use Rattle.std.proofs.lemmas.Iterator.{YieldsList-from_slice}
use Rattle.std.proofs.lemmas.Iterator.Search.{all_from_yields_List}
use Rattle.irl_pld.proofs.CutLemmas.{nonempty_and}
use Rattle.irl_pld.proofs.names.is_label.Goals as goal

pub returns-then-not-is_empty : goal.returns-then-not-is_empty
returns-then-not-is_empty c =
    let label = c.args.label.now in
    let all : c.all.result ≡ list_all is_name_byte label =
    all_from_yields_List is_name_byte _ _ c.all.result c.all.ensures.ran (YieldsList-from_slice label cc) (λ x b q k. search (rules, tests)) in
    all ∙ nonempty_and label (list_all is_name_byte label) c.if-not-is_empty.ensures
