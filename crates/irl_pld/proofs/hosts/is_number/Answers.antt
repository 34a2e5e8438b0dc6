use Rattle.std.proofs.Common.{◌≡◌, ◌∙◌, rules, tests}
use Rattle.std.specs.List.{list_all}
use Rattle.std.specs.Char.{is_ascii_digit}
use Rattle.std.proofs.lemmas.Iterator.{YieldsList-from_slice}
use Rattle.std.proofs.lemmas.Iterator.Search.{all_from_yields_List}
use Rattle.irl_pld.proofs.CutLemmas.{nonempty_and}
use Rattle.irl_pld.proofs.hosts.is_number.Goals as goal

pub returns-then-not-is_empty : goal.returns-then-not-is_empty
returns-then-not-is_empty c =
    let label = c.args.label.now in
    let all : c.all.result ≡ list_all is_ascii_digit label =
    all_from_yields_List is_ascii_digit _ _ c.all.result c.all.ensures.ran (YieldsList-from_slice label cc) (λ x b q k. search (rules, tests)) in
    all ∙ nonempty_and label (list_all is_ascii_digit label) c.if-not-is_empty.ensures
