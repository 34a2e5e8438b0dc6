use Rattle.std.proofs.Common.{◌≡◌, ◌∙◌, true, sym, rules, tests}
use Rattle.std.specs.List.{list_all}
use Rattle.std.proofs.lemmas.Iterator.{YieldsList-from_slice}
use Rattle.std.proofs.lemmas.Iterator.Search.{all_from_yields_List}
use Rattle.irl_host.specs.Sight.{is_host_byte, is_named}
use Rattle.irl_host.proofs.sight.is_plain_host.Goals as goal

pub returns-then-is_named : goal.returns-then-is_named
returns-then-is_named c =
    let host = c.args.host.now in
    let all : c.all.result ≡ list_all is_host_byte host =
    all_from_yields_List is_host_byte _ _ c.all.result c.all.ensures.ran (YieldsList-from_slice host cc) (λ x b q k. search (rules, tests)) in
    let named : is_named host ≡ true = sym c.is_named.ensures ∙ c.if-is_named.true in
    rw named all
