use Rattle.std.proofs.Common.{◌≡◌, false, rules, tests}
use Rattle.std.specs.List.{list_all}
use Rattle.std.proofs.lemmas.Iterator.{YieldsList-from_slice}
use Rattle.std.proofs.lemmas.Iterator.Search.{all_from_yields_List}
use Rattle.clap.specs.Walk.{is_empty}
use Rattle.irl_words.specs.Words.{is_token_byte}
use Rattle.irl_words.proofs.words.is_token.Goals as goal

pub returns-then-not-is_empty : goal.returns-then-not-is_empty
returns-then-not-is_empty c =
    let name = c.args.name.now in
    let all : c.all.result ≡ list_all is_token_byte name =
    all_from_yields_List is_token_byte _ _ c.all.result c.all.ensures.ran (YieldsList-from_slice name cc) (λ x b q k. search (rules, tests)) in
    let some : is_empty name ≡ false = search rules in
    rw some all
