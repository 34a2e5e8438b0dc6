use Rattle.std.proofs.Common.{◌≡◌, ◌+◌, length, drop, take, unwrap_or, option_map, rules, ap, ◌∙◌}
use Rattle.std.proofs.lemmas.List.{take_rest}
use Rattle.std.specs.List.{position}
use Rattle.irl_scan.specs.Bytes.{ends_attribute_name}
use Rattle.irl_scan.proofs.Names.{name_taken, name_passed}
use Rattle.irl_scan.proofs.Searches.{position_run}
use Rattle.irl_scan.proofs.cursor.Cursor.read_name.Goals as goal

pub returns-clause-front : goal.returns-clause-front
returns-clause-front c =
    let rest = c.args.self.now.rest.now in
    let found = c.attribute_name_end-behind.result in
    let is : found ≡ position ends_attribute_name (drop 1 rest) = c.attribute_name_end-behind.ensures ∙ ap (position ends_attribute_name) (take_rest rest 1) in
    let next : c.map.result ≡ option_map (λ n. 1 + n) found = search rules in
    c.take_to.ensures.front ∙ ap (λ o. take (unwrap_or o (length rest)) rest) next
    ∙ name_taken rest found c.requires (position_run ends_attribute_name (drop 1 rest) found is)

pub returns-clause-back : goal.returns-clause-back
returns-clause-back c =
    let rest = c.args.self.now.rest.now in
    let found = c.attribute_name_end-behind.result in
    let is : found ≡ position ends_attribute_name (drop 1 rest) = c.attribute_name_end-behind.ensures ∙ ap (position ends_attribute_name) (take_rest rest 1) in
    let next : c.map.result ≡ option_map (λ n. 1 + n) found = search rules in
    c.take_to.ensures.rest ∙ ap (λ o. drop (unwrap_or o (length rest)) rest) next
    ∙ name_passed rest found c.requires (position_run ends_attribute_name (drop 1 rest) found is)
