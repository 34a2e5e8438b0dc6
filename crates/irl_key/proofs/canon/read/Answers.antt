use Rattle.std.proofs.Common.{sym, ap, ◌∙◌, option_copied}
use Rattle.std.specs.Result.{result_ok}
use Rattle.url.specs.Parser.{parse_url}
use Rattle.irl_key.proofs.WebLemmas.{url_against-other, url_against-utf8, url_against-refused}
use Rattle.irl_key.proofs.canon.read.Goals as goal

pub returns-in_default : goal.returns-in_default
returns-in_default c = sym (url_against-other (option_copied c.args.base) c.args.text.now c.in_default.ensures.cases.0)

pub returns-in-Ok-parse : goal.returns-in-Ok-parse
returns-in-Ok-parse c =
    let base = option_copied c.args.base in
    let parsed = ap (parse_url base) (sym c.in-Ok.ensures.cases.0) ∙ c.in-Ok-parse.ensures in
    sym (url_against-utf8 base c.args.text.now c.in-Ok.ensures.cases.1 ∙ ap result_ok parsed)

pub returns-in-Err : goal.returns-in-Err
returns-in-Err c =
    let refused = rw c.in-Ok.ensures.cases.0 at c.in-Err.ensures in
    url_against-refused _ (option_copied c.args.base) c.args.text.now c.in-Err.error c.refused.ensures.none c.refused.ensures.cause refused c.in-Ok.ensures.cases.1
