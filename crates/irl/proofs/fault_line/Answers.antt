-- The line around the text that explains.
use Rattle.std.proofs.Common.{◌∙◌, ◌∷◌, ◌++◌, [], ap, codes, string_bytes}
use Rattle.std.proofs.lemmas.Result.{IfOk-weaker}
use Rattle.irl.proofs.fault_line.Goals as goal

pub returns : goal.returns
returns c =
    IfOk-weaker c.concat.result _ _
    (λ line is. (string_bytes c.in_ok-text.text, c.in_ok-text.ensures, is ∙ ap (λ text. codes "irl: " ++ (text ++ 10 ∷ [])) c.as_str.ensures.value))
    c.concat.ensures.ok
