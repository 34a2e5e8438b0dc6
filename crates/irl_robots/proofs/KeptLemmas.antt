-- What is kept of a file says what the whole says.
use Rattle.std.proofs.Common.{◌≡◌, ℕ, List, take, map, ap, ◌∙◌, le_refl}
use Rattle.std.specs.List.{flat_map}
use Rattle.std.proofs.lemmas.List.{take-take}
use Rattle.irl_base.specs.Limits.{max_robots}
use Rattle.irl_robots.specs.Lines.{text_of, without_mark, lines, line_of}
use Rattle.irl_robots.specs.Groups.{obeyed, rules_of, groups_for, outline_of}

text_of-kept : (body : List ℕ) → text_of (take max_robots body) ≡ text_of body
unfolding text_of
text_of-kept body = ap without_mark (take-take max_robots max_robots body (le_refl max_robots))

pub obeyed-kept : (body kept agent : List ℕ) → kept ≡ take max_robots body → obeyed kept agent ≡ obeyed body agent
unfolding obeyed
obeyed-kept body kept agent is =
    ap (λ text. flat_map rules_of (groups_for agent (outline_of 1 (map line_of (lines text))).groups))
    (ap text_of is ∙ text_of-kept body)
