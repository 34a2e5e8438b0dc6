use Rattle.std.proofs.Common.{◌≡◌, ◌∷◌, true, false, map, sym, ap, ◌∙◌}
use Rattle.std.proofs.lemmas.Bool.{or_left}
use Rattle.irl_robots.specs.Lines.{lines, line_of}
use Rattle.irl_robots.specs.Groups.{is_named}
use Rattle.irl_robots.proofs.GroupsLemmas.{any_agent, any-outline}
use Rattle.irl_robots.proofs.groups.has_group.Goals as goal

pub returns-in-loop-line : goal.returns-in-loop-line
returns-in-loop-line c =
    let passes = is_named c.args.agent.now in
    let rest = map line_of (lines c.next.new.self.0.now) in
    let here : any_agent passes (map line_of (lines c.loop-line.line-iterator.0.now)) ≡ true =
    ap (λ ls. any_agent passes (map line_of ls)) c.in-Some.ensures.steps
    ∙ ap (λ line. any_agent passes (line ∷ rest)) (sym c.in-Agent.ensures)
    ∙ or_left (passes c.in-Agent.value.now) (any_agent passes rest) (sym c.if-is_named.ensures)
    in
    sym (any-outline passes 1 (map line_of (lines c.args.text.now)) ∙ sym c.loop-line.invariant ∙ here)

pub returns : goal.returns
returns c =
    let passes = is_named c.args.agent.now in
    let none : any_agent passes (map line_of (lines c.loop-line.line-iterator.0.now)) ≡ false =
    ap (λ ls. any_agent passes (map line_of ls)) c.in-None.ensures.steps.0
    in
    sym (any-outline passes 1 (map line_of (lines c.args.text.now)) ∙ sym c.loop-line.invariant ∙ none)
