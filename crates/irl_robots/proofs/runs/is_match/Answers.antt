use Rattle.std.proofs.Common.{sym, ◌∙◌}
use Rattle.irl_robots.proofs.RunsLemmas.{first-star, first-end, first-met, first-unmet, first-past, first-none}
use Rattle.irl_robots.proofs.runs.is_match.Goals as goal

pub returns-then-first-eq42 : goal.returns-then-first-eq42
returns-then-first-eq42 c =
    c.is_within.ensures
    ∙ sym (first-star c.loop-first.rest.now c.in-Some.others.now c.loop-first.left.now c.in-Some.first.now c.in-Some.ensures.cases.0 c.if-first-eq42.true)
    ∙ c.loop-first.invariant

pub returns-then-is_end_mark : goal.returns-then-is_end_mark
returns-then-is_end_mark c =
    c.is_empty.ensures
    ∙ sym (first-end c.loop-first.rest.now c.in-Some.others.now c.loop-first.left.now c.in-Some.first.now c.in-Some.ensures.cases.0 c.if-first-eq42.false (sym c.is_end_mark.ensures
    ∙ c.if-is_end_mark.true))
    ∙ c.loop-first.invariant

pub returns-in_default-split_first : goal.returns-in_default-split_first
returns-in_default-split_first c =
    sym (first-past c.loop-first.rest.now c.in-Some.others.now c.loop-first.left.now c.in-Some.first.now c.in-Some.ensures.cases.0 c.if-first-eq42.false (sym c.is_end_mark.ensures
    ∙ c.if-is_end_mark.false) c.in_default-split_first.ensures.cases)
    ∙ c.loop-first.invariant

pub returns-then-octet-first : goal.returns-then-octet-first
returns-then-octet-first c =
    sym (first-unmet c.loop-first.rest.now c.in-Some.others.now c.loop-first.left.now c.in-Some-split_first.behind.now c.in-Some.first.now c.in-Some-split_first.octet.now c.in-Some.ensures.cases.0
    c.if-first-eq42.false (sym c.is_end_mark.ensures ∙ c.if-is_end_mark.false) c.in-Some-split_first.ensures.cases.0 c.if-octet-first.true)
    ∙ c.loop-first.invariant

pub loop-first-preserved : goal.loop-first-preserved
loop-first-preserved c =
    sym (first-met c.loop-first.rest.now c.in-Some.others.now c.loop-first.left.now c.in-Some-split_first.behind.now c.in-Some.first.now c.in-Some-split_first.octet.now c.in-Some.ensures.cases.0
    c.if-first-eq42.false (sym c.is_end_mark.ensures ∙ c.if-is_end_mark.false) c.in-Some-split_first.ensures.cases.0 c.if-octet-first.false)
    ∙ c.loop-first.invariant

pub returns : goal.returns
returns c = sym (first-none c.loop-first.rest.now c.loop-first.left.now c.in_default.ensures.cases) ∙ c.loop-first.invariant
