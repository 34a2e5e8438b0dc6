use Rattle.std.proofs.Common.{◌≡◌, ◌∙◌, List, Option, Some, None, IfNone, is_some, subst}
use Rattle.std.proofs.lemmas.Bool.{false≢true}
use Rattle.irl_robots.specs.declared.rule.PathRule.{PathRule}
use Rattle.irl_robots.specs.Normal.{normal}
use Rattle.irl_robots.specs.Rule.{NoneMatches}
use Rattle.irl_robots.proofs.robots.Robots.by.Goals as goal

-- a mapped option is empty with the one that it was made from
if_none-mapped : {A B : Type 0} (P Q : Type 0) (found : Option A) (mapped : Option B) → is_some mapped ≡ is_some found → IfNone found P → IfNone mapped (Q → P)
if_none-mapped P Q None None same h = λ _. h
if_none-mapped P Q None (Some y) same h = tt
if_none-mapped P Q (Some x) None same h = absurd (false≢true same)
if_none-mapped P Q (Some x) (Some y) same h = tt

pub returns-clause-none : goal.returns-clause-none
returns-clause-none c =
    let path = normal c.args.target.now in
    if_none-mapped _ _ c.best.result c.map.result c.map.ensures.variant
    (subst (λ (rules : List PathRule). IfNone c.best.result (NoneMatches rules path)) (c.deref.ensures.value ∙ c.self.view_is) c.best.ensures.none)
