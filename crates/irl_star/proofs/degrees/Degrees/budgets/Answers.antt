use Rattle.std.proofs.Common.{◌∙◌, map, sym, ap}
use Rattle.std.specs.FinMap.{get}
use Rattle.irl_star.specs.Degrees.{DegreeMap, texts_of}
use Rattle.irl_star.specs.Ranks.{domain_of}
use Rattle.irl_star.proofs.TextMaps.{get-texts}
use Rattle.irl_star.proofs.RankLemmas.{at_text, distinct_texts, budget_is}
use Rattle.irl_star.proofs.degrees.Degrees.budgets.Goals as goal

pub returns : goal.returns
returns c = λ adds counts pld.
    let es = c.self.inside.degrees.entries in
    let ranking = c.in_ok-ranked.ensures in
    c.new.ensures pld
    ∙ budget_is (texts_of es) (map domain_of c.in_ok-ranked.ranked.items) adds (distinct_texts es ranking.keys)
    (λ z. sym (at_text es z) ∙ sym (get-texts es z) ∙ ap (λ (m : DegreeMap). get m z) c.self.view_is ∙ counts.each z)
    ranking.same ranking.sorted c.args.settings.now c.in_ok-ranks.ranks (rw c.deref.ensures.value at c.in_ok-ranks.ensures) pld
