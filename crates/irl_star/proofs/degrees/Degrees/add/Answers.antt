use Rattle.std.proofs.Common.{◌≡◌, ◌∙◌, ◌+◌, ◌∷◌, [], ◌++◌, Some, cond, sym, ap, subst, rules}
use Rattle.std.specs.Prelude.{bytes_eq}
use Rattle.std.specs.FinMap.{insert}
use Rattle.irl_star.specs.Degrees.{DegreeMap, Counts, degree_in}
use Rattle.irl_base.proofs.TextMaps.{value_at, value_at-insert}
use Rattle.irl_star.proofs.TextMaps.{one_set}
use Rattle.irl_star.proofs.Counting.{counts_more}
use Rattle.irl_star.proofs.degrees.Degrees.add.Goals as goal

pub returns-clause-ok : goal.returns-clause-ok
returns-clause-ok c =
    let more : c.in_ok-more.more ≡ degree_in c.args.self.now c.args.pld.now + 1 = search rules in
    let text : c.in_ok-text.text.items ≡ c.args.pld.now = search rules in
    let old = c.self.inside.degrees.entries in
    let new = c.insert.new.self.entries in
    one_set old new c.args.pld.now c.in_ok-more.more
    (λ q. value_at-insert q c.in_ok-text.text c.in_ok-more.more old new c.in_ok-insert.ensures.entries
    ∙ ap (λ t. cond (bytes_eq q t) (Some c.in_ok-more.more) (value_at old q)) text)
    ∙ ap (λ (m : DegreeMap). insert m c.args.pld.now c.in_ok-more.more) c.self.view_is
    ∙ ap (λ n. insert c.args.self.now c.args.pld.now n) more

pub returns-clause-counts : goal.returns-clause-counts
returns-clause-counts c = λ adds counts.
    let P : DegreeMap → Type 0 = λ m. Counts m (adds ++ c.args.pld.now ∷ []) in
    subst P (sym (returns-clause-ok c)) (counts_more c.args.self.now adds c.args.pld.now counts)
