use Rattle.std.proofs.Common.{◌≡◌, ◌∙◌, map, ap, subst, rules, List}
use Rattle.std.specs.List.Sorted.{IsPermutation}
use Rattle.std.specs.Map.Iter.{deref_pair}
use Rattle.std.proofs.lemmas.Map.Iter.{iter_end}
use Rattle.std.proofs.lemmas.List.Sorted.{IsPermutation-map}
use Rattle.irl_star.specs.Degrees.{texts_of}
use Rattle.irl_star.specs.Ranks.{Domain, domain_of}
use Rattle.irl_star.proofs.RankLemmas.{sorted-map}
use Rattle.irl_star.proofs.ranking.ranked.Goals as goal

pub returns : goal.returns
returns c =
    let whole : map deref_pair c.loop-pld.yielded ≡ c.args.degrees.now.entries = search (rules, iter_end) in
    let all : map domain_of c.loop-pld.ranked.items ≡ texts_of c.args.degrees.now.entries = c.loop-pld.invariant ∙ ap texts_of whole in
    record {
      keys = c.len.ensures.ordered;
      same = let P : List Domain → Type 0 = λ ds. IsPermutation ds (map domain_of c.sort.new.self.items) in subst P all (IsPermutation-map domain_of _ _ c.sort.ensures.permutation);
      sorted = sorted-map domain_of c.sort.new.self.items c.in_ok-sort.ensures.sorted;
    }
