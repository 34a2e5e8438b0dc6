use Rattle.std.proofs.Common.{◌≡◌, ◌∙◌, ◌+◌, ◌++◌, ◌∷◌, [], ℕ, List, length, map, ap, arith, rules}
use Rattle.std.specs.Prelude.{Vec, vec_len, replicate}
use Rattle.std.proofs.lemmas.List.{length-map, map-append}
use Rattle.irl_base.specs.Lists.{items_of}
use Rattle.irl_core.specs.Kept.{shown}
use Rattle.irl_core.specs.Steps.{CoreState, course, judged_in}
use Rattle.irl_core.proofs.Effects.{keeps_cut, shows_cut, judged_more, fates_more, last_is}
use Rattle.irl_core.proofs.pure.Core.add_cut.Goals as goal

pub invariant_of-self-2 : goal.invariant_of-self-2
invariant_of-self-2 c =
    let a = c.self.inside in
    let cut : c.in_ok-cut.cut.items ≡ map length (items_of a.lists.items) = c.in_ok-cut.ensures ∙ ap (λ (ls : List _). map length (items_of ls)) c.deref.ensures.value in
    let raw : items_of c.push.new.self.items ≡ items_of a.cuts.items ++ c.in_ok-cut.cut.items ∷ [] = ap items_of c.in_ok-push.ensures.items
    ∙ map-append (λ (v : Vec ℕ _). v.items) a.cuts.items (c.in_ok-cut.cut ∷ []) in
    let cuts : items_of c.push.new.self.items ≡ items_of a.cuts.items ++ map length (items_of a.lists.items) ∷ [] = raw ∙ ap (λ (k : List ℕ). items_of a.cuts.items ++ k ∷ []) cut in
    let last : c.in_ok-last.last.items ≡ c.in_ok-cut.cut.items = c.in_ok-last.ensures.items ∙ c.deref-2.ensures.value in
    record {
      core = keeps_cut a c.args.self.now (items_of c.push.new.self.items) c.self.invariant c.self.view_is c.requires cuts;
      fates = fates_more a.fates (course (shown a)) (judged_in (shown a)) _ (judged_more a (items_of c.push.new.self.items) c.self.invariant cuts) c.self.invariant.fates;
      read = c.self.invariant.read;
      short = c.self.invariant.short;
      cut = last ∙ last_is (replicate a.settings.buckets 0) c.in_ok-cut.cut.items (items_of a.cuts.items) (items_of c.push.new.self.items) raw;
    }

pub returns-clause-ok : goal.returns-clause-ok
returns-clause-ok c =
    let a = c.self.inside in
    let cut : c.in_ok-cut.cut.items ≡ map length (items_of a.lists.items) = c.in_ok-cut.ensures ∙ ap (λ (ls : List _). map length (items_of ls)) c.deref.ensures.value in
    let raw : items_of c.push.new.self.items ≡ items_of a.cuts.items ++ c.in_ok-cut.cut.items ∷ [] = ap items_of c.in_ok-push.ensures.items
    ∙ map-append (λ (v : Vec ℕ _). v.items) a.cuts.items (c.in_ok-cut.cut ∷ []) in
    shows_cut a c.args.self.now (items_of c.push.new.self.items) c.self.invariant c.self.view_is (raw ∙ ap (λ (k : List ℕ). items_of a.cuts.items ++ k ∷ []) cut)

pub returns-clause-value : goal.returns-clause-value
returns-clause-value c =
    let a = c.self.inside in
    let long : c.len.result ≡ vec_len a.cuts + 1 = c.len.ensures ∙ c.in_ok-push.ensures.len in
    let same : vec_len a.cuts ≡ length a.cuts.items = search rules in
    let all : length (items_of a.cuts.items) ≡ length a.cuts.items = length-map a.cuts.items (λ v. v.items) in
    let here : c.len.result ≡ 0 + length (items_of a.cuts.items) + 1 = omega arith in
    here ∙ ap (λ (x : CoreState). x.urls.dropped + length x.urls.cuts + 1) c.self.view_is
