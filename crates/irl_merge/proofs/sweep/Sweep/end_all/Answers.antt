use Rattle.std.proofs.Common.{◌≡◌, ◌∙◌, ◌++◌, ◌∷◌, [], List, Option, Vec, nat_eq, length, sym, ap, subst}
use Rattle.std.specs.List.{filter}
use Rattle.irl_offer.specs.declared.offer.Verdict.{Verdict}
use Rattle.irl_offer.specs.declared.receipt.Pair.{Pair}
use Rattle.irl_model.specs.Book.{IsPrefixOf}
use Rattle.irl_model.specs.Judging.{after}
use Rattle.irl_merge.specs.declared.query.Query.{Query}
use Rattle.irl_merge.specs.declared.sweep.Sweep.{Sweep}
use Rattle.irl_merge.specs.Queries.{AreTold}
use Rattle.irl_model.specs.Pairs.{ArePairsOf, keys_of}
use Rattle.irl_merge.specs.Pairs.{HasGiven}
use Rattle.irl_merge.proofs.Keys.{joined, same_more}
use Rattle.irl_merge.proofs.Asking.{made_pairs, made_empty}
use Rattle.irl_merge.proofs.Ending.{all_told, all_made, if_both, on_ok}
use Rattle.irl_merge.proofs.sweep.Sweep.end_all.Goals as goal
use Rattle.irl_merge.proofs.sweep.Sweep.end_all.Goals.{in-Some+in_ok-push, in_default}

pub returns-clause-verdicts : goal.returns-clause-verdicts
returns-clause-verdicts c =
    let mid : Sweep = c.ask_rest.new.self in
    let items : mid.queries.items ≡ c.args.self.now.queries.items = ap (λ (v : Vec Query _). v.items) c.ask_rest.ensures.same in
    let queries : c.deref.result.now ≡ mid.queries.items = c.deref.ensures.value in
    let verdicts : c.deref-2.result.now ≡ mid.verdicts.items = c.deref-2.ensures.value in
    let asking = c.ask_rest.ensures.kept in
    if_both c.in_original_order.result _ _ _ c.in_original_order.ensures.len c.in_original_order.ensures.told (λ told len put. λ rule offers fed given keys has are.
    let mine = c.in_ok-ask_rest.ensures.asked rule (keys_of fed) given asking.0 asking.1 has.asked in
    let placed = subst (λ (xs : List Query). (right : List (Option Verdict)) → AreTold xs mid.verdicts.items right → AreTold xs mid.verdicts.items told.items) queries
    (subst (λ (vs : List (Option Verdict)). (right : List (Option Verdict)) → AreTold c.deref.result.now vs right → AreTold c.deref.result.now vs told.items) verdicts put) in
    all_told rule keys offers fed (given ++ asking.0) mid told.items are mine c.in_ok-ask_rest.ensures.count
    (λ key. ap (filter (λ (q : Query). nat_eq key q.key)) items ∙ has.same key) (ap length items ∙ has.count) (len ∙ ap length queries) placed)

pub returns-clause-count : goal.returns-clause-count
returns-clause-count c =
    let items : c.ask_rest.new.self.queries.items ≡ c.args.self.now.queries.items = ap (λ (v : Vec Query _). v.items) c.ask_rest.ensures.same in
    if_both c.in_original_order.result _ _ _ c.in_original_order.ensures.len c.in_original_order.ensures.len (λ told len len2. len ∙ ap length (c.deref.ensures.value ∙ items))

pub returns-clause-pairs : goal.returns-clause-pairs
returns-clause-pairs c =
    let mid : Sweep = c.ask_rest.new.self in
    let first = c.args.out.now.items in
    let out = c.ask_rest.new.out.items in
    let asking = c.ask_rest.ensures.kept in
    let items : mid.queries.items ≡ c.args.self.now.queries.items = ap (λ (v : Vec Query _). v.items) c.ask_rest.ensures.same in
    on_ok c.in_original_order.result _ (λ rule offers fed given more keys e has are.
    let mine = c.in_ok-ask_rest.ensures.asked rule (keys_of fed) given asking.0 asking.1 has.asked in
    let made : HasGiven (after rule keys offers) (given ++ asking.0) mid.last =
    all_made rule keys offers fed (given ++ asking.0) mid are mine c.in_ok-ask_rest.ensures.count (λ key. ap (filter (λ (q : Query). nat_eq key q.key)) items ∙ has.same key) in
    let set = after rule keys offers in
    elim c.match-self.branch [
      | in-Some+in_ok-push w ↦
          let last : Pair = w.in-Some.last in
          let put : IsPrefixOf out c.match-self.out.items = (last ∷ [], ap (λ (v : Vec Pair _). v.items) w.out-is ∙ w.in_ok-push.ensures.items) in
          subst (ArePairsOf set) (joined given first out c.match-self.out.items more asking put e)
          (made_pairs set (given ++ asking.0) last (subst (HasGiven set (given ++ asking.0)) w.in-Some.is made))
      | in_default w ↦
          let same : asking.0 ≡ more = same_more first asking.0 more (sym asking.1 ∙ sym (ap (λ (v : Vec Pair _). v.items) w.out-is) ∙ e) in
          subst (λ (l : List Pair). ArePairsOf set (given ++ l)) same (made_empty set (given ++ asking.0) (subst (HasGiven set (given ++ asking.0)) w.in_default.is made))
    ])
