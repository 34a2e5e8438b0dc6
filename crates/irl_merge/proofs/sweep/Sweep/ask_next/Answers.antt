use Rattle.std.proofs.Common.{◌≡◌, ◌∙◌, ℕ, ◌++◌, ◌∷◌, [], List, Option, length, get_or, refl, sym, ap, subst, true, false, rules}
use Rattle.std.specs.FinMap.{get, insert}
use Rattle.irl_offer.specs.declared.offer.Rule.{Rule}
use Rattle.irl_offer.specs.declared.offer.Verdict.{Verdict}
use Rattle.irl_offer.specs.declared.receipt.Pair.{Pair}
use Rattle.irl_model.specs.Judging.{KeyMap, after, answer, combined, entered}
use Rattle.irl_merge.specs.declared.query.Query.{Query}
use Rattle.irl_merge.specs.declared.sweep.Sweep.{Sweep}
use Rattle.irl_merge.specs.Queries.{tuple_of}
use Rattle.irl_merge.specs.Pairs.{HasGiven, IsUpTo}
use Rattle.irl_merge.specs.Sweeping.{judged}
use Rattle.irl_merge.proofs.Keys.{none_more}
use Rattle.irl_merge.proofs.Asking.{ask_more, entered_is, next_up, up_same}
use Rattle.irl_merge.proofs.sweep.Sweep.ask_next.Goals as goal

pub returns-in_ok-set_last-clause-asked : goal.returns-in_ok-set_last-clause-asked
returns-in_ok-set_last-clause-asked c = λ rule keys given more e has.
    let old : Sweep = c.args.self.now in
    let q : Query = c.index-query.result.now in
    let seen : KeyMap = after rule keys (judged old) in
    let count : c.len.result ≡ length old.verdicts.items = search rules in
    let is : q ≡ get_or old.queries.items (length old.verdicts.items) q = c.index-query.ensures ∙ ap (λ (n : ℕ). get_or old.queries.items n q) count in
    let up : IsUpTo old.last q.key = next_up rule keys given old q has c.requires is in
    let known : c.last_value-known.result ≡ get seen q.key = c.last_value-known.ensures seen given has.made up in
    let value : c.combined-value.result ≡ combined rule (get seen q.key) q.value =
    c.combined-value.ensures ∙ ap (λ (k : Option ℕ). combined old.rule k q.value) known ∙ ap (λ (r : Rule). combined r (get seen q.key) q.value) has.rule_is in
    let made : HasGiven (insert seen q.key c.combined-value.result) (given ++ more) c.set_last.new.last = c.in_ok-set_last.ensures.given seen given more e has.made up in
    let next : insert seen q.key c.combined-value.result ≡ entered rule seen (tuple_of q) =
    ap (λ (v : ℕ). insert seen q.key v) value ∙ entered_is rule seen q true (sym c.enters.ensures ∙ c.if-enters.true) in
    ask_more rule keys given (given ++ more) old _ q has c.requires is refl refl
    (c.in_ok-push.ensures.items ∙ ap (λ (v : Option Verdict). old.verdicts.items ++ v ∷ []) (c.answer.ensures ∙ ap (answer q.op) known))
    (subst (λ (m : KeyMap). HasGiven m (given ++ more) c.set_last.new.last) next made)
    (up_same c.set_last.new.last _ q.key c.in_ok-set_last.ensures.last refl)

pub returns-else-enters-clause-asked : goal.returns-else-enters-clause-asked
returns-else-enters-clause-asked c = λ rule keys given more e has.
    let old : Sweep = c.args.self.now in
    let q : Query = c.index-query.result.now in
    let seen : KeyMap = after rule keys (judged old) in
    let count : c.len.result ≡ length old.verdicts.items = search rules in
    let is : q ≡ get_or old.queries.items (length old.verdicts.items) q = c.index-query.ensures ∙ ap (λ (n : ℕ). get_or old.queries.items n q) count in
    let up : IsUpTo old.last q.key = next_up rule keys given old q has c.requires is in
    let known : c.last_value-known.result ≡ get seen q.key = c.last_value-known.ensures seen given has.made up in
    let next : seen ≡ entered rule seen (tuple_of q) = entered_is rule seen q false (sym c.enters.ensures ∙ c.if-enters.false) in
    let made : HasGiven seen (given ++ more) old.last = subst (λ (ps : List Pair). HasGiven seen ps old.last) (none_more given c.args.out.now.items more e) has.made in
    ask_more rule keys given (given ++ more) old _ q has c.requires is refl refl
    (c.in_ok-push.ensures.items ∙ ap (λ (v : Option Verdict). old.verdicts.items ++ v ∷ []) (c.answer.ensures ∙ ap (answer q.op) known))
    (subst (λ (m : KeyMap). HasGiven m (given ++ more) old.last) next made)
    up
