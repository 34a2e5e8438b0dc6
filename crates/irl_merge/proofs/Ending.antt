-- What a sweep gives at its end.
use Rattle.std.proofs.Common.{◌≡◌, ◌∙◌, List, map, length, Option, sym, ap, subst}
use Rattle.std.specs.Prelude.{Result, Ok, Err, IfOk, OnOk}
use Rattle.irl_offer.specs.declared.offer.Rule.{Rule}
use Rattle.irl_offer.specs.declared.offer.Verdict.{Verdict}
use Rattle.irl_offer.specs.declared.receipt.Pair.{Pair}
use Rattle.irl_offer.specs.Tuple.{Tuple}
use Rattle.irl_model.specs.Judging.{KeyMap, after, judgements}
use Rattle.irl_model.proofs.JudgingLaws.{judgements-judged_on}
use Rattle.irl_merge.specs.declared.sweep.Sweep.{Sweep}
use Rattle.irl_merge.specs.Queries.{AreTold, numbered, tuple_of}
use Rattle.irl_model.specs.Pairs.{ArePairsOf, keys_of}
use Rattle.irl_merge.specs.Pairs.{HasGiven}
use Rattle.irl_merge.specs.Sweeping.{HasAsked, judged}
use Rattle.irl_model.proofs.RisingKeys.{keys_are}
use Rattle.irl_merge.proofs.OneKey.{Told, told_on, told-judged, numbered-after}
use Rattle.irl_merge.proofs.Unsorting.{SameByKey, after_same, right, right_is_told, told_is_right}
use Rattle.irl_merge.proofs.Asking.{all_done}

-- the verdicts in the order of the keys
in_key_order : (rule : Rule) (keys : KeyMap) (fed given : List Pair) (sweep : Sweep) → ArePairsOf keys fed → HasAsked rule (keys_of fed) given sweep
    → length sweep.verdicts.items ≡ length sweep.queries.items
    → sweep.verdicts.items ≡ map (λ (p : Told). p.1) (told_on rule keys sweep.queries.items)
in_key_order rule keys fed given sweep are has count =
    has.told ∙ ap (λ (os : List Tuple). map (λ (p : Tuple × Option Verdict). p.1) (judgements rule (keys_of fed) os)) (all_done sweep count)
    ∙ ap (λ (m : KeyMap). map (λ (p : Tuple × Option Verdict). p.1) (judgements rule m (map tuple_of sweep.queries.items))) (keys_are keys fed are)
    ∙ ap (map (λ (p : Tuple × Option Verdict). p.1)) (judgements-judged_on rule keys (map tuple_of sweep.queries.items))
    ∙ told-judged rule keys sweep.queries.items

-- and in the order of the places
pub all_told : (rule : Rule) (keys : KeyMap) (offers : List Tuple) (fed given : List Pair) (sweep : Sweep) (told : List (Option Verdict)) → ArePairsOf keys fed
    → HasAsked rule (keys_of fed) given sweep
    → length sweep.verdicts.items ≡ length sweep.queries.items → SameByKey sweep.queries.items (numbered 0 offers) → length sweep.queries.items ≡ length offers
    → length told ≡ length sweep.queries.items
    → ((right : List (Option Verdict)) → AreTold sweep.queries.items sweep.verdicts.items right → AreTold sweep.queries.items sweep.verdicts.items told) → told ≡ right rule keys offers
all_told rule keys offers fed given sweep told are has count same long size put =
    let ordered = in_key_order rule keys fed given sweep are has count in
    let is = right_is_told rule keys offers sweep.queries.items sweep.verdicts.items same ordered in
    told_is_right rule keys offers sweep.queries.items sweep.verdicts.items told same ordered (size ∙ long) (put (right rule keys offers) is)

-- the set that is made
pub all_made : (rule : Rule) (keys : KeyMap) (offers : List Tuple) (fed given : List Pair) (sweep : Sweep) → ArePairsOf keys fed → HasAsked rule (keys_of fed) given sweep
    → length sweep.verdicts.items ≡ length sweep.queries.items → SameByKey sweep.queries.items (numbered 0 offers) → HasGiven (after rule keys offers) given sweep.last
all_made rule keys offers fed given sweep are has count same =
    let set : after rule (keys_of fed) (judged sweep) ≡ after rule keys offers =
    ap (after rule (keys_of fed)) (all_done sweep count) ∙ ap (λ (m : KeyMap). after rule m (map tuple_of sweep.queries.items)) (keys_are keys fed are)
    ∙ after_same rule keys sweep.queries.items (numbered 0 offers) same ∙ sym (numbered-after rule keys 0 offers) in
    subst (λ (m : KeyMap). HasGiven m given sweep.last) set has.made

-- what both clauses of an answer say together
pub if_both : {X E : Type 0} (r : Result X E) (P Q R : X → Type 0) → IfOk r P → IfOk r Q → ((x : X) → P x → Q x → R x) → IfOk r R
if_both (Ok x) P Q R p q f = f x p q
if_both (Err e) P Q R p q f = tt

pub on_ok : {X E : Type 0} (r : Result X E) (P : Type 0) → P → OnOk r P
on_ok (Ok x) P p = p
on_ok (Err e) P p = tt
