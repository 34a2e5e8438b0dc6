-- How far a sweep has come after one offer, and after one pair more.
use Rattle.std.proofs.Common.{◌≡◌, ◌∙◌, ℕ, zero, suc, ◌+◌, ◌<◌, ◌≤◌, List, [], ◌∷◌, ◌++◌, map, length, take, take_all, get_or, Some, None, Option, Bool, cond, refl, sym, ap, subst, arith, length-append, append_assoc}
use Rattle.std.specs.Prelude.{Vec, nat_eq, slice_index, filter}
use Rattle.std.specs.List.{AllByRecursion}
use Rattle.std.specs.List.Sorted.{IsNonDecreasingBy}
use Rattle.std.specs.FinMap.{get, insert, entries, empty, len-empty, len-entries}
use Rattle.std.specs.Ordering.{nat_cmp}
use Rattle.std.proofs.lemmas.List.{map-append, take_more}
use Rattle.irl_offer.specs.declared.offer.Rule.{Rule}
use Rattle.irl_offer.specs.declared.offer.Verdict.{Verdict}
use Rattle.irl_offer.specs.declared.receipt.Pair.{Pair}
use Rattle.irl_offer.specs.Tuple.{Tuple}
use Rattle.irl_model.specs.Book.{IsPrefixOf}
use Rattle.irl_model.specs.Judging.{KeyMap, after, answer, combined, entered, enters, judgements}
use Rattle.irl_model.proofs.JudgingLaws.{after-more, judged_on, judged_on-more, judgements-judged_on}
use Rattle.irl_merge.specs.declared.query.Query.{Query}
use Rattle.irl_merge.specs.declared.sweep.Sweep.{Sweep}
use Rattle.irl_merge.specs.Queries.{numbered, tuple_of}
use Rattle.irl_model.specs.Pairs.{ArePairsOf, IsRising, keys_of, pair_of}
use Rattle.irl_merge.specs.Pairs.{HasGiven, IsUpTo}
use Rattle.irl_merge.specs.Sweeping.{HasAsked, HasSwept, IsBehind, judged, next_key}
use Rattle.irl_merge.proofs.Keys.{keys_more}
use Rattle.irl_merge.proofs.Extending.{after_apart, judgements_apart}

pub key_at : (xs : List Query) (i : ℕ) (d : Query) → i < length xs → slice_index (map (λ (a : Query). a.key) xs) i ≡ (get_or xs i d).key
key_at [] i d lt = absurd (omega arith)
key_at (x ∷ xs) zero d lt = refl
key_at (x ∷ xs) (suc i) d lt = key_at xs i d (omega arith)

-- ---- what is held back
pub up_more : (h : Option Pair) (j k : ℕ) → j ≤ k → IsUpTo h j → IsUpTo h k
up_more None j k le up = tt
up_more (Some p) j k le up = omega arith

pub up_behind : (h : Option Pair) (key : ℕ) → ((pair : Pair) → h ≡ Some pair → pair.key < key) → IsUpTo h key
up_behind None key b = tt
up_behind (Some p) key b = omega (arith, b p refl)

no_length : (es : List (ℕ × ℕ)) → length es ≡ 0 → es ≡ []
no_length [] e = refl
no_length (x ∷ es) e = absurd (omega arith)

-- no key, no entry
pub nothing_made : HasGiven (keys_of []) [] None
nothing_made = (refl, no_length (entries (empty {R = nat_cmp})) (sym (len-entries (empty {R = nat_cmp})) ∙ len-empty nat_cmp ℕ))

-- ---- one offer more
done_more : (asked : List Query) (vs news : List (Option Verdict)) (v : Option Verdict) (a : Query) → length vs < length asked → a ≡ get_or asked (length vs) a → news ≡ vs ++ v ∷ []
    → map tuple_of (take (length news) asked) ≡ map tuple_of (take (length vs) asked) ++ tuple_of a ∷ []
done_more asked vs news v a lt is e =
    let n : length news ≡ length vs + 1 = ap length e ∙ length-append vs (v ∷ []) in
    ap (λ (k : ℕ). map tuple_of (take k asked)) n ∙ ap (map tuple_of) (take_more asked (length vs) a lt)
    ∙ map-append tuple_of (take (length vs) asked) (get_or asked (length vs) a ∷ [])
    ∙ ap (λ (x : Query). map tuple_of (take (length vs) asked) ++ tuple_of x ∷ []) (sym is)

judgements_more : (rule : Rule) (keys : KeyMap) (os : List Tuple) (o : Tuple) → map (λ (p : Tuple × Option Verdict). p.1) (judgements rule keys (os ++ o ∷ []))
    ≡ map (λ (p : Tuple × Option Verdict). p.1) (judgements rule keys os) ++ answer o.op (get (after rule keys os) o.key) ∷ []
judgements_more rule keys os o =
    ap (map (λ (p : Tuple × Option Verdict). p.1)) (judgements-judged_on rule keys (os ++ o ∷ []) ∙ judged_on-more rule keys os o)
    ∙ map-append (λ (p : Tuple × Option Verdict). p.1) (judged_on rule keys os) ((o, answer o.op (get (after rule keys os) o.key)) ∷ [])
    ∙ ap (λ (ps : List (Tuple × Option Verdict)). map (λ (p : Tuple × Option Verdict). p.1) ps ++ answer o.op (get (after rule keys os) o.key) ∷ []) (sym (judgements-judged_on rule keys os))

-- the set that is asked next, by whether that enters its key
pub entered_is : (rule : Rule) (seen : KeyMap) (a : Query) (b : Bool) → enters a.op ≡ b → cond b (insert seen a.key (combined rule (get seen a.key) a.value)) seen ≡ entered rule seen (tuple_of a)
entered_is rule seen a b e = ap (λ (t : Bool). cond t (insert seen a.key (combined rule (get seen a.key) a.value)) seen) (sym e)

pub ask_more : (rule : Rule) (keys : KeyMap) (given more : List Pair) (old new : Sweep) (a : Query) → HasAsked rule keys given old
    → length old.verdicts.items < length old.queries.items → a ≡ get_or old.queries.items (length old.verdicts.items) a
    → new.rule ≡ old.rule → new.queries.items ≡ old.queries.items
    → new.verdicts.items ≡ old.verdicts.items ++ answer a.op (get (after rule keys (judged old)) a.key) ∷ []
    → HasGiven (entered rule (after rule keys (judged old)) (tuple_of a)) more new.last → IsUpTo new.last a.key → HasAsked rule keys more new
ask_more rule keys given more old new a has lt is rule_same same verdicts made up =
    let n = length old.verdicts.items in
    let asked = old.queries.items in
    let v = answer a.op (get (after rule keys (judged old)) a.key) in
    let all : judged new ≡ judged old ++ tuple_of a ∷ [] =
    ap (λ (xs : List Query). map tuple_of (take (length new.verdicts.items) xs)) same ∙ done_more asked old.verdicts.items new.verdicts.items v a lt is verdicts in
    let count : length new.verdicts.items ≡ n + 1 = ap length verdicts ∙ length-append old.verdicts.items (v ∷ []) in
    record {
      rule_is = rule_same ∙ has.rule_is;
      told = verdicts ∙ ap (λ (vs : List (Option Verdict)). vs ++ v ∷ []) has.told
          ∙ sym (ap (λ (os : List Tuple). map (λ (p : Tuple × Option Verdict). p.1) (judgements rule keys os)) all ∙ judgements_more rule keys (judged old) (tuple_of a));
      made = subst (λ (m : KeyMap). HasGiven m more new.last) (sym (ap (after rule keys) all ∙ after-more rule keys (judged old) (tuple_of a))) made;
      order = subst (λ (xs : List Query). (i j : ℕ) (d : Query) → i ≤ j → j < length xs → (get_or xs i d).key ≤ (get_or xs j d).key) (sym same) has.order;
      ahead = λ l.
          let later : n + 1 < length asked = omega (arith, l, count, ap length same) in
          let next : next_key new ≡ (get_or asked (n + 1) a).key =
          ap (λ (xs : List Query). slice_index (map (λ (x : Query). x.key) xs) (length new.verdicts.items)) same ∙ ap (slice_index (map (λ (x : Query). x.key) asked)) count
          ∙ key_at asked (n + 1) a later in
          let here : a.key ≡ (get_or asked n a).key = ap (λ (x : Query). x.key) is in
          up_more new.last a.key (next_key new) (omega (arith, next, here, has.order n (n + 1) a (omega arith) later)) up;
    }

-- ---- one pair more
done_same : (old new : Sweep) → new.queries.items ≡ old.queries.items → new.verdicts.items ≡ old.verdicts.items → judged new ≡ judged old
done_same old new same verdicts =
    ap (λ (xs : List Query). map tuple_of (take (length new.verdicts.items) xs)) same ∙ ap (λ (vs : List (Option Verdict)). map tuple_of (take (length vs) old.queries.items)) verdicts

pub fed_more : (rule : Rule) (fed given more : List Pair) (mid new : Sweep) (p : Pair) → IsRising (fed ++ p ∷ []) → HasAsked rule (keys_of fed) given mid → IsBehind p.key mid
    → (length mid.verdicts.items < length mid.queries.items → p.key ≤ next_key mid)
    → new.rule ≡ mid.rule → new.queries.items ≡ mid.queries.items → new.verdicts.items ≡ mid.verdicts.items → new.last ≡ Some p
    → HasGiven (insert (after rule (keys_of fed) (judged mid)) p.key p.value) more new.last → HasAsked rule (keys_of (fed ++ p ∷ [])) more new
fed_more rule fed given more mid new p rising has behind ahead rule_same same verdicts held made =
    let all = done_same mid new same verdicts in
    let keys = keys_more fed p rising in
    record {
      rule_is = rule_same ∙ has.rule_is;
      told = verdicts ∙ has.told ∙ sym (
          ap (λ (os : List Tuple). map (λ (q : Tuple × Option Verdict). q.1) (judgements rule (keys_of (fed ++ p ∷ [])) os)) all
          ∙ ap (λ (m : KeyMap). map (λ (q : Tuple × Option Verdict). q.1) (judgements rule m (judged mid))) keys
          ∙ ap (map (λ (q : Tuple × Option Verdict). q.1)) (judgements_apart rule (keys_of fed) p.key p.value (judged mid) behind.judged_are));
      made = subst (λ (m : KeyMap). HasGiven m more new.last) (sym (ap (after rule (keys_of (fed ++ p ∷ []))) all ∙ ap (λ (m : KeyMap). after rule m (judged mid)) keys
          ∙ after_apart rule (keys_of fed) p.key p.value (judged mid) behind.judged_are)) made;
      order = subst (λ (xs : List Query). (i j : ℕ) (d : Query) → i ≤ j → j < length xs → (get_or xs i d).key ≤ (get_or xs j d).key) (sym same) has.order;
      ahead = λ l.
          let next : next_key new ≡ next_key mid =
          ap (λ (xs : List Query). slice_index (map (λ (x : Query). x.key) xs) (length new.verdicts.items)) same
          ∙ ap (λ (vs : List (Option Verdict)). slice_index (map (λ (x : Query). x.key) mid.queries.items) (length vs)) verdicts in
          subst (λ (h : Option Pair). IsUpTo h (next_key new)) (sym held) (omega (arith, next, ahead (omega (arith, l, ap length same, ap length verdicts))));
    }

last_below : (key : ℕ) (fed : List Pair) (p : Pair) → AllByRecursion (λ (q : Pair). q.key < key) (fed ++ p ∷ []) → p.key < key
last_below key [] p h = h.0
last_below key (q ∷ fed) p h = last_below key fed p h.1

lower : (j k : ℕ) (os : List Tuple) → j < k → AllByRecursion (λ (o : Tuple). o.key < j) os → AllByRecursion (λ (o : Tuple). o.key < k) os
lower j k [] lt h = tt
lower j k (o ∷ os) lt h = (omega (arith, h.0), lower j k os lt h.1)

same_some : (p q : Pair) → Some p ≡ Some q → p ≡ q
same_some p q e = cc

pub behind_more : (key : ℕ) (fed : List Pair) (mid new : Sweep) (p : Pair) → IsBehind p.key mid → new.queries.items ≡ mid.queries.items → new.verdicts.items ≡ mid.verdicts.items → new.last ≡ Some p
    → AllByRecursion (λ (q : Pair). q.key < key) (fed ++ p ∷ []) → IsBehind key new
behind_more key fed mid new p behind same verdicts held below =
    let lt = last_below key fed p below in
    record {
      judged_are = subst (AllByRecursion (λ (o : Tuple). o.key < key)) (sym (done_same mid new same verdicts)) (lower p.key key (judged mid) lt behind.judged_are);
      held = λ pair e. subst (λ (x : Pair). x.key < key) (same_some p pair (sym held ∙ e)) lt;
    }

-- ---- what is held back isn't above what is asked next
pub next_up : (rule : Rule) (keys : KeyMap) (given : List Pair) (sweep : Sweep) (a : Query) → HasAsked rule keys given sweep → length sweep.verdicts.items < length sweep.queries.items
    → a ≡ get_or sweep.queries.items (length sweep.verdicts.items) a → IsUpTo sweep.last a.key
next_up rule keys given sweep a has lt is =
    let same : next_key sweep ≡ a.key = key_at sweep.queries.items (length sweep.verdicts.items) a lt ∙ sym (ap (λ (x : Query). x.key) is) in
    subst (IsUpTo sweep.last) same (has.ahead lt)

pub up_same : (h : Option Pair) (p : Pair) (key : ℕ) → h ≡ Some p → p.key ≡ key → IsUpTo h key
up_same h p key is same = subst (λ (x : Option Pair). IsUpTo x key) (sym is) (omega (arith, same))

abbrev pub prefix_both : (xs ys zs : List Pair) → IsPrefixOf xs ys → IsPrefixOf ys zs → IsPrefixOf xs zs
prefix_both xs ys zs h k = (h.0 ++ k.0, k.1 ∙ ap (λ (l : List Pair). l ++ k.0) h.1 ∙ append_assoc xs h.0 k.0)

-- the key of what is asked next, at its place
pub next_at : (sweep : Sweep) (i : ℕ) (a : Query) → i ≡ length sweep.verdicts.items → i < length sweep.queries.items → a ≡ get_or sweep.queries.items i a → next_key sweep ≡ a.key
next_at sweep i a at lt is =
    sym (ap (slice_index (map (λ (x : Query). x.key) sweep.queries.items)) at) ∙ key_at sweep.queries.items i a lt ∙ sym (ap (λ (x : Query). x.key) is)

pub swept_more : (rule : Rule) (offers : List Tuple) (fed all given more next : List Pair) (old mid new : Sweep) (p : Pair) → all ≡ fed ++ p ∷ [] → IsRising (fed ++ p ∷ [])
    → HasSwept rule offers fed given old → HasAsked rule (keys_of fed) more mid → IsBehind p.key mid → (length mid.verdicts.items < length mid.queries.items → p.key ≤ next_key mid)
    → mid.queries ≡ old.queries → new.rule ≡ mid.rule → new.queries.items ≡ mid.queries.items → new.verdicts.items ≡ mid.verdicts.items → new.last ≡ Some p
    → HasGiven (insert (after rule (keys_of fed) (judged mid)) p.key p.value) next new.last → HasSwept rule offers all next new
swept_more rule offers fed all given more next old mid new p is rising swept asked behind ahead kept rule_same same verdicts held made =
    let items : new.queries.items ≡ old.queries.items = same ∙ ap (λ (v : Vec Query _). v.items) kept in
    let one : HasAsked rule (keys_of (fed ++ p ∷ [])) next new = fed_more rule fed more next mid new p rising asked behind ahead rule_same same verdicts held made in
    record {
      same = λ key. ap (filter (λ (a : Query). nat_eq key a.key)) items ∙ swept.same key;
      count = ap length items ∙ swept.count;
      rising = subst IsRising (sym is) rising;
      asked = subst (λ (l : List Pair). HasAsked rule (keys_of l) next new) (sym is) one;
      behind = λ key below. behind_more key fed mid new p behind same verdicts held (subst (AllByRecursion (λ (q : Pair). q.key < key)) is below);
    }

-- ---- before the first pair
no_pair : (p : Pair) → None ≡ Some p → ⊥
no_pair p e = cc

pub swept_first : (rule : Rule) (offers : List Tuple) (sweep : Sweep) → ((key : ℕ)
    → filter (λ (a : Query). nat_eq key a.key) sweep.queries.items ≡ filter (λ (a : Query). nat_eq key a.key) (numbered 0 offers))
    → length sweep.queries.items ≡ length offers → IsNonDecreasingBy (λ (a : Query). a.key) sweep.queries.items → sweep.rule ≡ rule → sweep.verdicts.items ≡ [] → sweep.last ≡ None
    → HasSwept rule offers [] [] sweep
swept_first rule offers sweep same count order rule_is none held =
    let so_far : List (Option Verdict) → List Tuple = λ vs. map tuple_of (take (length vs) sweep.queries.items) in
    record {
      same = same;
      count = count;
      rising = refl;
      asked = record {
        rule_is = rule_is;
        told = none ∙ sym (ap (λ (vs : List (Option Verdict)). map (λ (p : Tuple × Option Verdict). p.1) (judgements rule (keys_of []) (so_far vs))) none);
        made = subst (HasGiven (after rule (keys_of []) (judged sweep)) []) (sym held)
            (subst (λ (vs : List (Option Verdict)). HasGiven (after rule (keys_of []) (so_far vs)) [] None) (sym none) nothing_made);
        order = order;
        ahead = λ l. subst (λ (h : Option Pair). IsUpTo h (next_key sweep)) (sym held) tt;
      };
      behind = λ key below. record {
        judged_are = subst (λ (vs : List (Option Verdict)). AllByRecursion (λ (o : Tuple). o.key < key) (so_far vs)) (sym none) tt;
        held = λ pair e. absurd (no_pair pair (sym held ∙ e));
      };
    }

-- ---- behind the last pair
-- all was asked, and what was given is made of it
pub all_done : (sweep : Sweep) → length sweep.verdicts.items ≡ length sweep.queries.items → judged sweep ≡ map tuple_of sweep.queries.items
all_done sweep count = ap (map tuple_of) (take_all (length sweep.verdicts.items) sweep.queries.items (omega (arith, count)))

pub made_pairs : (keys : KeyMap) (given : List Pair) (h : Pair) → HasGiven keys given (Some h) → ArePairsOf keys (given ++ h ∷ [])
made_pairs keys given h made = map-append pair_of given (h ∷ []) ∙ sym made

pub made_empty : (keys : KeyMap) (given : List Pair) → HasGiven keys given None → ArePairsOf keys given
made_empty keys given made = ap (map pair_of) made.0 ∙ sym made.1
