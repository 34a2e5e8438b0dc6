-- What one step leaves of what was there, and where an offer stands that got a receipt.
use Rattle.std.proofs.Common.{◌≡◌, ◌≢◌, ◌∙◌, ℕ, zero, suc, ◌+◌, ◌<◌, ◌≤◌, List, [], ◌∷◌, ◌++◌, length, get_or, set, sym, ap, subst, arith, refl, Bool, true, false, cond, inl, inr, Some, length-append, append_assoc, append-nil}
use Rattle.std.specs.Prelude.{◌⊎◌, ◌&&◌, nat_lt, nat_le, slice_get}
use Rattle.std.proofs.lemmas.Bool.{cases_eq, cases_lt, and_parts, ltb-true}
use Rattle.std.proofs.lemmas.List.{get_or-set_same, get_or-set_other, set_past}
use Rattle.irl_offer.specs.Tuple.{Tuple}
use Rattle.irl_offer.specs.declared.outcome.Outcome.{Outcome}
use Rattle.irl_offer.specs.declared.receipt.Receipt.{Receipt}
use Rattle.irl_offer.specs.declared.settings.Settings.{Settings}
use Rattle.irl_model.specs.Book.{IsBelow, IsFront, IsPrefixOf, ArePrefixes, list_lengths, lengths_of, flushed_lists}
use Rattle.irl_model.proofs.FrontLaws.{prefix_same, prefix_both, front_same, front_both, flushed_front, merged_front}
use Rattle.irl_model.proofs.Flushes.{flushed_lists-set, length-lengths_of}
use Rattle.irl_model.proofs.Stretches.{below_at, below_same, below_both, below_long}
use Rattle.irl_core.specs.declared.step.Step.{Step}
use Rattle.irl_core.specs.declared.step.Step.TheVariants.{Offer, Flush, Merge, Stop, FlushStop, MergeStop, Pass, Settle, SettleStop}
use Rattle.irl_core.specs.declared.step.Reply.{Reply}
use Rattle.irl_core.specs.declared.step.Reply.TheVariants.{Receipt as ReceiptReply, Taken, Stopped, Refused}
use Rattle.irl_core.specs.Steps.{CoreState, array_of, list_of, durable_in, pending_in, pass_event, settle_event, may_offer, may_flush, may_merge, may_pass, may_settle}
use Rattle.irl_core.specs.Steps.{with_offer, with_list, with_word, with_cut, with_event, emptied, stopped, taken_if, step, after_steps}
use Rattle.irl_core.specs.Laws.{IsCore, StandsAt, GivenAt, NoneStopped, given, is_stop, takes_effect}
use Rattle.irl_core.proofs.Keeping.{emptied_at, below_raised, list_kept, step_kept, steps_kept, taken_state, stopped_state}

-- ---- refusals
taken_refused : (b : Bool) (old new : CoreState) (reply : Reply) → (reply ≡ Refused → ⊥) → (taken_if b old new reply).1 ≡ Refused → (taken_if b old new reply).0 ≡ old
taken_refused true old new reply other h = absurd (other h)
taken_refused false old new reply other h = refl

pub refused_same : (x : CoreState) (s : Step) → (step x s).1 ≡ Refused → (step x s).0 ≡ x
refused_same x (Offer b offer) h = taken_refused (may_offer x b offer) x _ _ (λ e. cc) h
refused_same x (Flush b) h = taken_refused (may_flush x b) x _ _ (λ e. cc) h
refused_same x Merge h = taken_refused (may_merge x) x _ _ (λ e. cc) h
refused_same x Stop h = absurd (cc)
refused_same x (FlushStop b took) h = taken_refused (may_flush x b) x _ _ (λ e. cc) h
refused_same x (MergeStop took) h = taken_refused (may_merge x) x _ _ (λ e. cc) h
refused_same x (Pass places) h = taken_refused (may_pass x places) x _ _ (λ e. cc) h
refused_same x (Settle outcomes) h = taken_refused (may_settle x outcomes) x _ _ (λ e. cc) h
refused_same x (SettleStop outcomes took) h = taken_refused (may_settle x outcomes) x _ _ (λ e. cc) h

-- ---- what was there stays
abbrev HasFront : CoreState → CoreState → Type 0
HasFront x y = IsFront x.urls y.urls

pub step_front : (x : CoreState) (s : Step) → IsFront x.urls (step x s).0.urls
step_front x (Offer b offer) = taken_state (HasFront x) (may_offer x b offer) x _ _ (front_same x.urls) (λ may. front_same x.urls)
step_front x (Flush b) = taken_state (HasFront x) (may_flush x b) x _ _ (front_same x.urls) (λ may. flushed_front b (array_of x b) x.urls)
step_front x Merge = taken_state (HasFront x) (may_merge x) x _ _ (front_same x.urls) (λ may. merged_front x.urls)
step_front x Stop = front_same x.urls
step_front x (FlushStop b took) =
    taken_state (HasFront x) (may_flush x b) x _ _ (front_same x.urls)
    (λ may. stopped_state (HasFront x) took (with_list b) x (λ y h. h) (front_same x.urls) (flushed_front b (array_of x b) x.urls))
step_front x (MergeStop took) =
    taken_state (HasFront x) (may_merge x) x _ _ (front_same x.urls)
    (λ may. stopped_state (HasFront x) took with_cut x (λ y h. h) (front_same x.urls) (merged_front x.urls))
step_front x (Pass places) = taken_state (HasFront x) (may_pass x places) x _ _ (front_same x.urls) (λ may. front_same x.urls)
step_front x (Settle outcomes) = taken_state (HasFront x) (may_settle x outcomes) x _ _ (front_same x.urls) (λ may. front_same x.urls)
step_front x (SettleStop outcomes took) =
    taken_state (HasFront x) (may_settle x outcomes) x _ _ (front_same x.urls)
    (λ may. stopped_state (HasFront x) took (with_event (settle_event x outcomes) []) x (λ y h. h) (front_same x.urls) (front_same x.urls))

abbrev HasEvents : CoreState → CoreState → Type 0
HasEvents x y = IsPrefixOf x.events y.events

pub step_events : (x : CoreState) (s : Step) → IsPrefixOf x.events (step x s).0.events
step_events x (Offer b offer) = taken_state (HasEvents x) (may_offer x b offer) x _ _ (prefix_same x.events) (λ may. prefix_same x.events)
step_events x (Flush b) = taken_state (HasEvents x) (may_flush x b) x _ _ (prefix_same x.events) (λ may. prefix_same x.events)
step_events x Merge = taken_state (HasEvents x) (may_merge x) x _ _ (prefix_same x.events) (λ may. prefix_same x.events)
step_events x Stop = prefix_same x.events
step_events x (FlushStop b took) =
    taken_state (HasEvents x) (may_flush x b) x _ _ (prefix_same x.events)
    (λ may. stopped_state (HasEvents x) took (with_list b) x (λ y h. h) (prefix_same x.events) (prefix_same x.events))
step_events x (MergeStop took) =
    taken_state (HasEvents x) (may_merge x) x _ _ (prefix_same x.events)
    (λ may. stopped_state (HasEvents x) took with_cut x (λ y h. h) (prefix_same x.events) (prefix_same x.events))
step_events x (Pass places) =
    taken_state (HasEvents x) (may_pass x places) x _ _ (prefix_same x.events) (λ may. ((pass_event x, places) ∷ [], refl))
step_events x (Settle outcomes) =
    taken_state (HasEvents x) (may_settle x outcomes) x _ _ (prefix_same x.events) (λ may. ((settle_event x outcomes, []) ∷ [], refl))
step_events x (SettleStop outcomes took) =
    taken_state (HasEvents x) (may_settle x outcomes) x _ _ (prefix_same x.events)
    (λ may. stopped_state (HasEvents x) took (with_event (settle_event x outcomes) []) x (λ y h. h) (prefix_same x.events) ((settle_event x outcomes, []) ∷ [], refl))

abbrev HasSettings : CoreState → CoreState → Type 0
HasSettings x y = y.settings ≡ x.settings

pub step_settings : (x : CoreState) (s : Step) → (step x s).0.settings ≡ x.settings
step_settings x (Offer b offer) = taken_state (HasSettings x) (may_offer x b offer) x _ _ refl (λ may. refl)
step_settings x (Flush b) = taken_state (HasSettings x) (may_flush x b) x _ _ refl (λ may. refl)
step_settings x Merge = taken_state (HasSettings x) (may_merge x) x _ _ refl (λ may. refl)
step_settings x Stop = refl
step_settings x (FlushStop b took) = taken_state (HasSettings x) (may_flush x b) x _ _ refl (λ may. stopped_state (HasSettings x) took (with_list b) x (λ y h. h) refl refl)
step_settings x (MergeStop took) = taken_state (HasSettings x) (may_merge x) x _ _ refl (λ may. stopped_state (HasSettings x) took with_cut x (λ y h. h) refl refl)
step_settings x (Pass places) = taken_state (HasSettings x) (may_pass x places) x _ _ refl (λ may. refl)
step_settings x (Settle outcomes) = taken_state (HasSettings x) (may_settle x outcomes) x _ _ refl (λ may. refl)
step_settings x (SettleStop outcomes took) =
    taken_state (HasSettings x) (may_settle x outcomes) x _ _ refl (λ may. stopped_state (HasSettings x) took (with_event (settle_event x outcomes) []) x (λ y h. h) refl refl)

pub steps_settings : (x : CoreState) (steps : List Step) → (after_steps x steps).settings ≡ x.settings
steps_settings x [] = refl
steps_settings x (s ∷ steps) = steps_settings (step x s).0 steps ∙ step_settings x s

abbrev HasWord : CoreState → CoreState → Type 0
HasWord x y = y.acknowledged ≡ x.acknowledged

-- a stop acknowledges nothing
pub stop_word : (x : CoreState) (s : Step) → is_stop s ≡ true → (step x s).0.acknowledged ≡ x.acknowledged
stop_word x (Offer b offer) h = absurd (cc)
stop_word x (Flush b) h = absurd (cc)
stop_word x Merge h = absurd (cc)
stop_word x Stop h = refl
stop_word x (FlushStop b took) h = taken_state (HasWord x) (may_flush x b) x _ _ refl (λ may. stopped_state (HasWord x) took (with_list b) x (λ y k. k) refl refl)
stop_word x (MergeStop took) h = taken_state (HasWord x) (may_merge x) x _ _ refl (λ may. stopped_state (HasWord x) took with_cut x (λ y k. k) refl refl)
stop_word x (Pass places) h = absurd (cc)
stop_word x (Settle outcomes) h = absurd (cc)
stop_word x (SettleStop outcomes took) h =
    taken_state (HasWord x) (may_settle x outcomes) x _ _ refl (λ may. stopped_state (HasWord x) took (with_event (settle_event x outcomes) []) x (λ y k. k) refl refl)

abbrev WordGrows : CoreState → CoreState → Type 0
WordGrows x y = IsBelow x.acknowledged y.acknowledged

-- and no step takes an acknowledgement back
pub step_word : (x : CoreState) (s : Step) → IsCore x → IsBelow x.acknowledged (step x s).0.acknowledged
step_word x (Offer b offer) is = taken_state (WordGrows x) (may_offer x b offer) x _ _ (below_same x.acknowledged) (λ may. below_same x.acknowledged)
step_word x (Flush b) is =
    taken_state (WordGrows x) (may_flush x b) x _ _ (below_same x.acknowledged)
    (λ may. below_raised x.acknowledged (lengths_of (with_list b x).urls) b (list_kept x b is).acknowledged)
step_word x Merge is = taken_state (WordGrows x) (may_merge x) x _ _ (below_same x.acknowledged) (λ may. below_same x.acknowledged)
step_word x Stop is = below_same x.acknowledged
step_word x (FlushStop b took) is = subst (IsBelow x.acknowledged) (sym (stop_word x (FlushStop b took) refl)) (below_same x.acknowledged)
step_word x (MergeStop took) is = subst (IsBelow x.acknowledged) (sym (stop_word x (MergeStop took) refl)) (below_same x.acknowledged)
step_word x (Pass places) is = taken_state (WordGrows x) (may_pass x places) x _ _ (below_same x.acknowledged) (λ may. below_same x.acknowledged)
step_word x (Settle outcomes) is = taken_state (WordGrows x) (may_settle x outcomes) x _ _ (below_same x.acknowledged) (λ may. below_same x.acknowledged)
step_word x (SettleStop outcomes took) is = subst (IsBelow x.acknowledged) (sym (stop_word x (SettleStop outcomes took) refl)) (below_same x.acknowledged)

-- ---- stops
taken_stopped : (b : Bool) (old new : CoreState) (reply : Reply) → (reply ≡ Stopped → ⊥) → (taken_if b old new reply).1 ≡ Stopped → ⊥
taken_stopped true old new reply other h = other h
taken_stopped false old new reply other h = cc

taken_emptied : (b : Bool) (old new : CoreState) (c : ℕ) → array_of new c ≡ [] → (taken_if b old new Stopped).1 ≡ Stopped → array_of (taken_if b old new Stopped).0 c ≡ []
taken_emptied true old new c none h = none
taken_emptied false old new c none h = absurd (cc)

-- once a stop came to pass nothing is in memory
pub stop_empties : (x : CoreState) (s : Step) (c : ℕ) → (step x s).1 ≡ Stopped → array_of (step x s).0 c ≡ []
stop_empties x (Offer b offer) c h = absurd (taken_stopped (may_offer x b offer) x _ _ (λ e. cc) h)
stop_empties x (Flush b) c h = absurd (taken_stopped (may_flush x b) x _ _ (λ e. cc) h)
stop_empties x Merge c h = absurd (taken_stopped (may_merge x) x _ _ (λ e. cc) h)
stop_empties x Stop c h = emptied_at x.arrays c
stop_empties x (FlushStop b took) c h = taken_emptied (may_flush x b) x (stopped took (with_list b) x) c (emptied_at (cond took (with_list b x) x).arrays c) h
stop_empties x (MergeStop took) c h = taken_emptied (may_merge x) x (stopped took with_cut x) c (emptied_at (cond took (with_cut x) x).arrays c) h
stop_empties x (Pass places) c h = absurd (taken_stopped (may_pass x places) x _ _ (λ e. cc) h)
stop_empties x (Settle outcomes) c h = absurd (taken_stopped (may_settle x outcomes) x _ _ (λ e. cc) h)
stop_empties x (SettleStop outcomes took) c h =
    taken_emptied (may_settle x outcomes) x (stopped took (with_event (settle_event x outcomes) []) x) c (emptied_at (cond took (with_event (settle_event x outcomes) [] x) x).arrays c) h

-- one of some lists once another has moved to its end: it is as it was, or that has come behind it
flushed_at : (b : ℕ) (news : List Tuple) (lists : List (List Tuple)) (c : ℕ) → (get_or (flushed_lists b news lists) c [] ≡ get_or lists c [])
    ⊎ ((c ≡ b) × (get_or (flushed_lists b news lists) c [] ≡ get_or lists c [] ++ news))
flushed_at b news lists c =
    let set_is : get_or (flushed_lists b news lists) c [] ≡ get_or (set lists b (get_or lists b [] ++ news)) c [] = ap (λ (ls : List (List Tuple)). get_or ls c []) (flushed_lists-set b news lists) in
    elim (cases_eq c b) [
      | inl here ↦ elim (cases_lt b (length lists)) [
        | inl lt ↦
            inr (
              here,
              set_is ∙ ap (λ n. get_or (set lists b (get_or lists b [] ++ news)) n []) here ∙ get_or-set_same lists b (get_or lists b [] ++ news) [] lt
                  ∙ ap (λ n. get_or lists n [] ++ news) (sym here),
            )
        | inr le ↦ inl (set_is ∙ ap (λ (ls : List (List Tuple)). get_or ls c []) (set_past lists b (get_or lists b [] ++ news) le))
      ]
      | inr other ↦ inl (set_is ∙ get_or-set_other lists b c (get_or lists b [] ++ news) [] other)
    ]

-- what is left of a bucket in a state without arrays, where its list is one of these two
left_of : (x y : CoreState) (c : ℕ) → array_of y c ≡ [] → list_of y c ≡ list_of x c → IsPrefixOf (given y c) (given x c)
left_of x y c none same = (
  array_of x c,
  ap (λ (l : List Tuple). l ++ array_of x c) (sym (append-nil (list_of x c)) ∙ ap (λ (l : List Tuple). l ++ []) (sym same) ∙ ap (λ (a : List Tuple). list_of y c ++ a) (sym none)),
)

all_of : (x y : CoreState) (c : ℕ) → array_of y c ≡ [] → list_of y c ≡ list_of x c ++ array_of x c → IsPrefixOf (given y c) (given x c)
all_of x y c none same = (
  [],
  sym (append-nil (given x c) ∙ refl) ∙ ap (λ (l : List Tuple). l ++ [])
      (sym (append-nil (given x c)) ∙ ap (λ (l : List Tuple). l ++ []) (sym same) ∙ ap (λ (a : List Tuple). list_of y c ++ a) (sym none)),
)

flush_left : (x : CoreState) (b c : ℕ) → IsPrefixOf (given (emptied (with_list b x)) c) (given x c)
flush_left x b c =
    let none = emptied_at (with_list b x).arrays c in
    elim (flushed_at b (array_of x b) x.urls.lists c) [
      | inl same ↦ left_of x (emptied (with_list b x)) c none same
      | inr more ↦ all_of x (emptied (with_list b x)) c none (more.1 ∙ ap (λ n. list_of x c ++ array_of x n) (sym more.0))
    ]

abbrev IsLeft : CoreState → ℕ → CoreState → Type 0
IsLeft x c y = IsPrefixOf (given y c) (given x c)

stop_left : (x : CoreState) (took : Bool) (effect : CoreState → CoreState) (c : ℕ) → IsPrefixOf (given (emptied (effect x)) c) (given x c) → IsPrefixOf (given (stopped took effect x) c) (given x c)
stop_left x true effect c h = h
stop_left x false effect c h = left_of x (emptied x) c (emptied_at x.arrays c) refl

pub stop_given : (x : CoreState) (s : Step) (c : ℕ) → is_stop s ≡ true → IsPrefixOf (given (step x s).0 c) (given x c)
stop_given x (Offer b offer) c h = absurd (cc)
stop_given x (Flush b) c h = absurd (cc)
stop_given x Merge c h = absurd (cc)
stop_given x Stop c h = left_of x (emptied x) c (emptied_at x.arrays c) refl
stop_given x (FlushStop b took) c h =
    taken_state (IsLeft x c) (may_flush x b) x _ _ (prefix_same (given x c)) (λ may. stop_left x took (with_list b) c (flush_left x b c))
stop_given x (MergeStop took) c h =
    taken_state (IsLeft x c) (may_merge x) x _ _ (prefix_same (given x c))
    (λ may. stop_left x took with_cut c (left_of x (emptied (with_cut x)) c (emptied_at x.arrays c) refl))
stop_given x (Pass places) c h = absurd (cc)
stop_given x (Settle outcomes) c h = absurd (cc)
stop_given x (SettleStop outcomes took) c h =
    taken_state (IsLeft x c) (may_settle x outcomes) x _ _ (prefix_same (given x c))
    (λ may. stop_left x took (with_event (settle_event x outcomes) []) c (left_of x (emptied (with_event (settle_event x outcomes) [] x)) c (emptied_at x.arrays c) refl))

-- ---- receipts
get_end : (xs : List Tuple) (o : Tuple) (i : ℕ) → i ≡ length xs → slice_get (xs ++ o ∷ []) i ≡ Some o
get_end [] o zero e = refl
get_end [] o (suc i) e = absurd (omega (arith, e))
get_end (x ∷ xs) o zero e = absurd (omega (arith, e))
get_end (x ∷ xs) o (suc i) e = get_end xs o i (omega (arith, e))

get_first : (xs ys : List Tuple) (o : Tuple) (i : ℕ) → slice_get xs i ≡ Some o → slice_get (xs ++ ys) i ≡ Some o
get_first [] ys o i h = absurd (cc)
get_first (x ∷ xs) ys o zero h = h
get_first (x ∷ xs) ys o (suc i) h = get_first xs ys o i h

get_within : (xs : List Tuple) (o : Tuple) (i : ℕ) → slice_get xs i ≡ Some o → i < length xs
get_within [] o i h = absurd (cc)
get_within (x ∷ xs) o zero h = omega arith
get_within (x ∷ xs) o (suc i) h = let rest = get_within xs o i h in omega arith

get_prefix : (xs ys : List Tuple) (o : Tuple) (i : ℕ) → IsPrefixOf xs ys → slice_get xs i ≡ Some o → slice_get ys i ≡ Some o
get_prefix xs ys o i h k = ap (λ (l : List Tuple). slice_get l i) h.1 ∙ get_first xs h.0 o i k

length_at : (firsts : List ℕ) (lists : List (List Tuple)) (b : ℕ) → b < length firsts → b < length lists → get_or (list_lengths firsts lists) b 0 ≡ get_or firsts b 0 + length (get_or lists b [])
length_at [] lists b f l = absurd (omega arith)
length_at (first ∷ firsts) [] b f l = absurd (omega arith)
length_at (first ∷ firsts) (list ∷ lists) zero f l = refl
length_at (first ∷ firsts) (list ∷ lists) (suc b) f l = length_at firsts lists b (omega arith) (omega arith)

durable_is : (x : CoreState) (b : ℕ) → IsCore x → b < x.settings.buckets → durable_in x b ≡ get_or x.urls.firsts b 0 + length (list_of x b)
durable_is x b is lt = length_at x.urls.firsts x.urls.lists b (omega (arith, is.urls.firsts, is.buckets)) (omega (arith, is.urls.lists, is.buckets))

-- what was given grows by each step but a stop
abbrev Gave : CoreState → ℕ → CoreState → Type 0
Gave x c y = IsPrefixOf (given x c) (given y c)

offer_given : (x : CoreState) (b c : ℕ) (offer : Tuple) → IsPrefixOf (given x c) (given (with_offer b offer x) c)
offer_given x b c offer = elim (flushed_at b (offer ∷ []) x.arrays c) [
  | inl same ↦ ([], ap (λ (a : List Tuple). list_of x c ++ a) same ∙ sym (append-nil (given x c)))
  | inr more ↦
      (offer ∷ [], ap (λ (a : List Tuple). list_of x c ++ a) more.1 ∙ sym (append_assoc (list_of x c) (array_of x c) (offer ∷ [])))
]

may_flush_parts : (x : CoreState) (b : ℕ) → may_flush x b ≡ true → b < x.settings.buckets
may_flush_parts x b may =
    let all = and_parts (nat_lt b x.settings.buckets && nat_lt 0 (length (array_of x b)) && nat_lt (pending_in x b) x.settings.trigger) (nat_le (durable_in x b + length (array_of x b)) x.settings.cap)
    may in
    let three = and_parts (nat_lt b x.settings.buckets && nat_lt 0 (length (array_of x b))) (nat_lt (pending_in x b) x.settings.trigger) all.0 in
    ltb-true b x.settings.buckets (and_parts (nat_lt b x.settings.buckets) (nat_lt 0 (length (array_of x b))) three.0).0

-- the bucket's list, once its array has moved there
list_flushed : (x : CoreState) (b : ℕ) → IsCore x → b < x.settings.buckets → list_of (with_list b x) b ≡ given x b
list_flushed x b is lt =
    ap (λ (ls : List (List Tuple)). get_or ls b []) (flushed_lists-set b (array_of x b) x.urls.lists)
    ∙ get_or-set_same x.urls.lists b (list_of x b ++ array_of x b) [] (omega (arith, is.urls.lists, is.buckets))

flush_given : (x : CoreState) (b c : ℕ) → IsCore x → b < x.settings.buckets → IsPrefixOf (given x c) (given (with_list b x) c)
flush_given x b c is lt = elim (cases_eq c b) [
  | inl here ↦
      let none : array_of (with_list b x) b ≡ [] = get_or-set_same x.arrays b [] [] (omega (arith, is.arrays)) in
      let same : given (with_list b x) b ≡ given x b = ap (λ (a : List Tuple). list_of (with_list b x) b ++ a) none ∙ append-nil (list_of (with_list b x) b) ∙ list_flushed x b is lt in
      let P : ℕ → Type 0 = λ n. IsPrefixOf (given x n) (given (with_list b x) n) in
      subst P (sym here) ([], same ∙ sym (append-nil (given x b)))
  | inr other ↦
      let list : list_of (with_list b x) c ≡ list_of x c = ap (λ (ls : List (List Tuple)). get_or ls c []) (flushed_lists-set b (array_of x b) x.urls.lists)
      ∙ get_or-set_other x.urls.lists b c (list_of x b ++ array_of x b) [] other in
      let array : array_of (with_list b x) c ≡ array_of x c = get_or-set_other x.arrays b c [] [] other in
      ([], ap (λ (l : List Tuple). l ++ array_of (with_list b x) c) list ∙ ap (λ (a : List Tuple). list_of x c ++ a) array ∙ sym (append-nil (given x c)))
]

not_stopped : (x : CoreState) (c : ℕ) (b : Bool) (new : CoreState) → ((taken_if b x new Stopped).1 ≢ Stopped) → IsPrefixOf (given x c) (given (taken_if b x new Stopped).0 c)
not_stopped x c true new h = absurd (h refl)
not_stopped x c false new h = prefix_same (given x c)

step_given : (x : CoreState) (s : Step) (c : ℕ) → IsCore x → ((step x s).1 ≢ Stopped) → IsPrefixOf (given x c) (given (step x s).0 c)
step_given x (Offer b offer) c is h = taken_state (Gave x c) (may_offer x b offer) x _ _ (prefix_same (given x c)) (λ may. offer_given x b c offer)
step_given x (Flush b) c is h = taken_state (Gave x c) (may_flush x b) x _ _ (prefix_same (given x c)) (λ may. flush_given x b c is (may_flush_parts x b may))
step_given x Merge c is h = taken_state (Gave x c) (may_merge x) x _ _ (prefix_same (given x c)) (λ may. prefix_same (given x c))
step_given x Stop c is h = absurd (h refl)
step_given x (FlushStop b took) c is h = not_stopped x c (may_flush x b) (stopped took (with_list b) x) h
step_given x (MergeStop took) c is h = not_stopped x c (may_merge x) (stopped took with_cut x) h
step_given x (Pass places) c is h = taken_state (Gave x c) (may_pass x places) x _ _ (prefix_same (given x c)) (λ may. prefix_same (given x c))
step_given x (Settle outcomes) c is h = taken_state (Gave x c) (may_settle x outcomes) x _ _ (prefix_same (given x c)) (λ may. prefix_same (given x c))
step_given x (SettleStop outcomes took) c is h = not_stopped x c (may_settle x outcomes) (stopped took (with_event (settle_event x outcomes) []) x) h

pub given_step : (x : CoreState) (s : Step) (b number : ℕ) (offer : Tuple) → IsCore x → ((step x s).1 ≢ Stopped) → GivenAt x b number offer → GivenAt (step x s).0 b number offer
given_step x s b number offer is none at = (
  at.0,
  (
    ap (λ (firsts : List ℕ). get_or firsts b 0 + at.0) (step_front x s).firsts ∙ at.1.0,
    get_prefix (given x b) (given (step x s).0 b) offer at.0 (step_given x s b is none) at.1.1,
  ),
)

given_steps : (x : CoreState) (steps : List Step) (b number : ℕ) (offer : Tuple) → IsCore x → NoneStopped x steps → GivenAt x b number offer → GivenAt (after_steps x steps) b number offer
given_steps x [] b number offer is none at = at
given_steps x (s ∷ steps) b number offer is none at =
    given_steps (step x s).0 steps b number offer (step_kept x s is) none.1 (given_step x s b number offer is none.0 at)

-- the receipt of an offer
offer_taken : (b : Bool) (old new : CoreState) (one receipt : Receipt) → (taken_if b old new (ReceiptReply one)).1 ≡ ReceiptReply receipt → (b ≡ true) × (one ≡ receipt)
offer_taken true old new one receipt h = (refl, cc)
offer_taken false old new one receipt h = absurd (cc)

offer_at : (x : CoreState) (b : ℕ) (offer : Tuple) → IsCore x → b < x.settings.buckets → GivenAt (with_offer b offer x) b (durable_in x b + length (array_of x b)) offer
offer_at x b offer is lt =
    let within : b < length x.arrays = omega (arith, is.arrays) in
    let array : array_of (with_offer b offer x) b ≡ array_of x b ++ offer ∷ [] = ap (λ (ls : List (List Tuple)). get_or ls b []) (flushed_lists-set b (offer ∷ []) x.arrays)
    ∙ get_or-set_same x.arrays b (array_of x b ++ offer ∷ []) [] within in
    let all : given (with_offer b offer x) b ≡ given x b ++ offer ∷ [] = ap (λ (a : List Tuple). list_of x b ++ a) array ∙ sym (append_assoc (list_of x b) (array_of x b) (offer ∷ [])) in
    let durable = durable_is x b is lt in
    let long = length-append (list_of x b) (array_of x b) in
    (length (given x b), (omega arith, ap (λ (l : List Tuple). slice_get l (length (given x b))) all ∙ get_end (given x b) offer (length (given x b)) refl))

record IsReceived (x y : CoreState) (b : ℕ) (offer : Tuple) (receipt : Receipt) : Type 0 where
  bucket : b ≡ receipt.bucket
  at : GivenAt y b receipt.number offer
  kept : IsCore y

received : (x : CoreState) (b : ℕ) (offer : Tuple) (receipt : Receipt) → IsCore x → b < x.settings.buckets → (step x (Offer b offer)).1 ≡ ReceiptReply receipt
    → IsReceived x (step x (Offer b offer)).0 b offer receipt
received x b offer receipt is lt h =
    let one : Receipt = record { bucket = b; number = durable_in x b + length (array_of x b) } in
    let both = offer_taken (may_offer x b offer) x (with_offer b offer x) one receipt h in
    let same = both.1 in
    let P : Bool → Type 0 = λ t. GivenAt (taken_if t x (with_offer b offer x) (ReceiptReply one)).0 b receipt.number offer in
    let number : one.number ≡ receipt.number = ap (λ (r : Receipt). r.number) same in
    record {
      bucket = ap (λ (r : Receipt). r.bucket) same;
      at = subst P (sym both.0) (subst (λ n. GivenAt (with_offer b offer x) b n offer) number (offer_at x b offer is lt));
      kept = step_kept x (Offer b offer) is;
    }

flush_taken : (b : Bool) (old new : CoreState) → (taken_if b old new Taken).1 ≡ Taken → b ≡ true
flush_taken true old new h = refl
flush_taken false old new h = absurd (cc)

-- a list's front stays in it
prefix_at : (xs ys : List (List Tuple)) (b : ℕ) → ArePrefixes xs ys → IsPrefixOf (get_or xs b []) (get_or ys b [])
prefix_at [] [] b h = ([], refl)
prefix_at [] (y ∷ ys) b h = absurd h
prefix_at (x ∷ xs) [] b h = absurd h
prefix_at (x ∷ xs) (y ∷ ys) zero h = h.0
prefix_at (x ∷ xs) (y ∷ ys) (suc b) h = prefix_at xs ys b h.1

pub stands_step : (x : CoreState) (s : Step) (receipt : Receipt) (offer : Tuple) → StandsAt x receipt offer → StandsAt (step x s).0 receipt offer
stands_step x s receipt offer at =
    let front = step_front x s in (
      at.0,
      (
        ap (λ (firsts : List ℕ). get_or firsts receipt.bucket 0 + at.0) front.firsts ∙ at.1.0,
        get_prefix (list_of x receipt.bucket) (list_of (step x s).0 receipt.bucket) offer at.0 (prefix_at x.urls.lists (step x s).0.urls.lists receipt.bucket front.lists) at.1.1,
      ),
    )

stands_steps : (x : CoreState) (steps : List Step) (receipt : Receipt) (offer : Tuple) → StandsAt x receipt offer → StandsAt (after_steps x steps) receipt offer
stands_steps x [] receipt offer at = at
stands_steps x (s ∷ steps) receipt offer at = stands_steps (step x s).0 steps receipt offer (stands_step x s receipt offer at)

-- the flush of a bucket that was given an offer
record IsFlushed (z : CoreState) (b : ℕ) (receipt : Receipt) (offer : Tuple) : Type 0 where
  stands : StandsAt z receipt offer
  below : receipt.number < get_or z.acknowledged b 0

flush_at : (y : CoreState) (b : ℕ) (receipt : Receipt) (offer : Tuple) → IsCore y → b < y.settings.buckets → b ≡ receipt.bucket → GivenAt y b receipt.number offer
    → IsFlushed (with_word b (with_list b y)) b receipt offer
flush_at y b receipt offer is lt bucket at =
    let whole = list_flushed y b is lt in
    let stands : slice_get (list_of (with_list b y) b) at.0 ≡ Some offer = ap (λ (l : List Tuple). slice_get l at.0) whole ∙ at.1.1 in
    let kept = list_kept y b is in
    let short : at.0 < length (given y b) = get_within (given y b) offer at.0 at.1.1 in
    let long : length (list_of (with_list b y) b) ≡ length (given y b) = ap length whole in
    let durable : durable_in (with_list b y) b ≡ get_or y.urls.firsts b 0 + length (list_of (with_list b y) b) = durable_is (with_list b y) b kept lt in
    let number : get_or y.urls.firsts b 0 + at.0 ≡ receipt.number = at.1.0 in
    let many : length y.acknowledged ≡ length (lengths_of y.urls) = below_long y.acknowledged (lengths_of y.urls) is.acknowledged in
    let all : length (lengths_of y.urls) ≡ y.urls.buckets = length-lengths_of y.urls is.urls in
    let word : get_or (set y.acknowledged b (durable_in (with_list b y) b)) b 0 ≡ durable_in (with_list b y) b =
    get_or-set_same y.acknowledged b (durable_in (with_list b y) b) 0 (omega (arith, is.buckets)) in
    let P : ℕ → Type 0 = λ c. (place : ℕ) × ((get_or y.urls.firsts c 0 + place ≡ receipt.number) × (slice_get (list_of (with_list b y) c) place ≡ Some offer)) in
    record { stands = subst P bucket (at.0, (number, stands)); below = omega arith }

flush_received : (y : CoreState) (b : ℕ) (receipt : Receipt) (offer : Tuple) → IsCore y → b ≡ receipt.bucket → GivenAt y b receipt.number offer → (step y (Flush b)).1 ≡ Taken
    → IsFlushed (step y (Flush b)).0 b receipt offer
flush_received y b receipt offer is bucket at h =
    let may = flush_taken (may_flush y b) y (with_word b (with_list b y)) h in
    let P : Bool → Type 0 = λ t. IsFlushed (taken_if t y (with_word b (with_list b y)) Taken).0 b receipt offer in
    subst P (sym may) (flush_at y b receipt offer is (may_flush_parts y b may) bucket at)

-- what is left once an offer got a receipt, and steps but stops came behind it
given_between : (x : CoreState) (b : ℕ) (offer : Tuple) (receipt : Receipt) (between : List Step) → IsCore x → b < (after_steps (step x (Offer b offer)).0 between).settings.buckets
    → (step x (Offer b offer)).1 ≡ ReceiptReply receipt → NoneStopped (step x (Offer b offer)).0 between
    → IsReceived x (after_steps (step x (Offer b offer)).0 between) b offer receipt
given_between x b offer receipt between is below replied none =
    let next = (step x (Offer b offer)).0 in
    let same : (after_steps next between).settings.buckets ≡ x.settings.buckets = ap (λ (s : Settings). s.buckets) (steps_settings next between ∙ step_settings x (Offer b offer)) in
    let first = received x b offer receipt is (omega arith) replied in
    record {
      bucket = first.bucket;
      at = given_steps next between b receipt.number offer first.kept none first.at;
      kept = steps_kept next between first.kept;
    }

flushed_offer : (x : CoreState) (b : ℕ) (offer : Tuple) (receipt : Receipt) (between : List Step) → IsCore x
    → (step x (Offer b offer)).1 ≡ ReceiptReply receipt → NoneStopped (step x (Offer b offer)).0 between
    → (step (after_steps (step x (Offer b offer)).0 between) (Flush b)).1 ≡ Taken
    → IsFlushed (step (after_steps (step x (Offer b offer)).0 between) (Flush b)).0 b receipt offer
flushed_offer x b offer receipt between is replied none taken =
    let y = after_steps (step x (Offer b offer)).0 between in
    let below : b < y.settings.buckets = may_flush_parts y b (flush_taken (may_flush y b) y (with_word b (with_list b y)) taken) in
    let given_there = given_between x b offer receipt between is below replied none in
    flush_received y b receipt offer given_there.kept given_there.bucket given_there.at taken

pub flushed_stands : (x : CoreState) (b : ℕ) (offer : Tuple) (receipt : Receipt) (between later : List Step) → IsCore x
    → (step x (Offer b offer)).1 ≡ ReceiptReply receipt → NoneStopped (step x (Offer b offer)).0 between
    → (step (after_steps (step x (Offer b offer)).0 between) (Flush b)).1 ≡ Taken
    → StandsAt (after_steps (step (after_steps (step x (Offer b offer)).0 between) (Flush b)).0 later) receipt offer
flushed_stands x b offer receipt between later is replied none taken =
    stands_steps (step (after_steps (step x (Offer b offer)).0 between) (Flush b)).0 later receipt offer
    (flushed_offer x b offer receipt between is replied none taken).stands

-- acknowledgements stay
pub steps_word : (x : CoreState) (steps : List Step) → IsCore x → IsBelow x.acknowledged (after_steps x steps).acknowledged
steps_word x [] is = below_same x.acknowledged
steps_word x (s ∷ steps) is =
    below_both x.acknowledged (step x s).0.acknowledged (after_steps (step x s).0 steps).acknowledged (step_word x s is) (steps_word (step x s).0 steps (step_kept x s is))

pub flushed_below : (x : CoreState) (b : ℕ) (offer : Tuple) (receipt : Receipt) (between later : List Step) → IsCore x
    → (step x (Offer b offer)).1 ≡ ReceiptReply receipt → NoneStopped (step x (Offer b offer)).0 between
    → (step (after_steps (step x (Offer b offer)).0 between) (Flush b)).1 ≡ Taken
    → receipt.number < get_or (after_steps (step (after_steps (step x (Offer b offer)).0 between) (Flush b)).0 later).acknowledged b 0
flushed_below x b offer receipt between later is replied none taken =
    let y = after_steps (step x (Offer b offer)).0 between in
    let z = (step y (Flush b)).0 in
    let kept = step_kept y (Flush b) (steps_kept (step x (Offer b offer)).0 between (step_kept x (Offer b offer) is)) in
    let now : receipt.number < get_or z.acknowledged b 0 = (flushed_offer x b offer receipt between is replied none taken).below in
    let grown : get_or z.acknowledged b 0 ≤ get_or (after_steps z later).acknowledged b 0 = below_at z.acknowledged (after_steps z later).acknowledged b (steps_word z later kept) in
    omega arith

-- a stop in a flush that took effect
stop_taken : (b : Bool) (old new : CoreState) → (taken_if b old new Stopped).1 ≡ Stopped → b ≡ true
stop_taken true old new h = refl
stop_taken false old new h = absurd (cc)

pub stopped_stands : (x : CoreState) (b : ℕ) (offer : Tuple) (receipt : Receipt) (between later : List Step) → IsCore x
    → (step x (Offer b offer)).1 ≡ ReceiptReply receipt → NoneStopped (step x (Offer b offer)).0 between
    → (step (after_steps (step x (Offer b offer)).0 between) (FlushStop b true)).1 ≡ Stopped
    → StandsAt (after_steps (step (after_steps (step x (Offer b offer)).0 between) (FlushStop b true)).0 later) receipt offer
stopped_stands x b offer receipt between later is replied none taken =
    let y = after_steps (step x (Offer b offer)).0 between in
    let may = stop_taken (may_flush y b) y (emptied (with_list b y)) taken in
    let below : b < y.settings.buckets = may_flush_parts y b may in
    let given_there = given_between x b offer receipt between is below replied none in
    let P : Bool → Type 0 = λ t. StandsAt (taken_if t y (emptied (with_list b y)) Stopped).0 receipt offer in
    stands_steps (step y (FlushStop b true)).0 later receipt offer
    (subst P (sym may) (flush_at y b receipt offer given_there.kept below given_there.bucket given_there.at).stands)

-- ---- single steps
pub offer_receipt : (x : CoreState) (b : ℕ) (offer : Tuple) (receipt : Receipt) → IsCore x → b < x.settings.buckets → (step x (Offer b offer)).1 ≡ ReceiptReply receipt
    → (receipt.bucket ≡ b) × GivenAt (step x (Offer b offer)).0 b receipt.number offer
offer_receipt x b offer receipt is lt replied =
    let one = received x b offer receipt is lt replied in
    (sym one.bucket, one.at)

-- an offer and a flush leave the other buckets
flushed_other : (b : ℕ) (news : List Tuple) (lists : List (List Tuple)) (c : ℕ) → c ≢ b → get_or (flushed_lists b news lists) c [] ≡ get_or lists c []
flushed_other b news lists c other =
    ap (λ (ls : List (List Tuple)). get_or ls c []) (flushed_lists-set b news lists) ∙ get_or-set_other lists b c (get_or lists b [] ++ news) [] other

pub offer_others : (x : CoreState) (b c : ℕ) (offer : Tuple) → c ≢ b → array_of (step x (Offer b offer)).0 c ≡ array_of x c
offer_others x b c offer other =
    taken_state (λ y. array_of y c ≡ array_of x c) (may_offer x b offer) x (with_offer b offer x) _ refl (λ may. flushed_other b (offer ∷ []) x.arrays c other)

pub flush_others : (x : CoreState) (b c : ℕ) → c ≢ b → given (step x (Flush b)).0 c ≡ given x c
flush_others x b c other =
    taken_state (λ y. given y c ≡ given x c) (may_flush x b) x (with_word b (with_list b x)) _ refl
    (λ may. ap (λ (l : List Tuple). l ++ array_of (with_list b x) c) (flushed_other b (array_of x b) x.urls.lists c other)
    ∙ ap (λ (a : List Tuple). list_of x c ++ a) (get_or-set_other x.arrays b c [] [] other))

-- ---- lists of steps
pub steps_front : (x : CoreState) (steps : List Step) → IsFront x.urls (after_steps x steps).urls
steps_front x [] = front_same x.urls
steps_front x (s ∷ steps) = front_both x.urls (step x s).0.urls (after_steps (step x s).0 steps).urls (step_front x s) (steps_front (step x s).0 steps)

pub steps_events : (x : CoreState) (steps : List Step) → IsPrefixOf x.events (after_steps x steps).events
steps_events x [] = prefix_same x.events
steps_events x (s ∷ steps) = prefix_both x.events (step x s).0.events (after_steps (step x s).0 steps).events (step_events x s) (steps_events (step x s).0 steps)

-- ---- stops that take effect, and that don't
same_urls : (b : Bool) (x y z : CoreState) (r q : Reply) → y.urls ≡ z.urls → (taken_if b x y r).0.urls ≡ (taken_if b x z q).0.urls
same_urls true x y z r q h = h
same_urls false x y z r q h = refl

same_events : (b : Bool) (x y z : CoreState) (r q : Reply) → y.events ≡ z.events → (taken_if b x y r).0.events ≡ (taken_if b x z q).0.events
same_events true x y z r q h = h
same_events false x y z r q h = refl

pub flush_effect : (x : CoreState) (b : ℕ) → (step x (FlushStop b true)).0.urls ≡ (step x (Flush b)).0.urls
flush_effect x b = same_urls (may_flush x b) x _ _ _ _ refl

pub merge_effect : (x : CoreState) → (step x (MergeStop true)).0.urls ≡ (step x Merge).0.urls
merge_effect x = same_urls (may_merge x) x _ _ _ _ refl

pub settle_effect : (x : CoreState) (outcomes : List (ℕ × Outcome)) → (step x (SettleStop outcomes true)).0.events ≡ (step x (Settle outcomes)).0.events
settle_effect x outcomes = same_events (may_settle x outcomes) x _ _ _ _ refl

abbrev IsSameStore : CoreState → CoreState → Type 0
IsSameStore x y = (y.urls ≡ x.urls) × (y.events ≡ x.events)

pub no_effect : (x : CoreState) (s : Step) → takes_effect s ≡ false → ((step x s).0.urls ≡ x.urls) × ((step x s).0.events ≡ x.events)
no_effect x (Offer b offer) h = taken_state (IsSameStore x) (may_offer x b offer) x _ _ (refl, refl) (λ may. (refl, refl))
no_effect x (Flush b) h = absurd (cc)
no_effect x Merge h = absurd (cc)
no_effect x Stop h = (refl, refl)
no_effect x (FlushStop b true) h = absurd (cc)
no_effect x (FlushStop b false) h = taken_state (IsSameStore x) (may_flush x b) x _ _ (refl, refl) (λ may. (refl, refl))
no_effect x (MergeStop true) h = absurd (cc)
no_effect x (MergeStop false) h = taken_state (IsSameStore x) (may_merge x) x _ _ (refl, refl) (λ may. (refl, refl))
no_effect x (Pass places) h = absurd (cc)
no_effect x (Settle outcomes) h = absurd (cc)
no_effect x (SettleStop outcomes true) h = absurd (cc)
no_effect x (SettleStop outcomes false) h = taken_state (IsSameStore x) (may_settle x outcomes) x _ _ (refl, refl) (λ may. (refl, refl))
