-- How long lists grow, and how much is pending.
use Rattle.std.proofs.Common.{◌≡◌, ℕ, ◌+◌, ◌-◌, ◌<◌, ◌≤◌, List, [], ◌∷◌, length, get_or, sym, ap, subst, arith, true, inl, inr}
use Rattle.std.specs.Prelude.{◌&&◌, nat_lt, nat_le, max}
use Rattle.std.proofs.lemmas.Bool.{cases_eq, and_parts, ltb-true, leb-true}
use Rattle.irl_offer.specs.declared.settings.Settings.{Settings}
use Rattle.irl_model.specs.Book.{judged_cut, merged}
use Rattle.irl_model.proofs.Flushes.{flushed_length_here, flushed_length_elsewhere}
use Rattle.irl_model.proofs.Merges.{merged_cut}
use Rattle.irl_core.specs.declared.step.Step.{Step}
use Rattle.irl_core.specs.declared.step.Step.TheVariants.{Offer, Flush, Merge, Stop, FlushStop, MergeStop, Pass, Settle, SettleStop}
use Rattle.irl_core.specs.Steps.{CoreState, array_of, durable_in, pending_in, settle_event, may_offer, may_flush, may_merge, may_pass, may_settle}
use Rattle.irl_core.specs.Steps.{with_list, with_cut, with_event, step, after_steps}
use Rattle.irl_core.specs.Laws.{IsCore}
use Rattle.irl_core.proofs.Keeping.{step_kept, taken_state, stopped_state}
use Rattle.irl_core.proofs.Receipts.{step_settings}

-- what a flush asks
record FlushParts (x : CoreState) (b : ℕ) : Type 0 where
  bucket : b < x.settings.buckets
  pending : pending_in x b < x.settings.trigger
  fits : durable_in x b + length (array_of x b) ≤ x.settings.cap

flush_parts : (x : CoreState) (b : ℕ) → may_flush x b ≡ true → FlushParts x b
flush_parts x b may =
    let all = and_parts (nat_lt b x.settings.buckets && nat_lt 0 (length (array_of x b)) && nat_lt (pending_in x b) x.settings.trigger) (nat_le (durable_in x b + length (array_of x b)) x.settings.cap)
    may in
    let three = and_parts (nat_lt b x.settings.buckets && nat_lt 0 (length (array_of x b))) (nat_lt (pending_in x b) x.settings.trigger) all.0 in
    let two = and_parts (nat_lt b x.settings.buckets) (nat_lt 0 (length (array_of x b))) three.0 in
    record {
      bucket = ltb-true b x.settings.buckets two.0;
      pending = ltb-true (pending_in x b) x.settings.trigger three.1;
      fits = leb-true (durable_in x b + length (array_of x b)) x.settings.cap all.1;
    }

-- ---- lists
abbrev WithinCap : CoreState → ℕ → CoreState → Type 0
WithinCap x b y = durable_in y b ≤ max x.settings.cap (durable_in x b)

cap_same : (x : CoreState) (b : ℕ) → WithinCap x b x
cap_same x b = omega arith

cap_flush : (x : CoreState) (c b : ℕ) → IsCore x → may_flush x c ≡ true → WithinCap x b (with_list c x)
cap_flush x c b is may = elim (cases_eq b c) [
  | inl here ↦
      let parts = flush_parts x c may in
      let fits : durable_in x c + length (array_of x c) ≤ x.settings.cap = parts.fits in
      let bucket : c < x.settings.buckets = parts.bucket in
      let longer : durable_in (with_list c x) c ≡ durable_in x c + length (array_of x c) = flushed_length_here c (array_of x c) x.urls is.urls (omega (arith, is.buckets)) in
      let now : durable_in (with_list c x) c ≤ max x.settings.cap (durable_in x c) = omega arith in
      subst (λ (n : ℕ). WithinCap x n (with_list c x)) (sym here) now
  | inr other ↦
      let same : durable_in (with_list c x) b ≡ durable_in x b = flushed_length_elsewhere c (array_of x c) x.urls b is.urls other in
      omega arith
]

step_cap : (x : CoreState) (s : Step) (b : ℕ) → IsCore x → WithinCap x b (step x s).0
step_cap x (Offer c offer) b is = taken_state (WithinCap x b) (may_offer x c offer) x _ _ (cap_same x b) (λ may. cap_same x b)
step_cap x (Flush c) b is = taken_state (WithinCap x b) (may_flush x c) x _ _ (cap_same x b) (λ may. cap_flush x c b is may)
step_cap x Merge b is = taken_state (WithinCap x b) (may_merge x) x _ _ (cap_same x b) (λ may. cap_same x b)
step_cap x Stop b is = cap_same x b
step_cap x (FlushStop c took) b is =
    taken_state (WithinCap x b) (may_flush x c) x _ _ (cap_same x b) (λ may. stopped_state (WithinCap x b) took (with_list c) x (λ y h. h) (cap_same x b) (cap_flush x c b is may))
step_cap x (MergeStop took) b is =
    taken_state (WithinCap x b) (may_merge x) x _ _ (cap_same x b) (λ may. stopped_state (WithinCap x b) took with_cut x (λ y h. h) (cap_same x b) (cap_same x b))
step_cap x (Pass places) b is = taken_state (WithinCap x b) (may_pass x places) x _ _ (cap_same x b) (λ may. cap_same x b)
step_cap x (Settle outcomes) b is = taken_state (WithinCap x b) (may_settle x outcomes) x _ _ (cap_same x b) (λ may. cap_same x b)
step_cap x (SettleStop outcomes took) b is =
    taken_state (WithinCap x b) (may_settle x outcomes) x _ _ (cap_same x b)
    (λ may. stopped_state (WithinCap x b) took (with_event (settle_event x outcomes) []) x (λ y h. h) (cap_same x b) (cap_same x b))

pub steps_cap : (x : CoreState) (steps : List Step) (b : ℕ) → IsCore x → durable_in (after_steps x steps) b ≤ max x.settings.cap (durable_in x b)
steps_cap x [] b is = cap_same x b
steps_cap x (s ∷ steps) b is =
    let y = (step x s).0 in
    let one : durable_in y b ≤ max x.settings.cap (durable_in x b) = step_cap x s b is in
    let same : y.settings.cap ≡ x.settings.cap = ap (λ (t : Settings). t.cap) (step_settings x s) in
    let rest : durable_in (after_steps y steps) b ≤ max y.settings.cap (durable_in y b) = steps_cap y steps b (step_kept x s is) in
    omega arith

-- ---- what is pending
abbrev most_pending : CoreState → ℕ
most_pending x = x.settings.trigger - 1 + x.settings.array

abbrev WithinPending : CoreState → ℕ → CoreState → Type 0
WithinPending x b y = pending_in y b ≤ max (most_pending x) (pending_in x b)

pending_same : (x : CoreState) (b : ℕ) → WithinPending x b x
pending_same x b = omega arith

pending_flush : (x : CoreState) (c b : ℕ) → IsCore x → may_flush x c ≡ true → WithinPending x b (with_list c x)
pending_flush x c b is may = elim (cases_eq b c) [
  | inl here ↦
      let parts = flush_parts x c may in
      let few : durable_in x c - get_or (judged_cut x.urls) c 0 < x.settings.trigger = parts.pending in
      let bucket : c < x.settings.buckets = parts.bucket in
      let room : length (array_of x c) ≤ x.settings.array = is.room c in
      let longer : durable_in (with_list c x) c ≡ durable_in x c + length (array_of x c) = flushed_length_here c (array_of x c) x.urls is.urls (omega (arith, is.buckets)) in
      let now : durable_in (with_list c x) c - get_or (judged_cut x.urls) c 0 ≤ max (most_pending x) (durable_in x c - get_or (judged_cut x.urls) c 0) = omega arith in
      subst (λ (n : ℕ). WithinPending x n (with_list c x)) (sym here) now
  | inr other ↦
      let same : durable_in (with_list c x) b ≡ durable_in x b = flushed_length_elsewhere c (array_of x c) x.urls b is.urls other in
      let P : ℕ → Type 0 = λ n. n - get_or (judged_cut x.urls) b 0 ≤ max (most_pending x) (pending_in x b) in
      subst P (sym same) (pending_same x b)
]

pending_cut : (x : CoreState) (b : ℕ) → WithinPending x b (with_cut x)
pending_cut x b =
    let none : get_or (judged_cut (merged x.urls)) b 0 ≡ durable_in x b = ap (λ (ns : List ℕ). get_or ns b 0) (merged_cut x.urls) in
    let P : ℕ → Type 0 = λ n. durable_in x b - n ≤ max (most_pending x) (pending_in x b) in
    let now : durable_in x b - durable_in x b ≤ max (most_pending x) (pending_in x b) = omega arith in
    subst P (sym none) now

step_pending : (x : CoreState) (s : Step) (b : ℕ) → IsCore x → WithinPending x b (step x s).0
step_pending x (Offer c offer) b is = taken_state (WithinPending x b) (may_offer x c offer) x _ _ (pending_same x b) (λ may. pending_same x b)
step_pending x (Flush c) b is = taken_state (WithinPending x b) (may_flush x c) x _ _ (pending_same x b) (λ may. pending_flush x c b is may)
step_pending x Merge b is = taken_state (WithinPending x b) (may_merge x) x _ _ (pending_same x b) (λ may. pending_cut x b)
step_pending x Stop b is = pending_same x b
step_pending x (FlushStop c took) b is =
    taken_state (WithinPending x b) (may_flush x c) x _ _ (pending_same x b) (λ may. stopped_state (WithinPending x b) took (with_list c) x (λ y h. h) (pending_same x b) (pending_flush x c b is may))
step_pending x (MergeStop took) b is =
    taken_state (WithinPending x b) (may_merge x) x _ _ (pending_same x b) (λ may. stopped_state (WithinPending x b) took with_cut x (λ y h. h) (pending_same x b) (pending_cut x b))
step_pending x (Pass places) b is = taken_state (WithinPending x b) (may_pass x places) x _ _ (pending_same x b) (λ may. pending_same x b)
step_pending x (Settle outcomes) b is = taken_state (WithinPending x b) (may_settle x outcomes) x _ _ (pending_same x b) (λ may. pending_same x b)
step_pending x (SettleStop outcomes took) b is =
    taken_state (WithinPending x b) (may_settle x outcomes) x _ _ (pending_same x b)
    (λ may. stopped_state (WithinPending x b) took (with_event (settle_event x outcomes) []) x (λ y h. h) (pending_same x b) (pending_same x b))

both_most : (a b c m n : ℕ) → m ≡ n → b ≤ max n c → a ≤ max m b → a ≤ max n c
both_most a b c m n e h k = omega arith

pub steps_pending : (x : CoreState) (steps : List Step) (b : ℕ) → IsCore x → pending_in (after_steps x steps) b ≤ max (x.settings.trigger - 1 + x.settings.array) (pending_in x b)
steps_pending x [] b is = pending_same x b
steps_pending x (s ∷ steps) b is =
    let y = (step x s).0 in
    let one : pending_in y b ≤ max (most_pending x) (pending_in x b) = step_pending x s b is in
    let same : most_pending y ≡ most_pending x = ap (λ (t : Settings). t.trigger - 1 + t.array) (step_settings x s) in
    let rest : pending_in (after_steps y steps) b ≤ max (most_pending y) (pending_in y b) = steps_pending y steps b (step_kept x s is) in
    both_most (pending_in (after_steps y steps) b) (pending_in y b) (pending_in x b) (most_pending y) (most_pending x) same one rest
