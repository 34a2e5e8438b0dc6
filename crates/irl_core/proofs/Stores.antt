-- Crawls that have come equally far but for what was told of a beginning and of pairs.
use Rattle.std.proofs.Common.{◌≡◌, ◌∙◌, ℕ, List, [], ◌∷◌, ◌++◌, map, length, ap, refl, append-nil, ◌+◌, Bool, true, false, cond, not, Option, None, Some}
use Rattle.std.specs.Prelude.{◌&&◌, ◌||◌, nat_eq, nat_lt}
use Rattle.std.specs.List.{filter, list_all}
use Rattle.std.proofs.lemmas.List.Elements.{filter-append}
use Rattle.irl_offer.specs.Tuple.{Tuple}
use Rattle.irl_offer.specs.declared.outcome.Outcome.{Outcome}
use Rattle.irl_offer.specs.declared.place.Place.{Place}
use Rattle.irl_offer.specs.declared.settings.Settings.{Settings}
use Rattle.irl_model.specs.Book.{Book}
use Rattle.irl_events.specs.Events.{Event, Begin, Pairs, Pass, Robots, Settle, Happened, Progress, has_number, is_in_front, numbers_of, without, after_event, after_events, before_all, progress}
use Rattle.irl_events.specs.Legal.{broken, are_read, is_slot_within, one_rose, none_fell, are_distinct}
use Rattle.irl_base.specs.Lists.{list_at}
use Rattle.irl_events.specs.Queues.{Waiting, after_pass}
use Rattle.irl_fate.specs.Fates.{fate_of, waits_from, done_by}
use Rattle.irl_fate.specs.declared.fate.Fate.TheVariants.{Fresh, Front}
use Rattle.irl_core.specs.Steps.{broken_in_core, with_event}
use Rattle.irl_core.specs.Stores.{AreEquallyFar, is_step, steps_among, core_of_store}

pub alike_same : (x : Progress) → AreEquallyFar x x
alike_same x = record { read = refl; fronts = refl; front = refl; waiting = refl; done = refl }

-- after the same event
pub alike_event : (x y : Progress) (event : Event) (places : List Place) → AreEquallyFar x y → AreEquallyFar (after_event x event places) (after_event y event places)
alike_event x y (Begin suffixes) places a = record { read = a.read; fronts = a.fronts; front = a.front; waiting = a.waiting; done = a.done }
alike_event x y (Pairs cuts judged pairs) places a = record { read = a.read; fronts = a.fronts; front = a.front; waiting = a.waiting; done = a.done }
alike_event x y (Pass judged) places a = record {
  read = refl;
  fronts = a.fronts;
  front = ap (λ (front : List ℕ). front ++ numbers_of (filter (λ place. is_in_front place.slot) places)) a.front;
  waiting = ap (λ (w : Waiting ℕ). after_pass w (numbers_of places) places) a.waiting;
  done = a.done;
}
alike_event x y (Robots note) places a = record { read = a.read; fronts = a.fronts; front = a.front; waiting = a.waiting; done = a.done }
alike_event x y (Settle fronts outcomes) places a = record {
  read = a.read;
  fronts = refl;
  front = ap (λ (front : List ℕ). without front outcomes) a.front;
  waiting = a.waiting;
  done = ap (λ (done : List (ℕ × Outcome)). done ++ outcomes) a.done;
}

-- after an event that is no step
pub alike_other : (x y : Progress) (event : Event) (places : List Place) → is_step event ≡ false → AreEquallyFar x y → AreEquallyFar (after_event x event places) y
alike_other x y (Begin suffixes) places h a = record { read = a.read; fronts = a.fronts; front = a.front; waiting = a.waiting; done = a.done }
alike_other x y (Pairs cuts judged pairs) places h a = record { read = a.read; fronts = a.fronts; front = a.front; waiting = a.waiting; done = a.done }
alike_other x y (Pass judged) places h a = absurd (cc)
alike_other x y (Robots note) places h a = record { read = a.read; fronts = a.fronts; front = a.front; waiting = a.waiting; done = a.done }
alike_other x y (Settle fronts outcomes) places h a = absurd (cc)

alike_after : (x y : Progress) (events : List Happened) → AreEquallyFar x y → AreEquallyFar (after_events x events) (after_events y (steps_among events))
alike_after x y [] a = a
alike_after x y (h ∷ hs) a = by_test (is_step h.0) refl (alike_after (after_event x h.0 h.1) (after_event y h.0 h.1) hs (alike_event x y h.0 h.1 a)) (λ e.
    alike_after (after_event x h.0 h.1) y hs (alike_other x y h.0 h.1 e a))
  where
    by_test : (b : Bool) → is_step h.0 ≡ b → AreEquallyFar (after_events (after_event x h.0 h.1) hs) (after_events (after_event y h.0 h.1) (steps_among hs))
        → (is_step h.0 ≡ false → AreEquallyFar (after_events (after_event x h.0 h.1) hs) (after_events y (steps_among hs)))
        → AreEquallyFar (after_events (after_event x h.0 h.1) hs) (after_events y (cond b (h ∷ steps_among hs) (steps_among hs)))
    by_test true e one other = one
    by_test false e one other = other e

pub alike_steps : (queues buckets : ℕ) (events : List Happened) → AreEquallyFar (progress queues buckets events) (progress queues buckets (steps_among events))
alike_steps queues buckets events = alike_after (before_all queues buckets) (before_all queues buckets) events (alike_same (before_all queues buckets))

pub alike_fate : (x y : Progress) (n : ℕ) → AreEquallyFar x y → fate_of x n ≡ fate_of y n
alike_fate x y n a =
    ap (λ (front : List ℕ). cond (has_number front n) Front (waits_from 0 x.waiting.lists n (done_by x.done n Fresh))) a.front
    ∙ ap (λ (w : Waiting ℕ). cond (has_number y.front n) Front (waits_from 0 w.lists n (done_by x.done n Fresh))) a.waiting
    ∙ ap (λ (done : List (ℕ × Outcome)). cond (has_number y.front n) Front (waits_from 0 y.waiting.lists n (done_by done n Fresh))) a.done

-- ---- rules
pub alike_pass : (x y : Progress) (judged : ℕ) (places : List Place) → AreEquallyFar x y → x.begun ≡ true → x.sent ≡ judged
    → broken x (Pass judged) places ≡ broken_in_core y judged (Pass judged) places
alike_pass x y judged places a begun sent =
    let rule : ℕ → List ℕ → ℕ → Waiting ℕ → Bool = λ sent front read w. nat_eq judged sent && nat_eq (length front) 0 && are_read (list_at w.lists w.passes) read judged (numbers_of places) && list_all
    (λ place. is_slot_within (w.passes + 2) w.queues place.slot) places in
    let told : Bool → ℕ → List ℕ → ℕ → Waiting ℕ → Option ℕ = λ begun sent front read w. cond (not begun) (Some 1) (cond (not (rule sent front read w)) (Some 3) None) in
    ap (λ (b : Bool). told b x.sent x.front x.read x.waiting) begun
    ∙ ap (λ (n : ℕ). told true n x.front x.read x.waiting) sent
    ∙ ap (λ (front : List ℕ). told true judged front x.read x.waiting) a.front
    ∙ ap (λ (read : ℕ). told true judged y.front read x.waiting) a.read
    ∙ ap (λ (w : Waiting ℕ). told true judged y.front y.read w) a.waiting

pub alike_settle : (x y : Progress) (judged : ℕ) (fronts : List ℕ) (outcomes : List (ℕ × Outcome)) → AreEquallyFar x y → x.begun ≡ true
    → broken x (Settle fronts outcomes) [] ≡ broken_in_core y judged (Settle fronts outcomes) []
alike_settle x y judged fronts outcomes a begun =
    let rule : List ℕ → List ℕ → Bool = λ front old. (nat_lt 0 (length outcomes) || one_rose old fronts) && list_all (λ d. has_number front d.0) outcomes && are_distinct
    (map (λ d. d.0) outcomes) && none_fell old fronts in
    let told : Bool → List ℕ → List ℕ → Option ℕ = λ begun front old. cond (not begun) (Some 1) (cond (not (rule front old)) (Some 5) None) in
    ap (λ (b : Bool). told b x.front x.fronts) begun
    ∙ ap (λ (front : List ℕ). told true front x.fronts) a.front
    ∙ ap (λ (old : List ℕ). told true y.front old) a.fronts

-- ---- one event more
pub others_none : (settings : Settings) (arrays : List (List Tuple)) (urls : Book) (events : List Happened) (h : Happened) (acknowledged : List ℕ) → is_step h.0 ≡ false
    → core_of_store settings arrays urls (events ++ h ∷ []) acknowledged ≡ core_of_store settings arrays urls events acknowledged
others_none settings arrays urls events h acknowledged other =
    let none : steps_among (h ∷ []) ≡ [] = ap (λ (b : Bool). cond b (h ∷ []) []) other in
    ap (λ (es : List Happened). record { settings = settings; arrays = arrays; urls = urls; events = es; acknowledged = acknowledged })
    (filter-append (λ (e : Happened). is_step e.0) events (h ∷ []) ∙ ap (λ (es : List Happened). steps_among events ++ es) none ∙ append-nil (steps_among events))

pub steps_one : (settings : Settings) (arrays : List (List Tuple)) (urls : Book) (events : List Happened) (h : Happened) (acknowledged : List ℕ) → is_step h.0 ≡ true
    → core_of_store settings arrays urls (events ++ h ∷ []) acknowledged ≡ with_event h.0 h.1 (core_of_store settings arrays urls events acknowledged)
steps_one settings arrays urls events h acknowledged is =
    let one : steps_among (h ∷ []) ≡ h ∷ [] = ap (λ (b : Bool). cond b (h ∷ []) []) is in
    ap (λ (es : List Happened). record { settings = settings; arrays = arrays; urls = urls; events = es; acknowledged = acknowledged })
    (filter-append (λ (e : Happened). is_step e.0) events (h ∷ []) ∙ ap (λ (es : List Happened). steps_among events ++ es) one)
