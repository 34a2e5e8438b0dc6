-- Events that break a rule which the log shows by itself.
use Rattle.std.proofs.Common.{◌≡◌, ◌≢◌, ◌∙◌, ℕ, ◌+◌, nat_eq, nat_lt, List, [], ◌∷◌, ◌++◌, length, Bool, true, false, not, refl, sym, ap, arith}
use Rattle.std.specs.Prelude.{◌&&◌, ◌||◌, if◌then◌else◌, nat_le, Option, None, Some}
use Rattle.std.specs.List.{list_all}
use Rattle.std.proofs.lemmas.Bool.{and_right, false≢true}
use Rattle.irl_base.specs.Lists.{list_at}
use Rattle.irl_offer.specs.declared.outcome.Outcome.{Outcome}
use Rattle.irl_offer.specs.declared.place.Place.{Place}
use Rattle.irl_events.specs.Events.{Event, Begin, Pairs, Pass, Robots, Settle, Happened, Progress, after_event, before_all, has_number, numbers_of}
use Rattle.irl_events.specs.Legal.{AreLegal, AreLegalAfter, are_distinct, are_read, begins_once, broken, is_noted, is_slot_within, none_fell, one_rose, pairs_rise, passes_on, settles}
use Rattle.irl_journal.specs.Format.{records_text}
use Rattle.irl_log.specs.Log.{placed_events}
use Rattle.irl_log.specs.Spelling.{records_of}
use Rattle.irl_log.specs.Visiting.{RefusesOneEvent, TakesEvents}
use Rattle.irl_ledger.specs.Broken.{LogHistory, RefusesAlone, TakesAlone, blank_history, keeps_alone, outline_after, outline_of, settled_numbers}
use Rattle.irl_ledger.specs.Crawling.{events_of}

-- of lists of different lengths one number fell
pub fell_apart : (xs ys : List ℕ) → length xs ≢ length ys → none_fell xs ys ≡ false
fell_apart [] [] differ = absurd (differ refl)
fell_apart [] (y ∷ ys) differ = refl
fell_apart (x ∷ xs) [] differ = refl
fell_apart (x ∷ xs) (y ∷ ys) differ =
    and_right (nat_le x y) (none_fell xs ys) (fell_apart xs ys (λ same. differ (omega (arith, same))))

pub last_false : (a b c : Bool) → c ≡ false → (a && b && c) ≡ false
last_false true true c is = is
last_false true false c is = refl
last_false false b c is = refl

-- ---- what an event keeps, it keeps by itself
pub outline_more : (x : Progress) (event : Event) (places : List Place) → outline_of (after_event x event places) ≡ outline_after (outline_of x) event
outline_more x (Begin suffixes) places = refl
outline_more x (Pairs cuts judged pairs) places = refl
outline_more x (Pass judged) places = refl
outline_more x (Robots note) places = refl
outline_more x (Settle fronts outcomes) places = refl

-- an event that breaks no rule keeps each
abbrev least_broken : Bool → Bool → Bool → Bool → Bool → Option ℕ
least_broken a b c d e = if not a then Some 1 else (if not b then Some 2 else (if not c then Some 3 else (if not d then Some 4 else (if not e then Some 5 else None))))

some_is_none : (n : ℕ) → let some : Option ℕ = Some n in some ≡ None → ⊥
some_is_none n is = cc

pub all_kept : (a b c d e : Bool) → least_broken a b c d e ≡ None
    → (a ≡ true) × (b ≡ true) × (c ≡ true) × (d ≡ true) × (e ≡ true)
all_kept false b c d e is = absurd (some_is_none 1 is)
all_kept true false c d e is = absurd (some_is_none 2 is)
all_kept true true false d e is = absurd (some_is_none 3 is)
all_kept true true true false e is = absurd (some_is_none 4 is)
all_kept true true true true false is = absurd (some_is_none 5 is)
all_kept true true true true true is = (refl, refl, refl, refl, refl)

-- of four tests that all hold, the first
pub first_of_four : (a b c d : Bool) → (a && b && c && d) ≡ true → a ≡ true
first_of_four true b c d is = refl
first_of_four false b c d is = absurd (false≢true is)

-- and of these the others than the second
but_second : (a b c d : Bool) → (a && b && c && d) ≡ true → (a && c && d) ≡ true
but_second true true c d is = is
but_second true false c d is = absurd (false≢true is)
but_second false b c d is = absurd (false≢true is)

both_hold : (a b : Bool) → a ≡ true → b ≡ true → (a && b) ≡ true
both_hold true true x y = refl
both_hold true false x y = y
both_hold false b x y = x

keeps_by : (x : Progress) (event : Event) (places : List Place)
    → (begins_once x event ≡ true) × (pairs_rise x event ≡ true) × (passes_on x event places ≡ true) × (is_noted event ≡ true) × (settles x event ≡ true)
    → keeps_alone (outline_of x) event ≡ true
keeps_by x (Begin suffixes) places all = all.0
keeps_by x (Pairs cuts judged pairs) places all = both_hold x.begun (nat_le x.cuts cuts && nat_le x.sent judged && nat_le x.pairs pairs) all.0 all.1
keeps_by x (Pass judged) places all = both_hold x.begun (nat_eq judged x.sent) all.0
    (first_of_four (nat_eq judged x.sent) (nat_eq (length x.front) 0) (are_read (list_at x.waiting.lists x.waiting.passes) x.read judged (numbers_of places))
    (list_all (λ (place : Place). is_slot_within (x.waiting.passes + 2) x.waiting.queues place.slot) places) all.2)
keeps_by x (Robots note) places all = all.0
keeps_by x (Settle fronts outcomes) places all = both_hold x.begun
    ((nat_lt 0 (length outcomes) || one_rose x.fronts fronts) && are_distinct (settled_numbers outcomes) && none_fell x.fronts fronts) all.0
    (but_second (nat_lt 0 (length outcomes) || one_rose x.fronts fronts) (list_all (λ (d : ℕ × Outcome). has_number x.front d.0) outcomes) (are_distinct (settled_numbers outcomes))
    (none_fell x.fronts fronts) all.4)

pub legal_keeps : (x : Progress) (event : Event) (places : List Place) → broken x event places ≡ None → keeps_alone (outline_of x) event ≡ true
legal_keeps x event places none = keeps_by x event places
    (all_kept (begins_once x event) (pairs_rise x event) (passes_on x event places) (is_noted event) (settles x event) none)

pub refused_breaks : (x : Progress) (event : Event) (places : List Place) → keeps_alone (outline_of x) event ≡ false → broken x event places ≡ None → ⊥
refused_breaks x event places refused none = false≢true (sym refused ∙ legal_keeps x event places none)

-- ---- a legal log
none_refused : (x : Progress) (hs : List Happened) (first : List Event) (event : Event) (more : List Event) (from at : ℕ) (v reached after : LogHistory)
    → AreLegalAfter x hs → v.outline ≡ outline_of x → events_of hs ≡ first ++ event ∷ more → TakesEvents TakesAlone v (placed_events from first) reached
    → RefusesAlone reached at event after → ⊥
none_refused x [] [] event more from at v reached after legal outline are took refused = absurd (cc)
none_refused x [] (e ∷ first) event more from at v reached after legal outline are took refused = absurd (cc)
none_refused x (h ∷ hs) [] event more from at v reached after legal outline are took refused =
    let same : h.0 ≡ event = cc in
    refused_breaks x h.0 h.1 (ap (λ o. keeps_alone o h.0) (sym outline ∙ ap (λ (y : LogHistory). y.outline) (sym took)) ∙ ap (keeps_alone reached.outline) same ∙ refused.breaks) legal.0
none_refused x (h ∷ hs) (e ∷ first) event more from at v reached after legal outline are took refused =
    let same : h.0 ≡ e = cc in
    let rest : events_of hs ≡ first ++ event ∷ more = cc in
    none_refused (after_event x h.0 h.1) hs first event more (from + length (records_text (records_of e))) at took.0 reached after legal.1
    (took.1.outline ∙ ap (λ o. outline_after o e) outline ∙ ap (outline_after (outline_of x)) (sym same) ∙ sym (outline_more x h.0 h.1)) rest took.2 refused

pub legal_taken : (queues buckets from at : ℕ) (events : List Happened) (after : LogHistory) → AreLegal queues buckets events
    → RefusesOneEvent TakesAlone RefusesAlone (blank_history buckets) after from (events_of events) at → ⊥
legal_taken queues buckets from at events after legal one =
    none_refused (before_all queues buckets) events one.first one.event one.more from at (blank_history buckets) one.reached after legal refl one.among one.took one.refused
