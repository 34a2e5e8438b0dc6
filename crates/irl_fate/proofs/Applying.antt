-- Events that are applied.
use Rattle.std.proofs.Common.{◌≡◌, ◌∙◌, ℕ, List, [], ◌∷◌, ◌++◌, length, Bool, sym, ap}
use Rattle.std.specs.Prelude.{◌&&◌, ◌||◌, nat_lt, None}
use Rattle.std.specs.List.{list_all}
use Rattle.irl_offer.specs.declared.outcome.Outcome.{Outcome}
use Rattle.irl_offer.specs.declared.place.Place.{Place}
use Rattle.irl_events.specs.Events.{Event as SeenEvent, Happened, Progress, after_event, after_events, before_all, progress, has_number}
use Rattle.irl_events.specs.Legal.{AreLegal, AreLegalAfter, broken, settles, one_rose, none_fell, are_distinct}
use Rattle.irl_events.specs.declared.event.Event.{Event}
use Rattle.irl_events.specs.declared.event.Event.TheVariants.{Settle}
use Rattle.irl_fate.specs.declared.fate.Fate.{Fate}
use Rattle.irl_fate.specs.declared.fates.Fates.TheInside.{Inside}
use Rattle.irl_fate.specs.Kept.{shown, IsKept, fate_in, is_front}
use Rattle.irl_events.specs.Seen.{seen}
use Rattle.irl_events.proofs.Following.{after_more}
use Rattle.irl_fate.proofs.Agreeing.{in_front}
use Rattle.irl_fate.proofs.Marking.{numbers_done}
use Rattle.irl_fate.proofs.Settling.{all_same}

-- one more event
pub progress_more : (x y : Progress) (e : SeenEvent) (places : List Place) → y ≡ after_event x e places → (queues buckets : ℕ) (events : List Happened) → x ≡ progress queues buckets events
    → y ≡ progress queues buckets (events ++ (e, places) ∷ [])
progress_more x y e places is queues buckets events from =
    is ∙ ap (λ (z : Progress). after_event z e places) from ∙ sym (after_more (before_all queues buckets) events (e, places))

legal_more : (x : Progress) (hs : List Happened) (h : Happened) → AreLegalAfter x hs → broken (after_events x hs) h.0 h.1 ≡ None → AreLegalAfter x (hs ++ h ∷ [])
legal_more x [] h legal none = (none, tt)
legal_more x (g ∷ hs) h legal none = (legal.0, legal_more (after_event x g.0 g.1) hs h legal.1 none)

-- one more event that breaks no rule
pub lawful_more : (x : Progress) (e : SeenEvent) (places : List Place) → broken x e places ≡ None → (queues buckets : ℕ) (events : List Happened) → x ≡ progress queues buckets events
    → AreLegal queues buckets events → AreLegal queues buckets (events ++ (e, places) ∷ [])
lawful_more x e places none queues buckets events from legal =
    legal_more (before_all queues buckets) events (e, places) legal (ap (λ (y : Progress). broken y e places) (sym from) ∙ none)

-- the fifth rule by the fields
pub settles_by : (a : Inside) (x : Progress) (event : Event) (fronts : List ℕ) (done : List (ℕ × Outcome)) → IsKept a → shown a ≡ x → event ≡ Settle fronts done
    → (r differ : Bool) (entries : List (ℕ × Fate)) (old told : List ℕ) (outcomes : List (ℕ × Outcome)) → entries ≡ a.fates.items
    → old ≡ a.fronts.items → told ≡ fronts → outcomes ≡ done → differ ≡ are_distinct (numbers_done done)
    → r ≡ ((nat_lt 0 (length outcomes) || one_rose old told) && list_all (λ d. is_front (fate_in entries d.0)) outcomes && differ && none_fell old told) → r ≡ settles x (seen event)
settles_by a x event fronts done k view is r differ entries old told outcomes e0 e1 e2 e3 e4 e5 =
    let front : Bool = list_all (λ d. has_number (shown a).front d.0) done in
    e5
    ∙ ap (λ (t : List (ℕ × Fate)). (nat_lt 0 (length outcomes) || one_rose old told) && list_all (λ d. is_front (fate_in t d.0)) outcomes && differ && none_fell old told) e0
    ∙ ap (λ (t : List ℕ). (nat_lt 0 (length outcomes) || one_rose t told) && list_all (λ d. is_front (fate_in a.fates.items d.0)) outcomes && differ && none_fell t told) e1
    ∙ ap (λ (t : List ℕ). (nat_lt 0 (length outcomes) || one_rose a.fronts.items t) && list_all (λ d. is_front (fate_in a.fates.items d.0)) outcomes && differ && none_fell a.fronts.items t) e2
    ∙ ap (λ (t : List (ℕ × Outcome)). (nat_lt 0 (length t) || one_rose a.fronts.items fronts) && list_all (λ d. is_front (fate_in a.fates.items d.0)) t && differ && none_fell a.fronts.items fronts)
    e3
    ∙ ap (λ b. (nat_lt 0 (length done) || one_rose a.fronts.items fronts) && b && differ && none_fell a.fronts.items fronts)
    (all_same (λ (d : ℕ × Outcome). is_front (fate_in a.fates.items d.0)) (λ (d : ℕ × Outcome). has_number (shown a).front d.0) done (λ d. sym (in_front k.agree d.0)))
    ∙ ap (λ b. (nat_lt 0 (length done) || one_rose a.fronts.items fronts) && front && b && none_fell a.fronts.items fronts) e4
    ∙ ap (λ (e : Event). settles (shown a) (seen e)) (sym is)
    ∙ ap (λ (y : Progress). settles y (seen event)) view
