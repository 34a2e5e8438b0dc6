-- What the fields of a core show.
use Rattle.std.proofs.Common.{◌≡◌, ◌∙◌, ℕ, zero, suc, ◌+◌, ◌-◌, List, [], ◌∷◌, map, length, get_or, sym, ap, subst, arith, refl, Bool, true, false, Option}
use Rattle.std.specs.Prelude.{◌&&◌, nat_eq, is_none, replicate}
use Rattle.std.specs.Cmp.Lexicographic.{pointwise}
use Rattle.std.proofs.lemmas.List.{length-map}
use Rattle.irl_offer.specs.Tuple.{Tuple}
use Rattle.irl_offer.specs.declared.outcome.Outcome.{Outcome}
use Rattle.irl_offer.specs.declared.place.Place.{Place}
use Rattle.irl_model.specs.Book.{gone, judged, lengths_of, list_lengths, judged_cut}
use Rattle.irl_events.specs.Events.{Event, Pass, Pairs, Progress, numbers_of, after_event}
use Rattle.irl_events.specs.Legal.{broken}
use Rattle.irl_base.specs.Lists.{items_of}
use Rattle.irl_model.proofs.PlainLemmas.{no_numbers}
use Rattle.irl_model.proofs.Stretches.{below_long, last_above}
use Rattle.irl_events.specs.Seen.{HasFronts}
use Rattle.irl_events.specs.declared.event.Event.{Event as ToldEvent}
use Rattle.irl_core.specs.declared.pure.Core.TheInside.{Inside}
use Rattle.irl_core.specs.Steps.{CoreState, durable_in, pending_in, judged_in, course, broken_in_core, may_pass, may_settle, settle_event, unread, url_numbers}
use Rattle.irl_core.specs.Stores.{AreEquallyFar}
use Rattle.irl_core.specs.Kept.{shown, IsKept}
use Rattle.irl_core.proofs.Stores.{alike_other, alike_pass, alike_settle}

-- ---- lengths
zero_lengths : (n : ℕ) (lists : List (List Tuple)) → length lists ≡ n → list_lengths (replicate n 0) lists ≡ map length lists
zero_lengths zero [] e = refl
zero_lengths zero (list ∷ lists) e = absurd (omega (arith, e))
zero_lengths (suc n) [] e = absurd (omega (arith, e))
zero_lengths (suc n) (list ∷ lists) e =
    let same : 0 + length list ≡ length list = omega arith in
    ap (λ k. k ∷ list_lengths (replicate n 0) lists) same ∙ ap (λ (ks : List ℕ). length list ∷ ks) (zero_lengths n lists (omega (arith, e)))

lengths_at : (lists : List (List Tuple)) (b : ℕ) → get_or (map length lists) b 0 ≡ length (get_or lists b [])
lengths_at [] b = refl
lengths_at (list ∷ lists) zero = refl
lengths_at (list ∷ lists) (suc b) = lengths_at lists b

pub lengths_are : (a : Inside) → IsKept a → lengths_of (shown a).urls ≡ map length (items_of a.lists.items)
lengths_are a k = zero_lengths a.settings.buckets (items_of a.lists.items) k.core.urls.lists

pub lengths_long : (a : Inside) → IsKept a → length (lengths_of (shown a).urls) ≡ a.settings.buckets
lengths_long a k = ap length (lengths_are a k) ∙ length-map (items_of a.lists.items) length ∙ k.core.urls.lists

pub durable_is_shown : (a : Inside) (b : ℕ) → IsKept a → durable_in (shown a) b ≡ length (get_or (items_of a.lists.items) b [])
durable_is_shown a b k = ap (λ (ns : List ℕ). get_or ns b 0) (lengths_are a k) ∙ lengths_at (items_of a.lists.items) b

pub pending_is_shown : (a : Inside) (b : ℕ) → IsKept a → pending_in (shown a) b ≡ length (get_or (items_of a.lists.items) b []) - get_or a.cut.items b 0
pending_is_shown a b k =
    ap (λ n. n - get_or (judged_cut (shown a).urls) b 0) (durable_is_shown a b k)
    ∙ ap (λ (ns : List ℕ). length (get_or (items_of a.lists.items) b []) - get_or ns b 0) (sym k.cut)

-- the last cut has as many numbers as there are lists
pub cut_is_long : (a : Inside) → IsKept a → length (map length (items_of a.lists.items)) ≡ length a.cut.items
cut_is_long a k =
    let book = (shown a).urls in
    let above = last_above book.firsts (lengths_of book) book.cuts k.core.urls.cuts in
    let same : length (judged_cut book) ≡ length (lengths_of book) = below_long (judged_cut book) (lengths_of book) above.1 in
    ap length (sym (lengths_are a k)) ∙ sym same ∙ ap length (sym k.cut)

-- ---- fates
-- a core's fates have as many fronts as there are buckets
pub fronts_long : (a : Inside) → IsKept a → length a.fates.fronts ≡ a.settings.buckets
fronts_long a k =
    let lengths = lengths_of (shown a).urls in
    ap length k.fates.alike.fronts ∙ below_long (course (shown a)).fronts lengths k.core.fronts ∙ lengths_long a k

pub has_fronts : (a : Inside) (x : CoreState) (event : ToldEvent) → IsKept a → shown a ≡ x → HasFronts x.settings.buckets event → HasFronts (length a.fates.fronts) event
has_fronts a x event k view has =
    subst (λ (n : ℕ). HasFronts n event) (sym (fronts_long a k ∙ ap (λ (y : CoreState). y.settings.buckets) view)) has

-- what a pass is told to the fates with
abbrev pub told_sent : Progress → ℕ → Progress
told_sent f judged = after_event f (Pairs 0 judged 0) []

pub told_alike : (f x : Progress) (judged : ℕ) → AreEquallyFar f x → AreEquallyFar (told_sent f judged) x
told_alike f x judged a = alike_other f x (Pairs 0 judged 0) [] refl a

-- a settle breaks a rule of the fates where it breaks one in the core
pub settle_is : (a : Inside) (x : CoreState) (event : Event) (outcomes : List (ℕ × Outcome)) (places : List Place) → IsKept a → shown a ≡ x → event ≡ settle_event x outcomes → places ≡ []
    → is_none (broken a.fates event places) ≡ may_settle x outcomes
settle_is a x event outcomes places k view is none =
    ap (λ (ps : List Place). is_none (broken a.fates event ps)) none
    ∙ ap (λ (e : Event). is_none (broken a.fates e [])) is
    ∙ ap (λ (o : Option ℕ). is_none o) (alike_settle a.fates (course (shown a)) (judged_in (shown a)) (lengths_of x.urls) outcomes k.fates.alike k.fates.begun)
    ∙ ap (λ (y : CoreState). is_none (broken_in_core (course y) (judged_in y) (settle_event x outcomes) [])) view

-- ---- the third rule
and_true : (b c : Bool) → c ≡ true → b ≡ (b && c)
and_true true c e = sym e
and_true false c e = refl

pub took_is : (a : Inside) (x : CoreState) (q : ℕ) (places : List Place) (fates : Progress) → IsKept a → shown a ≡ x → q ≡ judged_in x → fates ≡ told_sent a.fates q
    → pointwise nat_eq (unread x (numbers_of places)) (unread x (url_numbers x)) ≡ true → is_none (broken fates (Pass q) places) ≡ may_pass x places
took_is a x q places fates k view number fates_is all =
    ap (λ (f : Progress). is_none (broken f (Pass q) places)) fates_is
    ∙ ap (λ (o : Option ℕ). is_none o) (alike_pass (told_sent a.fates q) (course (shown a)) q places (told_alike a.fates (course (shown a)) q k.fates.alike) refl refl)
    ∙ ap (λ (y : CoreState). is_none (broken_in_core (course y) q (Pass q) places)) view
    ∙ ap (λ (n : ℕ). is_none (broken_in_core (course x) n (Pass n) places)) number
    ∙ and_true (is_none (broken_in_core (course x) (judged_in x) (Pass (judged_in x)) places)) (pointwise nat_eq (unread x (numbers_of places)) (unread x (url_numbers x))) all

-- how many offers are judged
pub number_is : (a : Inside) (x : CoreState) (n : ℕ) → shown a ≡ x → n ≡ length (judged x.urls) → n ≡ judged_in x
number_is a x n view is =
    let none : gone x.urls ≡ 0 = ap (λ (y : CoreState). gone y.urls) (sym view) ∙ no_numbers a.settings.buckets in
    omega arith
