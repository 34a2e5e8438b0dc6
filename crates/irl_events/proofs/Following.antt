-- How far a crawl has come by one event after another.
use Rattle.std.proofs.Common.{◌≡◌, ◌∙◌, ℕ, ◌+◌, ◌<◌, List, [], ◌∷◌, ◌++◌, length, get_or, take, refl, sym, ap}
use Rattle.std.proofs.lemmas.List.{map_more}
use Rattle.irl_events.specs.Courses.{happened}
use Rattle.irl_events.specs.Events.{Happened, Progress, after_event, after_events, before_all, progress}
use Rattle.irl_events.specs.Seen.{seen}
use Rattle.irl_events.specs.declared.plain.Happening.{Happening}

pub after_more : (x : Progress) (hs : List Happened) (h : Happened) → after_events x (hs ++ h ∷ []) ≡ after_event (after_events x hs) h.0 h.1
after_more x [] h = refl
after_more x (g ∷ hs) h = after_more (after_event x g.0 g.1) hs h

-- one more of a list of events
pub happened_more : (queues buckets : ℕ) (events : List Happening) (i : ℕ) (d : Happening) (was now : Progress) → i < length events → was ≡ progress queues buckets (happened (take i events))
    → now ≡ after_event was (seen (get_or events i d).event) (get_or events i d).places → now ≡ progress queues buckets (happened (take (i + 1) events))
happened_more queues buckets events i d was now lt before is =
    let h : Happening = get_or events i d in
    is ∙ ap (λ (x : Progress). after_event x (seen h.event) h.places) before
    ∙ sym (after_more (before_all queues buckets) (happened (take i events)) (seen h.event, h.places))
    ∙ ap (λ (hs : List Happened). progress queues buckets hs) (sym (map_more (λ (x : Happening). (seen x.event, x.places)) events i d lt))
