-- Lists and fates after one more place.
use Rattle.std.proofs.Common.{◌≡◌, ◌∙◌, ℕ, ◌+◌, ◌<◌, List, [], ◌∷◌, ◌++◌, length, get_or, take, sym, ap}
use Rattle.std.proofs.lemmas.List.{take_more, map_more, length-map}
use Rattle.irl_offer.specs.declared.place.Place.{Place}
use Rattle.irl_events.specs.Events.{numbers_of}
use Rattle.irl_events.specs.Queues.{put, delivered}
use Rattle.irl_events.proofs.QueueLemmas.{delivered-more}

pub deliver_step : (old now new : List (List ℕ)) (places : List Place) (i : ℕ) (d : Place) → i < length places → now ≡ delivered old (numbers_of (take i places)) (take i places)
    → new ≡ put now (get_or places i d).number (get_or places i d).slot → new ≡ delivered old (numbers_of (take (i + 1) places)) (take (i + 1) places)
deliver_step old now new places i d lt before is =
    let at : Place = get_or places i d in
    let so_far : List Place = take i places in
    is ∙ ap (λ (t : List (List ℕ)). put t at.number at.slot) before
    ∙ sym (delivered-more old (numbers_of so_far) so_far at.number at (sym (length-map so_far (λ (p : Place). p.number))))
    ∙ ap (λ (t : List Place). delivered old (numbers_of so_far ++ at.number ∷ []) t) (sym (take_more places i d lt))
    ∙ ap (λ (t : List ℕ). delivered old t (take (i + 1) places)) (sym (map_more (λ (p : Place). p.number) places i d lt))
