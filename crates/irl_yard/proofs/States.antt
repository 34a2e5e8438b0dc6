-- One set of files has one state, and a state is a front of what becomes of it.
use Rattle.std.proofs.Common.{◌≡◌, ◌∙◌, inl, inr, ℕ, List, [], ◌∷◌, Option, None, Some, refl, sym, ap, subst}
use Rattle.irl_offer.specs.declared.settings.Asked.{Asked}
use Rattle.irl_offer.specs.declared.settings.Settings.{Settings}
use Rattle.irl_offer.specs.Tuple.{Tuple}
use Rattle.irl_offer.specs.declared.place.Place.{Place}
use Rattle.irl_model.specs.Book.{Book, IsFront, IsPrefixOf, judged}
use Rattle.irl_events.specs.Events.{Event, Happened}
use Rattle.irl_events.specs.State.{State, IsFrontState}
use Rattle.irl_model.proofs.FrontLaws.{prefix_same, prefix_both, front_same, front_both, judged_front, flushed_front, merged_front}
use Rattle.irl_disk.specs.Disk.{Files}
use Rattle.irl_journal.proofs.Lists.{one_list}
use Rattle.irl_bay.specs.Standing.{Stands}
use Rattle.irl_bay.proofs.OneBook.{one_book}
use Rattle.irl_head.specs.StoreFiles.{head_file, urls_base}
use Rattle.irl_head.specs.Head.{head_bytes}
use Rattle.irl_yard.specs.Adding.{with_event}
use Rattle.irl_yard.specs.Holding.{with_offers, with_cut}
use Rattle.irl_yard.specs.Opening.{entered_state}
use Rattle.irl_head.specs.Opening.{IsBlank}
use Rattle.irl_yard.specs.Standing.{IsMade, IsRest, HasState}
use Rattle.irl_head.proofs.HeadBytes.{one_settings}
use Rattle.irl_yard.proofs.ByKind.{one_rest}

-- ---- one state
-- two lists of one payload
one_payload : (p q : List ℕ) → p ∷ [] ≡ q ∷ [] → p ≡ q
one_payload p q same = cc

pub no_payload : (p : List ℕ) → [] ≡ p ∷ [] → ⊥
no_payload p same = cc

same_parts : (settings : Option Settings) (urls pairs : Book) (events : List Happened) (state : State) → settings ≡ state.settings → urls ≡ state.urls → pairs ≡ state.pairs → events ≡ state.events
    → record { settings = settings; urls = urls; pairs = pairs; events = events } ≡ state
same_parts settings urls pairs events state p q r s = rw (p, q, r, s) refl

-- a store that wasn't made is none that was
blank_or_made : (settings : Settings) (state : State) (files : Files) → IsBlank files → IsMade settings state files → ⊥
blank_or_made settings state files blank made = no_payload (head_bytes settings) (one_list (files head_file) [] _ blank.head made.head)

made_alike : (s t : Settings) (x y : State) (files : Files) → IsMade s x files → IsMade t y files → x ≡ y
made_alike s t x y files for_x for_y =
    let bytes : head_bytes s ≡ head_bytes t = one_payload _ _ (one_list (files head_file) _ _ for_x.head for_y.head) in
    let same : s ≡ t = one_settings s t for_x.valid for_y.valid bytes in
    let urls : x.urls ≡ y.urls = one_book urls_base s x.urls y.urls files for_x.urls (subst (λ (c : Settings). Stands urls_base c y.urls files) (sym same) for_y.urls) in
    let other : IsMade s y files = subst (λ (c : Settings). IsMade c y files) (sym same) for_y in
    let rest = one_rest s.kind s x.urls x.pairs y.pairs x.events y.events files for_x.legal for_x.rest
    (subst (λ (book : Book). IsRest s.kind s book y.pairs y.events) (sym urls) other.legal) other.rest in
    same_parts x.settings x.urls x.pairs x.events y (for_x.settings_are ∙ ap (λ (c : Settings). Some c) same ∙ sym for_y.settings_are) urls rest.0 rest.1

pub one_state : (x y : State) (files : Files) → HasState x files → HasState y files → x ≡ y
one_state x y files (inl a) (inl b) = a.1 ∙ sym b.1
one_state x y files (inl a) (inr b) = absurd (blank_or_made b.0 y files a.0 b.1)
one_state x y files (inr a) (inl b) = absurd (blank_or_made a.0 x files b.0 a.1)
one_state x y files (inr a) (inr b) = made_alike a.0 b.0 x y files a.1 b.1

-- ---- fronts
pub state_same : (state : State) → IsFrontState state state
state_same state = inr (record { settings = refl; urls = front_same state.urls; pairs = front_same state.pairs; events = prefix_same state.events })

pub state_both : (x y z : State) → IsFrontState x y → IsFrontState y z → IsFrontState x z
state_both x y z (inl none) second = inl none
state_both x y z (inr first) (inl none) = inl (sym first.settings ∙ none)
state_both x y z (inr first) (inr second) = inr (record {
  settings = second.settings ∙ first.settings;
  urls = front_both x.urls y.urls z.urls first.urls second.urls;
  pairs = front_both x.pairs y.pairs z.pairs first.pairs second.pairs;
  events = prefix_both x.events y.events z.events first.events second.events;
})

pub offers_front : (b : ℕ) (news : List Tuple) (state : State) → IsFrontState state (with_offers b news state)
offers_front b news state = inr (record { settings = refl; urls = flushed_front b news state.urls; pairs = front_same state.pairs; events = prefix_same state.events })

pub cut_front : (state : State) → IsFrontState state (with_cut state)
cut_front state = inr (record { settings = refl; urls = merged_front state.urls; pairs = front_same state.pairs; events = prefix_same state.events })

pub event_front : (event : Event) (places : List Place) (state : State) → IsFrontState state (with_event event places state)
event_front event places state = inr (record { settings = refl; urls = front_same state.urls; pairs = front_same state.pairs; events = ((event, places) ∷ [], refl) })

pub pairs_front : (state : State) (book : Book) → IsFront state.pairs book → IsFrontState state (record state { pairs = book })
pairs_front state book front = inr (record { settings = refl; urls = front_same state.urls; pairs = front; events = prefix_same state.events })

entered_of : (asked : Asked) (settings : Option Settings) (urls pairs : Book) (events : List Happened)
    → IsFrontState (record { settings = settings; urls = urls; pairs = pairs; events = events }) (entered_state asked (record { settings = settings; urls = urls; pairs = pairs; events = events }))
entered_of asked None urls pairs events = inl refl
entered_of asked (Some settings) urls pairs events = state_same (record { settings = Some settings; urls = urls; pairs = pairs; events = events })

pub entered_front : (asked : Asked) (state : State) → IsFrontState state (entered_state asked state)
entered_front asked state = entered_of asked state.settings state.urls state.pairs state.events

-- ---- what was judged stays
pub no_settings : (settings : Settings) → Some settings ≡ None → ⊥
no_settings settings same = cc

pub judged_stays : (x y : State) (files : Files) → HasState x files → IsFrontState x y → IsPrefixOf (judged x.urls) (judged y.urls)
judged_stays x y files (inl blank) front = subst (λ (state : State). IsPrefixOf (judged state.urls) (judged y.urls)) (sym blank.1) (judged y.urls, refl)
judged_stays x y files (inr made) (inl none) = absurd (no_settings made.0 (sym made.1.settings_are ∙ none))
judged_stays x y files (inr made) (inr fronts) = judged_front x.urls y.urls made.1.urls.book_is.is_book fronts.urls
