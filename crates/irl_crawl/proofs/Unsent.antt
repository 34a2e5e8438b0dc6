-- States between which no pairs were sent: offers, notes and outcomes send none.
use Rattle.std.proofs.Common.{◌≡◌, ◌∙◌, ℕ, List, [], ◌∷◌, ◌++◌, refl, ap}
use Rattle.std.specs.List.{AllByRecursion}
use Rattle.irl_events.specs.Events.{Event, Settle, Happened}
use Rattle.irl_events.specs.State.{State}
use Rattle.irl_ledger.specs.Settling.{outcomes_of}
use Rattle.irl_model.specs.Book.{Book, lengths_of}
use Rattle.irl_offer.specs.declared.done.Done.{Done}
use Rattle.irl_offer.specs.declared.note.Note.{Note}
use Rattle.irl_offer.specs.declared.settings.Settings.{Settings}
use Rattle.irl_yard.specs.Adding.{notes_happened, with_event, with_notes}
use Rattle.irl_yard.specs.Standing.{with_urls}
use Rattle.irl_crawl.specs.Settling.{settled_state}
use Rattle.irl_crawl.proofs.Sent.{OweAlike, TellsNoPairs, owe_from, sent_by, sent_same}

pub record SendsNone (settings : Settings) (x y : State) : Type 0 where
  pub pairs : y.pairs ≡ x.pairs
  pub sent : sent_by settings y ≡ sent_by settings x

-- so both are to have the same pairs
pub owes : (suffixes : List ℕ) (settings : Settings) (x y : State) (urls : Book) → SendsNone settings x y → OweAlike suffixes settings x y urls
owes suffixes settings x y urls none = owe_from suffixes settings x y none.pairs none.sent urls

module _ (settings : Settings) where
  pub unsent_both : (x y z : State) → SendsNone settings x y → SendsNone settings y z → SendsNone settings x z
  unsent_both x y z one two = record { pairs = two.pairs ∙ one.pairs; sent = two.sent ∙ one.sent }

  unsent_events : (x y : State) (more : List Happened) → y.pairs ≡ x.pairs → y.events ≡ x.events ++ more → AllByRecursion (λ (h : Happened). TellsNoPairs h.0) more → SendsNone settings x y
  unsent_events x y more pairs events tells = record { pairs = pairs; sent = sent_same settings x y more events tells }

  -- offers,
  pub unsent_offered : (x y : State) → y ≡ with_urls y.urls x → SendsNone settings x y
  unsent_offered x y is = record { pairs = ap (λ (s : State). s.pairs) is; sent = ap (λ (s : State). sent_by settings s) is }

  -- notes,
  notes_tell : (notes : List Note) → AllByRecursion (λ (h : Happened). TellsNoPairs h.0) (notes_happened notes)
  notes_tell [] = tt
  notes_tell (note ∷ notes) = (tt, notes_tell notes)

  pub unsent_noted : (notes : List Note) (x : State) → SendsNone settings x (with_notes notes x)
  unsent_noted notes x = unsent_events x (with_notes notes x) (notes_happened notes) refl refl (notes_tell notes)

  -- and outcomes
  pub unsent_settled : (notes : List Note) (done : List Done) (x : State) → SendsNone settings x (settled_state notes done x)
  unsent_settled notes done x =
      let event : Event = Settle (lengths_of x.urls) (outcomes_of done) in
      unsent_both x (with_notes notes x) (settled_state notes done x) (unsent_noted notes x)
      (unsent_events (with_notes notes x) (with_event event [] (with_notes notes x)) ((event, []) ∷ []) refl refl (tt, tt))
