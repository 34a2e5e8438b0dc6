-- The keys that are reached, and what is due.
use Rattle.std.proofs.Common.{◌≡◌, ◌∙◌, ℕ, List, [], map, refl, sym, ap, subst}
use Rattle.std.specs.List.{Contains}
use Rattle.irl_key.specs.Key.{key_of}
use Rattle.irl_key.specs.Web.{host_of}
use Rattle.irl_offer.specs.declared.note.NoteState.{NoteState}
use Rattle.irl_offer.specs.declared.outcome.Outcome.{Outcome}
use Rattle.irl_offer.specs.Tuple.{Tuple}
use Rattle.irl_record.specs.Taped.{Taped, Records}
use Rattle.irl_reach.specs.Reached.{IsClosed, LeadsTo, Reached, Seed, Led}
use Rattle.irl_reach.specs.Tapes.{IsDue, due_by}
use Rattle.irl_reach.proofs.Chains.{one_note, some_note}
use Rattle.irl_reach.proofs.Finds.{found_record}
use Rattle.irl_reach.proofs.Members.{no_member}

module _ (tape : Taped) (agent : List ℕ) where
  pub some_due : (url : List ℕ) → (due : Outcome) × IsDue tape agent url due
  some_due url =
      let note = some_note tape (host_of url) in
      (due_by tape agent note.0 url, record { state = note.0; note = note.1; is = refl })

  pub one_due : (url : List ℕ) (one other : Outcome) → IsDue tape agent url one → IsDue tape agent url other → one ≡ other
  one_due url one other g h =
      g.is ∙ ap (λ (state : NoteState). due_by tape agent state url) (one_note tape (host_of url) g.state h.state g.note h.note) ∙ sym h.is

  pub reached_closed : IsClosed tape agent (Reached tape agent)
  reached_closed = record { seeds = λ url there. Seed url there; led = λ url offer there leads. Led url offer there leads }

  pub reached_least : (Holds : ℕ → Type 0) → IsClosed tape agent Holds → (key : ℕ) → Reached tape agent key → Holds key
  reached_least Holds closed _ (Seed url there) = closed.seeds url there
  reached_least Holds closed _ (Led url offer there leads) = closed.led url offer (reached_least Holds closed _ there) leads

  -- where no page is recorded no URL leads anywhere
  pub reached_alone : tape.records ≡ [] → (key : ℕ) → Reached tape agent key → (url : List ℕ) × Contains tape.seeds url × (key ≡ key_of url)
  reached_alone none key there = reached_least IsSeed (record { seeds = λ url c. (url, c, refl); led = λ url offer _ leads. absurd (unled url offer leads) }) key there
    where
      IsSeed : ℕ → Type 0
      IsSeed k = (url : List ℕ) × Contains tape.seeds url × (k ≡ key_of url)

      unled : (url : List ℕ) (offer : Tuple) → LeadsTo tape agent url offer → ⊥
      unled url offer leads = no_member url (subst (λ (rs : Records). Contains (map (λ r. r.0) rs) url) none (found_record tape url offer leads.found))
