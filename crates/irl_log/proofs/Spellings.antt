-- How long payloads are, and how they are put together.
use Rattle.std.proofs.Common.{◌≡◌, ℕ, ◌+◌, ◌*◌, List, [], ◌∷◌, ◌++◌, length, refl, arith, append_assoc, length-append}
use Rattle.std.specs.List.{flat_map}
use Rattle.std.specs.Int.{w64, to_le_bytes}
use Rattle.irl_offer.specs.declared.note.Note.{Note}
use Rattle.irl_offer.specs.declared.outcome.Outcome.{Outcome}
use Rattle.irl_events.specs.Events.{Settle}
use Rattle.irl_events.specs.Legal.{text_of}
use Rattle.irl_log.specs.Spelling.{done_bytes, note_bytes, rest_of}
use Rattle.irl_log.proofs.Pieces.{length-pieces}

pub length-words : (ns : List ℕ) → length (flat_map (to_le_bytes w64) ns) ≡ 8 * length ns
length-words ns = length-pieces (to_le_bytes w64) 8 ns (λ n. refl)

pub length-dones : (done : List (ℕ × Outcome)) → length (flat_map done_bytes done) ≡ 13 * length done
length-dones done = length-pieces done_bytes 13 done (λ d. refl)

pub length-note : (note : Note) → length (note_bytes note) ≡ 11 + (length note.host + length (text_of note.state))
length-note note = omega (arith, length-append note.host (text_of note.state))

pub length-settle : (fronts : List ℕ) (done : List (ℕ × Outcome)) → length (rest_of (Settle fronts done)) ≡ 4 + (8 * length fronts + 13 * length done)
length-settle fronts done = omega (arith, length-words fronts, length-dones done, length-append (flat_map (to_le_bytes w64) fronts) (flat_map done_bytes done))

-- ---- parts that are put one behind the other
pub done_put : (before number : List ℕ) (kind kind' : ℕ) (detail detail' : List ℕ) → kind ≡ kind' → detail ≡ detail'
    → ((before ++ number) ++ kind ∷ []) ++ detail ≡ before ++ (number ++ kind' ∷ detail')
done_put before number kind kind' detail detail' p q = rw (p, q) (simp append_assoc)

pub note_put : (before when : List ℕ) (state state' : ℕ) (len len' host host' text text' : List ℕ) → state ≡ state' → len ≡ len' → host ≡ host' → text ≡ text'
    → ((((before ++ when) ++ state ∷ []) ++ len) ++ host) ++ text ≡ before ++ (when ++ state' ∷ (len' ++ (host' ++ text')))
note_put before when state state' len len' host host' text text' p q r s = rw (p, q, r, s) (simp append_assoc)
