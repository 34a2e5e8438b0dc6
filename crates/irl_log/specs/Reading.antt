-- What is read behind a payload's tag.
use Rattle.std.specs.Prelude.{◌≡◌, ℕ, ◌*◌, ◌<◌, ◌≤◌, ◌^◌, List, [], ◌∷◌, ◌++◌, length, Option, None, Some}
use Rattle.std.specs.Int.{w16, w32, w64, to_le_bytes}
use Rattle.irl_base.specs.Limits.{max_text, max_robots}
use Rattle.irl_events.specs.Events.{Event as Seen}
use Rattle.irl_events.specs.Seen.{seen}
use Rattle.irl_events.specs.declared.event.Event.{Event}
use Rattle.irl_log.specs.Form.{HasForm, IsWord}
use Rattle.irl_log.specs.Spelling.{rest_of, tag_of}

-- these are the bytes behind this tag in the payload of an event that keeps what an event keeps by itself
pub record IsBehind (buckets tag : ℕ) (bytes : List ℕ) (event : Seen) : Type 0 where
  pub form : HasForm buckets event
  pub is_tag : tag ≡ tag_of event
  pub are_bytes : bytes ≡ rest_of event

-- what is found behind a tag: the event of these bytes, or none where they are of none
abbrev pub FindsBehind : ℕ → ℕ → List ℕ → Option Event → Type 0
FindsBehind buckets tag bytes None = (event : Seen) → IsBehind buckets tag bytes event → ⊥
FindsBehind buckets tag bytes (Some event) = IsBehind buckets tag bytes (seen event)

-- the parts of a note's bytes
pub record AreNoteParts (bytes : List ℕ) (when state : ℕ) (host text : List ℕ) : Type 0 where
  pub are_bytes : bytes ≡ to_le_bytes w64 when ++ state ∷ to_le_bytes w16 (length host) ++ host ++ text
  pub word : IsWord when
  pub low : state ≤ 2
  pub some : 1 ≤ length host
  pub host_limit : length host ≤ max_text
  pub text_limit : length text ≤ max_robots
  -- only rules have a text
  pub rules : 1 ≤ state → text ≡ []

-- the parts of a Settle's bytes: a count, and the bytes of the fronts and of so many outcomes
pub record AreSettleParts (buckets : ℕ) (bytes fronts done : List ℕ) : Type 0 where
  pub count : ℕ
  pub word : count < 2 ^ 32
  pub are_bytes : bytes ≡ to_le_bytes w32 count ++ fronts ++ done
  pub fronts_are : length fronts ≡ 8 * buckets
  pub done_are : length done ≡ 13 * count
