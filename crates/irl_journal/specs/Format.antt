-- A journal's file. A record is a gate byte, the length of its payload as a little-endian u32, the payload, and the
-- next gate. A gate of `A5` is open, any other is closed, and a record counts where its gate is open. What lies past
-- the first closed gate means nothing. A file of at most one byte is an empty journal, whatever the byte is.
use Rattle.std.specs.Prelude.{◌≡◌, ◌≢◌, ◌⊎◌, ℕ, ◌+◌, ◌<◌, ◌≤◌, List, [], ◌∷◌, ◌++◌, length, drop}
use Rattle.std.specs.List.{flat_map, AllByRecursion}
use Rattle.std.specs.Int.{w32, to_le_bytes}

-- the open gate
abbrev pub open_gate : ℕ
open_gate = 165

-- what stands behind a record's gate: the payload's length, and the payload
abbrev pub body_text : List ℕ → List ℕ
body_text payload = to_le_bytes w32 (length payload) ++ payload

-- an open record of a payload
abbrev pub record_text : List ℕ → List ℕ
record_text payload = open_gate ∷ body_text payload

-- open records of these payloads
abbrev pub records_text : List (List ℕ) → List ℕ
records_text payloads = flat_map record_text payloads

-- what an append of them writes behind the closed gate: they without the first one's gate, and a closed gate
abbrev pub appended_text : List (List ℕ) → List ℕ
appended_text payloads = drop 1 (records_text payloads) ++ 0 ∷ []

-- the most bytes of a payload
abbrev pub max_payload : ℕ
max_payload = 16777216

-- a payload that a record may have
abbrev pub IsPayload : List ℕ → Type 0
IsPayload payload = length payload ≤ max_payload

-- the file has these records: they stand open, and behind them stands a closed gate
pub record HasRecords (file : List ℕ) (payloads : List (List ℕ)) : Type 0 where
  pub gate : ℕ
  pub rest : List ℕ
  pub bytes : file ≡ records_text payloads ++ gate ∷ rest
  pub closed : gate ≢ open_gate
  pub each : AllByRecursion IsPayload payloads

-- the records that a file stands for
abbrev pub StandsFor : List ℕ → List (List ℕ) → Type 0
StandsFor file payloads = ((length file ≤ 1) × (payloads ≡ [])) ⊎ HasRecords file payloads

-- no whole record, with the gate behind it, begins the bytes
abbrev pub HasNoRecord : List ℕ → Type 0
HasNoRecord bytes = (payload rest : List ℕ) (gate : ℕ) → IsPayload payload → bytes
    ≡ open_gate ∷ body_text payload ++ gate ∷ rest → ⊥

-- A whole open record of this payload stands at this place, and ends where the journal does or before.
pub record StandsAt (at end : ℕ) (file payload : List ℕ) : Type 0 where
  pub fits : IsPayload payload
  pub within : at + length (record_text payload) ≤ end
  pub rest : List ℕ
  pub bytes : drop at file ≡ record_text payload ++ rest

-- Behind open records a gate at this place is open, and its record passes the file's end or the limit of a payload.
pub record IsBrokenAt (file : List ℕ) (at : ℕ) : Type 0 where
  pub payloads : List (List ℕ)
  pub rest : List ℕ
  pub long : 1 < length file
  pub bytes : file ≡ records_text payloads ++ open_gate ∷ rest
  pub each : AllByRecursion IsPayload payloads
  pub place : at ≡ length (records_text payloads)
  pub broken : HasNoRecord (open_gate ∷ rest)

-- payloads with the places of their gates, the first of which is here
abbrev pub placed_from : ℕ → List (List ℕ) → List (ℕ × List ℕ)
placed_from at [] = []
placed_from at (payload ∷ payloads) = (at, payload) ∷ placed_from (at + length (record_text payload)) payloads
