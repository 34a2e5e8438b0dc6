-- Handing a journal's records to a visitor, one after the other.
use Rattle.std.specs.Prelude.{◌≡◌, ◌⊎◌, ◌≢◌, ℕ, ◌+◌, ◌<◌, ◌≤◌, List, [], ◌∷◌, ◌++◌, length, take, drop, Bool, true, false}
use Rattle.std.specs.List.{AllByRecursion}
use Rattle.irl_disk.specs.Disk.{Files}
use Rattle.irl_journal.specs.Format.{records_text, body_text, open_gate, placed_from, IsPayload, HasNoRecord, IsBrokenAt, StandsFor}
use Rattle.irl_journal.specs.Appending.{Tail, Ends, IsOpen}

-- the visitor took these records in order, each at its place
abbrev pub TakesAll : {V : Type 0} → (V → ℕ → List ℕ → V → Type 0) → V → List (ℕ × List ℕ) → V → Type 0
TakesAll {V} takes old [] new = new ≡ old
TakesAll {V} takes old (record_ ∷ records) new = (mid : V) × takes old record_.0 record_.1 mid
    × TakesAll takes mid records new

-- Whatever the file has: the visitor took some records whose first gate stands at `from`, and up to `end`.
pub record TookUpTo {V : Type 0} (takes : V → ℕ → List ℕ → V → Type 0) (old new : V) (from end : ℕ) : Type 0 where
  pub payloads : List (List ℕ)
  pub place : end ≡ from + length (records_text payloads)
  pub took : TakesAll takes old (placed_from from payloads) new

-- the visitor took the records before this place, and refuses the one there; `after` is the visitor afterwards
pub record IsRefusedAt {V : Type 0} (takes refuses : V → ℕ → List ℕ → V → Type 0) (visitor after : V) (file : List ℕ)
    (at : ℕ) : Type 0 where
  pub payloads : List (List ℕ)
  pub payload : List ℕ
  pub gate : ℕ
  pub rest : List ℕ
  pub bytes : file ≡ records_text payloads ++ open_gate ∷ body_text payload ++ gate ∷ rest
  pub each : AllByRecursion IsPayload payloads
  pub fits : IsPayload payload
  pub place : at ≡ length (records_text payloads)
  pub reached : V
  pub took : TakesAll takes visitor (placed_from 0 payloads) reached
  pub refused : refuses reached at payload after

-- the visitor took all records before the broken one at this place; `after` is the visitor afterwards
pub record IsBrokenFor {V : Type 0} (takes : V → ℕ → List ℕ → V → Type 0) (visitor after : V) (file : List ℕ) (at : ℕ) :
    Type 0 where
  pub broken : IsBrokenAt file at
  pub took : TakesAll takes visitor (placed_from 0 broken.payloads) after

-- the visitor took the first of these records and refuses the next one, which stands at this place; `after` is the
-- visitor afterwards
pub record RefusesOneOf {V : Type 0} (takes refuses : V → ℕ → List ℕ → V → Type 0) (visitor after : V)
    (payloads : List (List ℕ)) (at : ℕ) : Type 0 where
  pub first : List (List ℕ)
  pub payload : List ℕ
  pub more : List (List ℕ)
  pub among : payloads ≡ first ++ payload ∷ more
  pub place : at ≡ length (records_text first)
  pub reached : V
  pub took : TakesAll takes visitor (placed_from 0 first) reached
  pub refused : refuses reached at payload after

-- of records whose first gate stands at `from`: the visitor took the first of them and refuses the next one, which
-- stands at this place; `after` is the visitor afterwards
pub record RefusesOneFrom {V : Type 0} (takes refuses : V → ℕ → List ℕ → V → Type 0) (visitor after : V) (from : ℕ)
    (payloads : List (List ℕ)) (at : ℕ) : Type 0 where
  pub first : List (List ℕ)
  pub payload : List ℕ
  pub more : List (List ℕ)
  pub among : payloads ≡ first ++ payload ∷ more
  pub place : at ≡ from + length (records_text first)
  pub reached : V
  pub took : TakesAll takes visitor (placed_from from first) reached
  pub refused : refuses reached at payload after

-- The first n of the bytes are open records that the visitor took; behind them stands a closed gate, or no whole
-- record. Of bytes that there are they leave at least the next gate.
pub record HandsOver {V : Type 0} (takes : V → ℕ → List ℕ → V → Type 0) (old new : V) (at n : ℕ) (is_closed : Bool)
    (bytes : List ℕ) : Type 0 where
  pub payloads : List (List ℕ)
  pub each : AllByRecursion IsPayload payloads
  pub within : n ≤ length bytes
  pub more : 1 ≤ length bytes → n < length bytes
  pub front : take n bytes ≡ records_text payloads
  pub took : TakesAll takes old (placed_from at payloads) new
  pub ended : is_closed ≡ true → (gate : ℕ) × (rest : List ℕ) × (drop n bytes ≡ gate ∷ rest) × (gate ≢ open_gate)
  pub cut_short : is_closed ≡ false → HasNoRecord (drop n bytes)
      × ((drop n bytes ≡ []) ⊎ ((rest : List ℕ) × (drop n bytes ≡ open_gate ∷ rest)))

-- Of bytes whose first gate stands at `from` in a file: up to this place they are open records that the visitor took; a
-- closed gate stands there, or no whole record.
pub record StopsAt {V : Type 0} (takes : V → ℕ → List ℕ → V → Type 0) (old new : V) (from : ℕ) (is_closed : Bool)
    (bytes : List ℕ) (at : ℕ) : Type 0 where
  pub count : ℕ
  pub place : at ≡ from + count
  pub handed : HandsOver takes old new from count is_closed bytes

-- Of bytes whose first gate stands at this place of a file: the visitor took the records before another place, and
-- refuses the one there; `after` is the visitor afterwards.
pub record RefusesAt {V : Type 0} (takes refuses : V → ℕ → List ℕ → V → Type 0) (visitor after : V) (at : ℕ)
    (bytes : List ℕ) (place : ℕ) : Type 0 where
  pub payloads : List (List ℕ)
  pub payload : List ℕ
  pub behind : List ℕ
  pub bytes_are : bytes ≡ records_text payloads ++ open_gate ∷ body_text payload ++ behind
  pub more : 1 ≤ length behind
  pub each : AllByRecursion IsPayload payloads
  pub fits : IsPayload payload
  pub place_is : place ≡ at + length (records_text payloads)
  pub reached : V
  pub took : TakesAll takes visitor (placed_from at payloads) reached
  pub refused : refuses reached place payload after

-- what opening a journal may do to its file: one of at most one byte that is no closed gate has at most one byte
-- afterwards
abbrev pub IsOpened : List ℕ → List ℕ → Type 0
IsOpened old new = (new ≡ old) ⊎ ((length old ≤ 1) × (old ≢ 0 ∷ []) × (length new ≤ 1))

-- ---- what the calls leave where a store tells its files
-- a journal's opening: its file stands for records, just these the visitor took, and the journal is open on them
pub record IsVisited {V : Type 0} (takes : V → ℕ → List ℕ → V → Type 0) (old new : V) (images : Files → Type 0)
    (file : List ℕ) (tail : Tail) : Type 0 where
  pub found : (payloads : List (List ℕ)) × StandsFor file payloads
  pub records : (payloads : List (List ℕ)) → StandsFor file payloads → (tail.end ≡ length (records_text payloads))
      × TakesAll takes old (placed_from 0 payloads) new × IsOpen images tail payloads

-- what names this place of a file that is opened
pub record IsDamaged {V : Type 0} (takes refuses : V → ℕ → List ℕ → V → Type 0) (old new : V) (file : List ℕ) (at : ℕ) :
    Type 0 where
  pub why : IsBrokenFor takes old new file at ⊎ IsRefusedAt takes refuses old new file at
  -- where the file stands for a list of records, only the visitor can refuse it: one of the list
  pub refused : (payloads : List (List ℕ)) → StandsFor file payloads → RefusesOneOf takes refuses old new payloads at

-- an open journal's records from a place on
pub record IsRevisited {V : Type 0} (takes : V → ℕ → List ℕ → V → Type 0) (old new : V) (tail : Tail) (at : ℕ)
    (file : List ℕ) : Type 0 where
  -- where the file has these records, the visitor took just those from there on
  pub records : (first more : List (List ℕ)) → Ends tail.end file (first ++ more) → at ≡ length (records_text first)
      → TakesAll takes old (placed_from at more) new
  -- whatever the file has, it took whole open records up to the journal's end, where a closed gate stands
  pub found : at < tail.end → StopsAt takes old new at true (drop at file) tail.end

-- what names a place behind that one, which is at whole open records' end that the visitor took
pub record IsDamagedFrom {V : Type 0} (takes refuses : V → ℕ → List ℕ → V → Type 0) (old new : V) (tail : Tail) (at : ℕ)
    (file : List ℕ)
    (place : ℕ) : Type 0 where
  -- no whole record stands there, or a closed gate does that isn't the journal's end, or the visitor refuses the record
  -- there
  pub why : StopsAt takes old new at false (drop at file) place
      ⊎ (StopsAt takes old new at true (drop at file) place × (place ≢ tail.end))
      ⊎ RefusesAt takes refuses old new at (drop at file) place
  -- where the file has these records, only the visitor can refuse: one of them
  pub refused : (first more : List (List ℕ)) → Ends tail.end file (first ++ more) → at ≡ length (records_text first)
      → RefusesOneFrom takes refuses old new at more place
