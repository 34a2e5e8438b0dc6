-- What the steps of reading a reply did to their link.
use Rattle.std.specs.Prelude.{◌≡◌, ℕ, ◌+◌, ◌<◌, ◌≤◌, ◌⊎◌, List, [], ◌++◌, length, take, min, Bool, true, false, Option, Result, IfOk}
use Rattle.std.specs.Io.KnownBytes.{Keeps, IsAtEnd}
use Rattle.std.specs.declared.alloc.AllocError.{AllocError}
use Rattle.httparse.specs.Grammar.{ResponseHead}
use Rattle.irl_offer.specs.declared.reply.Want.{Want}
use Rattle.irl_offer.specs.declared.reply.Answer.{Answer}
use Rattle.irl_http.specs.declared.fields.Plan.{Plan}
use Rattle.irl_http.specs.declared.fields.Plan.TheVariants as plan
use Rattle.irl_http.specs.declared.link.Connection.{Connection}
use Rattle.irl_http.specs.declared.reading.Fill.{Fill}
use Rattle.irl_http.specs.declared.reading.Fill.TheVariants.{More, Ended, Failed}
use Rattle.irl_http.specs.declared.reading.Heads.{Heads}
use Rattle.irl_http.specs.declared.reading.Heads.TheVariants as heads
use Rattle.irl_http.specs.Bodies.{most_of}
use Rattle.irl_http.specs.Heads.{max_heads, HasHead}
use Rattle.irl_http.specs.Links.{StaySame}
use Rattle.irl_http.specs.Parsing.{Says, EndsHeads, QuietBetween}
use Rattle.irl_http.specs.Reading.{Reads, AnswersTaken, max_taken}
use Rattle.irl_http.specs.Reply.{Shows, TellsNothing}

-- reading leaves what was written and the connections as they were, and faults never fall
pub record Undisturbed (written_before written_after : Option (List ℕ))
    (made_before made_after : Option (List Connection)) (faults_before faults_after : ℕ) : Type 0 where
  pub written : Keeps written_before written_after
  pub connections : StaySame made_before made_after
  pub faults : faults_before ≤ faults_after

-- reads gave these bytes, or none was made
abbrev pub Gets : (List ℕ → Type 0) → Option (List ℕ) → Option (List ℕ) → Option (List ℕ) → Option (List ℕ) → List ℕ
    → Type 0
Gets P before after last_before last_after got =
    ((got ≡ []) × Keeps before after × (last_after ≡ last_before)) ⊎ Reads P before after last_after got

-- what a read came to
abbrev pub FillAs : List ℕ → Option (List ℕ) → Fill → Type 0
FillAs got after More = 0 < length got
FillAs got after Ended = (got ≡ []) × IsAtEnd after
FillAs got after Failed = got ≡ []

-- what reading until there were so many bytes came to
abbrev pub UntilAs : ℕ → ℕ → Option (List ℕ) → Fill → Type 0
UntilAs target now after More = target ≤ now
UntilAs target now after Ended = (now < target) × IsAtEnd after
UntilAs target now after Failed = now < target

-- the bytes tell nothing
abbrev pub IsQuiet : List ℕ → Type 0
IsQuiet bytes = QuietBetween bytes 0 (length bytes + 1)

-- what reading the heads came to, by all bytes that were taken
abbrev pub HeadsAs : List ℕ → Option (List ℕ) → Heads → Type 0
HeadsAs taken after (heads.Head said end) = (head : ResponseHead) × Says said head × EndsHeads taken end head
HeadsAs taken after (heads.Answer answer) = (want : Want) → AnswersTaken want taken (IsAtEnd after) answer

-- all that was taken is read as this, and the bytes are all that was taken
abbrev pub HeadsRead : Option (List ℕ) → Option (List ℕ) → Option (List ℕ) → List ℕ → Result Heads AllocError → Type 0
HeadsRead before after last bytes result =
    (taken : List ℕ)
    × Reads IsQuiet before after last taken
    × (length taken ≤ max_heads + 1)
    × IfOk result (λ read. (bytes ≡ taken) × HeadsAs taken after read)

-- the bytes are heads, with that of the reply last, and fewer show nothing
pub record IsHeads (front : List ℕ) (head : ResponseHead) : Type 0 where
  pub has : HasHead front head []
  pub quiet : (want : Want) (n : ℕ) (answer : Answer) → n < length front → ¬ Shows want (take n front) answer

-- of a body: what was taken behind the bytes, and the answer
abbrev pub BodyRead : Want → List ℕ → Option (List ℕ) → Option (List ℕ) → Option (List ℕ) → Option (List ℕ)
    → Result Answer AllocError → Type 0
BodyRead want bytes before after last_before last_after result =
    (got : List ℕ)
    × Gets (λ early. TellsNothing want (bytes ++ early)) before after last_before last_after got
    × (length (bytes ++ got) ≤ max_taken)
    × IfOk result (AnswersTaken want (bytes ++ got) (IsAtEnd after))

-- a body that is read by its length: up to as many bytes, which end it or pass what is kept, or until the connection
-- ends
abbrev pub IsTarget : Want → Bool → ℕ → Plan → Type 0
IsTarget want true target how = (how ≡ plan.UntilClose) × (target ≡ most_of want)
IsTarget want false target how = (n : ℕ) × (how ≡ plan.Sized n) × (target ≡ min n (most_of want))
