-- What the steps of reading heads answer of the bytes that they look at.
use Rattle.std.specs.Prelude.{◌≡◌, ℕ, ◌+◌, ◌<◌, ◌≤◌, ◌⊎◌, List, [], length, take, drop}
use Rattle.httparse.specs.declared.spans.HeaderSpan.{HeaderSpan}
use Rattle.httparse.specs.declared.spans.ResponseSpans.{ResponseSpans}
use Rattle.httparse.specs.Grammar.{ResponseHead, NeverHasResponse, status_code}
use Rattle.httparse.specs.Spans.{IsResponseWithin, IsResponseOf}
use Rattle.irl_offer.specs.declared.reply.Want.{Want}
use Rattle.irl_offer.specs.declared.reply.Answer.{Answer}
use Rattle.irl_offer.specs.declared.reply.Answer.TheVariants.{BadReply, TooLarge as Large}
use Rattle.irl_http.specs.declared.fields.Head.{Head}
use Rattle.irl_http.specs.declared.head.Parsed.{Parsed}
use Rattle.irl_http.specs.declared.head.Parsed.TheVariants as parsed
use Rattle.irl_http.specs.declared.head.Next.{Next}
use Rattle.irl_http.specs.declared.head.Next.TheVariants as next
use Rattle.irl_http.specs.declared.head.Told.{Told}
use Rattle.irl_http.specs.declared.head.Told.TheVariants as told
use Rattle.irl_http.specs.Fields.{fields_of, plan_of, location_of, html_of}
use Rattle.irl_http.specs.Heads.{max_heads, Awaits, HasHead, HasNoHead, HasBadHead, PassesBytes, PassesLines}
use Rattle.irl_http.specs.Reply.{Shows, Tells}

-- some bytes can follow that make it a head
abbrev pub MayBecomeHead : List ℕ → Type 0
MayBecomeHead bytes = ¬ NeverHasResponse bytes

-- what was parsed of a front of bytes
abbrev pub ParsedAs : List ℕ → List HeaderSpan → Parsed → Type 0
ParsedAs front headers (parsed.Whole spans) = IsResponseWithin front headers spans × IsResponseOf front headers spans
ParsedAs front headers parsed.Open = HasNoHead front × MayBecomeHead front
ParsedAs front headers parsed.Bad = NeverHasResponse front

-- no first bytes show an answer, so few as the second number says and no fewer than the first
abbrev pub QuietBetween : List ℕ → ℕ → ℕ → Type 0
QuietBetween bytes from till = (want : Want) (n : ℕ) (answer : Answer) → from ≤ n → n < till
    → ¬ Shows want (take n bytes) answer

-- the head of the reply isn't there yet
abbrev pub HasNoHeadYet : List ℕ → Type 0
HasNoHeadYet bytes = (head : ResponseHead) (rest : List ℕ) → ¬ HasHead bytes head rest

-- a head was parsed from a front of the bytes behind a place
pub record ParsesHead (bytes : List ℕ) (at : ℕ) (headers : List HeaderSpan) (front : List ℕ)
    (spans : ResponseSpans) : Type 0 where
  pub front_is : front ≡ take (length front) (drop at bytes)
  pub early : at + length front ≤ max_heads
  pub within : IsResponseWithin front headers spans
  pub head : IsResponseOf front headers spans
  pub quiet : QuietBetween bytes at (at + spans.len)

-- the head at a place
abbrev pub NextAs : List ℕ → ℕ → List HeaderSpan → Next → Type 0
NextAs bytes at headers (next.Head front spans) = ParsesHead bytes at headers front.now spans
NextAs bytes at headers next.Open = QuietBetween bytes at (length bytes + 1) × (length bytes ≤ max_heads)
    × HasNoHeadYet bytes × HasNoHead (drop at bytes)
NextAs bytes at headers (next.Bad end) = QuietBetween bytes at end × (end ≤ length bytes) × HasBadHead (take end bytes)
NextAs bytes at headers (next.TooLarge end) =
    QuietBetween bytes at end
    × (end ≤ length bytes)
    × (PassesBytes (take end bytes) ⊎ PassesLines (take end bytes))
    × ¬ HasBadHead (take end bytes)

-- the same with a byte past the limit of heads
abbrev pub PastAs : List ℕ → ℕ → Next → Type 0
PastAs bytes at (next.Head front spans) = ⊥
PastAs bytes at next.Open = ⊥
PastAs bytes at (next.Bad end) = QuietBetween bytes at end × (end ≤ length bytes) × HasBadHead (take end bytes)
PastAs bytes at (next.TooLarge end) =
    QuietBetween bytes at end
    × (end ≤ length bytes)
    × (PassesBytes (take end bytes) ⊎ PassesLines (take end bytes))
    × ¬ HasBadHead (take end bytes)

-- what a head says
pub record Says (said : Head) (head : ResponseHead) : Type 0 where
  pub status : said.status ≡ status_code head
  pub location : said.location ≡ location_of (fields_of head)
  pub html : said.html ≡ html_of (fields_of head)
  pub plan : said.plan ≡ plan_of head

-- the bytes up to a place are heads, with that of the reply last, and fewer show nothing
pub record EndsHeads (bytes : List ℕ) (end : ℕ) (head : ResponseHead) : Type 0 where
  pub within : end ≤ length bytes
  pub early : end ≤ max_heads
  pub has : HasHead (take end bytes) head []
  pub quiet : QuietBetween bytes 0 end

-- the bytes up to a place are whole heads of interim replies, and fewer show nothing
pub record EndsInterim (bytes : List ℕ) (at : ℕ) : Type 0 where
  pub within : at ≤ length bytes
  pub early : at ≤ max_heads
  pub awaits : Awaits (take at bytes) []
  pub quiet : QuietBetween bytes 0 at

-- all whole heads of interim replies that the bytes begin with end at a place
pub record EndsAllInterim (bytes : List ℕ) (at : ℕ) : Type 0 where
  pub ends : EndsInterim bytes at
  pub none_behind : HasNoHead (drop at bytes)

-- the answer that the fewest first bytes show, for pages and robots files alike
abbrev pub TellsAlike : List ℕ → Answer → Type 0
TellsAlike bytes answer = (want : Want) → Tells want bytes answer

abbrev pub TellsHeads : List ℕ → Told → Type 0
TellsHeads bytes (told.Head said end) = (head : ResponseHead) × Says said head × EndsHeads bytes end head
TellsHeads bytes (told.Nothing at) = QuietBetween bytes 0 (length bytes + 1) × (length bytes ≤ max_heads)
    × HasNoHeadYet bytes × EndsAllInterim bytes at
TellsHeads bytes (told.Bad n) = TellsAlike bytes (BadReply n)
TellsHeads bytes (told.TooLarge n) = TellsAlike bytes (Large n)
