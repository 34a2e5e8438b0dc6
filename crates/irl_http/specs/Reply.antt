-- The reply that the bytes of a connection are (RFC 9112), within the limits of a crawler.
--
-- First what a list of bytes shows just as it stands, with all of it looked at. An answer is then the one that the
-- fewest first bytes show, so more bytes never change it, and nothing behind those bytes is looked at. Where none show
-- one, the end of the connection gives the answer.
use Rattle.std.specs.Prelude.{◌≡◌, ℕ, ◌<◌, ◌≤◌, ◌⊎◌, List, [], length, take}
use Rattle.httparse.specs.Grammar.{ResponseHead, status_code}
use Rattle.irl_base.specs.Limits.{max_page, max_robots}
use Rattle.irl_offer.specs.Replies.{Received}
use Rattle.irl_offer.specs.declared.reply.Want.{Want}
use Rattle.irl_offer.specs.declared.reply.Want.TheVariants.{Page, Robots}
use Rattle.irl_offer.specs.declared.reply.Answer.{Answer}
use Rattle.irl_offer.specs.declared.reply.Answer.TheVariants.{Reply, NoReply, Short, BadReply, TooLarge, Coded}
use Rattle.irl_http.specs.declared.fields.Plan.{Plan}
use Rattle.irl_http.specs.declared.fields.Plan.TheVariants as plan
use Rattle.irl_http.specs.Chunks.{EndsChunks, EndsInChunk, BreaksChunks}
use Rattle.irl_http.specs.Fields.{fields_of, plan_of, location_of, html_of}
use Rattle.irl_http.specs.Heads.{HasHead, HasBadHead, PassesBytes, PassesLines}

-- a reply by its head and its body
abbrev pub received : ResponseHead → List ℕ → Received
received head body = record {
  status = status_code head;
  location = location_of (fields_of head);
  html = html_of (fields_of head);
  body = body;
}

-- the bytes behind a head end with the last byte of its body, and this is the body
abbrev pub EndsBody : Plan → List ℕ → List ℕ → Type 0
EndsBody plan.Empty bytes body = (bytes ≡ []) × (body ≡ [])
EndsBody (plan.Sized n) bytes body = (length bytes ≡ n) × (body ≡ bytes)
EndsBody plan.Chunked bytes body = EndsChunks bytes body
EndsBody plan.UntilClose bytes body = ⊥
EndsBody plan.Coded bytes body = ⊥
EndsBody plan.BadLength bytes body = ⊥

-- the bytes behind a head end in its body, and this is the body so far
abbrev pub EndsInBody : Plan → List ℕ → List ℕ → Type 0
EndsInBody plan.Empty bytes part = ⊥
EndsInBody (plan.Sized n) bytes part = (length bytes ≤ n) × (part ≡ bytes)
EndsInBody plan.Chunked bytes part = EndsInChunk bytes part
EndsInBody plan.UntilClose bytes part = part ≡ bytes
EndsInBody plan.Coded bytes part = ⊥
EndsInBody plan.BadLength bytes part = ⊥

-- the body that is taken: the whole one, or of a robots file as many bytes as are kept
abbrev pub Takes : Want → Plan → List ℕ → List ℕ → Type 0
Takes want how bytes body =
    EndsBody how bytes body ⊎ ((want ≡ Robots) × EndsInBody how bytes body × (length body ≡ max_robots))

pub record ShowsReply (want : Want) (bytes : List ℕ) (reply : Received) : Type 0 where
  pub head : ResponseHead
  pub rest : List ℕ
  pub body : List ℕ
  pub has : HasHead bytes head rest
  pub takes : Takes want (plan_of head) rest body
  pub fits : length body ≤ max_page
  pub reply_is : reply ≡ received head body

-- the bytes end with a head that refuses its body so
pub record Refuses (how : Plan) (bytes : List ℕ) : Type 0 where
  pub head : ResponseHead
  pub has : HasHead bytes head []
  pub refused : plan_of head ≡ how

-- behind a head whose body is in chunks there is none where one is due
pub record HasBadChunk (bytes : List ℕ) : Type 0 where
  pub head : ResponseHead
  pub rest : List ℕ
  pub has : HasHead bytes head rest
  pub chunked : plan_of head ≡ plan.Chunked
  pub bad : BreaksChunks rest

-- the body of a page is longer than is kept
pub record PassesPage (bytes : List ℕ) : Type 0 where
  pub head : ResponseHead
  pub rest : List ℕ
  pub part : List ℕ
  pub has : HasHead bytes head rest
  pub within : EndsInBody (plan_of head) rest part
  pub long : max_page < length part

-- What some bytes show as they stand. A number is that of the bytes. A head that is bad is no head that is too large.
abbrev pub Shows : Want → List ℕ → Answer → Type 0
Shows want bytes (Reply reply) = ShowsReply want bytes reply
Shows want bytes NoReply = ⊥
Shows want bytes (Short n) = ⊥
Shows want bytes (BadReply n) = (n ≡ length bytes)
    × (HasBadHead bytes ⊎ Refuses plan.BadLength bytes ⊎ HasBadChunk bytes)
Shows want bytes (TooLarge n) =
    (n ≡ length bytes)
    × (((PassesBytes bytes ⊎ PassesLines bytes) × ¬ HasBadHead bytes) ⊎ ((want ≡ Page) × PassesPage bytes))
Shows want bytes Coded = Refuses plan.Coded bytes

-- no first bytes of these show an answer
abbrev pub TellsNothing : Want → List ℕ → Type 0
TellsNothing want bytes = (n : ℕ) (answer : Answer) → n ≤ length bytes → ¬ Shows want (take n bytes) answer

-- the answer that the fewest first bytes show
pub record Tells (want : Want) (bytes : List ℕ) (answer : Answer) : Type 0 where
  pub count : ℕ
  pub within : count ≤ length bytes
  pub shows : Shows want (take count bytes) answer
  pub fewest : (n : ℕ) (other : Answer) → n < count → ¬ Shows want (take n bytes) other

-- the body ends where the connection does
pub record IsUntilClose (bytes : List ℕ) (reply : Received) : Type 0 where
  pub head : ResponseHead
  pub rest : List ℕ
  pub has : HasHead bytes head rest
  pub close : plan_of head ≡ plan.UntilClose
  pub reply_is : reply ≡ received head rest

-- what a connection shows that ended
abbrev pub ShowsAtEnd : List ℕ → Answer → Type 0
ShowsAtEnd bytes (Reply reply) = IsUntilClose bytes reply
ShowsAtEnd bytes NoReply = ⊥
ShowsAtEnd bytes (Short n) = (n ≡ length bytes) × ((reply : Received) → ¬ IsUntilClose bytes reply)
ShowsAtEnd bytes (BadReply n) = ⊥
ShowsAtEnd bytes (TooLarge n) = ⊥
ShowsAtEnd bytes Coded = ⊥

-- The answer to a request for this, of the bytes that a connection gave, where `Ended` says that it gives no more.
abbrev pub Answers : Want → List ℕ → Type 0 → Answer → Type 0
Answers want bytes Ended answer =
    Tells want bytes answer ⊎ (Ended × TellsNothing want bytes × ShowsAtEnd bytes answer)
