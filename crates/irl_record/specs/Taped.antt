-- A tape: what answers a fetcher in place of the network.
use Rattle.std.specs.Prelude.{ℕ, false, List, [], Option, None, Some, bytes_eq}
use Rattle.std.specs.Map.{lookup}
use Rattle.irl_offer.specs.Replies.{Received}
use Rattle.irl_offer.specs.declared.reply.Answer.{Answer}
use Rattle.irl_offer.specs.declared.reply.Answer.TheVariants as answer
use Rattle.irl_record.specs.declared.record.Record.{Record}
use Rattle.irl_record.specs.declared.record.Record.TheVariants.{Page, Lost}

-- what is recorded of URLs, by their canonical texts, in the order of the tape
abbrev pub Records : Type 0
Records = List (List ℕ × Record)

-- a tape: its suffix text, the canonical texts of its seeds, and what it has of URLs
pub record Taped : Type 0 where
  pub suffixes : List ℕ
  pub seeds : List (List ℕ)
  pub records : Records

-- what is recorded of a URL
abbrev pub record_at : Records → List ℕ → Option Record
record_at records url = lookup (bytes_eq url) records

-- the reply to a URL that isn't on the tape
abbrev pub not_found : Received
not_found = record { status = 404; location = None; html = false; body = [] }

-- the answer that a record gives: its page, or none where the URL is lost
abbrev pub answer_of : Option Record → Answer
answer_of None = answer.Reply not_found
answer_of (Some (Page reply)) = answer.Reply reply
answer_of (Some Lost) = answer.NoReply
