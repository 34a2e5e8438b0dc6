-- A page of a tape that is being read.
use Rattle.std.specs.Prelude.{ℕ, Bool, true, false, nat_le, List, [], ◌++◌, length, Option, None, Some, if◌then◌else◌}
use Rattle.irl_base.specs.Limits.{max_page}
use Rattle.irl_offer.specs.Replies.{Received}

-- a page whose `end` is yet to come: its canonical text, its reply so far, and whether no line of it came yet
pub record Opened : Type 0 where
  pub url : List ℕ
  pub reply : Received
  pub is_new : Bool

-- the page before its first line
abbrev pub opened : ℕ → Bool → List ℕ → Opened
opened status html url =
    record { url = url; reply = record { status = status; location = None; html = html; body = [] }; is_new = true }

-- the page with a Location, which only its first line may give
abbrev pub with_location : Opened → List ℕ → Option Opened
with_location page text =
    if page.is_new
    then Some (record page { reply = record page.reply { location = Some text }; is_new = false })
    else None

-- the page with this body, unless it is too long
abbrev pub with_whole_body : Opened → List ℕ → Option Opened
with_whole_body page body =
    if nat_le (length body) max_page
    then Some (record page { reply = record page.reply { body = body }; is_new = false })
    else None

-- the page with more of its body, unless the body is then too long
abbrev pub with_body : Opened → List ℕ → Option Opened
with_body page bytes = with_whole_body page (page.reply.body ++ bytes)
