-- How long what is noted of a robots file is.
use Rattle.std.proofs.Common.{◌≡◌, ◌∙◌, ℕ, ◌+◌, ◌<◌, ◌≤◌, Bool, true, false, cond, List, [], ◌∷◌, length, take, Option, Some, None, sym, ap, subst, arith}
use Rattle.std.proofs.lemmas.Grind.{common_steps}
use Rattle.std.specs.Prelude.{nat_lt}
use Rattle.irl_base.specs.Limits.{max_robots, max_text}
use Rattle.irl_key.specs.Web.{IsHost, host_part, robots_text}
use Rattle.irl_key.proofs.WebLemmas.{host_of-serialize, nonempty_host}
use Rattle.irl_key.specs.Web.{host_of}
use Rattle.irl_offer.specs.declared.note.NoteState.{NoteState}
use Rattle.irl_offer.specs.declared.note.NoteState.TheVariants as note
use Rattle.irl_offer.specs.declared.reply.Answer.{Answer}
use Rattle.irl_offer.specs.declared.reply.Answer.TheVariants as answer
use Rattle.irl_offer.specs.Replies.{Received}
use Rattle.irl_robots.specs.declared.answer.Class.{Class}
use Rattle.irl_robots.specs.declared.answer.Class.TheVariants as class
use Rattle.irl_robots.specs.Status.{class_of}
use Rattle.irl_answer.specs.declared.notes.Step.{Step}
use Rattle.irl_answer.specs.declared.notes.Step.TheVariants.{Follow, Found}
use Rattle.irl_answer.specs.Outcomes.{usable}
use Rattle.irl_answer.specs.Notes.{follow, step_by, step_of, found_last, note_after, note_from, note_of}

-- ## Hosts

-- a host is that of a URL
part_of : (host : List ℕ) (is : IsHost host) → host ≡ host_part is.web.url
part_of host is = is.given ∙ ap host_of is.web.written ∙ host_of-serialize is.web.url is.web.web

pub host_some : (host : List ℕ) → IsHost host → 0 < length host
host_some host is = subst (λ (h : List ℕ). 0 < length h) (sym (part_of host is)) (nonempty_host is.web.url is.web.web)

pub host_short : (host : List ℕ) → IsHost host → length host ≤ max_text
host_short host is =
    let short : length host + 8 ≤ max_text = subst (λ (h : List ℕ). length h + 8 ≤ max_text) (sym (part_of host is)) is.web.web.host in
    omega arith

-- ## Texts

-- what is found is short
abbrev FindsShort : Step → Type 0
FindsShort step = (text : List ℕ) → step ≡ Found (note.Rules text) → length text ≤ max_robots

take_short : (n : ℕ) (xs : List ℕ) → length (take n xs) ≤ n
take_short n xs = grind (arith, common_steps)

follow_short : (location : Option (List ℕ)) → FindsShort (follow location)
follow_short (Some web) text is = let no : Follow web ≡ Found (note.Rules text) = is in cc
follow_short None text is = let no : Found note.Free ≡ Found (note.Rules text) = is in cc

moved_short : (few : Bool) (location : Option (List ℕ)) → FindsShort (cond few (follow location) (Found note.Free))
moved_short true location text is = follow_short location text is
moved_short false location text is = let no : Found note.Free ≡ Found (note.Rules text) = is in cc

kept_short : (body text : List ℕ) → Found (note.Rules (take max_robots body)) ≡ Found (note.Rules text) → length text ≤ max_robots
kept_short body text is =
    let same : take max_robots body ≡ text = cc in
    subst (λ (t : List ℕ). length t ≤ max_robots) same (take_short max_robots body)

by_short : (c : Class) (asked : List ℕ) (followed : ℕ) (reply : Received) → FindsShort (step_by c asked followed reply)
by_short class.Rules asked followed reply text is = kept_short reply.body text is
by_short class.Moved asked followed reply text is = moved_short (nat_lt followed 5) (usable asked reply.location) text is
by_short class.Free asked followed reply text is = let no : Found note.Free ≡ Found (note.Rules text) = is in cc
by_short class.Shut asked followed reply text is = let no : Found note.Shut ≡ Found (note.Rules text) = is in cc

step_short : (asked : List ℕ) (followed : ℕ) (a : Answer) → FindsShort (step_of asked followed a)
step_short asked followed (answer.Reply reply) text is = by_short (class_of reply.status) asked followed reply text is
step_short asked followed answer.NoReply text is = let no : Found note.Shut ≡ Found (note.Rules text) = is in cc
step_short asked followed (answer.Short n) text is = let no : Found note.Shut ≡ Found (note.Rules text) = is in cc
step_short asked followed (answer.BadReply n) text is = let no : Found note.Shut ≡ Found (note.Rules text) = is in cc
step_short asked followed (answer.TooLarge n) text is = let no : Found note.Shut ≡ Found (note.Rules text) = is in cc
step_short asked followed answer.Coded text is = let no : Found note.Shut ≡ Found (note.Rules text) = is in cc

last_found : (state : NoteState) (more : List Answer) (text : List ℕ) → found_last state more ≡ Some (note.Rules text) → Found state ≡ Found (note.Rules text)
last_found state [] text is = let same : Some state ≡ Some (note.Rules text) = is in cc
last_found state (a ∷ more) text is = let no : None ≡ Some (note.Rules text) = is in cc

after_short : (followed : ℕ) (more : List Answer) (text : List ℕ) (step : Step) → FindsShort step
    → ((web : List ℕ) → note_from web (followed + 1) more ≡ Some (note.Rules text) → length text ≤ max_robots)
    → note_after step (λ web. note_from web (followed + 1) more) more ≡ Some (note.Rules text) → length text ≤ max_robots
after_short followed more text (Follow web) short later is = later web is
after_short followed more text (Found state) short later is = short text (last_found state more text is)

from_short : (answers : List Answer) (asked : List ℕ) (followed : ℕ) (text : List ℕ) → note_from asked followed answers ≡ Some (note.Rules text) → length text ≤ max_robots
from_short [] asked followed text is = let no : None ≡ Some (note.Rules text) = is in cc
from_short (a ∷ more) asked followed text is =
    after_short followed more text (step_of asked followed a) (step_short asked followed a) (λ web. from_short more web (followed + 1) text) is

pub text_short : (host : List ℕ) (answers : List Answer) (text : List ℕ) → note_of host answers ≡ Some (note.Rules text) → length text ≤ max_robots
text_short host answers text is = from_short answers (robots_text host) 0 text is
