-- Chains of answers to requests for a robots file: where they end, and how long they are.
use Rattle.std.proofs.Common.{◌≡◌, ℕ, suc, ◌+◌, ◌<◌, ◌≤◌, Bool, true, false, cond, ◌==◌, nat_lt, List, [], ◌∷◌, length, Option, Some, None, refl, ap, sym, ◌∙◌, arith}
use Rattle.std.proofs.lemmas.Bool.Decides.{nat_tests}
use Rattle.std.specs.Bool.{then_some}
use Rattle.irl_offer.specs.declared.note.NoteState.{NoteState}
use Rattle.irl_offer.specs.declared.note.NoteState.TheVariants as note
use Rattle.irl_offer.specs.declared.reply.Answer.{Answer}
use Rattle.irl_offer.specs.declared.reply.Answer.TheVariants as answer
use Rattle.irl_offer.specs.Replies.{Received}
use Rattle.irl_robots.specs.declared.answer.Class.{Class}
use Rattle.irl_robots.specs.declared.answer.Class.TheVariants as class
use Rattle.irl_robots.specs.Status.{class_of}
use Rattle.irl_answer.specs.declared.notes.Step.{Step}
use Rattle.irl_answer.specs.declared.notes.Step.TheVariants.{Follow, Found}
use Rattle.irl_answer.specs.Notes.{follow, step_by, step_of, found_last, note_after, note_from, requests_after, requests_from}

one_or_more : (n : ℕ) → (suc n == 0) ≡ false
one_or_more n = grind (arith, nat_tests)

last_only : (state : NoteState) (more : List Answer) → then_some (length more == 0) state ≡ found_last state more
last_only state [] = refl
last_only state (answer ∷ more) = ap (λ b. then_some b state) (one_or_more (length more))

-- the answer that follows nothing ends the chain, where none is behind it
pub chain_ends : (asked : List ℕ) (followed : ℕ) (answer : Answer) (rest more : List Answer) (state : NoteState) (empty : Bool) → rest ≡ answer ∷ more → Found state ≡ step_of asked followed answer
    → empty ≡ (length more == 0) → then_some empty state ≡ note_from asked followed rest
chain_ends asked followed answer rest more state empty whole step is =
    ap (λ b. then_some b state) is ∙ last_only state more
    ∙ ap (λ s. note_after s (λ web. note_from web (followed + 1) more) more) step
    ∙ ap (note_from asked followed) (sym whole)

-- ## How long a chain is

few_by : (few : Bool) (followed : ℕ) (location : Option (List ℕ)) (web : List ℕ) → nat_lt followed 5 ≡ few → cond few (follow location) (Found note.Free) ≡ Follow web → followed < 5
few_by true followed location web is step = grind (arith, nat_tests)
few_by false followed location web is step = let no : Found note.Free ≡ Follow web = step in cc

few_at : (c : Class) (asked : List ℕ) (followed : ℕ) (reply : Received) (web : List ℕ) → step_by c asked followed reply ≡ Follow web → followed < 5
few_at class.Rules asked followed reply web step = cc
few_at class.Moved asked followed reply web step = few_by (nat_lt followed 5) followed _ web refl step
few_at class.Free asked followed reply web step = cc
few_at class.Shut asked followed reply web step = cc

-- a redirect is followed only after fewer than five
pub followed_few : (asked : List ℕ) (followed : ℕ) (a : Answer) (web : List ℕ) → step_of asked followed a ≡ Follow web → followed < 5
followed_few asked followed (answer.Reply reply) web step = few_at (class_of reply.status) asked followed reply web step
followed_few asked followed answer.NoReply web step = cc
followed_few asked followed (answer.Short n) web step = cc
followed_few asked followed (answer.BadReply n) web step = cc
followed_few asked followed (answer.TooLarge n) web step = cc
followed_few asked followed answer.Coded web step = cc

last_alone : (found state : NoteState) (more : List Answer) → found_last found more ≡ Some state → length more ≡ 0
last_alone found state [] last = refl
last_alone found state (answer ∷ more) last = let no : None ≡ Some state = last in cc

short_by : (asked : List ℕ) (followed : ℕ) (answer : Answer) (more : List Answer) (state : NoteState) (step : Step) → followed ≤ 5 → step_of asked followed answer ≡ step
    → ((web : List ℕ) → followed + 1 ≤ 5 → note_from web (followed + 1) more ≡ Some state → length more + (followed + 1) ≤ 6)
    → note_after step (λ web. note_from web (followed + 1) more) more ≡ Some state → suc (length more) + followed ≤ 6
short_by asked followed answer more state (Follow web) few is later says =
    let fewer = followed_few asked followed answer web is in
    let short = later web (omega arith) says in
    omega arith
short_by asked followed answer more state (Found found) few is later says =
    let alone = last_alone found state more says in
    omega arith

-- so many redirects and the answers that follow are at most six
pub short_from : (answers : List Answer) (asked : List ℕ) (followed : ℕ) (state : NoteState) → followed ≤ 5 → note_from asked followed answers ≡ Some state → length answers + followed ≤ 6
short_from [] asked followed state few says = let no : None ≡ Some state = says in cc
short_from (answer ∷ more) asked followed state few says =
    short_by asked followed answer more state (step_of asked followed answer) few refl (λ web. short_from more web (followed + 1) state) says

-- ## Its requests

asked_by : (followed : ℕ) (more : List Answer) (state : NoteState) (step : Step) → note_after step (λ web. note_from web (followed + 1) more) more ≡ Some state
    → ((web : List ℕ) → note_from web (followed + 1) more ≡ Some state → length (requests_from web (followed + 1) more) ≡ length more)
    → length (requests_after step (λ web. requests_from web (followed + 1) more)) ≡ length more
asked_by followed more state (Follow web) says later = later web says
asked_by followed more state (Found found) says later = sym (last_alone found state more says)

-- each answer was given to one
pub asked_from : (answers : List Answer) (asked : List ℕ) (followed : ℕ) (state : NoteState) → note_from asked followed answers ≡ Some state
    → length (requests_from asked followed answers) ≡ length answers
asked_from [] asked followed state says = refl
asked_from (answer ∷ more) asked followed state says =
    ap suc (asked_by followed more state (step_of asked followed answer) says (λ web. asked_from more web (followed + 1) state))
