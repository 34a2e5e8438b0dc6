-- What was handled and noted, by answers that are given, stays so as more are.
use Rattle.std.proofs.Common.{◌≡◌, ◌∙◌, ℕ, ◌+◌, List, [], ◌∷◌, ◌++◌, Ok, length, refl, ap, arith, append-nil, length-append}
use Rattle.std.specs.Prelude.{Result}
use Rattle.std.specs.List.{AllZip, Any, flat_map}
use Rattle.std.proofs.lemmas.List.Concat.{flat_map-append}
use Rattle.std.proofs.lemmas.List.Elements.{Contains-append_left, Contains-append_right}
use Rattle.std.proofs.lemmas.List.Sums.{sum_by-append}
use Rattle.irl_base.specs.Faults.{HasCause}
use Rattle.irl_offer.specs.declared.reply.Answer.{Answer}
use Rattle.irl_offer.specs.declared.reply.Answer.TheVariants.{Reply, NoReply, Short, BadReply, TooLarge, Coded}
use Rattle.irl_offer.specs.declared.reply.Want.TheVariants.{Robots}
use Rattle.irl_answer.specs.Notes.{requests_of}
use Rattle.irl_robots.specs.declared.host.HostState.{HostState}
use Rattle.irl_record.specs.Widening.{Answers, Widens}
use Rattle.irl_fetch.specs.Telling.{RoseBy}
use Rattle.irl_fetch.specs.Handling.{Treated, Fetched, Denied, ShutOut, Handled, Noted, IsGiven, IsHandled, IsNoted, answered, answers_of, missing}
use Rattle.irl_fetch.proofs.Telling.{rose_none}

pub given_wider : (gives more : Answers) → Widens gives more → (suffixes url : List ℕ) (treated : Treated) → IsGiven gives suffixes url treated → IsGiven more suffixes url treated
given_wider gives more wider suffixes url (Fetched answer entered) given = (wider url _ answer given.0, given.1)
given_wider gives more wider suffixes url (Denied line) given = tt
given_wider gives more wider suffixes url ShutOut given = tt

pub handled_wider : (gives more : Answers) (IsState IsMore : List ℕ → HostState → Type 0) → Widens gives more → ((host : List ℕ) (state : HostState) → IsState host state → IsMore host state)
    → (suffixes : List ℕ) (handled : Handled) → IsHandled gives IsState suffixes handled → IsHandled more IsMore suffixes handled
handled_wider gives more IsState IsMore wider states suffixes handled is = record {
  state = is.state;
  noted = states _ is.state is.noted;
  leave = is.leave;
  given = given_wider gives more wider suffixes handled.work.web handled.treated is.given;
}

zip_wider : (gives more : Answers) → Widens gives more → (urls : List (List ℕ)) (answers : List Answer) → AllZip (λ url answer. gives url Robots answer) urls answers
    → AllZip (λ url answer. more url Robots answer) urls answers
zip_wider gives more wider [] [] given = tt
zip_wider gives more wider [] (answer ∷ answers) given = absurd given
zip_wider gives more wider (url ∷ urls) [] given = absurd given
zip_wider gives more wider (url ∷ urls) (answer ∷ answers) given = (wider url Robots answer given.0, zip_wider gives more wider urls answers given.1)

pub noted_wider : (gives more : Answers) → Widens gives more → (noted : Noted) → IsNoted gives noted → IsNoted more noted
noted_wider gives more wider noted is = record {
  host = is.host;
  says = is.says;
  given = zip_wider gives more wider (requests_of noted.note.host noted.answers) noted.answers is.given;
}

-- ## One of several

pub any_left : {X : Type 0} (P : X → Type 0) (xs ys : List X) → Any P xs → Any P (xs ++ ys)
any_left P xs ys any = let at = Contains-append_left xs ys any.1 (any.0, any.2, any.3) in (at.0, any.1, at.1, at.2, any.4)

pub any_right : {X : Type 0} (P : X → Type 0) (xs ys : List X) → Any P ys → Any P (xs ++ ys)
any_right P xs ys any = let at = Contains-append_right xs ys any.1 (any.0, any.2, any.3) in (at.0, any.1, at.1, at.2, any.4)

pub any_weaker : {X : Type 0} (P Q : X → Type 0) (xs : List X) → ((x : X) → P x → Q x) → Any P xs → Any Q xs
any_weaker P Q xs gives any = (any.0, any.1, any.2, any.3, gives any.1 any.4)

pub any_alone : {X : Type 0} (P : X → Type 0) (x : X) → P x → Any P (x ∷ [])
any_alone P x holds = (0, x, omega arith, refl, holds)

-- ## Answers

pub answered_both : (h1 h2 : List Handled) (n1 n2 : List Noted) → answered (h1 ++ h2) (n1 ++ n2) ≡ answered h1 n1 + answered h2 n2
answered_both h1 h2 n1 n2 =
    let notes = λ (one : Noted). one.answers in
    let handled = ap length (flat_map-append answers_of h1 h2) ∙ length-append (flat_map answers_of h1) (flat_map answers_of h2) in
    let noted = ap length (flat_map-append notes n1 n2) ∙ length-append (flat_map notes n1) (flat_map notes n2) in
    omega (arith, handled, noted)

pub answered_one : (handled : Handled) → answered (handled ∷ []) [] ≡ length (answers_of handled)
answered_one handled = let same = ap length (append-nil (answers_of handled)) in omega (arith, same)

pub answered_noted : (noted : Noted) → answered [] (noted ∷ []) ≡ length noted.answers
answered_noted noted = let same = ap length (append-nil noted.answers) in omega (arith, same)

-- ## Answers that never came

pub missing_both : (xs ys : List Answer) → missing (xs ++ ys) ≡ missing xs + missing ys
missing_both xs ys = sum_by-append _ xs ys

-- one that never came was counted
pub missing_one : {E : Type 0} (given : Answer) (before now : ℕ) → HasCause (◌≡◌ {A = Result Answer E} (Ok given) (Ok NoReply)) before now → RoseBy (missing (given ∷ [])) before now
missing_one (Reply reply) before now cause = rose_none before now cause.later
missing_one NoReply before now cause = cause.rose refl
missing_one (Short n) before now cause = rose_none before now cause.later
missing_one (BadReply n) before now cause = rose_none before now cause.later
missing_one (TooLarge n) before now cause = rose_none before now cause.later
missing_one Coded before now cause = rose_none before now cause.later
