-- The requests for a robots file, one after another.
use Rattle.std.proofs.Common.{◌≡◌, ◌∙◌, ℕ, ◌+◌, ◌<◌, ◌≤◌, List, [], ◌∷◌, ◌++◌, length, Some, Ok, Err, refl, sym, ap, subst, arith}
use Rattle.std.specs.Prelude.{Result}
use Rattle.std.specs.List.{AllZip}
use Rattle.std.proofs.lemmas.List.{append-nil, append_assoc}
use Rattle.irl_base.specs.Faults.{HasCause}
use Rattle.irl_key.specs.Web.{IsHost, robots_text}
use Rattle.irl_offer.specs.declared.note.Note.{Note}
use Rattle.irl_offer.specs.declared.note.NoteState.{NoteState}
use Rattle.irl_offer.specs.declared.note.NoteState.TheVariants as note
use Rattle.irl_offer.specs.declared.reply.Answer.{Answer}
use Rattle.irl_offer.specs.declared.reply.Answer.TheVariants.{NoReply, Coded}
use Rattle.irl_offer.specs.declared.reply.Want.TheVariants.{Robots}
use Rattle.irl_answer.specs.declared.notes.Step.TheVariants.{Follow, Found}
use Rattle.irl_answer.specs.Notes.{step_of, note_from, note_of, note_after, requests_from, requests_of, requests_after}
use Rattle.irl_record.specs.Widening.{Answers, Widens}
use Rattle.irl_fetch.specs.Handling.{missing}
use Rattle.irl_fetch.specs.Robots.{FetchesNote, FindsNote}
use Rattle.irl_fetch.specs.Telling.{Fetcher, GoesOn, MakesAtMost, RoseBy, given_since}
use Rattle.irl_fetch.proofs.Handling.{missing_one, missing_both}
use Rattle.irl_fetch.proofs.Results.{refused_if}
use Rattle.irl_fetch.proofs.Telling.{IsEarlier, goes_none, goes_then, given_then, given_before, makes_then, rose_none, rose_then}

-- Each answer so far asked for the next request, which is this one.
pub record Chained (host asked : List ℕ) (followed : ℕ) (a b : Fetcher) : Type 0 where
  pub answers : List Answer
  pub urls : List (List ℕ)
  pub count : length answers ≡ followed
  pub says : (rest : List Answer) → note_of host (answers ++ rest) ≡ note_from asked followed rest
  pub asks : (rest : List Answer) → requests_of host (answers ++ rest) ≡ urls ++ requests_from asked followed rest
  pub given : AllZip (λ url answer. given_since a b url Robots answer) urls answers
  pub goes_on : GoesOn a b
  pub lost : RoseBy (missing answers) a.faults b.faults
  pub asked_are : MakesAtMost followed a b

pub chain_first : (host : List ℕ) (a : Fetcher) → Chained host (robots_text host) 0 a a
chain_first host a = record {
  answers = [];
  urls = [];
  count = refl;
  says = λ rest. refl;
  asks = λ rest. refl;
  given = tt;
  goes_on = goes_none a;
  lost = rose_none a.faults a.faults (omega arith);
  asked_are = omega arith;
}

zip_more : (gives more : Answers) → Widens gives more → (urls : List (List ℕ)) (answers : List Answer) (url : List ℕ) (answer : Answer) → AllZip (λ url answer. gives url Robots answer) urls answers
    → more url Robots answer → AllZip (λ url answer. more url Robots answer) (urls ++ url ∷ []) (answers ++ answer ∷ [])
zip_more gives more wider [] [] url answer given last = (last, tt)
zip_more gives more wider [] (x ∷ answers) url answer given last = absurd given
zip_more gives more wider (x ∷ urls) [] url answer given last = absurd given
zip_more gives more wider (x ∷ urls) (y ∷ answers) url answer given last = (wider x Robots y given.0, zip_more gives more wider urls answers url answer given.1 last)

says_more : (host asked : List ℕ) (followed : ℕ) (answers : List Answer) (answer : Answer) → ((rest : List Answer) → note_of host (answers ++ rest) ≡ note_from asked followed rest)
    → (rest : List Answer) → note_of host ((answers ++ answer ∷ []) ++ rest) ≡ note_after (step_of asked followed answer) (λ web. note_from web (followed + 1) rest) rest
says_more host asked followed answers answer says rest = ap (note_of host) (append_assoc answers (answer ∷ []) rest) ∙ says (answer ∷ rest)

asks_more : (host asked : List ℕ) (followed : ℕ) (answers : List Answer) (urls : List (List ℕ)) (answer : Answer)
    → ((rest : List Answer) → requests_of host (answers ++ rest) ≡ urls ++ requests_from asked followed rest)
    → (rest : List Answer) → requests_of host ((answers ++ answer ∷ []) ++ rest) ≡ (urls ++ asked ∷ []) ++ requests_after (step_of asked followed answer) (λ web. requests_from web (followed + 1) rest)
asks_more host asked followed answers urls answer asks rest =
    ap (requests_of host) (append_assoc answers (answer ∷ []) rest) ∙ asks (answer ∷ rest)
    ∙ sym (append_assoc urls (asked ∷ []) (requests_after (step_of asked followed answer) (λ web. requests_from web (followed + 1) rest)))

more_counted : (answers : List Answer) (answer : Answer) (n : ℕ) → length answers ≡ n → length (answers ++ answer ∷ []) ≡ n + 1
more_counted [] answer n is = omega (arith, is)
more_counted (x ∷ answers) answer n is = let more = more_counted answers answer (length answers) refl in omega (arith, more, is)

more_lost : {E : Type 0} (answers : List Answer) (answer : Answer) (a b c : Fetcher) → RoseBy (missing answers) a.faults b.faults
    → HasCause (◌≡◌ {A = Result Answer E} (Ok answer) (Ok NoReply)) b.faults c.faults → RoseBy (missing (answers ++ answer ∷ [])) a.faults c.faults
more_lost answers answer a b c lost cause =
    subst (λ n. RoseBy n a.faults c.faults) (sym (missing_both answers (answer ∷ [])))
    (rose_then (missing answers) (missing (answer ∷ [])) a.faults b.faults c.faults lost (missing_one answer b.faults c.faults cause))

-- a redirect is followed
pub chain_more : {E : Type 0} (host asked web : List ℕ) (followed : ℕ) (answer : Answer) (a b c : Fetcher) → IsEarlier c.gives → Chained host asked followed a b → GoesOn b c
    → MakesAtMost 1 b c
    → given_since b c asked Robots answer → HasCause (◌≡◌ {A = Result Answer E} (Ok answer) (Ok NoReply)) b.faults c.faults → Follow web ≡ step_of asked followed answer
    → Chained host web (followed + 1) a c
chain_more host asked web followed answer a b c earlier far on one given cause step = record {
  answers = far.answers ++ answer ∷ [];
  urls = far.urls ++ asked ∷ [];
  count = more_counted far.answers answer followed far.count;
  says = λ rest. says_more host asked followed far.answers answer far.says rest ∙ ap (λ s. note_after s (λ web. note_from web (followed + 1) rest) rest) (sym step);
  asks = λ rest. asks_more host asked followed far.answers far.urls answer far.asks rest
      ∙ ap (λ s. (far.urls ++ asked ∷ []) ++ requests_after s (λ web. requests_from web (followed + 1) rest)) (sym step);
  given = zip_more (given_since a b) (given_since a c) (given_then a b c on) far.urls far.answers asked answer far.given (given_before a b c earlier far.goes_on asked Robots answer given);
  goes_on = goes_then a b c far.goes_on on;
  lost = more_lost far.answers answer a b c far.lost cause;
  asked_are = makes_then followed 1 a b c far.asked_are one;
}

-- it ends with what was found
pub chain_found : {E : Type 0} (host asked : List ℕ) (when followed : ℕ) (answer : Answer) (state : NoteState) (note : Note) (a b c : Fetcher) → IsEarlier c.gives → IsHost host
    → Chained host asked followed a b → GoesOn b c → MakesAtMost 1 b c → given_since b c asked Robots answer → HasCause (◌≡◌ {A = Result Answer E} (Ok answer) (Ok NoReply)) b.faults c.faults
    → Found state ≡ step_of asked followed answer → note.host ≡ host → note.when ≡ when → note.state ≡ state → FindsNote host when note a c
chain_found host asked when followed answer state note a b c earlier is_host far on one given cause step of_host of_when of_state =
    let answers = far.answers ++ answer ∷ [] in
    let urls = far.urls ++ asked ∷ [] in
    let given_all = zip_more (given_since a b) (given_since a c) (given_then a b c on) far.urls far.answers asked answer far.given (given_before a b c earlier far.goes_on asked Robots answer given) in
    let says : note_of host answers ≡ Some state =
    ap (note_of host) (sym (append-nil answers)) ∙ says_more host asked followed far.answers answer far.says [] ∙ ap (λ s. note_after s (λ web. note_from web (followed + 1) []) []) (sym step) in
    let asks : requests_of host answers ≡ urls =
    ap (requests_of host) (sym (append-nil answers)) ∙ asks_more host asked followed far.answers far.urls answer far.asks []
    ∙ ap (λ s. urls ++ requests_after s (λ web. requests_from web (followed + 1) [])) (sym step) ∙ append-nil urls in
    record {
      answers = answers;
      noted = record {
        host = subst IsHost (sym of_host) is_host;
        says = ap (λ h. note_of h answers) of_host ∙ says ∙ ap (λ s. Some s) (sym of_state);
        given = subst (λ (xs : List (List ℕ)). AllZip (λ url answer. given_since a c url Robots answer) xs answers) (sym (ap (λ h. requests_of h answers) of_host ∙ asks)) given_all;
      };
      host_is = of_host;
      when_is = of_when;
      lost = more_lost far.answers answer a b c far.lost cause;
      asked = let count = more_counted far.answers answer followed far.count in omega (arith, far.asked_are, one, count);
    }

-- memory ran out on the way
pub chain_refused : {E : Type 0} (result : Result Note E) (y : E) (host asked : List ℕ) (when followed : ℕ) (a b c : Fetcher) → result ≡ Err y → followed < 6 → Chained host asked followed a b
    → GoesOn b c → MakesAtMost 1 b c → FetchesNote result host when a c
chain_refused result y host asked when followed a b c is low far on one = record {
  ok = refused_if (λ (note : Note). FindsNote host when note a c) result y is;
  goes_on = goes_then a b c far.goes_on on;
  asked = omega (arith, low, far.asked_are, one);
}

-- one more answer would make the chain too long
pub chain_ends : (host asked : List ℕ) (a b : Fetcher) → ((host : List ℕ) (answers : List Answer) (state : NoteState) → note_of host answers ≡ Some state → length answers ≤ 6)
    → Chained host asked 6 a b → ⊥
chain_ends host asked a b short far =
    let more = far.answers ++ Coded ∷ [] in
    let few = short host more note.Shut (far.says (Coded ∷ [])) in
    let count = more_counted far.answers Coded 6 far.count in
    omega (arith, few, count)
