-- A tape has one chain of answers for each host.
use Rattle.std.proofs.Common.{◌≡◌, ◌∙◌, ℕ, zero, suc, ◌+◌, ◌<◌, ◌≤◌, List, [], ◌∷◌, Some, None, refl, sym, ap, subst, arith}
use Rattle.std.specs.List.{AllZip}
use Rattle.irl_answer.specs.declared.notes.Step.{Step}
use Rattle.irl_answer.specs.declared.notes.Step.TheVariants.{Follow, Found}
use Rattle.irl_answer.specs.Notes.{found_last, note_after, note_from, requests_after, requests_from, step_of}
use Rattle.irl_answer.proofs.Chains.{followed_few}
use Rattle.irl_key.specs.Web.{robots_text}
use Rattle.irl_offer.specs.declared.note.NoteState.{NoteState}
use Rattle.irl_offer.specs.declared.reply.Answer.{Answer}
use Rattle.irl_offer.specs.declared.reply.Want.TheVariants.{Robots}
use Rattle.irl_record.specs.Fetched.{by_tape}
use Rattle.irl_record.specs.Taped.{Taped}
use Rattle.irl_reach.specs.Tapes.{IsNoteOn, answer_on}

module _ (tape : Taped) where
  -- the tape gives an answer to a request for a robots file
  abbrev pub Gives : List ℕ → Answer → Type 0
  Gives url answer = by_tape tape url Robots answer

  -- what the answers from a request on come to, after so many redirects
  pub record ChainFrom (asked : List ℕ) (followed : ℕ) : Type 0 where
    pub answers : List Answer
    pub given : AllZip Gives (requests_from asked followed answers) answers
    pub state : NoteState
    pub says : note_from asked followed answers ≡ Some state

  chain_by : (asked : List ℕ) (followed : ℕ) (step : Step) → step_of asked followed (answer_on tape asked) ≡ step
      → ((web : List ℕ) → step_of asked followed (answer_on tape asked) ≡ Follow web → ChainFrom web (followed + 1)) → ChainFrom asked followed
  chain_by asked followed (Follow web) is later =
      let rest = later web is in
      record {
        answers = answer_on tape asked ∷ rest.answers;
        given = (refl, subst (λ (s : Step). AllZip Gives (requests_after s (λ w. requests_from w (followed + 1) rest.answers)) rest.answers) (sym is) rest.given);
        state = rest.state;
        says = ap (λ (s : Step). note_after s (λ w. note_from w (followed + 1) rest.answers) rest.answers) is ∙ rest.says;
      }
  chain_by asked followed (Found state) is later = record {
    answers = answer_on tape asked ∷ [];
    given = (refl, subst (λ (s : Step). AllZip Gives (requests_after s (λ w. requests_from w (followed + 1) [])) []) (sym is) tt);
    state = state;
    says = ap (λ (s : Step). note_after s (λ w. note_from w (followed + 1) []) []) is;
  }

  -- redirects come to an end
  pub some_chain : (n : ℕ) (asked : List ℕ) (followed : ℕ) → followed ≤ 5 → 6 ≤ followed + n → ChainFrom asked followed
  some_chain zero asked followed few enough = absurd (omega arith)
  some_chain (suc n) asked followed few enough =
      chain_by asked followed (step_of asked followed (answer_on tape asked)) refl (λ web is.
      let fewer : followed < 5 = followed_few asked followed (answer_on tape asked) web is in
      some_chain n web (followed + 1) (omega arith) (omega arith))

  last_is : (found state : NoteState) (more : List Answer) → found_last found more ≡ Some state → found ≡ state
  last_is found state [] is = let same : Some found ≡ Some state = is in cc
  last_is found state (answer ∷ more) is = let no : None ≡ Some state = is in absurd (cc)

  one_by : (step : Step) (followed : ℕ) (us vs : List Answer) (one other : NoteState)
      → ((web : List ℕ) → AllZip Gives (requests_from web (followed + 1) us) us → AllZip Gives (requests_from web (followed + 1) vs) vs → note_from web (followed + 1) us ≡ Some one
      → note_from web (followed + 1) vs ≡ Some other → one ≡ other)
      → AllZip Gives (requests_after step (λ web. requests_from web (followed + 1) us)) us → AllZip Gives (requests_after step (λ web. requests_from web (followed + 1) vs)) vs
      → note_after step (λ web. note_from web (followed + 1) us) us ≡ Some one → note_after step (λ web. note_from web (followed + 1) vs) vs ≡ Some other → one ≡ other
  one_by (Follow web) followed us vs one other later g h says also = later web g h says also
  one_by (Found state) followed us vs one other later g h says also = sym (last_is state one us says) ∙ last_is state other vs also

  -- two chains say the same
  one_chain : (us vs : List Answer) (asked : List ℕ) (followed : ℕ) (one other : NoteState) → AllZip Gives (requests_from asked followed us) us → AllZip Gives (requests_from asked followed vs) vs
      → note_from asked followed us ≡ Some one → note_from asked followed vs ≡ Some other → one ≡ other
  one_chain [] vs asked followed one other g h says also = let no : None ≡ Some one = says in absurd (cc)
  one_chain (a ∷ us) [] asked followed one other g h says also = let no : None ≡ Some other = also in absurd (cc)
  one_chain (a ∷ us) (b ∷ vs) asked followed one other g h says also =
      let same : b ≡ a = h.0 ∙ sym g.0 in
      let step : Answer → Step = λ c. step_of asked followed c in
      one_by (step a) followed us vs one other (λ web. one_chain us vs web (followed + 1) one other) g.1
      (subst (λ (c : Answer). AllZip Gives (requests_after (step c) (λ web. requests_from web (followed + 1) vs)) vs) same h.1) says
      (subst (λ (c : Answer). note_after (step c) (λ web. note_from web (followed + 1) vs) vs ≡ Some other) same also)

  pub some_note : (host : List ℕ) → (state : NoteState) × IsNoteOn tape host state
  some_note host =
      let chain = some_chain 6 (robots_text host) 0 (omega arith) (omega arith) in
      (chain.state, record { answers = chain.answers; given = chain.given; says = chain.says })

  pub one_note : (host : List ℕ) (one other : NoteState) → IsNoteOn tape host one → IsNoteOn tape host other → one ≡ other
  one_note host one other g h = one_chain g.answers h.answers (robots_text host) 0 one other g.given h.given g.says h.says
