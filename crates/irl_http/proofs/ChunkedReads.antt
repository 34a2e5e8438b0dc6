-- Reading a body in chunks from a link: what was taken so far, and what each end of it comes to.
use Rattle.std.proofs.Common.{◌≡◌, ◌≢◌, ℕ, ◌+◌, ◌<◌, ◌≤◌, inl, inr, List, [], ◌++◌, Option, Result, Ok, Err, IsErr, length, take, drop, refl, sym, ap, ◌∙◌, subst, arith, append-nil, append_assoc, length-append, length-take}
use Rattle.std.proofs.lemmas.List.{take-append-le, take-append-drop}
use Rattle.std.proofs.lemmas.Result.{IfOk-from_err}
use Rattle.std.specs.Io.KnownBytes.{Consumes, IsAtEnd}
use Rattle.std.specs.declared.alloc.AllocError.{AllocError}
use Rattle.httparse.specs.Grammar.{ResponseHead}
use Rattle.irl_offer.specs.declared.reply.Want.{Want}
use Rattle.irl_offer.specs.declared.reply.Want.TheVariants.{Page, Robots}
use Rattle.irl_offer.specs.declared.reply.Answer.{Answer}
use Rattle.irl_offer.specs.declared.reply.Answer.TheVariants.{Reply, NoReply, Short, BadReply, TooLarge}
use Rattle.irl_http.specs.declared.chunks.Due.{Due}
use Rattle.irl_http.specs.declared.chunks.Progress.{Progress}
use Rattle.irl_http.specs.declared.chunks.Progress.TheVariants as progress
use Rattle.irl_http.specs.declared.fields.Plan.TheVariants as plan
use Rattle.irl_http.specs.Bodies.{most_of, QuietBody, QuietBelow, QuietAhead, IsDue, MovesOn, AdvanceAs}
use Rattle.irl_http.specs.Fields.{plan_of}
use Rattle.irl_http.specs.Reading.{AnswersTaken, max_taken}
use Rattle.irl_http.specs.Reply.{received, TellsNothing}
use Rattle.irl_http.specs.Steps.{Gets, IsHeads, BodyRead}
use Rattle.irl_http.proofs.BodyLemmas.{most_small, not_until_close}
use Rattle.irl_http.proofs.ChunkedLemmas.{quiet_join, chunked_nothing, chunked_whole, chunked_robots, chunked_long, chunked_bad, due_bound, not_close}
use Rattle.irl_http.proofs.ReadLemmas.{keeps_same, gets_read, gets_as}

-- with these behind the first bytes of a body in chunks, its head and they tell nothing
abbrev pub QuietChunks : Want → List ℕ → List ℕ → Type 0
QuietChunks want rest early = (front : List ℕ) (h : ResponseHead) → IsHeads front h → plan_of h ≡ plan.Chunked → TellsNothing want (front ++ (rest ++ early))

-- Of the bytes behind the heads and those that reads gave some were taken, which show nothing, and others are ahead.
pub record ChunksRead (want : Want) (rest ahead body : List ℕ) (next : Due) (start count : ℕ) (l0 l1 r0 r1 : Option (List ℕ)) : Type 0 where
  pub done : List ℕ
  pub got : List ℕ
  pub due_is : IsDue next body done
  pub size : count ≡ start + length done
  pub parts : rest ++ got ≡ done ++ ahead
  pub quiet : QuietBelow want plan.Chunked done (length done)
  pub gets : Gets (QuietChunks want rest) l0 l1 r0 r1 got

pub chunks_start : (want : Want) (rest body : List ℕ) (next : Due) (start : ℕ) (l r : Option (List ℕ)) → IsDue next body [] → ChunksRead want rest rest body next start start l l r r
chunks_start want rest body next start l r d = record {
  done = [];
  got = [];
  due_is = d;
  size = omega arith;
  parts = append-nil rest;
  quiet = λ m below. absurd (omega arith);
  gets = inl (refl, keeps_same l, refl);
}

-- the bytes ahead are too few for a step, so a read is needed
pub chunks_quiet : (want : Want) (rest ahead body : List ℕ) (next : Due) (start count : ℕ) (l0 l1 r0 r1 : Option (List ℕ)) → (r : ChunksRead want rest ahead body next start count l0 l1 r0 r1)
    → QuietAhead want r.done ahead (length ahead + 1) → QuietChunks want rest r.got
chunks_quiet want rest ahead body next start count l0 l1 r0 r1 r quiet front h i is =
    subst (λ l. TellsNothing want (front ++ l)) (sym r.parts) (chunked_nothing want front r.done ahead h i is r.quiet quiet)

regroup : (a b c d : List ℕ) → (a ++ (b ++ c)) ++ d ≡ (a ++ b) ++ (c ++ d)
regroup a b c d = simp append_assoc

rejoin : (done ahead more : List ℕ) (at : ℕ) → (done ++ ahead) ++ more ≡ (done ++ take at ahead) ++ (drop at ahead ++ more)
rejoin done ahead more at = ap (λ a. (done ++ a) ++ more) (sym (take-append-drop at ahead)) ∙ regroup done (take at ahead) (drop at ahead) more

whole_ahead : (done ahead : List ℕ) (at : ℕ) → done ++ ahead ≡ (done ++ take at ahead) ++ drop at ahead
whole_ahead done ahead at = ap (λ a. done ++ a) (sym (take-append-drop at ahead)) ∙ sym (append_assoc done (take at ahead) (drop at ahead))

quiet_taken : (want : Want) (done ahead : List ℕ) (at : ℕ) → QuietBelow want plan.Chunked done (length done) → QuietAhead want done ahead (length ahead + 1) → at ≤ length ahead
    → QuietBelow want plan.Chunked (done ++ take at ahead) (length (done ++ take at ahead))
quiet_taken want done ahead at before behind within m below =
    let same : take m (done ++ ahead) ≡ take m (done ++ take at ahead) = ap (take m) (whole_ahead done ahead at) ∙ take-append-le m (done ++ take at ahead) (drop at ahead) (omega (arith, below)) in
    subst (QuietBody want plan.Chunked) same (quiet_join want done ahead (length ahead + 1) before behind m (omega (arith, below, length-append done (take at ahead), length-take at ahead)))

-- what a step came to, by the bytes ahead
pub advanced : (want : Want) (done bytes ahead body : List ℕ) (next : Due) (at : ℕ) (p q : Progress) → bytes ≡ ahead → p ≡ q → AdvanceAs want done bytes next body at p
    → AdvanceAs want done ahead next body at q
advanced want done bytes ahead body next at p q same is step = subst (λ b. AdvanceAs want done b next body at q) same (subst (λ r. AdvanceAs want done bytes next body at r) is step)

pub moved : (want : Want) (bytes ahead body : List ℕ) (at : ℕ) (p q : Progress) → bytes ≡ ahead → p ≡ q → MovesOn want (length bytes) at (length body) p
    → MovesOn want (length ahead) at (length body) q
moved want bytes ahead body at p q same is moves = subst (λ b. MovesOn want (length b) at (length body) q) same (subst (λ r. MovesOn want (length bytes) at (length body) r) is moves)

-- it takes no bytes without saying what the others come to, so where it came to none of these it is open
pub is_open : (want : Want) (at ahead body : ℕ) (p : Progress) → ((n : ℕ) → p ≢ progress.Whole n) → ((n : ℕ) → p ≢ progress.Full n) → ((n : ℕ) → p ≢ progress.Bad n) → MovesOn want ahead at body p
    → p ≡ progress.Open
is_open want at ahead body (progress.Taken n) whole full bad moves = absurd moves
is_open want at ahead body progress.Open whole full bad moves = refl
is_open want at ahead body (progress.Whole n) whole full bad moves = absurd (whole n refl)
is_open want at ahead body (progress.Full n) whole full bad moves = absurd (full n refl)
is_open want at ahead body (progress.Bad n) whole full bad moves = absurd (bad n refl)

-- then few bytes are ahead
pub open_step : (want : Want) (done bytes ahead body : List ℕ) (next : Due) (at : ℕ) (p : Progress) → bytes ≡ ahead → ((n : ℕ) → p ≢ progress.Whole n) → ((n : ℕ) → p ≢ progress.Full n)
    → ((n : ℕ) → p ≢ progress.Bad n)
    → MovesOn want (length bytes) at (length body) p → AdvanceAs want done bytes next body at p → (at ≤ length ahead) × (length body < most_of want)
    × AdvanceAs want done ahead next body at progress.Open
open_step want done bytes ahead body next at p same whole full bad moves step =
    let is : p ≡ progress.Open = is_open want at (length bytes) (length body) p whole full bad moves in
    let m = moved want bytes ahead body at p progress.Open same is moves in
    (m.0, m.1, advanced want done bytes ahead body next at p progress.Open same is step)

-- how far it has come, as a number
pub chunks_far : (want : Want) (rest ahead body : List ℕ) (next : Due) (start count : ℕ) (l0 l1 r0 r1 : Option (List ℕ)) → ChunksRead want rest ahead body next start count l0 l1 r0 r1
    → length body < most_of want → count ≤ start + 271700000
chunks_far want rest ahead body next start count l0 l1 r0 r1 r room = omega (arith, r.size, due_bound next body r.done r.due_is, most_small want, room)

-- some of the bytes were taken, and others were read
pub chunks_on : (want : Want) (rest ahead body body2 : List ℕ) (next next2 : Due) (start count : ℕ) (l0 l1 l2 r0 r1 r2 : Option (List ℕ)) (at : ℕ) (more : List ℕ)
    → (r : ChunksRead want rest ahead body next start count l0 l1 r0 r1)
    → AdvanceAs want r.done ahead next2 body2 at progress.Open → at ≤ length ahead → Consumes l1 l2 more → r2 ≡ l1
    → ChunksRead want rest (drop at ahead ++ more) body2 next2 start (count + at) l0 l2 r0 r2
chunks_on want rest ahead body body2 next next2 start count l0 l1 l2 r0 r1 r2 at more r step within took last = record {
  done = r.done ++ take at ahead;
  got = r.got ++ more;
  due_is = step.1;
  size = omega (arith, r.size, length-append r.done (take at ahead), length-take at ahead, within);
  parts = sym (append_assoc rest r.got more) ∙ ap (λ l. l ++ more) r.parts ∙ rejoin r.done ahead more at;
  quiet = quiet_taken want r.done ahead at r.quiet step.0 within;
  gets = inr (gets_read (QuietChunks want rest) l0 l1 l2 r0 r1 r2 r.got more r.gets (chunks_quiet want rest ahead body next start count l0 l1 r0 r1 r step.0) took last);
}

-- all that was taken of the link
chunks_gets : (want : Want) (front rest got : List ℕ) (h : ResponseHead) (l0 l1 r0 r1 : Option (List ℕ)) → IsHeads front h → plan_of h ≡ plan.Chunked → Gets (QuietChunks want rest) l0 l1 r0 r1 got
    → Gets (λ early. TellsNothing want ((front ++ rest) ++ early)) l0 l1 r0 r1 got
chunks_gets want front rest got h l0 l1 r0 r1 i is gets =
    gets_as (QuietChunks want rest) (λ early. TellsNothing want ((front ++ rest) ++ early)) l0 l1 r0 r1 got
    (λ early quiet. subst (TellsNothing want) (sym (append_assoc front rest early)) (quiet front h i is))
    gets

chunks_answer : (want : Want) (front rest got : List ℕ) (h : ResponseHead) (l0 l1 r0 r1 : Option (List ℕ)) (a : Answer) → IsHeads front h → plan_of h ≡ plan.Chunked
    → Gets (QuietChunks want rest) l0 l1 r0 r1 got
    → length front + length (rest ++ got) ≤ max_taken → AnswersTaken want (front ++ (rest ++ got)) (IsAtEnd l1) a → BodyRead want (front ++ rest) l0 l1 r0 r1 (Ok a)
chunks_answer want front rest got h l0 l1 r0 r1 a i is gets few answers =
    let whole : front ++ (rest ++ got) ≡ (front ++ rest) ++ got = sym (append_assoc front rest got) in (
      got,
      chunks_gets want front rest got h l0 l1 r0 r1 i is gets,
      omega (arith, ap length whole, length-append front (rest ++ got), few),
      subst (λ l. AnswersTaken want l (IsAtEnd l1) a) whole answers,
    )

-- there is no memory after some bytes more
chunks_nowhere : (want : Want) (front rest got : List ℕ) (h : ResponseHead) (l0 l1 r0 r1 : Option (List ℕ)) (e : Result Answer AllocError) → IsErr e → IsHeads front h → plan_of h ≡ plan.Chunked
    → Gets (QuietChunks want rest) l0 l1 r0 r1 got
    → length front + length (rest ++ got) ≤ max_taken → BodyRead want (front ++ rest) l0 l1 r0 r1 e
chunks_nowhere want front rest got h l0 l1 r0 r1 e none i is gets few = (
  got,
  chunks_gets want front rest got h l0 l1 r0 r1 i is gets,
  omega (arith, length-append front rest, length-append rest got, length-append (front ++ rest) got, few),
  IfOk-from_err e (AnswersTaken want ((front ++ rest) ++ got) (IsAtEnd l1)) none,
)

chunks_few : (want : Want) (front rest ahead body : List ℕ) (next : Due) (start count : ℕ) (l0 l1 r0 r1 : Option (List ℕ)) → (r : ChunksRead want rest ahead body next start count l0 l1 r0 r1)
    → start ≡ length front → length front + length (rest ++ r.got) ≡ count + length ahead
chunks_few want front rest ahead body next start count l0 l1 r0 r1 r begins = omega (arith, r.size, ap length r.parts, length-append r.done ahead)

-- without another read
pub chunks_stopped : (want : Want) (front rest ahead body : List ℕ) (h : ResponseHead) (next : Due) (start count : ℕ) (l0 l1 r0 r1 : Option (List ℕ)) (e : Result Answer AllocError) → IsErr e
    → (r : ChunksRead want rest ahead body next start count l0 l1 r0 r1)
    → IsHeads front h → plan_of h ≡ plan.Chunked → start ≡ length front → count + length ahead ≤ max_taken → BodyRead want (front ++ rest) l0 l1 r0 r1 e
chunks_stopped want front rest ahead body h next start count l0 l1 r0 r1 e none r i is begins few =
    chunks_nowhere want front rest r.got h l0 l1 r0 r1 e none i is r.gets (omega (arith, chunks_few want front rest ahead body next start count l0 l1 r0 r1 r begins, few))

chunks_told : (want : Want) (front rest ahead body : List ℕ) (h : ResponseHead) (next : Due) (start count : ℕ) (l0 l1 r0 r1 : Option (List ℕ)) (a : Answer)
    → (r : ChunksRead want rest ahead body next start count l0 l1 r0 r1)
    → IsHeads front h → plan_of h ≡ plan.Chunked → start ≡ length front → count + length ahead ≤ max_taken → AnswersTaken want (front ++ (r.done ++ ahead)) (IsAtEnd l1) a
    → BodyRead want (front ++ rest) l0 l1 r0 r1 (Ok a)
chunks_told want front rest ahead body h next start count l0 l1 r0 r1 a r i is begins few answers =
    chunks_answer want front rest r.got h l0 l1 r0 r1 a i is r.gets
    (omega (arith, chunks_few want front rest ahead body next start count l0 l1 r0 r1 r begins, few))
    (subst (λ l. AnswersTaken want (front ++ l) (IsAtEnd l1) a) (sym r.parts) answers)

pub chunks_whole : (want : Want) (front rest ahead body body2 : List ℕ) (h : ResponseHead) (next next2 : Due) (start count at n : ℕ) (l0 l1 r0 r1 : Option (List ℕ))
    → (r : ChunksRead want rest ahead body next start count l0 l1 r0 r1)
    → IsHeads front h → plan_of h ≡ plan.Chunked → start ≡ length front → count + length ahead ≤ max_taken → AdvanceAs want r.done ahead next2 body2 at (progress.Whole n)
    → MovesOn want (length ahead) at (length body2) (progress.Whole n) → BodyRead want (front ++ rest) l0 l1 r0 r1 (Ok (Reply (received h body2)))
chunks_whole want front rest ahead body body2 h next next2 start count at n l0 l1 r0 r1 r i is begins few step moves =
    chunks_told want front rest ahead body h next start count l0 l1 r0 r1 (Reply (received h body2)) r i is begins few
    (inl (chunked_whole want front r.done ahead body2 h (at + n) i is r.quiet step.0 moves.0 step.1 moves.1))

pub chunks_bad : (want : Want) (front rest ahead body body2 : List ℕ) (h : ResponseHead) (next next2 : Due) (start count at n m : ℕ) (l0 l1 r0 r1 : Option (List ℕ))
    → (r : ChunksRead want rest ahead body next start count l0 l1 r0 r1)
    → IsHeads front h → plan_of h ≡ plan.Chunked → start ≡ length front → count + length ahead ≤ max_taken → AdvanceAs want r.done ahead next2 body2 at (progress.Bad n)
    → MovesOn want (length ahead) at (length body2) (progress.Bad n) → m ≡ count + (at + n) → BodyRead want (front ++ rest) l0 l1 r0 r1 (Ok (BadReply m))
chunks_bad want front rest ahead body body2 h next next2 start count at n m l0 l1 r0 r1 r i is begins few step moves place =
    chunks_told want front rest ahead body h next start count l0 l1 r0 r1 (BadReply m) r i is begins few
    (inl (chunked_bad want front r.done ahead h (at + n) m i is r.quiet step.0 moves step.1 (omega (arith, place, r.size, begins))))

-- a page is too long
pub chunks_long : (want : Want) (front rest ahead body body2 : List ℕ) (h : ResponseHead) (next next2 : Due) (start count at n m : ℕ) (l0 l1 r0 r1 : Option (List ℕ))
    → (r : ChunksRead want rest ahead body next start count l0 l1 r0 r1)
    → IsHeads front h → plan_of h ≡ plan.Chunked → start ≡ length front → count + length ahead ≤ max_taken → AdvanceAs want r.done ahead next2 body2 at (progress.Full n)
    → MovesOn want (length ahead) at (length body2) (progress.Full n) → want ≡ Page → m ≡ count + (at + n) → BodyRead want (front ++ rest) l0 l1 r0 r1 (Ok (TooLarge m))
chunks_long Page front rest ahead body body2 h next next2 start count at n m l0 l1 r0 r1 r i is begins few step moves page place =
    chunks_told Page front rest ahead body h next start count l0 l1 r0 r1 (TooLarge m) r i is begins few
    (inl (chunked_long front r.done ahead body2 h (at + n) m i is r.quiet step.0 moves.0 step.1 moves.1 (omega (arith, place, r.size, begins))))
chunks_long Robots front rest ahead body body2 h next next2 start count at n m l0 l1 r0 r1 r i is begins few step moves page place = absurd (cc)

-- of a robots file as many bytes came as are kept
pub chunks_robots : (want : Want) (front rest ahead body body2 : List ℕ) (h : ResponseHead) (next next2 : Due) (start count at n : ℕ) (l0 l1 r0 r1 : Option (List ℕ))
    → (r : ChunksRead want rest ahead body next start count l0 l1 r0 r1)
    → IsHeads front h → plan_of h ≡ plan.Chunked → start ≡ length front → count + length ahead ≤ max_taken → AdvanceAs want r.done ahead next2 body2 at (progress.Full n)
    → MovesOn want (length ahead) at (length body2) (progress.Full n) → ¬ (want ≡ Page) → BodyRead want (front ++ rest) l0 l1 r0 r1 (Ok (Reply (received h body2)))
chunks_robots Page front rest ahead body body2 h next next2 start count at n l0 l1 r0 r1 r i is begins few step moves other = absurd (other refl)
chunks_robots Robots front rest ahead body body2 h next next2 start count at n l0 l1 r0 r1 r i is begins few step moves other =
    chunks_told Robots front rest ahead body h next start count l0 l1 r0 r1 (Reply (received h body2)) r i is begins few
    (inl (chunked_robots front r.done ahead body2 h (at + n) i is r.quiet step.0 moves.0 step.1 moves.1))

-- behind an open step a read was made
pub chunks_unread : (want : Want) (front rest ahead body : List ℕ) (h : ResponseHead) (next : Due) (start count : ℕ) (l0 l1 l2 r0 r1 r2 : Option (List ℕ)) (more : List ℕ)
    (e : Result Answer AllocError) → IsErr e → (r : ChunksRead want rest ahead body next start count l0 l1 r0 r1)
    → IsHeads front h → plan_of h ≡ plan.Chunked → start ≡ length front → QuietAhead want r.done ahead (length ahead + 1) → Consumes l1 l2 more → r2 ≡ l1
    → count + length ahead + length more ≤ max_taken → BodyRead want (front ++ rest) l0 l2 r0 r2 e
chunks_unread want front rest ahead body h next start count l0 l1 l2 r0 r1 r2 more e none r i is begins quiet took last few =
    chunks_nowhere want front rest (r.got ++ more) h l0 l2 r0 r2 e none i is
    (inr (gets_read (QuietChunks want rest) l0 l1 l2 r0 r1 r2 r.got more r.gets (chunks_quiet want rest ahead body next start count l0 l1 r0 r1 r quiet) took last))
    (omega (arith, chunks_few want front rest ahead body next start count l0 l1 r0 r1 r begins, length-append rest r.got, length-append r.got more, length-append rest (r.got ++ more), few))

-- it gave nothing
chunks_ended : (want : Want) (front rest ahead body : List ℕ) (h : ResponseHead) (next : Due) (start count : ℕ) (l0 l1 l2 r0 r1 r2 : Option (List ℕ)) (a : Answer)
    → (r : ChunksRead want rest ahead body next start count l0 l1 r0 r1)
    → IsHeads front h → plan_of h ≡ plan.Chunked → start ≡ length front → QuietAhead want r.done ahead (length ahead + 1) → Consumes l1 l2 [] → r2 ≡ l1 → count + length ahead ≤ max_taken
    → (TellsNothing want (front ++ (rest ++ r.got)) → AnswersTaken want (front ++ (rest ++ r.got)) (IsAtEnd l2) a) → BodyRead want (front ++ rest) l0 l2 r0 r2 (Ok a)
chunks_ended want front rest ahead body h next start count l0 l1 l2 r0 r1 r2 a r i is begins quiet took last few answers =
    let open_here = chunks_quiet want rest ahead body next start count l0 l1 r0 r1 r quiet in
    let reads = gets_read (QuietChunks want rest) l0 l1 l2 r0 r1 r2 r.got [] r.gets open_here took last in
    chunks_answer want front rest r.got h l0 l2 r0 r2 a i is
    (subst (Gets (QuietChunks want rest) l0 l2 r0 r2) (append-nil r.got) (inr reads))
    (omega (arith, chunks_few want front rest ahead body next start count l0 l1 r0 r1 r begins, few))
    (answers (open_here front h i is))

pub chunks_failed : (want : Want) (front rest ahead body more : List ℕ) (h : ResponseHead) (next : Due) (start count : ℕ) (l0 l1 l2 r0 r1 r2 : Option (List ℕ))
    → (r : ChunksRead want rest ahead body next start count l0 l1 r0 r1)
    → IsHeads front h → plan_of h ≡ plan.Chunked → start ≡ length front → QuietAhead want r.done ahead (length ahead + 1) → Consumes l1 l2 more → more ≡ [] → r2 ≡ l1 → count + length ahead ≤ max_taken
    → BodyRead want (front ++ rest) l0 l2 r0 r2 (Ok NoReply)
chunks_failed want front rest ahead body more h next start count l0 l1 l2 r0 r1 r2 r i is begins quiet took none last few =
    chunks_ended want front rest ahead body h next start count l0 l1 l2 r0 r1 r2 NoReply r i is begins quiet (subst (Consumes l1 l2) none took) last few (λ nothing. nothing)

pub chunks_short : (want : Want) (front rest ahead body more : List ℕ) (h : ResponseHead) (next : Due) (start count n : ℕ) (l0 l1 l2 r0 r1 r2 : Option (List ℕ))
    → (r : ChunksRead want rest ahead body next start count l0 l1 r0 r1)
    → IsHeads front h → plan_of h ≡ plan.Chunked → start ≡ length front → QuietAhead want r.done ahead (length ahead + 1) → Consumes l1 l2 more → more ≡ [] → r2 ≡ l1 → count + length ahead ≤ max_taken
    → IsAtEnd l2 → n ≡ count + length ahead → BodyRead want (front ++ rest) l0 l2 r0 r2 (Ok (Short n))
chunks_short want front rest ahead body more h next start count n l0 l1 l2 r0 r1 r2 r i is begins quiet took none last few at_end size =
    chunks_ended want front rest ahead body h next start count l0 l1 l2 r0 r1 r2 (Short n) r i is begins quiet (subst (Consumes l1 l2) none took) last few
    (λ nothing. inr (
      at_end,
      nothing,
      (
        omega (arith, size, chunks_few want front rest ahead body next start count l0 l1 r0 r1 r begins, length-append front (rest ++ r.got)),
        λ reply close. not_until_close front (rest ++ r.got) h reply i (not_close (plan_of h) is) close,
      ),
    ))

-- want of memory is no answer
pub unanswered : (e : Result Answer AllocError) (a : Answer) → IsErr e → e ≢ Ok a
unanswered (Ok b) a none is = absurd (cc)
unanswered (Err e) a none is = absurd (cc)
