-- What the steps of reading a reply come to together.
use Rattle.std.proofs.Common.{◌≡◌, ℕ, ◌+◌, ◌-◌, ◌≤◌, inl, inr, List, [], ◌++◌, Option, Result, Ok, Err, IsErr, IfOk, length, take, drop, refl, sym, ap, ◌∙◌, subst, arith, append-nil, length-append, length-take, length-drop}
use Rattle.std.proofs.lemmas.List.{take_all, take-append-drop}
use Rattle.std.proofs.lemmas.Result.{IfOk-from_err}
use Rattle.std.specs.Io.KnownBytes.{Consumes, IsAtEnd}
use Rattle.std.specs.declared.alloc.AllocError.{AllocError}
use Rattle.httparse.specs.Grammar.{ResponseHead}
use Rattle.irl_base.specs.Faults.{HasCause}
use Rattle.irl_offer.specs.declared.reply.Want.{Want}
use Rattle.irl_offer.specs.declared.reply.Answer.{Answer}
use Rattle.irl_offer.specs.declared.reply.Answer.TheVariants.{NoReply, Short}
use Rattle.irl_http.specs.declared.reading.Heads.{Heads}
use Rattle.irl_http.specs.declared.reading.Heads.TheVariants as heads
use Rattle.irl_http.specs.Heads.{max_heads}
use Rattle.irl_http.specs.Parsing.{EndsHeads, HasNoHeadYet}
use Rattle.irl_http.specs.Reading.{Reads, ReadsNeeded, ReadsAnswer, ReadsNoMore, AnswersTaken, max_taken}
use Rattle.irl_http.specs.Reply.{Shows, Tells, TellsNothing}
use Rattle.irl_http.specs.Steps.{Gets, IsQuiet, HeadsAs, HeadsRead, BodyRead}
use Rattle.irl_http.proofs.BodyLemmas.{from_ends, tells_head}
use Rattle.irl_http.proofs.ReadLemmas.{keeps_same, gets_read, reads_on}

-- quiet bytes tell nothing, whatever is wanted
pub quiet_tells : (want : Want) (bytes : List ℕ) → IsQuiet bytes → TellsNothing want bytes
quiet_tells want bytes quiet n a within s = quiet want n a (omega arith) (omega arith) s

-- what the end of reading heads comes to, after one read more
pub heads_read : (l0 l1 l2 r0 r1 r2 : Option (List ℕ)) (had got bytes : List ℕ) (result : Result Heads AllocError) → Gets IsQuiet l0 l1 r0 r1 had → IsQuiet had → Consumes l1 l2 got → r2 ≡ l1
    → length had + length got ≤ max_heads + 1 → IfOk result (λ read. (bytes ≡ had ++ got) × HeadsAs (had ++ got) l2 read) → HeadsRead l0 l2 r2 bytes result
heads_read l0 l1 l2 r0 r1 r2 had got bytes result gets quiet took last few ok =
    (had ++ got, gets_read IsQuiet l0 l1 l2 r0 r1 r2 had got gets quiet took last, omega (arith, length-append had got, few), ok)

pub heads_ok : (l0 l1 l2 r0 r1 r2 : Option (List ℕ)) (had got bytes : List ℕ) (read : Heads) → Gets IsQuiet l0 l1 r0 r1 had → IsQuiet had → Consumes l1 l2 got → r2 ≡ l1
    → length had + length got ≤ max_heads + 1 → bytes ≡ had ++ got → HeadsAs (had ++ got) l2 read → HeadsRead l0 l2 r2 bytes (Ok read)
heads_ok l0 l1 l2 r0 r1 r2 had got bytes read gets quiet took last few same is = heads_read l0 l1 l2 r0 r1 r2 had got bytes (Ok read) gets quiet took last few (same, is)

-- the connection ended before the head of a reply
pub heads_short : (had got : List ℕ) (after : Option (List ℕ)) (n : ℕ) → IsQuiet had → HasNoHeadYet had → got ≡ [] → IsAtEnd after → n ≡ length (had ++ got)
    → HeadsAs (had ++ got) after (heads.Answer (Short n))
heads_short had got after n quiet none nothing ended size =
    let same : had ≡ had ++ got = sym (append-nil had) ∙ ap (λ l. had ++ l) (sym nothing) in
    λ want. inr (ended, subst (TellsNothing want) same (quiet_tells want had quiet), (size, λ reply u. subst HasNoHeadYet same none u.head u.rest u.has))

-- the link failed before it
pub heads_fail : (had got : List ℕ) (after : Option (List ℕ)) → IsQuiet had → got ≡ [] → HeadsAs (had ++ got) after (heads.Answer NoReply)
heads_fail had got after quiet nothing =
    let same : had ≡ had ++ got = sym (append-nil had) ∙ ap (λ l. had ++ l) (sym nothing) in
    λ want. subst (TellsNothing want) same (quiet_tells want had quiet)

-- nothing of the link is read for this answer
pub unread : (want : Want) (bytes : List ℕ) (l r : Option (List ℕ)) (a : Answer) → length bytes ≤ max_taken → AnswersTaken want bytes (IsAtEnd l) a → BodyRead want bytes l l r r (Ok a)
unread want bytes l r a few answers = (
  [],
  inl (refl, keeps_same l, refl),
  omega (arith, ap length (append-nil bytes), few),
  subst (λ b. AnswersTaken want b (IsAtEnd l) a) (sym (append-nil bytes)) answers,
)

pub unread_memory : (want : Want) (bytes : List ℕ) (l r : Option (List ℕ)) (result : Result Answer AllocError) → length bytes ≤ max_taken → IsErr result → BodyRead want bytes l l r r result
unread_memory want bytes l r result few failed = ([], inl (refl, keeps_same l, refl), omega (arith, ap length (append-nil bytes), few), IfOk-from_err result _ failed)

-- what the head tells alone
pub head_tells : (want : Want) (bytes : List ℕ) (start : ℕ) (h : ResponseHead) (a : Answer) → EndsHeads bytes start h → Shows want (take start bytes) a → Tells want bytes a
head_tells want bytes start h a ends shows = subst (λ l. Tells want l a) (take-append-drop start bytes) (tells_head want (take start bytes) (drop start bytes) h a (from_ends bytes start h ends) shows)

-- what is read behind a head is read behind the bytes
pub behind_head : (want : Want) (bytes rest : List ℕ) (start : ℕ) (l0 l1 r0 r1 : Option (List ℕ)) (result : Result Answer AllocError) → rest ≡ drop start bytes
    → BodyRead want (take start bytes ++ rest) l0 l1 r0 r1 result → BodyRead want bytes l0 l1 r0 r1 result
behind_head want bytes rest start l0 l1 r0 r1 result is read =
    subst (λ b. BodyRead want b l0 l1 r0 r1 result) (ap (λ l. take start bytes ++ l) is ∙ take-append-drop start bytes) read

pub start_is : (bytes : List ℕ) (start : ℕ) → start ≤ length bytes → start ≡ length (take start bytes)
start_is bytes start within = omega (arith, length-take start bytes)

-- what stands behind a place, as a slice to the end
pub rest_is : (bytes : List ℕ) (start : ℕ) → take (length bytes - start) (drop start bytes) ≡ drop start bytes
rest_is bytes start = take_all (length bytes - start) (drop start bytes) (omega (arith, length-drop start bytes))

-- heads and a body together
reads_as : (P Q : List ℕ → Type 0) (l0 l1 last : Option (List ℕ)) (got : List ℕ) → ((early : List ℕ) → P early → Q early) → Reads P l0 l1 last got → Reads Q l0 l1 last got
reads_as P Q l0 l1 last got follows reads = record {
  early = reads.early;
  piece = reads.piece;
  bytes = reads.bytes;
  parts = reads.parts;
  last_read = reads.last_read;
  needed = follows reads.early reads.needed;
}

pub heads_needed : (want : Want) (l0 l1 r1 : Option (List ℕ)) (taken : List ℕ) → Reads IsQuiet l0 l1 r1 taken → length taken ≤ max_heads + 1 → ReadsNeeded want l0 l1 r1 taken
heads_needed want l0 l1 r1 taken reads few = record { reads = reads_as IsQuiet (TellsNothing want) l0 l1 r1 taken (λ early quiet. quiet_tells want early quiet) reads; few = omega arith }

body_needed : (want : Want) (l0 l1 l2 r1 r2 : Option (List ℕ)) (bytes got : List ℕ) → Reads IsQuiet l0 l1 r1 bytes → Gets (λ early. TellsNothing want (bytes ++ early)) l1 l2 r1 r2 got
    → length (bytes ++ got) ≤ max_taken → ReadsNeeded want l0 l2 r2 (bytes ++ got)
body_needed want l0 l1 l2 r1 r2 bytes got reads gets few = record {
  reads = reads_on (TellsNothing want) l0 l1 l2 r1 r1 r2 bytes got (reads_as IsQuiet (TellsNothing want) l0 l1 r1 bytes (λ early quiet. quiet_tells want early quiet) reads) gets;
  few = few;
}

pub body_answer : (want : Want) (l0 l1 l2 r1 r2 : Option (List ℕ)) (bytes : List ℕ) (result : Result Answer AllocError) → Reads IsQuiet l0 l1 r1 bytes → BodyRead want bytes l1 l2 r1 r2 result
    → IfOk result (ReadsAnswer want l0 l2 r2)
body_answer want l0 l1 l2 r1 r2 bytes (Ok a) reads (got, gets, few, answers) = record { taken = bytes ++ got; needed = body_needed want l0 l1 l2 r1 r2 bytes got reads gets few; answers = answers }
body_answer want l0 l1 l2 r1 r2 bytes (Err e) reads read = tt

pub body_memory : (want : Want) (l0 l1 l2 r1 r2 : Option (List ℕ)) (bytes : List ℕ) (result : Result Answer AllocError) → Reads IsQuiet l0 l1 r1 bytes → BodyRead want bytes l1 l2 r1 r2 result
    → ReadsNoMore want l0 l2 r2
body_memory want l0 l1 l2 r1 r2 bytes result reads (got, gets, few, rest) = inr (bytes ++ got, body_needed want l0 l1 l2 r1 r2 bytes got reads gets few)

-- a cause among what was read later is one of all
pub cause_behind : (answered : Type 0) (f0 f1 f2 : ℕ) → f0 ≤ f1 → HasCause answered f1 f2 → HasCause answered f0 f2
cause_behind answered f0 f1 f2 before cause = record {
  later = omega (arith, before, cause.later);
  rose = λ a. omega (arith, before, cause.rose a);
}
