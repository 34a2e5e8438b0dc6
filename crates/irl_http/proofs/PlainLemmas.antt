-- Reading a body by its length, or until the connection ends: what each end of it comes to.
use Rattle.std.proofs.Common.{◌≡◌, ◌≢◌, ℕ, max, ◌+◌, ◌<◌, ◌≤◌, inl, inr, Bool, true, false, List, ◌++◌, Option, Result, Ok, IsErr, length, take, sym, ap, ◌∙◌, subst, arith, append_assoc, length-append}
use Rattle.std.proofs.lemmas.Result.{IfOk-from_err}
use Rattle.std.specs.Io.KnownBytes.{IsAtEnd}
use Rattle.std.specs.declared.alloc.AllocError.{AllocError}
use Rattle.httparse.specs.Grammar.{ResponseHead}
use Rattle.irl_base.specs.Limits.{max_page}
use Rattle.irl_offer.specs.declared.reply.Want.{Want}
use Rattle.irl_offer.specs.declared.reply.Answer.{Answer}
use Rattle.irl_offer.specs.declared.reply.Answer.TheVariants.{Reply, NoReply, Short, TooLarge}
use Rattle.irl_http.specs.declared.fields.Plan.{Plan}
use Rattle.irl_http.specs.declared.fields.Plan.TheVariants as plan
use Rattle.irl_http.specs.Fields.{plan_of}
use Rattle.irl_http.specs.Reading.{AnswersTaken, max_taken}
use Rattle.irl_http.specs.Reply.{TellsNothing, received}
use Rattle.irl_http.specs.Steps.{Gets, IsHeads, IsTarget, BodyRead}
use Rattle.irl_http.proofs.BodyLemmas.{plain_nothing, plain_long, plain_whole, target_most, most_small, until_close, not_until_close}
use Rattle.irl_http.proofs.ReadLemmas.{gets_as}

-- the reads of such a body were needed
pub plain_gets : (want : Want) (closes : Bool) (target : ℕ) (front body got : List ℕ) (h : ResponseHead) (l0 l1 r0 r1 : Option (List ℕ)) → IsHeads front h → IsTarget want closes target (plan_of h)
    → Gets (λ early. length body + length early < target) l0 l1 r0 r1 got → Gets (λ early. TellsNothing want ((front ++ body) ++ early)) l0 l1 r0 r1 got
plain_gets want closes target front body got h l0 l1 r0 r1 i is gets =
    gets_as (λ early. length body + length early < target) (λ early. TellsNothing want ((front ++ body) ++ early)) l0 l1 r0 r1 got
    (λ early few. subst (TellsNothing want) (sym (append_assoc front body early)) (plain_nothing want closes target front (body ++ early) h i is (omega (arith, length-append body early, few))))
    gets

-- all that was taken, and an answer of it
pub plain_body : (want : Want) (closes : Bool) (target : ℕ) (front body got now : List ℕ) (h : ResponseHead) (l0 l1 r0 r1 : Option (List ℕ)) (a : Answer) → IsHeads front h
    → IsTarget want closes target (plan_of h)
    → now ≡ body ++ got → Gets (λ early. length body + length early < target) l0 l1 r0 r1 got → length front + length now ≤ max_taken → AnswersTaken want (front ++ now) (IsAtEnd l1) a
    → BodyRead want (front ++ body) l0 l1 r0 r1 (Ok a)
plain_body want closes target front body got now h l0 l1 r0 r1 a i is same gets few answers =
    let whole : front ++ now ≡ (front ++ body) ++ got = ap (λ l. front ++ l) same ∙ sym (append_assoc front body got) in (
      got,
      plain_gets want closes target front body got h l0 l1 r0 r1 i is gets,
      omega (arith, ap length whole, length-append front now, few),
      subst (λ l. AnswersTaken want l (IsAtEnd l1) a) whole answers,
    )

-- heads, and as many bytes of a body as there may be, are few
pub plain_few : (want : Want) (closes : Bool) (target : ℕ) (front : List ℕ) (h : ResponseHead) (had piece now : ℕ) → IsHeads front h → IsTarget want closes target (plan_of h)
    → now ≤ max had (target + piece) → had ≤ 16385 → piece ≤ 16384 → length front + now ≤ max_taken
plain_few want closes target front h had piece now i is fits few small = omega (arith, i.has.fits, target_most want closes target (plan_of h) is, most_small want, fits, few, small)

closes_plan : (want : Want) (closes : Bool) (target : ℕ) (how : Plan) → closes ≡ true → IsTarget want closes target how → how ≡ plan.UntilClose
closes_plan want true target how on is = is.0
closes_plan want false target how on is = absurd (cc)

counted_plan : (want : Want) (closes : Bool) (target : ℕ) (how : Plan) → closes ≡ false → IsTarget want closes target how → how ≢ plan.UntilClose
counted_plan want true target how off is = absurd (cc)
counted_plan want false target how off (n, is, least) = λ e. let f : plan.Sized n ≡ plan.UntilClose = sym is ∙ e in absurd (cc)

-- where the bytes suffice
pub fills_long : (want : Want) (closes : Bool) (target : ℕ) (front now : List ℕ) (h : ResponseHead) (n : ℕ) (Ended : Type 0) → IsHeads front h → IsTarget want closes target (plan_of h)
    → target ≤ length now → max_page < target → n ≡ length front + target → AnswersTaken want (front ++ now) Ended (TooLarge n)
fills_long want closes target front now h n Ended i is within long size = inl (plain_long want closes target front now h n i is within long size)

pub fills : (want : Want) (closes : Bool) (target : ℕ) (front now : List ℕ) (h : ResponseHead) (Ended : Type 0) → IsHeads front h → IsTarget want closes target (plan_of h)
    → target ≤ length now → target ≤ max_page → AnswersTaken want (front ++ now) Ended (Reply (received h (take target now)))
fills want closes target front now h Ended i is within fits = inl (plain_whole want closes target front now h i is within fits)

-- where the connection ended
pub closes_whole : (want : Want) (closes : Bool) (target : ℕ) (front now : List ℕ) (h : ResponseHead) (Ended : Type 0) → IsHeads front h → IsTarget want closes target (plan_of h)
    → length now < target → Ended → closes ≡ true → AnswersTaken want (front ++ now) Ended (Reply (received h now))
closes_whole want closes target front now h Ended i is few ended on =
    inr (ended, plain_nothing want closes target front now h i is few, until_close front now h i (closes_plan want closes target (plan_of h) on is))

pub ends_short : (want : Want) (closes : Bool) (target : ℕ) (front now : List ℕ) (h : ResponseHead) (n : ℕ) (Ended : Type 0) → IsHeads front h → IsTarget want closes target (plan_of h)
    → length now < target → Ended → closes ≡ false → n ≡ length front + length now → AnswersTaken want (front ++ now) Ended (Short n)
ends_short want closes target front now h n Ended i is few ended off size =
    inr (
      ended,
      plain_nothing want closes target front now h i is few,
      (
        size ∙ sym (length-append front now),
        λ r. not_until_close front now h r i (counted_plan want closes target (plan_of h) off is),
      ),
    )

-- where the link failed
pub fails : (want : Want) (closes : Bool) (target : ℕ) (front now : List ℕ) (h : ResponseHead) (Ended : Type 0) → IsHeads front h → IsTarget want closes target (plan_of h)
    → length now < target → AnswersTaken want (front ++ now) Ended NoReply
fails want closes target front now h Ended i is few = plain_nothing want closes target front now h i is few

-- where there was no memory
pub plain_memory : (want : Want) (closes : Bool) (target : ℕ) (front body got : List ℕ) (h : ResponseHead) (l0 l1 r0 r1 : Option (List ℕ)) (result : Result Answer AllocError) → IsHeads front h
    → IsTarget want closes target (plan_of h)
    → Gets (λ early. length body + length early < target) l0 l1 r0 r1 got → length front + (length body + length got) ≤ max_taken → IsErr result → BodyRead want (front ++ body) l0 l1 r0 r1 result
plain_memory want closes target front body got h l0 l1 r0 r1 result i is gets few failed = (
  got,
  plain_gets want closes target front body got h l0 l1 r0 r1 i is gets,
  omega (arith, length-append (front ++ body) got, length-append front body, few),
  IfOk-from_err result _ failed,
)
