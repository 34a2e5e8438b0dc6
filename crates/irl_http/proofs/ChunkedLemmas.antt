-- Reading a body in chunks to its end.
use Rattle.std.proofs.Common.{◌≡◌, ◌≢◌, ℕ, ◌+◌, ◌*◌, ◌-◌, ◌<◌, ◌≤◌, inl, inr, List, [], ◌∷◌, ◌++◌, length, take, refl, sym, ap, ◌∙◌, subst, arith, length-append, length-take}
use Rattle.std.specs.List.{AllByRecursion}
use Rattle.std.proofs.lemmas.Bool.{cases_lt}
use Rattle.std.proofs.lemmas.List.{take-append-le}
use Rattle.std.proofs.Math.Seq.{take-append-add}
use Rattle.httparse.specs.Ascii.{crlf_bytes}
use Rattle.httparse.specs.Grammar.{ResponseHead, print_chunk_line}
use Rattle.irl_base.specs.Limits.{max_page, max_robots}
use Rattle.irl_offer.specs.declared.reply.Want.{Want}
use Rattle.irl_offer.specs.declared.reply.Want.TheVariants.{Page, Robots}
use Rattle.irl_offer.specs.declared.reply.Answer.{Answer}
use Rattle.irl_offer.specs.declared.reply.Answer.TheVariants.{Reply, BadReply, TooLarge}
use Rattle.irl_http.specs.declared.chunks.Due.{Due}
use Rattle.irl_http.specs.declared.chunks.Due.TheVariants as due
use Rattle.irl_http.specs.declared.fields.Plan.{Plan}
use Rattle.irl_http.specs.declared.fields.Plan.TheVariants as plan
use Rattle.irl_http.specs.Bodies.{most_of, QuietBody, QuietBelow, QuietAhead, IsDue, InChunk}
use Rattle.irl_http.specs.Chunks.{Chunk, IsChunk, print_chunk, print_chunks, content_of, EndsChunks, EndsInChunk, BreaksChunks}
use Rattle.irl_http.specs.Fields.{plan_of}
use Rattle.irl_http.specs.Reply.{received, Takes, EndsInBody, Shows, Tells, TellsNothing}
use Rattle.irl_http.specs.Steps.{IsHeads}
use Rattle.irl_http.proofs.BodyLemmas.{IsRead, nothing_behind, tells_behind, shows_body, shows_long, shows_broken}

chunks_bound : (cs : List Chunk) → AllByRecursion IsChunk cs → length (print_chunks cs) ≤ 259 * length (content_of cs)
chunks_bound [] v = omega arith
chunks_bound (c ∷ cs) v =
    omega (
      arith,
      length-append (print_chunk c) (print_chunks cs),
      length-append (print_chunk_line c.line) (c.bytes ++ crlf_bytes),
      length-append c.bytes crlf_bytes,
      length-append c.bytes (content_of cs),
      v.0.line.short,
      v.0.some,
      chunks_bound cs v.1,
    )

in_bound : (left : ℕ) (behind body done : List ℕ) → InChunk left behind body done → length behind ≤ 1 → length done ≤ 259 * length body + 258
in_bound left behind body done a few =
    omega (
      arith,
      ap length a.whole,
      length-append (print_chunks a.chunks) (print_chunk_line a.line ++ (a.part ++ behind)),
      length-append (print_chunk_line a.line) (a.part ++ behind),
      length-append a.part behind,
      ap length a.body_is,
      length-append (content_of a.chunks) a.part,
      chunks_bound a.chunks a.valid,
      a.short.short,
      few,
    )

-- a chunk brings a byte, and takes at most 258 more
pub due_bound : (d : Due) (body done : List ℕ) → IsDue d body done → length done ≤ 259 * length body + 258
due_bound due.Line body done a = omega (arith, ap length a.whole, ap length a.body_is, chunks_bound a.chunks a.valid)
due_bound (due.Part left) body done a = in_bound left [] body done a.1 (omega arith)
due_bound due.CarriageReturn body done a = in_bound 0 [] body done a (omega arith)
due_bound due.LineFeed body done a = in_bound 0 (13 ∷ []) body done a (omega arith)

-- quiet bytes, and quiet ones ahead of them
pub quiet_join : (want : Want) (done ahead : List ℕ) (n : ℕ) → QuietBelow want plan.Chunked done (length done) → QuietAhead want done ahead n
    → QuietBelow want plan.Chunked (done ++ ahead) (length done + n)
quiet_join want done ahead n before behind m below = elim (cases_lt m (length done)) [
  | inl less ↦ subst (QuietBody want plan.Chunked) (sym (take-append-le m done ahead (omega arith))) (before m less)
  | inr more ↦
      let split : m ≡ length done + (m - length done) = omega arith in
      let same : take m (done ++ ahead) ≡ done ++ take (m - length done) ahead = ap (λ k. take k (done ++ ahead)) split ∙ take-append-add done ahead (m - length done) in
      subst (QuietBody want plan.Chunked) (sym same) (behind (m - length done) (omega arith))
]

is_read : (how : Plan) → how ≡ plan.Chunked → IsRead how
is_read how is = (λ e. let f : plan.Chunked ≡ plan.Coded = sym is ∙ e in absurd (cc), λ e. let f : plan.Chunked ≡ plan.BadLength = sym is ∙ e in absurd (cc))

as_plan : (want : Want) (how : Plan) (rest : List ℕ) (n : ℕ) → how ≡ plan.Chunked → QuietBelow want plan.Chunked rest n → QuietBelow want how rest n
as_plan want how rest n is quiet = subst (λ p. QuietBelow want p rest n) (sym is) quiet

-- all bytes so far tell nothing
pub chunked_nothing : (want : Want) (front done ahead : List ℕ) (h : ResponseHead) → IsHeads front h → plan_of h ≡ plan.Chunked → QuietBelow want plan.Chunked done (length done)
    → QuietAhead want done ahead (length ahead + 1) → TellsNothing want (front ++ (done ++ ahead))
chunked_nothing want front done ahead h i is before behind =
    let size : length done + (length ahead + 1) ≡ length (done ++ ahead) + 1 = omega (arith, length-append done ahead) in
    nothing_behind want front (done ++ ahead) h i (is_read (plan_of h) is) (as_plan want (plan_of h) (done ++ ahead) (length (done ++ ahead) + 1) is
    (subst (QuietBelow want plan.Chunked (done ++ ahead)) size (quiet_join want done ahead (length ahead + 1) before behind)))

-- what so many bytes ahead tell
tells_ahead : (want : Want) (front done ahead : List ℕ) (h : ResponseHead) (n : ℕ) (a : Answer) → IsHeads front h → plan_of h ≡ plan.Chunked → QuietBelow want plan.Chunked done (length done)
    → QuietAhead want done ahead n → n ≤ length ahead
    → Shows want (front ++ (done ++ take n ahead)) a → Tells want (front ++ (done ++ ahead)) a
tells_ahead want front done ahead h n a i is before behind within shows =
    tells_behind want front (done ++ ahead) h (length done + n) a i (is_read (plan_of h) is)
    (as_plan want (plan_of h) (done ++ ahead) (length done + n) is (quiet_join want done ahead n before behind)) (omega (arith, length-append done ahead))
    (subst (λ l. Shows want (front ++ l) a) (sym (take-append-add done ahead n)) shows)

most_page : (want : Want) (n : ℕ) → n < most_of want → n ≤ max_page
most_page Page n few = omega arith
most_page Robots n few = omega arith

pub chunked_whole : (want : Want) (front done ahead body : List ℕ) (h : ResponseHead) (n : ℕ) → IsHeads front h → plan_of h ≡ plan.Chunked → QuietBelow want plan.Chunked done (length done)
    → QuietAhead want done ahead n → n ≤ length ahead
    → EndsChunks (done ++ take n ahead) body → length body < most_of want → Tells want (front ++ (done ++ ahead)) (Reply (received h body))
chunked_whole want front done ahead body h n i is before behind within ends few =
    tells_ahead want front done ahead h n _ i is before behind within (shows_body want front (done ++ take n ahead) body h i (subst (λ p. Takes want p (done ++ take n ahead) body) (sym is) (inl ends))
    (most_page want (length body) few))

pub chunked_robots : (front done ahead body : List ℕ) (h : ResponseHead) (n : ℕ) → IsHeads front h → plan_of h ≡ plan.Chunked → QuietBelow Robots plan.Chunked done (length done)
    → QuietAhead Robots done ahead n → n ≤ length ahead
    → EndsInChunk (done ++ take n ahead) body → length body ≡ max_robots → Tells Robots (front ++ (done ++ ahead)) (Reply (received h body))
chunked_robots front done ahead body h n i is before behind within ends full =
    tells_ahead Robots front done ahead h n _ i is before behind within (shows_body Robots front (done ++ take n ahead) body h i
    (subst (λ p. Takes Robots p (done ++ take n ahead) body) (sym is) (inr (refl, ends, full))) (omega (arith, full)))

pub chunked_long : (front done ahead body : List ℕ) (h : ResponseHead) (n count : ℕ) → IsHeads front h → plan_of h ≡ plan.Chunked → QuietBelow Page plan.Chunked done (length done)
    → QuietAhead Page done ahead n → n ≤ length ahead
    → EndsInChunk (done ++ take n ahead) body → length body ≡ max_page + 1 → count ≡ length front + length done + n → Tells Page (front ++ (done ++ ahead)) (TooLarge count)
chunked_long front done ahead body h n count i is before behind within ends full size =
    tells_ahead Page front done ahead h n _ i is before behind within (shows_long Page front (done ++ take n ahead) body h count i refl
    (subst (λ p. EndsInBody p (done ++ take n ahead) body) (sym is) ends) (omega (arith, full)) (omega (arith, size, length-append done (take n ahead), length-take n ahead)))

pub chunked_bad : (want : Want) (front done ahead : List ℕ) (h : ResponseHead) (n count : ℕ) → IsHeads front h → plan_of h ≡ plan.Chunked → QuietBelow want plan.Chunked done (length done)
    → QuietAhead want done ahead n → n ≤ length ahead
    → BreaksChunks (done ++ take n ahead) → count ≡ length front + length done + n → Tells want (front ++ (done ++ ahead)) (BadReply count)
chunked_bad want front done ahead h n count i is before behind within broken size =
    tells_ahead want front done ahead h n _ i is before behind within (shows_broken want front (done ++ take n ahead) h count i is broken
    (omega (arith, size, length-append done (take n ahead), length-take n ahead)))

pub not_close : (how : Plan) → how ≡ plan.Chunked → how ≢ plan.UntilClose
not_close how is e = let f : plan.Chunked ≡ plan.UntilClose = sym is ∙ e in absurd (cc)
