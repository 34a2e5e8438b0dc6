-- The heads and then the body.
use Rattle.std.proofs.Common.{◌≡◌, Ok, length, inl, inr, sym, ap, ◌∙◌, subst, arith}
use Rattle.irl_offer.specs.declared.reply.Answer.TheVariants.{NoReply}
use Rattle.irl_http.specs.declared.reading.Heads.TheVariants as heads
use Rattle.irl_http.specs.Parsing.{EndsHeads}
use Rattle.irl_http.specs.Steps.{HeadsAs, BodyRead}
use Rattle.irl_http.proofs.AnswerLemmas.{heads_needed, body_answer, body_memory, cause_behind}
use Rattle.irl_http.proofs.ChunkedReads.{unanswered}
use Rattle.irl_http.proofs.ReadLemmas.{keeps_same, keeps_on, stay_same, stay_on}
use Rattle.irl_http.proofs.reply.read_reply.Goals as goal

pub returns-in_err-piece-clause-memory : goal.returns-in_err-piece-clause-memory
returns-in_err-piece-clause-memory g c = λ failed. inl (keeps_same (g.L.Link.left c.args.link.now))

pub returns-in_err-piece-clause-written : goal.returns-in_err-piece-clause-written
returns-in_err-piece-clause-written g c = keeps_same (g.L.Link.written c.args.link.now)

pub returns-in_err-piece-clause-connections : goal.returns-in_err-piece-clause-connections
returns-in_err-piece-clause-connections g c = stay_same (g.L.Link.connections c.args.link.now)

pub returns-in_err-head-clause-memory : goal.returns-in_err-head-clause-memory
returns-in_err-head-clause-memory g c = λ failed.
    let link = g.L.Link in
    let read = c.read_heads.ensures.read in
    inr (read.0, heads_needed c.args.want (link.left c.args.link.now) (link.left c.read_heads.new.link) (link.left_at_read c.read_heads.new.link) read.0 read.1 read.2)

pub returns-in_err-head-clause-cause : goal.returns-in_err-head-clause-cause
returns-in_err-head-clause-cause g c = record {
  later = c.read_heads.ensures.undisturbed.faults;
  rose = λ none. absurd (unanswered c.from_residual-in_err-head.result NoReply c.from_residual-in_err-head.ensures.0 none);
}

pub returns-clause-answer : goal.returns-clause-answer
returns-clause-answer g c =
    let link = g.L.Link in
    let read = c.in_ok-head.ensures.read in
    let told = subst (HeadsAs read.0 (link.left c.read_heads.new.link)) c.in-Answer.is read.3.1 in
    record {
      taken = read.0;
      needed = heads_needed c.args.want (link.left c.args.link.now) (link.left c.read_heads.new.link) (link.left_at_read c.read_heads.new.link) read.0 read.1 read.2;
      answers = told c.args.want;
    }

pub returns-clause-cause : goal.returns-clause-cause
returns-clause-cause g c = record {
  later = c.read_heads.ensures.undisturbed.faults;
  rose = λ none.
      let was : c.read_heads.result ≡ Ok c.in_ok-head.field-0 = c.in_ok-head.was in
      let same : c.read_heads.result ≡ Ok (heads.Answer NoReply) = cc in
      c.read_heads.ensures.cause.rose same;
}

pub read_body-requires-clause-early : goal.read_body-requires-clause-early
read_body-requires-clause-early g c =
    let read = c.in_ok-head.ensures.read in
    let told = subst (HeadsAs read.0 (g.L.Link.left c.read_heads.new.link)) c.in-Head.is read.3.1 in
    let same : c.deref.result.now ≡ read.0 = c.deref.ensures.value ∙ read.3.0 in
    told.2.early

pub read_body-requires-clause-within : goal.read_body-requires-clause-within
read_body-requires-clause-within g c =
    let read = c.in_ok-head.ensures.read in
    let told = subst (HeadsAs read.0 (g.L.Link.left c.read_heads.new.link)) c.in-Head.is read.3.1 in
    let same : c.deref.result.now ≡ read.0 = c.deref.ensures.value ∙ read.3.0 in
    omega (arith, told.2.within, ap length same)

pub read_body-requires-clause-few : goal.read_body-requires-clause-few
read_body-requires-clause-few g c =
    let read = c.in_ok-head.ensures.read in
    let told = subst (HeadsAs read.0 (g.L.Link.left c.read_heads.new.link)) c.in-Head.is read.3.1 in
    let same : c.deref.result.now ≡ read.0 = c.deref.ensures.value ∙ read.3.0 in
    omega (arith, read.2, ap length same)

pub returns-in-Head-clause-answer : goal.returns-in-Head-clause-answer
returns-in-Head-clause-answer g c =
    let link = g.L.Link in
    let read = c.in_ok-head.ensures.read in
    let told = subst (HeadsAs read.0 (g.L.Link.left c.read_heads.new.link)) c.in-Head.is read.3.1 in
    let same : c.deref.result.now ≡ read.0 = c.deref.ensures.value ∙ read.3.0 in
    let l0 = link.left c.args.link.now in
    let l1 = link.left c.read_heads.new.link in
    let l2 = link.left c.read_body.new.link in
    let r1 = link.left_at_read c.read_heads.new.link in
    let r2 = link.left_at_read c.read_body.new.link in
    body_answer c.args.want l0 l1 l2 r1 r2 read.0 c.read_body.result read.1
    (subst (λ b. BodyRead c.args.want b l1 l2 r1 r2 c.read_body.result) same (c.read_body.ensures.read told.0 told.1 (subst (λ b. EndsHeads b c.in-Head.start told.0) (sym same) told.2)))

pub returns-in-Head-clause-memory : goal.returns-in-Head-clause-memory
returns-in-Head-clause-memory g c = λ failed.
    let link = g.L.Link in
    let read = c.in_ok-head.ensures.read in
    let told = subst (HeadsAs read.0 (g.L.Link.left c.read_heads.new.link)) c.in-Head.is read.3.1 in
    let same : c.deref.result.now ≡ read.0 = c.deref.ensures.value ∙ read.3.0 in
    let l0 = link.left c.args.link.now in
    let l1 = link.left c.read_heads.new.link in
    let l2 = link.left c.read_body.new.link in
    let r1 = link.left_at_read c.read_heads.new.link in
    let r2 = link.left_at_read c.read_body.new.link in
    body_memory c.args.want l0 l1 l2 r1 r2 read.0 c.read_body.result read.1
    (subst (λ b. BodyRead c.args.want b l1 l2 r1 r2 c.read_body.result) same (c.read_body.ensures.read told.0 told.1 (subst (λ b. EndsHeads b c.in-Head.start told.0) (sym same) told.2)))

pub returns-in-Head-clause-cause : goal.returns-in-Head-clause-cause
returns-in-Head-clause-cause g c =
    let link = g.L.Link in
    cause_behind (c.read_body.result ≡ Ok NoReply) (link.faults c.args.link.now) (link.faults c.read_heads.new.link) (link.faults c.read_body.new.link) c.read_heads.ensures.undisturbed.faults
    c.read_body.ensures.cause

pub returns-in-Head-clause-written : goal.returns-in-Head-clause-written
returns-in-Head-clause-written g c =
    let link = g.L.Link in
    keeps_on (link.written c.args.link.now) (link.written c.read_heads.new.link) (link.written c.read_body.new.link) c.read_heads.ensures.undisturbed.written c.read_body.ensures.undisturbed.written

pub returns-in-Head-clause-connections : goal.returns-in-Head-clause-connections
returns-in-Head-clause-connections g c =
    let link = g.L.Link in
    stay_on (link.connections c.args.link.now) (link.connections c.read_heads.new.link) (link.connections c.read_body.new.link) c.read_heads.ensures.undisturbed.connections
    c.read_body.ensures.undisturbed.connections
