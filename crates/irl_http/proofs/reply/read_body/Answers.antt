-- What the head tells alone, and what the steps behind it read.
use Rattle.std.proofs.Common.{◌≡◌, inl, [], take, sym, ap, ◌∙◌, subst, arith}
use Rattle.std.specs.Io.KnownBytes.{IsAtEnd}
use Rattle.irl_offer.specs.declared.reply.Answer.TheVariants.{Reply, NoReply, BadReply, Coded}
use Rattle.irl_http.specs.declared.fields.Plan.TheVariants as plan
use Rattle.irl_http.specs.Fields.{plan_of}
use Rattle.irl_http.specs.Reading.{AnswersTaken}
use Rattle.irl_http.specs.Reply.{received}
use Rattle.irl_http.proofs.AnswerLemmas.{unread, unread_memory, head_tells, behind_head, start_is, rest_is}
use Rattle.irl_http.proofs.BodyLemmas.{from_ends, shows_refused, shows_bad_length, shows_empty}
use Rattle.irl_http.proofs.reply.read_body.Goals as goal

pub returns-in-Empty-clause-read : goal.returns-in-Empty-clause-read
returns-in-Empty-clause-read g c = λ h says ends.
    let bytes = c.args.bytes.now in
    let left = g.L.Link.left c.args.link.now in
    let is : plan_of h ≡ plan.Empty = sym says.plan ∙ c.in-Empty.is in
    unread c.args.want bytes left (g.L.Link.left_at_read c.args.link.now) c.reply.result (omega (arith, c.requires.few))
    (subst (AnswersTaken c.args.want bytes (IsAtEnd left)) (sym (c.reply.ensures.reply h says ∙ ap (λ b. Reply (received h b)) c.new.ensures.items))
    (inl (head_tells c.args.want bytes c.args.start h (Reply (received h [])) ends (shows_empty c.args.want (take c.args.start bytes) h (from_ends bytes c.args.start h ends) is))))

pub returns-in-Empty-clause-cause : goal.returns-in-Empty-clause-cause
returns-in-Empty-clause-cause g c = record {
  later = omega arith;
  rose = λ none. let same : c.reply.result ≡ NoReply = cc in absurd (c.reply.ensures.some same);
}

pub returns-in-Coded-clause-read : goal.returns-in-Coded-clause-read
returns-in-Coded-clause-read g c = λ h says ends.
    let bytes = c.args.bytes.now in
    let is : plan_of h ≡ plan.Coded = sym says.plan ∙ c.in-Coded.is in
    unread c.args.want bytes (g.L.Link.left c.args.link.now) (g.L.Link.left_at_read c.args.link.now) Coded (omega (arith, c.requires.few))
    (inl (head_tells c.args.want bytes c.args.start h Coded ends (shows_refused c.args.want (take c.args.start bytes) h (from_ends bytes c.args.start h ends) is)))

pub returns-in-BadLength-clause-read : goal.returns-in-BadLength-clause-read
returns-in-BadLength-clause-read g c = λ h says ends.
    let bytes = c.args.bytes.now in
    let is : plan_of h ≡ plan.BadLength = sym says.plan ∙ c.in-BadLength.is in
    unread c.args.want bytes (g.L.Link.left c.args.link.now) (g.L.Link.left_at_read c.args.link.now) (BadReply c.args.start) (omega (arith, c.requires.few))
    (inl (head_tells c.args.want bytes c.args.start h (BadReply c.args.start) ends
    (shows_bad_length c.args.want (take c.args.start bytes) h c.args.start (from_ends bytes c.args.start h ends) is (start_is bytes c.args.start ends.within))))

pub returns-in_ok-body-in-Sized-clause-read : goal.returns-in_ok-body-in-Sized-clause-read
returns-in_ok-body-in-Sized-clause-read g c = λ h says ends.
    let bytes = c.args.bytes.now in
    let link = g.L.Link in
    behind_head c.args.want bytes c.in_ok-body-in-Sized.body.items c.args.start (link.left c.args.link.now) (link.left c.read_plain.new.link) (link.left_at_read c.args.link.now)
    (link.left_at_read c.read_plain.new.link) c.read_plain.result (c.in_ok-body-in-Sized.ensures.items ∙ rest_is bytes c.args.start)
    (c.read_plain.ensures.read (take c.args.start bytes) h says (from_ends bytes c.args.start h ends) (start_is bytes c.args.start ends.within) (c.in-Sized.length, sym says.plan ∙ c.in-Sized.is, cc))

pub returns-in_ok-body-in-UntilClose-clause-read : goal.returns-in_ok-body-in-UntilClose-clause-read
returns-in_ok-body-in-UntilClose-clause-read g c = λ h says ends.
    let bytes = c.args.bytes.now in
    let link = g.L.Link in
    behind_head c.args.want bytes c.in_ok-body-in-UntilClose.body.items c.args.start (link.left c.args.link.now) (link.left c.read_plain-in-UntilClose.new.link) (link.left_at_read c.args.link.now)
    (link.left_at_read c.read_plain-in-UntilClose.new.link) c.read_plain-in-UntilClose.result (c.in_ok-body-in-UntilClose.ensures.items ∙ rest_is bytes c.args.start)
    (c.read_plain-in-UntilClose.ensures.read (take c.args.start bytes) h says (from_ends bytes c.args.start h ends) (start_is bytes c.args.start ends.within) (sym says.plan ∙ c.in-UntilClose.is, cc))

pub returns-in_ok-ahead-in-Chunked-clause-read : goal.returns-in_ok-ahead-in-Chunked-clause-read
returns-in_ok-ahead-in-Chunked-clause-read g c = λ h says ends.
    let bytes = c.args.bytes.now in
    let link = g.L.Link in
    behind_head c.args.want bytes c.in_ok-ahead-in-Chunked.ahead.items c.args.start (link.left c.args.link.now) (link.left c.read_chunks.new.link) (link.left_at_read c.args.link.now)
    (link.left_at_read c.read_chunks.new.link) c.read_chunks.result (c.in_ok-ahead-in-Chunked.ensures.items ∙ rest_is bytes c.args.start)
    (c.read_chunks.ensures.read (take c.args.start bytes) h says (from_ends bytes c.args.start h ends) (start_is bytes c.args.start ends.within) (sym says.plan ∙ c.in-Chunked.is))

pub returns-in_err-body-in-Sized-clause-read : goal.returns-in_err-body-in-Sized-clause-read
returns-in_err-body-in-Sized-clause-read g c = λ h says ends. unread_memory c.args.want c.args.bytes.now (g.L.Link.left c.args.link.now) (g.L.Link.left_at_read c.args.link.now) c.from_residual.result
    (omega (arith, c.requires.few)) c.from_residual.ensures.0

pub returns-in_err-body-in-UntilClose-clause-read : goal.returns-in_err-body-in-UntilClose-clause-read
returns-in_err-body-in-UntilClose-clause-read g c = λ h says ends. unread_memory c.args.want c.args.bytes.now (g.L.Link.left c.args.link.now) (g.L.Link.left_at_read c.args.link.now)
    c.from_residual-in_err-body-in-UntilClose.result (omega (arith, c.requires.few)) c.from_residual-in_err-body-in-UntilClose.ensures.0

pub returns-in_err-ahead-in-Chunked-clause-read : goal.returns-in_err-ahead-in-Chunked-clause-read
returns-in_err-ahead-in-Chunked-clause-read g c = λ h says ends. unread_memory c.args.want c.args.bytes.now (g.L.Link.left c.args.link.now) (g.L.Link.left_at_read c.args.link.now)
    c.from_residual-in_err-ahead-in-Chunked.result (omega (arith, c.requires.few)) c.from_residual-in_err-ahead-in-Chunked.ensures.0
