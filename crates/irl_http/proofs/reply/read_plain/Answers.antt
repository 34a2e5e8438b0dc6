-- A body by its length, or until the connection ends.
use Rattle.std.proofs.Common.{◌≡◌, ◌+◌, ◌++◌, length, sym, ap, ◌∙◌, refl, subst, arith}
use Rattle.std.specs.Io.KnownBytes.{IsAtEnd}
use Rattle.irl_offer.specs.declared.reply.Answer.TheVariants.{Reply, NoReply, Short, TooLarge}
use Rattle.irl_http.specs.Reading.{AnswersTaken}
use Rattle.irl_http.specs.Reply.{received}
use Rattle.irl_http.specs.Steps.{UntilAs}
use Rattle.irl_http.proofs.PlainLemmas.{plain_body, plain_memory, plain_few, fills_long, fills, closes_whole, ends_short, fails}
use Rattle.irl_http.proofs.reply.read_plain.Goals as goal

pub reply-requires-in-Ended : goal.reply-requires-in-Ended
reply-requires-in-Ended g c =
    let fill = subst (UntilAs c.args.target (length c.read_until.new.bytes.items) (g.L.Link.left c.read_until.new.link)) c.in-Ended.is c.in_ok-read_until.ensures.ok.4 in
    omega (arith, fill.0, c.requires.kept)

pub overflow_add-result-in-Ended-2 : goal.overflow_add-result-in-Ended-2
overflow_add-result-in-Ended-2 g c =
    let fill = subst (UntilAs c.args.target (length c.read_until.new.bytes.items) (g.L.Link.left c.read_until.new.link)) c.in-Ended.is c.in_ok-read_until.ensures.ok.4 in
    omega (arith, fill.0, c.len.ensures, c.requires.kept, c.requires.early)

pub returns-in_err-read_until-clause-read : goal.returns-in_err-read_until-clause-read
returns-in_err-read_until-clause-read g c = λ front h says i start is.
    let link = g.L.Link in
    let e = c.in_err-read_until.ensures.memory refl in
    plain_memory c.args.want c.args.closes c.args.target front c.args.body.items e.0 h (link.left c.args.link.now) (link.left c.read_until.new.link) (link.left_at_read c.args.link.now)
    (link.left_at_read c.read_until.new.link) c.from_residual.result i is e.1
    (plain_few c.args.want c.args.closes c.args.target front h (length c.args.body.items) (length c.args.piece.now) (length c.args.body.items + length e.0) i is e.2 c.requires.few c.requires.room.1)
    c.from_residual.ensures.0

pub returns-in-More-clause-read : goal.returns-in-More-clause-read
returns-in-More-clause-read g c = λ front h says i start is.
    let link = g.L.Link in
    let now = c.read_until.new.bytes.items in
    let e = c.in_ok-read_until.ensures.ok in
    let fill = subst (UntilAs c.args.target (length now) (link.left c.read_until.new.link)) c.in-More.is e.4 in
    plain_body c.args.want c.args.closes c.args.target front c.args.body.items e.0 now h (link.left c.args.link.now) (link.left c.read_until.new.link) (link.left_at_read c.args.link.now)
    (link.left_at_read c.read_until.new.link) (TooLarge (c.args.start + c.args.target)) i is e.1 e.2
    (plain_few c.args.want c.args.closes c.args.target front h (length c.args.body.items) (length c.args.piece.now) (length now) i is e.3 c.requires.few c.requires.room.1)
    (fills_long c.args.want c.args.closes c.args.target front now h (c.args.start + c.args.target) _ i is fill c.if-target-gt-MAX_PAGE.true (omega (arith, start)))

pub returns-in-More-2-clause-read : goal.returns-in-More-2-clause-read
returns-in-More-2-clause-read g c = λ front h says i start is.
    let link = g.L.Link in
    let now = c.read_until.new.bytes.items in
    let e = c.in_ok-read_until.ensures.ok in
    let fill = subst (UntilAs c.args.target (length now) (link.left c.read_until.new.link)) c.in-More.is e.4 in
    plain_body c.args.want c.args.closes c.args.target front c.args.body.items e.0 now h (link.left c.args.link.now) (link.left c.read_until.new.link) (link.left_at_read c.args.link.now)
    (link.left_at_read c.read_until.new.link) (c.reply.result) i is e.1 e.2
    (plain_few c.args.want c.args.closes c.args.target front h (length c.args.body.items) (length c.args.piece.now) (length now) i is e.3 c.requires.few c.requires.room.1)
    (subst (AnswersTaken c.args.want (front ++ now) (IsAtEnd (link.left c.read_until.new.link))) (sym (c.reply.ensures.reply h says ∙ ap (λ b. Reply (received h b)) c.truncate.ensures.items))
    (fills c.args.want c.args.closes c.args.target front now h (IsAtEnd (link.left c.read_until.new.link)) i is fill c.if-target-gt-MAX_PAGE.false))

pub returns-in-Ended-clause-read : goal.returns-in-Ended-clause-read
returns-in-Ended-clause-read g c = λ front h says i start is.
    let link = g.L.Link in
    let now = c.read_until.new.bytes.items in
    let e = c.in_ok-read_until.ensures.ok in
    let fill = subst (UntilAs c.args.target (length now) (link.left c.read_until.new.link)) c.in-Ended.is e.4 in
    plain_body c.args.want c.args.closes c.args.target front c.args.body.items e.0 now h (link.left c.args.link.now) (link.left c.read_until.new.link) (link.left_at_read c.args.link.now)
    (link.left_at_read c.read_until.new.link) (c.reply-in-Ended.result) i is e.1 e.2
    (plain_few c.args.want c.args.closes c.args.target front h (length c.args.body.items) (length c.args.piece.now) (length now) i is e.3 c.requires.few c.requires.room.1)
    (subst (AnswersTaken c.args.want (front ++ now) (IsAtEnd (link.left c.read_until.new.link))) (sym (c.reply-in-Ended.ensures.reply h says))
    (closes_whole c.args.want c.args.closes c.args.target front now h (IsAtEnd (link.left c.read_until.new.link)) i is fill.0 fill.1 c.if-closes.true))

pub returns-in-Ended-2-clause-read : goal.returns-in-Ended-2-clause-read
returns-in-Ended-2-clause-read g c = λ front h says i start is.
    let link = g.L.Link in
    let now = c.read_until.new.bytes.items in
    let e = c.in_ok-read_until.ensures.ok in
    let fill = subst (UntilAs c.args.target (length now) (link.left c.read_until.new.link)) c.in-Ended.is e.4 in
    plain_body c.args.want c.args.closes c.args.target front c.args.body.items e.0 now h (link.left c.args.link.now) (link.left c.read_until.new.link) (link.left_at_read c.args.link.now)
    (link.left_at_read c.read_until.new.link) (Short (c.args.start + c.len.result)) i is e.1 e.2
    (plain_few c.args.want c.args.closes c.args.target front h (length c.args.body.items) (length c.args.piece.now) (length now) i is e.3 c.requires.few c.requires.room.1)
    (ends_short c.args.want c.args.closes c.args.target front now h (c.args.start + c.len.result) (IsAtEnd (link.left c.read_until.new.link)) i is fill.0 fill.1 c.if-closes.false
    (omega (arith, start, c.len.ensures)))

pub returns-in-Failed-clause-read : goal.returns-in-Failed-clause-read
returns-in-Failed-clause-read g c = λ front h says i start is.
    let link = g.L.Link in
    let now = c.read_until.new.bytes.items in
    let e = c.in_ok-read_until.ensures.ok in
    let fill = subst (UntilAs c.args.target (length now) (link.left c.read_until.new.link)) c.in-Failed.is e.4 in
    plain_body c.args.want c.args.closes c.args.target front c.args.body.items e.0 now h (link.left c.args.link.now) (link.left c.read_until.new.link) (link.left_at_read c.args.link.now)
    (link.left_at_read c.read_until.new.link) (NoReply) i is e.1 e.2
    (plain_few c.args.want c.args.closes c.args.target front h (length c.args.body.items) (length c.args.piece.now) (length now) i is e.3 c.requires.few c.requires.room.1)
    (fails c.args.want c.args.closes c.args.target front now h (IsAtEnd (link.left c.read_until.new.link)) i is fill)

pub returns-in-More-2-clause-cause : goal.returns-in-More-2-clause-cause
returns-in-More-2-clause-cause g c = record {
  later = c.read_until.ensures.undisturbed.faults;
  rose = λ none. let same : c.reply.result ≡ NoReply = cc in absurd (c.reply.ensures.some same);
}

pub returns-in-Ended-clause-cause : goal.returns-in-Ended-clause-cause
returns-in-Ended-clause-cause g c = record {
  later = c.read_until.ensures.undisturbed.faults;
  rose = λ none. let same : c.reply-in-Ended.result ≡ NoReply = cc in absurd (c.reply-in-Ended.ensures.some same);
}
