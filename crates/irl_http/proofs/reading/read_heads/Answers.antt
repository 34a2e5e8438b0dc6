-- Each read is made where the bytes so far tell nothing.
use Rattle.std.proofs.Common.{◌≡◌, ◌<◌, ◌≤◌, ◌++◌, length, inl, inr, refl, sym, ap, ◌∙◌, subst, arith, length-append, length-take}
use Rattle.std.proofs.lemmas.Result.{IfOk-from_err}
use Rattle.irl_offer.specs.declared.reply.Answer.TheVariants.{NoReply, Short, BadReply, TooLarge}
use Rattle.irl_http.specs.declared.reading.Heads.TheVariants as heads
use Rattle.irl_http.specs.Heads.{max_heads}
use Rattle.irl_http.specs.Parsing.{HasNoHeadYet, EndsHeads, EndsInterim, TellsHeads}
use Rattle.irl_http.specs.Reply.{Tells}
use Rattle.irl_http.specs.Reading.{Reads}
use Rattle.irl_http.specs.Steps.{IsQuiet, FillAs}
use Rattle.irl_http.proofs.ReadLemmas.{keeps_same, calm_same, calm_on, gets_read}
use Rattle.irl_http.proofs.AnswerLemmas.{heads_read, heads_ok, heads_short, heads_fail}
use Rattle.irl_http.proofs.StepLemmas.{quiet_nothing, nothing_yet, interim_nothing, interim_more}
use Rattle.irl_http.proofs.reading.read_heads.Goals as goal

pub loop-bytes-init : goal.loop-bytes-init
loop-bytes-init g c =
    let link = g.L.Link in
    record {
      gets = inl (c.requires.none, keeps_same (link.left c.args.link.now), refl);
      quiet = subst IsQuiet (sym c.requires.none) quiet_nothing;
      open_head = subst HasNoHeadYet (sym c.requires.none) nothing_yet;
      interim = subst (λ l. EndsInterim l 0) (sym c.requires.none) interim_nothing;
      few = subst (λ l. length l ≤ max_heads) (sym c.requires.none) (omega arith);
      calm = calm_same (link.written c.args.link.now) (link.connections c.args.link.now) (link.faults c.args.link.now);
    }

pub loop-bytes-preserved : goal.loop-bytes-preserved
loop-bytes-preserved g c =
    let link = g.L.Link in
    let inv = c.loop-bytes.invariant in
    let e = c.in_ok-read_more.ensures.ok in
    let told = subst (TellsHeads c.deref.result.now) c.in-Nothing.is c.in_ok-head.ensures in
    let same : c.deref.result.now ≡ c.read_more.new.bytes.items = c.deref.ensures.value in
    record {
      gets = inr (subst (Reads IsQuiet (link.left c.args.link.now) (link.left c.read_more.new.link) (link.left_at_read c.read_more.new.link)) (sym e.1)
          (gets_read IsQuiet (link.left c.args.link.now) (link.left c.loop-bytes.link) (link.left c.read_more.new.link) (link.left_at_read c.args.link.now) (link.left_at_read c.loop-bytes.link)
          (link.left_at_read c.read_more.new.link) c.loop-bytes.bytes.items e.0 inv.gets inv.quiet e.2 c.read_more.ensures.last));
      quiet = subst IsQuiet same told.0;
      open_head = subst HasNoHeadYet same told.2;
      interim = subst (λ l. EndsInterim l c.in-Nothing.end) same told.3.ends;
      few = omega (arith, ap length same, told.1);
      calm = calm_on _ _ _ _ _ _ _ _ _ inv.calm c.read_more.ensures.undisturbed;
    }

pub look-requires-clause-interim : goal.look-requires-clause-interim
look-requires-clause-interim g c =
    let e = c.in_ok-read_more.ensures.ok in
    subst (λ l. EndsInterim l c.loop-bytes.from) (sym (c.deref.ensures.value ∙ e.1)) (interim_more c.loop-bytes.bytes.items e.0 c.loop-bytes.from c.loop-bytes.invariant.interim)

pub loop-bytes-smaller : goal.loop-bytes-smaller
loop-bytes-smaller g c =
    let e = c.in_ok-read_more.ensures.ok in
    let some : 0 < length e.0 = rw c.in-More.is at e.4 in
    omega (arith, ap length e.1, length-append c.loop-bytes.bytes.items e.0, some, c.loop-bytes.invariant.few)

pub returns-in_err-read_more-clause-read : goal.returns-in_err-read_more-clause-read
returns-in_err-read_more-clause-read g c =
    let link = g.L.Link in
    let inv = c.loop-bytes.invariant in
    let e = c.in_err-read_more.ensures.memory refl in
    heads_read (link.left c.args.link.now) (link.left c.loop-bytes.link) (link.left c.read_more.new.link) (link.left_at_read c.args.link.now) (link.left_at_read c.loop-bytes.link)
    (link.left_at_read c.read_more.new.link) c.loop-bytes.bytes.items e.0 _ c.from_residual.result inv.gets inv.quiet e.1 c.read_more.ensures.last
    (omega (arith, length-take c.min-room.result c.loop-bytes.piece, e.2, inv.few)) (IfOk-from_err c.from_residual.result _ c.from_residual.ensures.0)

pub returns-in_err-head-clause-read : goal.returns-in_err-head-clause-read
returns-in_err-head-clause-read g c =
    let link = g.L.Link in
    let inv = c.loop-bytes.invariant in
    let e = c.in_ok-read_more.ensures.ok in
    heads_read (link.left c.args.link.now) (link.left c.loop-bytes.link) (link.left c.read_more.new.link) (link.left_at_read c.args.link.now) (link.left_at_read c.loop-bytes.link)
    (link.left_at_read c.read_more.new.link) c.loop-bytes.bytes.items e.0 _ c.from_residual-in_err-head.result inv.gets inv.quiet e.2 c.read_more.ensures.last
    (omega (arith, length-take c.min-room.result c.loop-bytes.piece, e.3, inv.few)) (IfOk-from_err c.from_residual-in_err-head.result _ c.from_residual-in_err-head.ensures.0)

pub returns-in-Ended-clause-read : goal.returns-in-Ended-clause-read
returns-in-Ended-clause-read g c =
    let link = g.L.Link in
    let inv = c.loop-bytes.invariant in
    let e = c.in_ok-read_more.ensures.ok in
    let fill = subst (FillAs e.0 (link.left c.read_more.new.link)) c.in-Ended.is e.4 in
    heads_ok (link.left c.args.link.now) (link.left c.loop-bytes.link) (link.left c.read_more.new.link) (link.left_at_read c.args.link.now) (link.left_at_read c.loop-bytes.link)
    (link.left_at_read c.read_more.new.link) c.loop-bytes.bytes.items e.0 _ (heads.Answer (Short c.len-in-Ended.result)) inv.gets inv.quiet e.2 c.read_more.ensures.last
    (omega (arith, length-take c.min-room.result c.loop-bytes.piece, e.3, inv.few)) e.1
    (heads_short c.loop-bytes.bytes.items e.0 (link.left c.read_more.new.link) c.len-in-Ended.result inv.quiet inv.open_head fill.0 fill.1 (omega (arith, ap length e.1)))

pub returns-in-Failed-clause-read : goal.returns-in-Failed-clause-read
returns-in-Failed-clause-read g c =
    let link = g.L.Link in
    let inv = c.loop-bytes.invariant in
    let e = c.in_ok-read_more.ensures.ok in
    let fill = subst (FillAs e.0 (link.left c.read_more.new.link)) c.in-Failed.is e.4 in
    heads_ok (link.left c.args.link.now) (link.left c.loop-bytes.link) (link.left c.read_more.new.link) (link.left_at_read c.args.link.now) (link.left_at_read c.loop-bytes.link)
    (link.left_at_read c.read_more.new.link) c.loop-bytes.bytes.items e.0 _ (heads.Answer NoReply) inv.gets inv.quiet e.2 c.read_more.ensures.last
    (omega (arith, length-take c.min-room.result c.loop-bytes.piece, e.3, inv.few)) e.1
    (heads_fail c.loop-bytes.bytes.items e.0 (link.left c.read_more.new.link) inv.quiet fill)

pub returns-in-Head-clause-read : goal.returns-in-Head-clause-read
returns-in-Head-clause-read g c =
    let link = g.L.Link in
    let inv = c.loop-bytes.invariant in
    let e = c.in_ok-read_more.ensures.ok in
    let same : c.deref.result.now ≡ c.loop-bytes.bytes.items ++ e.0 = c.deref.ensures.value ∙ e.1 in
    let told = subst (TellsHeads c.deref.result.now) c.in-Head.is c.in_ok-head.ensures in
    heads_ok (link.left c.args.link.now) (link.left c.loop-bytes.link) (link.left c.read_more.new.link) (link.left_at_read c.args.link.now) (link.left_at_read c.loop-bytes.link)
    (link.left_at_read c.read_more.new.link) c.loop-bytes.bytes.items e.0 _ (heads.Head c.in-Head.head c.in-Head.end) inv.gets inv.quiet e.2 c.read_more.ensures.last
    (omega (arith, length-take c.min-room.result c.loop-bytes.piece, e.3, inv.few)) e.1
    (told.0, told.1, subst (λ b. EndsHeads b c.in-Head.end told.0) same told.2)

pub returns-in-Bad-clause-read : goal.returns-in-Bad-clause-read
returns-in-Bad-clause-read g c =
    let link = g.L.Link in
    let inv = c.loop-bytes.invariant in
    let e = c.in_ok-read_more.ensures.ok in
    let same : c.deref.result.now ≡ c.loop-bytes.bytes.items ++ e.0 = c.deref.ensures.value ∙ e.1 in
    let told = subst (TellsHeads c.deref.result.now) c.in-Bad.is c.in_ok-head.ensures in
    heads_ok (link.left c.args.link.now) (link.left c.loop-bytes.link) (link.left c.read_more.new.link) (link.left_at_read c.args.link.now) (link.left_at_read c.loop-bytes.link)
    (link.left_at_read c.read_more.new.link) c.loop-bytes.bytes.items e.0 _ (heads.Answer (BadReply c.in-Bad.n)) inv.gets inv.quiet e.2 c.read_more.ensures.last
    (omega (arith, length-take c.min-room.result c.loop-bytes.piece, e.3, inv.few)) e.1
    (λ want. inl (subst (λ b. Tells want b (BadReply c.in-Bad.n)) same (told want)))

pub returns-in-TooLarge-clause-read : goal.returns-in-TooLarge-clause-read
returns-in-TooLarge-clause-read g c =
    let link = g.L.Link in
    let inv = c.loop-bytes.invariant in
    let e = c.in_ok-read_more.ensures.ok in
    let same : c.deref.result.now ≡ c.loop-bytes.bytes.items ++ e.0 = c.deref.ensures.value ∙ e.1 in
    let told = subst (TellsHeads c.deref.result.now) c.in-TooLarge.is c.in_ok-head.ensures in
    heads_ok (link.left c.args.link.now) (link.left c.loop-bytes.link) (link.left c.read_more.new.link) (link.left_at_read c.args.link.now) (link.left_at_read c.loop-bytes.link)
    (link.left_at_read c.read_more.new.link) c.loop-bytes.bytes.items e.0 _ (heads.Answer (TooLarge c.in-TooLarge.n)) inv.gets inv.quiet e.2 c.read_more.ensures.last
    (omega (arith, length-take c.min-room.result c.loop-bytes.piece, e.3, inv.few)) e.1
    (λ want. inl (subst (λ b. Tells want b (TooLarge c.in-TooLarge.n)) same (told want)))
