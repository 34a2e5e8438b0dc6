-- A step among the bytes ahead answers, or a read is needed.
use Rattle.std.proofs.Common.{◌≡◌, ℕ, List, ◌+◌, ◌-◌, ◌<◌, ◌++◌, true, false, Ok, [], length, drop, refl, sym, ap, ◌∙◌, subst, rules, arith, length-append, length-drop}
use Rattle.irl_offer.specs.declared.reply.Want.{Want}
use Rattle.irl_offer.specs.declared.reply.Want.TheVariants.{Page, Robots}
use Rattle.irl_offer.specs.declared.reply.Answer.TheVariants.{NoReply}
use Rattle.irl_http.specs.declared.chunks.Progress.TheVariants as progress
use Rattle.irl_http.specs.Bodies.{most_of}
use Rattle.irl_http.specs.Steps.{BodyRead}
use Rattle.irl_http.proofs.ReadLemmas.{calm_same, calm_on}
use Rattle.irl_http.proofs.ChunkedReads.{ChunksRead, chunks_start, chunks_on, chunks_far, chunks_stopped, chunks_whole, chunks_bad, chunks_long, chunks_robots, chunks_unread, chunks_failed, chunks_short, unanswered, advanced, moved, open_step}
use Rattle.irl_http.proofs.reply.read_chunks.Goals as goal

some_room : (want : Want) (body : List ℕ) → body ≡ [] → length body < most_of want
some_room Page body none = omega (arith, ap length none)
some_room Robots body none = omega (arith, ap length none)

pub loop-ahead-init : goal.loop-ahead-init
loop-ahead-init g c =
    let link = g.L.Link in
    record {
      read = chunks_start c.args.want c.args.rest.items c.new-chunks.result.body.items c.new-chunks.result.due c.args.start (link.left c.args.link.now) (link.left_at_read c.args.link.now)
          c.new-chunks.ensures.due;
      room = some_room c.args.want c.new-chunks.result.body.items c.new-chunks.ensures.none;
      far = omega arith;
      few = omega (arith, c.requires.few);
      calm = calm_same (link.written c.args.link.now) (link.connections c.args.link.now) (link.faults c.args.link.now);
    }

pub advance-requires : goal.advance-requires
advance-requires g c = c.loop-ahead.invariant.room

pub returns-in_err-taken-clause-read : goal.returns-in_err-taken-clause-read
returns-in_err-taken-clause-read g c = λ front h says i begins is.
    let link = g.L.Link in
    let inv = c.loop-ahead.invariant in
    let r = c.loop-ahead.invariant.read in
    let rest = c.args.rest.items in
    let ahead = c.loop-ahead.ahead.items in
    let l0 = link.left c.args.link.now in
    let l1 = link.left c.loop-ahead.link in
    let r0 = link.left_at_read c.args.link.now in
    let r1 = link.left_at_read c.loop-ahead.link in
    chunks_stopped c.args.want front rest ahead c.loop-ahead.chunks.body.items h c.loop-ahead.chunks.due c.args.start c.loop-ahead.done l0 l1 r0 r1 c.from_residual.result c.from_residual.ensures.0 r i
    is begins (omega (arith, inv.far, inv.few, c.requires.early))

pub returns-in_err-taken-clause-cause : goal.returns-in_err-taken-clause-cause
returns-in_err-taken-clause-cause g c = record { later = c.loop-ahead.invariant.calm.faults; rose = λ e. absurd (unanswered c.from_residual.result NoReply c.from_residual.ensures.0 e) }

pub returns-in_err-taken-clause-undisturbed : goal.returns-in_err-taken-clause-undisturbed
returns-in_err-taken-clause-undisturbed g c = c.loop-ahead.invariant.calm

pub returns-in-Whole-clause-read : goal.returns-in-Whole-clause-read
returns-in-Whole-clause-read g c = λ front h says i begins is.
    let link = g.L.Link in
    let inv = c.loop-ahead.invariant in
    let r = c.loop-ahead.invariant.read in
    let rest = c.args.rest.items in
    let ahead = c.loop-ahead.ahead.items in
    let next = c.advance.new.self.due in
    let body = c.advance.new.self.body.items in
    let at = c.in_ok-taken.taken in
    let l0 = link.left c.args.link.now in
    let l1 = link.left c.loop-ahead.link in
    let r0 = link.left_at_read c.args.link.now in
    let r1 = link.left_at_read c.loop-ahead.link in
    let step = advanced c.args.want r.done c.deref.result.now ahead body next at c.in_ok-taken.progress (progress.Whole c.in-Whole.field-0) c.deref.ensures.value c.in-Whole.is
    (c.in_ok-taken.ensures.step r.done r.due_is) in
    let moves = moved c.args.want c.deref.result.now ahead body at c.in_ok-taken.progress (progress.Whole c.in-Whole.field-0) c.deref.ensures.value c.in-Whole.is c.in_ok-taken.ensures.moves in
    subst (λ a. BodyRead c.args.want (front ++ rest) l0 l1 r0 r1 (Ok a)) (sym (c.reply.ensures.reply h says))
    (chunks_whole c.args.want front rest ahead c.loop-ahead.chunks.body.items body h c.loop-ahead.chunks.due next c.args.start c.loop-ahead.done at c.in-Whole.field-0 l0 l1 r0 r1 r i is begins
    (omega (arith, inv.far, inv.few, c.requires.early)) step moves)

pub returns-in-Whole-clause-cause : goal.returns-in-Whole-clause-cause
returns-in-Whole-clause-cause g c = record { later = c.loop-ahead.invariant.calm.faults; rose = λ e. absurd (c.reply.ensures.some (cc)) }

pub returns-in-Whole-clause-undisturbed : goal.returns-in-Whole-clause-undisturbed
returns-in-Whole-clause-undisturbed g c = c.loop-ahead.invariant.calm

pub overflow_add-result-in-Bad : goal.overflow_add-result-in-Bad
overflow_add-result-in-Bad g c =
    let inv = c.loop-ahead.invariant in
    let moves = moved c.args.want c.deref.result.now c.loop-ahead.ahead.items c.advance.new.self.body.items c.in_ok-taken.taken c.in_ok-taken.progress (progress.Bad c.in-Bad.n) c.deref.ensures.value
    c.in-Bad.is c.in_ok-taken.ensures.moves in
    omega (arith, inv.far, inv.few, c.requires.early, moves)

pub returns-in-Bad-clause-read : goal.returns-in-Bad-clause-read
returns-in-Bad-clause-read g c = λ front h says i begins is.
    let link = g.L.Link in
    let inv = c.loop-ahead.invariant in
    let r = c.loop-ahead.invariant.read in
    let rest = c.args.rest.items in
    let ahead = c.loop-ahead.ahead.items in
    let next = c.advance.new.self.due in
    let body = c.advance.new.self.body.items in
    let at = c.in_ok-taken.taken in
    let l0 = link.left c.args.link.now in
    let l1 = link.left c.loop-ahead.link in
    let r0 = link.left_at_read c.args.link.now in
    let r1 = link.left_at_read c.loop-ahead.link in
    let step = advanced c.args.want r.done c.deref.result.now ahead body next at c.in_ok-taken.progress (progress.Bad c.in-Bad.n) c.deref.ensures.value c.in-Bad.is
    (c.in_ok-taken.ensures.step r.done r.due_is) in
    let moves = moved c.args.want c.deref.result.now ahead body at c.in_ok-taken.progress (progress.Bad c.in-Bad.n) c.deref.ensures.value c.in-Bad.is c.in_ok-taken.ensures.moves in
    chunks_bad c.args.want front rest ahead c.loop-ahead.chunks.body.items body h c.loop-ahead.chunks.due next c.args.start c.loop-ahead.done at c.in-Bad.n _ l0 l1 r0 r1 r i is begins
    (omega (arith, inv.far, inv.few, c.requires.early)) step moves refl

pub returns-in-Bad-clause-cause : goal.returns-in-Bad-clause-cause
returns-in-Bad-clause-cause g c = record { later = c.loop-ahead.invariant.calm.faults; rose = λ e. absurd (cc) }

pub returns-in-Bad-clause-undisturbed : goal.returns-in-Bad-clause-undisturbed
returns-in-Bad-clause-undisturbed g c = c.loop-ahead.invariant.calm

pub overflow_add-result-in-Full-2 : goal.overflow_add-result-in-Full-2
overflow_add-result-in-Full-2 g c =
    let inv = c.loop-ahead.invariant in
    let moves = moved c.args.want c.deref.result.now c.loop-ahead.ahead.items c.advance.new.self.body.items c.in_ok-taken.taken c.in_ok-taken.progress (progress.Full c.in-Full.n) c.deref.ensures.value
    c.in-Full.is c.in_ok-taken.ensures.moves in
    omega (arith, inv.far, inv.few, c.requires.early, moves.0)

pub returns-in-Full-clause-read : goal.returns-in-Full-clause-read
returns-in-Full-clause-read g c = λ front h says i begins is.
    let link = g.L.Link in
    let inv = c.loop-ahead.invariant in
    let r = c.loop-ahead.invariant.read in
    let rest = c.args.rest.items in
    let ahead = c.loop-ahead.ahead.items in
    let next = c.advance.new.self.due in
    let body = c.advance.new.self.body.items in
    let at = c.in_ok-taken.taken in
    let l0 = link.left c.args.link.now in
    let l1 = link.left c.loop-ahead.link in
    let r0 = link.left_at_read c.args.link.now in
    let r1 = link.left_at_read c.loop-ahead.link in
    let step = advanced c.args.want r.done c.deref.result.now ahead body next at c.in_ok-taken.progress (progress.Full c.in-Full.n) c.deref.ensures.value c.in-Full.is
    (c.in_ok-taken.ensures.step r.done r.due_is) in
    let moves = moved c.args.want c.deref.result.now ahead body at c.in_ok-taken.progress (progress.Full c.in-Full.n) c.deref.ensures.value c.in-Full.is c.in_ok-taken.ensures.moves in
    let page : c.args.want ≡ Page = search rules in
    chunks_long c.args.want front rest ahead c.loop-ahead.chunks.body.items body h c.loop-ahead.chunks.due next c.args.start c.loop-ahead.done at c.in-Full.n _ l0 l1 r0 r1 r i is begins
    (omega (arith, inv.far, inv.few, c.requires.early)) step moves page refl

pub returns-in-Full-clause-cause : goal.returns-in-Full-clause-cause
returns-in-Full-clause-cause g c = record { later = c.loop-ahead.invariant.calm.faults; rose = λ e. absurd (cc) }

pub returns-in-Full-clause-undisturbed : goal.returns-in-Full-clause-undisturbed
returns-in-Full-clause-undisturbed g c = c.loop-ahead.invariant.calm

pub returns-in-Full-2-clause-read : goal.returns-in-Full-2-clause-read
returns-in-Full-2-clause-read g c = λ front h says i begins is.
    let link = g.L.Link in
    let inv = c.loop-ahead.invariant in
    let r = c.loop-ahead.invariant.read in
    let rest = c.args.rest.items in
    let ahead = c.loop-ahead.ahead.items in
    let next = c.advance.new.self.due in
    let body = c.advance.new.self.body.items in
    let at = c.in_ok-taken.taken in
    let l0 = link.left c.args.link.now in
    let l1 = link.left c.loop-ahead.link in
    let r0 = link.left_at_read c.args.link.now in
    let r1 = link.left_at_read c.loop-ahead.link in
    let step = advanced c.args.want r.done c.deref.result.now ahead body next at c.in_ok-taken.progress (progress.Full c.in-Full-2.field-0) c.deref.ensures.value c.in-Full-2.is
    (c.in_ok-taken.ensures.step r.done r.due_is) in
    let moves = moved c.args.want c.deref.result.now ahead body at c.in_ok-taken.progress (progress.Full c.in-Full-2.field-0) c.deref.ensures.value c.in-Full-2.is c.in_ok-taken.ensures.moves in
    subst (λ a. BodyRead c.args.want (front ++ rest) l0 l1 r0 r1 (Ok a)) (sym (c.reply-in-Full-2.ensures.reply h says))
    (chunks_robots c.args.want front rest ahead c.loop-ahead.chunks.body.items body h c.loop-ahead.chunks.due next c.args.start c.loop-ahead.done at c.in-Full-2.field-0 l0 l1 r0 r1 r i is begins
    (omega (arith, inv.far, inv.few, c.requires.early)) step moves (λ page. let other : false ≡ true = rw page at c.if-eq.ensures in absurd (cc)))

pub returns-in-Full-2-clause-cause : goal.returns-in-Full-2-clause-cause
returns-in-Full-2-clause-cause g c = record { later = c.loop-ahead.invariant.calm.faults; rose = λ e. absurd (c.reply-in-Full-2.ensures.some (cc)) }

pub returns-in-Full-2-clause-undisturbed : goal.returns-in-Full-2-clause-undisturbed
returns-in-Full-2-clause-undisturbed g c = c.loop-ahead.invariant.calm

pub overflow_add-done : goal.overflow_add-done
overflow_add-done g c =
    let link = g.L.Link in
    let inv = c.loop-ahead.invariant in
    let r = c.loop-ahead.invariant.read in
    let rest = c.args.rest.items in
    let ahead = c.loop-ahead.ahead.items in
    let next = c.advance.new.self.due in
    let body = c.advance.new.self.body.items in
    let at = c.in_ok-taken.taken in
    let step = open_step c.args.want r.done c.deref.result.now ahead body next at c.in_ok-taken.progress c.deref.ensures.value c.in_default.not-Whole c.in_default.not-Full c.in_default.not-Bad
    c.in_ok-taken.ensures.moves (c.in_ok-taken.ensures.step r.done r.due_is) in
    omega (arith, inv.far, inv.few, c.requires.early, step.0)

pub returns-in_err-read_more-clause-read : goal.returns-in_err-read_more-clause-read
returns-in_err-read_more-clause-read g c = λ front h says i begins is.
    let link = g.L.Link in
    let inv = c.loop-ahead.invariant in
    let r = c.loop-ahead.invariant.read in
    let rest = c.args.rest.items in
    let ahead = c.loop-ahead.ahead.items in
    let next = c.advance.new.self.due in
    let body = c.advance.new.self.body.items in
    let at = c.in_ok-taken.taken in
    let l0 = link.left c.args.link.now in
    let l1 = link.left c.loop-ahead.link in
    let r0 = link.left_at_read c.args.link.now in
    let r1 = link.left_at_read c.loop-ahead.link in
    let l2 = link.left c.read_more.new.link in
    let r2 = link.left_at_read c.read_more.new.link in
    let step = open_step c.args.want r.done c.deref.result.now ahead body next at c.in_ok-taken.progress c.deref.ensures.value c.in_default.not-Whole c.in_default.not-Full c.in_default.not-Bad
    c.in_ok-taken.ensures.moves (c.in_ok-taken.ensures.step r.done r.due_is) in
    let e = c.in_err-read_more.ensures.memory refl in
    chunks_unread c.args.want front rest ahead c.loop-ahead.chunks.body.items h c.loop-ahead.chunks.due c.args.start c.loop-ahead.done l0 l1 l2 r0 r1 r2 e.0 c.from_residual-in_err-read_more.result
    c.from_residual-in_err-read_more.ensures.0 r i is begins step.2.0 e.1 c.read_more.ensures.last
    (omega (arith, inv.far, inv.few, c.requires.early, c.requires.room.1, e.2, c.loop-ahead.auto.piece))

pub returns-in_err-read_more-clause-cause : goal.returns-in_err-read_more-clause-cause
returns-in_err-read_more-clause-cause g c = record {
  later = omega (arith, c.loop-ahead.invariant.calm.faults, c.read_more.ensures.undisturbed.faults);
  rose = λ e. absurd (unanswered c.from_residual-in_err-read_more.result NoReply c.from_residual-in_err-read_more.ensures.0 e);
}

pub returns-in_err-read_more-clause-undisturbed : goal.returns-in_err-read_more-clause-undisturbed
returns-in_err-read_more-clause-undisturbed g c = calm_on _ _ _ _ _ _ _ _ _ c.loop-ahead.invariant.calm c.read_more.ensures.undisturbed

pub loop-ahead-smaller : goal.loop-ahead-smaller
loop-ahead-smaller g c =
    let link = g.L.Link in
    let r = c.loop-ahead.invariant.read in
    let rest = c.args.rest.items in
    let ahead = c.loop-ahead.ahead.items in
    let next = c.advance.new.self.due in
    let body = c.advance.new.self.body.items in
    let at = c.in_ok-taken.taken in
    let step = open_step c.args.want r.done c.deref.result.now ahead body next at c.in_ok-taken.progress c.deref.ensures.value c.in_default.not-Whole c.in_default.not-Full c.in_default.not-Bad
    c.in_ok-taken.ensures.moves (c.in_ok-taken.ensures.step r.done r.due_is) in
    let e = c.in_ok-read_more.ensures.ok in
    let same : c.read_more.new.bytes.items ≡ drop at ahead ++ e.0 = e.1 ∙ ap (λ l. l ++ e.0) c.drop_front.ensures in
    let some : 0 < length e.0 = rw c.in-More.is at e.4 in
    let inv = c.loop-ahead.invariant in
    omega (arith, inv.far, inv.few, ap length same, length-append (drop at ahead) e.0, length-drop at ahead, step.0, some)

pub loop-ahead-preserved : goal.loop-ahead-preserved
loop-ahead-preserved g c =
    let link = g.L.Link in
    let inv = c.loop-ahead.invariant in
    let r = c.loop-ahead.invariant.read in
    let rest = c.args.rest.items in
    let ahead = c.loop-ahead.ahead.items in
    let next = c.advance.new.self.due in
    let body = c.advance.new.self.body.items in
    let at = c.in_ok-taken.taken in
    let l0 = link.left c.args.link.now in
    let l1 = link.left c.loop-ahead.link in
    let r0 = link.left_at_read c.args.link.now in
    let r1 = link.left_at_read c.loop-ahead.link in
    let l2 = link.left c.read_more.new.link in
    let r2 = link.left_at_read c.read_more.new.link in
    let step = open_step c.args.want r.done c.deref.result.now ahead body next at c.in_ok-taken.progress c.deref.ensures.value c.in_default.not-Whole c.in_default.not-Full c.in_default.not-Bad
    c.in_ok-taken.ensures.moves (c.in_ok-taken.ensures.step r.done r.due_is) in
    let e = c.in_ok-read_more.ensures.ok in
    let same : c.read_more.new.bytes.items ≡ drop at ahead ++ e.0 = e.1 ∙ ap (λ l. l ++ e.0) c.drop_front.ensures in
    let size : length c.read_more.new.bytes.items ≡ (length ahead - at) + length e.0 = omega (arith, ap length same, length-append (drop at ahead) e.0, length-drop at ahead) in
    let read = chunks_on c.args.want rest ahead c.loop-ahead.chunks.body.items body c.loop-ahead.chunks.due next c.args.start c.loop-ahead.done l0 l1 l2 r0 r1 r2 at e.0 r step.2 step.0 e.2
    c.read_more.ensures.last in
    record {
      read = subst (λ l. ChunksRead c.args.want rest l body next c.args.start (c.loop-ahead.done + at) l0 l2 r0 r2) (sym same) read;
      room = step.1;
      far = chunks_far c.args.want rest (drop at ahead ++ e.0) body next c.args.start (c.loop-ahead.done + at) l0 l2 r0 r2 read step.1;
      few = omega (arith, size, step.0, step.2.2, e.3, c.requires.room.1, c.loop-ahead.auto.piece);
      calm = calm_on _ _ _ _ _ _ _ _ _ inv.calm c.read_more.ensures.undisturbed;
    }

pub overflow_add-result-in-Ended : goal.overflow_add-result-in-Ended
overflow_add-result-in-Ended g c =
    let link = g.L.Link in
    let inv = c.loop-ahead.invariant in
    let r = c.loop-ahead.invariant.read in
    let rest = c.args.rest.items in
    let ahead = c.loop-ahead.ahead.items in
    let next = c.advance.new.self.due in
    let body = c.advance.new.self.body.items in
    let at = c.in_ok-taken.taken in
    let step = open_step c.args.want r.done c.deref.result.now ahead body next at c.in_ok-taken.progress c.deref.ensures.value c.in_default.not-Whole c.in_default.not-Full c.in_default.not-Bad
    c.in_ok-taken.ensures.moves (c.in_ok-taken.ensures.step r.done r.due_is) in
    let e = c.in_ok-read_more.ensures.ok in
    let same : c.read_more.new.bytes.items ≡ drop at ahead ++ e.0 = e.1 ∙ ap (λ l. l ++ e.0) c.drop_front.ensures in
    let none : e.0 ≡ [] = (rw c.in-Ended.is at e.4).0 in
    omega (arith, inv.far, inv.few, c.requires.early, c.len.ensures, ap length same, ap length none, length-append (drop at ahead) e.0, length-drop at ahead, step.0)

pub returns-in-Ended-clause-read : goal.returns-in-Ended-clause-read
returns-in-Ended-clause-read g c = λ front h says i begins is.
    let link = g.L.Link in
    let inv = c.loop-ahead.invariant in
    let r = c.loop-ahead.invariant.read in
    let rest = c.args.rest.items in
    let ahead = c.loop-ahead.ahead.items in
    let next = c.advance.new.self.due in
    let body = c.advance.new.self.body.items in
    let at = c.in_ok-taken.taken in
    let l0 = link.left c.args.link.now in
    let l1 = link.left c.loop-ahead.link in
    let r0 = link.left_at_read c.args.link.now in
    let r1 = link.left_at_read c.loop-ahead.link in
    let l2 = link.left c.read_more.new.link in
    let r2 = link.left_at_read c.read_more.new.link in
    let step = open_step c.args.want r.done c.deref.result.now ahead body next at c.in_ok-taken.progress c.deref.ensures.value c.in_default.not-Whole c.in_default.not-Full c.in_default.not-Bad
    c.in_ok-taken.ensures.moves (c.in_ok-taken.ensures.step r.done r.due_is) in
    let e = c.in_ok-read_more.ensures.ok in
    let same : c.read_more.new.bytes.items ≡ drop at ahead ++ e.0 = e.1 ∙ ap (λ l. l ++ e.0) c.drop_front.ensures in
    let ended = rw c.in-Ended.is at e.4 in
    chunks_short c.args.want front rest ahead c.loop-ahead.chunks.body.items e.0 h c.loop-ahead.chunks.due c.args.start c.loop-ahead.done _ l0 l1 l2 r0 r1 r2 r i is begins step.2.0 e.2 ended.0
    c.read_more.ensures.last (omega (arith, inv.far, inv.few, c.requires.early)) ended.1
    (omega (arith, c.len.ensures, ap length same, ap length ended.0, length-append (drop at ahead) e.0, length-drop at ahead, step.0))

pub returns-in-Ended-clause-cause : goal.returns-in-Ended-clause-cause
returns-in-Ended-clause-cause g c = record { later = omega (arith, c.loop-ahead.invariant.calm.faults, c.read_more.ensures.undisturbed.faults); rose = λ e. absurd (cc) }

pub returns-in-Ended-clause-undisturbed : goal.returns-in-Ended-clause-undisturbed
returns-in-Ended-clause-undisturbed g c = calm_on _ _ _ _ _ _ _ _ _ c.loop-ahead.invariant.calm c.read_more.ensures.undisturbed

pub returns-in-Failed-clause-read : goal.returns-in-Failed-clause-read
returns-in-Failed-clause-read g c = λ front h says i begins is.
    let link = g.L.Link in
    let inv = c.loop-ahead.invariant in
    let r = c.loop-ahead.invariant.read in
    let rest = c.args.rest.items in
    let ahead = c.loop-ahead.ahead.items in
    let next = c.advance.new.self.due in
    let body = c.advance.new.self.body.items in
    let at = c.in_ok-taken.taken in
    let l0 = link.left c.args.link.now in
    let l1 = link.left c.loop-ahead.link in
    let r0 = link.left_at_read c.args.link.now in
    let r1 = link.left_at_read c.loop-ahead.link in
    let l2 = link.left c.read_more.new.link in
    let r2 = link.left_at_read c.read_more.new.link in
    let step = open_step c.args.want r.done c.deref.result.now ahead body next at c.in_ok-taken.progress c.deref.ensures.value c.in_default.not-Whole c.in_default.not-Full c.in_default.not-Bad
    c.in_ok-taken.ensures.moves (c.in_ok-taken.ensures.step r.done r.due_is) in
    let e = c.in_ok-read_more.ensures.ok in
    let same : c.read_more.new.bytes.items ≡ drop at ahead ++ e.0 = e.1 ∙ ap (λ l. l ++ e.0) c.drop_front.ensures in
    let none : e.0 ≡ [] = rw c.in-Failed.is at e.4 in
    chunks_failed c.args.want front rest ahead c.loop-ahead.chunks.body.items e.0 h c.loop-ahead.chunks.due c.args.start c.loop-ahead.done l0 l1 l2 r0 r1 r2 r i is begins step.2.0 e.2 none
    c.read_more.ensures.last (omega (arith, inv.far, inv.few, c.requires.early))

pub returns-in-Failed-clause-cause : goal.returns-in-Failed-clause-cause
returns-in-Failed-clause-cause g c = record {
  later = omega (arith, c.loop-ahead.invariant.calm.faults, c.read_more.ensures.undisturbed.faults);
  rose = λ e. omega (arith, c.loop-ahead.invariant.calm.faults, c.read_more.ensures.cause.rose (c.in_ok-read_more.was ∙ ap Ok c.in-Failed.is));
}

pub returns-in-Failed-clause-undisturbed : goal.returns-in-Failed-clause-undisturbed
returns-in-Failed-clause-undisturbed g c = calm_on _ _ _ _ _ _ _ _ _ c.loop-ahead.invariant.calm c.read_more.ensures.undisturbed
