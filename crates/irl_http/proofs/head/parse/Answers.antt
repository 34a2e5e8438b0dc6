-- What is reported for too many fields is no head yet.
use Rattle.std.proofs.Common.{ap, subst, Err}
use Rattle.httparse.specs.Spans.{ResponseExceeds, ResponseOverflows}
use Rattle.irl_http.proofs.HeadLemmas.{exceeds_open, overflows_none}
use Rattle.irl_http.proofs.head.parse.Goals as goal

pub returns-in-Err-TooManyHeaders : goal.returns-in-Err-TooManyHeaders
returns-in-Err-TooManyHeaders c =
    let front = c.args.front.now in (
      overflows_none front (subst (λ n. ResponseOverflows n front) c.requires.room c.in-Err-TooManyHeaders.ensures.no_room),
      exceeds_open front c.requires.cut (subst (λ n. ResponseExceeds n front) c.requires.room (c.in-Err-TooManyHeaders.ensures.too_many (ap Err c.in-Err-TooManyHeaders.field-0-is))),
    )
