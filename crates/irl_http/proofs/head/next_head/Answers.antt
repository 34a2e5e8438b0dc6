-- A front of the bytes behind the place is parsed: all that heads may have, or as many lines as a head may have.
use Rattle.std.proofs.Common.{◌≡◌, ◌+◌, ◌-◌, ◌<◌, length, take, drop, ap, ◌∙◌, subst, arith, length-take, length-drop}
use Rattle.std.proofs.lemmas.List.{take_all}
use Rattle.irl_http.specs.Heads.{max_fields, line_feeds, HasNoHead, ReadsHead}
use Rattle.irl_http.specs.Parsing.{QuietBetween}
use Rattle.irl_http.proofs.StepLemmas.{make_front, quiet_whole, next_bad, next_long, next_open, not_yet, fits_room}
use Rattle.irl_http.proofs.head.next_head.Goals as goal

pub returns-in-Whole : goal.returns-in-Whole
returns-in-Whole c =
    let bytes = c.args.bytes.now in
    let at = c.args.at in
    let f = make_front bytes at c.min.result c.lines_end-end.result.0 (omega arith) (omega arith) (omega arith) c.lines_end-end.ensures.within c.lines_end-end.ensures.before in
    let front = take c.lines_end-end.result.0 (take (c.min.result - at) (drop at bytes)) in
    let within = c.in-Whole.ensures.0 in
    let read = c.in-Whole.ensures.1 in
    let reads : ReadsHead front read.0 (drop c.in-Whole.spans.len front) = record {
      reads = read.1.reads;
      short = fits_room front c.parse.new.headers c.in-Whole.spans read.0 within read.1.fields (omega arith);
    } in
    record {
      front_is = f.is;
      early = f.early;
      within = within;
      head = read;
      quiet = quiet_whole bytes at front read.0 c.in-Whole.spans.len f c.requires.awaits reads read.1.len within.section.len_fits;
    }

pub returns-in-Bad : goal.returns-in-Bad
returns-in-Bad c =
    let bytes = c.args.bytes.now in
    let at = c.args.at in
    let f = make_front bytes at c.min.result c.lines_end-end.result.0 (omega arith) (omega arith) (omega arith) c.lines_end-end.ensures.within c.lines_end-end.ensures.before in
    next_bad bytes at _ c.fewest_bad.result f c.requires.awaits c.in-Bad.ensures c.fewest_bad.ensures.within c.fewest_bad.ensures.bad c.fewest_bad.ensures.fewest

pub returns-in-Open : goal.returns-in-Open
returns-in-Open c =
    let bytes = c.args.bytes.now in
    let at = c.args.at in
    let f = make_front bytes at c.min.result c.lines_end-end.result.0 (omega arith) (omega arith) (omega arith) c.lines_end-end.ensures.within c.lines_end-end.ensures.before in
    let feeds : line_feeds (take c.lines_end-end.result.0 (take (c.min.result - at) (drop at bytes))) ≡ max_fields + 2 = rw c.if-last.true at c.lines_end-end.ensures.last in
    next_long bytes at _ c.lines_end-end.result.0 f c.requires.awaits c.in-Open.ensures.0 c.in-Open.ensures.1 feeds
    (omega (arith, length-take c.lines_end-end.result.0 (take (c.min.result - at) (drop at bytes)), c.lines_end-end.ensures.within))

pub returns-in-Open-2 : goal.returns-in-Open-2
returns-in-Open-2 c =
    let bytes = c.args.bytes.now in
    let at = c.args.at in
    let known = take (c.min.result - at) (drop at bytes) in
    let end = c.lines_end-end.result.0 in
    let f = make_front bytes at c.min.result end (omega arith) (omega arith) (omega arith) c.lines_end-end.ensures.within c.lines_end-end.ensures.before in
    let last : (end ≡ length known) × (line_feeds known < max_fields + 2) = rw c.if-last.false at c.lines_end-end.ensures.last in
    let all : take end known ≡ known = take_all end known (omega (arith, last.0)) in
    let size : at + length (take end known) + 1 ≡ length bytes + 1 = omega (arith, ap length all, length-take (c.min.result - at) (drop at bytes), length-drop at bytes) in (
      subst (QuietBetween bytes at) size (next_open bytes at (take end known) f c.requires.awaits c.in-Open.ensures.0 c.in-Open.ensures.1 (omega (arith, ap line_feeds all, last.1))),
      omega arith,
      λ h rest. not_yet bytes at (take end known) f c.requires.awaits c.in-Open.ensures.0 (omega (arith, size)) h rest,
      subst HasNoHead (all ∙ take_all (c.min.result - at) (drop at bytes) (omega (arith, length-drop at bytes))) c.in-Open.ensures.0,
    )
