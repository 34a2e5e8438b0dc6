-- A head of an interim reply is read over, and the first other one is the reply's.
use Rattle.std.proofs.Common.{◌+◌, ◌≡◌, length, map, take, inl, false, true, sym, ap, ◌∙◌, arith}
use Rattle.httparse.specs.Spans.{header_bytes}
use Rattle.httparse.specs.Grammar.{status_code}
use Rattle.irl_http.specs.Fields.{location_of, html_of, plan_by}
use Rattle.irl_http.specs.Heads.{is_interim, is_interim_status}
use Rattle.irl_http.proofs.StepLemmas.{parsed, ends_heads, awaits_next, moves_on, quiet_on, tells_at, shown}
use Rattle.irl_http.proofs.head.look.Goals as goal

pub returns-then-not-is_interim : goal.returns-then-not-is_interim
returns-then-not-is_interim c =
    let bytes = c.args.bytes.now in
    let at = c.loop-front.at in
    let head = c.in-Head.ensures.head.0 in
    let told = c.in-Head.ensures.head.1 in
    let p = parsed bytes at c.next_head.new.headers c.in-Head.front.now c.in-Head.spans c.in-Head.ensures c.loop-front.invariant.within (omega arith) in
    let final : is_interim head ≡ false = ap is_interim_status (sym told.code) ∙ sym c.is_interim.ensures ∙ c.if-not-is_interim.true in (
      head,
      record {
        status = c.in_ok-head-in-Head.ensures.status ∙ told.code;
        location = c.in_ok-head-in-Head.ensures.location ∙ ap location_of told.fields;
        html = c.in_ok-head-in-Head.ensures.html ∙ ap html_of told.fields;
        plan = c.in_ok-head-in-Head.ensures.plan ∙ ap (λ s. plan_by s (map (header_bytes c.in-Head.front.now) (take c.in-Head.spans.headers c.next_head.new.headers))) told.code
            ∙ ap (plan_by (status_code head)) told.fields;
      },
      ends_heads bytes at c.in-Head.front.now head c.in-Head.spans.len p c.loop-front.invariant.awaits c.loop-front.invariant.quiet c.in-Head.ensures.quiet final,
    )

pub loop-front-smaller : goal.loop-front-smaller
loop-front-smaller c =
    let p = parsed c.args.bytes.now c.loop-front.at c.next_head.new.headers c.in-Head.front.now c.in-Head.spans c.in-Head.ensures c.loop-front.invariant.within (omega arith) in
    let on = moves_on c.args.bytes.now c.loop-front.at c.in-Head.front.now c.in-Head.ensures.head.0 c.in-Head.spans.len p in
    omega (arith, on.0, on.1)

pub loop-front-preserved : goal.loop-front-preserved
loop-front-preserved c =
    let bytes = c.args.bytes.now in
    let at = c.loop-front.at in
    let head = c.in-Head.ensures.head.0 in
    let told = c.in-Head.ensures.head.1 in
    let p = parsed bytes at c.next_head.new.headers c.in-Head.front.now c.in-Head.spans c.in-Head.ensures c.loop-front.invariant.within (omega arith) in
    let on = moves_on bytes at c.in-Head.front.now head c.in-Head.spans.len p in
    let interim : is_interim head ≡ true = ap is_interim_status (sym told.code) ∙ sym c.is_interim.ensures ∙ c.if-not-is_interim.false in
    record {
      within = on.1;
      early = on.2;
      awaits = awaits_next bytes at c.in-Head.front.now head c.in-Head.spans.len p c.loop-front.invariant.awaits interim;
      quiet = quiet_on bytes at (at + c.in-Head.spans.len) c.loop-front.invariant.quiet c.in-Head.ensures.quiet;
    }

pub returns-in-Open : goal.returns-in-Open
returns-in-Open c =
    let told = c.in-Open.ensures in (
      quiet_on c.args.bytes.now c.loop-front.at (length c.args.bytes.now + 1) c.loop-front.invariant.quiet told.0,
      told.1,
      told.2,
      record { ends = c.loop-front.invariant; none_behind = told.3 },
    )

pub returns-in-Bad : goal.returns-in-Bad
returns-in-Bad c =
    let told = c.in-Bad.ensures in
    tells_at c.args.bytes.now c.in-Bad.end _ (quiet_on c.args.bytes.now c.loop-front.at c.in-Bad.end c.loop-front.invariant.quiet told.0) told.1 (λ want.
    (shown c.args.bytes.now c.in-Bad.end told.1, inl told.2))

pub returns-in-TooLarge : goal.returns-in-TooLarge
returns-in-TooLarge c =
    let told = c.in-TooLarge.ensures in
    tells_at c.args.bytes.now c.in-TooLarge.end _ (quiet_on c.args.bytes.now c.loop-front.at c.in-TooLarge.end c.loop-front.invariant.quiet told.0) told.1 (λ want.
    (shown c.args.bytes.now c.in-TooLarge.end told.1, inl (told.2, told.3)))
