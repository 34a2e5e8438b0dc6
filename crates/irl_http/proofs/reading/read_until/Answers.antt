-- Each read was made where there were too few bytes.
use Rattle.std.proofs.Common.{◌+◌, ◌<◌, ◌++◌, [], length, inl, inr, refl, sym, ap, ◌∙◌, arith, append-nil, append_assoc, length-append}
use Rattle.irl_http.proofs.ReadLemmas.{keeps_same, calm_same, calm_on, gets_read}
use Rattle.irl_http.proofs.reading.read_until.Goals as goal

pub loop-link-init : goal.loop-link-init
loop-link-init g c =
    let link = g.L.Link in
    record {
      gets = ([], sym (append-nil c.args.bytes.now.items), inl (refl, keeps_same (link.left c.args.link.now), refl));
      few = omega arith;
      calm = calm_same (link.written c.args.link.now) (link.connections c.args.link.now) (link.faults c.args.link.now);
    }

pub loop-link-preserved : goal.loop-link-preserved
loop-link-preserved g c =
    let link = g.L.Link in
    let first = c.args.bytes.now.items in
    let inv = c.loop-link.invariant in
    let e = c.in_ok-other.ensures.ok in
    let had : length first + length inv.gets.0 < c.args.target = omega (arith, ap length inv.gets.1, length-append first inv.gets.0, c.loop-link-test.true) in
    record {
      gets = (
        inv.gets.0 ++ e.0,
        e.1 ∙ ap (λ l. l ++ e.0) inv.gets.1 ∙ append_assoc first inv.gets.0 e.0,
        inr (gets_read (λ early. length first + length early < c.args.target) (link.left c.args.link.now) (link.left c.loop-link.link) (link.left c.read_more.new.link)
            (link.left_at_read c.args.link.now) (link.left_at_read c.loop-link.link) (link.left_at_read c.read_more.new.link) inv.gets.0 e.0 inv.gets.2 had e.2 c.read_more.ensures.last),
      );
      few = omega (arith, ap length e.1, length-append c.loop-link.bytes.items e.0, e.3, c.loop-link-test.true);
      calm = calm_on _ _ _ _ _ _ _ _ _ inv.calm c.read_more.ensures.undisturbed;
    }

pub loop-link-smaller : goal.loop-link-smaller
loop-link-smaller g c =
    let e = c.in_ok-other.ensures.ok in
    let some : 0 < length e.0 = rw c.in-More.is at e.4 in
    omega (arith, ap length e.1, length-append c.loop-link.bytes.items e.0, some, c.loop-link-test.true)

pub returns-in_err-other-clause-memory : goal.returns-in_err-other-clause-memory
returns-in_err-other-clause-memory g c = λ failed.
    let link = g.L.Link in
    let first = c.args.bytes.now.items in
    let inv = c.loop-link.invariant in
    let e = c.in_err-other.ensures.memory refl in
    let had : length first + length inv.gets.0 < c.args.target = omega (arith, ap length inv.gets.1, length-append first inv.gets.0, c.loop-link-test.true) in (
      inv.gets.0 ++ e.0,
      inr (gets_read (λ early. length first + length early < c.args.target) (link.left c.args.link.now) (link.left c.loop-link.link) (link.left c.read_more.new.link)
          (link.left_at_read c.args.link.now) (link.left_at_read c.loop-link.link) (link.left_at_read c.read_more.new.link) inv.gets.0 e.0 inv.gets.2 had e.1 c.read_more.ensures.last),
      omega (arith, length-append inv.gets.0 e.0, e.2, had),
    )
