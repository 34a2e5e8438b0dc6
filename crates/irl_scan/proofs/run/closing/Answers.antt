use Rattle.std.proofs.Common.{◌≡◌, false, true, drop, length, sym, ap, ◌∙◌, arith, below_more}
use Rattle.std.proofs.lemmas.List.{take_rest}
use Rattle.irl_scan.specs.Page.{closes, is_raw_end}
use Rattle.irl_scan.proofs.Runs.{first_run}
use Rattle.irl_scan.proofs.Searches.{raw_end_is}
use Rattle.irl_scan.proofs.run.closing.Goals as goal

pub loop-i-preserved : goal.loop-i-preserved
loop-i-preserved c =
    let bytes = c.args.bytes.now in
    let word = c.args.word.now in
    let here : is_raw_end word (drop c.loop-i.i bytes) ≡ false =
    raw_end_is word bytes c.loop-i.i c.loop-i-test.true ∙ ap (closes word) (sym (take_rest bytes c.loop-i.i)) ∙ sym c.closes.ensures ∙ c.if-closes.false in
    below_more (λ k. is_raw_end word (drop k bytes) ≡ false) c.loop-i.i c.loop-i.invariant here

pub returns-then-closes : goal.returns-then-closes
returns-then-closes c =
    let bytes = c.args.bytes.now in
    let word = c.args.word.now in
    let here : is_raw_end word (drop c.loop-i.i bytes) ≡ true =
    raw_end_is word bytes c.loop-i.i c.loop-i-test.true ∙ ap (closes word) (sym (take_rest bytes c.loop-i.i)) ∙ sym c.closes.ensures ∙ c.if-closes.true in
    first_run (is_raw_end word) bytes c.loop-i.i (let l = c.loop-i-test.true in omega arith) c.loop-i.invariant (λ l. here)

pub returns : goal.returns
returns c =
    let bytes = c.args.bytes.now in
    first_run (is_raw_end c.args.word.now) bytes (length bytes) (omega arith) (λ k l. c.loop-i.invariant k (let past = c.loop-i-test.false in omega arith)) (λ l. absurd (omega arith))
