use Rattle.std.proofs.Common.{◌∷◌, ◌++◌, []}
use Rattle.std.specs.Prelude.{codes}
use Rattle.irl_top.proofs.Sinks.{appends_both, prefix_more, then_prefix, on_err_always}
use Rattle.irl.proofs.write_refusal.Goals as goal

pub returns-in_err-write-clause-err : goal.returns-in_err-write-clause-err
returns-in_err-write-clause-err g c =
    let front = codes "words refused: " in
    let word = c.args.word.now in
    on_err_always _ _ (prefix_more _ _ (front ++ word) (10 ∷ []) (prefix_more _ _ front word c.in_err-write.ensures.err))

pub returns-in_err-write-2-clause-err : goal.returns-in_err-write-2-clause-err
returns-in_err-write-2-clause-err g c =
    let front = codes "words refused: " in
    let word = c.as_bytes.result.now in
    let begun = then_prefix _ _ _ front word c.in_ok-write.ensures.ok c.in_err-write-2.ensures.err in
    rw (← c.as_bytes.ensures.value) (on_err_always _ _ (prefix_more _ _ (front ++ word) (10 ∷ []) begun))

pub returns-in_err-write-3-clause-err : goal.returns-in_err-write-3-clause-err
returns-in_err-write-3-clause-err g c =
    let front = codes "words refused: " in
    let word = c.as_bytes.result.now in
    let both = appends_both _ _ _ front word c.in_ok-write.ensures.ok c.in_ok-write-2.ensures.ok in
    let begun = then_prefix _ _ _ (front ++ word) (10 ∷ []) both c.in_err-write-3.ensures.err in
    rw (← c.as_bytes.ensures.value) (on_err_always _ _ begun)

pub returns-clause-ok : goal.returns-clause-ok
returns-clause-ok g c =
    let front = codes "words refused: " in
    let word = c.as_bytes.result.now in
    let both = appends_both _ _ _ front word c.in_ok-write.ensures.ok c.in_ok-write-2.ensures.ok in
    rw (← c.as_bytes.ensures.value) (appends_both _ _ _ (front ++ word) (10 ∷ []) both c.in_ok-write-3.ensures.ok)
