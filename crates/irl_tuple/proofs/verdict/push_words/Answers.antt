use Rattle.std.proofs.Common.{◌≡◌, ◌∙◌, sym}
use Rattle.std.specs.Prelude.{codes}
use Rattle.std.specs.Fmt.{decimal}
use Rattle.irl_tuple.specs.Verdicts.{key_digits}
use Rattle.irl_tuple.proofs.HexLemmas.{known_pushed}
use Rattle.irl_tuple.proofs.verdict.push_words.Goals as goal

pub returns-in_ok-extend_from_slice-in-Known-2-clause-ok :
    goal.returns-in_ok-extend_from_slice-in-Known-2-clause-ok
returns-in_ok-extend_from_slice-in-Known-2-clause-ok c =
    let value : c.as_bytes.result.now ≡ decimal c.in-Known.value = c.as_bytes.ensures.value ∙ c.format.ensures.text in
    rw c.in-Known.is (rw (sym value) (known_pushed c.extend_from_slice-in-Known-3.result (codes "known ") (key_digits c.args.key) c.as_bytes.result.now c.args.out.now.items _ _ _ _
    c.in_ok-extend_from_slice-in-Known.ensures.items c.in_ok-push_hex-in-Known.ensures.ok c.in_ok-extend_from_slice-in-Known-2.ensures.items c.extend_from_slice-in-Known-3.ensures.items))
