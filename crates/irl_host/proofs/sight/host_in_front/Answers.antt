use Rattle.std.proofs.Common.{◌∙◌, sym, rules}
use Rattle.std.proofs.lemmas.List.{take_rest}
use Rattle.url.proofs.InputLemmas.{split_once_none, split_once_at_first}
use Rattle.irl_host.proofs.sight.host_in_front.Goals.{else-is_plain_host-via-then-is_plain_host+else-is_plain_target, else-is_plain_host-via-else-is_plain_host}
use Rattle.irl_host.proofs.sight.host_in_front.Goals as goal

pub returns-in_err-slash : goal.returns-in_err-slash
returns-in_err-slash c = rw (split_once_none 47 c.args.rest.now (search rules)) (search rules)

pub returns-then-is_plain_target : goal.returns-then-is_plain_target
returns-then-is_plain_target c =
    let found = split_once_at_first 47 c.args.rest.now c.in_ok-slash.slash (search rules) (search rules) (search rules) in
    let host = sym c.is_plain_host.ensures ∙ c.if-is_plain_host.true in
    let target = rw take_rest at (sym c.is_plain_target.ensures ∙ c.if-is_plain_target.true) in
    rw (found, host, target)

pub returns-else-is_plain_host : goal.returns-else-is_plain_host
returns-else-is_plain_host c =
    let found = split_once_at_first 47 c.args.rest.now c.in_ok-slash.slash (search rules) (search rules) (search rules) in
    let host = c.is_plain_host.ensures in
    elim c.else-is_plain_host.branch [
      | else-is_plain_host-via-then-is_plain_host+else-is_plain_target w ↦
          let first = sym host ∙ w.if-is_plain_host.true in
          let target = rw take_rest at (sym w.is_plain_target.ensures ∙ w.if-is_plain_target.false) in
          rw (found, first, target)
      | else-is_plain_host-via-else-is_plain_host w ↦
          let first = sym host ∙ w.if-is_plain_host.false in
          rw (found, first)
    ]
