use Rattle.std.proofs.Common.{◌∙◌, ◌≡◌, None}
use Rattle.url.specs.Parser.{with_tail}
use Rattle.irl_key.proofs.WebLemmas.{with_tail-none}
use Rattle.irl_key.proofs.canon.without_fragment.Goals as goal

pub returns-in-Ok : goal.returns-in-Ok
returns-in-Ok c =
    let url = c.args.url in
    let set : c.set_fragment.new.self ≡ with_tail url url.query None = let e = c.in-Ok.ensures in cc in
    set ∙ with_tail-none url c.fragment.ensures.valid
