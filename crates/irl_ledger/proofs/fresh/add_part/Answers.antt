use Rattle.std.proofs.Common.{◌∙◌, ◌+◌, ◌++◌, ◌∷◌, [], List, ap, append_assoc, sym, take}
use Rattle.irl_beast.specs.declared.item.Item.{Item}
use Rattle.irl_bay.specs.JudgedParts.{as_judged}
use Rattle.irl_ledger.specs.Crawling.{domain_of}
use Rattle.irl_ledger.specs.Passing.{items_from}
use Rattle.irl_ledger.proofs.FreshUrls.{items_one}
use Rattle.irl_ledger.proofs.fresh.add_part.Goals as goal

pub loop-k-preserved : goal.loop-k-preserved
loop-k-preserved c =
    let domain = domain_of c.args.suffixes.now in
    let one = as_judged c.get-one.result in
    c.in_ok-add_one.ensures.items
    ∙ ap (λ (is : List Item). is ++ items_from domain (c.args.from + c.loop-k.k) (one ∷ [])) c.loop-k.invariant
    ∙ append_assoc c.args.items.now.items (items_from domain c.args.from (take c.loop-k.k c.args.part.now)) (items_from domain (c.args.from + c.loop-k.k) (one ∷ []))
    ∙ ap (λ (is : List Item). c.args.items.now.items ++ is) (sym (items_one domain c.args.from c.loop-k.k c.args.part.now one c.get-one.ensures))
