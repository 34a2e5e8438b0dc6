use Rattle.std.proofs.Common.{◌≡◌, ◌++◌, take}
use Rattle.irl_model.proofs.plain.push_part.Given as goal

-- the offers so far stand behind the others
abbrev pub invariant-loop-offer : goal.invariant-loop-offer
invariant-loop-offer l = l.offers.items ≡ l.fn.offers.items ++ take l.offer-index l.offer-items
