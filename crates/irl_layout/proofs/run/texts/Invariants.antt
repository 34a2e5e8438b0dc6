use Rattle.std.proofs.Common.{◌≡◌, take}
use Rattle.irl_layout.specs.Runs.{texts_of}
use Rattle.irl_layout.proofs.run.texts.Given as goal

-- the texts of the offers so far
abbrev pub invariant-loop-offer-2 : goal.invariant-loop-offer-2
invariant-loop-offer-2 l = l.texts.items ≡ texts_of (take l.offer-index l.offers)
