use Rattle.std.proofs.Common.{◌≡◌, take}
use Rattle.irl_top.proofs.crawling.copies.Given as goal

abbrev pub invariant-loop-web : goal.invariant-loop-web
invariant-loop-web l = l.copies.items ≡ take l.web-index l.webs
