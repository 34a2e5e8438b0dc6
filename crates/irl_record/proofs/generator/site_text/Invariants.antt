use Rattle.std.proofs.Common.{◌≡◌, ◌++◌}
use Rattle.std.specs.Prelude.{codes}
use Rattle.std.specs.List.{flat_map, range_with_len}
use Rattle.irl_record.specs.Site.{page_lines}
use Rattle.irl_record.proofs.generator.site_text.Given as goal

abbrev pub invariant-loop-number : goal.invariant-loop-number
invariant-loop-number l =
    l.text.items ≡ codes "suffix test\nseed http://s0.test/p0\n" ++ flat_map (page_lines l.pages) (range_with_len 0 l.number)
