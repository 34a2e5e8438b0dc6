use Rattle.std.proofs.Common.{◌≡◌}
use Rattle.irl_data_tests.proofs.frontier.crawl.Given as goal

abbrev pub invariant-loop-front : goal.invariant-loop-front
invariant-loop-front l = l.frontier.settings.buckets ≡ 1
