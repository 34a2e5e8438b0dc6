use Rattle.std.proofs.Common.{inl, inr}
use Rattle.irl_top.proofs.Deciding.{crawl_waits, does_drum, does_list, does_seen, does_show, gen_waits, replay_waits}
use Rattle.irl_top.proofs.program.carry_out.Goals as goal

pub returns-in-Seen : goal.returns-in-Seen
returns-in-Seen g c = does_seen c.args.command.now _ _ _ _ _ _ c.in-Seen.is c.filter.ensures

pub returns-in-Drum : goal.returns-in-Drum
returns-in-Drum g c = does_drum c.args.command.now _ _ _ _ _ _ c.in-Drum.is c.filter-in-Drum.ensures

pub returns-in-Show : goal.returns-in-Show
returns-in-Show g c = does_show c.args.command.now _ _ _ _ _ c.in-Show.is (c.show.ensures (record { bytes = g.I.Source.left c.args.input.now; faults = g.I.Source.faults c.args.input.now }))

pub returns-in-List : goal.returns-in-List
returns-in-List g c = does_list c.args.command.now _ _ _ _ _ c.in-List.is (c.list.ensures (record { bytes = g.I.Source.left c.args.input.now; faults = g.I.Source.faults c.args.input.now }))

pub unreachable-requires : goal.unreachable-requires
unreachable-requires g c = elim c.in-Replay.is [
  | inl replay ↦ replay_waits c.args.command.now replay.0 replay.1 replay.2 c.requires.plain
  | inr (inl crawl) ↦ crawl_waits c.args.command.now crawl.0 crawl.1 crawl.2 crawl.3 c.requires.plain
  | inr (inr gen) ↦ gen_waits c.args.command.now gen.0 gen.1 gen.2 gen.3 c.requires.plain
]
