use Rattle.std.proofs.Common.{[]}
use Rattle.irl_crawl.proofs.Room.{handed_few, room_pairs, room_urls}
use Rattle.irl_crawl.proofs.laws.a_crawl_of_few_pages_has_room.Goals as goal

pub returns-clause-handed : goal.returns-clause-handed
returns-clause-handed c = handed_few

pub returns-clause-urls : goal.returns-clause-urls
returns-clause-urls c = λ settings handed most state room few b within. room_urls [] settings handed most state state room few b within

pub returns-clause-pairs : goal.returns-clause-pairs
returns-clause-pairs c = λ suffixes settings handed most state later room few front is among b within.
    room_pairs suffixes settings handed most state later room few b within front among is
