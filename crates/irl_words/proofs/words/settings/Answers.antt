use Rattle.std.proofs.Common.{codes, arith}
use Rattle.clap.specs.Words.{found_of, rows_of}
use Rattle.irl_words.proofs.Numbers.{number_in_range}
use Rattle.irl_words.proofs.words.settings.Goals as goal

pub returns-clause-range : goal.returns-clause-range
returns-clause-range c =
    let rows = rows_of (found_of c.args.matches.now) in
    record {
      array = rw c.number-2.ensures (number_in_range (codes "array") 1 8192 1024 rows c.requires.1.0 (omega arith) (omega arith));
      trigger = rw c.number-3.ensures (number_in_range (codes "trigger") 1 1048576 16384 rows c.requires.1.1.0 (omega arith) (omega arith));
      block = rw c.number-4.ensures (number_in_range (codes "block") 1 65536 4096 rows c.requires.1.1.1.0 (omega arith) (omega arith));
      cap = rw c.large_number.ensures (number_in_range (codes "cap") 1 1099511627776 1099511627776 rows c.requires.1.1.1.1.0 (omega arith) (omega arith));
    }
