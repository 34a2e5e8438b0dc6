-- What a contract reads of the adapters over std's readers and writers.
use Rattle.std.specs.Prelude.{ℕ}
use Rattle.irl_io.specs.declared.read_source.ReadSource.{ReadSource}
use Rattle.irl_io.specs.declared.write_sink.WriteSink.{WriteSink}

-- the reader that a source stands over, and how often it has failed
abbrev pub reader_of : {T : Type 0} → ReadSource T → T
reader_of s = s.reader

abbrev pub read_faults : {T : Type 0} → ReadSource T → ℕ
read_faults s = s.faults

-- the writer that a sink stands over, and how often it has failed
abbrev pub writer_of : {T : Type 0} → WriteSink T → T
writer_of s = s.writer

abbrev pub write_faults : {T : Type 0} → WriteSink T → ℕ
write_faults s = s.faults
