-- What clauses see of the adapters over std's readers and writers.
use Rattle.std.specs.Prelude.{ℕ, List}
use Rattle.maple_io.specs.declared.adapt.ReadSource.{ReadSource}
use Rattle.maple_io.specs.declared.answer.Answer.{Answer}
use Rattle.maple_io.specs.declared.adapt.WriteSink.{WriteSink}

-- the reader of a source
abbrev pub reader_of : {R : Type 0} → ReadSource R → R
reader_of s = s.reader

-- how many of its reads failed
abbrev pub read_faults : {R : Type 0} → ReadSource R → ℕ
read_faults s = s.faults

-- what it answered to all reads so far
abbrev pub answers_of : {R : Type 0} → ReadSource R → List Answer
answers_of s = s.answers.value

-- the writer of a sink
abbrev pub writer_of : {W : Type 0} → WriteSink W → W
writer_of s = s.writer

-- how many of its writes failed
abbrev pub write_faults : {W : Type 0} → WriteSink W → ℕ
write_faults s = s.faults

-- the bytes that it took in all writes so far
abbrev pub took_of : {W : Type 0} → WriteSink W → List ℕ
took_of s = s.took.value
