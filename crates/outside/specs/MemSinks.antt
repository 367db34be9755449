-- What a sink in memory has taken and counted.
use Rattle.std.specs.Prelude.{◌≡◌, ℕ, List}
use Rattle.outside.specs.declared.mem_sink.MemSink.{MemSink}

-- the bytes so far
abbrev pub bytes_taken : MemSink → List ℕ
bytes_taken sink = sink.bytes.items

-- how many bytes it takes in all, and at most in one put
abbrev pub room_of : MemSink → ℕ
room_of sink = sink.room

abbrev pub most_of : MemSink → ℕ
most_of sink = sink.most

-- the numbers of the puts that fail
abbrev pub failing_puts : MemSink → List ℕ
failing_puts sink = sink.failing.items

-- how many puts there were, which is the number of the next one
abbrev pub puts_made : MemSink → ℕ
puts_made sink = sink.puts

-- how many of them failed
abbrev pub faults_of : MemSink → ℕ
faults_of sink = sink.faults

-- the room, the most of one put and the failing numbers never change
pub record SameSetup (old new : MemSink) : Type 0 where
  pub room : room_of new ≡ room_of old
  pub most : most_of new ≡ most_of old
  pub failing : failing_puts new ≡ failing_puts old
