-- What contracts see of any source and any sink.
use Rattle.std.specs.Prelude.{ℕ, Bool, List}
use Rattle.byte_io.specs.declared.sink.Sink as sink_trait
use Rattle.byte_io.specs.declared.source.Source as source_trait

-- whether it tells what is left, the bytes that are left, and the count of faults
pub record SourceSeen : Type 0 where
  pub told : Bool
  pub left : List ℕ
  pub count : ℕ

-- whether it tells what it holds, the bytes that it took, and the count of faults
pub record SinkSeen : Type 0 where
  pub told : Bool
  pub held : List ℕ
  pub count : ℕ

module _ {D : Type 0} where
  abbrev pub source_seen : source_trait.Ghosts D → D → SourceSeen
  source_seen s source = record { told = s.told; left = s.left source; count = s.count source }

  abbrev pub sink_seen : sink_trait.Ghosts D → D → SinkSeen
  sink_seen k sink = record { told = k.told; held = k.held sink; count = k.count sink }
