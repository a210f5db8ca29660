-- What a line that can't be read makes of a partition.
use Rattle.bz_lines.specs.declared.reader.LineFault.{LineFault}
use Rattle.bz_lines.specs.declared.reader.LineFault.TheVariants as line
use Rattle.bz_part.specs.declared.faults.PartKind.TheVariants.{NotText}
use Rattle.bz_part.specs.declared.faults.PartStop.{PartStop}
use Rattle.bz_part.specs.declared.faults.PartStop.TheVariants.{Fault, OutOfMemory}

-- a refused byte is a fault of the text
abbrev pub stop_of : LineFault → PartStop
stop_of (line.NotText n) = Fault (record { line = n; kind = NotText })
stop_of line.OutOfMemory = OutOfMemory
