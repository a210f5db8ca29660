-- Why there is no next line, as a stop of the reader of facts.
use Rattle.bz_lines.specs.declared.reader.LineFault.{LineFault}
use Rattle.bz_lines.specs.declared.reader.LineFault.TheVariants.{NotText as LineNotText, OutOfMemory as NoRoomForLine}
use Rattle.bz_facts.specs.declared.faults.MpsKind.TheVariants.{NotText}
use Rattle.bz_facts.specs.declared.faults.MpsStop.{MpsStop}
use Rattle.bz_facts.specs.declared.faults.MpsStop.TheVariants.{Fault, OutOfMemory}

-- the stop where there is no next line
abbrev pub stop_by : LineFault → MpsStop
stop_by (LineNotText line) = Fault (record { line = line; kind = NotText })
stop_by NoRoomForLine = OutOfMemory
