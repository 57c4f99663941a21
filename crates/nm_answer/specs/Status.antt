-- The number and the line of a status.
use Rattle.std.specs.Prelude.{ℕ, List, [], ◌++◌, codes}
use Rattle.std.specs.Fmt.{decimal}
use Rattle.nm_script.specs.declared.fault.ScriptFault.{ScriptFault}
use Rattle.nm_script.specs.declared.fault.ScriptFault.TheVariants.{TooLong, Empty, BadHeader, BadLine, BadNumber, OutOfRange, DuplicateMap, Unmapped, ReadOnly, MissingLine, TooManyPages, TooManyTiers, TooFewTiers}
use Rattle.nm_script.specs.declared.fault.ScriptRefusal.{ScriptRefusal}
use Rattle.nm_script.specs.declared.fault.ScriptRefusal.TheVariants as refusals
use Rattle.nm_io.specs.declared.faults.ReadRefusal.{ReadRefusal}
use Rattle.nm_io.specs.declared.faults.ReadRefusal.TheVariants as reads
use Rattle.nm_trace.specs.declared.fault.TraceFault.{TraceFault}
use Rattle.nm_trace.specs.declared.fault.TraceFault.TheVariants as traces
use Rattle.nm_trace.specs.declared.fault.TraceRefusal.{TraceRefusal}
use Rattle.nm_trace.specs.declared.fault.TraceRefusal.TheVariants as trace_refusals
use Rattle.nm_answer.specs.declared.status.Status.{Status}
use Rattle.nm_answer.specs.declared.status.Status.TheVariants.{Done, Usage, Script, ReadFault, WriteFault, Memory, Trace}

-- the number with which the program ends
abbrev pub exit_number : Status → ℕ
exit_number Done = 0
exit_number Usage = 2
exit_number (Script fault line) = 3
exit_number ReadFault = 4
exit_number WriteFault = 5
exit_number Memory = 6
exit_number (Trace fault row) = 7

-- the name of a fault
abbrev pub fault_name : ScriptFault → List ℕ
fault_name TooLong = codes "TooLong"
fault_name Empty = codes "Empty"
fault_name BadHeader = codes "BadHeader"
fault_name BadLine = codes "BadLine"
fault_name BadNumber = codes "BadNumber"
fault_name OutOfRange = codes "OutOfRange"
fault_name DuplicateMap = codes "DuplicateMap"
fault_name Unmapped = codes "Unmapped"
fault_name ReadOnly = codes "ReadOnly"
fault_name MissingLine = codes "MissingLine"
fault_name TooManyPages = codes "TooManyPages"
fault_name TooManyTiers = codes "TooManyTiers"
fault_name TooFewTiers = codes "TooFewTiers"

-- the name of a trace's fault
abbrev pub trace_fault_name : TraceFault → List ℕ
trace_fault_name traces.BadHeader = codes "BadHeader"
trace_fault_name traces.BadRecord = codes "BadRecord"
trace_fault_name traces.BadNumber = codes "BadNumber"
trace_fault_name traces.OutOfRange = codes "OutOfRange"
trace_fault_name traces.TooManyPages = codes "TooManyPages"
trace_fault_name traces.Empty = codes "Empty"
trace_fault_name traces.ScriptTooLong = codes "ScriptTooLong"

-- the line on standard error, without its newline; none for Done
abbrev pub status_line : Status → List ℕ
status_line Done = []
status_line Usage = codes "nomad: usage"
status_line (Script fault line) = codes "nomad: line " ++ decimal line ++ codes ": " ++ fault_name fault
status_line ReadFault = codes "nomad: read fault"
status_line WriteFault = codes "nomad: write fault"
status_line Memory = codes "nomad: memory"
status_line (Trace fault row) = codes "nomad: trace row " ++ decimal row ++ codes ": " ++ trace_fault_name fault

-- the status of a source that was not read to its end
abbrev pub status_of_read : ReadRefusal → Status
status_of_read reads.ReadFault = ReadFault
status_of_read reads.TooLong = Script TooLong 0
status_of_read reads.Memory = Memory

-- the status of a text that was refused
abbrev pub status_of_text : ScriptRefusal → Status
status_of_text (refusals.At fault line) = Script fault line
status_of_text refusals.Memory = Memory

-- the status of a trace that was refused
abbrev pub status_of_trace : TraceRefusal → Status
status_of_trace (trace_refusals.At fault row) = Trace fault row
status_of_trace trace_refusals.Memory = Memory
