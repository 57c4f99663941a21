-- The bytes that were read to their end are a trace, or have a first fault.
use Rattle.std.proofs.Common.{◌≤◌, length, subst, sym, rules}
use Rattle.nm_io.specs.declared.sources.TheConstants.{MOST_BYTES}
use Rattle.nm_answer.proofs.Causes.{HasRead}
use Rattle.nm_top.proofs.Imports.{IsTraceReading-script, IsTraceReading-refused}
use Rattle.nm_top.proofs.importing.read_trace.Goals as goal

pub returns-in-Ok-import-clause-reading : goal.returns-in-Ok-import-clause-reading
returns-in-Ok-import-clause-reading g c =
    let few : length c.in-Ok.bytes.items ≤ MOST_BYTES = search rules in
    let read : HasRead (record { left = g.S.Source.left; faults = g.S.Source.faults; gives = g.S.Source.read_gives }) c.args.source.now c.read_all.new.src c.in-Ok.bytes.items
    = record { few = few; reads = c.in-Ok.ensures.calls; all = c.in-Ok.ensures.reads.all; kept = c.in-Ok.ensures.kept (λ e. absurd (cc)) } in
    IsTraceReading-script _ _ _ _ _ c.deref.result.now c.in-Ok-import.script (subst (HasRead _ c.args.source.now c.read_all.new.src) (sym c.deref.ensures.value) read)
    c.in-Ok-import.ensures.found c.in-Ok-import.ensures.only c.in-Ok-import.ensures.first

pub returns-clause-reading : goal.returns-clause-reading
returns-clause-reading g c =
    let few : length c.in-Ok.bytes.items ≤ MOST_BYTES = search rules in
    let read : HasRead (record { left = g.S.Source.left; faults = g.S.Source.faults; gives = g.S.Source.read_gives }) c.args.source.now c.read_all.new.src c.in-Ok.bytes.items
    = record { few = few; reads = c.in-Ok.ensures.calls; all = c.in-Ok.ensures.reads.all; kept = c.in-Ok.ensures.kept (λ e. absurd (cc)) } in
    rw c.status_of_trace.ensures (IsTraceReading-refused _ _ _ _ _ c.deref.result.now c.in-Err-import.refusal (subst (HasRead _ c.args.source.now c.read_all.new.src) (sym c.deref.ensures.value) read)
    c.in-Err-import.ensures.fault c.in-Err-import.ensures.only c.in-Err-import.ensures.first c.read_again.ensures)
