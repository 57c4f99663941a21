-- The bytes that were read to their end are a script, or have a first fault.
use Rattle.std.proofs.Common.{◌≤◌, length, subst, sym, rules}
use Rattle.nm_io.specs.declared.sources.TheConstants.{MOST_BYTES}
use Rattle.nm_answer.proofs.Causes.{HasRead, IsReading-script, IsReading-refused}
use Rattle.nm_answer.proofs.reading.read_script.Goals as goal

pub returns-in-Ok-parse-clause-reading : goal.returns-in-Ok-parse-clause-reading
returns-in-Ok-parse-clause-reading g c =
    let few : length c.in-Ok.bytes.items ≤ MOST_BYTES = search rules in
    let read : HasRead (record { left = g.S.Source.left; faults = g.S.Source.faults; gives = g.S.Source.read_gives }) c.args.source.now c.read_all.new.src c.in-Ok.bytes.items
    = record { few = few; reads = c.in-Ok.ensures.calls; all = c.in-Ok.ensures.reads.all; kept = c.in-Ok.ensures.kept (λ e. absurd (cc)) } in
    IsReading-script _ _ _ c.deref.result.now c.in-Ok-parse.script (subst (HasRead _ c.args.source.now c.read_all.new.src) (sym c.deref.ensures.value) read)
    c.in-Ok-parse.ensures.found c.in-Ok-parse.ensures.only c.in-Ok-parse.ensures.first

pub returns-clause-reading : goal.returns-clause-reading
returns-clause-reading g c =
    let few : length c.in-Ok.bytes.items ≤ MOST_BYTES = search rules in
    let read : HasRead (record { left = g.S.Source.left; faults = g.S.Source.faults; gives = g.S.Source.read_gives }) c.args.source.now c.read_all.new.src c.in-Ok.bytes.items
    = record { few = few; reads = c.in-Ok.ensures.calls; all = c.in-Ok.ensures.reads.all; kept = c.in-Ok.ensures.kept (λ e. absurd (cc)) } in
    rw c.status_of_text.ensures (IsReading-refused _ _ _ c.deref.result.now c.in-Err-parse.refusal (subst (HasRead _ c.args.source.now c.read_all.new.src) (sym c.deref.ensures.value) read)
    c.in-Err-parse.ensures.fault c.in-Err-parse.ensures.only c.in-Err-parse.ensures.first)
