-- A text gives one value, so a right answer is the one.
use Rattle.std.proofs.Common.{Ok, Err}
use Rattle.nm_trace.proofs.Outcome.{gives, import-says, fault-says}
use Rattle.nm_trace.proofs.importing.import.Goals as goal

pub returns-clause-only : goal.returns-clause-only
returns-clause-only c s is =
    gives c.args.bytes.now c.args.fast c.args.slow c.read_script.result (Ok s) c.read_script.ensures.found c.read_script.ensures.fault (import-says c.args.bytes.now c.args.fast c.args.slow s is)

pub returns-clause-first : goal.returns-clause-first
returns-clause-first c f n is =
    gives c.args.bytes.now c.args.fast c.args.slow c.read_script.result (Err (f, n)) c.read_script.ensures.found c.read_script.ensures.fault (fault-says c.args.bytes.now c.args.fast c.args.slow f n is)
