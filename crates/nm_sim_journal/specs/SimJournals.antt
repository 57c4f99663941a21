-- The journal of a simulation.
use Rattle.std.specs.Prelude.{ℕ, List}
use Rattle.nm_script.specs.Plain.{Script}
use Rattle.nm_script.specs.Script.{script_text}
use Rattle.nm_journal_text.specs.Journals.{journal_text}
use Rattle.nm_sched.specs.Plain.{SimRun}

-- behind the canonical text of the script: its events, and what is told of its end
abbrev pub journal_of : Script → SimRun → List ℕ
journal_of s run = journal_text (script_text s) s run.events run.results run.end
