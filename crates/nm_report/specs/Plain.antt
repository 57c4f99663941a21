-- What a report says, without where it lies in memory.
use Rattle.std.specs.Prelude.{List}
use Rattle.nm_action.specs.declared.tally.Tally.{Tally}
use Rattle.nm_script.specs.Plain.{Script}
use Rattle.nm_core.specs.EndWords.{EndWords}
use Rattle.nm_report.specs.declared.line_result.LineResult.{LineResult}

pub record Report : Type 0 where
  pub script : Script
  pub results : List (List LineResult)
  pub end : EndWords
  pub tally : Tally
