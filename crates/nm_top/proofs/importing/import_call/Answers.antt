-- What was read, and what became of the text, decides the answer.
use Rattle.nm_top.proofs.Imports.{IsImportCall-script, IsImportCall-refused}
use Rattle.nm_top.proofs.importing.import_call.Goals as goal

pub returns-in-Ok : goal.returns-in-Ok
returns-in-Ok g c =
    IsImportCall-script _ _ _ _ _ _ _ _ _ _ c.page_numbers.ensures (c.one_reading.ensures.text _ c.in-Ok.ensures.script) c.in-Ok.ensures.reading c.print_call.ensures

pub returns-in-Err : goal.returns-in-Err
returns-in-Err g c = IsImportCall-refused _ _ _ _ _ _ _ _ c.in-Err.ensures.reading
