use Rattle.nm_migrator.proofs.Acting.{migrator-acts}
use Rattle.nm_programs_rows.proofs.Waiting.{listed-acts}
use Rattle.nm_programs_rows.proofs.rows.resumed.Goals as goal

pub run_programs-requires-clause-migrator_acts : goal.run_programs-requires-clause-migrator_acts
run_programs-requires-clause-migrator_acts g c = λ x h. migrator-acts x.migrator h

pub run_programs-requires-clause-reclaimer_acts : goal.run_programs-requires-clause-reclaimer_acts
run_programs-requires-clause-reclaimer_acts g c = λ x h. listed-acts _ _ _ _ h
