-- What was read, and what became of the text, decides the answer.
use Rattle.nm_check_call.proofs.Judging.{IsCheckCall-verdict, IsCheckCall-refused}
use Rattle.nm_check_call.proofs.checking.check_call.Goals as goal

pub returns-in-Ok : goal.returns-in-Ok
returns-in-Ok g c = IsCheckCall-verdict _ _ c.the_facts_hold_of_each_journal.ensures _ _ _ _ _ _ c.in-Ok.ensures c.verdict_call.ensures

pub returns-in-Err : goal.returns-in-Err
returns-in-Err g c = IsCheckCall-refused _ _ _ _ _ _ c.in-Err.ensures
