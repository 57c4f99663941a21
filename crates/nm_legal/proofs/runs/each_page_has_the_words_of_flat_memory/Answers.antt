-- The state is linked to the memory at first, and after each step.
use Rattle.nm_legal.proofs.EachRun.{linked_run}
use Rattle.nm_legal.proofs.runs.each_page_has_the_words_of_flat_memory.Goals as goal

pub returns : goal.returns
returns c = linked_run
