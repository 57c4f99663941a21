-- The groups hold where the step is made.
use Rattle.nm_runs.proofs.EachRun.{fits_in_run}
use Rattle.nm_runs.proofs.runs.each_reply_of_a_run_fits.Goals as goal

pub returns : goal.returns
returns c = fits_in_run
