-- What was made is the script with the retry, which is a script.
use Rattle.std.proofs.Common.{◌≡◌, rules, subst, sym}
use Rattle.nm_script.specs.Plain.{Script}
use Rattle.nm_script.specs.Script.{IsScript}
use Rattle.nm_script.specs.contracts.script.Script.{the_view}
use Rattle.nm_lab.specs.Retry.{with_retry}
use Rattle.nm_lab.proofs.Retries.{with_script}
use Rattle.nm_lab.proofs.retry.with_retry.Goals as goal

pub returns-clause-script : goal.returns-clause-script
returns-clause-script c = λ script.
    let same : with_retry c.args.script.now c.args.retry ≡ the_view (record {
      version = c.version_with-version.result;
      geometry = c.in_ok-geometry.geometry;
      programs = c.in_ok-programs.programs;
      schedule = c.in_ok-schedule.schedule;
      nodes = c.in_ok-nodes.nodes;
      retry = c.args.retry;
    }) = sym (search rules) in
    subst (λ (s : Script). IsScript s) same (with_script c.args.script.now c.args.retry script c.requires)
