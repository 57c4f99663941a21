use Rattle.std.proofs.Common.{◌≡◌, ◌+◌, Ok, ap, arith, length, rules}
use Rattle.nm_text.specs.Fields.{lines_of}
use Rattle.nm_script.specs.Reading.{told_with}
use Rattle.nm_script.proofs.Tellings.{told-step}
use Rattle.nm_script.proofs.Whole.{goes_on}
use Rattle.nm_script.proofs.parsing.read_lines.Goals as goal

pub loop-rest-preserved : goal.loop-rest-preserved
loop-rest-preserved c =
    let took : told_with c.loop-rest.draft c.first_line.result.0.now ≡ Ok c.take.new.self = search rules in
    let len = ap length c.first_line.ensures.lines in
    record {
      told = told-step c.loop-rest.draft c.take.new.self c.first_line.result.0.now c.loop-rest.invariant.told took;
      same = goes_on c.loop-rest.draft c.take.new.self (c.loop-rest.line + 1) c.first_line.result.0.now (lines_of c.first_line.result.1.now) (lines_of c.loop-rest.rest.now) _ took c.first_line.ensures.lines c.loop-rest.invariant.same;
      count = omega (arith, len, c.loop-rest.invariant.count);
      short = omega (arith, c.first_line.ensures.shorter, c.loop-rest.invariant.short);
    }
