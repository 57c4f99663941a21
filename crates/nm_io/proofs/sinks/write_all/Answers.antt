use Rattle.std.proofs.Common.{◌≡◌, ◌<◌, ◌+◌, ◌∙◌, length, arith, ap, length-drop, refl}
use Rattle.std.proofs.lemmas.List.{take_rest}
use Rattle.std.proofs.lemmas.Bool.Decides.{nat_tests}
use Rattle.nm_io.proofs.Fronts.{Appends-behind, rest_behind}
use Rattle.nm_io.proofs.Turns.{HasWritten-more, none_left}
use Rattle.nm_io.proofs.sinks.write_all.Goals as goal

pub loop-rest-preserved : goal.loop-rest-preserved
loop-rest-preserved g c =
    let (done, within, left, given) = c.loop-rest.invariant.front in
    let n = c.in-Ok.n in
    let written = c.in-Ok.ensures in
    let rest = c.loop-rest.rest.now in
    let some : 0 < length rest = grind (arith, nat_tests, c.loop-rest-test.ensures) in
    record {
      faults = written.kept ∙ c.loop-rest.invariant.faults;
      front = (done + n, omega (arith, length-drop done c.args.bytes.now, ap length left), rest_behind _ _ done n left, Appends-behind _ _ _ _ _ done n left given written.bytes);
      writes = HasWritten-more _ _ _ _ _ _ _ n c.loop-rest.invariant.writes some written.takes (take_rest rest n);
    }

pub returns-in-Err-clause-calls : goal.returns-in-Err-clause-calls
returns-in-Err-clause-calls g c =
    let rest = c.loop-rest.rest.now in
    let some : 0 < length rest = grind (arith, nat_tests, c.loop-rest-test.ensures) in
    record {
      counts = c.loop-rest.invariant.writes.counts;
      last = record { sink = c.loop-rest.snk; rest = rest };
      writes = c.loop-rest.invariant.writes.writes;
      ended = (some, c.in-Err.ensures.takes);
    }

pub returns-clause-calls : goal.returns-clause-calls
returns-clause-calls g c =
    let rest = c.loop-rest.rest.now in
    let none : length rest ≡ 0 = grind (arith, nat_tests, c.loop-rest-test.ensures) in
    record {
      counts = c.loop-rest.invariant.writes.counts;
      last = record { sink = c.loop-rest.snk; rest = rest };
      writes = c.loop-rest.invariant.writes.writes;
      ended = (none_left rest none, refl);
    }
