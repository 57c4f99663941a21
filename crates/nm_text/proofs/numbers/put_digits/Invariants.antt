use Rattle.std.proofs.Common.{◌≡◌, ◌^◌, ◌<◌, ◌≤◌, ◌++◌, length, drop}
use Rattle.std.specs.Fmt.{decimal}
use Rattle.nm_text.proofs.numbers.put_digits.Given as goal

abbrev pub invariant-loop-rest : goal.invariant-loop-rest
invariant-loop-rest l = record {
  low : 1 ≤ l.start;
  high : l.start ≤ 20;
  places : l.rest < 10 ^ l.start;
  len : length l.digits ≡ 20;
  written : decimal l.rest ++ drop l.start l.digits ≡ decimal l.fn.n;
}

abbrev pub decreases-loop-rest : goal.decreases-loop-rest
decreases-loop-rest l = l.rest
