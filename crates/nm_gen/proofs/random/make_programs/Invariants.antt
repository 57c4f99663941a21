use Rattle.std.proofs.Common.{◌≡◌, map}
use Rattle.nm_gen.specs.Generated.{drawn, programs_of}
use Rattle.nm_gen.proofs.random.make_programs.Given as goal

abbrev pub invariant-loop-i : goal.invariant-loop-i
invariant-loop-i l = record {
  drawn : l.x ≡ drawn l.number l.i;
  programs : map (λ p. p.items) l.programs.items ≡ programs_of l.number l.i;
}
