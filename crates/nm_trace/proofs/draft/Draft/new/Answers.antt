-- One empty program more, until there are sixteen.
use Rattle.std.proofs.Common.{◌≡◌, ◌∷◌, [], ◌++◌, map, ap, sym, subst, refl, ◌∙◌, rules, arith, lit≤}
use Rattle.std.proofs.lemmas.List.{map-append}
use Rattle.std.proofs.lemmas.List.FromFn.{map-range_with_len_more}
use Rattle.nm_trace.specs.Imports.{program_for, programs_for}
use Rattle.nm_trace.proofs.draft.Draft.new.Goals as goal

pub loop-cpu-preserved : goal.loop-cpu-preserved
loop-cpu-preserved c =
    ap (map (λ p. p.items)) c.in_ok-push.ensures.items ∙ map-append (λ p. p.items) c.loop-cpu.programs.items (c.new.result ∷ [])
    ∙ ap (λ l. map (λ p. p.items) c.loop-cpu.programs.items ++ l ∷ []) c.new.ensures.items
    ∙ ap (λ l. l ++ [] ∷ []) c.loop-cpu.invariant ∙ sym (map-range_with_len_more (program_for [] []) 0 c.loop-cpu.cpu c.loop-cpu.cpu (omega arith))

pub returns : goal.returns
returns c =
    let all : c.loop-cpu.cpu ≡ 16 = omega (arith, c.loop-cpu-test.false, c.loop-cpu.auto.cpu-end) in
    record {
      pages = search rules;
      cpus = refl;
      few = lit≤ tt;
      programs = subst (λ n. map (λ p. p.items) c.loop-cpu.programs.items ≡ programs_for [] [] n) all c.loop-cpu.invariant;
      seen = tt;
    }
