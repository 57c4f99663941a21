-- The programs of a script are the items of those in memory.
use Rattle.std.proofs.Common.{◌≡◌, map, All, List, sym, subst, rules}
use Rattle.std.proofs.lemmas.List.Elements.{All-map}
use Rattle.nm_script.specs.declared.script.Line.{Line}
use Rattle.nm_trace.specs.Traces.{IsTraced}
use Rattle.nm_trace.proofs.Written.{All-unmapped}
use Rattle.nm_trace.proofs.writing.has_trace.Goals as goal

pub returns : goal.returns
returns c =
    let words : c.args.script.now.geometry.words ≡ 512 = search rules in
    let is : map (λ p. p.items) c.deref.result.now ≡ c.args.script.now.programs = search rules in (
      λ t. (words, subst (λ (ps : List (List Line)). All (λ program. All IsTraced program) ps) is (All-map (All IsTraced) (λ p. p.items) c.deref.result.now (c.are_traced.ensures.0 t))),
      λ h. c.are_traced.ensures.1 (All-unmapped (All IsTraced) (λ p. p.items) c.deref.result.now (subst (λ (ps : List (List Line)). All (λ program. All IsTraced program) ps) (sym is) h.1)),
    )
