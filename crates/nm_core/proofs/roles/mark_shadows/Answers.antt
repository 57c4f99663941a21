-- One word more is marked, and at the end every one.
use Rattle.std.proofs.Common.{get_or, refl, arith, ◌∙◌}
use Rattle.nm_core.specs.declared.ends.Role.TheVariants.{Free, Shadow}
use Rattle.nm_core.specs.Roles.{names_shadow}
use Rattle.nm_core.proofs.Marks.{mark_more}
use Rattle.nm_core.proofs.roles.mark_shadows.Goals as goal

pub loop-word-preserved : goal.loop-word-preserved
loop-word-preserved c =
    let old = c.loop-word.invariant in
    record {
      count = c.mark_shadow.ensures.count ∙ old.count;
      marks = λ k lt. mark_more Shadow (names_shadow k) c.args.shadows.now c.loop-word.word-index 0 (get_or c.args.roles.now k Free) (get_or c.loop-word.roles k Free) (get_or c.mark_shadow.new.roles k Free) (omega arith) refl (old.marks k lt) (c.mark_shadow.ensures.roles k (omega (arith, lt, old.count)));
    }
