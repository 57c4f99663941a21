-- The smallest parts may begin where nothing was done.
use Rattle.std.proofs.Common.{◌≡◌, ◌<◌, ◌≤◌, ℕ, List, [], ◌∷◌, length, Option, Some, None, refl, sym, subst, arith}
use Rattle.std.proofs.lemmas.List.Elements.{All-nil}
use Rattle.nm_base.specs.Geometry.{Geometry, IsGeometry, pages_of, backing_page}
use Rattle.nm_base.specs.declared.geometry.VPage.{VPage}
use Rattle.nm_action.specs.declared.action.Action.TheVariants.{Bump}
use Rattle.nm_action.specs.declared.action.Reply.TheVariants.{Word}
use Rattle.nm_view.specs.Views.{Op}
use Rattle.nm_view.specs.Opening.{opening}
use Rattle.nm_permit.specs.Permitted.{MayBump, AreDueDry}
use Rattle.nm_event.specs.After.{edit_under, looked_at}
use Rattle.nm_actor_rows.specs.Nested.{MayNest}

some-vpage : (vpages : List (Option VPage)) → 1 ≤ pages_of vpages → 0 < length vpages
some-vpage [] some = absurd (omega (arith, some))
some-vpage (v ∷ vpages) some = omega arith

nothing-edited : (page : Option ℕ) (f : Op → Op) → edit_under page f [] ≡ []
nothing-edited None f = refl
nothing-edited (Some page) f = refl

-- a part that bumps
pub may-bump-first : (g : Geometry) (number : ℕ) → MayBump (opening g number)
may-bump-first g number = record { few = omega arith; dry = All-nil _ }

-- a part that looks, and then bumps
pub may-look-and-bump : (g : Geometry) (number : ℕ) → IsGeometry g → MayNest {M = ℕ} {O = ℕ} (λ made g view. MayBump view) (λ made g own word. own ≡ (Bump, Word word) ∷ []) 0 0 g (opening g number)
may-look-and-bump g number limits = record {
  range = some-vpage g.vpages limits.ranges.3.1;
  inner = λ word fits. record {
    few = omega arith;
    dry = subst AreDueDry (sym (nothing-edited (backing_page g 0) (looked_at 0 word))) (All-nil _);
  };
  own = (Bump, Word 0) ∷ [];
  outcome = 0;
  some = refl;
}
