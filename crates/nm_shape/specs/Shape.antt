-- The shape of a view: what each step keeps of it for every reply that fits, whatever the other actors do.
use Rattle.std.specs.Prelude.{◌≡◌, ◌≢◌, ◌≤◌, ◌⊎◌, [], None, IfSome, IsSomeAnd, IsTrue, All}
use Rattle.nm_base.specs.Geometry.{Geometry}
use Rattle.nm_view.specs.declared.view.Phase.TheVariants.{Taken}
use Rattle.nm_view.specs.Views.{Op, View, off_word, most_bumps}
use Rattle.nm_base.specs.ShadowWord.{IsShadowWordOf}
use Rattle.nm_shape.specs.Keyed.{IsKeyed}

-- an operation: a shadow word that it knows names its page, and then it knows a home that is not none; where it is due
-- it has no flush number; cleared in phase Taken it has a taken word
pub record IsOpShaped (g : Geometry) (o : Op) : Type 0 where
  pub named : IfSome o.shadow (IsShadowWordOf g o.page)
  pub based : IfSome o.shadow (λ _. IsSomeAnd o.home (λ h. h ≢ 0))
  pub due : IsTrue o.due → o.flush ≡ None
  pub some : IsTrue o.cleared → o.phase ≡ Taken → o.taken ≢ []

-- the shape of a view: its numbers are in range and no number stands twice in a list, each operation is shaped, what was
-- polled is a number of bumps or Off, and only a processor caches
pub record HasShape (g : Geometry) (view : View) : Type 0 where
  pub keyed : IsKeyed g view
  pub ops : All (IsOpShaped g) view.ops
  pub polled : (view.req_seen ≡ off_word) ⊎ (view.req_seen ≤ most_bumps)
  pub processor : g.cpus ≤ view.number → view.cache ≡ []
