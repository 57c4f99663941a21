-- The marks of the shadow words and then of the homes are the roles.
use Rattle.std.proofs.Common.{◌≡◌, length, get_or, ap, ◌∙◌, arith}
use Rattle.std.proofs.lemmas.List.FromFn.{fill_by_all}
use Rattle.nm_base.specs.Geometry.{frame_count}
use Rattle.nm_core.specs.declared.ends.Role.TheVariants.{Free}
use Rattle.nm_core.specs.Roles.{role_of}
use Rattle.nm_core.specs.State.{State}
use Rattle.nm_core.proofs.Marks.{role-marked}
use Rattle.nm_core.proofs.state.State.write_roles.Goals as goal

pub returns : goal.returns
returns c =
    let s = c.args.self.now in
    let roles = c.mark_homes.new.roles in
    let free = c.write_free.ensures in
    let shadows = c.mark_shadows.ensures in
    let homes = c.mark_homes.ensures in
    let size : length roles ≡ frame_count s.geometry = homes.count ∙ shadows.count ∙ free.count ∙ c.requires in
    let shadow_words = c.shadows.ensures ∙ ap (λ (s : State). s.words.shadow) c.self.view_is in
    let home_words = c.homes.ensures ∙ ap (λ (s : State). s.words.home) c.self.view_is in
    fill_by_all (role_of s) roles (frame_count s.geometry) Free size (λ k lt.
    role-marked s k c.shadows.result.now c.homes.result.now (get_or c.write_free.new.roles k Free) (get_or c.mark_shadows.new.roles k Free) (get_or roles k Free) shadow_words home_words (free.roles k lt)
    (shadows.roles k (omega (arith, lt, free.count, c.requires)))
    (homes.roles k (omega (arith, lt, shadows.count, free.count, c.requires))))
