-- Each place was written.
use Rattle.std.proofs.Common.{◌≡◌, ℕ, ◌<◌, length, if◌then◌else◌, ap, arith}
use Rattle.std.proofs.lemmas.List.Edits.{fill_by_more}
use Rattle.nm_base.specs.Geometry.{frame_count}
use Rattle.nm_core.specs.State.{State}
use Rattle.nm_core.specs.declared.ends.Role.{Role}
use Rattle.nm_core.specs.declared.ends.Role.TheVariants.{Free, Held}
use Rattle.nm_core.specs.Roles.{is_free}
use Rattle.nm_core.proofs.state.State.write_free.Goals as goal

pub loop-frame-preserved : goal.loop-frame-preserved
loop-frame-preserved c =
    let role : ℕ → Role = λ k. if is_free c.args.self.now k then Free else Held in
    let count : frame_count c.self.inside.geometry ≡ frame_count c.args.self.now.geometry = ap (λ (s : State). frame_count s.geometry) c.self.view_is in
    let within : c.loop-frame.frame < length c.loop-frame.roles = omega (arith, c.loop-frame.auto.roles, c.requires, count) in
    let here : c.free_or_held.result ≡ role c.loop-frame.frame = c.free_or_held.ensures in
    rw here (fill_by_more role c.loop-frame.roles c.loop-frame.frame Free within c.loop-frame.invariant)
