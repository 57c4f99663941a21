use Rattle.std.proofs.Common.{if◌then◌else◌, ◌≡◌, ℕ, ◌<◌, get_or}
use Rattle.nm_core.specs.declared.ends.Role.TheVariants.{Free, Held}
use Rattle.nm_core.specs.Roles.{is_free}
use Rattle.nm_core.proofs.state.State.write_free.Given as goal

abbrev pub invariant-loop-frame : goal.invariant-loop-frame
invariant-loop-frame l = (k : ℕ) → k < l.frame → get_or l.roles k Free ≡ (if is_free l.self k then Free else Held)
