use Rattle.std.proofs.Common.{◌≡◌, take}
use Rattle.std.specs.Prelude.{count_by}
use Rattle.nm_report.specs.Ends.{is_free_role, is_mapped_role, is_shadow_role, is_held_role}
use Rattle.nm_report.proofs.printing.count_roles.Given as goal

abbrev pub invariant-loop-role : goal.invariant-loop-role
invariant-loop-role l = record {
  free : l.counts.free ≡ count_by is_free_role (take l.role-index l.roles);
  mapped : l.counts.mapped ≡ count_by is_mapped_role (take l.role-index l.roles);
  shadow : l.counts.shadow ≡ count_by is_shadow_role (take l.role-index l.roles);
  held : l.counts.held ≡ count_by is_held_role (take l.role-index l.roles);
}
