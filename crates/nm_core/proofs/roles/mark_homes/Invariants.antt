-- The words before this one are marked.
use Rattle.std.proofs.Common.{◌≡◌, ℕ, ◌<◌, length, take, get_or}
use Rattle.std.specs.List.{list_any}
use Rattle.nm_core.specs.declared.ends.Role.TheVariants.{Free, Mapped}
use Rattle.nm_core.specs.Roles.{is_home_of, marked}
use Rattle.nm_core.proofs.roles.mark_homes.Given as goal

abbrev pub invariant-loop-word : goal.invariant-loop-word
invariant-loop-word l = record {
  count : length l.roles ≡ length l.fn.roles;
  marks : (k : ℕ) → k < length l.fn.roles → get_or l.roles k Free ≡ marked Mapped (list_any (is_home_of k) (take l.word-index l.homes)) (get_or l.fn.roles k Free);
}
