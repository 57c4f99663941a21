-- A script with another retry is a script.
use Rattle.std.proofs.Common.{◌≡◌, ◌≤◌, ℕ, List, [], ◌∷◌, Option, length, refl, ap₂, inl, inr, arith}
use Rattle.std.specs.Prelude.{IfSome}
use Rattle.std.proofs.lemmas.List.Elements.{recursion_from_All}
use Rattle.nm_base.specs.Geometry.{AreTiers}
use Rattle.nm_script.specs.Plain.{Script}
use Rattle.nm_script.specs.Script.{AreNodes, HasVersion, IsScript}
use Rattle.nm_lab.specs.Retry.{nodes_with, two_nodes, version_with, with_retry}

-- the nodes of two tiers form these tiers
two_formed : (tiers : List ℕ) → length tiers ≡ 2 → AreTiers tiers → AreNodes tiers (two_nodes tiers)
two_formed (f ∷ s ∷ []) e h =
    let each = recursion_from_All (λ (n : ℕ). (1 ≤ n) × (n ≤ 4095)) (f ∷ s ∷ []) h.2 in
    record {
      some = omega arith;
      few = omega arith;
      each = ((omega arith, each.0.0, each.0.1), ((omega arith, each.1.0.0, each.1.0.1), tt));
      sum = omega (arith, h.3);
      formed = ap₂ (λ (a b : ℕ). a ∷ b ∷ []) (omega arith) (omega arith);
    }
two_formed [] e h = absurd (omega (arith, e))
two_formed (f ∷ []) e h = absurd (omega (arith, e))
two_formed (f ∷ s ∷ t ∷ ts) e h = absurd (omega (arith, e))

has_version : (s : Script) (retry : Option ℕ) → IsScript s → IfSome retry (λ r. r ≤ 1000) → HasVersion (version_with s) s.geometry.tiers (nodes_with s) retry
has_version s retry h few = elim h.version [
  | inl one ↦ let e : s.version ≡ 1 = one.0 in rw e (inr (refl, two_formed s.geometry.tiers one.1 h.geometry.ranges.1, few))
  | inr two ↦ let e : s.version ≡ 2 = two.0 in rw e (inr (refl, two.1, few))
]

pub with_script : (s : Script) (retry : Option ℕ) → IsScript s → IfSome retry (λ r. r ≤ 1000) → IsScript (with_retry s retry)
with_script s retry h few = record {
  version = has_version s retry h few;
  geometry = h.geometry;
  trimmed = h.trimmed;
  schedule = h.schedule;
  programs = h.programs;
  lines = h.lines;
}
