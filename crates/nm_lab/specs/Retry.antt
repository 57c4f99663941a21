-- A script with another retry.
use Rattle.std.specs.Prelude.{ℕ, ◌==◌, if◌then◌else◌, List, [], ◌∷◌, slice_index, Option}
use Rattle.nm_tiers.specs.declared.nodes.Node.{Node}
use Rattle.nm_script.specs.Plain.{Script}

-- a node for each of two tiers, so far apart that they share none
abbrev pub two_nodes : List ℕ → List Node
two_nodes tiers = record { distance = 0; frames = slice_index tiers 0 } ∷ record { distance = 128; frames = slice_index tiers 1 } ∷ []

-- a version 1 script has no retry, so it is taken as version 2
abbrev pub version_with : Script → ℕ
version_with s = if s.version == 1 then 2 else s.version

-- a version 1 script has no nodes, so it gets a node for each of its tiers
abbrev pub nodes_with : Script → List Node
nodes_with s = if s.version == 1 then two_nodes s.geometry.tiers else s.nodes

-- the script with this retry: all else stays, but that version 1 is taken as version 2 with the same tiers
abbrev pub with_retry : Script → Option ℕ → Script
with_retry s retry = record s { version = version_with s; nodes = nodes_with s; retry = retry }
