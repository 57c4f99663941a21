-- A page is taken out of the table, gets a new home, and is mapped to it: a pattern over finished lists, the last step first.
use Rattle.std.specs.Prelude.{ℕ, ◌==◌, not, List, [], ◌∷◌, ◌++◌, None}
use Rattle.nm_base.specs.Geometry.{Geometry, tier_of}
use Rattle.nm_action.specs.declared.action.Action.TheVariants.{Unmap, SetShadow, SetHome, Map}
use Rattle.nm_action.specs.declared.action.Reply.{Reply}
use Rattle.nm_action.specs.Own.{Own}
use Rattle.nm_part.specs.Patterns.{Ends, Follows, Each}
use Rattle.nm_compose.specs.Acts.{IsAct}
use Rattle.nm_shoot.specs.Shootdown.{IsShootdown}
use Rattle.nm_copying.specs.Copying.{told, IsCopying}
use Rattle.nm_copying.specs.declared.copies.Stage.TheVariants as copying
use Rattle.nm_mappings.specs.Visits.{IsVisits, raises_made}
use Rattle.nm_transfer.specs.declared.transfer.Source.{Source}
use Rattle.nm_transfer.specs.declared.transfer.Source.TheVariants as sources
use Rattle.nm_transfer.specs.declared.transfer.Rights.{Rights}
use Rattle.nm_transfer.specs.declared.transfer.TransferMade.{TransferMade}
use Rattle.nm_transfer.specs.Words.{mapped_word}

-- what a transfer is made with, in this geometry: the new home's table words have the hint where it is not in tier 0
abbrev pub transfer_made : Geometry → ℕ → ℕ → ℕ → Source → Rights → List ℕ → TransferMade
transfer_made g page home frame source rights pages = record {
  page = page;
  home = home;
  frame = frame;
  source = source;
  rights = rights;
  pages = pages;
  hint = not (tier_of g frame == 0);
  cpus = g.cpus;
  copies = record { made = record { page = page; frame = frame; words = g.words }; stage = copying.New };
}

-- 5. Each virtual page that was taken out is mapped to the new home, in order. The outcome are the words that were taken.
abbrev pub MapAt : Geometry → TransferMade → ℕ × ℕ → Unit {0} → (Unit {0} → Own → List (ℕ × ℕ) → Type 0) → Own → List (ℕ × ℕ) → Type 0
MapAt g made p kept after = Follows (IsAct (Map p.0 (mapped_word made.rights made.frame made.hint p.1)) g) (λ reply. after kept)

abbrev pub MapsOf : Geometry → TransferMade → List (ℕ × ℕ) → List (ℕ × ℕ) → Own → List (ℕ × ℕ) → Type 0
MapsOf g made rest taken = Each (MapAt g made) rest tt (λ kept. Ends taken)

-- 4. The new home is set.
abbrev pub HomesPage : Geometry → TransferMade → List (ℕ × ℕ) → Own → List (ℕ × ℕ) → Type 0
HomesPage g made taken = Follows (IsAct (SetHome made.page made.frame) g) (λ reply. MapsOf g made taken taken)

-- 3. The page is copied into it, or it is the shadow of the old home, which is given up.
abbrev pub FillsFrom : Source → Geometry → TransferMade → List (ℕ × ℕ) → Own → List (ℕ × ℕ) → Type 0
FillsFrom sources.Copy g made taken = Follows (IsCopying made.copies.made g) (λ copied. HomesPage g made taken)
FillsFrom sources.Shadow g made taken = Follows (IsAct (SetShadow made.page made.home None) g) (λ reply. HomesPage g made taken)

abbrev pub Fills : Geometry → TransferMade → List (ℕ × ℕ) → Own → List (ℕ × ℕ) → Type 0
Fills g made taken = FillsFrom made.source g made taken

-- 2. Every processor acknowledges.
abbrev pub Flushes : Geometry → TransferMade → List (ℕ × ℕ) → Own → List (ℕ × ℕ) → Type 0
Flushes g made taken = Follows (IsShootdown made.cpus) (λ number. Fills g made taken)

-- 1. The word of each of the virtual pages is taken, in order; then each is raised, in order.
abbrev pub Raises : Geometry → TransferMade → List (ℕ × ℕ) → Own → List (ℕ × ℕ) → Type 0
Raises g made taken = Follows (IsVisits (raises_made made.page made.pages) g) (λ found. Flushes g made taken)

abbrev pub taken_after : ℕ → Reply → List (ℕ × ℕ) → List (ℕ × ℕ)
taken_after v reply taken = taken ++ (v, told reply) ∷ []

abbrev pub UnmapAt : Geometry → ℕ → List (ℕ × ℕ) → (List (ℕ × ℕ) → Own → List (ℕ × ℕ) → Type 0) → Own → List (ℕ × ℕ) → Type 0
UnmapAt g v taken after = Follows (IsAct (Unmap v) g) (λ reply. after (taken_after v reply taken))

abbrev pub UnmapsOf : Geometry → TransferMade → List ℕ → List (ℕ × ℕ) → Own → List (ℕ × ℕ) → Type 0
UnmapsOf g made pages taken = Each (UnmapAt g) pages taken (Raises g made)

abbrev pub IsTransfer : TransferMade → Geometry → Own → List (ℕ × ℕ) → Type 0
IsTransfer made g = UnmapsOf g made made.pages []
