-- What is kept of the references that were read so far.
use Rattle.std.specs.Prelude.{◌≡◌, ◌≤◌, ◌<◌, ℕ, nat_eq, true, List, [], ◌∷◌, ◌++◌, map}
use Rattle.std.specs.List.{AllByRecursion, list_any}
use Rattle.nm_trace.specs.declared.draft.Draft.{Draft}
use Rattle.nm_trace.specs.declared.draft.Untaken.{Untaken}
use Rattle.nm_trace.specs.declared.draft.Untaken.TheVariants as untaken
use Rattle.nm_trace.specs.declared.reference.Reference.{Reference}
use Rattle.nm_trace.specs.declared.fault.TraceRefusal.{TraceRefusal}
use Rattle.nm_trace.specs.declared.fault.TraceRefusal.TheVariants as refusals
use Rattle.nm_trace.specs.References.{IsReference, record_of}
use Rattle.nm_trace.specs.Imports.{IsRowFault, referenced_page, pages_seen, cpus_seen, programs_for, frames_for}

-- the page of a reference is among these
abbrev pub IsPageSeen : List ℕ → Reference → Type 0
IsPageSeen pages r = list_any (nat_eq (referenced_page r)) pages ≡ true

-- the draft holds the pages, the processors and the programs of these references; there is a program for each of
-- 16 processors
pub record IsDraftOf (draft : Draft) (refs : List Reference) : Type 0 where
  pub pages : draft.pages.keys ≡ pages_seen refs
  pub cpus : draft.cpus ≡ cpus_seen refs
  pub few : cpus_seen refs ≤ 16
  pub programs : map (λ p. p.items) draft.programs.items ≡ programs_for (pages_seen refs) refs 16
  pub seen : AllByRecursion (IsPageSeen (pages_seen refs)) refs

-- a reference, the last of these, is not taken only where the frames are too few for all of them, or for want of memory
abbrev pub IsNotTaken : ℕ → List Reference → Untaken → Type 0
IsNotTaken frames refs untaken.Memory = Unit {0}
IsNotTaken frames refs untaken.TooManyPages = frames < frames_for refs

-- after the references `refs` the draft has one more, that of the record, and some frames are enough for them
pub record TakesReference (draft : Draft) (row : List (List ℕ)) (frames : ℕ) (refs : List Reference) : Type 0 where
  pub reference : Reference
  pub spelled : row ≡ record_of reference
  pub is : IsReference reference
  pub held : IsDraftOf draft (refs ++ reference ∷ [])
  pub room : frames_for (refs ++ reference ∷ []) ≤ frames

-- the refusal of the record of this number after the references `refs`
abbrev pub IsRowRefusal : ℕ → List Reference → List (List ℕ) → ℕ → TraceRefusal → Type 0
IsRowRefusal frames refs row n refusals.Memory = Unit {0}
IsRowRefusal frames refs row n (refusals.At f k) = (k ≡ n) × IsRowFault frames refs row f
