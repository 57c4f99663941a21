-- What the own list of a processor counts of its faults. A processor sets a home and maps a word in a missing fault alone, and from
-- then to the Unlock that ends the fault it locks and unlocks no other page.
use Rattle.std.specs.Prelude.{Bool, true, false, if◌then◌else◌, List, [], ◌∷◌, ◌++◌}
use Rattle.nm_action.specs.declared.action.Action.{Action}
use Rattle.nm_action.specs.declared.action.Action.TheVariants.{Lock, Unlock, Map, SetHome}
use Rattle.nm_action.specs.declared.tally.Tally.{Tally}
use Rattle.nm_action.specs.Own.{Own}
use Rattle.nm_shadow_fault.specs.declared.fault.FaultEnd.{FaultEnd}
use Rattle.nm_shadow_fault.specs.declared.fault.FaultEnd.TheVariants.{Demand, Alias}
use Rattle.nm_access.specs.Faults.{ends_tally}
use Rattle.nm_cpu_fault.specs.ProcessorFaults.{fault_counts}

-- a home was set since the last Lock or Unlock
abbrev pub has_homed : Action → Bool → Bool
has_homed (SetHome page frame) homed = true
has_homed (Lock page) homed = false
has_homed (Unlock page) homed = false
has_homed action homed = homed

-- a word was mapped since the last Lock or Unlock
abbrev pub has_mapped : Action → Bool → Bool
has_mapped (Map vpage word) mapped = true
has_mapped (Lock page) mapped = false
has_mapped (Unlock page) mapped = false
has_mapped action mapped = mapped

-- an Unlock after a word was mapped ends a fault that counts: a demand where the home was set too, and else an alias
abbrev pub ended_with : Bool → Bool → Action → List FaultEnd
ended_with homed mapped (Unlock page) = if mapped then (if homed then Demand ∷ [] else Alias ∷ []) else []
ended_with homed mapped action = []

-- the faults that count and end in a list, in order, by whether a home was set and a word was mapped before it
abbrev pub faults_from : Bool → Bool → Own → List FaultEnd
faults_from homed mapped [] = []
faults_from homed mapped (e ∷ own) = ended_with homed mapped e.0 ++ faults_from (has_homed e.0 homed) (has_mapped e.0 mapped) own

abbrev pub faults_in : Own → List FaultEnd
faults_in own = faults_from false false own

-- what a processor's own list counts of its faults, each count at most 2^64 - 1
abbrev pub fault_tally : Own → Tally
fault_tally own = ends_tally fault_counts (faults_in own)
