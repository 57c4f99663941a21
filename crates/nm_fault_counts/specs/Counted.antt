-- What the list of one fault counts.
use Rattle.std.specs.Prelude.{◌≡◌, ◌⊎◌, Bool, List, [], ◌∷◌, ◌++◌}
use Rattle.nm_base.specs.Geometry.{Geometry}
use Rattle.nm_action.specs.Own.{Own}
use Rattle.nm_shadow_fault.specs.declared.fault.FaultEnd.{FaultEnd}
use Rattle.nm_shadow_fault.specs.declared.fault.FaultEnd.TheVariants.{Demand, Alias, Ready, Granted}
use Rattle.nm_fault_counts.specs.FaultTally.{has_homed, has_mapped, ended_with, faults_from}

-- the end of a fault where it counts
abbrev pub end_counted : FaultEnd → List FaultEnd
end_counted Demand = Demand ∷ []
end_counted Alias = Alias ∷ []
end_counted Ready = []
end_counted (Granted shadow) = []

-- the ends of faults that count, in order; `counted` says of an end which these are
abbrev pub ends_counted : {X : Type 0} → (X → List FaultEnd) → List X → List FaultEnd
ends_counted counted [] = []
ends_counted counted (end ∷ ends) = counted end ++ ends_counted counted ends

-- no event but the last ends a fault that counts
abbrev pub CountsLast : Bool → Bool → Own → Type 0
CountsLast homed mapped [] = Unit {0}
CountsLast homed mapped (e ∷ own) = ((own ≡ []) ⊎ (ended_with homed mapped e.0 ≡ [])) × CountsLast (has_homed e.0 homed) (has_mapped e.0 mapped) own

-- a list counts these ends, and nothing before its last event
pub record IsFaultCounted (homed mapped : Bool) (own : Own) (ends : List FaultEnd) : Type 0 where
  pub counted : faults_from homed mapped own ≡ ends
  pub last : CountsLast homed mapped own

-- faults count what their ends say, and nothing before their last event, whatever came before them
abbrev pub AreFaultsCounted : {M X : Type 0} → (M → Geometry → Own → X → Type 0) → (X → List FaultEnd) → Type 0
AreFaultsCounted {M} {X} shape counted = (homed mapped : Bool) (fault : M) (g : Geometry) (own : Own) (end : X) → shape fault g own end → IsFaultCounted homed mapped own (counted end)
