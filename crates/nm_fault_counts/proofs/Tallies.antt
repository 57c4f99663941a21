-- What ends count is what those of them count that count.
use Rattle.std.proofs.Common.{◌≡◌, ℕ, List, [], ◌∷◌, refl, sym, ap, ◌∙◌, arith}
use Rattle.nm_action.specs.declared.tally.Tally.{Tally}
use Rattle.nm_action.specs.Tally.{capped_sum, sum_of}
use Rattle.nm_shadow_fault.specs.declared.fault.FaultEnd.{FaultEnd}
use Rattle.nm_shadow_fault.specs.declared.fault.FaultEnd.TheVariants.{Demand, Alias, Ready, Granted}
use Rattle.nm_access.specs.Faults.{zero_fault_counts, ends_after, ends_tally}
use Rattle.nm_cpu_fault.specs.ProcessorFaults.{fault_counts}
use Rattle.nm_fault_counts.specs.Counted.{end_counted, ends_counted}

capped-again : (a b : ℕ) → capped_sum (capped_sum a b) 0 ≡ capped_sum a b
capped-again a b = omega arith

-- a sum is left by nothing more
sum-again : (t u : Tally) → sum_of (sum_of t u) zero_fault_counts ≡ sum_of t u
sum-again t u = simp capped-again

zero-again : sum_of zero_fault_counts zero_fault_counts ≡ zero_fault_counts
zero-again = refl

-- after counts that are left by nothing more
counted-after : (t : Tally) (ends : List FaultEnd) → sum_of t zero_fault_counts ≡ t → ends_after fault_counts t (ends_counted end_counted ends) ≡ ends_after fault_counts t ends
counted-after t [] same = refl
counted-after t (Demand ∷ ends) same = counted-after (sum_of t (fault_counts Demand)) ends (sum-again t (fault_counts Demand))
counted-after t (Alias ∷ ends) same = counted-after (sum_of t (fault_counts Alias)) ends (sum-again t (fault_counts Alias))
counted-after t (Ready ∷ ends) same = counted-after t ends same ∙ ap (λ (s : Tally). ends_after fault_counts s ends) (sym same)
counted-after t (Granted shadow ∷ ends) same = counted-after t ends same ∙ ap (λ (s : Tally). ends_after fault_counts s ends) (sym same)

pub counted-tally : (ends : List FaultEnd) → ends_tally fault_counts (ends_counted end_counted ends) ≡ ends_tally fault_counts ends
counted-tally ends = counted-after zero_fault_counts ends zero-again
