-- What a processor counts.
use Rattle.nm_action.specs.declared.tally.Tally.{Tally}
use Rattle.nm_action.specs.Tally.{sum_of}
use Rattle.nm_action.specs.Own.{Own}
use Rattle.nm_tally.specs.Counts.{events_tally}
use Rattle.nm_fault_counts.specs.FaultTally.{fault_tally}

-- what a processor with this own list has counted: its events, and the faults that ended in it
abbrev pub processor_tally : Own → Tally
processor_tally own = sum_of (events_tally own) (fault_tally own)
