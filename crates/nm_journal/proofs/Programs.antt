-- The program of a processor, as it lies in memory.
use Rattle.std.proofs.Common.{◌≡◌, ◌<◌, ℕ, List, [], length, map, get_or, sym, ap, ◌∙◌, arith}
use Rattle.std.proofs.lemmas.List.{get_or-map, length-map}
use Rattle.nm_script.specs.declared.script.Line.{Line}
use Rattle.nm_script.specs.Plain.{Script}
use Rattle.nm_journal_text.specs.Journals.{program_of}

pub program-at : {V : Type 0} (lines : V → List Line) (programs : List V) (script : Script) (cpu : ℕ) (d : V) (program : List Line)
    → map lines programs ≡ script.programs → cpu < length script.programs → program ≡ lines (get_or programs cpu d) → program ≡ program_of script cpu
program-at lines programs script cpu d program are lt is =
    is ∙ sym (get_or-map lines programs cpu d [] (omega (arith, lt, ap length are, length-map programs lines))) ∙ ap (λ l. get_or l cpu []) are
