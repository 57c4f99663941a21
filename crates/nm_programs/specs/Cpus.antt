-- The processors of a script, and their programs.
use Rattle.std.specs.Prelude.{◌≡◌, ℕ, [], List, slice_index_or, Option, None}
use Rattle.nm_action.specs.declared.turn.Turn.{Turn}
use Rattle.nm_actor.specs.Turns.{Turns}
use Rattle.nm_script.specs.declared.script.Line.{Line}
use Rattle.nm_script.specs.Plain.{Script}
use Rattle.nm_cpu.specs.declared.made.CpuMade.{CpuMade}

-- the program of a processor
abbrev pub program_of : Script → ℕ → List Line
program_of script cpu = slice_index_or script.programs cpu []

-- a processor was made for its place in the machine of a script, with its program
pub record IsCpuMade (script : Script) (cpu : ℕ) (made : CpuMade) : Type 0 where
  pub machine : made.geometry.now ≡ script.geometry
  pub same : made.number ≡ cpu
  pub program : made.program.now ≡ program_of script cpu

-- it is to hear Start; `agrees` is what it agrees with
pub record IsCpuAt {C : Type 0} (made : C → CpuMade) (agrees : C → Turns → Option Turn → Type 0) (script : Script) (cpu : ℕ) (c : C) : Type 0 where
  pub made_so : IsCpuMade script cpu (made c)
  pub opens : agrees c [] None
