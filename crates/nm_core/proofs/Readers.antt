-- What readers of a state rest on.
use Rattle.std.proofs.Common.{◌≡◌, ℕ, ◌≤◌, get_or, sym, subst, arith}
use Rattle.nm_base.specs.Ranges.{IsPage, IsFrame}
use Rattle.nm_words.specs.declared.names.Where.TheVariants.{Home}
use Rattle.nm_words.specs.Names.{IsPlace}
use Rattle.nm_step.specs.Table.{free_word_of}
use Rattle.nm_core.proofs.InPlace.{IsPlace-free_word_of}
use Rattle.nm_core.specs.State.{State}
use Rattle.nm_core.specs.Kept.{IsKept}

-- a home word is small
pub home_few : (s now : State) (page : ℕ) → s ≡ now → IsKept s → IsPage now.geometry page → get_or s.words.home page 0 ≤ 4096
home_few s now page same k there =
    let page_there : IsPage s.geometry page = subst (λ (s : State). IsPage s.geometry page) (sym same) there in
    omega (arith, k.ranged (Home page) page_there, k.geometry.ranges.1)

-- a frame has its bit in a word of the machine
pub bit_place : (s now : State) (frame : ℕ) → s ≡ now → IsFrame now.geometry frame → IsPlace s.geometry (free_word_of s.geometry frame)
bit_place s now frame same there = IsPlace-free_word_of s.geometry frame (subst (λ (s : State). IsFrame s.geometry frame) (sym same) there)
