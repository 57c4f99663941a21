-- Values of the definitions, worked out by hand.
use Rattle.std.proofs.Common.{◌≡◌, ◌-◌, ◌^◌, [], ◌∷◌, Ok, Err, refl}
use Rattle.nm_io.specs.Count.{next_count}
use Rattle.nm_io.specs.SourceState.{SourceState, read_result, after_read, slice_after_read}
use Rattle.nm_io.specs.SinkState.{SinkState, write_result, after_write}

-- three bytes in pieces of two, after one call, where the second and the fourth fail
source : SourceState
source = record { left = 7 ∷ 8 ∷ 9 ∷ []; piece = 2; calls = 1; fails = 2 ∷ 4 ∷ []; faults = 0 }

second-fails : read_result source 5 ≡ Err (record {})
unfolding source
second-fails = refl

third-gives-two : read_result (after_read source 5) 5 ≡ Ok 2
unfolding source
third-gives-two = refl

third-moves-two : slice_after_read (after_read source 5) (0 ∷ 0 ∷ 0 ∷ []) ≡ 7 ∷ 8 ∷ 0 ∷ []
unfolding source
third-moves-two = refl

third-leaves-one : after_read (after_read source 5) 5 ≡ record { left = 9 ∷ []; piece = 2; calls = 3; fails = 2 ∷ 4 ∷ []; faults = 1 }
unfolding source
third-leaves-one = refl

-- room for three bytes, one of them taken, in pieces of four
sink : SinkState
sink = record { held = 7 ∷ []; room = 3; piece = 4; calls = 1; fails = []; faults = 0 }

takes-what-fits : write_result sink 5 ≡ Ok 2
unfolding sink
takes-what-fits = refl

holds-what-fits : (after_write sink (1 ∷ 2 ∷ 3 ∷ [])).held ≡ 7 ∷ 1 ∷ 2 ∷ []
unfolding sink
holds-what-fits = refl

full-fails : write_result (after_write sink (1 ∷ 2 ∷ 3 ∷ [])) 1 ≡ Err (record {})
unfolding sink
full-fails = refl

full-takes-none-of-none : write_result (after_write sink (1 ∷ 2 ∷ 3 ∷ [])) 0 ≡ Ok 0
unfolding sink
full-takes-none-of-none = refl

stands-still : next_count (2 ^ 64 - 1) ≡ 2 ^ 64 - 1
stands-still = refl
