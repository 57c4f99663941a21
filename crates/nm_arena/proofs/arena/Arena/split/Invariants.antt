use Rattle.nm_arena.proofs.arena.Arena.split.Given as goal

-- the seat is that of this actor
abbrev pub ghosts-split_off : goal.ghosts-split_off
ghosts-split_off a = record { actor = a._actor }
