use Rattle.nm_arena.proofs.arena.Arena.step.Given as goal

-- the exchange is that of this action on a machine of this geometry
abbrev pub ghosts-exchange : goal.ghosts-exchange
ghosts-exchange a = record { geometry = a._geometry.now; action = a._action }
