-- The seat of an actor that was not split off yet is.
use Rattle.nm_rule.proofs.Shared.{cuts}
use Rattle.nm_arena.proofs.Faced.{unsplit_has}
use Rattle.nm_arena.proofs.exchanging.split_off.Goals as goal

pub split_seat-requires : goal.split_seat-requires
split_seat-requires g c =
    let has = unsplit_has _ c.requires.unsplit in
    (c.requires.table.0, c.requires.table.1, cuts _ _ _ _ has.0 c.requires.first has.1)
