use Rattle.std.proofs.Common.{rules}
use Rattle.std.proofs.lemmas.Fn.{filter_same}
use Rattle.nm_schedule.proofs.picker.note_end.Goals as goal

pub returns-then-played : goal.returns-then-played
returns-then-played c = rw c.if-played.true (filter_same _ _ _ (λ x b f' k. search rules) _ _ c.retain.ensures.filtered)
