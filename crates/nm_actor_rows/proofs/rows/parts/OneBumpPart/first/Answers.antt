use Rattle.std.proofs.Common.{[], refl}
use Rattle.nm_actor_rows.proofs.rows.parts.OneBumpPart.first.Goals as goal

pub returns-clause-step : goal.returns-clause-step
returns-clause-step c = λ g v may. record {
  quiet = tt;
  permitted = record { range = tt; permitted = may };
  awaited = (refl, refl);
  begun = record { reply = _; begun = record { rest = []; outcome = 0; whole = refl } };
}
