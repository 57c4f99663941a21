use Rattle.std.proofs.Common.{[], refl}
use Rattle.nm_compose.proofs.Acting.{some-act}
use Rattle.nm_compose.proofs.act.ActPiece.start.Goals as goal

pub returns-clause-step : goal.returns-clause-step
returns-clause-step c = λ g view may.
    let some = some-act c.args.self.now.action g in
    record {
      quiet = may.quiet;
      permitted = may.allowed;
      awaited = (refl, refl);
      begun = record { reply = some.outcome; begun = record { rest = []; outcome = some.outcome; whole = record { is = refl; kind = some.shown.kind } } };
    }
