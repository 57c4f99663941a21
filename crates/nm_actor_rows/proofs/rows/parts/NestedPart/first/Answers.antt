use Rattle.std.proofs.Common.{refl}
use Rattle.nm_actor_rows.proofs.Nesting.{nested-first}
use Rattle.nm_actor_rows.proofs.rows.parts.NestedPart.first.Goals as goal

pub returns-clause-step : goal.returns-clause-step
returns-clause-step w c = λ g v may. record {
  quiet = tt;
  permitted = record { range = may.range; permitted = tt };
  awaited = rw c.requires.new.0 (c.requires.new.1, record { begun = may; none = refl; look = refl });
  begun = nested-first w.P.Part.may_begin w.P.Part.shape c.args.self.now.vpage (w.P.Part.made c.args.self.now.inner) g v may;
}
