use Rattle.std.proofs.Common.{◌≡◌, [], ◌∷◌, rules}
use Rattle.nm_schedule_rows.proofs.Listing.{listed-start}
use Rattle.nm_schedule_rows.proofs.rows.run.Goals as goal

pub run_schedule-requires-clause-may : goal.run_schedule-requires-clause-may
run_schedule-requires-clause-may g c =
    let is : c.in_ok-vec.field-0.items ≡ c.listed.result ∷ [] = search rules in
    listed-start c.in_ok-g.g c.listed.result (record { cpus = c.in_ok-vec.field-0; migrator = c.listed-2.result; reclaimer = c.listed-3.result }) is c.in_ok-g.ensures.0
    (record { machine = c.listed.ensures.made.0; same = c.listed.ensures.made.1; listed = c.listed.ensures.fresh })
    (record { machine = c.listed-2.ensures.made.0; same = c.listed-2.ensures.made.1; listed = c.listed-2.ensures.fresh })
    (record { machine = c.listed-3.ensures.made.0; same = c.listed-3.ensures.made.1; listed = c.listed-3.ensures.fresh })

pub run_schedule-requires-clause-nothing : goal.run_schedule-requires-clause-nothing
run_schedule-requires-clause-nothing g c = record { listed = c.new.ensures.events; ordered = c.new.ensures.order }
