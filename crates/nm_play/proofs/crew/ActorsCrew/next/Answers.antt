use Rattle.std.proofs.Common.{◌≡◌, ◌<◌, length, ap, ◌∙◌, rules}
use Rattle.nm_play.proofs.Members.{Kind, cpu-heard, cpu-turn, cpu-others, migrator-heard, migrator-turn, migrator-others, reclaimer-heard, reclaimer-turn, reclaimer-others, map-set}
use Rattle.nm_play.proofs.crew.ActorsCrew.next.Goals as goal

pub next-requires : goal.next-requires
next-requires g c =
    let kc : Kind g.row.C.Denot g.row.C-Made.Denot = record { geometry = g.C.Actor.geometry; number = g.C.Actor.number; made = g.C.Actor.made; agrees = g.C.Actor.agrees } in
    let km : Kind g.row.M.Denot g.row.M-Made.Denot = record { geometry = g.M.Actor.geometry; number = g.M.Actor.number; made = g.M.Actor.made; agrees = g.M.Actor.agrees } in
    let kr : Kind g.row.R.Denot g.row.R-Made.Denot = record { geometry = g.R.Actor.geometry; number = g.R.Actor.number; made = g.R.Actor.made; agrees = g.R.Actor.agrees } in
    let lt : c.args.actor < length c.args.self.now.cpus.items = search rules in
    cpu-heard kc km kr c.args.self.now.cpus.items c.args.self.now.migrator c.args.self.now.reclaimer c.args.actor c.index_mut.result.now c.args.heard lt c.index_mut.ensures.value c.requires.heard

pub next-requires-then-place-len-2 : goal.next-requires-then-place-len-2
next-requires-then-place-len-2 g c =
    let kc : Kind g.row.C.Denot g.row.C-Made.Denot = record { geometry = g.C.Actor.geometry; number = g.C.Actor.number; made = g.C.Actor.made; agrees = g.C.Actor.agrees } in
    let km : Kind g.row.M.Denot g.row.M-Made.Denot = record { geometry = g.M.Actor.geometry; number = g.M.Actor.number; made = g.M.Actor.made; agrees = g.M.Actor.agrees } in
    let kr : Kind g.row.R.Denot g.row.R-Made.Denot = record { geometry = g.R.Actor.geometry; number = g.R.Actor.number; made = g.R.Actor.made; agrees = g.R.Actor.agrees } in
    let e : c.args.actor ≡ length c.args.self.now.cpus.items = search rules in
    migrator-heard kc km kr c.args.self.now.cpus.items c.args.self.now.migrator c.args.self.now.reclaimer c.args.actor c.args.heard e c.requires.heard

pub next-requires-else-place-len-2 : goal.next-requires-else-place-len-2
next-requires-else-place-len-2 g c =
    let kc : Kind g.row.C.Denot g.row.C-Made.Denot = record { geometry = g.C.Actor.geometry; number = g.C.Actor.number; made = g.C.Actor.made; agrees = g.C.Actor.agrees } in
    let km : Kind g.row.M.Denot g.row.M-Made.Denot = record { geometry = g.M.Actor.geometry; number = g.M.Actor.number; made = g.M.Actor.made; agrees = g.M.Actor.agrees } in
    let kr : Kind g.row.R.Denot g.row.R-Made.Denot = record { geometry = g.R.Actor.geometry; number = g.R.Actor.number; made = g.R.Actor.made; agrees = g.R.Actor.agrees } in
    let gt : length c.args.self.now.cpus.items < c.args.actor = search rules in
    reclaimer-heard kc km kr c.args.self.now.cpus.items c.args.self.now.migrator c.args.self.now.reclaimer c.args.actor c.args.heard gt c.requires.heard

pub returns-then-place-len-clause-turn : goal.returns-then-place-len-clause-turn
returns-then-place-len-clause-turn g c =
    let kc : Kind g.row.C.Denot g.row.C-Made.Denot = record { geometry = g.C.Actor.geometry; number = g.C.Actor.number; made = g.C.Actor.made; agrees = g.C.Actor.agrees } in
    let km : Kind g.row.M.Denot g.row.M-Made.Denot = record { geometry = g.M.Actor.geometry; number = g.M.Actor.number; made = g.M.Actor.made; agrees = g.M.Actor.agrees } in
    let kr : Kind g.row.R.Denot g.row.R-Made.Denot = record { geometry = g.R.Actor.geometry; number = g.R.Actor.number; made = g.R.Actor.made; agrees = g.R.Actor.agrees } in
    let lt : c.args.actor < length c.args.self.now.cpus.items = search rules in
    cpu-turn kc km kr c.args.self.now.cpus.items c.args.self.now.migrator c.args.self.now.reclaimer c.args.actor c.index_mut.result.now c.next.new.self c.args.heard c.next.result lt c.index_mut.ensures.value c.next.ensures.made c.next.ensures.turn

pub returns-then-place-len-clause-others : goal.returns-then-place-len-clause-others
returns-then-place-len-clause-others g c =
    let kc : Kind g.row.C.Denot g.row.C-Made.Denot = record { geometry = g.C.Actor.geometry; number = g.C.Actor.number; made = g.C.Actor.made; agrees = g.C.Actor.agrees } in
    let km : Kind g.row.M.Denot g.row.M-Made.Denot = record { geometry = g.M.Actor.geometry; number = g.M.Actor.number; made = g.M.Actor.made; agrees = g.M.Actor.agrees } in
    let kr : Kind g.row.R.Denot g.row.R-Made.Denot = record { geometry = g.R.Actor.geometry; number = g.R.Actor.number; made = g.R.Actor.made; agrees = g.R.Actor.agrees } in
    cpu-others kc km kr c.args.self.now.cpus.items c.args.self.now.migrator c.args.self.now.reclaimer c.args.actor c.next.new.self

pub returns-then-place-len-2-clause-turn : goal.returns-then-place-len-2-clause-turn
returns-then-place-len-2-clause-turn g c =
    let kc : Kind g.row.C.Denot g.row.C-Made.Denot = record { geometry = g.C.Actor.geometry; number = g.C.Actor.number; made = g.C.Actor.made; agrees = g.C.Actor.agrees } in
    let km : Kind g.row.M.Denot g.row.M-Made.Denot = record { geometry = g.M.Actor.geometry; number = g.M.Actor.number; made = g.M.Actor.made; agrees = g.M.Actor.agrees } in
    let kr : Kind g.row.R.Denot g.row.R-Made.Denot = record { geometry = g.R.Actor.geometry; number = g.R.Actor.number; made = g.R.Actor.made; agrees = g.R.Actor.agrees } in
    let e : c.args.actor ≡ length c.args.self.now.cpus.items = search rules in
    migrator-turn kc km kr c.args.self.now.cpus.items c.args.self.now.migrator c.next-then-place-len-2.new.self c.args.self.now.reclaimer c.args.actor c.args.heard c.next-then-place-len-2.result e c.next-then-place-len-2.ensures.made c.next-then-place-len-2.ensures.turn

pub returns-then-place-len-2-clause-others : goal.returns-then-place-len-2-clause-others
returns-then-place-len-2-clause-others g c =
    let kc : Kind g.row.C.Denot g.row.C-Made.Denot = record { geometry = g.C.Actor.geometry; number = g.C.Actor.number; made = g.C.Actor.made; agrees = g.C.Actor.agrees } in
    let km : Kind g.row.M.Denot g.row.M-Made.Denot = record { geometry = g.M.Actor.geometry; number = g.M.Actor.number; made = g.M.Actor.made; agrees = g.M.Actor.agrees } in
    let kr : Kind g.row.R.Denot g.row.R-Made.Denot = record { geometry = g.R.Actor.geometry; number = g.R.Actor.number; made = g.R.Actor.made; agrees = g.R.Actor.agrees } in
    let e : c.args.actor ≡ length c.args.self.now.cpus.items = search rules in
    migrator-others kc km kr c.args.self.now.cpus.items c.args.self.now.migrator c.next-then-place-len-2.new.self c.args.self.now.reclaimer c.args.actor e c.next-then-place-len-2.ensures.made

pub returns-else-place-len-2-clause-turn : goal.returns-else-place-len-2-clause-turn
returns-else-place-len-2-clause-turn g c =
    let kc : Kind g.row.C.Denot g.row.C-Made.Denot = record { geometry = g.C.Actor.geometry; number = g.C.Actor.number; made = g.C.Actor.made; agrees = g.C.Actor.agrees } in
    let km : Kind g.row.M.Denot g.row.M-Made.Denot = record { geometry = g.M.Actor.geometry; number = g.M.Actor.number; made = g.M.Actor.made; agrees = g.M.Actor.agrees } in
    let kr : Kind g.row.R.Denot g.row.R-Made.Denot = record { geometry = g.R.Actor.geometry; number = g.R.Actor.number; made = g.R.Actor.made; agrees = g.R.Actor.agrees } in
    let gt : length c.args.self.now.cpus.items < c.args.actor = search rules in
    reclaimer-turn kc km kr c.args.self.now.cpus.items c.args.self.now.migrator c.args.self.now.reclaimer c.next-else-place-len-2.new.self c.args.actor c.args.heard c.next-else-place-len-2.result gt c.next-else-place-len-2.ensures.made c.next-else-place-len-2.ensures.turn

pub returns-else-place-len-2-clause-others : goal.returns-else-place-len-2-clause-others
returns-else-place-len-2-clause-others g c =
    let kc : Kind g.row.C.Denot g.row.C-Made.Denot = record { geometry = g.C.Actor.geometry; number = g.C.Actor.number; made = g.C.Actor.made; agrees = g.C.Actor.agrees } in
    let km : Kind g.row.M.Denot g.row.M-Made.Denot = record { geometry = g.M.Actor.geometry; number = g.M.Actor.number; made = g.M.Actor.made; agrees = g.M.Actor.agrees } in
    let kr : Kind g.row.R.Denot g.row.R-Made.Denot = record { geometry = g.R.Actor.geometry; number = g.R.Actor.number; made = g.R.Actor.made; agrees = g.R.Actor.agrees } in
    let gt : length c.args.self.now.cpus.items < c.args.actor = search rules in
    reclaimer-others kc km kr c.args.self.now.cpus.items c.args.self.now.migrator c.args.self.now.reclaimer c.next-else-place-len-2.new.self c.args.actor c.args.heard gt c.requires.heard

pub returns-then-place-len-clause-made : goal.returns-then-place-len-clause-made
returns-then-place-len-clause-made g c =
    let lt : c.args.actor < length c.args.self.now.cpus.items = search rules in
    let e = map-set g.C.Actor.made c.args.self.now.cpus.items c.args.actor c.next.new.self c.index_mut.result.now lt (c.next.ensures.made ∙ ap g.C.Actor.made c.index_mut.ensures.value) in
    λ i. record { cpus = e i; migrator = g.M.Actor.made c.args.self.now.migrator; reclaimer = g.R.Actor.made c.args.self.now.reclaimer }
