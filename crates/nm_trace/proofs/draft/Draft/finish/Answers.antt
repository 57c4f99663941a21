-- The programs are those of the processors that were seen.
use Rattle.std.proofs.Common.{◌≡◌, map, take, length, ap, sym, ◌∙◌}
use Rattle.std.proofs.lemmas.List.{take-map}
use Rattle.std.proofs.lemmas.List.FromFn.{take-map-range_with_len}
use Rattle.nm_trace.specs.Imports.{pages_seen, cpus_seen, program_for, programs_for}
use Rattle.nm_trace.proofs.Validity.{script-is}
use Rattle.nm_trace.proofs.draft.Draft.finish.Goals as goal

pub returns-clause-script : goal.returns-clause-script
returns-clause-script c refs h =
    let f = program_for (pages_seen refs) refs in
    let programs : map (λ p. p.items) c.truncate.new.self.items ≡ programs_for (pages_seen refs) refs (cpus_seen refs) =
    ap (map (λ p. p.items)) c.truncate.ensures.items ∙ sym (take-map (λ p. p.items) c.args.self.cpus c.args.self.programs.items)
    ∙ ap (take c.args.self.cpus) h.programs ∙ ap (λ n. take n (programs_for (pages_seen refs) refs 16)) h.cpus ∙ take-map-range_with_len f 0 16 (cpus_seen refs) h.few in
    let pages : c.len-pages.result ≡ length (pages_seen refs) = c.len-pages.ensures.len ∙ ap length h.pages in
    script-is c.args.fast c.args.slow refs c.in_ok-geometry.geometry (map (λ p. p.items) c.truncate.new.self.items) c.new.result.items c.args.self.cpus c.len-pages.result c.in_ok-geometry.ensures.0 h.cpus pages programs c.new.ensures.items
