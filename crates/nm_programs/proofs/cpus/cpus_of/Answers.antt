use Rattle.std.proofs.Common.{◌≡◌, ◌<◌, ◌+◌, ℕ, length, refl, subst, sym, ap, ◌∙◌, arith}
use Rattle.nm_base.specs.Geometry.{Geometry}
use Rattle.nm_schedule.proofs.Snoc.{length-snoc}
use Rattle.nm_access.specs.Faults.{fault_kinds}
use Rattle.nm_cpu.specs.declared.actor.Processor.{Processor}
use Rattle.nm_cpu.specs.Agreeing.{FollowsCpu}
use Rattle.nm_cpu.specs.Programs.{IsCpu}
use Rattle.nm_crew.specs.Crewed.{AtEach}
use Rattle.nm_programs.specs.Cpus.{IsCpuAt}
use Rattle.nm_programs.proofs.Beginning.{cpu-of, each-more, program-at}
use Rattle.nm_programs.proofs.cpus.cpus_of.Goals as goal

pub new-requires : goal.new-requires
new-requires g c =
    let script = c.args.script.now in
    let number = c.loop-number.number in
    let machine : c.script.inside.geometry ≡ script.geometry = ap (λ s. s.geometry) c.script.view_is in
    let cpus : c.g.inside.cpus ≡ script.geometry.cpus = ap (λ k. k.cpus) c.g.view_is ∙ ap (λ k. k.cpus) machine in
    let lt : number < script.geometry.cpus = omega (arith, c.loop-number-test.true, cpus) in
    let within : number < length script.programs = omega (arith, lt, c.requires.programs) in
    let same = program-at (λ p. p.items) c.script.inside.programs.items script number c.index-program.result.now c.deref.result.now (ap (λ s. s.programs) c.script.view_is) within (c.deref.ensures.value ∙ ap (λ p. p.items) c.index-program.ensures) in
    let At : Geometry → Type 0 = λ k. IsCpu k number c.deref.result.now in
    λ k. ((refl, tt), subst At (sym machine) (cpu-of script number c.deref.result.now c.requires lt same))

pub loop-number-preserved : goal.loop-number-preserved
loop-number-preserved g c =
    let script = c.args.script.now in
    let number = c.loop-number.number in
    let said : ℕ → Processor g.row.F.Denot → Type 0 = IsCpuAt (λ p. p.made) (FollowsCpu (fault_kinds g.F.Part.shape g.F.Part.leaves g.F.Faults.waits_at g.F.Faults.missing g.F.Faults.shadowed g.F.Faults.counted) g.F.Part.made g.F.Part.awaits) script in
    let machine : c.script.inside.geometry ≡ script.geometry = ap (λ s. s.geometry) c.script.view_is in
    let cpus : c.g.inside.cpus ≡ script.geometry.cpus = ap (λ k. k.cpus) c.g.view_is ∙ ap (λ k. k.cpus) machine in
    let within : number < length script.programs = omega (arith, c.loop-number-test.true, cpus, c.requires.programs) in
    let same = program-at (λ p. p.items) c.script.inside.programs.items script number c.index-program.result.now c.deref.result.now (ap (λ s. s.programs) c.script.view_is) within (c.deref.ensures.value ∙ ap (λ p. p.items) c.index-program.ensures) in
    let e = c.in_ok-new.ensures in
    let cpu = c.in_ok-new.field-0 in
    let Number : ℕ → Type 0 = λ n. said n cpu in
    let here : said number cpu = record { made_so = record { machine = e.geometry ∙ machine; same = e.number; program = e.program ∙ same }; opens = e.new } in
    let more = each-more said c.loop-number.cpus.items cpu c.loop-number.invariant.each (subst Number (sym c.loop-number.invariant.many) here) in
    record {
      many = ap length c.in_ok-push.ensures.items ∙ length-snoc c.loop-number.cpus.items cpu ∙ ap (λ n. n + 1) c.loop-number.invariant.many;
      each = subst (AtEach said) (sym c.in_ok-push.ensures.items) more;
    }
