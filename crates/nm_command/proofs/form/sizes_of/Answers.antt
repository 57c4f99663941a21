-- A field is the spelling of one number, so the sizes are those of the fields.
use Rattle.std.proofs.Common.{IsTrue, rules}
use Rattle.nm_text.specs.Numbers.{IsNumber}
use Rattle.nm_command.proofs.Forms.{no_sizes, sizes_are}
use Rattle.nm_command.proofs.form.sizes_of.Goals as goal

pub returns-then-not-are_tier_sizes : goal.returns-then-not-are_tier_sizes
returns-then-not-are_tier_sizes c =
    let first : IsNumber c.args.fast.now c.in_ok-fast.fast = search rules in
    let second : IsNumber c.args.slow.now c.in_ok-slow.slow = search rules in
    no_sizes c.args.fast.now c.args.slow.now c.in_ok-fast.fast c.in_ok-slow.slow first second (λ sizes. let held = c.are_tier_sizes.ensures.1 sizes in absurd (search (rules, held)))

pub returns : goal.returns
returns c =
    let first : IsNumber c.args.fast.now c.in_ok-fast.fast = search rules in
    let second : IsNumber c.args.slow.now c.in_ok-slow.slow = search rules in
    let held : IsTrue c.are_tier_sizes.result = search rules in
    λ f s. sizes_are c.args.fast.now c.args.slow.now c.in_ok-fast.fast c.in_ok-slow.slow f s first second (c.are_tier_sizes.ensures.0 held)
