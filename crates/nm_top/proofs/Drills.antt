-- No line of a generated program is an await.
use Rattle.std.proofs.Common.{ℕ, ◌==◌, ◌+◌, ◌/◌, ◌%◌, ◌^◌, Bool, true, false, List, [], ◌∷◌, map, if◌then◌else◌}
use Rattle.std.specs.List.{AllByRecursion, filter, range_with_len}
use Rattle.nm_script.specs.declared.script.Line.TheVariants.{Load, Store}
use Rattle.nm_gen.specs.Generated.{generated, line_at, generated_program, page_drawn, word_drawn, drawn}
use Rattle.nm_report.specs.Summary.{HasNoAwait, IsNoAwait}

either_plain : (b : Bool) (v w x : ℕ) → IsNoAwait (if b then Store v w x else Load v w)
either_plain true v w x = tt
either_plain false v w x = tt

lines_plain : (n : ℕ) (draws : List ℕ) → AllByRecursion IsNoAwait (map (line_at n) draws)
lines_plain n [] = tt
lines_plain n (i ∷ draws) =
    let r = drawn n (i + 1) / 2 ^ 33 in
    (either_plain (r % 4 == 0) (page_drawn r) (word_drawn r) (i + 1), lines_plain n draws)

program_plain : (n size p : ℕ) → AllByRecursion IsNoAwait (generated_program n size p)
program_plain n size p = lines_plain n (filter (λ i. i % 4 == p) (range_with_len 0 size))

pub generated-plain : (n size : ℕ) → HasNoAwait (generated n size).programs
generated-plain n size = (program_plain n size 0, (program_plain n size 1, (program_plain n size 2, (program_plain n size 3, tt))))
