-- The command as it was built: its one argument takes one to eight values.
use Rattle.std.proofs.Common.{◌≡◌, ◌||◌, ℕ, Option, Some, None, max, false, true, ap, ap₂, codes, ◌∙◌}
use Rattle.std.specs.Prelude.{IsSomeAnd}
use Rattle.std.proofs.lemmas.Result.{IfOk-weaker}
use Rattle.clap.specs.Walk.{rule_of}
use Rattle.clap.specs.Words.{Rule, new_rule, with_rule}
use Rattle.clap.specs.declared.builder.arg.Arg.{Arg}
use Rattle.clap.specs.declared.builder.range.ValueRange.{ValueRange}
use Rattle.nm_command.specs.Line.{several_rule}
use Rattle.nm_command.proofs.line.lab_command.Goals as goal

range_is : (o : Option ValueRange) (low high : ℕ) → IsSomeAnd o (λ r. r ≡ record { start_inclusive = low; end_inclusive = max high low }) → low ≡ 1 → high ≡ 8 → o ≡ Some (record { start_inclusive = 1; end_inclusive = 8 })
range_is None low high h e f = absurd h
range_is (Some r) low high h e f = ap (λ (v : ValueRange). Some v) (h ∙ ap₂ (λ (l g : ℕ). record { start_inclusive = l; end_inclusive = max g l }) e f)

rule_is : (a b c : Arg) → rule_of a ≡ new_rule (codes "WORD") → b ≡ record a { required = true } → c ≡ record b { num_vals = c.num_vals } → c.num_vals ≡ Some (record { start_inclusive = 1; end_inclusive = 8 }) → rule_of c ≡ several_rule (codes "WORD")
rule_is a b c new required ranged range =
    ap rule_of ranged ∙ ap₂ (λ (r : Rule) (v : Option ValueRange). record r { range = v }) (ap rule_of required ∙ ap (λ (r : Rule). record r { required = true }) new) range

pub returns : goal.returns
returns c =
    let range = range_is c.num_args-word.result.num_vals _ _ c.num_args-word.ensures.1 c.new-2.ensures.start c.new-2.ensures.end in
    let rule = rule_is c.new.result c.required.result c.num_args-word.result c.new.ensures.rule c.required.ensures c.num_args-word.ensures.0 range in
    let local : c.num_args-word.result.global ≡ false = ap (λ (a : Arg). a.global) c.num_args-word.ensures.0 ∙ ap (λ (a : Arg). a.global) c.required.ensures ∙ c.new.ensures.optional.1 in
    IfOk-weaker c.arg.result _ _ (λ m h. (h.shape local ∙ ap₂ with_rule c.new-3.ensures.app rule, h.globals ∙ ap₂ ◌||◌ c.new-3.ensures.local local)) c.arg.ensures
