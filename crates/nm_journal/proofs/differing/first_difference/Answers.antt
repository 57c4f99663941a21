use Rattle.std.proofs.Common.{rules, ◌≡◌, ◌≢◌, ℕ, ◌<◌, ◌≤◌, List, length, Some, true, ap, subst, arith}
use Rattle.std.specs.Str.{bytes_eq}
use Rattle.std.proofs.lemmas.Option.{same_Some}
use Rattle.std.proofs.lemmas.Slice.Eq.{bytes_eq-Decides}
use Rattle.nm_text.proofs.LineLemmas.{cut-shorter}
use Rattle.nm_journal_text.specs.Differing.{IsDifferentAt}
use Rattle.nm_journal_text.proofs.Differences.{same_more, differ_lines, differ_last, differ_told, not_empty}
use Rattle.nm_journal.proofs.differing.first_difference.Goals as goal

at : (told text : List ℕ) (m n : ℕ) → IsDifferentAt told text m → Some m ≡ Some n → IsDifferentAt told text n
at told text m n h e = subst (IsDifferentAt told text) (same_Some m n e) h

pub returns-in-None-clause-some : goal.returns-in-None-clause-some
returns-in-None-clause-some c = λ n e.
    let some : 0 < length c.loop-tail.tail.now = search rules in
    at c.args.told.now c.args.text.now c.loop-tail.count n (differ_told c.args.told.now c.args.text.now c.loop-tail.tail.now c.loop-tail.rest.now c.loop-tail.count c.loop-tail.invariant.same c.in-None.ensures.none (λ none. omega (arith, some, ap length none))) e

pub returns-in-None-cut-clause-some : goal.returns-in-None-cut-clause-some
returns-in-None-cut-clause-some c = λ n e.
    at c.args.told.now c.args.text.now c.loop-tail.count n (differ_last c.args.told.now c.args.text.now c.loop-tail.tail.now c.loop-tail.rest.now c.loop-tail.count c.loop-tail.invariant.same c.in-None-cut.ensures.none (not_empty c.loop-tail.tail.now _ c.in-Some.ensures.some)) e

pub returns-then-not-is_text-clause-some : goal.returns-then-not-is_text-clause-some
returns-then-not-is_text-clause-some c = λ n e.
    let a = c.in-Some.parts in
    let b = c.in-Some-cut.parts in
    let apart : a.0.now ≢ b.0.now = λ s. let hit : bytes_eq a.0.now b.0.now ≡ true = (bytes_eq-Decides a.0.now b.0.now).1 s in let told = c.is_text.ensures in let miss = c.if-not-is_text.true in cc in
    at c.args.told.now c.args.text.now c.loop-tail.count n (differ_lines c.args.told.now c.args.text.now c.loop-tail.tail.now c.loop-tail.rest.now c.loop-tail.count a.0.now b.0.now a.1.now b.1.now c.loop-tail.invariant.same c.in-Some.ensures.some c.in-Some-cut.ensures.some apart) e

pub loop-tail-smaller : goal.loop-tail-smaller
loop-tail-smaller c = cut-shorter c.loop-tail.tail.now (c.in-Some.parts.0.now, c.in-Some.parts.1.now) c.in-Some.ensures.some

pub loop-tail-preserved : goal.loop-tail-preserved
loop-tail-preserved c =
    let a = c.in-Some.parts in
    let b = c.in-Some-cut.parts in
    let shorter = cut-shorter c.loop-tail.rest.now (b.0.now, b.1.now) c.in-Some-cut.ensures.some in
    let hit : bytes_eq a.0.now b.0.now ≡ true = let told = c.is_text.ensures in let found = c.if-not-is_text.false in cc in
    record {
      same = same_more c.args.told.now c.args.text.now c.loop-tail.tail.now c.loop-tail.rest.now c.loop-tail.count a.0.now b.0.now a.1.now b.1.now c.loop-tail.invariant.same c.in-Some.ensures.some c.in-Some-cut.ensures.some ((bytes_eq-Decides a.0.now b.0.now).0 hit);
      short = omega (arith, shorter, c.loop-tail.invariant.short);
    }

few_at : (m n k : ℕ) → Some m ≡ Some n → m ≤ k → n ≤ k
few_at m n k e le = subst (λ q. q ≤ k) (same_Some m n e) le

pub returns-in-None-clause-few : goal.returns-in-None-clause-few
returns-in-None-clause-few c = λ n e. few_at c.loop-tail.count n (length c.args.text.now) e (omega (arith, c.loop-tail.invariant.short))

pub returns-in-None-cut-clause-few : goal.returns-in-None-cut-clause-few
returns-in-None-cut-clause-few c = λ n e. few_at c.loop-tail.count n (length c.args.text.now) e (omega (arith, c.loop-tail.invariant.short))

pub returns-then-not-is_text-clause-few : goal.returns-then-not-is_text-clause-few
returns-then-not-is_text-clause-few c = λ n e. few_at c.loop-tail.count n (length c.args.text.now) e (omega (arith, c.loop-tail.invariant.short))

pub overflow_add-count : goal.overflow_add-count
overflow_add-count c =
    let b = c.in-Some-cut.parts in
    let shorter = cut-shorter c.loop-tail.rest.now (b.0.now, b.1.now) c.in-Some-cut.ensures.some in
    omega (arith, shorter, c.loop-tail.invariant.short, c.requires)
