-- What is left after an access of a line.
use Rattle.std.proofs.Common.{◌≡◌, ℕ, zero, suc, ◌+◌, ◌≤◌, ◌==◌, Bool, true, false, List, [], ◌∷◌, ◌++◌, Some, None, refl, sym, subst, arith}
use Rattle.std.specs.Prelude.{if◌then◌else◌}
use Rattle.std.proofs.lemmas.Bool.{eqb-true, eqb-false}
use Rattle.nm_base.specs.Geometry.{Geometry}
use Rattle.nm_part.specs.Patterns.{IsLeft}
use Rattle.nm_part.proofs.Patterns.{left-as, either-yes, either-other}
use Rattle.nm_actor.specs.Turns.{Turns}
use Rattle.nm_access.specs.declared.made.Touch.TheVariants as touches
use Rattle.nm_access.specs.Faults.{FaultKinds}
use Rattle.nm_access.specs.Accesses.{Carried, Accessed}
use Rattle.nm_script.specs.declared.script.Line.{Line}
use Rattle.nm_script.specs.declared.script.Line.TheVariants.{Load, Store, Add, Await}
use Rattle.nm_report.specs.declared.line_result.LineResult.{LineResult}
use Rattle.nm_report.specs.declared.line_result.LineResult.TheVariants.{Loaded, Stored, Added, Met, Missed}
use Rattle.nm_cpu.specs.Programs.{CpuEnd, IsLineOf, access_to, Awaits, LinesMade}
use Rattle.nm_cpu.specs.Lines.{line_result, IsLoadsOf, AreLoadsOf, after_access, after_line, AccessLeft, NextLeft}
use Rattle.nm_cpu.proofs.Touched.{some-one, none-some, some-none}

-- A pattern of a sequence.

abbrev Sequence : Type 0 → Type 1
Sequence X = Turns → CpuEnd X → Type 0

abbrev Within : {X : Type 0} → Sequence X → Sequence X → Type 0
Within {X} now was = (rest : Turns) (o : CpuEnd X) → now rest o → was rest o

-- An await, by its two tests.

no-more : (loads more max : ℕ) → loads + 1 + more ≡ max → loads + 1 ≡ max → more ≡ 0
no-more loads more max of is = omega (arith, of, is)

-- it gave something
await-gave : {M X : Type 0} (kinds : FaultKinds M X) (g : Geometry) (v w x max loads more : ℕ) (lines : List Line) (results : List LineResult) (end : Accessed X) (r : LineResult) (met last : Bool) → (end.word == x) ≡ met → (loads + 1 == max) ≡ last
    → (if met then Some (Met (loads + 1)) else if last then Some (Missed (loads + 1)) else None) ≡ Some r → loads + 1 + more ≡ max
    → Within (after_line kinds g lines results r end.held) (after_access kinds g (Await v w x max) loads more (after_line kinds g lines results) end)
await-gave {M} {X} kinds g v w x max loads more lines results end r true last met_is last_is gives of rest o h =
    let R : LineResult → Type 0 = λ r. after_line kinds g lines results r end.held rest o in
    either-yes (end.word == x) (after_line kinds g lines results (Met (loads + 1)) end.held) (Awaits kinds g (access_to g v w touches.Load) x (loads + 1) more (after_line kinds g lines results) end.held) rest o met_is (subst R (sym (some-one gives)) h)
await-gave {M} {X} kinds g v w x max loads more lines results end r false true met_is last_is gives of rest o h =
    let R : LineResult → Type 0 = λ r. after_line kinds g lines results r end.held rest o in
    let N : ℕ → Type 0 = λ n. Awaits kinds g (access_to g v w touches.Load) x (loads + 1) n (after_line kinds g lines results) end.held rest o in
    either-other (end.word == x) (after_line kinds g lines results (Met (loads + 1)) end.held) (Awaits kinds g (access_to g v w touches.Load) x (loads + 1) more (after_line kinds g lines results) end.held) rest o met_is
    (subst N (sym (no-more loads more max of (eqb-true (loads + 1) max last_is))) (subst R (sym (some-one gives)) h))
await-gave kinds g v w x max loads more lines results end r false false met_is last_is gives of rest o h = absurd (none-some r gives)

-- how many more loads there may be after the next one
pub record HasMore (line : Line) (loads : ℕ) (more : ℕ) : Type 0 where
  pub next : ℕ
  pub is : more ≡ suc next
  pub of : IsLoadsOf line (loads + 1) next

one-more : (loads more max : ℕ) → loads + 1 + more ≡ max → (loads + 1 ≡ max → ⊥) → (next : ℕ) × (more ≡ suc next) × (loads + 1 + 1 + next ≡ max)
one-more loads zero max of not = absurd (not (omega (arith, of)))
one-more loads (suc next) max of not = (next, refl, omega (arith, of))

-- it gave nothing
await-again : {M X : Type 0} (kinds : FaultKinds M X) (g : Geometry) (v w x max loads next : ℕ) (lines : List Line) (results : List LineResult) (end : Accessed X) → (end.word == x) ≡ false
    → Within (AccessLeft kinds g (Await v w x max) lines results (loads + 1) next end.held) (after_access kinds g (Await v w x max) loads (suc next) (after_line kinds g lines results) end)
await-again kinds g v w x max loads next lines results end met_is rest o h =
    either-other (end.word == x) (after_line kinds g lines results (Met (loads + 1)) end.held) (Awaits kinds g (access_to g v w touches.Load) x (loads + 1) (suc next) (after_line kinds g lines results) end.held) rest o met_is h

await-next : (v w x max loads more word : ℕ) (met last : Bool) → (word == x) ≡ met → (loads + 1 == max) ≡ last → (if met then Some (Met (loads + 1)) else if last then Some (Missed (loads + 1)) else None) ≡ None
    → loads + 1 + more ≡ max → ((word == x) ≡ false) × HasMore (Await v w x max) loads more
await-next v w x max loads more word true last met_is last_is gives of = absurd (some-none (Met (loads + 1)) gives)
await-next v w x max loads more word false true met_is last_is gives of = absurd (some-none (Missed (loads + 1)) gives)
await-next v w x max loads more word false false met_is last_is gives of =
    let m = one-more loads more max of (eqb-false (loads + 1) max last_is) in
    (met_is, record { next = m.0; is = m.1; of = m.2 })

-- A line.

-- the line gave something: the lines behind it are left
gave-fits : {M X : Type 0} (kinds : FaultKinds M X) (g : Geometry) (line : Line) (lines : List Line) (results : List LineResult) (loads more : ℕ) (end : Accessed X) (r : LineResult) → line_result line loads end.word ≡ Some r → IsLoadsOf line loads more
    → Within (after_line kinds g lines results r end.held) (after_access kinds g line loads more (after_line kinds g lines results) end)
gave-fits kinds g (Load v w) lines results loads more end r gives of rest o h = subst (λ (r : LineResult). after_line kinds g lines results r end.held rest o) (sym (some-one gives)) h
gave-fits kinds g (Store v w x) lines results loads more end r gives of rest o h = subst (λ (r : LineResult). after_line kinds g lines results r end.held rest o) (sym (some-one gives)) h
gave-fits kinds g (Add v w x) lines results loads more end r gives of rest o h = subst (λ (r : LineResult). after_line kinds g lines results r end.held rest o) (sym (some-one gives)) h
gave-fits kinds g (Await v w x max) lines results loads more end r gives of rest o h = await-gave kinds g v w x max loads more lines results end r (end.word == x) (loads + 1 == max) refl refl gives of rest o h

pub left-gave : {M X : Type 0} (kinds : FaultKinds M X) (g : Geometry) (whole : Turns → CpuEnd X → Type 0) (turns : Turns) (line : Line) (lines : List Line) (results : List LineResult) (loads more : ℕ) (end : Accessed X) (r : LineResult) → line_result line loads end.word ≡ Some r → IsLoadsOf line loads more
    → IsLeft whole turns (after_access kinds g line loads more (after_line kinds g lines results) end) → IsLeft whole turns (LinesMade kinds g lines (results ++ r ∷ []) end.held)
left-gave kinds g whole turns line lines results loads more end r gives of due = left-as whole turns (after_access kinds g line loads more (after_line kinds g lines results) end) (LinesMade kinds g lines (results ++ r ∷ []) end.held) due (gave-fits kinds g line lines results loads more end r gives of)

-- the line gave nothing: an access of it is left
pub record IsLeftAgain {M X : Type 0} (kinds : FaultKinds M X) (g : Geometry) (whole : Turns → CpuEnd X → Type 0) (turns : Turns) (line : Line) (lines : List Line) (results : List LineResult) (loads : ℕ) (held : Carried X) : Type 0 where
  pub more : ℕ
  pub of : IsLoadsOf line (loads + 1) more
  pub due : IsLeft whole turns (AccessLeft kinds g line lines results (loads + 1) more held)

pub left-again : {M X : Type 0} (kinds : FaultKinds M X) (g : Geometry) (whole : Turns → CpuEnd X → Type 0) (turns : Turns) (line : Line) (lines : List Line) (results : List LineResult) (loads more : ℕ) (end : Accessed X) → line_result line loads end.word ≡ None → IsLoadsOf line loads more
    → IsLeft whole turns (after_access kinds g line loads more (after_line kinds g lines results) end) → IsLeftAgain kinds g whole turns line lines results loads end.held
left-again kinds g whole turns (Load v w) lines results loads more end gives of due = absurd (some-none (Loaded end.word) gives)
left-again kinds g whole turns (Store v w x) lines results loads more end gives of due = absurd (some-none Stored gives)
left-again kinds g whole turns (Add v w x) lines results loads more end gives of due = absurd (some-none (Added end.word) gives)
left-again {M} {X} kinds g whole turns (Await v w x max) lines results loads more end gives of due =
    let n = await-next v w x max loads more end.word (end.word == x) (loads + 1 == max) refl refl gives of in
    let L : ℕ → Type 0 = λ m. IsLeft whole turns (after_access kinds g (Await v w x max) loads m (after_line kinds g lines results) end) in
    record {
      more = n.1.next;
      of = n.1.of;
      due = left-as whole turns (after_access kinds g (Await v w x max) loads (suc n.1.next) (after_line kinds g lines results) end) (AccessLeft kinds g (Await v w x max) lines results (loads + 1) n.1.next end.held) (subst L n.1.is due)
          (await-again kinds g v w x max loads n.1.next lines results end n.0);
    }

-- A new line begins.

pub record BeginsLines {M X : Type 0} (kinds : FaultKinds M X) (g : Geometry) (whole : Turns → CpuEnd X → Type 0) (turns : Turns) (lines : List Line) (results : List LineResult) (held : Carried X) : Type 0 where
  pub more : ℕ
  pub of : AreLoadsOf lines 0 more
  pub due : IsLeft whole turns (NextLeft kinds g lines results 0 more held)

-- the first load of an await
some-load : (max : ℕ) → 1 ≤ max → (more : ℕ) × (max ≡ suc more)
some-load zero h = absurd (omega (arith, h))
some-load (suc more) h = (more, refl)

-- whatever line comes first may make its access
pub some-loads : (g : Geometry) (lines : List Line) → ((line : Line) (rest : List Line) → lines ≡ line ∷ rest → IsLineOf g line) → (more : ℕ) × AreLoadsOf lines 0 more
some-loads g [] lines = (0, refl)
some-loads g (Load v w ∷ rest) lines = (0, refl)
some-loads g (Store v w x ∷ rest) lines = (0, refl)
some-loads g (Add v w x ∷ rest) lines = (0, refl)
some-loads g (Await v w x max ∷ rest) lines =
    let m = some-load max (lines (Await v w x max) rest refl).2 in
    (m.0, await-of m.0 max m.1)
  where
    await-of : (more max : ℕ) → max ≡ suc more → 0 + 1 + more ≡ max
    await-of more max is = omega (arith, is)

pub lines-begin : {M X : Type 0} (kinds : FaultKinds M X) (g : Geometry) (whole : Turns → CpuEnd X → Type 0) (turns : Turns) (lines : List Line) (results : List LineResult) (held : Carried X) → ((line : Line) (rest : List Line) → lines ≡ line ∷ rest → IsLineOf g line)
    → IsLeft whole turns (LinesMade kinds g lines results held) → BeginsLines kinds g whole turns lines results held
lines-begin kinds g whole turns [] results held lines due = record { more = 0; of = refl; due = due }
lines-begin kinds g whole turns (Load v w ∷ rest) results held lines due = record { more = 0; of = refl; due = due }
lines-begin kinds g whole turns (Store v w x ∷ rest) results held lines due = record { more = 0; of = refl; due = due }
lines-begin kinds g whole turns (Add v w x ∷ rest) results held lines due = record { more = 0; of = refl; due = due }
lines-begin {M} {X} kinds g whole turns (Await v w x max ∷ rest) results held lines due =
    let m = some-load max (lines (Await v w x max) rest refl).2 in
    let L : ℕ → Type 0 = λ n. IsLeft whole turns (Awaits kinds g (access_to g v w touches.Load) x 0 n (after_line kinds g rest results) held) in
    record { more = m.0; of = await-of m.0 max m.1; due = subst L m.1 due }
  where
    await-of : (more max : ℕ) → max ≡ suc more → 0 + 1 + more ≡ max
    await-of more max is = omega (arith, is)
