-- The processors of a script are those that a simulation begins with.
use Rattle.std.proofs.Common.{◌≡◌, ◌<◌, ℕ, zero, suc, List, [], ◌∷◌, ◌++◌, length, map, get_or, sym, ap, subst, ◌∙◌, inl, inr, arith}
use Rattle.std.specs.List.{AllByRecursion}
use Rattle.std.proofs.lemmas.List.{get_or_append_left, get_or-map, length-map}
use Rattle.std.proofs.Math.Seq.{get_or-append_seam}
use Rattle.std.proofs.lemmas.Bool.{cases_eq}
use Rattle.nm_base.specs.Geometry.{Geometry}
use Rattle.nm_script.specs.declared.script.Line.{Line}
use Rattle.nm_script.specs.declared.script.Line.TheVariants.{Load, Store, Add, Await}
use Rattle.nm_script.specs.Plain.{Script}
use Rattle.nm_script.specs.Script.{IsAccess, IsScript}
use Rattle.nm_schedule.proofs.Snoc.{length-snoc}
use Rattle.nm_cpu.specs.Programs.{IsLineOf, IsCpu}
use Rattle.nm_crew.specs.Crewed.{AtEach}
use Rattle.nm_programs.specs.Cpus.{program_of}

-- ---- programs

line-of : (g : Geometry) (line : Line) → IsAccess g line → IsLineOf g line
line-of g (Load v w) is = is
line-of g (Store v w x) is = (is.0, is.1)
line-of g (Add v w x) is = (is.0, is.1)
line-of g (Await v w x max) is = (is.0, is.1, is.3)

lines-of : (g : Geometry) (lines : List Line) → AllByRecursion (IsAccess g) lines → AllByRecursion (IsLineOf g) lines
lines-of g [] all = tt
lines-of g (line ∷ lines) all = (line-of g line all.0, lines-of g lines all.1)

at-place : {A : Type 0} (P : A → Type 0) (list : List A) (i : ℕ) (d : A) → AllByRecursion P list → i < length list → P (get_or list i d)
at-place P [] i d all lt = absurd (omega (arith, lt))
at-place P (a ∷ list) zero d all lt = all.0
at-place P (a ∷ list) (suc i) d all lt = at-place P list i d all.1 (omega (arith, lt))

-- a processor of a script and its program are ones of its machine
pub cpu-of : (script : Script) (cpu : ℕ) (program : List Line) → IsScript script → cpu < script.geometry.cpus → program ≡ program_of script cpu → IsCpu script.geometry cpu program
cpu-of script cpu program is lt same =
    let Lines : List Line → Type 0 = λ l. AllByRecursion (IsLineOf script.geometry) l in
    record {
      geometry = is.geometry;
      exists = lt;
      lines = subst Lines (sym same) (lines-of script.geometry (program_of script cpu) (at-place (λ p. AllByRecursion (IsAccess script.geometry) p) script.programs cpu [] is.lines (omega (arith, lt, is.programs))));
    }

-- ---- one processor more

pub each-more : {C : Type 0} (said : ℕ → C → Type 0) (cpus : List C) (c : C) → AtEach said cpus → said (length cpus) c → AtEach said (cpus ++ c ∷ [])
each-more said cpus c each is place d lt = elim (cases_eq place (length cpus)) [
  | inl e ↦ (
      let At : ℕ → Type 0 = λ i. said i (get_or (cpus ++ c ∷ []) i d) in
      let Is = said (length cpus) in
      subst At (sym e) (subst Is (sym (get_or-append_seam cpus c [] d)) is))
  | inr n ↦ (
      let before : place < length cpus = omega (arith, lt, length-snoc cpus c, n) in
      let Is = said place in
      subst Is (sym (get_or_append_left cpus (c ∷ []) d place before)) (each place d before))
]

-- ---- a program

pub program-at : {V : Type 0} (lines : V → List Line) (programs : List V) (script : Script) (cpu : ℕ) (d : V) (program : List Line)
    → map lines programs ≡ script.programs → cpu < length script.programs → program ≡ lines (get_or programs cpu d) → program ≡ program_of script cpu
program-at lines programs script cpu d program are lt is =
    is ∙ sym (get_or-map lines programs cpu d [] (omega (arith, lt, ap length are, length-map programs lines))) ∙ ap (λ l. get_or l cpu []) are
