-- A line gave something, or is tried again.
use Rattle.std.proofs.Common.{◌≡◌, ℕ, ◌+◌, ◌<◌, ◌≤◌, List, [], ◌∷◌, ◌++◌, length, get_or, vec_capacity, Some, None, refl, sym, ap, ◌∙◌, subst, append_assoc, arith, length-append}
use Rattle.std.specs.List.{AllByRecursion}
use Rattle.nm_base.specs.Geometry.{Geometry}
use Rattle.nm_flat.specs.declared.access.Access as flat
use Rattle.nm_view.specs.Views.{View}
use Rattle.nm_view.specs.Opening.{opening}
use Rattle.nm_part.specs.Patterns.{IsLeft}
use Rattle.nm_part.proofs.Patterns.{left-after}
use Rattle.nm_actor.specs.Turns.{Turns}
use Rattle.nm_catchup.specs.Catching.{kept_of}
use Rattle.nm_access.specs.declared.made.AccessMade.{AccessMade}
use Rattle.nm_access.specs.declared.access.Access.{Access}
use Rattle.nm_access.specs.Faults.{FaultKinds}
use Rattle.nm_access.specs.Accesses.{Accessed, IsWholeAccess}
use Rattle.nm_access.specs.Accessing.{IsAccessReady}
use Rattle.nm_access.proofs.TurnSteps.{then-append}
use Rattle.nm_script.specs.declared.script.Line.{Line}
use Rattle.nm_script.specs.declared.script.Line.TheVariants.{Load, Store, Add, Await}
use Rattle.nm_report.specs.declared.line_result.LineResult.{LineResult}
use Rattle.nm_cpu.specs.declared.actor.Processor.{Processor}
use Rattle.nm_cpu.specs.declared.made.CpuMade.{CpuMade}
use Rattle.nm_cpu.specs.Programs.{CpuEnd, IsLineOf, line_access, carried_with, IsProgramMade}
use Rattle.nm_cpu.specs.Lines.{HasLoadsLeft, line_result, IsLoadsOf, after_access, after_line, NextLeft, FollowsSoFar}
use Rattle.nm_cpu.specs.Agreeing.{geometry_of, made_program, cpu_view, accesses_of_turns, IsAtNext, IsUnderWay, HasTouched}
use Rattle.nm_cpu.proofs.Touched.{followed-some, followed-again}
use Rattle.nm_cpu.proofs.Lines.{lines-begin, left-gave, left-again}
use Rattle.nm_cpu.proofs.Opening.{first-of}

-- What the code needs.

-- the result that is next is that of a line
pub way-exists : {F : Type 0} (c : Processor F) → IsUnderWay c → length c.results.items < length (made_program c)
way-exists c w = omega (arith, ap (λ (l : List Line). length l) w.is, length-append w.done (w.line ∷ w.lines), w.as_many)

line-behind : (done lines : List Line) (line d : Line) → get_or (done ++ line ∷ lines) (length done) d ≡ line
line-behind [] lines line d = refl
line-behind (l ∷ done) lines line d = line-behind done lines line d

-- it is the line that is under way
pub way-line : {F : Type 0} (c : Processor F) (d : Line) (n : ℕ) → n ≡ length c.results.items → (w : IsUnderWay c) → get_or (made_program c) n d ≡ w.line
way-line c d n number w =
    let P : List Line → Type 0 = λ l. get_or l n d ≡ w.line in
    let N : ℕ → Type 0 = λ n. get_or (w.done ++ w.line ∷ w.lines) n d ≡ w.line in
    subst P (sym w.is) (subst N (w.as_many ∙ sym number) (line-behind w.done w.lines w.line d))

loads-left : (line : Line) (loads more : ℕ) → IsLoadsOf line loads more → HasLoadsLeft line loads
loads-left (Load v w) loads more h = tt
loads-left (Store v w x) loads more h = tt
loads-left (Add v w x) loads more h = tt
loads-left (Await v w x max) loads more h = omega (arith, h)

pub way-loads : {F : Type 0} (c : Processor F) (line d : Line) (n : ℕ) → n ≡ length c.results.items → get_or (made_program c) n d ≡ line → IsUnderWay c → HasLoadsLeft line c.loads
way-loads c line d n number at w = subst (λ (l : Line). HasLoadsLeft l c.loads) (sym (way-line c d n number w) ∙ at) (loads-left w.line c.loads w.more w.loads)

-- The access is over.

over-ready : {F M X : Type 0} (kinds : FaultKinds M X) (c : Processor F) (word : ℕ) (turns : Turns) → (t : HasTouched kinds c word turns) → IsAccessReady (geometry_of c) (kept_of c.access.cache) (cpu_view c turns)
over-ready kinds c word turns t =
    let g = geometry_of c in
    let R : View → Type 0 = λ v. IsAccessReady g (kept_of c.access.cache) v in
    let T : Turns → Type 0 = λ l. R (cpu_view c l) in
    subst T (sym t.is) (subst R (sym (then-append g (opening g c.made.number) t.front t.inner)) t.over.ready)

-- what the access came to
abbrev over-end : {F M X : Type 0} (kinds : FaultKinds M X) (c : Processor F) (word : ℕ) (turns : Turns) → HasTouched kinds c word turns → Accessed X
over-end kinds c word turns t = record { held = carried_with (kept_of c.access.cache) t.over.ends; word = word }

over-left : {F M X : Type 0} (kinds : FaultKinds M X) (c : Processor F) (word : ℕ) (turns : Turns) → (t : HasTouched kinds c word turns)
    → IsLeft (IsProgramMade kinds (geometry_of c) (made_program c)) turns (after_access kinds (geometry_of c) t.way.line c.loads t.way.more (after_line kinds (geometry_of c) t.way.lines c.results.items) (over-end kinds c word turns t))
over-left {F} {M} {X} kinds c word turns t =
    let g = geometry_of c in
    let whole = IsProgramMade kinds g (made_program c) in
    let end : Accessed X = record { held = carried_with (kept_of c.access.cache) t.over.ends; word = word } in
    let after : Accessed X → Turns → CpuEnd X → Type 0 = after_access kinds g t.way.line c.loads t.way.more (after_line kinds g t.way.lines c.results.items) in
    let A : AccessMade → Type 0 = λ m. IsWholeAccess kinds g m t.held t.inner end in
    subst (λ (l : Turns). IsLeft whole l (after end)) (sym t.is) (left-after whole t.front t.inner (IsWholeAccess kinds g (line_access g t.way.line) t.held) after end t.due (subst A t.access t.over.shown))

-- the line gave something
pub line-gave : {F M X : Type 0} (kinds : FaultKinds M X) (c d : Processor F) (line at : Line) (n word : ℕ) (result : LineResult) (turns : Turns)
    → n ≡ length c.results.items → get_or (made_program c) n at ≡ line → line_result line c.loads word ≡ Some result
    → d.made ≡ c.made → d.access ≡ c.access → d.loads ≡ 0 → d.results.items ≡ c.results.items ++ result ∷ [] → vec_capacity d.results ≡ vec_capacity c.results
    → HasTouched kinds c word turns → IsAtNext kinds d turns
line-gave {F} {M} {X} kinds c d line at n word result turns number is gives made access loads items capacity t =
    let g = geometry_of c in
    let w = t.way in
    let whole = IsProgramMade kinds g (made_program c) in
    let gives' : line_result w.line c.loads word ≡ Some result = ap (λ (l : Line). line_result l c.loads word) (sym (way-line c at n number w) ∙ is) ∙ gives in
    let program : made_program c ≡ (w.done ++ w.line ∷ []) ++ w.lines = w.is ∙ sym (append_assoc w.done (w.line ∷ []) w.lines) in
    let rest = left-gave kinds g whole turns w.line w.lines c.results.items c.loads w.more (over-end kinds c word turns t) result gives' w.loads (over-left kinds c word turns t) in
    let begins = lines-begin kinds g whole turns w.lines (c.results.items ++ result ∷ []) (carried_with (kept_of c.access.cache) t.over.ends) (behind w.done w.line w.lines g (subst (λ (l : List Line). AllByRecursion (IsLineOf g) l) w.is t.cpu.lines)) rest in
    let L : List LineResult → Type 0 = λ r. IsLeft whole turns (NextLeft kinds g w.lines r 0 begins.more (carried_with (kept_of c.access.cache) t.over.ends)) in
    let A : List flat.Access → List LineResult → Type 0 = λ l r. FollowsSoFar c.made.number (w.done ++ w.line ∷ []) w.lines r 0 l in
    let followed : A (accesses_of_turns c turns) d.results.items = subst (λ (r : List LineResult). A (accesses_of_turns c turns) r) (sym items) (subst (λ (l : List flat.Access). A l (c.results.items ++ result ∷ [])) (sym t.touched)
    (followed-some c.made.number w.done w.line w.lines c.results.items c.loads w.more word result t.list w.as_many gives' w.loads t.follows)) in
    let P : CpuMade → Access F → ℕ → Type 0 = λ m a k. IsAtNext kinds (record d { made = m; access = a; loads = k }) turns in
    let there : P c.made c.access 0 = record {
      done = w.done ++ w.line ∷ [];
      lines = w.lines;
      more = begins.more;
      between = record {
        is = program;
        as_many = length-append w.done (w.line ∷ []) ∙ (ap (λ n. n + 1) w.as_many ∙ sym (ap (λ (l : List LineResult). length l) items ∙ length-append c.results.items (result ∷ [])));
        loads = begins.of;
        follows = followed;
      };
      cpu = t.cpu;
      room = subst (λ n. length (made_program c) ≤ n) (sym capacity) w.room;
      same = t.over.same;
      ends = t.over.ends;
      counted = t.over.counted;
      ready = over-ready kinds c word turns t;
      due = subst L (sym items) begins.due;
    } in
    subst (λ (m : CpuMade). P m d.access d.loads) (sym made) (subst (λ (a : Access F). P c.made a d.loads) (sym access) (subst (λ k. P c.made c.access k) (sym loads) there))
  where
    behind : (done : List Line) (line : Line) (lines : List Line) (g : Geometry) → AllByRecursion (IsLineOf g) (done ++ line ∷ lines) → (l : Line) (rest : List Line) → lines ≡ l ∷ rest → IsLineOf g l
    behind [] line lines g all l rest is = first-of (IsLineOf g) lines all.1 l rest is
    behind (x ∷ done) line lines g all l rest is = behind done line lines g all.1 l rest is

-- the line is tried again
pub line-again : {F M X : Type 0} (kinds : FaultKinds M X) (c d : Processor F) (line at : Line) (n word : ℕ) (turns : Turns)
    → n ≡ length c.results.items → get_or (made_program c) n at ≡ line → line_result line c.loads word ≡ None → d ≡ record c { loads = c.loads + 1 } → HasTouched kinds c word turns → IsAtNext kinds d turns
line-again {F} {M} {X} kinds c d line at n word turns number is gives same t =
    let g = geometry_of c in
    let w = t.way in
    let whole = IsProgramMade kinds g (made_program c) in
    let gives' : line_result w.line c.loads word ≡ None = ap (λ (l : Line). line_result l c.loads word) (sym (way-line c at n number w) ∙ is) ∙ gives in
    let again = left-again kinds g whole turns w.line w.lines c.results.items c.loads w.more (over-end kinds c word turns t) gives' w.loads (over-left kinds c word turns t) in
    let A : List flat.Access → Type 0 = λ l. FollowsSoFar c.made.number w.done (w.line ∷ w.lines) c.results.items (c.loads + 1) l in
    subst (λ (x : Processor F). IsAtNext kinds x turns) (sym same) (record {
      done = w.done;
      lines = w.line ∷ w.lines;
      more = again.more;
      between = record {
        is = w.is;
        as_many = w.as_many;
        loads = again.of;
        follows = subst A (sym t.touched) (followed-again c.made.number w.done w.line w.lines c.results.items c.loads word t.list gives' t.follows);
      };
      cpu = t.cpu;
      room = w.room;
      same = t.over.same;
      ends = t.over.ends;
      counted = t.over.counted;
      ready = over-ready kinds c word turns t;
      due = again.due;
    })
