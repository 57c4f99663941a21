-- That each sort of exchange is the step of the seat's actor.
use Rattle.std.proofs.Common.{◌≡◌, ℕ, ◌==◌, if◌then◌else◌, Bool, true, false, refl, sym, subst}
use prog.Atomic.{either}
use Rattle.atomic_table.specs.Table.{Me, Allows}
use Rattle.nm_base.specs.Geometry.{Geometry}
use Rattle.nm_action.specs.declared.action.Action.{Action}
use Rattle.nm_words.specs.declared.exchanges.Change.{Change}
use Rattle.nm_words.specs.Exchanges.{changed}
use Rattle.nm_rule.specs.declared.known.Knowledge.{Knowledge}
use Rattle.nm_rule.specs.Shows.{Shows}
use Rattle.nm_rule.specs.Steps.{told_of, Tells, IsExchange}
use Rattle.nm_rule.proofs.Moved.{moves}

-- at a table whose rule is that of this geometry, and an exchange that is known to be of this sort
pub moves_as : (key g : Geometry) (slots seat : ℕ) (me : Me (Unit {0}) Knowledge) (a : Action) (i : ℕ) (change sort : Change) (f : ℕ → ℕ) → key ≡ g → IsExchange g a me.0 i change → change ≡ sort → ((n : ℕ) → f n ≡ changed sort n) → Allows (Shows key) slots seat me i f (λ n after. Tells g a (told_of sort n) me after)
moves_as key g slots seat me a i change sort f keys is sorts same =
    let At : Geometry → Type 0 = λ m. Allows (Shows m) slots seat me i f (λ n after. Tells g a (told_of sort n) me after) in
    subst At (sym keys) (moves g slots seat me a i sort f (subst (IsExchange g a me.0 i) sorts is) same)

picks : (b : Bool) (x y : ℕ) → either b x y ≡ (if b then x else y)
picks true x y = refl
picks false x y = refl

-- a compare and exchange changes its word as "if it is this" says
pub compared : (old new n : ℕ) → either (n == old) new n ≡ (if n == old then new else n)
compared old new n = picks (n == old) new n
