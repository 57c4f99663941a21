-- The reclaimer does not end at once: it asks the processors first, so no whole sequence of it is empty.
use Rattle.std.proofs.Common.{◌≡◌, ◌<◌, ◌++◌, ℕ, zero, suc, Bool, List, [], ◌∷◌, arith, refl, sym, ◌∙◌}
use Rattle.nm_base.specs.Geometry.{Geometry}
use Rattle.nm_action.specs.Own.{Own}
use Rattle.nm_action.specs.declared.tally.Tally.{Tally}
use Rattle.nm_compose.specs.declared.or.Or.TheVariants.{This, Other}
use Rattle.nm_worker.specs.Notes.{worked}
use Rattle.nm_ended.specs.Asking.{AsksFrom}
use Rattle.nm_kswap.specs.Works.{ReclaimerWorkEnd, IsReclaimerWork, made_asking}
use Rattle.nm_kswap.specs.Reclaiming.{ReclaimerRounds, kept_at_first, IsReclaiming}

front-none : {A : Type 0} (front back : List A) → [] ≡ front ++ back → front ≡ []
front-none [] back is = refl
front-none (a ∷ front) back is = cc

worked-none : (counts : Tally) (own : Own) → [] ≡ worked counts own → own ≡ []
worked-none counts [] is = refl
worked-none counts (e ∷ own) is = cc

asks-act : (g : Geometry) (cpus : ℕ) (own : Own) (all : Bool) → 0 < cpus → own ≡ [] → ¬ AsksFrom g 0 cpus own all
asks-act g zero own all some none h = omega (arith, some)
asks-act g (suc more) own all some none h =
    let ask = front-none h.front h.back (sym none ∙ h.is) in
    let acts = sym ask ∙ h.shown.is in
    cc

asking-acts : (g : Geometry) (own : Own) (end : ReclaimerWorkEnd) → 0 < g.cpus → own ≡ [] → ¬ IsReclaimerWork (made_asking g) g own end
asking-acts g own (This all) some none h = asks-act g g.cpus own all some none h
asking-acts g own (Other end) some none h = h

rounds-act : (g : Geometry) (rounds : ℕ) (outcome : Unit {0}) → 0 < g.cpus → ¬ ReclaimerRounds g rounds kept_at_first [] outcome
rounds-act g zero outcome some h = h
rounds-act g (suc more) outcome some h =
    let none = front-none h.front h.back h.is in
    asking-acts g h.shown.own h.end some (worked-none _ h.shown.own (sym none ∙ h.shown.is)) h.shown.shown

pub reclaiming-acts : (g : Geometry) → 0 < g.cpus → (outcome : Unit {0}) → ¬ IsReclaiming g [] outcome
reclaiming-acts g some outcome h = rounds-act g h.tries outcome some h.is
