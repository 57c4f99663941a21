use Rattle.std.proofs.Common.{ℕ, [], ◌∷◌, ◌++◌, subst, sym}
use Rattle.nm_schedule.specs.declared.picker.Way.{Way}
use Rattle.nm_schedule.specs.Standing.{IsOnWay, IsDrawing}
use Rattle.nm_schedule.proofs.Noting.{stay-after, next-after, draw-after}
use Rattle.nm_schedule.proofs.picker.way_after.Goals as goal

pub returns-in-Stay : goal.returns-in-Stay
returns-in-Stay c = λ schedule actors before active plan pick y on item.
    let W : Way → Type 0 = λ w. IsOnWay schedule actors c.args.items.now w before in
    let R : Way → Type 0 = λ w. IsOnWay schedule actors c.args.items.now w (before ++ c.args.played ∷ []) in
    subst R (sym c.way_after_turn.ensures) (stay-after schedule actors c.in-Stay.field-0 c.args.items.now before c.args.played c.args.yields (subst W c.in-Stay.is on) pick y)

pub returns-in-Next : goal.returns-in-Next
returns-in-Next c = λ schedule actors before active plan pick y on item.
    let W : Way → Type 0 = λ w. IsOnWay schedule actors c.args.items.now w before in
    let R : Way → Type 0 = λ w. IsOnWay schedule actors c.args.items.now w (before ++ c.args.played ∷ []) in
    subst R (sym c.way_after_turn-in-Next.ensures) (next-after schedule actors c.in-Next.field-0 c.args.items.now before c.args.played c.args.yields (subst W c.in-Next.is on) pick y)

pub returns-in-Draw : goal.returns-in-Draw
returns-in-Draw c = λ schedule actors before active plan pick y on item.
    let W : Way → Type 0 = λ w. IsOnWay schedule actors c.args.items.now w before in
    let D : ℕ → Type 0 = λ x. IsDrawing schedule x (before ++ c.args.played ∷ []) in
    subst D (sym c.next.ensures) (draw-after schedule c.in-Draw.x before c.args.played (subst W c.in-Draw.is on))
