use Rattle.std.proofs.Common.{Bool, ◌↔◌, IsTrue, get_or, None, subst, sym, refl, ◌∙◌}
use Rattle.nm_schedule.specs.Stalls.{Yields}
use Rattle.nm_schedule.specs.Standing.{standing, IsPick}
use Rattle.nm_schedule.proofs.Noting.{picked-is, picked-there, picked-may, picks-item-so, active-after, yields-so, stands-more}
use Rattle.nm_schedule.proofs.picker.note_in.Goals as goal

pub note_flush-yields-requires : goal.note_flush-yields-requires
note_flush-yields-requires c = picked-there (standing c.args.active.now.items c.args.bumped.now.items c.args.items.now c.args.way) c.args.played.actor c.requires

pub way_after-requires : goal.way_after-requires
way_after-requires c = picked-may (standing c.args.active.now.items c.args.bumped.now.items c.args.items.now c.args.way) c.args.played.actor c.requires

pub returns : goal.returns
returns c = λ schedule actors before stands.
    let s = standing c.args.active.now.items c.args.bumped.now.items c.args.items.now c.args.way in
    let pick : IsPick schedule actors before c.args.played.actor = picked-is s c.args.played.actor schedule actors before c.requires stands in
    let Y : Bool → Type 0 = λ b. IsTrue b ↔ Yields before c.args.played in
    let active = c.deref.ensures.value ∙ active-after actors before c.args.played c.args.active.now.items c.note_end.new.active.items c.args.played.ended refl stands.active c.note_end.ensures in
    let yields = subst Y (sym c.note_flush-yields.ensures.yields) (yields-so (get_or c.args.bumped.now.items c.args.played.actor None) before c.args.played (stands.bumped c.args.played.actor pick.exists)) in
    stands-more schedule actors before c.args.played c.args.active.now.items c.note_end.new.active.items c.args.bumped.now.items c.note_flush-yields.new.bumped.items c.args.items.now c.args.way c.way_after.result
    stands pick.exists c.note_end.ensures c.note_flush-yields.ensures.bumped
    (c.way_after.ensures schedule actors before active stands.plan pick yields stands.way (picks-item-so c.args.active.now.items c.args.items.now c.args.way c.args.played.actor c.requires.same))
