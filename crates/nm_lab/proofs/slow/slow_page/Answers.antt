use Rattle.std.proofs.Common.{Option, ℕ, subst, sym, get_or}
use Rattle.std.specs.Prelude.{IfSome}
use Rattle.nm_base.specs.Geometry.{Geometry, frame_count}
use Rattle.nm_base.specs.Ranges.{IsFrame}
use Rattle.nm_words.specs.declared.names.Where.TheVariants.{Home}
use Rattle.nm_lab.proofs.Homes.{home_frame}
use Rattle.nm_lab.proofs.slow.slow_page.Goals as goal

pub slow_frame-requires : goal.slow_frame-requires
slow_frame-requires c =
    let s = c.args.state.now in
    let most = c.geometry.ensures.kept.ranged (Home c.args.page) c.requires in
    let named = home_frame (get_or s.words.home c.args.page 0) (frame_count s.geometry) most in
    subst (λ (g : Geometry). IfSome c.home.result (IsFrame g)) (sym c.geometry.ensures.same) (subst (λ (o : Option ℕ). IfSome o (IsFrame s.geometry)) (sym c.home.ensures) named)
