-- The geometry is not refused.
use Rattle.std.proofs.Common.{◌≡◌, [], ◌∷◌, map, Err, ap, subst, rules}
use Rattle.std.specs.List.{range_with_len}
use Rattle.nm_base.specs.Geometry.{IsFirstOutside, IsCrowded, made}
use Rattle.nm_gen.specs.Generated.{one_to_one}
use Rattle.nm_gen.proofs.Valid.{not_outside, not_crowded}
use Rattle.nm_gen.proofs.random.make_geometry.Goals as goal

pub unreachable-requires : goal.unreachable-requires
unreachable-requires c =
    let items : c.deref.result.now ≡ map one_to_one (range_with_len 0 240) = search rules in
    let h = (c.in-Err-OutOfRange.ensures.outside c.in-Err-OutOfRange.field-0-0).0 (ap (λ e. Err e) c.in-Err-OutOfRange.field-0-is) in
    not_outside c.in-Err-OutOfRange.field-0-0 (subst (λ vs. IsFirstOutside (made 512 (64 ∷ 256 ∷ []) 4 vs) c.in-Err-OutOfRange.field-0-0) items h)

pub unreachable-requires-in-Err-TooManyPages : goal.unreachable-requires-in-Err-TooManyPages
unreachable-requires-in-Err-TooManyPages c =
    let items : c.deref.result.now ≡ map one_to_one (range_with_len 0 240) = search rules in
    let h = (c.in-Err-TooManyPages.ensures.crowded c.in-Err-TooManyPages.field-0-0).0 (ap (λ e. Err e) c.in-Err-TooManyPages.field-0-is) in
    not_crowded c.in-Err-TooManyPages.field-0-0 (subst (λ vs. IsCrowded (made 512 (64 ∷ 256 ∷ []) 4 vs) c.in-Err-TooManyPages.field-0-0) items h)
