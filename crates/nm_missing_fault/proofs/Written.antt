-- The word that maps v.
use Rattle.std.proofs.Common.{◌≡◌, ℕ, ◌^◌, ◌<◌, ◌≤◌, ◌==◌, ◌&&◌, not, Bool, true, false, Option, Some, None, IsTrue, refl, sym, ap, ◌∙◌, inr, arith}
use Rattle.nm_base.specs.Geometry.{Geometry, IsWritable, tier_of, vpage_at, frame_count}
use Rattle.nm_base.specs.HomeWord.{home_word}
use Rattle.nm_base.specs.declared.geometry.VPage.{VPage}
use Rattle.nm_view.specs.Views.{View}
use Rattle.nm_permit.specs.Permitted.{MayMap, IsWordNew}
use Rattle.nm_shadow_fault.specs.declared.fault.FaultMade.{FaultMade}
use Rattle.nm_shadow_fault.proofs.Granting.{same-number}
use Rattle.nm_transfer.proofs.Written.{written-frame, written-writable, written-dirty, written-saved, written-present}
use Rattle.nm_missing_fault.specs.MissingFault.{vpage_writable, missing_word}
use Rattle.nm_missing_fault.specs.Stages.{homed_op, IsAtMap}

left-true : (a b : Bool) → IsTrue (a && b) → IsTrue a
left-true true b h = refl
left-true false b h = cc h

right-true : (a b : Bool) → IsTrue (a && b) → IsTrue b
right-true true b h = h
right-true false b h = cc h

-- what is decided is what is meant
right-there : (p : Option VPage) (g : Geometry) (v : ℕ) → vpage_at g v ≡ p → IsTrue (vpage_writable g v) → IsWritable g v
right-there None g v is h = let none : false ≡ true = rw is at h in cc
right-there (Some p) g v is h = rw is (rw is at h)

unshaded : (shadow : ℕ) (shadowed : Bool) → shadowed ≡ not (shadow == 0) → IsTrue (not shadowed) → shadow ≡ 0
unshaded shadow true is h = cc h
unshaded shadow false is h = grind arith

-- the word may be mapped
pub may-map : (made : FaultMade) (frame : ℕ) (shadowed : Bool) (g : Geometry) (first now : View) (at : IsAtMap made frame shadowed g first now)
    → MayMap g made.vpage (missing_word g made.vpage frame shadowed) (homed_op made first 0 frame (Some at.shadow) at.moved)
may-map made frame shadowed g first now at =
    let few : frame_count g ≤ 4096 = at.may.geometry.ranges.1.3 in
    let narrow : frame < 2 ^ 32 = omega (arith, few, at.frame_is) in
    let h : Bool = not (tier_of g frame == 0) in
    let r : Bool = vpage_writable g made.vpage in
    let w : Bool = r && not shadowed in
    let s : Bool = r && shadowed in
    let word : ℕ = missing_word g made.vpage frame shadowed in
    let fits : IsWordNew g made.vpage word (homed_op made first 0 frame (Some at.shadow) at.moved) = record {
      present = written-present frame h w false false s narrow;
      home = ap (λ (n : ℕ). Some (home_word n)) (sym (written-frame frame h w false false s narrow));
      vacant = inr (record { looked = rw (same-number made.vpage) refl; there = refl });
      writable = λ t. right-there (vpage_at g made.vpage) g made.vpage refl (left-true r (not shadowed) (sym (written-writable frame h w false false s) ∙ t));
      unshadowed = λ t. ap (λ (n : ℕ). Some n) (unshaded at.shadow shadowed at.known (right-true r (not shadowed) (sym (written-writable frame h w false false s) ∙ t)));
      saved = λ t. right-there (vpage_at g made.vpage) g made.vpage refl (left-true r shadowed (sym (written-saved frame h w false false s) ∙ t));
      dirty = λ t. let none : false ≡ true = sym (written-dirty frame h w false false s) ∙ t in cc;
    } in
    record {
      phase = λ e. cc e;
      flushed = record { made = refl; seen = tt };
      fits = inr fits;
      back = λ t. cc t;
      dirty = λ t. cc t;
    }
