-- The view along a shootdown.
use Rattle.std.proofs.Common.{◌≡◌, ℕ, zero, suc, ◌+◌, ◌^◌, inl, inr, nat_le, if◌then◌else◌, Bool, true, false, List, [], ◌∷◌, ◌++◌, Option, Some, None, IfSome, length, map, All, refl, sym, ap, ◌∙◌, arith}
use Rattle.std.proofs.lemmas.Bool.{cases_lt}
use Rattle.std.proofs.lemmas.List.{map-id}
use Rattle.std.proofs.lemmas.Simd.{map-map}
use Rattle.std.proofs.lemmas.Nat.Bits.{bit_at_or, bit_at-pow_same, bit_at-lt}
use Rattle.std.specs.Int.{bit_at}
use Rattle.std.specs.Prelude.{bit_or}
use Rattle.nm_base.specs.Geometry.{Geometry}
use Rattle.nm_view.specs.Views.{Op, View}
use Rattle.nm_view.specs.Operations.{AreSeen}
use Rattle.nm_event.specs.After.{seen_with, seen_at, bumped_to, view_after}
use Rattle.nm_action.specs.Own.{Own}
use Rattle.nm_part.proofs.OwnLemmas.{view-append}
use Rattle.nm_shoot.specs.Shootdown.{asked, asked_from, IsAnswered, IsShootdown}
use Rattle.nm_shoot.specs.Flushed.{IsFlushOf, IsFlushed}

-- the processors seen, for a flush, after processor p gave these words
abbrev pub seen_by : Option ℕ → ℕ → List ℕ → ℕ → ℕ
seen_by f p [] s = s
seen_by f p (w ∷ ws) s = seen_by f p ws (seen_with f p w s)

abbrev pub seen_from : Option ℕ → ℕ → List (List ℕ) → ℕ → ℕ
seen_from f p [] s = s
seen_from f p (ws ∷ wss) s = seen_from f (p + 1) wss (seen_by f p ws s)

-- an operation after one processor, and after all from p on
abbrev pub asked_op : ℕ → List ℕ → Op → Op
asked_op p ws o = record o { seen = seen_by o.flush p ws o.seen }

abbrev pub answered_op : ℕ → List (List ℕ) → Op → Op
answered_op p wss o = record o { seen = seen_from o.flush p wss o.seen }

view-asked : (g : Geometry) (v : View) (p : ℕ) (ws : List ℕ) → view_after g v (asked p ws) ≡ record v { ops = map (asked_op p ws) v.ops }
view-asked g v p [] = ap (λ (ops : List Op). record v { ops = ops }) (sym (map-id v.ops))
view-asked g v p (w ∷ ws) = view-asked g (record v { ops = map (seen_at p w) v.ops }) p ws ∙ ap (λ (ops : List Op). record v { ops = ops }) (map-map (asked_op p ws) (seen_at p w) v.ops)

view-answered : (g : Geometry) (v : View) (p : ℕ) (wss : List (List ℕ)) → view_after g v (asked_from p wss) ≡ record v { ops = map (answered_op p wss) v.ops }
view-answered g v p [] = ap (λ (ops : List Op). record v { ops = ops }) (sym (map-id v.ops))
view-answered g v p (ws ∷ wss) =
    view-append g v (asked p ws) (asked_from (p + 1) wss)
    ∙ ap (λ (x : View). view_after g x (asked_from (p + 1) wss)) (view-asked g v p ws)
    ∙ view-answered g (record v { ops = map (asked_op p ws) v.ops }) (p + 1) wss
    ∙ ap (λ (ops : List Op). record v { ops = ops }) (map-map (answered_op (p + 1) wss) (asked_op p ws) v.ops)

-- Bits of the processors seen.

with_go : (b : Bool) (p s q : ℕ) → bit_at s q ≡ 1 → bit_at (if b then bit_or s (2 ^ p) else s) q ≡ 1
with_go true p s q h = let e = bit_at_or s (2 ^ p) q in let l = bit_at-lt (2 ^ p) q in omega (arith, e, l, h)
with_go false p s q h = h

with-kept : (f : Option ℕ) (p w s q : ℕ) → bit_at s q ≡ 1 → bit_at (seen_with f p w s) q ≡ 1
with-kept None p w s q h = h
with-kept (Some n) p w s q h = with_go (nat_le n w) p s q h

by-kept : (f : Option ℕ) (p : ℕ) (ws : List ℕ) (s q : ℕ) → bit_at s q ≡ 1 → bit_at (seen_by f p ws s) q ≡ 1
by-kept f p [] s q h = h
by-kept f p (w ∷ ws) s q h = by-kept f p ws (seen_with f p w s) q (with-kept f p w s q h)

from-kept : (f : Option ℕ) (p : ℕ) (wss : List (List ℕ)) (s q : ℕ) → bit_at s q ≡ 1 → bit_at (seen_from f p wss s) q ≡ 1
from-kept f p [] s q h = h
from-kept f p (ws ∷ wss) s q h = from-kept f (p + 1) wss (seen_by f p ws s) q (by-kept f p ws s q h)

seen-kept : (k s t : ℕ) → ((q : ℕ) → bit_at s q ≡ 1 → bit_at t q ≡ 1) → AreSeen k s → AreSeen k t
seen-kept k s t keep h = λ q lt. keep q (h q lt)

by-append : (f : Option ℕ) (p : ℕ) (a b : List ℕ) (s : ℕ) → seen_by f p (a ++ b) s ≡ seen_by f p b (seen_by f p a s)
by-append f p [] b s = refl
by-append f p (w ∷ a) b s = by-append f p a b (seen_with f p w s)

last_go : (b : Bool) (p s : ℕ) → b ≡ true → bit_at (if b then bit_or s (2 ^ p) else s) p ≡ 1
last_go true p s e = let o = bit_at_or s (2 ^ p) p in let i = bit_at-pow_same p in let l = bit_at-lt s p in omega (arith, o, i, l)
last_go false p s e = cc

by-last : (n p : ℕ) (ws : List ℕ) (s : ℕ) → IsAnswered n ws → bit_at (seen_by (Some n) p ws s) p ≡ 1
by-last n p ws s a = rw (a.is, by-append (Some n) p a.early (a.last ∷ []) s) (last_go (nat_le n a.last) p (seen_by (Some n) p a.early s) (grind (arith, a.enough)))

seen-more : (p s : ℕ) → bit_at s p ≡ 1 → AreSeen p s → AreSeen (p + 1) s
seen-more p s b h = λ q lt. elim (cases_lt q p) [ inl l ↦ h q l | inr ge ↦ let e : q ≡ p = omega (arith, lt, ge) in rw e b ]

from-seen : (n p : ℕ) (wss : List (List ℕ)) (s : ℕ) → All (IsAnswered n) wss → AreSeen p s → AreSeen (p + length wss) (seen_from (Some n) p wss s)
from-seen n p [] s a h = λ q lt. h q (omega (arith, lt))
from-seen n p (ws ∷ wss) s a h =
    let t : ℕ = seen_by (Some n) p ws s in
    let one = seen-more p t (by-last n p ws s (a zero ws (omega arith))) (seen-kept p s t (by-kept (Some n) p ws s) h) in
    let rest = from-seen n (p + 1) wss t (λ i d lt. a (suc i) d (omega arith)) one in
    λ q lt. rest q (omega (arith, lt))

-- Operations.

due_go : (g : Geometry) (n : ℕ) (wss : List (List ℕ)) (due : Bool) (flush : Option ℕ) (seen : ℕ) → length wss ≡ g.cpus → All (IsAnswered n) wss → due ≡ true
    → IfSome (if due then Some n else flush) (λ _. AreSeen g.cpus (seen_from (if due then Some n else flush) 0 wss (if due then 0 else seen)))
due_go g n wss true flush seen l a e = let all = from-seen n 0 wss 0 a (λ q lt. omega (arith, lt)) in λ q lt. all q (omega (arith, lt, l))
due_go g n wss false flush seen l a e = cc

kept_some : (g : Geometry) (flush : Option ℕ) (wss : List (List ℕ)) (seen : ℕ) → IfSome flush (λ _. AreSeen g.cpus seen) → IfSome flush (λ _. AreSeen g.cpus (seen_from flush 0 wss seen))
kept_some g None wss seen h = h
kept_some g (Some f) wss seen h = seen-kept g.cpus seen (seen_from (Some f) 0 wss seen) (from-kept (Some f) 0 wss seen) h

kept_go : (g : Geometry) (n : ℕ) (wss : List (List ℕ)) (due : Bool) (flush : Option ℕ) (seen : ℕ) → due ≡ false → IfSome flush (λ _. AreSeen g.cpus seen)
    → IfSome (if due then Some n else flush) (λ _. AreSeen g.cpus (seen_from (if due then Some n else flush) 0 wss (if due then 0 else seen)))
kept_go g n wss true flush seen e h = cc
kept_go g n wss false flush seen e h = kept_some g flush wss seen h

flush-of : (g : Geometry) (n : ℕ) (wss : List (List ℕ)) (o : Op) → length wss ≡ g.cpus → All (IsAnswered n) wss → IsFlushOf g n o (answered_op 0 wss (bumped_to n o))
flush-of g n wss o l a = record {
  same = refl;
  flush = refl;
  due = λ d. record { made = refl; seen = due_go g n wss o.due o.flush o.seen l a d };
  kept = λ h. record { made = refl; seen = kept_go g n wss o.due o.flush o.seen h.made h.seen };
}

-- a shootdown flushes the view in which it began
pub flushed : (g : Geometry) (v : View) (cpus number : ℕ) (own : Own) → cpus ≡ g.cpus → IsShootdown cpus own number → IsFlushed g v number (view_after g v own)
flushed g v cpus number own e h = record {
  flushed = λ o. answered_op 0 h.words (bumped_to number o);
  is = rw (h.is, h.drawn) (view-answered g (record v { bumps = v.bumps + 1; ops = map (bumped_to (h.old + 1)) v.ops }) 0 h.words ∙ ap (λ (ops : List Op). record v { bumps = v.bumps + 1; ops = ops }) (map-map (answered_op 0 h.words) (bumped_to (h.old + 1)) v.ops));
  each = λ o. flush-of g number h.words o (h.each ∙ e) h.answered;
}
