-- A page that its operation found out of the table: every table word of it is 0, and no cache has a dirty entry of it.
use Rattle.std.proofs.Common.{◌≡◌, ◌≢◌, ℕ, Option, Some, None, IsSome, IfSome, refl, sym, ap, subst, ◌∙◌, inl, inr, arith}
use Rattle.std.specs.Int.{bit_at}
use Rattle.std.proofs.lemmas.Bool.{cases_eq, eqb-true}
use Rattle.std.proofs.lemmas.Nat.Bits.{bit_at-zero}
use Rattle.nm_base.specs.Geometry.{Geometry, backing_page}
use Rattle.nm_view.specs.declared.view.CacheEntry.{CacheEntry}
use Rattle.nm_view.specs.Lists.{find, first}
use Rattle.nm_view.specs.Views.{Op}
use Rattle.nm_view.specs.Operations.{IsUnmapped, IsTaken}
use Rattle.nm_view.proofs.Finds.{find_number}
use Rattle.nm_view.proofs.Items.{all_find, not_none}
use Rattle.nm_event.specs.Fitting.{Agrees}
use Rattle.nm_world.specs.Sights.{Sight}
use Rattle.nm_world.specs.Notions.{IsOut, IsClean, IsStanding}
use Rattle.nm_copies.specs.Facts.{IsInformed, HasStanding}

pub some_item : (found : Option (ℕ × ℕ)) → IsSome found → (p : ℕ × ℕ) × (found ≡ Some p)
some_item None h = absurd (let none : ⊥ = cc in none)
some_item (Some p) h = (p, refl)

is_taken : (found : Option (ℕ × ℕ)) (p : ℕ × ℕ) → found ≡ Some p → IsSome found
is_taken found p is = rw is cc

pub if_at : (found : Option (ℕ × ℕ)) (p : ℕ × ℕ) (P : ℕ × ℕ → Type 0) → found ≡ Some p → IfSome found P → P p
if_at found p P is h = subst (λ (o : Option (ℕ × ℕ)). IfSome o P) is h

-- a virtual page that was looked at and not taken was looked at as 0, and its word is 0
looked_out : (g : Geometry) (m : Sight) (b v : ℕ) (o : Op) (p : ℕ × ℕ) → IsUnmapped g o → IsInformed g m b o → backing_page g v ≡ Some b → find first v o.taken ≡ None → find first v o.looked ≡ Some p → m.pte v ≡ 0
looked_out g m b v o p unmapped informed of none is =
    let agrees : Agrees p.1 (m.pte v) = if_at (find first v o.looked) p (λ q. Agrees q.1 (m.pte v)) is (informed.looked v of none) in
    elim (cases_eq p.1 0) [
      | inl zero ↦ agrees.absent.0 zero
      | inr some ↦
          let taken : IsTaken o.taken p.0 = all_find first v (λ q. q.1 ≢ 0 → IsTaken o.taken q.0) o.looked p unmapped.taken is some in
          let here : IsTaken o.taken v = subst (IsTaken o.taken) (find_number first v o.looked p is) taken in
          let q = some_item (find first v o.taken) here in
          absurd (not_none q.0 (sym none ∙ q.1))
    ]

emptied_at : (g : Geometry) (m : Sight) (b v : ℕ) (o : Op) (found : Option (ℕ × ℕ)) → find first v o.taken ≡ found → IsUnmapped g o → IsInformed g m b o → backing_page g v ≡ Some b → m.pte v ≡ 0
emptied_at g m b v o (Some p) is unmapped informed of = informed.taken v of (is_taken (find first v o.taken) p is)
emptied_at g m b v o None is unmapped informed of =
    let p = some_item (find first v o.looked) (unmapped.over v (of ∙ ap Some (sym informed.page))) in
    looked_out g m b v o p.0 unmapped informed of is p.1

pub emptied : (g : Geometry) (m : Sight) (b : ℕ) (o : Op) → IsUnmapped g o → IsInformed g m b o → IsOut g m.pte b
emptied g m b o unmapped informed v of = emptied_at g m b v o (find first v o.taken) refl unmapped informed of

-- an entry that stands on a table word has one that is not 0
pub standing_some : (word : ℕ) (e : CacheEntry) → IsStanding word e → word ≡ 0 → ⊥
standing_some word e stands none =
    let one : bit_at word 0 ≡ 1 = eqb-true (bit_at word 0) 1 stands.present in
    let zero : bit_at word 0 ≡ 0 = ap (λ n. bit_at n 0) none ∙ bit_at-zero 0 in
    omega (arith, one, zero)

pub uncached : (g : Geometry) (m : Sight) (a b : ℕ) (o : Op) → m.op a b ≡ Some o → IsUnmapped g o → IsInformed g m b o → HasStanding g m → IsClean g m.entry b
uncached g m a b o here unmapped informed standing c v e of is =
    absurd (standing_some (m.pte v) e (standing.stands a b o here unmapped.flushed c v e of is) (emptied g m b o unmapped informed v of))
