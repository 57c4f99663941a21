-- The lock law where one operation is edited, and perhaps one word of its page written.
use Rattle.std.proofs.Common.{◌≡◌, ◌≢◌, ℕ, ◌+◌, Bool, true, List, Option, Some, None, IsSome, refl, sym, ap, subst, ◌∙◌, inl, inr, arith}
use Rattle.std.specs.Prelude.{option_map}
use Rattle.std.proofs.lemmas.Bool.{cases_eq, cases_lt}
use Rattle.nm_base.specs.Geometry.{Geometry, backing_page}
use Rattle.nm_view.specs.Lists.{find, first}
use Rattle.nm_view.specs.Views.{Op}
use Rattle.nm_view.specs.Opening.{opening}
use Rattle.nm_view.specs.Operations.{page_of, op_on}
use Rattle.nm_view.proofs.Items.{all_find, some_same, not_none}
use Rattle.nm_view.proofs.Finds.{find_number}
use Rattle.nm_event.specs.Fitting.{Agrees}
use Rattle.nm_shape.specs.Keyed.{IsOpKeyed, AreOwnPages}
use Rattle.nm_shape.specs.Shape.{IsOpShaped}
use Rattle.nm_world.specs.Worlds.{World, pte_at, home_at, shadow_at, lock_at, op_at}
use Rattle.nm_world.specs.Parts.{Lore, lore_of, lore_at}
use Rattle.nm_world.specs.Sights.{WritesOne, Sets}
use Rattle.nm_world.specs.ShapeLaw.{ShapeLaw}
use Rattle.nm_world.specs.LockLaw.{IsTrueOp, IsStaged, LockLaw}
use Rattle.nm_world.proofs.Moves.{each_op, sole_op}
use Rattle.nm_locks.proofs.Still.{locks_still, KeepsTurns, turns_still, least_still}
use Rattle.nm_world.proofs.Options.{if_more}

abbrev pub present : Op → Bool
present o = true

mapped_some : (found : Option Op) (p : Lore) → option_map lore_of found ≡ Some p → (o : Op) × ((found ≡ Some o) × (lore_of o ≡ p))
mapped_some None p is = absurd (not_none p is)
mapped_some (Some o) p is = (o, (refl, some_same (lore_of o) p is))

-- what holds of each operation's part holds of each part
pub by_op : (m : World) (P : ℕ → ℕ → Lore → Type 0) → ((c j : ℕ) (o : Op) → op_at m c j ≡ Some o → P c j (lore_of o)) → (c j : ℕ) (p : Lore) → lore_at m c j ≡ Some p → P c j p
by_op m P each c j p is = let o = mapped_some (op_at m c j) p is in subst (P c j) o.1.1 (each c j o.0 o.1.0)

-- what holds of each part holds of an operation's
pub op_lore : (m : World) (c j : ℕ) (o : Op) → op_at m c j ≡ Some o → lore_at m c j ≡ Some (lore_of o)
op_lore m c j o is = ap (option_map lore_of) is

-- an edit leaves who has operations on which pages
has_set : (op after : ℕ → ℕ → Option Op) (a b : ℕ) (o x : Op) → Sets op after a b (Some x) → op a b ≡ Some o → (c j : ℕ) → option_map present (after c j) ≡ option_map present (op c j)
has_set op after a b o x sets here c j =
    elim (cases_eq c a) [
      | inl actor ↦ elim (cases_eq j b) [
        | inl page ↦ rw (actor, page, sets.here, here) refl
        | inr other ↦ rw (actor, sets.rest j other) refl
      ]
      | inr other ↦ rw (sets.others c j other) refl
    ]

-- an operation's numbers are in range, it is shaped, and its page is the one under which it is found
pub record IsFound (g : Geometry) (j : ℕ) (o : Op) : Type 0 where
  pub keyed : IsOpKeyed g o
  pub shaped : IsOpShaped g o
  pub page : o.page ≡ j

pub found_op : (g : Geometry) (m : World) (c j : ℕ) (o : Op) → ShapeLaw g m → op_at m c j ≡ Some o → IsFound g j o
found_op g m c j o shape is =
    elim (cases_lt c (g.cpus + 2)) [
      | inl there ↦
          let view = shape.shape c there in
          record {
            keyed = all_find page_of j (IsOpKeyed g) (m.view c).ops o view.keyed.ops is;
            shaped = all_find page_of j (IsOpShaped g) (m.view c).ops o view.ops is;
            page = find_number page_of j (m.view c).ops o is;
          }
      | inr past ↦
          let nobody : m.view c ≡ opening g c = shape.nobody c (λ is. omega (arith, is, past)) in
          absurd (not_none o (sym (ap (λ v. op_on v j) nobody) ∙ is))
    ]

-- an item of a list by virtual pages of a page is of this page
own_item : (g : Geometry) (page v : ℕ) (pairs : List (ℕ × ℕ)) (p : ℕ × ℕ) → AreOwnPages g page pairs → find first v pairs ≡ Some p → backing_page g v ≡ Some page
own_item g page v pairs p own is =
    let of : backing_page g p.0 ≡ Some page = all_find first v (λ p. backing_page g p.0 ≡ Some page) pairs p own.own is in
    ap (backing_page g) (sym (find_number first v pairs p is)) ∙ of

pub some_item : (found : Option (ℕ × ℕ)) → IsSome found → (p : ℕ × ℕ) × (found ≡ Some p)
some_item None h = absurd (let none : ⊥ = cc in none)
some_item (Some p) h = (p, refl)

-- a write of the table word of a page leaves what operations on other pages know
pub page_other : (g : Geometry) (m m' : World) (b v x : ℕ) → backing_page g v ≡ Some b → WritesOne (pte_at m) (pte_at m') v x → ((c : ℕ) → home_at m' c ≡ home_at m c) → ((k : ℕ) → shadow_at m' k ≡ shadow_at m k) → ShapeLaw g m → (c j : ℕ) (o : Op) → j ≢ b → op_at m c j ≡ Some o → IsTrueOp m j (lore_of o) → IsTrueOp m' j (lore_of o)
page_other g m m' b v x of writes home shadow shape c j o other is h =
    let found = found_op g m c j o shape is in
    let Apart : ℕ → Type 0 = λ u. backing_page g u ≡ Some o.page → pte_at m' u ≡ pte_at m u in
    let apart : (u : ℕ) → Apart u = λ u own. writes.rest u (λ same. other (sym found.page ∙ some_same o.page b (sym own ∙ ap (backing_page g) same ∙ of))) in
    record {
      home = if_more o.home _ _ (λ y _ at. at ∙ sym (home j)) h.home;
      shadow = if_more o.shadow _ _ (λ y _ known f at. known f (sym (home j) ∙ at) ∙ sym (shadow f)) h.shadow;
      taken = λ u there.
          let p = some_item (find first u o.taken) there in
          apart u (own_item g o.page u o.taken p.0 found.keyed.taken p.1) ∙ h.taken u there;
      looked = λ u none. if_more (find first u o.looked) _ _ (λ p at agrees. subst (Agrees p.1) (sym (apart u (own_item g o.page u o.looked p found.keyed.looked at))) agrees) (h.looked u none);
    }

-- one operation is edited: what it knows afterwards is so, it has come so far, and what the operations on other pages know
-- stays so
pub lock_edit : (g : Geometry) (m m' : World) (a b : ℕ) (o x : Op) → Sets (op_at m) (op_at m') a b (Some x) → op_at m a b ≡ Some o → ((c : ℕ) → lock_at m' c ≡ lock_at m c) → KeepsTurns g m m' → ((c j : ℕ) (p : Op) → j ≢ b → op_at m c j ≡ Some p → IsTrueOp m j (lore_of p) → IsTrueOp m' j (lore_of p)) → IsTrueOp m' b (lore_of x) → IsStaged g (lore_of x) → LockLaw g m → LockLaw g m'
lock_edit g m m' a b o x sets here lock turns others own stage h =
    let sole = sole_op g m a b o h here in
    record {
      locks = locks_still present g m m' lock (has_set (op_at m) (op_at m') a b o x sets here) h;
      turns = turns_still g m m' turns h;
      known = by_op m' (λ c j p. IsTrueOp m' j p) (each_op (λ c j p. IsTrueOp m' j (lore_of p)) (op_at m) (op_at m') a b x sets sole own
          (λ c j p other is. others c j p other is (h.known c j (lore_of p) (op_lore m c j p is))));
      least = least_still g m m' turns h;
      staged = by_op m' (λ c j p. IsStaged g p) (each_op (λ c j p. IsStaged g (lore_of p)) (op_at m) (op_at m') a b x sets sole stage
          (λ c j p other is. h.staged c j (lore_of p) (op_lore m c j p is)));
    }
