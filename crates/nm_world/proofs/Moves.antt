-- What holds of each operation after one was changed; the operation that a permission names; who holds a page.
use Rattle.std.proofs.Common.{◌≡◌, ◌≢◌, ℕ, ◌+◌, Option, Some, None, IsSome, IsSomeAnd, refl, sym, ap, subst, ◌∙◌, ◌⊎◌, inl, inr, arith}
use Rattle.std.specs.Prelude.{option_map}
use Rattle.std.proofs.lemmas.Bool.{cases_eq}
use Rattle.nm_base.specs.Geometry.{Geometry, backing_page}
use Rattle.nm_view.specs.Views.{Op, View}
use Rattle.nm_view.specs.Operations.{op_on, op_under, op_of}
use Rattle.nm_view.proofs.Items.{some_same, not_none}
use Rattle.nm_world.specs.Worlds.{World, op_at, lock_at}
use Rattle.nm_world.specs.Sights.{Sets}
use Rattle.nm_world.specs.LockLaw.{LockLaw}
use Rattle.nm_world.proofs.Options.{some_and}

-- nobody but one actor has something on page b
abbrev pub IsSole : {A : Type 0} → (ℕ → ℕ → Option A) → ℕ → ℕ → Type 0
IsSole {A} op a b = (c : ℕ) (p : A) → op c b ≡ Some p → c ≡ a

-- what holds of the changed item, and of each as it was of another actor or on another page, holds of each
pub edited : {A : Type 0} (P : ℕ → ℕ → A → Type 0) (op after : ℕ → ℕ → Option A) (a b : ℕ) (o : A) → Sets op after a b (Some o) → P a b o → ((c j : ℕ) (p : A) → (c ≢ a) ⊎ (j ≢ b) → op c j ≡ Some p → P c j p) → (c j : ℕ) (p : A) → after c j ≡ Some p → P c j p
edited P op after a b o sets own rest c j p is =
    elim (cases_eq c a) [
      | inl actor ↦ elim (cases_eq j b) [
        | inl page ↦
            let at : after a b ≡ Some p = subst (λ (n : ℕ). after n b ≡ Some p) actor (subst (λ (n : ℕ). after c n ≡ Some p) page is) in
            let same : o ≡ p = some_same o p (sym sets.here ∙ at) in
            let Q : ℕ → Type 0 = λ n. P n j p in
            let R : ℕ → Type 0 = λ n. P a n p in
            subst Q (sym actor) (subst R (sym page) (subst (P a b) same own))
        | inr other ↦
            let at : after a j ≡ Some p = subst (λ (n : ℕ). after n j ≡ Some p) actor is in
            let before : op c j ≡ Some p = subst (λ (n : ℕ). op n j ≡ Some p) (sym actor) (sym (sets.rest j other) ∙ at) in
            rest c j p (inr other) before
      ]
      | inr other ↦ rest c j p (inl other) (sym (sets.others c j other) ∙ is)
    ]

-- the same, where nobody else has something on the page: of the others only those on other pages are asked for
pub each_op : {A : Type 0} (P : ℕ → ℕ → A → Type 0) (op after : ℕ → ℕ → Option A) (a b : ℕ) (o : A) → Sets op after a b (Some o) → IsSole op a b → P a b o → ((c j : ℕ) (p : A) → j ≢ b → op c j ≡ Some p → P c j p) → (c j : ℕ) (p : A) → after c j ≡ Some p → P c j p
each_op P op after a b o sets sole own rest =
    edited P op after a b o sets own (λ c j p apart is. elim (cases_eq j b) [
      | inl page ↦
          let holder : c ≡ a = sole c p (subst (λ (n : ℕ). op c n ≡ Some p) page is) in
          elim apart [ inl other ↦ absurd (other holder) | inr away ↦ absurd (away page) ]
      | inr away ↦ rest c j p away is
    ])

-- where an item goes, each that is left was there before, of another actor or on another page
pub gone : {A : Type 0} (op after : ℕ → ℕ → Option A) (a b : ℕ) → Sets op after a b None → (c j : ℕ) (p : A) → after c j ≡ Some p → ((c ≢ a) ⊎ (j ≢ b)) × (op c j ≡ Some p)
gone op after a b sets c j p is =
    elim (cases_eq c a) [
      | inl actor ↦
          let at : after a j ≡ Some p = subst (λ (n : ℕ). after n j ≡ Some p) actor is in
          elim (cases_eq j b) [
            | inl page ↦ absurd (not_none p (sym sets.here ∙ subst (λ (n : ℕ). after a n ≡ Some p) page at))
            | inr away ↦ (inr away, subst (λ (n : ℕ). op n j ≡ Some p) (sym actor) (sym (sets.rest j away) ∙ at))
          ]
      | inr other ↦ (inl other, sym (sets.others c j other) ∙ is)
    ]

-- a part of what is set
pub part_sets : {A B : Type 0} (part : A → B) (op after : ℕ → ℕ → Option A) (a b : ℕ) (x : Option A) → Sets op after a b x → Sets (λ c j. option_map part (op c j)) (λ c j. option_map part (after c j)) a b (option_map part x)
part_sets part op after a b x sets = record {
  here = ap (option_map part) sets.here;
  rest = λ j other. ap (option_map part) (sets.rest j other);
  others = λ c j other. ap (option_map part) (sets.others c j other);
}

-- what a permission on the page of v tells: the page, the operation on it, and what it may
pub record OnPage (g : Geometry) (view : View) (v : ℕ) (P : Op → Type 0) : Type 0 where
  pub page : ℕ
  pub op : Op
  pub of : backing_page g v ≡ Some page
  pub here : op_on view page ≡ Some op
  pub may : P op

on_known : (g : Geometry) (view : View) (v : ℕ) (P : Op → Type 0) (page : Option ℕ) → backing_page g v ≡ page → IsSomeAnd (op_under view page) P → OnPage g view v P
on_known g view v P None is h = absurd h
on_known g view v P (Some page) is h = let o = some_and (op_on view page) P h in record { page = page; op = o.0; of = is; here = o.1.0; may = o.1.1 }

pub on_page : (g : Geometry) (view : View) (v : ℕ) (P : Op → Type 0) → IsSomeAnd (op_of g view v) P → OnPage g view v P
on_page g view v P h = on_known g view v P (backing_page g v) refl h

pub some_op : (found : Option Op) (o : Op) → found ≡ Some o → IsSome found
some_op found o is = rw is cc

-- only one actor has an operation on a page: the one that holds its lock
pub sole_op : (g : Geometry) (m : World) (a b : ℕ) (o : Op) → LockLaw g m → op_at m a b ≡ Some o → IsSole (op_at m) a b
sole_op g m a b o h is c p there =
    let mine : lock_at m b ≡ a + 1 = (h.locks a b).1 (some_op (op_at m a b) o is) in
    let theirs : lock_at m b ≡ c + 1 = (h.locks c b).1 (some_op (op_at m c b) p there) in
    omega (arith, mine, theirs)
