-- How a step changes the functions of a sight: one word, or one item of the view of its actor.
use Rattle.std.proofs.Common.{◌≡◌, ◌≢◌, ℕ, ◌==◌, ◌&&◌, if◌then◌else◌, [], ◌∷◌, ◌++◌, Option, Some, None, refl, sym, ap, subst, ◌∙◌}
use Rattle.std.specs.Prelude.{option_map}
use Rattle.nm_view.specs.declared.view.Owned.{Owned}
use Rattle.nm_view.specs.declared.view.CacheEntry.{CacheEntry}
use Rattle.nm_view.specs.Lists.{find, edit, erase, put, Once}
use Rattle.nm_view.specs.Views.{Op, View}
use Rattle.nm_view.specs.Operations.{page_of, owned_frame, cached_page, op_on, fill_of}
use Rattle.nm_view.proofs.Finds.{find_edit, find_edit_other, find_put, find_put_other, find_erase, find_erase_other, find_join, find_join_other}
use Rattle.nm_world.specs.Worlds.{viewing}
use Rattle.nm_world.specs.Sights.{WritesOne, Sets}
use Rattle.nm_world.proofs.Choose.{choose, choose_both}

-- Views.

-- the view of the actor that makes the step is the new one
pub own_view : (a : ℕ) (new : View) (views : ℕ → View) → viewing a new views a ≡ new
own_view a new views = choose (λ v. v ≡ new) a a new (views a) (λ s. refl) (λ n. absurd (n refl))

-- every other view is as before
pub other_view : (a : ℕ) (new : View) (views : ℕ → View) (c : ℕ) → c ≢ a → viewing a new views c ≡ views c
other_view a new views c n = choose (λ v. v ≡ views c) c a new (views c) (λ s. absurd (n s)) (λ _. refl)

pub view_writes : (a : ℕ) (new : View) (views : ℕ → View) → WritesOne views (viewing a new views) a new
view_writes a new views = record { here = own_view a new views; rest = other_view a new views }

-- what holds of the new view, and of each other view as it was, holds of each view
pub each_view : (P : ℕ → View → Type 0) (a : ℕ) (new : View) (views : ℕ → View) → P a new → ((c : ℕ) → c ≢ a → P c (views c)) → (c : ℕ) → P c (viewing a new views c)
each_view P a new views own others c = choose (P c) c a new (views c) (λ s. let At : ℕ → Type 0 = λ n. P n new in subst At (sym s) own) (others c)

-- Words.

-- a write of a word of one number, as a table word
pub word_writes : (f : ℕ → ℕ) (k x : ℕ) → WritesOne f (λ j. if j == k then x else f j) k x
word_writes f k x = record {
  here = choose (λ n. n ≡ x) k k x (f k) (λ s. refl) (λ n. absurd (n refl));
  rest = λ j other. choose (λ n. n ≡ f j) j k x (f j) (λ s. absurd (other s)) (λ n. refl);
}

-- a write of a word of a frame
pub mem_sets : (f : ℕ → ℕ → ℕ) (a k x : ℕ) → Sets f (λ c j. if (c == a) && (j == k) then x else f c j) a k x
mem_sets f a k x = record {
  here = choose_both (λ n. n ≡ x) a a k k x (f a k) (λ s t. refl) (λ n. absurd (n refl)) (λ n. absurd (n refl));
  rest = λ j other. choose_both (λ n. n ≡ f a j) a a j k x (f a j) (λ s t. absurd (other t)) (λ n. refl) (λ n. refl);
  others = λ c j other. choose_both (λ n. n ≡ f c j) c a j k x (f c j) (λ s t. absurd (other s)) (λ n. refl) (λ n. refl);
}

-- Items of views. Each gives the change of a function of actors and numbers, where the new view's list is so.

-- a list found by actor and number
pub item_sets : {A : Type 0} (read : View → ℕ → Option A) (a k : ℕ) (x : Option A) (new : View) (views : ℕ → View) → read new k ≡ x → ((j : ℕ) → j ≢ k → read new j ≡ read (views a) j) → Sets (λ c j. read (views c) j) (λ c j. read (viewing a new views c) j) a k x
item_sets read a k x new views here rest = record {
  here = ap (λ v. read v k) (own_view a new views) ∙ here;
  rest = λ j other. ap (λ v. read v j) (own_view a new views) ∙ rest j other;
  others = λ c j other. ap (λ v. read v j) (other_view a new views c other);
}

-- a list that the new view leaves, by actor and number
pub item_same : {A : Type 0} (read : View → ℕ → Option A) (a : ℕ) (new : View) (views : ℕ → View) → ((j : ℕ) → read new j ≡ read (views a) j) → (c j : ℕ) → read (viewing a new views c) j ≡ read (views c) j
item_same read a new views same c j =
    choose (λ v. read v j ≡ read (views c) j) c a new (views c) (λ s. same j ∙ ap (λ i. read (views i) j) (sym s)) (λ n. refl)

-- an operation is edited
pub edit_sets : (a b : ℕ) (f : Op → Op) (o : Op) (new : View) (views : ℕ → View) → ((x : Op) → page_of (f x) ≡ page_of x) → new.ops ≡ edit page_of b f (views a).ops → op_on (views a) b ≡ Some o → Sets (λ c j. op_on (views c) j) (λ c j. op_on (viewing a new views c) j) a b (Some (f o))
edit_sets a b f o new views same is there =
    item_sets op_on a b (Some (f o)) new views
    (ap (find page_of b) is ∙ find_edit page_of b f (views a).ops same ∙ ap (option_map f) there)
    (λ j other. ap (find page_of j) is ∙ find_edit_other page_of b f j (views a).ops same (λ s. other (sym s)))

-- an operation is opened
pub open_sets : (a : ℕ) (o : Op) (new : View) (views : ℕ → View) → new.ops ≡ (views a).ops ++ o ∷ [] → op_on (views a) o.page ≡ None → Sets (λ c j. op_on (views c) j) (λ c j. op_on (viewing a new views c) j) a o.page (Some o)
open_sets a o new views is none =
    item_sets op_on a o.page (Some o) new views
    (ap (find page_of o.page) is ∙ find_join page_of o (views a).ops none)
    (λ j other. ap (find page_of j) is ∙ find_join_other page_of o j (views a).ops (λ s. other (sym s)))

-- an operation is closed
pub close_sets : (a b : ℕ) (new : View) (views : ℕ → View) → new.ops ≡ erase page_of b (views a).ops → Once page_of (views a).ops → Sets (λ c j. op_on (views c) j) (λ c j. op_on (viewing a new views c) j) a b None
close_sets a b new views is once =
    item_sets op_on a b None new views
    (ap (find page_of b) is ∙ find_erase page_of b (views a).ops once)
    (λ j other. ap (find page_of j) is ∙ find_erase_other page_of b j (views a).ops (λ s. other (sym s)))

-- an owned frame comes, or gets another fill
pub fill_put : (a : ℕ) (w : Owned) (new : View) (views : ℕ → View) → new.owned ≡ put owned_frame w (views a).owned → Sets (λ c j. fill_of (views c) j) (λ c j. fill_of (viewing a new views c) j) a w.frame (Some w.fill)
fill_put a w new views is =
    item_sets fill_of a w.frame (Some w.fill) new views
    (ap (λ xs. option_map (λ (y : Owned). y.fill) (find owned_frame w.frame xs)) is ∙ ap (option_map (λ (y : Owned). y.fill)) (find_put owned_frame w (views a).owned))
    (λ j other. ap (λ xs. option_map (λ (y : Owned). y.fill) (find owned_frame j xs)) is ∙ ap (option_map (λ (y : Owned). y.fill)) (find_put_other owned_frame w j (views a).owned (λ s. other (sym s))))

-- an owned frame goes
pub fill_gone : (a f : ℕ) (new : View) (views : ℕ → View) → new.owned ≡ erase owned_frame f (views a).owned → Once owned_frame (views a).owned → Sets (λ c j. fill_of (views c) j) (λ c j. fill_of (viewing a new views c) j) a f None
fill_gone a f new views is once =
    item_sets fill_of a f None new views
    (ap (λ xs. option_map (λ (y : Owned). y.fill) (find owned_frame f xs)) is ∙ ap (option_map (λ (y : Owned). y.fill)) (find_erase owned_frame f (views a).owned once))
    (λ j other. ap (λ xs. option_map (λ (y : Owned). y.fill) (find owned_frame j xs)) is ∙ ap (option_map (λ (y : Owned). y.fill)) (find_erase_other owned_frame f j (views a).owned (λ s. other (sym s))))

-- a translation is cached
pub entry_put : (a : ℕ) (e : CacheEntry) (new : View) (views : ℕ → View) → new.cache ≡ put cached_page e (views a).cache → Sets (λ c v. find cached_page v (views c).cache) (λ c v. find cached_page v (viewing a new views c).cache) a e.vpage (Some e)
entry_put a e new views is =
    item_sets (λ view v. find cached_page v view.cache) a e.vpage (Some e) new views
    (ap (find cached_page e.vpage) is ∙ find_put cached_page e (views a).cache)
    (λ v other. ap (find cached_page v) is ∙ find_put_other cached_page e v (views a).cache (λ s. other (sym s)))
