-- The frame law in pieces: each is kept where what it reads is as before.
use Rattle.std.proofs.Common.{◌≡◌, ◌≢◌, ◌↔◌, ℕ, Bool, true, false, List, map, Option, Some, None, IsSome, All, refl, sym, ap, subst, ◌∙◌, inl, inr}
use Rattle.std.specs.Prelude.{option_map}
use Rattle.std.proofs.lemmas.Bool.{cases_eq}
use Rattle.nm_base.specs.Geometry.{Geometry}
use Rattle.nm_base.specs.PageWord.{frame_of}
use Rattle.nm_view.specs.declared.view.Owned.{Owned}
use Rattle.nm_view.specs.Lists.{find, edit}
use Rattle.nm_view.specs.Views.{Op, View}
use Rattle.nm_view.specs.Operations.{op_on, fill_of, owned_frame}
use Rattle.nm_view.proofs.Items.{some_same, not_none, all_same}
use Rattle.nm_view.proofs.Finds.{find_edit, find_edit_other, find_map}
use Rattle.nm_words.specs.declared.names.Where.{Where}
use Rattle.nm_words.specs.declared.names.Where.TheVariants.{Req, Pte, Stamp, Home, Shadow, Lock, Mark, Ack, Turn, Mem}
use Rattle.nm_world.specs.Worlds.{World, written, viewing}
use Rattle.nm_world.specs.Sights.{Sight, WritesOne, free_in, sight_of, sight_at}
use Rattle.nm_world.specs.FrameLaw.{Claim, Bit, AtHome, AtShadow, By, Claims, Names, names_of, NamesAsShadow, AreRoles, IsWordOf, MapsToHome, FrameLaw}
use Rattle.nm_world.proofs.Choose.{choose, choose_name}

-- by cases on a test
pub cases_on : (P : Bool → Type 0) (t : Bool) → (t ≡ true → P true) → (t ≡ false → P false) → P t
cases_on P true p q = p refl
cases_on P false p q = q refl

-- a test is not both
pub not_both : (t : Bool) → t ≡ true → t ≡ false → ⊥
not_both t on off = cc

-- Claims.

-- every claim on a frame stands just where it stood before
pub record KeepsClaims (n after : Names) : Type 0 where
  pub forth : (c : Claim) (f : ℕ) → Claims n c f → Claims after c f
  pub back : (c : Claim) (f : ℕ) → Claims after c f → Claims n c f

pub roles_still : (g : Geometry) (n after : Names) → KeepsClaims n after → AreRoles g n → AreRoles g after
roles_still g n after keeps roles f frame =
    let role = roles f frame in (
      role.0,
      record { is = keeps.forth role.0 f role.1.is; only = λ d claims. role.1.only d (keeps.back d f claims) },
    )

-- what names frames is as before
pub record KeepsNames (n after : Names) : Type 0 where
  pub free : (f : ℕ) → after.free f ≡ n.free f
  pub home : (b : ℕ) → after.home b ≡ n.home b
  pub shadow : (k : ℕ) → after.shadow k ≡ n.shadow k
  pub fill : (a f : ℕ) → IsSome (n.fill a f) ↔ IsSome (after.fill a f)

claim_forth : (n after : Names) → KeepsNames n after → (c : Claim) (f : ℕ) → Claims n c f → Claims after c f
claim_forth n after keeps Bit f h = keeps.free f ∙ h
claim_forth n after keeps (AtHome b) f h = keeps.home b ∙ h
claim_forth n after keeps (AtShadow k) f h = subst (λ (w : ℕ). NamesAsShadow w f) (sym (keeps.shadow k)) h
claim_forth n after keeps (By a) f h = (keeps.fill a f).0 h

claim_back : (n after : Names) → KeepsNames n after → (c : Claim) (f : ℕ) → Claims after c f → Claims n c f
claim_back n after keeps Bit f h = sym (keeps.free f) ∙ h
claim_back n after keeps (AtHome b) f h = sym (keeps.home b) ∙ h
claim_back n after keeps (AtShadow k) f h = subst (λ (w : ℕ). NamesAsShadow w f) (keeps.shadow k) h
claim_back n after keeps (By a) f h = (keeps.fill a f).1 h

pub keeps_claims : (n after : Names) → KeepsNames n after → KeepsClaims n after
keeps_claims n after keeps = record { forth = claim_forth n after keeps; back = claim_back n after keeps }

-- Fills.

some_fill : (found : Option Owned) (h : Owned → Owned) → IsSome (option_map (λ (w : Owned). w.fill) found) ↔ IsSome (option_map (λ (w : Owned). w.fill) (option_map h found))
some_fill None h = (λ is. is, λ is. is)
some_fill (Some w) h = (λ is. cc, λ is. cc)

pub same_fills : {A : Type 0} → A ↔ A
same_fills = (λ is. is, λ is. is)

-- a change of every owned frame leaves which are owned
pub map_fills : (h : Owned → Owned) (f : ℕ) (owned : List Owned) → ((w : Owned) → owned_frame (h w) ≡ owned_frame w) → IsSome (option_map (λ (w : Owned). w.fill) (find owned_frame f owned)) ↔ IsSome (option_map (λ (w : Owned). w.fill) (find owned_frame f (map h owned)))
map_fills h f owned same =
    subst (λ (found : Option Owned). IsSome (option_map (λ (w : Owned). w.fill) (find owned_frame f owned)) ↔ IsSome (option_map (λ (w : Owned). w.fill) found)) (sym (find_map owned_frame h f owned same))
    (some_fill (find owned_frame f owned) h)

-- so does a change of one
pub edit_fills : (k : ℕ) (h : Owned → Owned) (f : ℕ) (owned : List Owned) → ((w : Owned) → owned_frame (h w) ≡ owned_frame w) → IsSome (option_map (λ (w : Owned). w.fill) (find owned_frame f owned)) ↔ IsSome (option_map (λ (w : Owned). w.fill) (find owned_frame f (edit owned_frame k h owned)))
edit_fills k h f owned same =
    let Same : Option Owned → Type 0 = λ found. IsSome (option_map (λ (w : Owned). w.fill) (find owned_frame f owned)) ↔ IsSome (option_map (λ (w : Owned). w.fill) found) in
    elim (cases_eq k f) [
      | inl at ↦ subst Same (sym (ap (λ n. find owned_frame f (edit owned_frame n h owned)) at ∙ find_edit owned_frame f h owned same)) (some_fill (find owned_frame f owned) h)
      | inr other ↦ subst Same (sym (find_edit_other owned_frame k h f owned same other)) same_fills
    ]

-- Words.

-- a word of a page goes on mapping, where its home and the shadow of its frame are as before
pub word_of_still : (g : Geometry) (homes shades homes2 shades2 : ℕ → ℕ) (b v word : ℕ) → homes2 b ≡ homes b → shades2 (frame_of word) ≡ shades (frame_of word) → IsWordOf g homes shades b v word → IsWordOf g homes2 shades2 b v word
word_of_still g homes shades homes2 shades2 b v word home shade h = record {
  layout = h.layout;
  home = home ∙ h.home;
  writable = h.writable;
  saved = h.saved;
  unshaded = λ some. h.unshaded (λ none. some (shade ∙ none));
}

pub mapping_still : (g : Geometry) (homes shades homes2 shades2 : ℕ → ℕ) (v word : ℕ) → ((b : ℕ) → homes2 b ≡ homes b) → ((k : ℕ) → shades2 k ≡ shades k) → MapsToHome g homes shades v word → MapsToHome g homes2 shades2 v word
mapping_still g homes shades homes2 shades2 v word home shade h = record {
  page = h.page;
  of = h.of;
  is = word_of_still g homes shades homes2 shades2 h.page v word (home h.page) (shade (frame_of word)) h.is;
}

-- each table word maps as before
pub words_still : (g : Geometry) (m after : Sight) → ((v : ℕ) → after.pte v ≡ m.pte v) → ((b : ℕ) → after.home b ≡ m.home b) → ((k : ℕ) → after.shadow k ≡ m.shadow k) → FrameLaw g m → (v : ℕ) → after.pte v ≢ 0 → MapsToHome g after.home after.shadow v (after.pte v)
words_still g m after pte home shadow law v some =
    subst (λ (w : ℕ). MapsToHome g after.home after.shadow v w) (sym (pte v))
    (mapping_still g m.home m.shadow after.home after.shadow v (m.pte v) home shadow (law.words v (λ none. some (pte v ∙ none))))

-- one table word is written: it maps, if it is not 0, and each other as before
pub words_written : (g : Geometry) (m after : Sight) (v x : ℕ) → WritesOne m.pte after.pte v x → ((b : ℕ) → after.home b ≡ m.home b) → ((k : ℕ) → after.shadow k ≡ m.shadow k) → (x ≢ 0 → MapsToHome g m.home m.shadow v x) → FrameLaw g m → (u : ℕ) → after.pte u ≢ 0 → MapsToHome g after.home after.shadow u (after.pte u)
words_written g m after v x writes home shadow new law u some =
    elim (cases_eq u v) [
      | inl same ↦
          let is : after.pte u ≡ x = ap after.pte same ∙ writes.here in
          let maps : MapsToHome g m.home m.shadow u x = subst (λ (n : ℕ). MapsToHome g m.home m.shadow n x) (sym same) (new (λ none. some (is ∙ none))) in
          subst (λ (w : ℕ). MapsToHome g after.home after.shadow u w) (sym is) (mapping_still g m.home m.shadow after.home after.shadow u x home shadow maps)
      | inr other ↦
          let is : after.pte u ≡ m.pte u = writes.rest u other in
          subst (λ (w : ℕ). MapsToHome g after.home after.shadow u w) (sym is)
          (mapping_still g m.home m.shadow after.home after.shadow u (m.pte u) home shadow (law.words u (λ none. some (is ∙ none))))
    ]

-- Taken words.

-- of an operation, what the frame law reads
pub record Takings : Type 0 where
  pub moved : Bool
  pub taken : List (ℕ × ℕ)

abbrev pub takings_of : Op → Takings
takings_of o = record { moved = o.moved; taken = o.taken }

mapped_some : (found : Option Op) (p : Takings) → option_map takings_of found ≡ Some p → (o : Op) × ((found ≡ Some o) × (takings_of o ≡ p))
mapped_some None p is = absurd (not_none p is)
mapped_some (Some o) p is = (o, (refl, some_same (takings_of o) p is))

-- taken words of a page map as before
pub taken_words_still : (g : Geometry) (homes shades homes2 shades2 : ℕ → ℕ) (b : ℕ) (pairs : List (ℕ × ℕ)) → homes2 b ≡ homes b → ((k : ℕ) → shades2 k ≡ shades k) → All (λ p. IsWordOf g homes shades b p.0 p.1) pairs → All (λ p. IsWordOf g homes2 shades2 b p.0 p.1) pairs
taken_words_still g homes shades homes2 shades2 b pairs home shade h =
    all_same (λ p. IsWordOf g homes shades b p.0 p.1) (λ p. IsWordOf g homes2 shades2 b p.0 p.1) pairs
    (λ p is. word_of_still g homes shades homes2 shades2 b p.0 p.1 home (shade (frame_of p.1)) is) h

pub taken_still : (g : Geometry) (m after : Sight) → ((b : ℕ) → after.home b ≡ m.home b) → ((k : ℕ) → after.shadow k ≡ m.shadow k) → ((a b : ℕ) → option_map takings_of (after.op a b) ≡ option_map takings_of (m.op a b)) → FrameLaw g m → (a b : ℕ) (o : Op) → after.op a b ≡ Some o → o.moved ≡ false → All (λ p. IsWordOf g after.home after.shadow b p.0 p.1) o.taken
taken_still g m after home shadow same law a b o is unmoved =
    let was = mapped_some (m.op a b) (takings_of o) (sym (same a b) ∙ ap (option_map takings_of) is) in
    let moved : was.0.moved ≡ false = ap (λ (t : Takings). t.moved) was.1.1 ∙ unmoved in
    let taken : was.0.taken ≡ o.taken = ap (λ (t : Takings). t.taken) was.1.1 in
    taken_words_still g m.home m.shadow after.home after.shadow b o.taken (home b) shadow
    (subst (λ (pairs : List (ℕ × ℕ)). All (λ p. IsWordOf g m.home m.shadow b p.0 p.1) pairs) taken (law.taken a b was.0 was.1.0 moved))

-- The same at a step.

-- the words that the frame law reads are as before
pub record KeepsWords (g : Geometry) (word after : Where → ℕ) : Type 0 where
  pub pte : (v : ℕ) → after (Pte v) ≡ word (Pte v)
  pub home : (b : ℕ) → after (Home b) ≡ word (Home b)
  pub shadow : (k : ℕ) → after (Shadow k) ≡ word (Shadow k)
  pub free : (f : ℕ) → free_in g after f ≡ free_in g word f

-- the frame law reads no word of this name
abbrev pub IsUnread : Where → Type 0
IsUnread Req = Unit {0}
IsUnread (Stamp v) = Unit {0}
IsUnread (Lock b) = Unit {0}
IsUnread (Mark b) = Unit {0}
IsUnread (Ack p) = Unit {0}
IsUnread (Turn t) = Unit {0}
IsUnread (Mem f i) = Unit {0}
IsUnread _ = ⊥

pub unread_keeps : (g : Geometry) (c : Where) (x : ℕ) (word : Where → ℕ) → IsUnread c → KeepsWords g word (written c x word)
unread_keeps g Req x word h = record { pte = λ v. refl; home = λ b. refl; shadow = λ k. refl; free = λ f. refl }
unread_keeps g (Stamp v) x word h = record { pte = λ v. refl; home = λ b. refl; shadow = λ k. refl; free = λ f. refl }
unread_keeps g (Lock b) x word h = record { pte = λ v. refl; home = λ b. refl; shadow = λ k. refl; free = λ f. refl }
unread_keeps g (Mark b) x word h = record { pte = λ v. refl; home = λ b. refl; shadow = λ k. refl; free = λ f. refl }
unread_keeps g (Ack p) x word h = record { pte = λ v. refl; home = λ b. refl; shadow = λ k. refl; free = λ f. refl }
unread_keeps g (Turn t) x word h = record { pte = λ v. refl; home = λ b. refl; shadow = λ k. refl; free = λ f. refl }
unread_keeps g (Mem f i) x word h = record { pte = λ v. refl; home = λ b. refl; shadow = λ k. refl; free = λ f. refl }
unread_keeps g c x word h = absurd h

-- a word that is written again leaves every word
pub rewritten : (c : Where) (word : Where → ℕ) (d : Where) → written c (word c) word d ≡ word d
rewritten c word d = choose_name (λ n. n ≡ word d) c d (word c) (word d) (λ same. ap word same) (λ other. refl)

pub read_keeps : (g : Geometry) (c : Where) (word : Where → ℕ) → KeepsWords g word (written c (word c) word)
read_keeps g c word = record {
  pte = λ v. rewritten c word (Pte v);
  home = λ b. rewritten c word (Home b);
  shadow = λ k. rewritten c word (Shadow k);
  free = λ f. rw (rewritten c word _) refl;
}

-- what the frame law reads of a view is as before
pub record KeepsView (view new : View) : Type 0 where
  pub takings : (b : ℕ) → option_map takings_of (op_on new b) ≡ option_map takings_of (op_on view b)
  pub fills : (f : ℕ) → IsSome (fill_of view f) ↔ IsSome (fill_of new f)

pub same_view : (view : View) → KeepsView view view
same_view view = record { takings = λ b. refl; fills = λ f. same_fills }

-- a part of each view that the new one of the actor keeps
pub view_part : {A : Type 0} (part : View → A) (a : ℕ) (new : View) (views : ℕ → View) → part new ≡ part (views a) → (c : ℕ) → part (viewing a new views c) ≡ part (views c)
view_part part a new views same c = choose (λ v. part v ≡ part (views c)) c a new (views c) (λ s. same ∙ ap (λ i. part (views i)) (sym s)) (λ other. refl)

pub takings_kept : (a : ℕ) (new : View) (views : ℕ → View) → KeepsView (views a) new → (c b : ℕ) → option_map takings_of (op_on (viewing a new views c) b) ≡ option_map takings_of (op_on (views c) b)
takings_kept a new views keeps c b = view_part (λ v. option_map takings_of (op_on v b)) a new views (keeps.takings b) c

pub fills_kept : (a : ℕ) (new : View) (views : ℕ → View) → ((f : ℕ) → IsSome (fill_of (views a) f) ↔ IsSome (fill_of new f)) → (c f : ℕ) → IsSome (fill_of (views c) f) ↔ IsSome (fill_of (viewing a new views c) f)
fills_kept a new views fills c f =
    choose (λ v. IsSome (fill_of (views c) f) ↔ IsSome (fill_of v f)) c a new (views c)
    (λ s. subst (λ (i : ℕ). IsSome (fill_of (views i) f) ↔ IsSome (fill_of new f)) (sym s) (fills f))
    (λ other. same_fills)

-- roles stay where the words that name frames are as before, and each view owns the frames that it owned
pub roles_kept : (g : Geometry) (m : World) (word : Where → ℕ) (a : ℕ) (new : View) → ((f : ℕ) → free_in g word f ≡ free_in g m.word f) → ((b : ℕ) → word (Home b) ≡ m.word (Home b)) → ((k : ℕ) → word (Shadow k) ≡ m.word (Shadow k)) → ((f : ℕ) → IsSome (fill_of (m.view a) f) ↔ IsSome (fill_of new f)) → FrameLaw g (sight_of g m) → AreRoles g (names_of (sight_at g word (viewing a new m.view)))
roles_kept g m word a new free home shadow fills law =
    let n : Names = names_of (sight_of g m) in
    let after : Names = names_of (sight_at g word (viewing a new m.view)) in
    roles_still g n after (keeps_claims n after (record { free = free; home = home; shadow = shadow; fill = fills_kept a new m.view fills })) law.roles

-- where words and the view are as before in what the law reads, so is the law
pub frames_quiet : (g : Geometry) (m : World) (word : Where → ℕ) (a : ℕ) (new : View) → KeepsWords g m.word word → KeepsView (m.view a) new → FrameLaw g (sight_of g m) → FrameLaw g (sight_at g word (viewing a new m.view))
frames_quiet g m word a new words view law = record {
  roles = roles_kept g m word a new words.free words.home words.shadow view.fills law;
  words = words_still g (sight_of g m) (sight_at g word (viewing a new m.view)) words.pte words.home words.shadow law;
  taken = taken_still g (sight_of g m) (sight_at g word (viewing a new m.view)) words.home words.shadow (takings_kept a new m.view view) law;
}
