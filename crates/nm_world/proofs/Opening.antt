-- That all the groups hold where nothing was done.
use Rattle.std.proofs.Common.{◌≡◌, ℕ, ◌+◌, ◌-◌, ◌*◌, ◌<◌, min, true, Option, Some, None, IsSome, length, get_or, refl, sym, ap, subst, ◌∙◌, inl, inr, arith}
use Rattle.std.specs.Int.{bit_at}
use Rattle.std.proofs.Math.Path.{fun_ext}
use Rattle.std.proofs.lemmas.Bool.{cases_lt, lt-ltb, eq-eqb}
use Rattle.std.proofs.lemmas.List.{get_or-replicate, get_or_past}
use Rattle.std.proofs.lemmas.List.Sums.{sum_by_more}
use Rattle.std.proofs.lemmas.Nat.Bits.{bit_at_ones}
use Rattle.nm_base.specs.Geometry.{Geometry, IsGeometry, first_frame, tier_of, page_count, frame_count}
use Rattle.nm_base.specs.FreeWords.{free_index, free_bit}
use Rattle.nm_base.specs.Ranges.{IsFrame}
use Rattle.nm_base.proofs.Tiers.{IsInTier-tier_of}
use Rattle.nm_view.specs.Views.{View, off_word}
use Rattle.nm_view.specs.Opening.{opening}
use Rattle.nm_view.specs.Operations.{op_on, fill_of}
use Rattle.nm_view.proofs.Items.{none_left, not_none}
use Rattle.nm_words.specs.declared.names.Where.{Where}
use Rattle.nm_words.specs.declared.names.Where.TheVariants.{Pte, Home, Shadow, Lock, Ack, Turn}
use Rattle.nm_words.specs.Words.{opening_words, full_word}
use Rattle.nm_words.proofs.Places.{get_or-full}
use Rattle.nm_step.specs.Table.{free_word_of}
use Rattle.nm_shape.proofs.Shaped.{shape_opening}
use Rattle.nm_core.specs.State.{view_of, start, actor_count}
use Rattle.nm_core.proofs.InPlace.{IsPlace-free_word_of}
use Rattle.nm_core.proofs.Starts.{IsKept-start, view_of-start}
use Rattle.nm_world.specs.Worlds.{World}
use Rattle.nm_world.specs.Sights.{free_in, sight_of}
use Rattle.nm_world.specs.ShapeLaw.{ShapeLaw}
use Rattle.nm_world.specs.LockLaw.{LockLaw}
use Rattle.nm_world.specs.CacheLaw.{CacheLaw, IsEntrySound, IsPeekSound}
use Rattle.nm_world.specs.FrameLaw.{FrameLaw, Claim, Bit, AtHome, AtShadow, By, Claims, names_of}
use Rattle.nm_world.specs.ShadowLaw.{ShadowLaw}
use Rattle.nm_world.specs.CopyLaw.{CopyLaw}
use Rattle.nm_world.specs.Bounds.{HasBounds}
use Rattle.nm_world.specs.Laws.{AreAll}
use Rattle.nm_world.specs.Seen.{seen_word, world_of}
use Rattle.nm_world.proofs.Bridge.{seen_of, seen_word-place}
use Rattle.nm_world.proofs.Bounds.{HasBounds-world_of}

-- words with which nothing was done: every word of the table, home, shadow word, lock and turn is 0, every acknowledgement
-- is Off, and every frame is free
record AreFresh (g : Geometry) (w : Where → ℕ) : Type 0 where
  pte : (v : ℕ) → w (Pte v) ≡ 0
  home : (b : ℕ) → w (Home b) ≡ 0
  shadow : (k : ℕ) → w (Shadow k) ≡ 0
  lock : (b : ℕ) → w (Lock b) ≡ 0
  turn : (t : ℕ) → w (Turn t) ≡ 0
  ack : (p : ℕ) → p < g.cpus → w (Ack p) ≡ off_word
  free : (f : ℕ) → IsFrame g f → free_in g w f ≡ true

abbrev fresh : Geometry → (Where → ℕ) → World
fresh g w = record { word = w; view = opening g }

-- 0 is no number of an actor plus 1
no_holder : (n a : ℕ) → n ≡ 0 → n ≡ a + 1 → ⊥
no_holder n a none is = omega (arith, none, is)

nothing_some : {A : Type 0} (o : Option A) → o ≡ None → IsSome o → ⊥
nothing_some None e h = cc
nothing_some (Some x) e h = cc

shape_fresh : (g : Geometry) (w : Where → ℕ) → ShapeLaw g (fresh g w)
shape_fresh g w = record { number = λ a. refl; shape = λ a there. shape_opening g a there; nobody = λ a out. refl }

locks_fresh : (g : Geometry) (w : Where → ℕ) → AreFresh g w → LockLaw g (fresh g w)
locks_fresh g w h = record {
  locks = λ a b. (λ is. absurd (no_holder (w (Lock b)) a (h.lock b) is), λ some. absurd (nothing_some (op_on (opening g a) b) refl some));
  turns = λ a t. (λ is. absurd (no_holder (w (Turn t)) a (h.turn t) is), λ is. absurd (not_none t is));
  known = λ a b o is. absurd (not_none o is);
  least = λ a t f is found. absurd (not_none t is);
  staged = λ a b o is. absurd (not_none o is);
}

caches_fresh : (g : Geometry) (w : Where → ℕ) → AreFresh g w → CacheLaw g (fresh g w)
caches_fresh g w h = record {
  acks = λ p there n. absurd (n.on (h.ack p there));
  desks = λ p. record {
    acked = λ there. sym (h.ack p there);
    off = λ there n. refl;
    polled = λ n. absurd (n.on refl);
    entries = none_left (IsEntrySound g (fresh g w) p);
    peeks = none_left _;
    fresh = λ a b o is. none_left (IsPeekSound off_word o);
  };
  flights = λ a b o is. absurd (not_none o is);
}

only_bit : (g : Geometry) (w : Where → ℕ) (f : ℕ) → AreFresh g w → (d : Claim) → Claims (names_of (sight_of g (fresh g w))) d f → d ≡ Bit
only_bit g w f h Bit is = refl
only_bit g w f h (AtHome b) is = absurd (no_holder (w (Home b)) f (h.home b) is)
only_bit g w f h (AtShadow k) is = absurd (is.some (h.shadow k))
only_bit g w f h (By a) is = absurd (nothing_some (fill_of (opening g a) f) refl is)

frames_fresh : (g : Geometry) (w : Where → ℕ) → AreFresh g w → FrameLaw g (sight_of g (fresh g w))
frames_fresh g w h = record {
  roles = λ f frame. (Bit, record { is = h.free f frame; only = only_bit g w f h });
  words = λ v some. absurd (some (h.pte v));
  taken = λ a b o is. absurd (not_none o is);
}

shadows_fresh : (g : Geometry) (w : Where → ℕ) → AreFresh g w → ShadowLaw g (sight_of g (fresh g w))
shadows_fresh g w h = record { masters = λ k some. absurd (some (h.shadow k)) }

copies_fresh : (g : Geometry) (w : Where → ℕ) → CopyLaw g (sight_of g (fresh g w))
copies_fresh g w = record {
  zeroed = λ a f n is. absurd (not_none _ is);
  has_op = λ a f b fill is. absurd (not_none fill is);
  ops = λ a b o is. absurd (not_none o is);
}

all_fresh : (g : Geometry) (w : Where → ℕ) → AreFresh g w → HasBounds g (fresh g w) → AreAll g (fresh g w)
all_fresh g w h bounds = record {
  shape = shape_fresh g w;
  locks = locks_fresh g w h;
  caches = caches_fresh g w h;
  copies = copies_fresh g w;
  shadows = shadows_fresh g w h;
  frames = frames_fresh g w h;
  bounds = bounds;
}

-- at first every frame has its bit
first_bit : (g : Geometry) (f : ℕ) → IsFrame g f → bit_at (seen_word g (opening_words g) (free_word_of g f)) (free_bit g f) ≡ 1
first_bit g f frame =
    let t : ℕ = tier_of g f in
    let n : ℕ = get_or g.tiers t 0 in
    let at = IsInTier-tier_of g f frame in
    let size : first_frame g (t + 1) ≡ first_frame g t + n = sum_by_more (λ n. n) g.tiers t 0 at.exists in
    let place = IsPlace-free_word_of g f frame in
    let word : seen_word g (opening_words g) (free_word_of g f) ≡ full_word n (free_index g f) = seen_word-place g (opening_words g) (free_word_of g f) place ∙ get_or-full g t (free_index g f) place.0 place.1 in
    let below : free_bit g f < min 64 (n - 64 * free_index g f) = omega (arith, at.from, at.below, size) in
    ap (λ x. bit_at x (free_bit g f)) word ∙ bit_at_ones (min 64 (n - 64 * free_index g f)) (free_bit g f) below

fresh_words : (g : Geometry) → AreFresh g (seen_word g (opening_words g))
fresh_words g =
    let w : Where → ℕ = seen_word g (opening_words g) in
    let IsZero : ℕ → Type 0 = λ n. n ≡ 0 in
    record {
      pte = λ v. seen_of IsZero g (opening_words g) (Pte v) refl (λ p. get_or-replicate {A = ℕ} (length g.vpages) v 0 0 p);
      home = λ b. seen_of IsZero g (opening_words g) (Home b) refl (λ p. get_or-replicate {A = ℕ} (page_count g) b 0 0 p);
      shadow = λ k. seen_of IsZero g (opening_words g) (Shadow k) refl (λ p. get_or-replicate {A = ℕ} (frame_count g) k 0 0 p);
      lock = λ b. seen_of IsZero g (opening_words g) (Lock b) refl (λ p. get_or-replicate {A = ℕ} (page_count g) b 0 0 p);
      turn = λ t. seen_of IsZero g (opening_words g) (Turn t) refl (λ p. get_or-replicate {A = ℕ} (length g.tiers) t 0 0 p);
      ack = λ p there. seen_word-place g (opening_words g) (Ack p) there ∙ get_or-replicate {A = ℕ} g.cpus p off_word 0 there;
      free = λ f frame. rw (lt-ltb f (frame_count g) frame) (eq-eqb _ 1 (first_bit g f frame));
    }

-- the view of each number where nothing was done
first_view : (g : Geometry) (a : ℕ) → IsGeometry g → view_of (start g) a ≡ opening g a
first_view g a is =
    elim (cases_lt a (actor_count g)) [
      | inl there ↦ view_of-start g a there
      | inr past ↦ get_or_past (start g).views a (opening g a) (omega (arith, past, (IsKept-start g is).actors))
    ]

pub AreAll-start : (g : Geometry) → IsGeometry g → AreAll g (world_of (start g))
AreAll-start g is =
    let W : (ℕ → View) → World = λ v. record { word = seen_word g (opening_words g); view = v } in
    let views : view_of (start g) ≡ opening g = fun_ext (λ a. first_view g a is) in
    let same : world_of (start g) ≡ fresh g (seen_word g (opening_words g)) = ap W views in
    subst (AreAll g) (sym same) (all_fresh g (seen_word g (opening_words g)) (fresh_words g) (subst (HasBounds g) same (HasBounds-world_of (start g) (IsKept-start g is))))
