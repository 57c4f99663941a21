-- What holds of what was told holds after one line more.
use Rattle.std.proofs.Common.{◌≡◌, ℕ, suc, ◌+◌, ◌<◌, ◌≤◌, ◌⊎◌, nat_lt, List, [], ◌∷◌, ◌++◌, length, sum, Some, None, Ok, refl, sym, ap, ◌∙◌, subst, inl, inr, arith, length-append}
use Rattle.std.specs.List.{AllByRecursion}
use Rattle.std.specs.Prelude.{IfSome}
use Rattle.std.proofs.lemmas.Bool.{ltb-false}
use Rattle.std.proofs.lemmas.List.Sums.{sum_by-append}
use Rattle.nm_base.specs.declared.geometry.VPage.{VPage}
use Rattle.nm_base.specs.Geometry.{pages_of, IsPageSize}
use Rattle.nm_tiers.specs.declared.nodes.Node.{Node}
use Rattle.nm_tiers.specs.Tiers.{frames_of, tiers_of, tier_count}
use Rattle.nm_script.specs.declared.script.Line.{Line}
use Rattle.nm_script.specs.declared.item.Item.{Item}
use Rattle.nm_script.specs.declared.item.Item.TheVariants as items
use Rattle.nm_script.specs.declared.item.Place.{Place}
use Rattle.nm_script.specs.declared.item.Place.TheVariants as places
use Rattle.nm_script.specs.Script.{IsNode, IsPlanItem}
use Rattle.nm_script.specs.Told.{Told, nothing, with_item, with_line}
use Rattle.nm_script.specs.Following.{IsOneOf, before_of, IsReach}
use Rattle.nm_script.specs.Holds.{HasNodes, IsMachine, IsLate, Stands, IsOpen, IsToldSoFar, ItemFits}
use Rattle.nm_script.specs.Reading.{item_at, ruled, told_with}
use Rattle.nm_script.proofs.FieldLemmas.{chained, refused}
use Rattle.nm_script.proofs.Says.{Ranged, Follows, item_at-some}
use Rattle.nm_script.proofs.Mapped.{AreMaps-none, AreMaps-page}
use Rattle.nm_tiers.proofs.Total.{sum-tiers_of}

pub All-more : {X : Type 0} (P : X → Type 0) (xs : List X) (x : X) → AllByRecursion P xs → P x → AllByRecursion P (xs ++ x ∷ [])
All-more P [] x h p = (p, tt)
All-more P (y ∷ xs) x h p = (h.0, All-more P xs x h.1 p)

-- ---- places

apart : (qs : List Place) (p : Place) → AllByRecursion (λ q. q ≡ places.Begin → ⊥) qs → IsOneOf qs p → p ≡ places.Begin → ⊥
apart [] p h one e = one
apart (q ∷ qs) p h one e = elim one [ inl a ↦ h.0 (sym a ∙ e) | inr r ↦ apart qs p h.1 r e ]

pub opened : (s : Told) (qs : List Place) → AllByRecursion (λ q. q ≡ places.Begin → ⊥) qs → IsOneOf qs s.place → IsToldSoFar s → IsOpen s
opened s qs h one told = elim told [ inl e ↦ absurd (apart qs s.place h one (ap (λ t. t.place) e)) | inr o ↦ o ]

pub at : (s : Told) (q : Place) → IsOpen s → s.place ≡ q → Stands q s
at s q h e = subst (λ p. Stands p s) e h.stands

pub begun : (s : Told) → s.place ≡ places.Begin → IsToldSoFar s → s ≡ nothing
begun s e told = elim told [ inl n ↦ n | inr o ↦ absurd (at s places.Begin o e) ]

-- ---- one line more

first_machine : (n : ℕ) → (n ≡ 1) ⊎ (n ≡ 2) → IsMachine n [] 0 [] None
first_machine n h =
    record {
      few = omega arith;
      sum = refl;
      parts = elim h [
        | inl a ↦ inl (a, refl, refl, inl refl)
        | inr b ↦ inr (b, record { few = omega arith; each = tt; frames_are = refl; tiers_are = refl; count = omega arith }, tt)
      ];
    }

told_version : (n : ℕ) → (n ≡ 1) ⊎ (n ≡ 2) → IsOpen (with_item nothing (items.Version n))
told_version n h =
    record {
      machine = first_machine n h;
      words = (9, omega arith, refl);
      few = omega arith;
      order = omega arith;
      plan = tt;
      maps = AreMaps-none 0 0 [] refl;
      lines = tt;
      programs = omega arith;
      stands = ((refl, refl, refl), refl, refl);
    }

no_lines : (P : List Line → Type 0) (ps : List (List Line)) → ps ≡ [] → AllByRecursion P ps
no_lines P ps e = subst (λ qs. AllByRecursion P qs) (sym e) tt

told_page : (s : Told) (w : ℕ) → IsOpen s → s.place ≡ places.Version → IsPageSize w → IsOpen (with_item s (items.Page w))
told_page s w h e size =
    let st = at s places.Version h e in
    record { machine = h.machine; words = size; few = h.few; order = h.order; plan = h.plan; maps = h.maps; lines = no_lines _ s.programs st.0.2; programs = h.programs; stands = st }

early : (s : Told) → IsOpen s → IsOneOf (places.Version ∷ places.Page ∷ places.Tier ∷ []) s.place → (s.plan ≡ []) × (s.vpages ≡ []) × (s.programs ≡ [])
early s h one = elim one [
  | inl a ↦ (at s places.Version h a).0
  | inr r ↦ elim r [ inl b ↦ (at s places.Page h b).0 | inr t ↦ elim t [ inl c ↦ at s places.Tier h c | inr n ↦ absurd n ] ]
]

pair_machine : (s : Told) (f t : ℕ) → IsMachine s.version s.tiers s.frames s.nodes s.retry → s.version ≡ 1 → 1 ≤ f → f ≤ 4095 → 1 ≤ t → t ≤ 4095 → f + t ≤ 4096 → IsMachine s.version (f ∷ t ∷ []) (f + t) s.nodes s.retry
pair_machine s f t m v a b c d sum =
    record {
      few = sum;
      sum = omega arith;
      parts = elim m.parts [
        | inl q ↦ inl (q.0, q.1, q.2, inr (record { fast = f; slow = t; are = refl; some = (a, b, c, d) }))
        | inr r ↦ absurd (omega (arith, r.0, v))
      ];
    }

told_tiers : (s : Told) (f t : ℕ) → IsOpen s → IsOneOf (places.Version ∷ places.Page ∷ []) s.place → Ranged s (items.Tiers f t) → IsOpen (with_item s (items.Tiers f t))
told_tiers s f t h one r =
    let st = early s h (elim one [ inl a ↦ inl a | inr b ↦ elim b [ inl c ↦ inr (inl c) | inr n ↦ absurd n ] ]) in
    record { machine = pair_machine s f t h.machine r.0 r.1 r.2 r.3 r.4 r.5; words = h.words; few = h.few; order = h.order; plan = h.plan; maps = AreMaps-none (f + t) s.cpus s.vpages st.1; lines = h.lines; programs = h.programs; stands = st }

more_nodes : (tiers : List ℕ) (frames : ℕ) (nodes : List Node) (n : Node) → HasNodes tiers frames nodes → length nodes < 16 → IsNode n → tier_count (nodes ++ n ∷ []) ≤ 4 → HasNodes (tiers_of (nodes ++ n ∷ [])) (frames + n.frames) (nodes ++ n ∷ [])
more_nodes tiers frames nodes n h few is count =
    record {
      few = omega (arith, length-append nodes (n ∷ []), few);
      each = All-more IsNode nodes n h.each is;
      frames_are = omega (arith, h.frames_are, sum_by-append (λ m. m.frames) nodes (n ∷ []));
      tiers_are = refl;
      count = count;
    }

node_machine : (s : Told) (n : Node) → IsMachine s.version s.tiers s.frames s.nodes s.retry → Ranged s (items.Node n) → tier_count (s.nodes ++ n ∷ []) ≤ 4 → IsMachine s.version (tiers_of (s.nodes ++ n ∷ [])) (s.frames + n.frames) (s.nodes ++ n ∷ []) s.retry
node_machine s n m r count =
    let two : (s.version ≡ 2) × HasNodes s.tiers s.frames s.nodes × IfSome s.retry (λ k. k ≤ 1000) = elim m.parts [ inl q ↦ absurd (r.0 q.0) | inr t ↦ t ] in
    let nodes = more_nodes s.tiers s.frames s.nodes n two.1 r.1 (r.2, r.3, r.4) count in
    record { few = r.5; sum = nodes.frames_are ∙ sym (sum-tiers_of (s.nodes ++ n ∷ [])); parts = inr (two.0, nodes, two.2) }

told_node : (s : Told) (n : Node) → IsOpen s → IsOneOf (places.Version ∷ places.Page ∷ places.Tier ∷ []) s.place → Ranged s (items.Node n) → tier_count (s.nodes ++ n ∷ []) ≤ 4 → IsOpen (with_item s (items.Node n))
told_node s n h one r count =
    let st = early s h one in
    record { machine = node_machine s n h.machine r count; words = h.words; few = h.few; order = h.order; plan = h.plan; maps = AreMaps-none (s.frames + n.frames) s.cpus s.vpages st.1; lines = h.lines; programs = h.programs; stands = st }

told_cpus : (s : Told) (p : ℕ) → IsOpen s → s.place ≡ places.Tier → 1 ≤ p → p ≤ 16 → 2 ≤ length s.tiers → IsOpen (with_item s (items.Cpus p))
told_cpus s p h e low high tiers =
    let st = at s places.Tier h e in
    record {
      machine = h.machine;
      words = h.words;
      few = high;
      order = h.order;
      plan = subst (λ (gs : List _). AllByRecursion (IsPlanItem p) gs) (sym st.0) tt;
      maps = AreMaps-none s.frames p s.vpages st.1;
      lines = h.lines;
      programs = omega (arith, ap length st.2);
      stands = ((low, tiers), st.2);
    }

retry_machine : (s : Told) (r : ℕ) → IsMachine s.version s.tiers s.frames s.nodes s.retry → s.version ≡ 2 → r ≤ 1000 → IsMachine s.version s.tiers s.frames s.nodes (Some r)
retry_machine s r m v few =
    record { few = m.few; sum = m.sum; parts = elim m.parts [ inl q ↦ absurd (omega (arith, q.0, v)) | inr t ↦ inr (t.0, t.1, few) ] }

told_retry : (s : Told) (r : ℕ) → IsOpen s → s.place ≡ places.Cpus → s.version ≡ 2 → r ≤ 1000 → IsOpen (with_item s (items.Retry r))
told_retry s r h e v few =
    record { machine = retry_machine s r h.machine v few; words = h.words; few = h.few; order = h.order; plan = h.plan; maps = h.maps; lines = h.lines; programs = h.programs; stands = at s places.Cpus h e }

late : (s : Told) → IsOpen s → IsOneOf (places.Cpus ∷ places.Retry ∷ []) s.place → IsLate s × (s.programs ≡ [])
late s h one = elim one [ inl a ↦ at s places.Cpus h a | inr r ↦ elim r [ inl b ↦ at s places.Retry h b | inr n ↦ absurd n ] ]

before_maps : (s : Told) → IsOpen s → IsOneOf (places.Cpus ∷ places.Retry ∷ places.Order ∷ places.Plan ∷ places.Map ∷ []) s.place → IsLate s × (s.programs ≡ [])
before_maps s h one = elim one [
  | inl a ↦ at s places.Cpus h a
  | inr r ↦ elim r [
    | inl b ↦ at s places.Retry h b
    | inr t ↦ elim t [
      | inl c ↦ at s places.Order h c
      | inr u ↦ elim u [
        | inl d ↦ at s places.Plan h d
        | inr w ↦ elim w [ inl m ↦ (let st = at s places.Map h m in (st.0, st.2)) | inr n ↦ absurd n ]
      ]
    ]
  ]
]

told_map : (s : Told) (v : ℕ) (p : VPage) → IsOpen s → IsOneOf (places.Cpus ∷ places.Retry ∷ places.Order ∷ places.Plan ∷ places.Map ∷ []) s.place → Ranged s (items.Map v p) → IsOpen (with_item s (items.Map v p))
told_map s v p h one r =
    let st = before_maps s h one in
    let maps = AreMaps-page s.frames s.cpus s.vpages v p h.maps r.0 r.3 in
    record { machine = h.machine; words = h.words; few = h.few; order = h.order; plan = h.plan; maps = maps.0; lines = no_lines _ s.programs st.1; programs = h.programs; stands = (st.0, maps.1, st.1) }

before_cpu : (s : Told) → IsOpen s → IsOneOf (places.Map ∷ places.Program ∷ []) s.place → IsLate s × (1 ≤ pages_of s.vpages)
before_cpu s h one = elim one [
  | inl a ↦ (let st = at s places.Map h a in (st.0, st.1))
  | inr r ↦ elim r [ inl b ↦ (let st = at s places.Program h b in (st.0, st.1)) | inr n ↦ absurd n ]
]

told_cpu : (s : Told) (p : ℕ) → IsOpen s → IsOneOf (places.Map ∷ places.Program ∷ []) s.place → Ranged s (items.Cpu p) → IsOpen (with_item s (items.Cpu p))
told_cpu s p h one r =
    let st = before_cpu s h one in
    let len = length-append s.programs ([] ∷ []) in
    record { machine = h.machine; words = h.words; few = h.few; order = h.order; plan = h.plan; maps = h.maps; lines = All-more _ s.programs [] h.lines tt; programs = omega (arith, len, r.0, r.1); stands = (st.0, st.1, omega (arith, len)) }

with_line-all : (P : Line → Type 0) (ps : List (List Line)) (l : Line) → AllByRecursion (λ q. AllByRecursion P q) ps → P l → AllByRecursion (λ q. AllByRecursion P q) (with_line ps l)
with_line-all P [] l h p = tt
with_line-all P (q ∷ []) l h p = (All-more P q l h.0 p, tt)
with_line-all P (q ∷ r ∷ ps) l h p = (h.0, with_line-all P (r ∷ ps) l h.1 p)

length-with_line : (ps : List (List Line)) (l : Line) → length (with_line ps l) ≡ length ps
length-with_line [] l = refl
length-with_line (q ∷ []) l = refl
length-with_line (q ∷ r ∷ ps) l = ap suc (length-with_line (r ∷ ps) l)

told_access : (s : Told) (l : Line) → IsOpen s → s.place ≡ places.Program → IsReach s.words s.vpages l → IsOpen (with_item s (items.Access l))
told_access s l h e reach =
    let st = at s places.Program h e in
    let len = length-with_line s.programs l in
    let stands : Stands places.Program (with_item s (items.Access l)) = (st.0, st.1, omega (arith, len, st.2)) in
    record { machine = h.machine; words = h.words; few = h.few; order = h.order; plan = h.plan; maps = h.maps; lines = with_line-all (IsReach s.words s.vpages) s.programs l h.lines reach; programs = omega (arith, len, h.programs); stands = subst (λ p. Stands p (with_item s (items.Access l))) (sym e) stands }

told_go : (s : Told) (g : _) → IsOpen s → s.place ≡ places.Plan → IsPlanItem s.cpus g → IsOpen (with_item s (items.Go g))
told_go s g h e is =
    let st = at s places.Plan h e in
    let stands : Stands places.Plan (with_item s (items.Go g)) = st in
    record { machine = h.machine; words = h.words; few = h.few; order = h.order; plan = All-more (IsPlanItem s.cpus) s.plan g h.plan is; maps = h.maps; lines = h.lines; programs = h.programs; stands = subst (λ p. Stands p (with_item s (items.Go g))) (sym e) stands }

alone : (q p : Place) → IsOneOf (q ∷ []) p → p ≡ q
alone q p one = elim one [ inl e ↦ e | inr n ↦ absurd n ]

-- what holds after an item that follows
pub told_item : (s : Told) (i : Item) (t : Told) → IsToldSoFar s → IsOneOf (before_of i) s.place → Ranged s i → ruled s i ≡ Ok t → IsToldSoFar t
told_item s (items.Version n) t told one r e =
    let none = begun s (alone _ _ one) told in
    let is : with_item s (items.Version n) ≡ t = cc in
    inr (subst (λ (k : Told). IsOpen k) is (subst (λ (k : Told). IsOpen (with_item k (items.Version n))) (sym none) (told_version n r)))
told_item s (items.Page w) t told one r e =
    let is : with_item s (items.Page w) ≡ t = cc in
    inr (subst (λ (k : Told). IsOpen k) is (told_page s w (opened s (before_of (items.Page w)) ((λ x. cc), tt) one told) (alone _ _ one) r))
told_item s (items.Tiers f g) t told one r e =
    let is : with_item s (items.Tiers f g) ≡ t = cc in
    inr (subst (λ (k : Told). IsOpen k) is (told_tiers s f g (opened s (before_of (items.Tiers f g)) ((λ x. cc), ((λ x. cc), tt)) one told) one r))
told_item s (items.Node n) t told one r e =
    let few = refused (nat_lt 4 (tier_count (s.nodes ++ n ∷ []))) (Ok (with_item s (items.Node n))) t _ e in
    let is : with_item s (items.Node n) ≡ t = cc in
    inr (subst (λ (k : Told). IsOpen k) is (told_node s n (opened s (before_of (items.Node n)) ((λ x. cc), ((λ x. cc), ((λ x. cc), tt))) one told) one r (ltb-false _ _ few.0)))
told_item s (items.Cpus p) t told one r e =
    let is : with_item s (items.Cpus p) ≡ t = cc in
    inr (subst (λ (k : Told). IsOpen k) is (told_cpus s p (opened s (before_of (items.Cpus p)) ((λ x. cc), tt) one told) (alone _ _ one) r.0 r.1 r.2))
told_item s (items.Retry k) t told one r e =
    let is : with_item s (items.Retry k) ≡ t = cc in
    inr (subst (λ (j : Told). IsOpen j) is (told_retry s k (opened s (before_of (items.Retry k)) ((λ x. cc), tt) one told) (alone _ _ one) r.0 r.1))
told_item s (items.Serial n) t told one r e =
    let is : with_item s (items.Serial n) ≡ t = cc in
    let h = opened s (before_of (items.Serial n)) ((λ x. cc), ((λ x. cc), tt)) one told in
    inr (subst (λ (k : Told). IsOpen k) is (record { machine = h.machine; words = h.words; few = h.few; order = r; plan = h.plan; maps = h.maps; lines = h.lines; programs = h.programs; stands = late s h one }))
told_item s (items.Shuffle m n) t told one r e =
    let is : with_item s (items.Shuffle m n) ≡ t = cc in
    let h = opened s (before_of (items.Shuffle m n)) ((λ x. cc), ((λ x. cc), tt)) one told in
    inr (subst (λ (k : Told). IsOpen k) is (record { machine = h.machine; words = h.words; few = h.few; order = r; plan = h.plan; maps = h.maps; lines = h.lines; programs = h.programs; stands = late s h one }))
told_item s (items.Plan n) t told one r e =
    let is : with_item s (items.Plan n) ≡ t = cc in
    let h = opened s (before_of (items.Plan n)) ((λ x. cc), ((λ x. cc), tt)) one told in
    inr (subst (λ (k : Told). IsOpen k) is (record { machine = h.machine; words = h.words; few = h.few; order = r; plan = h.plan; maps = h.maps; lines = h.lines; programs = h.programs; stands = late s h one }))
told_item s (items.Go g) t told one r e =
    let is : with_item s (items.Go g) ≡ t = cc in
    inr (subst (λ (k : Told). IsOpen k) is (told_go s g (opened s (before_of (items.Go g)) ((λ x. cc), tt) one told) (alone _ _ one) r))
told_item s (items.Map v p) t told one r e =
    let is : with_item s (items.Map v p) ≡ t = cc in
    inr (subst (λ (k : Told). IsOpen k) is (told_map s v p (opened s (before_of (items.Map v p)) ((λ x. cc), ((λ x. cc), ((λ x. cc), ((λ x. cc), ((λ x. cc), tt))))) one told) one r))
told_item s (items.Cpu p) t told one r e =
    let is : with_item s (items.Cpu p) ≡ t = cc in
    inr (subst (λ (k : Told). IsOpen k) is (told_cpu s p (opened s (before_of (items.Cpu p)) ((λ x. cc), ((λ x. cc), tt)) one told) one r))
told_item s (items.Access l) t told one r e =
    let is : with_item s (items.Access l) ≡ t = cc in
    inr (subst (λ (k : Told). IsOpen k) is (told_access s l (opened s (before_of (items.Access l)) ((λ x. cc), tt) one told) (alone _ _ one) r))

-- ---- what the code needs

-- before the first tiers there are no nodes
pub few_nodes : (s : Told) → IsToldSoFar s → IsOneOf (places.Version ∷ places.Page ∷ []) s.place → length s.nodes < 16
few_nodes s told one =
    let h = opened s (places.Version ∷ places.Page ∷ []) ((λ x. cc), ((λ x. cc), tt)) one told in
    let none : s.nodes ≡ [] = elim one [ inl a ↦ (at s places.Version h a).1 | inr r ↦ elim r [ inl b ↦ (at s places.Page h b).1 | inr n ↦ absurd n ] ] in
    omega (arith, ap length none)

-- an item that was read follows
pub item-follows : (s : Told) (line : List ℕ) (i : Item) → IsToldSoFar s → item_at s line ≡ Ok i → Follows s s.place line i
item-follows s line i told e = item_at-some s line i (few_nodes s told) e

-- there are at most 16 processors and 4,096 frames
pub told-few : (s : Told) → IsToldSoFar s → (s.frames ≤ 4096) × (s.cpus ≤ 16)
told-few s told = elim told [ inl e ↦ (omega (arith, ap (λ t. t.frames) e), omega (arith, ap (λ t. t.cpus) e)) | inr h ↦ (h.machine.few, h.few) ]

node_frames : (s : Told) → IsOpen s → (s.version ≡ 1 → ⊥) → s.frames ≡ frames_of s.nodes
node_frames s h v = elim h.machine.parts [ inl q ↦ absurd (v q.0) | inr t ↦ t.1.frames_are ]

fits : (s : Told) (i : Item) → IsToldSoFar s → IsOneOf (before_of i) s.place → Ranged s i → ItemFits s i
fits s (items.Version n) told one r = tt
fits s (items.Page n) told one r = tt
fits s (items.Tiers f t) told one r = omega (arith, r.5)
fits s (items.Node n) told one r = (r.5, node_frames s (opened s (before_of (items.Node n)) ((λ x. cc), ((λ x. cc), ((λ x. cc), tt))) one told) r.0)
fits s (items.Cpus n) told one r = tt
fits s (items.Retry n) told one r = tt
fits s (items.Serial n) told one r = tt
fits s (items.Shuffle m n) told one r = tt
fits s (items.Plan n) told one r = tt
fits s (items.Go g) told one r = tt
fits s (items.Map v p) told one r = tt
fits s (items.Cpu p) told one r = tt
fits s (items.Access l) told one r =
    let st = at s places.Program (opened s (before_of (items.Access l)) ((λ x. cc), tt) one told) (alone _ _ one) in
    omega (arith, st.2)

pub item-fits : (s : Told) (line : List ℕ) (i : Item) → IsToldSoFar s → item_at s line ≡ Ok i → ItemFits s i
item-fits s line i told e = let f = item-follows s line i told e in fits s i told f.stands f.range

-- what holds after a line that was taken
pub told-step : (s t : Told) (line : List ℕ) → IsToldSoFar s → told_with s line ≡ Ok t → IsToldSoFar t
unfolding told_with
told-step s t line told e =
    let i = chained _ _ _ e in
    let f = item-follows s line i.0 told i.1.0 in
    told_item s i.0 t told f.stands f.range i.1.1
