-- What a line was read as is spelled so, may stand there, and is in its ranges.
use Rattle.std.proofs.Common.{◌≡◌, ◌≢◌, ℕ, ◌+◌, ◌<◌, ◌≤◌, ◌^◌, ◌==◌, nat_lt, nat_le, ◌&&◌, ◌||◌, Bool, true, false, List, [], ◌∷◌, ◌++◌, length, Option, Some, None, is_some, IsSomeAnd, Result, Ok, Err, codes, decimal, refl, sym, ap, ◌∙◌, subst, inl, inr, arith}
use Rattle.std.specs.Bool.{if◌then◌else◌}
use Rattle.std.specs.Prelude.{slice_index_or}
use Rattle.std.specs.Option.{option_map}
use Rattle.std.specs.Str.{bytes_eq}
use Rattle.std.proofs.lemmas.Bool.{and_parts, or_cases, ltb-true, ltb-false, leb-true, eqb-true, eqb-false}
use Rattle.std.proofs.lemmas.Fmt.{decimal_digit}
use Rattle.std.proofs.lemmas.Option.{none-some, same_Some}
use Rattle.std.proofs.lemmas.Slice.Eq.{bytes_eq-Decides}
use Rattle.nm_base.specs.declared.geometry.VPage.{VPage}
use Rattle.nm_base.specs.Geometry.{IsPageSize}
use Rattle.nm_tiers.specs.declared.nodes.Node.{Node}
use Rattle.nm_script.specs.declared.fault.ScriptFault.{ScriptFault}
use Rattle.nm_script.specs.declared.script.Line.{Line}
use Rattle.nm_script.specs.declared.script.Line.TheVariants.{Load, Store, Add, Await}
use Rattle.nm_script.specs.declared.item.Item.{Item}
use Rattle.nm_script.specs.declared.item.Item.TheVariants as items
use Rattle.nm_script.specs.declared.item.Place.{Place}
use Rattle.nm_script.specs.declared.item.Place.TheVariants as places
use Rattle.nm_text.specs.Kinds.{kind_text}
use Rattle.nm_script.specs.Items.{item_text, actor_text, right_text, place_text}
use Rattle.nm_text.specs.Fields.{one_of, two_of, three_of}
use Rattle.nm_script.specs.Fields.{shuffle_of}
use Rattle.nm_script.specs.Told.{Told}
use Rattle.nm_script.specs.Following.{IsOneOf, before_of, IsItemInRange}
use Rattle.nm_script.specs.LineFaults.{is_page_size}
use Rattle.nm_script.specs.Reading.{ranged_in, header_in, page_in, page_line, tiers_in, tiers_line, node_in, node_line, cpus_in, cpus_line, retry_in, retry_line, serial_in, shuffle_in, plan_in, schedule_line, go_in, go_line, map_in, map_line, cpu_in, cpu_line, reached, load_in, store_in, add_in, await_in, access_line, tier_line, more_line, form_at, or_bad_line, item_at}
use Rattle.nm_text.proofs.FieldLemmas.{one_of-some, two_of-some, three_of-some}
use Rattle.nm_script.proofs.FieldLemmas.{chained, mapped, tested, refused, either_some, number_in-some, ranged_in-some, shuffle_of-some, map_of-some, go_of-some, actor_in-some, place_in-some}

-- a node's number of tiers is looked at when it is added
abbrev pub Ranged : Told → Item → Type 0
Ranged s (items.Node n) = (s.version ≢ 1) × (length s.nodes < 16) × (n.distance ≤ 65535) × (1 ≤ n.frames) × (n.frames ≤ 4095) × (s.frames + n.frames ≤ 4096)
Ranged s i = IsItemInRange s i

-- the line is spelled as the item, after one of these places
pub record Says (s : Told) (line : List ℕ) (after : List Place) (i : Item) : Type 0 where
  pub text : line ≡ item_text s.cpus i
  pub range : Ranged s i
  pub place : before_of i ≡ after

says : (s : Told) (line : List ℕ) (after : List Place) (k i : Item) → k ≡ i → line ≡ item_text s.cpus k → Ranged s k → before_of k ≡ after → Says s line after i
says s line after k i e text range place =
    subst (λ (j : Item). Says s line after j) e (record { text = text; range = range; place = place })

header_case : (a b : Bool) (s : Told) (line : List ℕ) (i : Item) (f : ScriptFault) → bytes_eq line (codes "nomad 1") ≡ a → bytes_eq line (codes "nomad 2") ≡ b → ◌≡◌ {A = Result Item ScriptFault} (if a then Ok (items.Version 1) else if b then Ok (items.Version 2) else Err f) (Ok i) → Says s line (places.Begin ∷ []) i
header_case true b s line i f x y e = says s line _ (items.Version 1) i (cc) ((bytes_eq-Decides line (codes "nomad 1")).0 x ∙ ap (λ d. codes "nomad " ++ d) (sym (decimal_digit 1 (omega arith)))) (inl refl) refl
header_case false true s line i f x y e = says s line _ (items.Version 2) i (cc) ((bytes_eq-Decides line (codes "nomad 2")).0 y ∙ ap (λ d. codes "nomad " ++ d) (sym (decimal_digit 2 (omega arith)))) (inr refl) refl
header_case false false s line i f x y e = absurd (cc)

header_in-some : (s : Told) (line : List ℕ) (i : Item) → header_in line ≡ Ok i → Says s line (places.Begin ∷ []) i
unfolding header_in
header_in-some s line i e = header_case (bytes_eq line (codes "nomad 1")) (bytes_eq line (codes "nomad 2")) s line i _ refl refl e

size_or : (a : Bool) (w k : ℕ) → k ≤ 9 → (a ≡ true → IsPageSize w) → (a || (w == 2 ^ k)) ≡ true → IsPageSize w
size_or a w k h f e = elim (or_cases a (w == 2 ^ k) e) [ inl t ↦ f t | inr q ↦ (k, h, eqb-true _ _ q) ]

-- what the test of a page's words says
pub page_size : (w : ℕ) → is_page_size w ≡ true → IsPageSize w
page_size w =
    size_or _ w 9 (omega arith) (size_or _ w 8 (omega arith) (size_or _ w 7 (omega arith) (size_or _ w 6 (omega arith) (size_or _ w 5 (omega arith) (size_or _ w 4 (omega arith) (size_or _ w 3 (omega arith) (size_or _ w 2 (omega arith) (size_or _ w 1 (omega arith) (λ e. (0, omega arith, eqb-true _ _ e))))))))))

page_line-some : (s : Told) (line : List ℕ) (i : Item) → page_line line ≡ Some (Ok i) → Says s line (places.Version ∷ []) i
unfolding page_line page_in
page_line-some s line i e =
    let m = mapped _ _ _ e in
    let w = chained _ _ _ m.1.1 in
    let t = tested (is_page_size w.0) (items.Page w.0) i _ w.1.1 in
    says s line _ (items.Page w.0) i t.1 (one_of-some _ line m.0 m.1.0 ∙ ap (λ f. codes "page " ++ f) (ranged_in-some 1 512 m.0 w.0 w.1.0).0) (page_size w.0 t.0) refl

two_text : (word line : List ℕ) (p : List ℕ × List ℕ) (a b : ℕ) → two_of word line ≡ Some p → p.0 ≡ decimal a → p.1 ≡ decimal b → line ≡ word ++ (decimal a ++ 32 ∷ decimal b)
two_text word line p a b e x y = two_of-some word line p e ∙ ap (λ f. word ++ (f ++ 32 ∷ p.1)) x ∙ ap (λ f. word ++ (decimal a ++ 32 ∷ f)) y

tiers_line-some : (s : Told) (line : List ℕ) (i : Item) → s.version ≡ 1 → tiers_line line ≡ Some (Ok i) → Says s line (places.Version ∷ places.Page ∷ []) i
unfolding tiers_line tiers_in
tiers_line-some s line i version e =
    let m = mapped _ _ _ e in
    let f = chained _ _ _ m.1.1 in
    let g = chained _ _ _ f.1.1 in
    let t = tested (nat_le (f.0 + g.0) 4096) (items.Tiers f.0 g.0) i _ g.1.1 in
    let a = ranged_in-some 1 4095 m.0.0 f.0 f.1.0 in
    let b = ranged_in-some 1 4095 m.0.1 g.0 g.1.0 in
    says s line _ (items.Tiers f.0 g.0) i t.1 (two_text _ line m.0 f.0 g.0 m.1.0 a.0 b.0) (version, a.1, a.2, b.1, b.2, leb-true _ _ t.0) refl

node_line-some : (s : Told) (line : List ℕ) (i : Item) → s.version ≢ 1 → length s.nodes < 16 → node_line s.frames line ≡ Some (Ok i) → Says s line (places.Version ∷ places.Page ∷ places.Tier ∷ []) i
unfolding node_line node_in
node_line-some s line i version few e =
    let m = mapped _ _ _ e in
    let d = chained _ _ _ m.1.1 in
    let f = chained _ _ _ d.1.1 in
    let node : Node = record { distance = d.0; frames = f.0 } in
    let t = tested (nat_le (s.frames + f.0) 4096) (items.Node node) i _ f.1.1 in
    let a = ranged_in-some 0 65535 m.0.0 d.0 d.1.0 in
    let b = ranged_in-some 1 4095 m.0.1 f.0 f.1.0 in
    says s line _ (items.Node node) i t.1 (two_text _ line m.0 d.0 f.0 m.1.0 a.0 b.0) (version, few, a.2, b.1, b.2, leb-true _ _ t.0) refl

cpus_line-some : (s : Told) (line : List ℕ) (i : Item) → cpus_line (length s.tiers) line ≡ Some (Ok i) → Says s line (places.Tier ∷ []) i
unfolding cpus_line cpus_in
cpus_line-some s line i e =
    let m = mapped _ _ _ e in
    let p = chained _ _ _ m.1.1 in
    let t = refused (nat_lt (length s.tiers) 2) (Ok (items.Cpus p.0)) i _ p.1.1 in
    let a = ranged_in-some 1 16 m.0 p.0 p.1.0 in
    says s line _ (items.Cpus p.0) i (cc) (one_of-some _ line m.0 m.1.0 ∙ ap (λ f. codes "cpus " ++ f) a.0) (a.1, a.2, ltb-false _ _ t.0) refl

one_case : (s : Told) (word line : List ℕ) (after : List Place) (low high : ℕ) (make : ℕ → Item) (field : List ℕ) (n : ℕ) (i : Item) → one_of word line ≡ Some field → ranged_in low high field ≡ Ok n → make n ≡ i
    → item_text s.cpus (make n) ≡ word ++ decimal n → ((low ≤ n) × (n ≤ high) → Ranged s (make n)) → before_of (make n) ≡ after → Says s line after i
one_case s word line after low high make field n i e r same text range place =
    let a = ranged_in-some low high field n r in
    says s line after (make n) i same (one_of-some word line field e ∙ ap (λ f. word ++ f) a.0 ∙ sym text) (range (a.1, a.2)) place

retry_line-some : (s : Told) (line : List ℕ) (i : Item) → retry_line s.version line ≡ Some (Ok i) → Says s line (places.Cpus ∷ []) i
unfolding retry_line retry_in
retry_line-some s line i e =
    let v = cond_some_then (s.version == 2) _ _ e in
    let m = mapped _ _ _ v.1 in
    let r = chained _ _ _ m.1.1 in
    one_case s _ line _ 0 1000 (λ k. items.Retry k) m.0 r.0 i m.1.0 r.1.0 (cc) refl (λ h. (eqb-true _ _ v.0, h.1)) refl
  where
    cond_some_then : {A : Type 0} (b : Bool) (o : Option A) (y : A) → (if b then o else None) ≡ Some y → (b ≡ true) × (o ≡ Some y)
    cond_some_then true o y e = (refl, e)
    cond_some_then false o y e = absurd (none-some y e)

serial-some : (s : Told) (line : List ℕ) (i : Item) → option_map serial_in (one_of (codes "serial turns ") line) ≡ Some (Ok i) → Says s line (places.Cpus ∷ places.Retry ∷ []) i
unfolding serial_in
serial-some s line i e =
    let m = mapped _ _ _ e in
    let r = chained _ _ _ m.1.1 in
    one_case s _ line _ 0 8000000 (λ k. items.Serial k) m.0 r.0 i m.1.0 r.1.0 (cc) refl (λ h. h.1) refl

plan-some : (s : Told) (line : List ℕ) (i : Item) → option_map plan_in (one_of (codes "plan turns ") line) ≡ Some (Ok i) → Says s line (places.Cpus ∷ places.Retry ∷ []) i
unfolding plan_in
plan-some s line i e =
    let m = mapped _ _ _ e in
    let r = chained _ _ _ m.1.1 in
    one_case s _ line _ 0 8000000 (λ k. items.Plan k) m.0 r.0 i m.1.0 r.1.0 (cc) refl (λ h. h.1) refl

shuffle-some : (s : Told) (line : List ℕ) (i : Item) → option_map shuffle_in (shuffle_of line) ≡ Some (Ok i) → Says s line (places.Cpus ∷ places.Retry ∷ []) i
unfolding shuffle_in
shuffle-some s line i e =
    let m = mapped _ _ _ e in
    let n = chained _ _ _ m.1.1 in
    let t = chained _ _ _ n.1.1 in
    let a = number_in-some m.0.0 n.0 n.1.0 in
    let b = ranged_in-some 0 8000000 m.0.1 t.0 t.1.0 in
    says s line _ (items.Shuffle n.0 t.0) i (cc) (shuffle_of-some line m.0 m.1.0 ∙ ap (λ f. codes "shuffle " ++ (f ++ (codes " turns " ++ m.0.1))) a.0 ∙ ap (λ f. codes "shuffle " ++ (decimal n.0 ++ (codes " turns " ++ f))) b.0) (a.1, b.2) refl

schedule_line-some : (s : Told) (line : List ℕ) (i : Item) → schedule_line line ≡ Some (Ok i) → Says s line (places.Cpus ∷ places.Retry ∷ []) i
unfolding schedule_line
schedule_line-some s line i e =
    elim (either_some _ _ _ e) [
      | inl a ↦ serial-some s line i a
      | inr r ↦ elim (either_some _ _ _ r) [ inl b ↦ shuffle-some s line i b | inr c ↦ plan-some s line i c ]
    ]

go_line-some : (s : Told) (line : List ℕ) (i : Item) → go_line s.cpus line ≡ Some (Ok i) → Says s line (places.Plan ∷ []) i
unfolding go_line go_in
go_line-some s line i e =
    let m = mapped _ _ _ e in
    let a = chained _ _ _ m.1.1 in
    let n = chained _ _ _ a.1.1 in
    let x = actor_in-some s.cpus m.0.0 a.0 a.1.0 in
    let y = ranged_in-some 1 1000000 m.0.2 n.0 n.1.0 in
    says s line _ (items.Go (record { actor = a.0; kind = m.0.1; count = n.0 })) i (cc) (go_of-some line m.0 m.1.0 ∙ ap (λ f. codes "go " ++ (f ++ 32 ∷ (kind_text m.0.1 ++ 32 ∷ m.0.2))) x.0 ∙ ap (λ f. codes "go " ++ (actor_text s.cpus a.0 ++ 32 ∷ (kind_text m.0.1 ++ 32 ∷ f))) y.0) (x.1, y.1, y.2) refl

not_some : {A : Type 0} (o : Option A) → is_some o ≡ false → o ≡ None
not_some None e = refl
not_some (Some x) e = absurd (cc)

map_line-some : (s : Told) (line : List ℕ) (i : Item) → map_line s line ≡ Some (Ok i) → Says s line (places.Cpus ∷ places.Retry ∷ places.Order ∷ places.Plan ∷ places.Map ∷ []) i
unfolding map_line map_in
map_line-some s line i e =
    let m = mapped _ _ _ e in
    let v = chained _ _ _ m.1.1 in
    let b = chained _ _ _ v.1.1 in
    let first = refused (is_some (slice_index_or s.vpages v.0 None)) _ i _ b.1.1 in
    let second = refused (nat_lt s.frames (b.0 + 1 + s.cpus + 9)) (Ok (items.Map v.0 (record { page = b.0; writable = m.0.2 }))) i _ first.1 in
    let x = ranged_in-some 0 4095 m.0.0 v.0 v.1.0 in
    let y = ranged_in-some 0 4095 m.0.1 b.0 b.1.0 in
    says s line _ (items.Map v.0 (record { page = b.0; writable = m.0.2 })) i (cc) (map_of-some line m.0 m.1.0 ∙ ap (λ f. codes "map " ++ (f ++ 32 ∷ (m.0.1 ++ 32 ∷ right_text m.0.2))) x.0 ∙ ap (λ f. codes "map " ++ (decimal v.0 ++ 32 ∷ (f ++ 32 ∷ right_text m.0.2))) y.0) (x.2, y.2, not_some _ first.0, ltb-false _ _ second.0) refl

cpu_line-some : (s : Told) (line : List ℕ) (i : Item) → cpu_line s line ≡ Some (Ok i) → Says s line (places.Map ∷ places.Program ∷ []) i
unfolding cpu_line cpu_in
cpu_line-some s line i e =
    let m = mapped _ _ _ e in
    let p = chained _ _ _ m.1.1 in
    let t = tested (p.0 == length s.programs && nat_lt p.0 s.cpus) (items.Cpu p.0) i _ p.1.1 in
    let both = and_parts _ _ t.0 in
    says s line _ (items.Cpu p.0) i t.1 (one_of-some _ line m.0 m.1.0 ∙ ap (λ f. codes "cpu " ++ f) (number_in-some m.0 p.0 p.1.0).0) (eqb-true _ _ both.0, ltb-true _ _ both.1) refl

reached-reads : (o : Option VPage) (l : Line) (i : Item) → reached o false l ≡ Ok i → (items.Access l ≡ i) × (is_some o ≡ true)
reached-reads None l i e = absurd (cc)
reached-reads (Some p) l i e = (cc, refl)

writes_case : (w : Bool) (l : Line) (i : Item) (f : ScriptFault) → ◌≡◌ {A = Result Item ScriptFault} (if true && (if w then false else true) then Err f else Ok (items.Access l)) (Ok i) → (items.Access l ≡ i) × (w ≡ true)
writes_case true l i f e = (cc, refl)
writes_case false l i f e = absurd (cc)

reached-writes : (o : Option VPage) (l : Line) (i : Item) → reached o true l ≡ Ok i → (items.Access l ≡ i) × IsSomeAnd o (λ p. p.writable ≡ true)
reached-writes None l i e = absurd (cc)
reached-writes (Some p) l i e = writes_case p.writable l i _ e

load-some : (s : Told) (line : List ℕ) (i : Item) → option_map (load_in s) (one_of (codes "load ") line) ≡ Some (Ok i) → Says s line (places.Program ∷ []) i
unfolding load_in
load-some s line i e =
    let m = mapped _ _ _ e in
    let p = chained _ _ _ m.1.1 in
    let r = reached-reads _ (Load p.0.0 p.0.1) i p.1.1 in
    let a = place_in-some s.words m.0 p.0 p.1.0 in
    says s line _ (items.Access (Load p.0.0 p.0.1)) i r.0 (one_of-some _ line m.0 m.1.0 ∙ ap (λ f. codes "load " ++ f) a.0) ((r.1, a.2), a.1) refl

store-some : (s : Told) (line : List ℕ) (i : Item) → option_map (store_in s) (two_of (codes "store ") line) ≡ Some (Ok i) → Says s line (places.Program ∷ []) i
unfolding store_in
store-some s line i e =
    let m = mapped _ _ _ e in
    let p = chained _ _ _ m.1.1 in
    let x = chained _ _ _ p.1.1 in
    let r = reached-writes _ (Store p.0.0 p.0.1 x.0) i x.1.1 in
    let a = place_in-some s.words m.0.0 p.0 p.1.0 in
    let b = number_in-some m.0.1 x.0 x.1.0 in
    says s line _ (items.Access (Store p.0.0 p.0.1 x.0)) i r.0 (two_of-some _ line m.0 m.1.0 ∙ ap (λ f. codes "store " ++ (f ++ 32 ∷ m.0.1)) a.0 ∙ ap (λ f. codes "store " ++ (place_text p.0.0 p.0.1 ++ 32 ∷ f)) b.0) ((r.1, a.2, b.1), a.1) refl

add-some : (s : Told) (line : List ℕ) (i : Item) → option_map (add_in s) (two_of (codes "add ") line) ≡ Some (Ok i) → Says s line (places.Program ∷ []) i
unfolding add_in
add-some s line i e =
    let m = mapped _ _ _ e in
    let p = chained _ _ _ m.1.1 in
    let x = chained _ _ _ p.1.1 in
    let r = reached-writes _ (Add p.0.0 p.0.1 x.0) i x.1.1 in
    let a = place_in-some s.words m.0.0 p.0 p.1.0 in
    let b = number_in-some m.0.1 x.0 x.1.0 in
    says s line _ (items.Access (Add p.0.0 p.0.1 x.0)) i r.0 (two_of-some _ line m.0 m.1.0 ∙ ap (λ f. codes "add " ++ (f ++ 32 ∷ m.0.1)) a.0 ∙ ap (λ f. codes "add " ++ (place_text p.0.0 p.0.1 ++ 32 ∷ f)) b.0) ((r.1, a.2, b.1), a.1) refl

await-some : (s : Told) (line : List ℕ) (i : Item) → option_map (await_in s) (three_of (codes "await ") line) ≡ Some (Ok i) → Says s line (places.Program ∷ []) i
unfolding await_in
await-some s line i e =
    let m = mapped _ _ _ e in
    let p = chained _ _ _ m.1.1 in
    let x = chained _ _ _ p.1.1 in
    let n = chained _ _ _ x.1.1 in
    let r = reached-reads _ (Await p.0.0 p.0.1 x.0 n.0) i n.1.1 in
    let a = place_in-some s.words m.0.0 p.0 p.1.0 in
    let b = number_in-some m.0.1 x.0 x.1.0 in
    let c = ranged_in-some 1 1000000000 m.0.2 n.0 n.1.0 in
    says s line _ (items.Access (Await p.0.0 p.0.1 x.0 n.0)) i r.0 (three_of-some _ line m.0 m.1.0 ∙ ap (λ f. codes "await " ++ (f ++ 32 ∷ (m.0.1 ++ 32 ∷ m.0.2))) a.0 ∙ ap (λ f. codes "await " ++ (place_text p.0.0 p.0.1 ++ 32 ∷ (f ++ 32 ∷ m.0.2))) b.0 ∙ ap (λ f. codes "await " ++ (place_text p.0.0 p.0.1 ++ 32 ∷ (decimal x.0 ++ 32 ∷ f))) c.0) ((r.1, a.2, b.1, c.1, c.2), a.1) refl

access_line-some : (s : Told) (line : List ℕ) (i : Item) → access_line s line ≡ Some (Ok i) → Says s line (places.Program ∷ []) i
unfolding access_line
access_line-some s line i e =
    elim (either_some _ _ _ e) [
      | inl a ↦ load-some s line i a
      | inr r ↦ elim (either_some _ _ _ r) [
        | inl b ↦ store-some s line i b
        | inr t ↦ elim (either_some _ _ _ t) [ inl c ↦ add-some s line i c | inr d ↦ await-some s line i d ]
      ]
    ]

-- ---- a line after what was told

-- the item may stand at this place, is in its ranges, and the line is spelled as it
pub record Follows (s : Told) (p : Place) (line : List ℕ) (i : Item) : Type 0 where
  pub stands : IsOneOf (before_of i) p
  pub range : Ranged s i
  pub text : line ≡ item_text s.cpus i

follows : (s : Told) (p : Place) (line : List ℕ) (after : List Place) (i : Item) → Says s line after i → IsOneOf after p → Follows s p line i
follows s p line after i h one = record { stands = subst (λ qs. IsOneOf qs p) (sym h.place) one; range = h.range; text = h.text }

version_case : (b : Bool) (s : Told) (p : Place) (line : List ℕ) (i : Item) → (s.version == 1) ≡ b → length s.nodes < 16 → IsOneOf (places.Version ∷ places.Page ∷ []) p → (if b then tiers_line line else node_line s.frames line) ≡ Some (Ok i) → Follows s p line i
version_case true s p line i v few one e = follows s p line _ i (tiers_line-some s line i (eqb-true _ _ v) e) one
version_case false s p line i v few one e =
    follows s p line _ i (node_line-some s line i (λ same. eqb-false _ _ v same) few e) (elim one [ inl a ↦ inl a | inr r ↦ elim r [ inl b ↦ inr (inl b) | inr n ↦ absurd n ] ])

tier_line-some : (s : Told) (p : Place) (line : List ℕ) (i : Item) → length s.nodes < 16 → IsOneOf (places.Version ∷ places.Page ∷ []) p → tier_line s line ≡ Some (Ok i) → Follows s p line i
unfolding tier_line
tier_line-some s p line i few one e = version_case (s.version == 1) s p line i refl few one e

more_case : (b : Bool) (s : Told) (line : List ℕ) (i : Item) → (s.version == 2 && nat_lt (length s.nodes) 16) ≡ b → (if b then node_line s.frames line else None) ≡ Some (Ok i) → Follows s places.Tier line i
more_case true s line i t e =
    let both = and_parts _ _ t in
    let two : s.version ≡ 2 = eqb-true _ _ both.0 in
    follows s places.Tier line _ i (node_line-some s line i (λ same. omega (arith, two, same)) (ltb-true _ _ both.1) e) (inr (inr (inl refl)))
more_case false s line i t e = absurd (none-some _ e)

more_line-some : (s : Told) (line : List ℕ) (i : Item) → more_line s line ≡ Some (Ok i) → Follows s places.Tier line i
unfolding more_line
more_line-some s line i e = more_case (s.version == 2 && nat_lt (length s.nodes) 16) s line i refl e

form_at-some : (s : Told) (p : Place) (line : List ℕ) (i : Item) → (IsOneOf (places.Version ∷ places.Page ∷ []) p → length s.nodes < 16) → form_at s p line ≡ Some (Ok i) → Follows s p line i
unfolding form_at
form_at-some s places.Begin line i few e = follows s _ line _ i (header_in-some s line i (same_Some _ _ e)) (inl refl)
form_at-some s places.Version line i few e =
    elim (either_some _ _ _ e) [
      | inl a ↦ follows s _ line _ i (page_line-some s line i a) (inl refl)
      | inr b ↦ tier_line-some s _ line i (few (inl refl)) (inl refl) b
    ]
form_at-some s places.Page line i few e = tier_line-some s _ line i (few (inr (inl refl))) (inr (inl refl)) e
form_at-some s places.Tier line i few e =
    elim (either_some _ _ _ e) [
      | inl a ↦ more_line-some s line i a
      | inr b ↦ follows s _ line _ i (cpus_line-some s line i b) (inl refl)
    ]
form_at-some s places.Cpus line i few e =
    elim (either_some _ _ _ e) [
      | inl a ↦ follows s _ line _ i (retry_line-some s line i a) (inl refl)
      | inr r ↦ elim (either_some _ _ _ r) [
        | inl b ↦ follows s _ line _ i (schedule_line-some s line i b) (inl refl)
        | inr c ↦ follows s _ line _ i (map_line-some s line i c) (inl refl)
      ]
    ]
form_at-some s places.Retry line i few e =
    elim (either_some _ _ _ e) [
      | inl b ↦ follows s _ line _ i (schedule_line-some s line i b) (inr (inl refl))
      | inr c ↦ follows s _ line _ i (map_line-some s line i c) (inr (inl refl))
    ]
form_at-some s places.Order line i few e = follows s _ line _ i (map_line-some s line i e) (inr (inr (inl refl)))
form_at-some s places.Plan line i few e =
    elim (either_some _ _ _ e) [
      | inl b ↦ follows s _ line _ i (go_line-some s line i b) (inl refl)
      | inr c ↦ follows s _ line _ i (map_line-some s line i c) (inr (inr (inr (inl refl))))
    ]
form_at-some s places.Map line i few e =
    elim (either_some _ _ _ e) [
      | inl b ↦ follows s _ line _ i (map_line-some s line i b) (inr (inr (inr (inr (inl refl)))))
      | inr c ↦ follows s _ line _ i (cpu_line-some s line i c) (inl refl)
    ]
form_at-some s places.Program line i few e =
    elim (either_some _ _ _ e) [
      | inl b ↦ follows s _ line _ i (cpu_line-some s line i b) (inr (inl refl))
      | inr c ↦ follows s _ line _ i (access_line-some s line i c) (inl refl)
    ]

or_bad_line-some : (o : Option (Result Item ScriptFault)) (i : Item) → or_bad_line o ≡ Ok i → o ≡ Some (Ok i)
or_bad_line-some None i e = absurd (cc)
or_bad_line-some (Some r) i e = ap (λ x. Some x) e

-- what a line was read as follows what was told, and is spelled by the line
pub item_at-some : (s : Told) (line : List ℕ) (i : Item) → (IsOneOf (places.Version ∷ places.Page ∷ []) s.place → length s.nodes < 16) → item_at s line ≡ Ok i → Follows s s.place line i
unfolding item_at
item_at-some s line i few e = form_at-some s s.place line i few (or_bad_line-some (form_at s s.place line) i e)
