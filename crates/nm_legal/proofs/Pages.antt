-- The words of pages after one word of a frame, or one home, was written.
use Rattle.std.proofs.Common.{◌≡◌, ℕ, ◌-◌, refl, sym, ap, ◌∙◌, inl, inr, arith}
use Rattle.std.proofs.lemmas.Bool.{cases_eq}
use Rattle.nm_base.specs.Geometry.{Geometry}
use Rattle.nm_base.specs.HomeWord.{home_word}
use Rattle.nm_base.specs.Ranges.{IsIndex}
use Rattle.nm_flat.specs.Memory.{Memory, with_stored}
use Rattle.nm_flat.proofs.Flat.{with_word-same, with_word-other}
use Rattle.nm_world.specs.Notions.{page_value}
use Rattle.nm_world.specs.Sights.{Sets, WritesOne}
use Rattle.nm_copies.proofs.Copying.{value_home}
use Rattle.nm_copies.proofs.Memory.{value_apart}

-- the words of a page are those of its home
pub value_at : (home : ℕ → ℕ) (mem : ℕ → ℕ → ℕ) (b f i : ℕ) → home b ≡ home_word f → page_value home mem b i ≡ mem f i
value_at home mem b f i is =
    value_home home mem b i (λ none. omega (arith, none, is)) ∙ ap (λ k. mem k i) (let at : home b - 1 ≡ f = omega (arith, is) in at)

-- the words of a page are left where its home is, and the words of its home
pub value_left : (home homes : ℕ → ℕ) (mem mems : ℕ → ℕ → ℕ) (b i : ℕ) → homes b ≡ home b → ((f j : ℕ) → mems f j ≡ mem f j) → page_value homes mems b i ≡ page_value home mem b i
value_left home homes mem mems b i same words =
    let home_same : page_value homes mems b i ≡ page_value home mems b i = rw same refl in
    let words_same : page_value home mems b i ≡ page_value home mem b i = rw (words (home b - 1) i) refl in
    home_same ∙ words_same

-- a word of the home of a page was written: so is the word of the page, and no other
pub value_stored : (home : ℕ → ℕ) (mem mems : ℕ → ℕ → ℕ) (memory : Memory) (b f i x c j : ℕ) → home b ≡ home_word f → ((d : ℕ) → home d ≡ home_word f → d ≡ b) → Sets mem mems f i x → page_value home mem c j ≡ memory c j → page_value home mems c j ≡ with_stored memory b i x c j
value_stored home mem mems memory b f i x c j is only sets h =
    elim (cases_eq c b) [
      | inl page ↦
          let at : home c ≡ home_word f = ap home page ∙ is in
          elim (cases_eq j i) [
            | inl word ↦
                let left : page_value home mems c j ≡ x = value_at home mems c f j at ∙ ap (mems f) word ∙ sets.here in
                let right : with_stored memory b i x c j ≡ x = rw (page, word) (with_word-same memory b i x) in
                left ∙ sym right
            | inr other ↦
                value_at home mems c f j at ∙ sets.rest j other ∙ sym (value_at home mem c f j at) ∙ h
                ∙ sym (with_word-other memory b i x c j (λ _. other))
          ]
      | inr away ↦
          value_apart home mem mems c f j (λ is. away (only c is)) (λ k n other. sets.others k n other) ∙ h
          ∙ sym (with_word-other memory b i x c j (λ same. absurd (away same)))
    ]

-- a page was given a frame with its words as home
pub value_homed : (g : Geometry) (home homes : ℕ → ℕ) (mem : ℕ → ℕ → ℕ) (b f c j : ℕ) → WritesOne home homes b (home_word f) → ((i : ℕ) → IsIndex g i → mem f i ≡ page_value home mem b i) → IsIndex g j → page_value homes mem c j ≡ page_value home mem c j
value_homed g home homes mem b f c j writes same index =
    elim (cases_eq c b) [
      | inl page ↦
          let at : homes c ≡ home_word f = ap homes page ∙ writes.here in
          value_at homes mem c f j at ∙ same j index ∙ ap (λ d. page_value home mem d j) (sym page)
      | inr away ↦ value_left home homes mem mem c j (writes.rest c away) (λ k n. refl)
    ]
