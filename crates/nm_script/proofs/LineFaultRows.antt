-- Faults of some lines, by the definition.
use Rattle.std.proofs.Common.{◌≡◌, true, false, [], ◌∷◌, Some, None, codes, refl, sym, ap, ◌∙◌, subst, inl, inr, arith}
use Rattle.std.proofs.lemmas.Fmt.{decimal_digit}
use Rattle.nm_text.specs.Cuts.{Lacks, cut_of}
use Rattle.nm_text.specs.Numbers.{number_of}
use Rattle.nm_text.proofs.NumberLemmas.{number_of-decimal, number_of-apart, decimal-lacks}
use Rattle.nm_script.specs.declared.fault.ScriptFault.TheVariants as faults
use Rattle.nm_script.specs.declared.item.Place.TheVariants as places
use Rattle.nm_script.specs.LineFaults.{page_word_of}
use Rattle.nm_script.specs.Told.{Told, nothing}
use Rattle.nm_script.specs.LineFaults as forms
use Rattle.nm_script.specs.LineFaults.{Form, form_words, spaced, MayStand, IsFormOf, questions, IsFirstNo, IsLineFault}

-- in the program of the first processor, with four words a page and no mapped page
abbrev here : Told
here = record nothing { place = places.Program; version = 1; words = 4; cpus = 1; programs = [] ∷ [] }

nine : number_of (codes "9") ≡ Some 9
nine = ap number_of (sym (decimal_digit 9 (omega arith))) ∙ number_of-decimal 9 (omega arith)

zero_is : number_of (codes "0") ≡ Some 0
zero_is = ap number_of (sym (decimal_digit 0 (omega arith))) ∙ number_of-decimal 0 (omega arith)

four : number_of (codes "4") ≡ Some 4
four = ap number_of (sym (decimal_digit 4 (omega arith))) ∙ number_of-decimal 4 (omega arith)

letter : number_of (codes "x") ≡ None
letter = number_of-apart (codes "x") (λ n is. let other : Lacks 120 (codes "x") = subst (λ ds. Lacks 120 ds) (sym is.1) (decimal-lacks n 120 is.0 refl) in absurd (cc))

store_no : IsFirstNo (questions here (forms.store (codes "9.0") (codes "x"))) faults.BadNumber
unfolding page_word_of cut_of
store_no = record {
  before = (faults.BadNumber, true) ∷ (faults.OutOfRange, true) ∷ (faults.BadNumber, true) ∷ (faults.OutOfRange, true) ∷ [];
  after = (faults.Unmapped, false) ∷ (faults.ReadOnly, false) ∷ [];
  split = rw (nine, zero_is, letter) refl;
  yes = (refl, (refl, (refl, (refl, tt))));
}

-- all fields are looked at before the page, which is not mapped
pub store-row : IsLineFault here (codes "store 9.0 x") faults.BadNumber
store-row = inr (inr (forms.store (codes "9.0") (codes "x"), (inl refl, tt), (refl, (refl, (refl, (refl, tt)))), store_no))

load_no : IsFirstNo (questions here (forms.load (codes "9.4"))) faults.OutOfRange
unfolding page_word_of cut_of
load_no = record {
  before = (faults.BadNumber, true) ∷ (faults.OutOfRange, true) ∷ (faults.BadNumber, true) ∷ [];
  after = (faults.Unmapped, false) ∷ [];
  split = rw (nine, four) refl;
  yes = (refl, (refl, (refl, tt)));
}

-- a page of four words has no word 4
pub load-row : IsLineFault here (codes "load 9.4") faults.OutOfRange
load-row = inr (inr (forms.load (codes "9.4"), (inl refl, tt), (refl, (refl, (refl, tt))), load_no))

some_word : (form : Form) → [] ≡ spaced (form_words form) → ⊥
some_word (forms.page w) e = absurd (cc)
some_word (forms.tiers f t) e = absurd (cc)
some_word (forms.node d f) e = absurd (cc)
some_word (forms.cpus p) e = absurd (cc)
some_word (forms.retry r) e = absurd (cc)
some_word (forms.serial t) e = absurd (cc)
some_word (forms.shuffle n t) e = absurd (cc)
some_word (forms.plan t) e = absurd (cc)
some_word (forms.go a kind n) e = absurd (cc)
some_word (forms.map v b right) e = absurd (cc)
some_word (forms.cpu p) e = absurd (cc)
some_word (forms.load place) e = absurd (cc)
some_word (forms.store place x) e = absurd (cc)
some_word (forms.add place x) e = absurd (cc)
some_word (forms.await place x n) e = absurd (cc)

-- no form is empty
pub empty-row : IsLineFault here [] faults.BadLine
empty-row = inr (inl ((λ e. cc), (λ form may is. some_word form is.0), refl))
