-- Each draw makes one program longer by its line.
use Rattle.std.proofs.Common.{◌≡◌, ◌+◌, ◌/◌, ◌%◌, ◌^◌, List, [], ◌∷◌, ◌++◌, length, map, set, get_or, refl, sym, ap, ◌∙◌, arith}
use Rattle.std.proofs.lemmas.List.{length-map}
use Rattle.nm_script.specs.declared.script.Line.{Line}
use Rattle.nm_gen.specs.Generated.{next_draw, drawn, line_at, line_drawn, programs_of}
use Rattle.nm_gen.proofs.Draws.{drawn-suc, programs_more}
use Rattle.nm_gen.proofs.random.make_programs.Goals as goal

pub loop-i-init : goal.loop-i-init
unfolding drawn
loop-i-init c = record {
  drawn = refl;
  programs = ap (map (λ p. p.items)) c.in_ok-programs.ensures.items ∙ rw (c.new.ensures.items, c.new-2.ensures.items, c.new-3.ensures.items, c.new-4.ensures.items) refl;
}

pub push_line-requires : goal.push_line-requires
push_line-requires c =
    let four : length c.loop-i.programs.items ≡ 4 = sym (length-map c.loop-i.programs.items (λ p. p.items)) ∙ ap length c.loop-i.invariant.programs in
    omega (arith, four, c.loop-i.programs.ok.0)

pub loop-i-preserved : goal.loop-i-preserved
loop-i-preserved c =
    let n = c.args.number in let i = c.loop-i.i in
    let next : c.next-x.result ≡ drawn n (i + 1) = c.next-x.ensures ∙ ap next_draw c.loop-i.invariant.drawn ∙ sym (drawn-suc n i) in
    let line : c.make_line.result ≡ line_at n i = c.make_line.ensures ∙ ap (λ x. line_drawn (x / 2 ^ 33) i) next in
    record {
      drawn = next;
      programs = c.in_ok-push_line.ensures
          ∙ ap (λ (ps : List (List Line)). set ps (i % 4) (get_or ps (i % 4) [] ++ c.make_line.result ∷ [])) c.loop-i.invariant.programs
          ∙ ap (λ (l : Line). set (programs_of n i) (i % 4) (get_or (programs_of n i) (i % 4) [] ++ l ∷ [])) line
          ∙ programs_more n i;
    }
