-- The draft holds one reference more.
use Rattle.std.proofs.Common.{◌≡◌, ◌++◌, ◌∷◌, [], length, map, set, get_or, nat_eq, ap, sym, ◌∙◌, arith}
use Rattle.std.proofs.lemmas.List.{length-map}
use Rattle.std.proofs.lemmas.List.FromFn.{length-map-range_with_len}
use Rattle.indexmap.specs.IndexSet.{insert_key}
use Rattle.nm_script.specs.declared.script.Line.{Line}
use Rattle.nm_trace.specs.Imports.{referenced_page, pages_seen, program_for, line_for}
use Rattle.nm_trace.proofs.Pages.{frames-more, line-own, seen-push, programs-more, pages_seen-push, cpus_seen-push}
use Rattle.nm_trace.proofs.Outcomes.{OnOk-map}
use Rattle.nm_trace.proofs.draft.Draft.take.Goals as goal

pub push_line-requires : goal.push_line-requires
push_line-requires c =
    let held = c.requires.draft in
    let sixteen : length c.args.self.now.programs.items ≡ 16 =
    sym (length-map c.args.self.now.programs.items (λ p. p.items)) ∙ ap length held.1.programs ∙ length-map-range_with_len (program_for (pages_seen held.0) held.0) 0 16 in
    omega (arith, sixteen, c.args.self.now.programs.ok.0, c.requires.reference.cpu)

pub returns-then-len-self-clause-untaken : goal.returns-then-len-self-clause-untaken
returns-then-len-self-clause-untaken c refs h =
    let e = frames-more refs c.args.reference c.args.self.now.pages.keys c.number_of.new.pages.keys c.args.self.now.cpus h.pages c.in_ok-v.ensures.keys h.cpus in
    omega (arith, e, c.if-len-self.true, c.len.ensures.len, c.max-self.ensures)

pub returns-clause-taken : goal.returns-clause-taken
returns-clause-taken c refs h =
    let r = c.args.reference in
    let e = frames-more refs r c.args.self.now.pages.keys c.number_of.new.pages.keys c.args.self.now.cpus h.pages c.in_ok-v.ensures.keys h.cpus in
    let line : c.line_of-line.result ≡ line_for (pages_seen (refs ++ r ∷ [])) r =
    line-own refs r c.args.self.now.pages.keys c.in_ok-v.v c.line_of-line.result h.pages c.in_ok-v.ensures.number.0 c.line_of-line.ensures in
    OnOk-map c.push_line.result c.push_line.ensures.pushed (λ pushed. (
      record {
        pages = c.in_ok-v.ensures.keys ∙ ap (λ ks. insert_key nat_eq ks (referenced_page r)) h.pages ∙ sym (pages_seen-push refs r);
        cpus = omega (arith, c.max-self.ensures, h.cpus, cpus_seen-push refs r);
        few = omega (arith, cpus_seen-push refs r, h.few, c.requires.reference.cpu);
        programs = pushed ∙ ap (λ (l : Line). set (map (λ p. p.items) c.args.self.now.programs.items) r.cpu (get_or (map (λ p. p.items) c.args.self.now.programs.items) r.cpu [] ++ l ∷ [])) line
            ∙ programs-more refs r (map (λ p. p.items) c.args.self.now.programs.items) h.seen (omega (arith, c.requires.reference.cpu)) h.programs;
        seen = seen-push refs r h.seen;
      },
      omega (arith, e, c.if-len-self.false, c.len.ensures.len, c.max-self.ensures),
    ))
