use Rattle.std.proofs.Common.{sym, subst, ◌∙◌, ◌+◌, refl}
use Rattle.nm_missing_fault.specs.declared.search.SearchStage.TheVariants.{TakingAboveLow, Obtaining, TakingLast}
use Rattle.nm_base.specs.Geometry.{Geometry}
use Rattle.nm_missing_fault.specs.SearchStages.{search_piece_made, stage_from, search_left}
use Rattle.nm_missing_fault.proofs.SearchSteps.{RunsSearch, over-at, over-search, step-search, after-above, after-obtain, after-last}
use Rattle.nm_missing_fault.proofs.search.FrameSearchPlanSearchPiece.go_on.Goals as goal

pub returns-in-Some-clause-next : goal.returns-in-Some-clause-next
returns-in-Some-clause-next c = λ g first now later own known shown left over.
    over-search c.args.self.now c.args.self.now.stage c.args.end (search_piece_made c.args._piece.now) c.in-Some.frame g first now later refl known left
    (λ k a. over-at c.args.self.now.made c.args.self.now.stage g first now later c.args.end c.in-Some.frame (sym c.frame_found.ensures ∙ c.in-Some.is) k a)

pub returns-in-TakingAboveLow-clause-next : goal.returns-in-TakingAboveLow-clause-next
returns-in-TakingAboveLow-clause-next c = λ g first now later own known shown left over. record {
  new = c.go_from.ensures.new;
  run = step-search c.args.self.now c.go_from.new.self TakingAboveLow (stage_from c.args.self.now.geometry.now 1) c.args.end (search_piece_made c.args._piece.now) (search_piece_made c.go_from.result) g first now later c.in-TakingAboveLow.is known left c.go_from.ensures.stage c.go_from.ensures.made
      (λ k a. let G : Geometry → Type 0 = λ h. RunsSearch c.args.self.now.made (stage_from h 1) (search_left c.args.self.now.made TakingAboveLow g c.args.end) g first later in
      subst G (sym known.geometry) (after-above c.args.self.now.made g first now later c.args.end (sym c.frame_found.ensures ∙ c.in_default.is) k a));
}

pub returns-in-Obtaining-clause-next : goal.returns-in-Obtaining-clause-next
returns-in-Obtaining-clause-next c = λ g first now later own known shown left over. record {
  new = c.go_from-in-Obtaining.ensures.new;
  run = step-search c.args.self.now c.go_from-in-Obtaining.new.self (Obtaining c.in-Obtaining.tier) (stage_from c.args.self.now.geometry.now (c.in-Obtaining.tier + 1)) c.args.end (search_piece_made c.args._piece.now) (search_piece_made c.go_from-in-Obtaining.result) g first now later c.in-Obtaining.is known left c.go_from-in-Obtaining.ensures.stage c.go_from-in-Obtaining.ensures.made
      (λ k a. let G : Geometry → Type 0 = λ h. RunsSearch c.args.self.now.made (stage_from h (c.in-Obtaining.tier + 1)) (search_left c.args.self.now.made (Obtaining c.in-Obtaining.tier) g c.args.end) g first later in
      subst G (sym known.geometry) (after-obtain c.args.self.now.made c.in-Obtaining.tier g first now later c.args.end (sym c.frame_found.ensures ∙ c.in_default.is) k a));
}

pub returns-in-TakingLast-clause-next : goal.returns-in-TakingLast-clause-next
returns-in-TakingLast-clause-next c = λ g first now later own known shown left over. record {
  new = c.go.ensures.new;
  run = step-search c.args.self.now c.go.new.self TakingLast TakingAboveLow c.args.end (search_piece_made c.args._piece.now) (search_piece_made c.go.result) g first now later c.in-TakingLast.is known left c.go.ensures.stage c.go.ensures.made
      (λ k a. after-last c.args.self.now.made g first now later c.args.end (sym c.frame_found.ensures ∙ c.in_default.is) k a);
}
