use Rattle.std.proofs.Common.{ℕ, ◌-◌, ◌==◌, ◌∙◌, not, false, sym, subst}
use Rattle.nm_shadow_fault.specs.declared.fault.FaultEnd.TheVariants.{Demand, Alias, Ready}
use Rattle.nm_missing_fault.specs.declared.missing.MissingStage.TheVariants.{Locking, Looking, Leaving, ReadingHome, ReadingShadow, Searching, Zeroing, SettingHome, Mapping, Unlocking}
use Rattle.nm_missing_fault.specs.Pieces.{missing_piece_made}
use Rattle.nm_missing_fault.specs.Stages.{missing_left}
use Rattle.nm_missing_fault.proofs.Runs.{RunsMissing, step-missing, over-missing}
use Rattle.nm_missing_fault.proofs.Steps.{after-locking, after-looking, after-looking-mapped, after-leaving, after-home, after-home-known, after-shadow, after-search, after-zeroes, after-set, after-map, after-unlock, shadow-frame, set-frame}
use Rattle.nm_missing_fault.proofs.missing.MissingFaultPlanMissingPiece.go_on.Goals as goal

pub go-requires-in-ReadingShadow : goal.go-requires-in-ReadingShadow
go-requires-in-ReadingShadow c = shadow-frame c.args.self.now c.in-ReadingShadow.frame c.requires.geometry c.requires.first c.requires.now _ c.in-ReadingShadow.is c.requires.known

pub go-requires-in-SettingHome : goal.go-requires-in-SettingHome
go-requires-in-SettingHome c = set-frame c.args.self.now c.in-SettingHome.frame c.requires.geometry c.requires.first c.requires.now _ c.in-SettingHome.is c.requires.known

pub returns-in-Locking-clause-next : goal.returns-in-Locking-clause-next
returns-in-Locking-clause-next c = λ g first now later own known shown left over. record {
  new = c.go.ensures.new;
  run = step-missing c.args.self.now c.go.new.self Locking Looking c.args.end (missing_piece_made c.args._piece.now) (missing_piece_made c.go.result) g first now later c.in-Locking.is known left c.go.ensures.stage c.go.ensures.made
      (λ k a. after-locking c.args.self.now.made g first now later c.args.end k a);
}

pub returns-then-told-eq0-clause-next : goal.returns-then-told-eq0-clause-next
returns-then-told-eq0-clause-next c = λ g first now later own known shown left over. record {
  new = c.go-then-told-eq0.ensures.new;
  run = step-missing c.args.self.now c.go-then-told-eq0.new.self Looking ReadingHome c.args.end (missing_piece_made c.args._piece.now) (missing_piece_made c.go-then-told-eq0.result) g first now later c.in-Looking.is known left c.go-then-told-eq0.ensures.stage c.go-then-told-eq0.ensures.made
      (λ k a. after-looking c.args.self.now.made g first now later c.args.end (sym c.missing_told-told.ensures ∙ c.if-told-eq0.true) k a);
}

pub returns-else-told-eq0-clause-next : goal.returns-else-told-eq0-clause-next
returns-else-told-eq0-clause-next c = λ g first now later own known shown left over. record {
  new = c.go-else-told-eq0.ensures.new;
  run = step-missing c.args.self.now c.go-else-told-eq0.new.self Looking Leaving c.args.end (missing_piece_made c.args._piece.now) (missing_piece_made c.go-else-told-eq0.result) g first now later c.in-Looking.is known left c.go-else-told-eq0.ensures.stage c.go-else-told-eq0.ensures.made
      (λ k a. after-looking-mapped c.args.self.now.made g first now later c.args.end (λ none. c.if-told-eq0.false (c.missing_told-told.ensures ∙ none)) k a);
}

pub returns-in-Leaving-clause-next : goal.returns-in-Leaving-clause-next
returns-in-Leaving-clause-next c = λ g first now later own known shown left over.
    over-missing c.args.self.now Leaving c.args.end (missing_piece_made c.args._piece.now) Ready g first now later c.in-Leaving.is known left
    (λ k a. after-leaving c.args.self.now.made g first now later c.args.end k a)

pub returns-in-ReadingShadow-clause-next : goal.returns-in-ReadingShadow-clause-next
returns-in-ReadingShadow-clause-next c = λ g first now later own known shown left over. record {
  new = c.go-in-ReadingShadow.ensures.new;
  run = step-missing c.args.self.now c.go-in-ReadingShadow.new.self (ReadingShadow c.in-ReadingShadow.frame) (Mapping c.in-ReadingShadow.frame (not (c.missing_told-told.result == 0)) Alias) c.args.end (missing_piece_made c.args._piece.now) (missing_piece_made c.go-in-ReadingShadow.result) g first now later c.in-ReadingShadow.is known left c.go-in-ReadingShadow.ensures.stage c.go-in-ReadingShadow.ensures.made
      (λ k a. let W : ℕ → Type 0 = λ w. RunsMissing c.args.self.now.made (Mapping c.in-ReadingShadow.frame (not (w == 0)) Alias) (missing_left c.args.self.now.made (ReadingShadow c.in-ReadingShadow.frame) g c.args.end) g first later in
      subst W (sym c.missing_told-told.ensures) (after-shadow c.args.self.now.made g first now later c.in-ReadingShadow.frame c.args.end k a));
}

pub returns-in-Searching-clause-next : goal.returns-in-Searching-clause-next
returns-in-Searching-clause-next c = λ g first now later own known shown left over. record {
  new = c.go-in-Searching.ensures.new;
  run = step-missing c.args.self.now c.go-in-Searching.new.self Searching (Zeroing c.missing_found-frame.result) c.args.end (missing_piece_made c.args._piece.now) (missing_piece_made c.go-in-Searching.result) g first now later c.in-Searching.is known left c.go-in-Searching.ensures.stage c.go-in-Searching.ensures.made
      (λ k a. let W : ℕ → Type 0 = λ w. RunsMissing c.args.self.now.made (Zeroing w) (missing_left c.args.self.now.made Searching g c.args.end) g first later in
      subst W (sym c.missing_found-frame.ensures) (after-search c.args.self.now.made g first now later c.args.end k a));
}

pub returns-in-Zeroing-clause-next : goal.returns-in-Zeroing-clause-next
returns-in-Zeroing-clause-next c = λ g first now later own known shown left over. record {
  new = c.go-in-Zeroing.ensures.new;
  run = step-missing c.args.self.now c.go-in-Zeroing.new.self (Zeroing c.in-Zeroing.frame) (SettingHome c.in-Zeroing.frame) c.args.end (missing_piece_made c.args._piece.now) (missing_piece_made c.go-in-Zeroing.result) g first now later c.in-Zeroing.is known left c.go-in-Zeroing.ensures.stage c.go-in-Zeroing.ensures.made
      (λ k a. after-zeroes c.args.self.now.made g first now later c.in-Zeroing.frame c.args.end k a);
}

pub returns-in-SettingHome-clause-next : goal.returns-in-SettingHome-clause-next
returns-in-SettingHome-clause-next c = λ g first now later own known shown left over. record {
  new = c.go-in-SettingHome.ensures.new;
  run = step-missing c.args.self.now c.go-in-SettingHome.new.self (SettingHome c.in-SettingHome.frame) (Mapping c.in-SettingHome.frame false Demand) c.args.end (missing_piece_made c.args._piece.now) (missing_piece_made c.go-in-SettingHome.result) g first now later c.in-SettingHome.is known left c.go-in-SettingHome.ensures.stage c.go-in-SettingHome.ensures.made
      (λ k a. after-set c.args.self.now.made g first now later c.in-SettingHome.frame c.args.end k a);
}

pub returns-in-Mapping-clause-next : goal.returns-in-Mapping-clause-next
returns-in-Mapping-clause-next c = λ g first now later own known shown left over. record {
  new = c.go-in-Mapping.ensures.new;
  run = step-missing c.args.self.now c.go-in-Mapping.new.self (Mapping _ _ c.in-Mapping.end) (Unlocking c.in-Mapping.end) c.args.end (missing_piece_made c.args._piece.now) (missing_piece_made c.go-in-Mapping.result) g first now later c.in-Mapping.is known left c.go-in-Mapping.ensures.stage c.go-in-Mapping.ensures.made
      (λ k a. after-map c.args.self.now.made g first now later _ _ c.in-Mapping.end c.args.end k a);
}

pub returns-in-Unlocking-clause-next : goal.returns-in-Unlocking-clause-next
returns-in-Unlocking-clause-next c = λ g first now later own known shown left over.
    over-missing c.args.self.now (Unlocking c.in-Unlocking.end) c.args.end (missing_piece_made c.args._piece.now) c.in-Unlocking.end g first now later c.in-Unlocking.is known left
    (λ k a. after-unlock c.args.self.now.made g first now later c.in-Unlocking.end c.args.end k a)

pub returns-then-told-eq0-2-clause-next : goal.returns-then-told-eq0-2-clause-next
returns-then-told-eq0-2-clause-next c = λ g first now later own known shown left over. record {
  new = c.go-then-told-eq0-2.ensures.new;
  run = step-missing c.args.self.now c.go-then-told-eq0-2.new.self ReadingHome Searching c.args.end (missing_piece_made c.args._piece.now) (missing_piece_made c.go-then-told-eq0-2.result) g first now later c.in-ReadingHome.is known left c.go-then-told-eq0-2.ensures.stage c.go-then-told-eq0-2.ensures.made
      (λ k a. after-home c.args.self.now.made g first now later c.args.end (sym c.missing_told-told.ensures ∙ c.if-told-eq0-2.true) k a);
}

pub returns-else-told-eq0-2-clause-next : goal.returns-else-told-eq0-2-clause-next
returns-else-told-eq0-2-clause-next c = λ g first now later own known shown left over. record {
  new = c.go-else-told-eq0-2.ensures.new;
  run = step-missing c.args.self.now c.go-else-told-eq0-2.new.self ReadingHome (ReadingShadow (c.missing_told-told.result - 1)) c.args.end (missing_piece_made c.args._piece.now) (missing_piece_made c.go-else-told-eq0-2.result) g first now later c.in-ReadingHome.is known left c.go-else-told-eq0-2.ensures.stage c.go-else-told-eq0-2.ensures.made
      (λ k a. let W : ℕ → Type 0 = λ w. RunsMissing c.args.self.now.made (ReadingShadow (w - 1)) (missing_left c.args.self.now.made ReadingHome g c.args.end) g first later in
      subst W (sym c.missing_told-told.ensures) (after-home-known c.args.self.now.made g first now later c.args.end (λ none. c.if-told-eq0-2.false (c.missing_told-told.ensures ∙ none)) k a));
}
