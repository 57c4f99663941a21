use Rattle.nm_commit.specs.declared.decide.Decided.TheVariants.{Committed, Aborted}
use Rattle.nm_commit.specs.declared.decide.DecideStage.TheVariants.{MappingBack, UnlockingOld, PuttingBack, SettingHome, Reading, Shading, Mapping, Marking, Unlocking}
use Rattle.nm_commit.specs.Stages.{decide_made}
use Rattle.nm_commit.proofs.Runs.{step-decide, over-decide}
use Rattle.nm_commit.proofs.Steps.{after-mapping-back, after-unlocking-old, after-putting-back, after-setting-home, after-reading, after-shading, after-mapping, after-marking, after-unlocking}
use Rattle.nm_commit.proofs.decide.DecidePlanDecidePiece.go_on.Goals as goal

pub returns-in-MappingBack-clause-next : goal.returns-in-MappingBack-clause-next
returns-in-MappingBack-clause-next c = λ g first now later own known shown left over. record {
  new = c.go.ensures.new;
  run = step-decide c.args.self.now c.go.new.self MappingBack UnlockingOld c.args._end _ (decide_made c.go.result) g first now later own c.in-MappingBack.is known left shown c.go.ensures.stage c.go.ensures.made
      (λ k a. after-mapping-back c.args.self.now.made g first now later own c.args._end k a);
}

pub returns-in-UnlockingOld-clause-next : goal.returns-in-UnlockingOld-clause-next
returns-in-UnlockingOld-clause-next c = λ g first now later own known shown left over. record {
  new = c.go-in-UnlockingOld.ensures.new;
  run = step-decide c.args.self.now c.go-in-UnlockingOld.new.self UnlockingOld PuttingBack c.args._end _ (decide_made c.go-in-UnlockingOld.result) g first now later own c.in-UnlockingOld.is known left shown c.go-in-UnlockingOld.ensures.stage c.go-in-UnlockingOld.ensures.made
      (λ k a. after-unlocking-old c.args.self.now.made g first now later own c.args._end k a);
}

pub returns-in-PuttingBack-clause-next : goal.returns-in-PuttingBack-clause-next
returns-in-PuttingBack-clause-next c = λ g first now later own known shown left over.
    over-decide c.args.self.now PuttingBack c.args._end _ (Aborted c.args.self.now.made.word) g first now later own c.in-PuttingBack.is known left shown (λ k a. after-putting-back c.args.self.now.made g first now later own c.args._end k a)

pub returns-in-SettingHome-clause-next : goal.returns-in-SettingHome-clause-next
returns-in-SettingHome-clause-next c = λ g first now later own known shown left over. record {
  new = c.go-in-SettingHome.ensures.new;
  run = step-decide c.args.self.now c.go-in-SettingHome.new.self SettingHome Reading c.args._end _ (decide_made c.go-in-SettingHome.result) g first now later own c.in-SettingHome.is known left shown c.go-in-SettingHome.ensures.stage c.go-in-SettingHome.ensures.made
      (λ k a. after-setting-home c.args.self.now.made g first now later own c.args._end k a);
}

pub returns-in-Reading-clause-next : goal.returns-in-Reading-clause-next
returns-in-Reading-clause-next c = λ g first now later own known shown left over. record {
  new = c.go-in-Reading.ensures.new;
  run = step-decide c.args.self.now c.go-in-Reading.new.self Reading Shading c.args._end _ (decide_made c.go-in-Reading.result) g first now later own c.in-Reading.is known left shown c.go-in-Reading.ensures.stage c.go-in-Reading.ensures.made
      (λ k a. after-reading c.args.self.now.made g first now later own c.args._end k a);
}

pub returns-in-Shading-clause-next : goal.returns-in-Shading-clause-next
returns-in-Shading-clause-next c = λ g first now later own known shown left over. record {
  new = c.go-in-Shading.ensures.new;
  run = step-decide c.args.self.now c.go-in-Shading.new.self Shading Mapping c.args._end _ (decide_made c.go-in-Shading.result) g first now later own c.in-Shading.is known left shown c.go-in-Shading.ensures.stage c.go-in-Shading.ensures.made
      (λ k a. after-shading c.args.self.now.made g first now later own c.args._end k a);
}

pub returns-in-Mapping-clause-next : goal.returns-in-Mapping-clause-next
returns-in-Mapping-clause-next c = λ g first now later own known shown left over. record {
  new = c.go-in-Mapping.ensures.new;
  run = step-decide c.args.self.now c.go-in-Mapping.new.self Mapping Marking c.args._end _ (decide_made c.go-in-Mapping.result) g first now later own c.in-Mapping.is known left shown c.go-in-Mapping.ensures.stage c.go-in-Mapping.ensures.made
      (λ k a. after-mapping c.args.self.now.made g first now later own c.args._end k a);
}

pub returns-in-Marking-clause-next : goal.returns-in-Marking-clause-next
returns-in-Marking-clause-next c = λ g first now later own known shown left over. record {
  new = c.go-in-Marking.ensures.new;
  run = step-decide c.args.self.now c.go-in-Marking.new.self Marking Unlocking c.args._end _ (decide_made c.go-in-Marking.result) g first now later own c.in-Marking.is known left shown c.go-in-Marking.ensures.stage c.go-in-Marking.ensures.made
      (λ k a. after-marking c.args.self.now.made g first now later own c.args._end k a);
}

pub returns-in-Unlocking-clause-next : goal.returns-in-Unlocking-clause-next
returns-in-Unlocking-clause-next c = λ g first now later own known shown left over.
    over-decide c.args.self.now Unlocking c.args._end _ Committed g first now later own c.in-Unlocking.is known left shown (λ k a. after-unlocking c.args.self.now.made g first now later own c.args._end k a)
