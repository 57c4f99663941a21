use Rattle.std.proofs.Common.{◌≡◌, ◌<◌, ℕ, length, subst, rules}
use Rattle.nm_schedule.specs.Standing.{IsPick, picked_by}
use Rattle.nm_schedule.proofs.Noting.{stands-picks}
use Rattle.nm_schedule.proofs.picker.Picker.pick.Goals as goal

pub returns-clause-picked : goal.returns-clause-picked
returns-clause-picked c = λ schedule actors before stands.
    let some : 0 < length c.args.self.now.active = search rules in
    let is : picked_by c.args.self.now ≡ c.pick_by.result = search rules in
    let P : ℕ → Type 0 = λ a. IsPick schedule actors before a in
    subst P is (stands-picks schedule actors c.args.self.now before some stands)
