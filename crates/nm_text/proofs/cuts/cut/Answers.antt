use Rattle.std.proofs.Common.{◌+◌, sym}
use Rattle.std.proofs.lemmas.List.{take_rest}
use Rattle.nm_text.proofs.CutLemmas.{cut_of-place, cut_of-no_place}
use Rattle.nm_text.proofs.cuts.cut.Goals as goal

pub returns-in_err-place-clause-none : goal.returns-in_err-place-clause-none
returns-in_err-place-clause-none c = rw c.from_residual.ensures (cut_of-no_place c.args.at c.args.text.now (sym c.in_err-place.ensures))

pub returns-clause-some : goal.returns-clause-some
returns-clause-some c = rw (take_rest c.args.text.now (c.in_ok-place.place + 1)) (cut_of-place c.args.at c.in_ok-place.place c.args.text.now (sym c.in_ok-place.ensures))
