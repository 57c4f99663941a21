use Rattle.std.proofs.Common.{◌≡◌, drop}
use Rattle.nm_text.specs.Kinds.{kind_among}
use Rattle.nm_text.proofs.kinds.kind_among.Given as goal

abbrev pub invariant-loop-kind : goal.invariant-loop-kind
invariant-loop-kind l = kind_among l.kinds l.word ≡ kind_among (drop l.kind-index l.kinds) l.word
