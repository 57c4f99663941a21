use Rattle.std.proofs.Common.{rules}
use Rattle.nm_text.proofs.LineLemmas.{lines-front, lines-last, cut-shorter}
use Rattle.nm_text.proofs.fields.first_line.Goals as goal

pub returns-in-None-clause-lines : goal.returns-in-None-clause-lines
returns-in-None-clause-lines c = lines-last c.args.text.now (search rules) c.requires

pub returns-in-Some-clause-lines : goal.returns-in-Some-clause-lines
returns-in-Some-clause-lines c = lines-front c.args.text.now (c.in-Some.parts.0.now, c.in-Some.parts.1.now) (search rules)

pub returns-in-Some-clause-shorter : goal.returns-in-Some-clause-shorter
returns-in-Some-clause-shorter c = cut-shorter c.args.text.now (c.in-Some.parts.0.now, c.in-Some.parts.1.now) (search rules)
