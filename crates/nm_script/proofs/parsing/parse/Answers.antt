use Rattle.nm_script.proofs.FirstFaults.{fault-of, fault-only}
use Rattle.nm_script.proofs.OneReading.{refused-of_text}
use Rattle.nm_script.proofs.Texts.{text-of, text-only}
use Rattle.nm_script.proofs.parsing.parse.Goals as goal

pub returns-clause-found : goal.returns-clause-found
returns-clause-found c = text-of c.read_script.result c.args.bytes.now c.read_script.ensures.exact

pub returns-clause-only : goal.returns-clause-only
returns-clause-only c = λ s h. text-only c.read_script.result c.args.bytes.now c.read_script.ensures.exact s h

pub returns-clause-fault : goal.returns-clause-fault
returns-clause-fault c = fault-of c.read_script.result c.args.bytes.now c.read_script.ensures.exact

pub returns-clause-first : goal.returns-clause-first
returns-clause-first c = λ f n h. fault-only c.read_script.result c.args.bytes.now c.read_script.ensures.exact f n h

pub returns-clause-of_text : goal.returns-clause-of_text
returns-clause-of_text c = refused-of_text c.read_script.result c.args.bytes.now (fault-of c.read_script.result c.args.bytes.now c.read_script.ensures.exact)
