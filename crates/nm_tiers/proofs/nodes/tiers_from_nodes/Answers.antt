-- What the list of quotients is, that there is a tier where there is a node, and that the frames are those of the nodes.
use Rattle.std.proofs.Common.{◌≡◌, ◌<◌, List, length, IfOk, rules, arith}
use Rattle.nm_tiers.specs.declared.nodes.Node.{Node}
use Rattle.nm_tiers.specs.Tiers.{tiers_of}
use Rattle.nm_tiers.proofs.Law.{AreQuotients-quotients_of, tier_count-pos, IfOk-count}
use Rattle.nm_tiers.proofs.Total.{IfOk-sum}
use Rattle.nm_tiers.proofs.nodes.tiers_from_nodes.Goals as goal

pub returns-then-count-gt-MOST_TIERS-clause-quotients : goal.returns-then-count-gt-MOST_TIERS-clause-quotients
returns-then-count-gt-MOST_TIERS-clause-quotients c = AreQuotients-quotients_of c.args.nodes.now

pub returns-clause-quotients : goal.returns-clause-quotients
returns-clause-quotients c = AreQuotients-quotients_of c.args.nodes.now

pub returns-clause-count : goal.returns-clause-count
returns-clause-count c =
    let nodes : List Node = c.args.nodes.now in
    let formed : IfOk c.map_err.result (λ v. v.items ≡ tiers_of nodes) = search rules in
    let some : 0 < length nodes = grind (arith, c.is_empty.ensures, c.if-is_empty.false) in
    IfOk-count (λ v. v.items) nodes c.map_err.result formed (tier_count-pos nodes some) (omega arith)

pub returns-clause-frames : goal.returns-clause-frames
returns-clause-frames c =
    let formed : IfOk c.map_err.result (λ v. v.items ≡ tiers_of c.args.nodes.now) = search rules in
    IfOk-sum (λ v. v.items) c.args.nodes.now c.map_err.result formed
