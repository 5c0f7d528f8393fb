-- `generator::coset::members` meets its contract: the degree counts the members met, and x is the next.
use native.Mathlib.Omega.{arith}
use Rattle.generator.proofs.CosetWalk.{walking_start, walking_lt, walking_more, walking_end}
use Rattle.generator.proofs.coset.members.Goals as goal

pub loop-x-init : goal.loop-x-init
loop-x-init c = walking_start c.requires

pub overflow_add-degree : goal.overflow_add-degree
overflow_add-degree c = omega (arith, walking_lt c.requires c.loop-x.invariant, c.requires.small)

pub loop-x-smaller : goal.loop-x-smaller
loop-x-smaller c = omega (arith, walking_lt c.requires c.loop-x.invariant)

pub loop-x-preserved : goal.loop-x-preserved
loop-x-preserved c = walking_more c.requires c.loop-x.invariant c.twice-x.ensures c.if-x-r.false

pub returns-then-x-r : goal.returns-then-x-r
returns-then-x-r c = walking_end c.requires c.loop-x.invariant c.twice-x.ensures c.if-x-r.true
