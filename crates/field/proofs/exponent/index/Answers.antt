-- `field::exponent::index` meets its contract: a logarithm and a product of two numbers below the order fold into two rounds.
use Rattle.field.proofs.Exponents.{exponent_lt}
use Rattle.field.proofs.exponent.index.Goals as goal

pub fold-requires : goal.fold-requires
fold-requires c = let p = c.requires in (p.0, rw (c.from.ensures, c.from-2.ensures) (exponent_lt _ _ _ _ p.1 p.3 p.2))
