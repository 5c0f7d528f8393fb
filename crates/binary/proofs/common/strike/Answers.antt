-- `binary::common::strike` meets its contract: the coefficient is 1, or the multiple is 0.
use native.Mathlib.Omega.{arith}
use lib.Pow.{shl_exact}
use Rattle.binary.proofs.CommonFactor.{strike_set, strike_clear}
use Rattle.binary.proofs.common.strike.Goals as goal

pub returns-then-r-s-eq1 : goal.returns-then-r-s-eq1
returns-then-r-s-eq1 c = strike_set _ _ _ _ _ (shl_exact 9 _ 64 c.requires.0 (omega arith)) c.if-r-s-eq1.true

pub returns-else-r-s-eq1 : goal.returns-else-r-s-eq1
returns-else-r-s-eq1 c = strike_clear _ _ _ _ c.if-r-s-eq1.false
