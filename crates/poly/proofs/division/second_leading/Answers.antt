-- `poly::division::second_leading` meets its contract: where it is not 0, the coefficients it is made of are there.
use native.Mathlib.Omega.{arith}
use Rattle.poly.proofs.TwoTerms.{second_is}
use Rattle.poly.proofs.division.second_leading.Goals as goal

pub returns : goal.returns
returns c = λ h. second_is (omega (arith, c.requires.1, c.if-dividend-divisor.false)) (omega (arith, c.if-divisor-lt2.false)) c.scaled.ensures
