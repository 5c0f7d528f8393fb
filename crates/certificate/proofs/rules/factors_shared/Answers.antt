-- `certificate::rules::factors_shared` meets its contract: by the period where that is coprime to n, elsewhere by the powers of x^n.
use mathlib.Core.Path.{sym, ap, ◌∙◌}
use mathlib.Core.Bool.{not}
use Prim.Native.Nat.{ℕ}
use Rattle.binary.specs.Factor.{coprime}
use Rattle.document.proofs.Tested.{apart_is, apart_coprime}
use Rattle.certificate.proofs.rules.factors_shared.Goals as goal

pub returns-then-not-coprime : goal.returns-then-not-coprime
returns-then-not-coprime c = let p = c.requires in ap not (c.independent.ensures ∙ sym (apart_is p.1 p.0))

pub returns-else-not-coprime : goal.returns-else-not-coprime
returns-else-not-coprime c = let p = c.requires in
    let e = ap (λ (x : ℕ). coprime x c.args.n) (sym c.period.ensures) ∙ sym c.coprime.ensures ∙ c.if-not-coprime.false in
    ap not (c.if-not-coprime.false ∙ sym (apart_coprime p.1 p.0 e))
