-- `certificate::check::check` meets its contract: a certificate that keeps rule 1 may be checked against the others.
use native.Mathlib.Omega.{arith}
use mathlib.Core.Path.{sym, ap, ap₂, ◌∙◌}
use mathlib.Core.Bool.{not}
use Prim.Native.Nat.{ℕ, ◌+◌, ◌-◌, ◌/◌}
use Rattle.field.specs.Field.{order_of_two}
use Rattle.binary.specs.Factor.{degree, common}
use Rattle.document.specs.Certificate.{distance}
use Rattle.document.specs.Apart.{factors_apart}
use Rattle.certificate.proofs.Ranges.{ranged, L-within}
use Rattle.certificate.proofs.Checks.{check_pass, ratio_of, modulus_of, walkable_of}
use Rattle.certificate.proofs.check.check.Goals as goal

pub common-requires : goal.common-requires
common-requires c =
    rw (c.from-f.ensures, c.from-h.ensures) (ratio_of (ranged _ _ _ (sym c.wrong_range.ensures ∙ c.if-wrong_range.false)))

pub factors_shared-requires : goal.factors_shared-requires
factors_shared-requires c = (
  rw c.from-f.ensures
      (modulus_of (ranged _ _ _ (sym c.wrong_range.ensures ∙ c.if-wrong_range.false))
      (c.degree-u.ensures ∙ ap degree c.from-f.ensures)),
  c.requires.length_stated,
)

pub wrong_terms-requires : goal.wrong_terms-requires
wrong_terms-requires c = let p = c.requires in
    walkable_of (ranged _ _ _ (sym c.wrong_range.ensures ∙ c.if-wrong_range.false)) p.length_stated.odd.most (omega arith) p.long

pub distance-requires : goal.distance-requires
distance-requires c =
    let r = ranged _ _ _ (sym c.wrong_range.ensures ∙ c.if-wrong_range.false) in
    let u = c.degree-u.ensures ∙ ap degree c.from-f.ensures in
    (omega (arith, u, r.u_low), omega (arith, u, r.u_high), omega arith)

pub returns-clause-checked : goal.returns-clause-checked
unfolding distance
returns-clause-checked c =
    let u = c.degree-u.ensures ∙ ap degree c.from-f.ensures in
    let v = c.degree.ensures ∙ ap degree c.from-h.ensures in
    check_pass _ _ _ _ (sym c.if-wrong_range.false ∙ c.wrong_range.ensures)
    (sym (ap₂ common c.from-f.ensures c.from-h.ensures) ∙ sym c.common.ensures ∙ c.if-common.false)
    (sym c.if-factors_shared.false ∙ c.factors_shared.ensures ∙ ap (λ (f : ℕ). not (factors_apart (order_of_two c.args.n) c.args.n f)) c.from-f.ensures)
    (rw c.if-wrong_terms.false at c.wrong_terms.ensures)
    (c.distance.ensures.0 ∙ ap (λ (l : ℕ). (l - c.degree.result + (c.degree-u.result - 1)) / c.degree-u.result + 1) c.from.ensures
    ∙ ap₂ (λ (d e : ℕ). (c.args.c.terms - e + (d - 1)) / d + 1) u v)

pub returns-clause-small : goal.returns-clause-small
returns-clause-small c = omega (arith, c.distance.ensures.1, L-within _ _ _ (sym c.wrong_range.ensures ∙ c.if-wrong_range.false))
