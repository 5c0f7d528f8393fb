-- Values at all of D from those at the representatives.
--
--   conjugable      what the next coset needs
--   Extending, extending_start, extending_more, extending_end      the cosets of the first k represented
use mathlib.Core.Path.{◌≡◌, sym, ap, ◌∙◌, subst}
use mathlib.Core.List.{List}
use Prim.Native.Nat.{ℕ, ◌+◌, ◌*◌, ◌%◌, ◌^◌, ◌≤◌, ◌<◌}
use native.Mathlib.Decide.{ℕ_discrete}
use native.Mathlib.Omega.{arith}
use lib.ListN.{length, get_or}
use Rattle.document.proofs.Theory.{T_of, represented}
use Rattle.syndrome.specs.Value.{value_of, HeldAt, Conjugable, Conjugated, Extendable, Extended}
use Rattle.syndrome.proofs.Setting.{long, in_at, value_lt}

pub record Extending (n s k : ℕ) (reps val val' : List ℕ) : Type 0 where
  pub held : (c : ℕ) → HeldAt n s c reps val → HeldAt n s c reps val'
  pub done : (c : ℕ) → HeldAt n s c reps val → (i j : ℕ) → i < k
      → get_or val' (get_or reps i 0 * 2 ^ j % n) 0 ≡ value_of n s c (get_or reps i 0 * 2 ^ j % n)

pub extending_start : {n s : ℕ} {reps val : List ℕ} → Extending n s 0 reps val val
extending_start = record { held = λ c h. h; done = λ c h i j b. absurd (omega arith) }

pub extending_more : {n s k r v : ℕ} {reps val val' val'' : List ℕ} → Extending n s k reps val val' → k < length reps → r ≡ get_or reps k 0
    → v ≡ get_or val' r 0 → Conjugated n s r v val' val'' → Extending n s (k + 1) reps val val''
extending_more {n} {s} {k} {r} {v} {reps} {val} {val'} {val''} t b e f p = record {
  held = λ c h i l. p.kept c (here c h) (get_or reps i 0) (t.held c h i l);
  done = λ c h i j l. elim (ℕ_discrete i k) [
    | yes q ↦ (let at : get_or reps i 0 ≡ r = ap (λ (x : ℕ). get_or reps x 0) q ∙ sym e in
        subst (λ (x : ℕ). get_or val'' (x * 2 ^ j % n) 0 ≡ value_of n s c (x * 2 ^ j % n)) (sym at) (p.all c (here c h) j))
    | no q ↦ p.kept c (here c h) (get_or reps i 0 * 2 ^ j % n) (t.done c h i j (omega arith))
  ];
}
  where
    here : (c : ℕ) → HeldAt n s c reps val → v ≡ value_of n s c r
    here c h = f ∙ ap (λ (x : ℕ). get_or val' x 0) e ∙ t.held c h k b ∙ ap (value_of n s c) (sym e)

pub conjugable : {n s k r v : ℕ} {reps val val' : List ℕ} → Extendable n s reps val → Extending n s k reps val val' → k < length reps
    → r ≡ get_or reps k 0 → v ≡ get_or val' r 0 → length val' ≡ length val → Conjugable n s r v val'
conjugable {n} {s} {k} {r} {v} {reps} {val' = val'} p t h a f l = record {
  odd = p.setting.odd;
  s_is = p.setting.s_is;
  r_lt = subst (λ (x : ℕ). x < n) (sym a) (p.setting.below k h);
  v_lt = subst (λ (x : ℕ). x < 2 ^ s) (sym (f ∙ ap (λ (x : ℕ). get_or val' x 0) a ∙ t.held p.word p.held k h))
      (value_lt p.setting.degree _ p.word);
  degree = p.setting.degree;
  long = omega (arith, p.long, l);
}

pub extending_end : {n s k : ℕ} {reps val val' : List ℕ} → Extendable n s reps val → length reps ≤ k → Extending n s k reps val val'
    → Extended n s reps val val'
extending_end {n} {s} {k} {reps} {val = val} {val'} p h t = record {
  at = λ c hc i q.
      let r = (represented (long p.setting) reps).cover i (T_of q) in
      let a = in_at r.2 in
      let x : get_or reps a.0 0 * 2 ^ r.1 % n ≡ i = ap (λ (y : ℕ). y * 2 ^ r.1 % n) a.2 ∙ r.3 in
      subst (λ (y : ℕ). get_or val' y 0 ≡ value_of n s c y) x (t.done c hc a.0 r.1 (omega (arith, a.1)));
}
