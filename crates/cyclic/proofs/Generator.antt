-- The generator of a code, and its multiples: the codewords.
--
--   checks C          the number of members of D below n, of check places: checks_le
--   dimension C       n less that number, of message places
--   zeros C           the α^i with i in D
--   product C         the product of x + α^i over them: product_monic, product_binary (coefficients 0 and 1 only)
--   generator C       the mask of that product: generator_lift, generator_coefficient
--   generator_degree, generator_zero      its degree, and its zeros among the powers of α
--   InCode C c      c is a multiple of the generator
--   codeword          exactly where it vanishes on D
--   generator_unique  the generator is the only mask of its degree that does
--   short             a shorter mask that does is 0
--   codeword_add      sums of codewords
--   codeword_raised   x^j times a mask is a codeword exactly where the mask is one
use mathlib.Core.Path.{◌≡◌, sym, ap, ◌∙◌, subst}
use mathlib.Core.Logic.{◌⊎◌, ◌↔◌}
use mathlib.Core.List.{List, map}
use lib.ListN.{length, length-map}
use lib.Dec.{T}
use Prim.Native.Nat.{ℕ, zero, suc, ◌+◌ as ◌+ℕ◌, ◌-◌ as ◌-ℕ◌, ◌*◌ as ◌*ℕ◌, ◌/◌, ◌%◌, ◌^◌, ◌≤◌, ◌<◌}
use native.Mathlib.Nat.{mod-lt, mul_assoc, pow-suc}
use native.Mathlib.Decide.{dec_lt}
use native.Mathlib.Omega.{arith}
use Rattle.algebra.proofs.Ring.{Ring, zero-add, zero-mul}
use Rattle.algebra.proofs.Power.{pow, pow-add, pow_mod, pow_inj}
use Rattle.algebra.proofs.Field.{cancel, idempotent, square_inj}
use Rattle.algebra.proofs.Lists.{In, Distinct, map_in, in_map, distinct_map, prod}
use Rattle.algebra.proofs.Divide.{divides_short}
use Rattle.algebra.proofs.Value.{ev}
use Rattle.field.specs.Mask.{◌⊕◌, coefficient, clmul, remainder}
use Rattle.field.proofs.Remainder.{deg_of}
use Rattle.field.proofs.Value.{coef, value, value_dbl, value_add, value_mul}
use Rattle.cyclic.proofs.Division.{◌∣ₘ◌, divides_add, divide, divides_iff}
use Rattle.cyclic.proofs.Monic.{Monic, monic_deg, monic_eq, Π, Π-monic, Π-value, Π-root, root_Π, Π-divides, Π-any, sq, squares_Π}
use Rattle.cyclic.proofs.Lift.{lift, lift_mul, lift_at, lift_below, lift_poly, lift_monic}
use Rattle.cyclic.proofs.Lift.{lift_value, lift_null, lift_inj, pack, pack_lt, pack_lift}
use Rattle.cyclic.proofs.CyclicCode.{Code, power_ne, Vanishes}
use Rattle.cyclic.proofs.Members.{members, members_in, in_members, members_distinct, members_le}

module _ {A : Type 0} {R : Ring A} {n : ℕ} (C : Code R n) where
  open R use {add as ◌+◌, 𝟘, 𝟙}

  infixl 65 ◌+◌
  open C use {K, α, order, D, closed}

  unfoldable pub checks : ℕ
  checks = length (members D n)

  pub checks_le : checks ≤ n
  unfolding checks
  checks_le = members_le D n

  -- k: of message places
  abbrev pub dimension : ℕ
  dimension = n -ℕ checks

  unfoldable pub zeros : List A
  zeros = map (pow R α) (members D n)

  zeros_length : length zeros ≡ checks
  unfolding zeros checks
  zeros_length = length-map (members D n) (pow R α)

  zeros_in : (i : ℕ) → i < n → T (D i) → In (pow R α i) zeros
  unfolding zeros
  zeros_in i h t = in_map (pow R α) (members_in D n i h t)

  -- a zero's exponent
  exponent : (x : A) → In x zeros → (i : ℕ) × (i < n) × T (D i) × (pow R α i ≡ x)
  unfolding zeros
  exponent x m =
      let r = map_in (pow R α) m in
      let s = in_members D n r.0 r.1 in
      (r.0, s.0, s.1, r.2)

  zeros_distinct : Distinct zeros
  unfolding zeros
  zeros_distinct =
      distinct_map (pow R α) (members D n) (members_distinct D n)
      (λ i j x y. pow_inj R α n order i j (in_members D n i x).0 (in_members D n j y).0)

  -- the square of a zero is one
  zeros_closed : (x : A) → In x zeros → In (sq R x) zeros
  zeros_closed x m =
      let w = exponent x m in
      let i : ℕ = w.0 in
      let e : i *ℕ 2 ≡ i +ℕ i = omega arith in
      subst (λ y. In y zeros) (sym (pow_mod R α n order (i *ℕ 2)) ∙ ap (pow R α) e ∙ pow-add R α i i ∙ ap (sq R) w.3)
      (zeros_in (i *ℕ 2 % n) (mod-lt _ order.pos) (closed i w.1 w.2))

  -- ---- the product
  abbrev pub product : ℕ → A
  product = Π R zeros

  pub product_monic : Monic R checks product
  product_monic = subst (λ (k : ℕ). Monic R k product) zeros_length (Π-monic R zeros)

  product_value : (x : A) → ev R (suc checks) product x ≡ prod R (λ a. x + a) zeros
  product_value x = ap (λ (k : ℕ). ev R (suc k) product x) (sym zeros_length) ∙ Π-value R zeros x

  -- the squares of the zeros are as many zeros, so squaring its coefficients changes nothing
  pub product_binary : (k : ℕ) → (product k ≡ 𝟘) ⊎ (product k ≡ 𝟙)
  product_binary k =
      idempotent R K (product k)
      (ap (λ p. p k)
      (squares_Π R zeros
      ∙ Π-any R K (length-map zeros (sq R)) (distinct_map (sq R) zeros zeros_distinct (λ a b i j. square_inj R K a b))
      (λ y m. let r = map_in (sq R) m in subst (λ z. In z zeros) r.2 (zeros_closed r.0 r.1))))

  -- ---- the mask
  pub generator : ℕ
  generator = pack R K (suc checks) product

  pub generator_lift : lift R generator ≡ product
  unfolding generator
  generator_lift = pack_lift R K product_monic.below product_binary

  pub generator_coefficient : (i : ℕ) → coef R (coefficient i generator) ≡ product i
  generator_coefficient i = sym (lift_at R i generator) ∙ ap (λ p. p i) generator_lift

  generator_lt : generator < 2 ^ suc checks
  unfolding generator
  generator_lt = pack_lt R K (suc checks) product

  pub generator_degree : generator / 2 ^ checks ≡ 1
  generator_degree = deg_of checks generator (go (dec_lt generator (2 ^ checks))) generator_lt
    where
      go : Dec (generator < 2 ^ checks) → 2 ^ checks ≤ generator
      go (yes l) =
          absurd ((monic_deg R K product_monic).top (ap (λ p. p checks) (sym generator_lift) ∙ (lift_below R l).at checks (omega arith)))
      go (no l) = omega arith

  generator_value : (x : A) → value R x generator ≡ prod R (λ a. x + a) zeros
  generator_value x =
      lift_value R (suc checks) generator x generator_lt ∙ ap (λ p. ev R (suc checks) p x) generator_lift ∙ product_value x

  pub generator_zero : (i : ℕ) → i < n → (value R (pow R α i) generator ≡ 𝟘) ↔ T (D i)
  generator_zero i h = (there, λ t. generator_value (pow R α i) ∙ Π-root R zeros (pow R α i) (zeros_in i h t))
    where
      there : value R (pow R α i) generator ≡ 𝟘 → T (D i)
      there e =
          let w = exponent (pow R α i) (root_Π R K zeros (pow R α i) (sym (generator_value (pow R α i)) ∙ e)) in
          subst (λ (j : ℕ). T (D j)) (pow_inj R α n order w.0 i w.1 h w.3) w.2

  -- ---- codewords
  abbrev pub InCode : ℕ → Type 0
  InCode c = generator ∣ₘ c

  -- the product divides it
  pub short : (r : ℕ) → r < 2 ^ checks → Vanishes C r → r ≡ 0
  short r h v =
      lift_null R K r
      ((divides_short R K (monic_deg R K product_monic) (lift_below R h)).0
      (Π-divides R K (lift_below R h) zeros zeros_distinct
      (λ x m. let w = exponent x m in
      sym (lift_value R checks r x h) ∙ ap (λ y. value R y r) (sym w.3) ∙ v w.0 w.1 w.2)))

  pub codeword : (c : ℕ) → InCode c ↔ Vanishes C c
  codeword c = (λ m i h t. ap (value R (pow R α i)) m.1 ∙ multiple m.0 i h t, back)
    where
      multiple : (q : ℕ) → Vanishes C (clmul generator q)
      multiple q i h t = value_mul R (pow R α i) generator q ∙ rw ((generator_zero i h).1 t) (zero-mul R _)

      -- the remainder vanishes, too
      back : Vanishes C c → InCode c
      back v =
          let w = divide checks generator generator_degree c in
          (divides_iff checks generator generator_degree c).1
          (short (remainder checks generator c) w.small
          (λ i h t. sym (zero-add R _)
          ∙ ap (λ x. x + value R (pow R α i) (remainder checks generator c)) (sym (multiple w.quo i h t))
          ∙ sym (value_add R (pow R α i) _ _) ∙ ap (value R (pow R α i)) (sym w.eq) ∙ v i h t))

  pub codeword_add : (c d : ℕ) → InCode c → InCode d → InCode (c ⊕ d)
  codeword_add = divides_add generator

  -- no power of α is 0, so a value times it is 0 only where the value is
  codeword_doubled : (c : ℕ) → InCode (c *ℕ 2) ↔ InCode c
  codeword_doubled c = (
    λ m. (codeword c).1 (λ i h t. cancel R K (pow R α i) (value R (pow R α i) c) (power_ne C i)
        (R.law_mul_comm (pow R α i) (value R (pow R α i) c) ∙ sym (value_dbl R (pow R α i) c) ∙ (codeword (c *ℕ 2)).0 m i h t)),
    λ m. (codeword (c *ℕ 2)).1 (λ i h t. value_dbl R (pow R α i) c ∙ rw ((codeword c).0 m i h t) (zero-mul R _)),
  )

  pub codeword_raised : (j c : ℕ) → InCode (c *ℕ 2 ^ j) ↔ InCode c
  codeword_raised zero c = let e : c *ℕ 2 ^ 0 ≡ c = omega arith in (subst InCode e, subst InCode (sym e))
  codeword_raised (suc j) c =
      let e : c *ℕ 2 ^ suc j ≡ c *ℕ 2 ^ j *ℕ 2 = ap (λ (x : ℕ). c *ℕ x) (pow-suc 2 j) ∙ sym (mul_assoc c (2 ^ j) 2) in (
        λ m. (codeword_raised j c).0 ((codeword_doubled (c *ℕ 2 ^ j)).0 (subst InCode e m)),
        λ m. subst InCode (sym e) ((codeword_doubled (c *ℕ 2 ^ j)).1 ((codeword_raised j c).1 m)),
      )

  pub generator_unique : (g : ℕ) → g / 2 ^ checks ≡ 1 → Vanishes C g → g ≡ generator
  generator_unique g e v =
      let m = (codeword g).1 v in
      sym
      (lift_inj R K generator g
      (monic_eq R K (lift_monic R generator generator_degree) (lift_monic R g e)
      (record { by = lift R m.0; by_in = lift_poly R m.0; eq = sym (lift_mul R generator m.0) ∙ ap (lift R) (sym m.1) })))
