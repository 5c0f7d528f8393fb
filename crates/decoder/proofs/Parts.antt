-- Parts of a list, and a list with one part replaced.
--
--   splice at size new l    the list with so many entries from a place on replaced; splice_long: as long as before
--   part_here, part_before, part_after      the part itself, and those beside it
--   part_long, part_whole   the length of a part; the whole list is one
--   within, beside          the parts of one size, one after the other
use mathlib.Core.Path.{◌≡◌, ◌∙◌, ap, sym}
use mathlib.Core.List.{List, ◌++◌}
use Prim.Native.Nat.{ℕ, suc, ◌+◌, ◌-◌, ◌*◌, ◌≤◌, ◌<◌}
use native.Mathlib.Nat.{mul-le-mul_right, suc-mul}
use native.Mathlib.Omega.{arith}
use lib.ListN.{length, take, drop, length-append, length-drop, take-append-drop}
use lib.Seq.{take_at, drop_at, take-append-le, drop-append-le, drop-drop, length-take-le, take_all}
use Rattle.decoder.specs.Decode.{part}

abbrev pub splice : ℕ → ℕ → List ℕ → List ℕ → List ℕ
splice at size new l = take at l ++ (new ++ drop size (drop at l))

module _ (at size : ℕ) (new l : List ℕ) (room : at + size ≤ length l) (long : length new ≡ size) where
  front : length (take at l) ≡ at
  front = length-take-le at l (omega arith)

  pub splice_long : length (splice at size new l) ≡ length l
  splice_long = let f = front in simp (length-append, length-drop, front, long) (omega arith)

  pub part_here : part at size (splice at size new l) ≡ new
  part_here = ap (take size) (drop_at (take at l) (new ++ drop size (drop at l)) at front) ∙ take_at new (drop size (drop at l)) size long

  pub part_before : (b m : ℕ) → b + m ≤ at → part b m (splice at size new l) ≡ part b m l
  part_before b m h =
      let f = front in
      let g : (r : List ℕ) → part b m (take at l ++ r) ≡ part b m (take at l) =
      λ r. ap (take m) (drop-append-le b (take at l) r (omega arith))
      ∙ take-append-le m (drop b (take at l)) r (omega (arith, length-drop b (take at l))) in
      g (new ++ drop size (drop at l)) ∙ sym (g (drop at l)) ∙ ap (part b m) (take-append-drop at l)

  pub part_after : (b m : ℕ) → at + size ≤ b → part b m (splice at size new l) ≡ part b m l
  part_after b m h =
      let e : b ≡ at + size + (b - (at + size)) = omega arith in
      let c = b - (at + size) in
      let x = splice at size new l in
      let g : drop b x ≡ drop b l =
      ap (λ (k : ℕ). drop k x) e
      ∙ sym (drop-drop c (at + size) x)
      ∙ ap (drop c) (sym (drop-drop size at x))
      ∙ ap (λ (y : List ℕ). drop c (drop size y)) (drop_at (take at l) (new ++ drop size (drop at l)) at front)
      ∙ ap (drop c) (drop_at new (drop size (drop at l)) size long)
      ∙ ap (drop c) (drop-drop size at l)
      ∙ drop-drop c (at + size) l
      ∙ ap (λ (k : ℕ). drop k l) (sym e) in
      ap (take m) g

pub part_long : (at size : ℕ) (l : List ℕ) → at + size ≤ length l → length (part at size l) ≡ size
part_long at size l h = length-take-le size (drop at l) (omega (arith, length-drop at l))

pub part_whole : (size : ℕ) (l : List ℕ) → length l ≡ size → part 0 size l ≡ l
part_whole size l h = take_all size l (omega (arith, h))

-- ---- parts of one size
pub within : (k count size m : ℕ) → k < count → m ≡ count * size → k * size + size ≤ m
within k count size m h e =
    let a : suc k * size ≤ count * size = mul-le-mul_right size h in
    let c : suc k * size ≡ k * size + size = suc-mul k size in
    omega arith

pub beside : (j k size : ℕ) → j < k → j * size + size ≤ k * size
beside j k size h =
    let a : suc j * size ≤ k * size = mul-le-mul_right size h in
    let c : suc j * size ≡ j * size + size = suc-mul j size in
    omega arith
