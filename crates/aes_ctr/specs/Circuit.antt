-- Circuits of exclusive ors and ands, and the one of Boyar and Peralta for the byte substitution (A
-- depth-16 circuit for the AES S-box,
-- 2012), in four steps.
use Rattle.std.specs.Prelude.{ℕ, ◌+◌, ◌%◌, List, [], ◌∷◌, bit_and, bit_xor, min, replicate}
use Rattle.std.specs.Prelude.{slice_index, slice_index_or}
use Rattle.std.specs.Simd.Lanes.{zip2}

-- what goes into a step, by its position, and what was made of it before; a bit that is always set;
-- the exclusive or; the and
pub data Gate : Type 0 where
  wire : ℕ → Gate
  inner : ℕ → Gate
  set : Gate
  sum : Gate → Gate → Gate
  both : Gate → Gate → Gate

-- what a gate gives on bits
abbrev pub bit_of : List ℕ → List ℕ → Gate → ℕ
bit_of bits made (wire k) = slice_index bits k
bit_of bits made (inner k) = slice_index made k
bit_of bits made set = 1
bit_of bits made (sum a b) = (bit_of bits made a + bit_of bits made b) % 2
bit_of bits made (both a b) = min (bit_of bits made a) (bit_of bits made b)

-- what it gives on slices of 32 bytes, on all their bits at once
abbrev pub slice_of : List (List ℕ) → List (List ℕ) → Gate → List ℕ
slice_of slices made (wire k) = slice_index_or slices k []
slice_of slices made (inner k) = slice_index_or made k []
slice_of slices made set = replicate 32 255
slice_of slices made (sum a b) = zip2 bit_xor (slice_of slices made a) (slice_of slices made b)
slice_of slices made (both a b) = zip2 bit_and (slice_of slices made a) (slice_of slices made b)

-- sums of the bits of a byte, 21 of them, and its lowest bit
abbrev pub sums : List Gate
sums =
    let x0 : Gate = wire 7 in
    let x1 : Gate = wire 6 in
    let x2 : Gate = wire 5 in
    let x3 : Gate = wire 4 in
    let x4 : Gate = wire 3 in
    let x5 : Gate = wire 2 in
    let x6 : Gate = wire 1 in
    let x7 : Gate = wire 0 in
    let y14 : Gate = sum x3 x5 in
    let y13 : Gate = sum x0 x6 in
    let y9 : Gate = sum x0 x3 in
    let y8 : Gate = sum x0 x5 in
    let t0 : Gate = sum x1 x2 in
    let y1 : Gate = sum t0 x7 in
    let y4 : Gate = sum y1 x3 in
    let y12 : Gate = sum y13 y14 in
    let y2 : Gate = sum y1 x0 in
    let y5 : Gate = sum y1 x6 in
    let y3 : Gate = sum y5 y8 in
    let t1 : Gate = sum x4 y12 in
    let y15 : Gate = sum t1 x5 in
    let y20 : Gate = sum t1 x1 in
    let y6 : Gate = sum y15 x7 in
    let y10 : Gate = sum y15 t0 in
    let y11 : Gate = sum y20 y9 in
    let y7 : Gate = sum x7 y11 in
    let y17 : Gate = sum y10 y11 in
    let y19 : Gate = sum y10 y8 in
    let y16 : Gate = sum t0 y11 in
    let y21 : Gate = sum y13 y16 in
    let y18 : Gate = sum x0 y16 in
    y1 ∷ y2 ∷ y3 ∷ y4 ∷ y5 ∷ y6 ∷ y7 ∷ y8 ∷ y9 ∷ y10 ∷ y11 ∷ y12 ∷ y13 ∷ y14 ∷ y15 ∷ y16 ∷ y17 ∷ y18
    ∷ y19 ∷ y20 ∷ y21 ∷ x7 ∷ []

-- four bits, made of their products
abbrev pub products : List Gate
products =
    let y1 : Gate = wire 0 in
    let y2 : Gate = wire 1 in
    let y3 : Gate = wire 2 in
    let y4 : Gate = wire 3 in
    let y5 : Gate = wire 4 in
    let y6 : Gate = wire 5 in
    let y7 : Gate = wire 6 in
    let y8 : Gate = wire 7 in
    let y9 : Gate = wire 8 in
    let y10 : Gate = wire 9 in
    let y11 : Gate = wire 10 in
    let y12 : Gate = wire 11 in
    let y13 : Gate = wire 12 in
    let y14 : Gate = wire 13 in
    let y15 : Gate = wire 14 in
    let y16 : Gate = wire 15 in
    let y17 : Gate = wire 16 in
    let y18 : Gate = wire 17 in
    let y19 : Gate = wire 18 in
    let y20 : Gate = wire 19 in
    let y21 : Gate = wire 20 in
    let x7 : Gate = wire 21 in
    let t2 : Gate = both y12 y15 in
    let t3 : Gate = both y3 y6 in
    let t4 : Gate = sum t3 t2 in
    let t5 : Gate = both y4 x7 in
    let t6 : Gate = sum t5 t2 in
    let t7 : Gate = both y13 y16 in
    let t8 : Gate = both y5 y1 in
    let t9 : Gate = sum t8 t7 in
    let t10 : Gate = both y2 y7 in
    let t11 : Gate = sum t10 t7 in
    let t12 : Gate = both y9 y11 in
    let t13 : Gate = both y14 y17 in
    let t14 : Gate = sum t13 t12 in
    let t15 : Gate = both y8 y10 in
    let t16 : Gate = sum t15 t12 in
    let t17 : Gate = sum t4 t14 in
    let t18 : Gate = sum t6 t16 in
    let t19 : Gate = sum t9 t14 in
    let t20 : Gate = sum t11 t16 in
    let t21 : Gate = sum t17 y20 in
    let t22 : Gate = sum t18 y19 in
    let t23 : Gate = sum t19 y21 in
    let t24 : Gate = sum t20 y18 in
    t21 ∷ t22 ∷ t23 ∷ t24 ∷ []

-- four bits, made of those alone
abbrev pub inverses : List Gate
inverses =
    let t21 : Gate = wire 0 in
    let t22 : Gate = wire 1 in
    let t23 : Gate = wire 2 in
    let t24 : Gate = wire 3 in
    let t25 : Gate = sum t21 t22 in
    let t26 : Gate = both t21 t23 in
    let t27 : Gate = sum t24 t26 in
    let t28 : Gate = both t25 t27 in
    let t29 : Gate = sum t28 t22 in
    let t30 : Gate = sum t23 t24 in
    let t31 : Gate = sum t22 t26 in
    let t32 : Gate = both t31 t30 in
    let t33 : Gate = sum t32 t24 in
    let t34 : Gate = sum t23 t33 in
    let t35 : Gate = sum t27 t33 in
    let t36 : Gate = both t24 t35 in
    let t37 : Gate = sum t36 t34 in
    let t38 : Gate = sum t27 t36 in
    let t39 : Gate = both t29 t38 in
    let t40 : Gate = sum t25 t39 in
    t29 ∷ t33 ∷ t37 ∷ t40 ∷ []

-- the bits of the substituted byte, the lowest first: made of the sums and the last four bits
abbrev pub outputs : List Gate
outputs =
    let y1 : Gate = wire 0 in
    let y2 : Gate = wire 1 in
    let y3 : Gate = wire 2 in
    let y4 : Gate = wire 3 in
    let y5 : Gate = wire 4 in
    let y6 : Gate = wire 5 in
    let y7 : Gate = wire 6 in
    let y8 : Gate = wire 7 in
    let y9 : Gate = wire 8 in
    let y10 : Gate = wire 9 in
    let y11 : Gate = wire 10 in
    let y12 : Gate = wire 11 in
    let y13 : Gate = wire 12 in
    let y14 : Gate = wire 13 in
    let y15 : Gate = wire 14 in
    let y16 : Gate = wire 15 in
    let y17 : Gate = wire 16 in
    let x7 : Gate = wire 21 in
    let t29 : Gate = inner 0 in
    let t33 : Gate = inner 1 in
    let t37 : Gate = inner 2 in
    let t40 : Gate = inner 3 in
    let t41 : Gate = sum t40 t37 in
    let t42 : Gate = sum t29 t33 in
    let t43 : Gate = sum t29 t40 in
    let t44 : Gate = sum t33 t37 in
    let t45 : Gate = sum t42 t41 in
    let z0 : Gate = both t44 y15 in
    let z1 : Gate = both t37 y6 in
    let z2 : Gate = both t33 x7 in
    let z3 : Gate = both t43 y16 in
    let z4 : Gate = both t40 y1 in
    let z5 : Gate = both t29 y7 in
    let z6 : Gate = both t42 y11 in
    let z7 : Gate = both t45 y17 in
    let z8 : Gate = both t41 y10 in
    let z9 : Gate = both t44 y12 in
    let z10 : Gate = both t37 y3 in
    let z11 : Gate = both t33 y4 in
    let z12 : Gate = both t43 y13 in
    let z13 : Gate = both t40 y5 in
    let z14 : Gate = both t29 y2 in
    let z15 : Gate = both t42 y9 in
    let z16 : Gate = both t45 y14 in
    let z17 : Gate = both t41 y8 in
    let t46 : Gate = sum z15 z16 in
    let t47 : Gate = sum z10 z11 in
    let t48 : Gate = sum z5 z13 in
    let t49 : Gate = sum z9 z10 in
    let t50 : Gate = sum z2 z12 in
    let t51 : Gate = sum z2 z5 in
    let t52 : Gate = sum z7 z8 in
    let t53 : Gate = sum z0 z3 in
    let t54 : Gate = sum z6 z7 in
    let t55 : Gate = sum z16 z17 in
    let t56 : Gate = sum z12 t48 in
    let t57 : Gate = sum t50 t53 in
    let t58 : Gate = sum z4 t46 in
    let t59 : Gate = sum z3 t54 in
    let t60 : Gate = sum t46 t57 in
    let t61 : Gate = sum z14 t57 in
    let t62 : Gate = sum t52 t58 in
    let t63 : Gate = sum t49 t58 in
    let t64 : Gate = sum z4 t59 in
    let t65 : Gate = sum t61 t62 in
    let t66 : Gate = sum z1 t63 in
    let s0 : Gate = sum t59 t63 in
    let u6 : Gate = sum t56 t62 in
    let s6 : Gate = sum u6 set in
    let u7 : Gate = sum t48 t60 in
    let s7 : Gate = sum u7 set in
    let t67 : Gate = sum t64 t65 in
    let s3 : Gate = sum t53 t66 in
    let s4 : Gate = sum t51 t66 in
    let s5 : Gate = sum t47 t65 in
    let u1 : Gate = sum t64 s3 in
    let s1 : Gate = sum u1 set in
    let u2 : Gate = sum t55 t67 in
    let s2 : Gate = sum u2 set in
    s7 ∷ s6 ∷ s5 ∷ s4 ∷ s3 ∷ s2 ∷ s1 ∷ s0 ∷ []
