-- `program_numbers::hex::decode` meets its contract. Assumes nothing.
use mathlib.Core.Path.{◌≡◌, ◌∙◌}
use Prim.Native.Nat.{◌+◌, ◌*◌, ◌<◌}
use native.Mathlib.Omega.{arith}
use lib.ListN.{length, get_or, length-set}
use Rattle.octets.proofs.Copies.{copy_step, copy_done}
use Rattle.program_numbers.specs.Hex.{value, decoded}
use Rattle.program_numbers.proofs.HexLaws.{digit_known, digit_low, decoded_length, decoded_at}
use Rattle.program_numbers.proofs.hex.decode.Goals as goal
use Rattle.program_numbers.proofs.hex.decode.Goals.{After-unwrap-low}

pub unwrap-high-requires : goal.unwrap-high-requires
unwrap-high-requires c = rw (c.digit_of.ensures, digit_known c.args.word.now (2 * c.loop-i.i) c.requires.word_value (omega arith))

pub unwrap-low-requires : goal.unwrap-low-requires
unwrap-low-requires c = rw (c.digit_of-in-loop-i.ensures, digit_known c.args.word.now (2 * c.loop-i.i + 1) c.requires.word_value (omega arith))

-- the two digits, each below 16
digits : (c : After-unwrap-low)
    → (c.unwrap-high.result ≡ value (get_or c.args.word.now (2 * c.loop-i.i) 0)) × (c.unwrap-high.result < 16)
    × (c.unwrap-low.result ≡ value (get_or c.args.word.now (2 * c.loop-i.i + 1) 0)) × (c.unwrap-low.result < 16)
digits c =
    let w = c.args.word.now in
    let i = c.loop-i.i in
    let e = c.requires.word_value in
    let g : 2 * i < length w = omega arith in
    let h : 2 * i + 1 < length w = omega arith in
    let high : c.unwrap-high.result ≡ value (get_or w (2 * i) 0) = cc (digit_known w (2 * i) e g) in
    let low : c.unwrap-low.result ≡ value (get_or w (2 * i + 1) 0) = cc (digit_known w (2 * i + 1) e h) in
    (high, omega (arith, high, digit_low w (2 * i) e g), low, omega (arith, low, digit_low w (2 * i + 1) e h))

pub overflow_mul-out : goal.overflow_mul-out
overflow_mul-out c = omega (arith, (digits c).1)

pub overflow_add-out : goal.overflow_add-out
overflow_add-out c = omega (arith, (digits c).1, (digits c).3)

pub loop-i-preserved : goal.loop-i-preserved
loop-i-preserved c =
    let a = c.args in
    let w = a.word.now in
    let l = c.loop-i in
    let d = digits c in
    let e : get_or (decoded w) l.i 0 ≡ 16 * c.unwrap-high.result + c.unwrap-low.result = decoded_at w l.i (omega arith) ∙ omega (arith, d.0, d.2) in
    (omega arith, simp length-set l.invariant.1, rw e at (copy_step a.out.now (decoded w) l.out l.i (omega (arith, c.requires.word_in_bounds)) (omega (arith, decoded_length w)) l.invariant.2))

pub returns : goal.returns
returns c =
    let a = c.args in
    let l = c.loop-i in
    let n = decoded_length a.word.now in
    copy_done a.out.now (decoded a.word.now) l.out l.i (omega (arith, n)) (omega (arith, n)) l.invariant.2
