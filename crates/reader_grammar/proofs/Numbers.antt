-- The numbers of the refusals of an input: 1 to 5, 7 to 12 and 40 to 43. Assumes nothing.
use Prim.Native.Nat.{ℕ, ◌≤◌}
use mathlib.Core.List.{List}
use mathlib.Core.Logic.{inl, inr}
use native.Mathlib.Omega.{arith}
use Rattle.line_parser.specs.Grammar.{Line}
use Rattle.line_laws.proofs.FirstLaws.{first_number}
use Rattle.property_table.specs.declared.Edition.{Edition}
use Rattle.reader_grammar.specs.Refusals.{Judging, Where, LineRefused, octet, rule, order, laden, value, second, nameless, no_group, RefusedIn, long, empty, lone, unended, line, unfinished}

low : {n : ℕ} → 1 ≤ n → n ≤ 5 → Judging n
low h k = inl (h, k)

middle : {n : ℕ} → 7 ≤ n → n ≤ 12 → Judging n
middle h k = inr (inl (h, k))

line_number : {e : Edition} {ys : List Line} {l : List ℕ} {n : ℕ} {w : Where} → LineRefused e ys l n w → Judging n
line_number (octet h) = low (omega arith) (omega arith)
line_number (rule h f) = inr (inr (first_number f))
line_number (order x h k) = middle (omega arith) (omega arith)
line_number (laden x h k m) = middle (omega arith) (omega arith)
line_number (value x h k m g) = middle (omega arith) (omega arith)
line_number (second x h k m f) = middle (omega arith) (omega arith)
line_number (nameless x h k m) = middle (omega arith) (omega arith)
line_number (no_group x h k m g f) = middle (omega arith) (omega arith)

pub refusal_number : {e : Edition} {i : List ℕ} {n p : ℕ} → RefusedIn e i n p → Judging n
refusal_number (long h) = low (omega arith) (omega arith)
refusal_number (empty h) = low (omega arith) (omega arith)
refusal_number (lone h k m f) = low (omega arith) (omega arith)
refusal_number (unended h k m g) = low (omega arith) (omega arith)
refusal_number (line ds es ls ms r l m k q w zs ys f e c s h p) = line_number h
refusal_number (unfinished rs ls k zs ys f e s h) = middle (omega arith) (omega arith)

at_most : {n : ℕ} → Judging n → n ≤ 43
at_most (inl h) = omega (arith, h.1)
at_most (inr (inl h)) = omega (arith, h.1)
at_most (inr (inr h)) = h.1

pub refusal_low : {e : Edition} {i : List ℕ} {n p : ℕ} → RefusedIn e i n p → n ≤ 43
refusal_low h = at_most (refusal_number h)
