-- The places that `read_line` answers stand in the line and in order. Assumes nothing.
use mathlib.Core.Path.{◌≡◌, refl}
use mathlib.Core.List.{List}
use Prim.Native.Nat.{ℕ, zero, suc, ◌+◌, ◌<◌, ◌≤◌}
use native.Mathlib.Omega.{arith}
use lib.ListN.{length, drop, length-drop}
use borrow.Author.Tests.{ne_eqb}
use Rattle.octets.proofs.Bools.{clash}
use Rattle.line_parser.specs.Parse.{Parse, got, bad}
use Rattle.line_parser.specs.Grammar.{Line, name_end}
use Rattle.line_parser.specs.Rule.{or_end, is_colon, param, params, Head, head, parse_line}
use Rattle.line_parser.specs.Places.{outcome, name_start}
use Rattle.line_parser.specs.Places.{Parsed}
use Rattle.line_parser.proofs.ParseLaws.{next_inv, many_count}
use Rattle.line_parser.proofs.PartLaws.{before_end, head_parts, head_count, params_stop}

-- of a line: the name starts after the group and its dot and has an octet, the parameters and the colon come after it, and then the value
pub record InLine (l : List ℕ) (g n c v : ℕ) : Type 0 where
  pub name : name_start g < n
  pub params : c + n < v
  pub value : v ≤ length l

head_inside : (l : List ℕ) (x : Head) (k : ℕ) → head l ≡ got x k → name_start (length x.group) < k
head_inside l x k h =
    head_parts l x k h
    (λ a b n m ea ek i j. rw (ea, ek) (start (length a) (n + suc m) (omega arith)))
    (λ a ea i. rw ea i.some)
  where
    start : (g k : ℕ) → g + 1 < k → name_start g < k
    start zero k h = omega arith
    start (suc g) k h = rw (ne_eqb (suc g) 0 (λ e. omega arith)) h

parts_inside : (l : List ℕ) (x : Line) (k : ℕ) → parse_line l ≡ got x k → InLine l (length x.group) (name_end x) (length x.params) k
unfolding parse_line name_end params
parts_inside l x k h =
    next_inv (head l) _ h (λ y n p₁ q₁. next_inv (params (suc (length (drop n l))) (drop n l)) _ q₁ (λ ps j p₂ q₂.
    let ea : x ≡ record { group = y.group; name = y.name; params = ps; value = drop 1 (drop j (drop n l)) } = cc in
    let ek : k ≡ n + j + 1 = cc in
    let colon = before_end (drop n l) j (rw (params_stop (suc (length (drop n l))) (drop n l) ps j p₂) (omega arith)) in
    let few = many_count 59 param is_colon (or_end 40 43) (suc (length (drop n l))) (drop n l) ps j p₂ in
    rw (ea, ek, head_count l y n p₁) record {
      name = head_inside l y n p₁;
      params = omega arith;
      value = omega (arith, length-drop n l);
    }))

pub in_line : (l : List ℕ) (g n c v : ℕ) → outcome (parse_line l) ≡ Parsed g n c v → InLine l g n c v
in_line l g n c v h = go (parse_line l) refl h
  where
    go : (m : Parse Line) → parse_line l ≡ m → outcome m ≡ Parsed g n c v → InLine l g n c v
    go (bad e) p q = clash cc
    go (got x k) p q =
        let eg : g ≡ length x.group = cc in
        let en : n ≡ name_end x = cc in
        let ec : c ≡ length x.params = cc in
        let ev : v ≡ k = cc in
        rw (eg, en, ec, ev) (parts_inside l x k p)
