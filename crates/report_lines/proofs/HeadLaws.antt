-- Where the name stands that a reading of a line's head found. Assumes nothing.
use mathlib.Core.Path.{◌≡◌, refl, sym, ap, ◌∙◌}
use mathlib.Core.List.{List}
use Prim.Native.Nat.{ℕ, suc, ◌+◌, ◌-◌, ◌<◌, ◌≤◌}
use native.Mathlib.Nat.{sub-zero}
use native.Mathlib.Omega.{arith}
use lib.ListN.{length, take, drop, length-drop}
use lib.Seq.{drop-drop}
use borrow.Author.Tests.{ne_eqb}
use Rattle.octets.specs.Classes.{named}
use Rattle.octets.proofs.Bools.{clash}
use Rattle.line_parser.specs.Parse.{Parse, got, bad}
use Rattle.line_parser.specs.Rule.{Head, head}
use Rattle.std.specs.Prelude.{Result, Ok, Err}
use Rattle.numbers.specs.Refusals.{number}
use Rattle.numbers.specs.declared.refusal.Reason.{Reason}
use Rattle.line_parser.specs.declared.rule.Named.{Named as NamedPart}
use Rattle.line_parser.specs.Places.{headed, name_start, named as head_told, Part, Named, Fault}
use Rattle.line_parser.proofs.PartLaws.{Taken, run_le, head_parts}
use Rattle.property_table.specs.declared.Edition.TheVariants.{First}
use Rattle.property_table.specs.Rows.{row_of}
use Rattle.report_lines.specs.Rows.{row_by, row_of_name}

-- a head that was not read names nothing
pub not_named : (r : Result NamedPart Reason) → ((h : NamedPart) → r ≡ Ok h → ⊥) → (g n : ℕ) → head_told r ≡ Named g n → ⊥
not_named (Ok h) k g n p = k h refl
not_named (Err x) k g n p = let z : Fault (number x) ≡ Named g n = p in clash cc

-- a name that ends at n, after a group of g octets
pub record NameAt (l : List ℕ) (g n : ℕ) : Type 0 where
  pub order : name_start g ≤ n
  pub inside : n ≤ length l
  pub group : g ≤ n
  pub row : row_of First (take (n - name_start g) (drop (name_start g) l)) ≡ row_of_name l

taken_le : (l a : List ℕ) (k : ℕ) → Taken l a k → k ≤ length l
taken_le l a k t = omega (arith, t.whole, run_le named l)

after_dot : (g : ℕ) → 0 < g → name_start g ≡ g + 1
after_dot g h = rw (ne_eqb g 0 (λ e. omega arith))

-- the octets of the name
pub record Spelt (l : List ℕ) (h : Head) (k : ℕ) : Type 0 where
  pub order : name_start (length h.group) ≤ k
  pub inside : k ≤ length l
  pub group : length h.group ≤ k
  pub octets : take (k - name_start (length h.group)) (drop (name_start (length h.group)) l) ≡ h.name

spelt : (l : List ℕ) (h : Head) (k : ℕ) → head l ≡ got h k → Spelt l h k
spelt l h k e =
    head_parts l h k e
    (λ a b n m eh ek i j.
    let r : List ℕ = drop 1 (drop n l) in
    let start : name_start (length a) ≡ n + 1 = rw i.count (after_dot n i.some) in
    let size : n + suc m - (n + 1) ≡ m = omega arith in
    let there : drop (n + 1) l ≡ r = sym (drop-drop 1 n l) in
    let few = taken_le r b m j in
    rw (eh, ek) record {
      order = rw start (omega arith);
      inside = omega (arith, j.some, length-drop 1 (drop n l), length-drop n l);
      group = omega (arith, i.count);
      octets = rw (start, size, there) (sym j.octets);
    })
    (λ a eh i. rw eh record {
      order = omega arith;
      inside = taken_le l a k i;
      group = omega arith;
      octets = rw sub-zero (sym i.octets);
    })

pub name_at : (l : List ℕ) (p : Part) (g n : ℕ) → p ≡ headed (head l) → p ≡ Named g n → NameAt l g n
unfolding row_of_name
name_at l p g n e q = by (head l) refl (sym e ∙ q)
  where
    by : (m : Parse Head) → head l ≡ m → headed m ≡ Named g n → NameAt l g n
    by (bad x) f w = clash cc
    by (got h k) f w =
        let eg : length h.group ≡ g = cc in
        let en : k ≡ n = cc in
        let s = spelt l h k f in
        rw (← eg, ← en) record { order = s.order; inside = s.inside; group = s.group; row = ap (row_of First) s.octets ∙ sym (ap row_by f) }

-- where no name was found, the number is 0
pub nameless : (l : List ℕ) (p : Part) → p ≡ headed (head l) → ((g n : ℕ) → p ≡ Named g n → ⊥) → 0 ≡ row_of_name l
unfolding row_of_name
nameless l p e k = by (head l) e
  where
    by : (m : Parse Head) → p ≡ headed m → 0 ≡ row_by m
    by (bad x) h = refl
    by (got h n) q = absurd (k _ _ q)
