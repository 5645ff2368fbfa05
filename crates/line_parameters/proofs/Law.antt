-- The law of the line rule: what it accepts, with which parts, is exactly the well-formed lines written out, and it refuses all other
-- lines; so a line has at most one reading. Assumes nothing.
use mathlib.Core.Path.{◌≡◌, refl, sym, ap, ◌∙◌}
use mathlib.Core.Logic.{◌↔◌}
use mathlib.Core.List.{List}
use Prim.Native.Nat.{ℕ}
use lib.ListN.{length}
use Rattle.line_parser.specs.Parse.{Parse, got, bad}
use Rattle.line_parser.specs.Grammar.{Line, WellFormed, front, render}
use Rattle.line_parser.specs.Rule.{parse_line}
use Rattle.line_parser.proofs.ParseLaws.{bad_got}
use Rattle.line_parameters.proofs.Sound.{line_sound}
use Rattle.line_parameters.proofs.Complete.{line_complete}

-- a line is read as x, with its value at k, exactly when it is x written out, and k is what stands before the value
pub line_law : (l : List ℕ) (x : Line) (k : ℕ)
    → (parse_line l ≡ got x k) ↔ (WellFormed x × (l ≡ render x) × (k ≡ length (front x)))
line_law l x k = (
  λ h.
      let s = line_sound l x k h in
      let c = ap parse_line s.1 ∙ line_complete x s.0 in
      let e : k ≡ length (front x) = cc in
      (s.0, s.1, e),
  λ h. ap parse_line h.1 ∙ line_complete x h.0 ∙ ap (got x) (sym h.2),
)

-- two well-formed lines that are written alike are the same
pub line_unique : (x y : Line) → WellFormed x → WellFormed y → render x ≡ render y → x ≡ y
line_unique x y wx wy e =
    let p = line_complete x wx in
    let q = line_complete y wy in
    let r = ap parse_line e in
    cc

-- a line is refused exactly when it is no well-formed line written out
pub refused_law : (l : List ℕ) → ((e : ℕ) × (parse_line l ≡ bad e)) ↔ ((x : Line) → WellFormed x → l ≡ render x → ⊥)
refused_law l = (λ h x w q. bad_got (sym h.1 ∙ ap parse_line q ∙ line_complete x w), refused (parse_line l) refl)
  where
    refused : (m : Parse Line) → parse_line l ≡ m → ((x : Line) → WellFormed x → l ≡ render x → ⊥) → (e : ℕ) × (parse_line l ≡ bad e)
    refused (bad e) h f = (e, h)
    refused (got x k) h f = absurd (f x (line_sound l x k h).0 (line_sound l x k h).1)
