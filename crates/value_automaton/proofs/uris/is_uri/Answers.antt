-- `value_automaton::uris::is_uri` meets its contract. Assumes nothing.
use mathlib.Core.Path.{◌≡◌, sym, ap, ◌∙◌}
use mathlib.Core.Bool.{false≢true}
use Prim.Native.Nat.{ℕ, ◌+◌, ◌-◌, ◌<◌, ◌≤◌}
use native.Mathlib.Omega.{arith}
use lib.ListN.{length, drop, length-drop}
use lib.Seq.{take_all}
use Rattle.octets.specs.Counts.{all_in}
use Rattle.value_kinds.specs.Octets.{graphic, holds}
use Rattle.value_automaton.proofs.UriLaws.{uri_matches}
use Rattle.value_automaton.proofs.uris.is_uri.Goals as goal

inside : (a b : ℕ) → a ≤ b → (a ≡ b → ⊥) → a < b
inside a b h n = omega arith

pub returns-then-e-eq0 : goal.returns-then-e-eq0
returns-then-e-eq0 c = λ e. absurd (false≢true e)

pub returns-then-e-s : goal.returns-then-e-s
returns-then-e-s c = λ e. absurd (false≢true e)

pub returns-then-s-e-ne58 : goal.returns-then-s-e-ne58
returns-then-s-e-ne58 c = λ e. absurd (false≢true e)

pub returns : goal.returns
returns c =
    let s = c.args.s.now in
    let e = c.scheme_end-e.result in
    let t = drop (e + 1) s in
    let le : length t ≤ length s - (e + 1) = omega (arith, length-drop (e + 1) s) in
    λ q. uri_matches s e c.if-e-eq0.false (inside e (length s) c.scheme_end-e.ensures.0 c.if-e-s.false) c.scheme_end-e.ensures.1 c.if-s-e-ne58.false
    (ap (all_in (holds graphic)) (sym (take_all (length s - (e + 1)) t le)) ∙ sym c.is_printing.ensures ∙ q)
