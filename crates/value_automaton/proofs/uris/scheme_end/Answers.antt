-- `value_automaton::uris::scheme_end` meets its contract. Assumes nothing.
use Rattle.std.proofs.Common.{rules, tests, ◌≡◌, true, ℕ, ◌<◌, ◌≤◌, List, Option, Some, None, length, get_or, arith, subst}
use Rattle.std.specs.Bool.{⊤}
use Rattle.std.specs.List.{AllWithin, HoldsAt}
use Rattle.std.specs.Option.{MatchOption}
use Rattle.std.proofs.lemmas.Iterator.{YieldsList-from_slice, IsFirst-from_position}
use Rattle.value_kinds.specs.Octets.{letter, holds}
use Rattle.value_automaton.proofs.uris.scheme_end.Goals as goal

abbrev Letter : ℕ → Type 0
Letter b = holds letter b ≡ true

abbrev Ends : List ℕ → Option ℕ → Type 0
Ends s r = MatchOption r (AllWithin Letter s 0 (length s)) (λ i. (i < length s) × HoldsAt (λ (b : ℕ). ⊤) s i × AllWithin Letter s 0 i)

at_some : (s : List ℕ) (r : Option ℕ) (n : ℕ) → Ends s r → r ≡ Some n → (n ≤ length s) × ((k : ℕ) → k < n → holds letter (get_or s k 0) ≡ true)
at_some s r n h e = let g : Ends s (Some n) = subst (Ends s) e h in (omega (arith, g.0), λ k l. g.2 k 0 (omega arith) l)

at_none : (s : List ℕ) (r : Option ℕ) → Ends s r → r ≡ None → (k : ℕ) → k < length s → holds letter (get_or s k 0) ≡ true
at_none s r h e k l = let g : Ends s None = subst (Ends s) e h in g k 0 (omega arith) l

pub returns-in-Some : goal.returns-in-Some
returns-in-Some c =
    at_some c.args.s.now c.position.result c.in-Some.n
    (IsFirst-from_position _ _ c.position.result (λ b. ⊤) Letter c.position.ensures.ran (YieldsList-from_slice c.args.s.now c.iter.ensures.rest) (λ x q k. tt) (λ x q k. search (rules, tests)))
    c.in-Some.is

pub returns-in-None : goal.returns-in-None
returns-in-None c = (
  omega arith,
  at_none c.args.s.now c.position.result
      (IsFirst-from_position _ _ c.position.result (λ b. ⊤) Letter c.position.ensures.ran (YieldsList-from_slice c.args.s.now c.iter.ensures.rest) (λ x q k. tt) (λ x q k. search (rules, tests)))
      c.in-None.is,
)
