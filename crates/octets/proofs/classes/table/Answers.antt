-- `octets::classes::table` meets its contract: the table agrees with the rule at each of the 256 octets, by one computed test.
use mathlib.Core.Path.{◌≡◌, refl}
use mathlib.Core.List.{List}
use Prim.Native.Nat.{ℕ}
use lib.ListN.{take}
use Rattle.octets.specs.Classes.{Classes, class_of, letter, digit, hyphen, bare, quoted, valued}
use Rattle.octets.proofs.Upto.{upto, along, entries}
use Rattle.octets.proofs.classes.table.Goals as goal

by_test : (t : List ℕ) → take 256 (along (λ (x : ℕ). x) t) ≡ upto class_of 0 256 → Classes t
unfolding Classes
by_test t test k h = entries (λ (x : ℕ). x) class_of t 256 test k h

pub returns : goal.returns
unfolding along upto class_of letter digit hyphen bare quoted valued
returns c = by_test _ refl
