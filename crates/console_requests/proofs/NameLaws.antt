-- The search of a request from a row on, and what fits a row. Assumes nothing.
use mathlib.Core.Path.{◌≡◌, ap}
use mathlib.Core.Bool.{Bool, true, false}
use mathlib.Core.List.{List, map}
use Prim.Native.Nat.{ℕ, ◌+◌, ◌≤◌, ◌<◌}
use native.Mathlib.Numerals.{add-one}
use native.Mathlib.Omega.{arith}
use lib.Dec.{eqb}
use lib.ListN.{length, get_or, drop, drop_of_length-le}
use lib.Seq.{drop-cons}
use borrow.Author.Tests.{eq-eqb, ne_eqb}
use Rattle.std.specs.Prelude.{Some, None}
use Rattle.octets.specs.Pick.{pick}
use Rattle.octets.specs.Classes.{bit}
use Rattle.program_numbers.specs.Alike.{alike}
use Rattle.console_requests.specs.declared.names.Row.{Row as TableRow}
use Rattle.console_requests.specs.Names.{fits, listed, search}

module _ (w : List ℕ) (k : ℕ) (t : List TableRow) (n : ℕ) where
  listed_at : (d : TableRow) → n < length t
      → search w k (map listed (drop n t)) ≡ pick (fits w k (listed (get_or t n d))) (Some (listed (get_or t n d))) (search w k (map listed (drop (n + 1) t)))
  unfolding search
  listed_at d h = rw add-one (ap (λ (rs : List TableRow). search w k (map listed rs)) (drop-cons t n d h))

  pub listed_found : (d : TableRow) → n < length t → fits w k (listed (get_or t n d)) ≡ true → search w k (map listed (drop n t)) ≡ Some (listed (get_or t n d))
  listed_found d h e = rw (listed_at d h, e)

  pub listed_next : (d : TableRow) → n < length t → fits w k (listed (get_or t n d)) ≡ false
      → search w k (map listed (drop n t)) ≡ search w k (map listed (drop (n + 1) t))
  listed_next d h e = rw (listed_at d h, e)

  pub listed_none : length t ≤ n → search w k (map listed (drop n t)) ≡ None
  unfolding search
  listed_none h = rw (drop_of_length-le t h)

-- a row fits by its count of words and its name
module _ (w : List ℕ) (k : ℕ) (r : TableRow) (n o : ℕ) (p : n ≡ r.2) (q : o ≡ bit r.3 1) where
  pub fits_not : (n + o ≡ k → ⊥) → eqb (n + o) k ≡ fits w k (listed r)
  unfolding fits
  fits_not h = rw (ne_eqb (n + o) k h, ne_eqb (r.2 + bit r.3 1) k (λ e. h (omega arith)))

  pub fits_name : n + o ≡ k → (t : Bool) → t ≡ alike w r.1.now → t ≡ fits w k (listed r)
  unfolding fits
  fits_name h t e = rw (eq-eqb (r.2 + bit r.3 1) k (omega arith)) e
