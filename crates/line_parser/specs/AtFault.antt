-- The part at fault of a line that breaks the line rule: a name or a parameter, and of a parameter the quote. Assumes nothing.
use Rattle.std.specs.Prelude.{ℕ, zero, suc, ◌+◌, Bool, true, false, List, eqb, ltb, length, drop}
use Rattle.octets.specs.Ascii as ascii
use Rattle.octets.specs.Pick.{pick}
use Rattle.octets.specs.Classes.{run, named, quoted}
use Rattle.line_parser.specs.Parse.{Parse, got, bad, hd}
use Rattle.line_parser.specs.Rule.{value, param}
use Rattle.line_parser.specs.declared.at_fault.AtFault.{AtFault}
use Rattle.line_parser.specs.declared.at_fault.QuoteFault.{QuoteFault}
use Rattle.line_parser.specs.declared.at_fault.QuoteFault.TheVariants.{LeftOpen, Followed, InBare}

-- where the name starts: after a group and its dot, where there is one
unfoldable pub name_from : List ℕ → ℕ
name_from l = pick (eqb (run named l) 0) 0 (pick (eqb (hd (drop (run named l) l)) ascii.dot) (run named l + 1) 0)

-- of a part that starts at k: k where it is at fault, else f of where it ends
abbrev pub unless : {A : Type 0} → Parse A → ℕ → (ℕ → ℕ) → ℕ
unless (bad e) k f = k
unless (got a j) k f = f (k + j)

-- where the first parameter starts that is not whole; one stands after the semicolon at k, and n bounds their count
unfoldable pub param_from : ℕ → ℕ → List ℕ → ℕ
param_from zero k l = k
param_from (suc n) k l = pick (ltb k (length l)) (unless (param (drop (k + 1) l)) (k + 1) (λ i. param_from n i l)) k

-- where the first value starts that no comma follows; one starts at k, and n bounds their count
unfoldable pub value_from : ℕ → ℕ → List ℕ → ℕ
value_from zero k l = k
value_from (suc n) k l = pick (ltb k (length l)) (unless (value (drop k l)) k (λ i. pick (eqb (hd (drop i l)) ascii.comma) (value_from n (i + 1) l) k)) k

-- a name of a parameter, or of a property, from a place on
abbrev pub word_from : Bool → ℕ → List ℕ → AtFault
word_from p k l = record { is_param = p; start = k; end = k + run named (drop k l) }

-- the parameter where one follows a name, else the name
abbrev pub after_name : AtFault → List ℕ → AtFault
after_name w l =
    pick (ltb w.start w.end) (pick (eqb (hd (drop w.end l)) ascii.semicolon) (word_from true (param_from (suc (length l)) w.end l) l) w) w

-- the name that is at fault, or that stands before the fault
unfoldable pub at_fault : List ℕ → AtFault
at_fault l = after_name (word_from false (name_from l) l) l

-- of the value that starts at k: no quote mark at its start, none that closes it, or one with something after it
unfoldable pub quote_by : ℕ → List ℕ → QuoteFault
quote_by k l = pick (eqb (hd (drop k l)) ascii.quote) (pick (ltb (k + 1 + run quoted (drop (k + 1) l)) (length l)) Followed LeftOpen) InBare

-- of a parameter whose name ends at k
unfoldable pub quote_fault : ℕ → List ℕ → QuoteFault
quote_fault k l = pick (ltb k (length l)) (quote_by (value_from (suc (length l)) (k + 1) l) l) InBare
