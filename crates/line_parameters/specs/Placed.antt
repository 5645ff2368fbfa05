-- What the numbers of an accepted line say of its octets, and what it starts with. Assumes nothing.
use Rattle.std.specs.Prelude.{◌≡◌, true, List, ℕ, ◌-◌, ◌<◌, length, take, drop}
use Rattle.octets.specs.Ascii as ascii
use Rattle.octets.specs.Classes.{named}
use Rattle.line_parser.specs.Parse.{hd}
use Rattle.line_parser.specs.Grammar.{Line, front, name_end}
use Rattle.line_parser.specs.Places.{name_start}

-- of the line l with the parts x: the group is its first g octets, the name ends at n, c parameters follow, and the value is the rest from v on
pub record Placed (l : List ℕ) (x : Line) (g n c v : ℕ) : Type 0 where
  pub group_length : g ≡ length x.group
  pub name_end : n ≡ name_end x
  pub count : c ≡ length x.params
  pub value_start : v ≡ length (front x)
  pub group : take g l ≡ x.group
  pub name : take (n - name_start g) (drop (name_start g) l) ≡ x.name
  pub value : drop v l ≡ x.value

-- an accepted line starts with a letter, a digit or a hyphen: it is not empty, and no space or tab stands first
pub record Starts (l : List ℕ) : Type 0 where
  pub named_first : named (hd l) ≡ true
  pub some : 0 < length l
  pub no_space : hd l ≡ ascii.space → ⊥
  pub no_tab : hd l ≡ ascii.tab → ⊥
