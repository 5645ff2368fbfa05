-- Parts of a list. Assumes nothing.
use Rattle.std.specs.Prelude.{ℕ, ◌-◌, List, [], ltb, length, take, drop}
use Rattle.octets.specs.Pick.{pick}

-- the elements from a up to e, or none where there is no such part
abbrev pub part : List ℕ → ℕ → ℕ → List ℕ
part s a e = pick (ltb (length s) e) [] (pick (ltb e a) [] (take (e - a) (drop a s)))
