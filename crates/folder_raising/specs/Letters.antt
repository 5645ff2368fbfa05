-- A small ASCII letter raised to its capital. Assumes nothing.
use Rattle.std.specs.Prelude.{ℕ, ◌-◌}
use Rattle.octets.specs.Pick.{pick}
use Rattle.octets.specs.Classes.{within}

-- a small ASCII letter as its capital, any other octet as it is
unfoldable pub upper : ℕ → ℕ
upper b = pick (within 97 122 b) (b - 32) b
