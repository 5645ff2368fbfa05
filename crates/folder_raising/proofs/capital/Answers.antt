-- `folder_raising::capital` meets its contract. Assumes nothing.
use Rattle.std.proofs.Common.{◌≡◌, ◌∙◌, ℕ, arith}
use Rattle.std.specs.Char.{to_ascii_uppercase}
use Rattle.folder_raising.specs.Letters.{upper}
use Rattle.folder_raising.proofs.capital.Goals as goal

upper_is : (b : ℕ) → to_ascii_uppercase b ≡ upper b
unfolding upper
upper_is b = grind arith

pub returns : goal.returns
returns c = c.to_ascii_uppercase.ensures.value ∙ upper_is c.args.b
