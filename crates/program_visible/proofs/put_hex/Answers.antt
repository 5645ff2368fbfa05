-- `program_visible::put_hex` meets its contract. Assumes nothing.
use mathlib.Core.List.{◌∷◌, []}
use Rattle.program_output.specs.Digits.{pair}
use Rattle.program_output.proofs.PageLaws.{then}
use Rattle.program_visible.proofs.put_hex.Goals as goal

pub returns : goal.returns
returns c = then (92 ∷ 120 ∷ []) (pair c.args.octet) _ c.put_all-past.ensures c.put_pair.ensures
