-- `cabbook_messages::words::put_words` meets its contract. Assumes nothing.
use mathlib.Core.Path.{ap, ◌∙◌}
use mathlib.Core.List.{List}
use Prim.Native.Nat.{ℕ}
use Rattle.program_output.specs.Pages.{page, added}
use Rattle.cabbook_messages.proofs.words.put_words.Goals as goal

pub returns : goal.returns
returns c = rw (← c.number.ensures) (c.put_all.ensures ∙ ap (λ (w : List ℕ). added w (page c.args.at c.args.room.now)) c.words_of.ensures)
