-- `console::input::line_of` meets its contract. Assumes nothing.
use mathlib.Core.Path.{refl, sym, ap, ◌∙◌}
use mathlib.Core.List.{List}
use Prim.Native.Nat.{ℕ}
use borrow.Author.Tests.{lt-ltb, le-ltb}
use Rattle.console_words.specs.Words.{next_of}
use Rattle.console.specs.Input.{line_to, line_of}
use Rattle.console.proofs.input.line_of.Goals as goal

pub returns-then-end-i : goal.returns-then-end-i
unfolding line_of
returns-then-end-i c =
    let i = c.args.i in
    rw (lt-ltb _ _ c.if-end-i.true) refl ∙ ap (line_to i) (c.next-end.ensures.value ∙ ap (λ (l : List ℕ). next_of 10 l i.from) c.part.ensures)

pub returns : goal.returns
unfolding line_of
returns c =
    let i = c.args.i in
    rw (le-ltb _ _ c.if-end-i.false, sym c.is_within_line.ensures) refl ∙ ap (line_to i) (c.next-end.ensures.value ∙ ap (λ (l : List ℕ). next_of 10 l i.from) c.part.ensures)
