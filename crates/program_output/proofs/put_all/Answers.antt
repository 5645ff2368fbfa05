-- `program_output::put_all` meets its contract. Assumes nothing.
use mathlib.Core.Path.{refl, sym, ◌∙◌}
use mathlib.Core.List.{List, [], ◌∷◌}
use Prim.Native.Nat.{ℕ}
use native.Mathlib.Omega.{arith}
use Rattle.program_output.specs.Pages.{page}
use Rattle.program_output.proofs.PageLaws.{turn, stop}
use borrow.Author.Rules.{rules}
use Rattle.program_output.proofs.put_all.Goals as goal

pub loop-octet-init : goal.loop-octet-init
loop-octet-init c = (refl, refl)

pub loop-octet-preserved : goal.loop-octet-preserved
loop-octet-preserved c =
    let l = c.loop-octet in
    (search rules, turn (λ (x : ℕ). x ∷ []) (λ (r : List ℕ). r) (λ x xs. refl) c.args.text.now l.octet-index c.loop-octet-test.true (page l.next l.room) c.put-next.ensures ∙ l.invariant.1)

pub returns : goal.returns
returns c =
    let l = c.loop-octet in
    sym (stop (λ (x : ℕ). x ∷ []) (λ (r : List ℕ). r) refl c.args.text.now l.octet-index (omega arith) (page l.next l.room)) ∙ l.invariant.1
