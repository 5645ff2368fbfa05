-- `folder_raising::raise` meets its contract. Assumes nothing.
use Rattle.std.proofs.Common.{◌≡◌, ◌∙◌, rules, arith}
use Rattle.std.proofs.lemmas.List.{set-get_or}
use Rattle.folder_raising.specs.declared.Spot.TheVariants.{Past}
use Rattle.folder_raising.proofs.Steps.{start, step, stop, done}
use Rattle.folder_raising.proofs.raise.Goals as goal

pub loop-x-init : goal.loop-x-init
loop-x-init c = start _

pub returns-then-eq : goal.returns-then-eq
returns-then-eq c =
    let l = c.loop-x in
    let past : l.spot ≡ Past = search rules in
    set-get_or l.d l.x-index 0 ∙ stop _ l.d l.spot l.x-index past l.invariant

pub loop-x-preserved : goal.loop-x-preserved
loop-x-preserved c =
    let l = c.loop-x in
    rw (c.raise_octet.ensures, c.next-spot.ensures) (step _ l.d l.spot l.x-index (omega arith) l.invariant)

pub returns : goal.returns
returns c = let l = c.loop-x in done _ l.d l.spot l.x-index (omega arith) (omega arith) l.invariant
