-- `folder_raising::pass_values` meets its contract. Assumes nothing.
use mathlib.Core.Logic.{inl, inr}
use native.Mathlib.Omega.{arith}
use Rattle.folder_raising.proofs.KeptLaws.{kept_end, kept_quote, kept_quoted, kept_value, kept_semicolon, kept_end_colon}
use Rattle.folder_raising.proofs.pass_values.Goals.{then-b-eq34, else-b-eq34+else-not-quoted, else-not-quoted-via-then-not-quoted+else-b-eq58, else-not-quoted-via-else-not-quoted}
use Rattle.folder_raising.proofs.pass_values.Goals as goal

pub returns-then-b-eq58 : goal.returns-then-b-eq58
returns-then-b-eq58 c =
    let l = c.loop-i in
    let s = c.args.s.now in
    let t = c.if-not-quoted.true in
    (l.auto.i, omega arith, λ q. (rw t at l.invariant) (elim c.if-b-eq58.either [ inl e ↦ kept_semicolon s l.i (omega arith) e q | inr e ↦ kept_end_colon s l.i (omega arith) e.1 q ]))

pub loop-i-preserved : goal.loop-i-preserved
loop-i-preserved c =
    let l = c.loop-i in
    let s = c.args.s.now in
    elim c.if-b-eq34.branch [
      | then-b-eq34 w ↦ rw w.quoted-is (λ q. l.invariant (kept_quote s l.i (omega arith) l.quoted w.if-b-eq34.true q))
      | else-b-eq34+else-not-quoted w ↦ elim w.else-not-quoted.branch [
        | else-not-quoted-via-then-not-quoted+else-b-eq58 w' ↦
            let t = w'.if-not-quoted.true in
            rw (w.quoted-is, t) (λ q. (rw t at l.invariant) (kept_value s l.i (omega arith) w.if-b-eq34.false w'.if-b-eq58.false.0 w'.if-b-eq58.false.1 q))
        | else-not-quoted-via-else-not-quoted w' ↦
            let t = w'.if-not-quoted.false in
            rw (w.quoted-is, t) (λ q. (rw t at l.invariant) (kept_quoted s l.i (omega arith) w.if-b-eq34.false q))
      ]
    ]

pub returns : goal.returns
returns c =
    let l = c.loop-i in
    (c.requires, omega arith, λ q. l.invariant (kept_end c.args.s.now l.i _ c.loop-i-test.false))
