-- src/lib.rt:113:9
use mathlib.Core.Path.{sym}
use borrow.Author.Tests.{eq-eqb, ne_eqb}
use Rattle.version3_judge.specs.Judge.{common}
use Rattle.version3_judge.proofs.is_common.Goals as goal

pub returns-then-row-eq-TEL : goal.returns-then-row-eq-TEL
unfolding common
returns-then-row-eq-TEL c = sym (rw (eq-eqb c.args.row 14 c.if-row-eq-TEL.true))

-- src/lib.rt:116:9
pub returns-then-row-eq-EMAIL : goal.returns-then-row-eq-EMAIL
unfolding common
returns-then-row-eq-EMAIL c = sym (rw (ne_eqb c.args.row 14 c.if-row-eq-TEL.false, eq-eqb c.args.row 15 c.if-row-eq-EMAIL.true))

-- src/lib.rt:119:9
pub returns-then-row-eq-FN : goal.returns-then-row-eq-FN
unfolding common
returns-then-row-eq-FN c = sym (rw (ne_eqb c.args.row 14 c.if-row-eq-TEL.false, ne_eqb c.args.row 15 c.if-row-eq-EMAIL.false, eq-eqb c.args.row 6 c.if-row-eq-FN.true))

-- src/lib.rt:122:9
pub returns-then-row-eq-N : goal.returns-then-row-eq-N
unfolding common
returns-then-row-eq-N c = sym (rw (ne_eqb c.args.row 14 c.if-row-eq-TEL.false, ne_eqb c.args.row 15 c.if-row-eq-EMAIL.false, ne_eqb c.args.row 6 c.if-row-eq-FN.false, eq-eqb c.args.row 7 c.if-row-eq-N.true))

-- src/lib.rt:125:9
pub returns-then-row-eq-ADR : goal.returns-then-row-eq-ADR
unfolding common
returns-then-row-eq-ADR c = sym (rw (ne_eqb c.args.row 14 c.if-row-eq-TEL.false, ne_eqb c.args.row 15 c.if-row-eq-EMAIL.false, ne_eqb c.args.row 6 c.if-row-eq-FN.false, ne_eqb c.args.row 7 c.if-row-eq-N.false, eq-eqb c.args.row 13 c.if-row-eq-ADR.true))

-- src/lib.rt:128:9
pub returns-then-row-eq-NOTE : goal.returns-then-row-eq-NOTE
unfolding common
returns-then-row-eq-NOTE c = sym (rw (ne_eqb c.args.row 14 c.if-row-eq-TEL.false, ne_eqb c.args.row 15 c.if-row-eq-EMAIL.false, ne_eqb c.args.row 6 c.if-row-eq-FN.false, ne_eqb c.args.row 7 c.if-row-eq-N.false, ne_eqb c.args.row 13 c.if-row-eq-ADR.false, eq-eqb c.args.row 27 c.if-row-eq-NOTE.true))

-- src/lib.rt:131:9
pub returns-then-row-eq-TITLE : goal.returns-then-row-eq-TITLE
unfolding common
returns-then-row-eq-TITLE c = sym (rw (ne_eqb c.args.row 14 c.if-row-eq-TEL.false, ne_eqb c.args.row 15 c.if-row-eq-EMAIL.false, ne_eqb c.args.row 6 c.if-row-eq-FN.false, ne_eqb c.args.row 7 c.if-row-eq-N.false, ne_eqb c.args.row 13 c.if-row-eq-ADR.false, ne_eqb c.args.row 27 c.if-row-eq-NOTE.false, eq-eqb c.args.row 20 c.if-row-eq-TITLE.true))

-- src/lib.rt:134:9
pub returns-then-row-eq-ROLE : goal.returns-then-row-eq-ROLE
unfolding common
returns-then-row-eq-ROLE c = sym (rw (ne_eqb c.args.row 14 c.if-row-eq-TEL.false, ne_eqb c.args.row 15 c.if-row-eq-EMAIL.false, ne_eqb c.args.row 6 c.if-row-eq-FN.false, ne_eqb c.args.row 7 c.if-row-eq-N.false, ne_eqb c.args.row 13 c.if-row-eq-ADR.false, ne_eqb c.args.row 27 c.if-row-eq-NOTE.false, ne_eqb c.args.row 20 c.if-row-eq-TITLE.false, eq-eqb c.args.row 21 c.if-row-eq-ROLE.true))

-- src/lib.rt:137:9
pub returns-then-row-eq-ORG : goal.returns-then-row-eq-ORG
unfolding common
returns-then-row-eq-ORG c = sym (rw (ne_eqb c.args.row 14 c.if-row-eq-TEL.false, ne_eqb c.args.row 15 c.if-row-eq-EMAIL.false, ne_eqb c.args.row 6 c.if-row-eq-FN.false, ne_eqb c.args.row 7 c.if-row-eq-N.false, ne_eqb c.args.row 13 c.if-row-eq-ADR.false, ne_eqb c.args.row 27 c.if-row-eq-NOTE.false, ne_eqb c.args.row 20 c.if-row-eq-TITLE.false, ne_eqb c.args.row 21 c.if-row-eq-ROLE.false, eq-eqb c.args.row 23 c.if-row-eq-ORG.true))

-- src/lib.rt:140:9
pub returns-then-row-eq-GEO : goal.returns-then-row-eq-GEO
unfolding common
returns-then-row-eq-GEO c = sym (rw (ne_eqb c.args.row 14 c.if-row-eq-TEL.false, ne_eqb c.args.row 15 c.if-row-eq-EMAIL.false, ne_eqb c.args.row 6 c.if-row-eq-FN.false, ne_eqb c.args.row 7 c.if-row-eq-N.false, ne_eqb c.args.row 13 c.if-row-eq-ADR.false, ne_eqb c.args.row 27 c.if-row-eq-NOTE.false, ne_eqb c.args.row 20 c.if-row-eq-TITLE.false, ne_eqb c.args.row 21 c.if-row-eq-ROLE.false, ne_eqb c.args.row 23 c.if-row-eq-ORG.false, eq-eqb c.args.row 19 c.if-row-eq-GEO.true))

-- src/lib.rt:109:1
pub returns : goal.returns
unfolding common
returns c = sym (rw (ne_eqb c.args.row 14 c.if-row-eq-TEL.false, ne_eqb c.args.row 15 c.if-row-eq-EMAIL.false, ne_eqb c.args.row 6 c.if-row-eq-FN.false, ne_eqb c.args.row 7 c.if-row-eq-N.false, ne_eqb c.args.row 13 c.if-row-eq-ADR.false, ne_eqb c.args.row 27 c.if-row-eq-NOTE.false, ne_eqb c.args.row 20 c.if-row-eq-TITLE.false, ne_eqb c.args.row 21 c.if-row-eq-ROLE.false, ne_eqb c.args.row 23 c.if-row-eq-ORG.false, ne_eqb c.args.row 19 c.if-row-eq-GEO.false))
