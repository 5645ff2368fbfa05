-- `merge_partners::key_of` meets its contract. Assumes nothing.
use borrow.Author.Tests.{lt-ltb, le-ltb}
use mathlib.Core.Path.{sym}
use native.Mathlib.Omega.{arith}
use Rattle.merge_partners.specs.Keys.{key_by, key_of}
use Rattle.merge_partners.proofs.key_of.Goals as goal

pub returns-then-class-ge-SOURCES : goal.returns-then-class-ge-SOURCES
unfolding key_of key_by
returns-then-class-ge-SOURCES c = rw (sym c.class_by-class.ensures, le-ltb c.class_by-class.result 16 c.if-class-ge-SOURCES.true)

pub returns-then-wide_number-gt-SOURCE_NUMBER : goal.returns-then-wide_number-gt-SOURCE_NUMBER
unfolding key_of key_by
returns-then-wide_number-gt-SOURCE_NUMBER c = rw (sym c.class_by-class.ensures, lt-ltb c.class_by-class.result 16 c.if-class-ge-SOURCES.false, lt-ltb 65535 c.args.first (omega (arith, c.if-wide_number-gt-SOURCE_NUMBER.true, c.wide_number.ensures.0)))

pub overflow_mul-result : goal.overflow_mul-result
overflow_mul-result c = omega (arith, c.if-wide_number-gt-SOURCE_NUMBER.false, c.wide_number.ensures.0)

pub overflow_cast-result : goal.overflow_cast-result
overflow_cast-result c = omega (arith, c.if-class-ge-SOURCES.false)

pub overflow_add-result : goal.overflow_add-result
overflow_add-result c = omega (arith, c.if-class-ge-SOURCES.false, c.if-wide_number-gt-SOURCE_NUMBER.false, c.wide_number.ensures.0)

pub returns : goal.returns
unfolding key_of key_by
returns c = rw (sym c.class_by-class.ensures, lt-ltb c.class_by-class.result 16 c.if-class-ge-SOURCES.false, le-ltb 65535 c.args.first (omega (arith, c.if-wide_number-gt-SOURCE_NUMBER.false, c.wide_number.ensures.0)))
