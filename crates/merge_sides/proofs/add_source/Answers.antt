-- `merge_sides::add_source` meets its contract. Assumes nothing.
use borrow.Author.Tests.{lt-ltb, le-ltb}
use mathlib.Core.Path.{refl, ap}
use Rattle.merge_sources.specs.Row.{put}
use Rattle.merge_sources.specs.declared.Row.{Row}
use Rattle.merge_sides.specs.Sources.{with_source}
use Rattle.merge_sides.proofs.add_source.Goals as goal

pub returns-then-count-ge-SOURCES : goal.returns-then-count-ge-SOURCES
unfolding with_source
returns-then-count-ge-SOURCES c = record { value = rw (le-ltb c.args.r.count 16 c.if-count-ge-SOURCES.true); count_value = refl }

pub with_entry-requires : goal.with_entry-requires
with_entry-requires c = c.if-count-ge-SOURCES.false

pub returns : goal.returns
unfolding with_source put
returns c = record { value = rw (lt-ltb c.args.r.count 16 c.if-count-ge-SOURCES.false) c.with_entry.ensures; count_value = ap (λ (q : Row). q.count) c.with_entry.ensures }
