-- `merge_partners::join_at` meets its contract. Assumes nothing.
use borrow.Author.Tests.{eq-eqb, ne_eqb}
use mathlib.Core.Path.{◌≡◌, sym, ap, ◌∙◌}
use mathlib.Core.Bool.{true, false}
use lib.ListN.{get_or}
use Rattle.merge_sides.specs.Lines.{same_property}
use Rattle.merge_partners.specs.Keys.{number_at}
use Rattle.merge_partners.specs.Pairs.{join_to, join_all, hit_pair, key_pair}
use Rattle.merge_partners.proofs.NewLaws.{passed_over, none_new}
use Rattle.merge_partners.proofs.join_at.Goals as goal

pub returns-then-not-is_new : goal.returns-then-not-is_new
returns-then-not-is_new c =
    let a = c.args in
    sym (none_new a.x.now.copy.now a.x.now.records.now a.i a.key a.tag a.y.now.copy.now a.y.now.records.now a.m.now.numbers.now a.m.now.keys.now a.m.now.tags.now a.m.now.seats.now c.requires.sifts a.p.now a.t.now a.k c.requires.k_in_bounds (passed_over (get_or a.m.now.tags.now a.k 0) (get_or a.m.now.seats.now a.k 0) a.tag _ _ _ c.is_new.ensures c.partner_of-partner.ensures c.if-not-is_new.true))

pub returns-then-m-k : goal.returns-then-m-k
unfolding join_all key_pair
returns-then-m-k c =
    let a = c.args in
    rw (ne_eqb (get_or a.m.now.keys.now a.k 0) a.key c.if-m-k.true)

pub returns-then-not-same_property : goal.returns-then-not-same_property
unfolding join_all key_pair hit_pair
returns-then-not-same_property c =
    let a = c.args in
    let f : same_property a.x.now.copy.now a.x.now.records.now a.i a.y.now.copy.now a.y.now.records.now (number_at a.m.now.numbers.now a.k 0) ≡ false = ap (same_property a.x.now.copy.now a.x.now.records.now a.i a.y.now.copy.now a.y.now.records.now) (sym (c.wide_number-j.ensures.0 ∙ c.number_of.ensures)) ∙ sym c.same_property.ensures ∙ c.if-not-same_property.true in
    rw (eq-eqb (get_or a.m.now.keys.now a.k 0) a.key c.if-m-k.false, f)

pub returns : goal.returns
unfolding join_all key_pair hit_pair
returns c =
    let a = c.args in
    let n = c.wide_number-j.ensures.0 ∙ c.number_of.ensures in
    let f : same_property a.x.now.copy.now a.x.now.records.now a.i a.y.now.copy.now a.y.now.records.now (number_at a.m.now.numbers.now a.k 0) ≡ true = ap (same_property a.x.now.copy.now a.x.now.records.now a.i a.y.now.copy.now a.y.now.records.now) (sym n) ∙ sym c.same_property.ensures ∙ c.if-not-same_property.false in
    rw (eq-eqb (get_or a.m.now.keys.now a.k 0) a.key c.if-m-k.false, f) (c.join.ensures ∙ ap (join_to a.p.now a.t.now a.i) n)
