-- `reader::read` meets its contract. Assumes nothing.
use mathlib.Core.Path.{◌≡◌, refl, sym, ap, ◌∙◌}
use mathlib.Core.List.{List}
use Prim.Native.Nat.{ℕ}
use native.Mathlib.Omega.{arith}
use lib.ListN.{length}
use Rattle.std.proofs.lemmas.Result.{err_from_is_err_and}
use Rattle.octets.specs.Room.{overlay}
use Rattle.property_table.specs.declared.Edition.{Edition}
use Rattle.line_folds.specs.Folds.{unfolded}
use Rattle.reader.specs.Outcome.{judge_in, copy_of}
use Rattle.reader.specs.Outcome.{Accepted}
use Rattle.reader.proofs.AcceptLaws.{accepting, lines_counted, lines_few}
use Rattle.reader.proofs.ReadLaws.{copied, flat, recorded, read_refused, numbers_counted, read_13, read_14, read_written}
use Rattle.reader.proofs.read.Goals as goal

size : (ed : Edition) (i : List ℕ) (k n : ℕ) → judge_in ed i ≡ Accepted k n → {m : ℕ} → m ≡ length (unfolded i) → m ≡ length (copy_of i)
size ed i k n e h = h ∙ ap length (copied ed i k n e)

pub returns-in_err-counts : goal.returns-in_err-counts
returns-in_err-counts c =
    let a = c.args in
    let p = err_from_is_err_and c.from_residual.result c.from_residual.ensures.1 in
    rw (p.1, p.2) (read_refused a.edition a.input.now a.copy.now a.records.now _ _ _ c.in_err-counts.ensures refl)

pub copy_over-requires : goal.copy_over-requires
copy_over-requires c =
    let a = c.args in
    (accepting a.edition a.input.now _ _ (sym c.in_ok-counts.ensures)).short

pub returns-in-Some : goal.returns-in-Some
returns-in-Some c =
    let a = c.args in
    let e = sym c.in_ok-counts.ensures in
    read_13 a.edition a.input.now a.copy.now a.records.now _ _ _ e (size a.edition a.input.now _ _ e c.in-Some.ensures.1) c.in-Some.ensures.0

pub overflow_mul-numbers : goal.overflow_mul-numbers
overflow_mul-numbers c =
    let a = c.args in
    let i = a.input.now in
    let e = sym c.in_ok-counts.ensures in
    omega (arith, (accepting a.edition i _ _ e).short, lines_counted a.edition i _ _ e, lines_few i)

pub returns-then-records-numbers : goal.returns-then-records-numbers
returns-then-records-numbers c =
    let a = c.args in
    let e = sym c.in_ok-counts.ensures in
    read_14 a.edition a.input.now a.copy.now a.records.now _ _ _ e (size a.edition a.input.now _ _ e refl) c.in_default.ensures c.if-records-numbers.true

pub write_lines-requires : goal.write_lines-requires
write_lines-requires c =
    let a = c.args in
    let i = a.input.now in
    let e = sym c.in_ok-counts.ensures in
    let r = numbers_counted a.edition i a.copy.now a.records.now _ _ _ e (size a.edition a.input.now _ _ e refl) in
    record {
      classes = c.table-t.ensures;
      lists = c.table-rows.ensures;
      s_len_bound = (accepting a.edition i _ _ e).short;
      s_in_bounds = (c.in_default.ensures, rw (recorded a.edition i _ _ e) (omega (arith, r, c.if-records-numbers.false)));
      by_index = flat a.edition i _ _ e;
    }

pub returns : goal.returns
returns c =
    let a = c.args in
    let i = a.input.now in
    let e = sym c.in_ok-counts.ensures in
    let w = c.write_lines.ensures in
    read_written a.edition i a.copy.now a.records.now _ _ _ e (size a.edition a.input.now _ _ e refl) c.in_default.ensures c.if-records-numbers.false _ _
    (w.copy_after ∙ ap (λ (l : List ℕ). overlay l a.copy.now) (copied a.edition i _ _ e)) (w.out_after ∙ ap (λ (l : List ℕ). overlay l a.records.now) (recorded a.edition i _ _ e))
