-- The newer edition, by the laws of rows and of the grammar. Assumes nothing.
use mathlib.Core.Path.{◌≡◌, refl, sym, ap, ◌∙◌}
use mathlib.Core.List.{List}
use Prim.Native.Nat.{ℕ}
use Rattle.octets.specs.Ascii.{octets}
use Rattle.octets.specs.Cases.{lower, same}
use Rattle.line_parser.specs.Grammar.{Each}
use Rattle.property_table.specs.declared.Edition.TheVariants.{First, Second}
use Rattle.property_table.specs.Rows.{rows, newer, all_rows, search, row_of, row_at, kind_at, single}
use Rattle.value_laws.proofs.NewLaws.{unknown_in_one}
use Rattle.reader.specs.Outcome.{Verdict}
use Rattle.folder_raising.specs.declared.Style.{Style}
use Rattle.folder.specs.Outcome.{fold_by, fold_in}
use Rattle.reader_grammar.specs.Inputs.{InputIn}
use Rattle.reader_grammar.specs.Editions.{Old}
use Rattle.reader_grammar.proofs.Accepted.{accepted_law}
use Rattle.reader_grammar.proofs.EditionLaws.{judged_too, read_too}
use Rattle.demands.specs.Demand13.{Demand13}
use Rattle.demands.proofs.Examples.{wider, wider_one, wider_two, renewed_examples}

folds : (i : List ℕ) (k n : ℕ) (h : InputIn First i k n) → Each Old h.lines → (s : Style) (out : List ℕ) → fold_in Second s i out ≡ fold_in First s i out
unfolding fold_in
folds i k n h o s out = ap (λ (v : Verdict). fold_by s v i out) (judged_too i k n h o ∙ sym ((accepted_law First i k n).1 h))

pub demand13 : Demand13
unfolding octets same lower rows newer all_rows search row_of row_at kind_at single
demand13 =
    record {
      created = record { row = refl; sort = refl };
      gramgender = record { row = refl; sort = refl };
      language = record { row = refl; sort = refl };
      pronouns = record { row = refl; sort = refl };
      socialprofile = record { row = refl; sort = refl };
      once = (refl, refl);
      often = (refl, refl, refl);
      extends = read_too;
      folds = folds;
      strictly = (wider, 1, 5, (accepted_law Second wider 1 5).0 wider_two, (38, wider_one));
      unknown_in_one = unknown_in_one;
      examples = renewed_examples;
    }
