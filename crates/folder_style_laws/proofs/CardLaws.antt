-- Cards with the names of their lines raised are cards. Assumes nothing.
use mathlib.Core.Path.{◌≡◌, refl, sym, ap, subst, ◌∙◌}
use mathlib.Core.Bool.{Bool, false, not, ◌&&◌, ◌||◌}
use mathlib.Core.List.{List, [], ◌∷◌, ◌++◌, map}
use Prim.Native.Nat.{ℕ}
use lib.Dec.{eqb}
use Rattle.numbers.specs.Properties as property
use Rattle.utf8_laws.proofs.Utf8.{allowed_only}
use Rattle.line_parser.specs.Grammar.{Line, Each, render}
use Rattle.property_table.specs.Rows.{is_group}
use Rattle.card_line.specs.Parts.{altid_name, altid_of}
use Rattle.reader_grammar.specs.Values.{OfKind}
use Rattle.reader_grammar.specs.Cards.{Readable, Frame, Inside, count, counts, of_row, any, same_instance, instances, says_group, Body, CardLines, card, Cards, none, more}
use Rattle.folder_line.specs.Pieces.{Clean}
use Rattle.folder_raising.specs.Letters.{upper}
use Rattle.folder_style_laws.specs.Capitals.{raised_param, raised_line}
use Rattle.folder_raising.specs.declared.Style.TheVariants.{Raised}
use Rattle.folder_raising.proofs.CleanLaws.{clean_written}
use Rattle.folder_style_laws.proofs.ByParts.{raised_render}
use Rattle.folder_style_laws.proofs.NameLaws.{row_raised, param_raised, kind_raised, formed_raised}
use Rattle.property_table.specs.declared.Edition.{Edition}

pub line_clean : (x : Line) → Readable x → Clean (render x)
unfolding Clean
line_clean x r = (allowed_only false (render x)).1 (r.clean.characters, r.clean.octets)

pub readable_raised : (x : Line) → Readable x → Readable (raised_line x)
unfolding Clean
readable_raised x r =
    let c : Clean (render (raised_line x)) = subst Clean (raised_render x r.formed) (clean_written Raised (render x) (line_clean x r)) in
    let d = (allowed_only false (render (raised_line x))).0 c in
    record { clean = record { characters = d.0; octets = d.1 }; formed = formed_raised x r.formed }

pub each_readable : (xs : List Line) → Each Readable xs → Each Readable (map raised_line xs)
unfolding Each
each_readable [] r = tt
each_readable (x ∷ xs) r = (readable_raised x r.0, each_readable xs r.1)

module _ (ed : Edition) where
  frame_raised : (n : ℕ) (P : List ℕ → Type 0) (x : Line) → Frame ed n P x → Frame ed n P (raised_line x)
  frame_raised n P x f =
      record {
        row = row_raised x ed ∙ f.row;
        bare = record { group = ap (map upper) f.bare.group; params = ap (map raised_param) f.bare.params };
        value = f.value;
      }

  inside_raised : (x : Line) → Inside ed x → Inside ed (raised_line x)
  inside_raised x i =
      record {
        begin = λ e. i.begin (sym (row_raised x ed) ∙ e);
        version = λ e. i.version (sym (row_raised x ed) ∙ e);
        end = λ e. i.end (sym (row_raised x ed) ∙ e);
        value = subst (λ (k : ℕ). OfKind ed k x.value) (sym (kind_raised x ed)) i.value;
      }

  each_inside : (xs : List Line) → Each (Inside ed) xs → Each (Inside ed) (map raised_line xs)
  unfolding Each
  each_inside [] i = tt
  each_inside (x ∷ xs) i = (inside_raised x i.0, each_inside xs i.1)

  -- ---- counts

  count_raised : (p : Line → Bool) → ((x : Line) → p (raised_line x) ≡ p x) → (xs : List Line) → count p (map raised_line xs) ≡ count p xs
  unfolding count
  count_raised p h [] = refl
  count_raised p h (x ∷ xs) = ap (λ (b : Bool). counts b (count p (map raised_line xs))) (h x) ∙ ap (counts (p x)) (count_raised p h xs)

  lines_of_lem : (row : ℕ) (xs : List Line) → count (of_row ed row) (map raised_line xs) ≡ count (of_row ed row) xs
  lines_of_lem row xs = count_raised (of_row ed row) (λ x. ap (λ (n : ℕ). eqb n row) (row_raised x ed)) xs

  group_lines : (xs : List Line) → count (says_group ed) (map raised_line xs) ≡ count (says_group ed) xs
  group_lines xs = count_raised (says_group ed) (λ x. ap (λ (n : ℕ). eqb n property.kind && is_group x.value) (row_raised x ed)) xs

  -- ---- instances

  map_join : (xs ys : List Line) → map raised_line (xs ++ ys) ≡ map raised_line xs ++ map raised_line ys
  map_join [] ys = refl
  map_join (x ∷ xs) ys = ap (λ (zs : List Line). raised_line x ∷ zs) (map_join xs ys)

  same_raised : (x y : Line) → same_instance ed (raised_line x) (raised_line y) ≡ same_instance ed x y
  unfolding same_instance altid_of
  same_raised x y = rw (row_raised x ed, row_raised y ed, param_raised x altid_name, param_raised y altid_name) refl

  any_raised : (x : Line) (ys : List Line) → any (same_instance ed (raised_line x)) (map raised_line ys) ≡ any (same_instance ed x) ys
  unfolding any
  any_raised x [] = refl
  any_raised x (y ∷ ys) =
      ap (λ (b : Bool). b || any (same_instance ed (raised_line x)) (map raised_line ys)) (same_raised x y) ∙ ap (λ (b : Bool). same_instance ed x y || b) (any_raised x ys)

  instances_raised : (row : ℕ) (ys xs : List Line) → instances ed row (map raised_line ys) (map raised_line xs) ≡ instances ed row ys xs
  unfolding instances
  instances_raised row ys [] = refl
  instances_raised row ys (x ∷ xs) =
      ap (λ (n : ℕ). counts (eqb n row && not (any (same_instance ed (raised_line x)) (map raised_line ys))) (instances ed row (map raised_line ys ++ (raised_line x ∷ [])) (map raised_line xs))) (row_raised x ed)
      ∙ ap (λ (b : Bool). counts (of_row ed row x && not b) (instances ed row (map raised_line ys ++ (raised_line x ∷ [])) (map raised_line xs))) (any_raised x ys)
      ∙ ap (λ (zs : List Line). counts (of_row ed row x && not (any (same_instance ed x) ys)) (instances ed row zs (map raised_line xs))) (sym (map_join ys (x ∷ [])))
      ∙ ap (counts (of_row ed row x && not (any (same_instance ed x) ys))) (instances_raised row (ys ++ (x ∷ [])) xs)

  body_raised : (xs : List Line) → Body ed xs → Body ed (map raised_line xs)
  body_raised xs b =
      record {
        inner = record { each = each_inside xs b.inner.each; once = λ row s. rw (instances_raised row [] xs) (b.inner.once row s) };
        named = rw (lines_of_lem property.fn xs) b.named;
        members = λ h. rw (group_lines xs) (b.members (rw (lines_of_lem property.member xs) at h));
      }

  -- ---- cards

  card_raised : {xs : List Line} → CardLines ed xs → CardLines ed (map raised_line xs)
  card_raised (card {b = b} {v = v} {z = e} {xs = xs} f g x h) =
      subst (λ (ys : List Line). CardLines ed (raised_line b ∷ raised_line v ∷ ys)) (sym (map_join xs (e ∷ [])))
      (card (frame_raised _ _ b f) (frame_raised _ _ v g) (body_raised xs x) (frame_raised _ _ e h))

  -- Cards stay cards.
  pub cards_raised : {k : ℕ} {xs : List Line} → Cards ed k xs → Cards ed k (map raised_line xs)
  cards_raised none = none
  cards_raised (more {k = k} {xs = xs} {ys = ys} c d) =
      subst (Cards ed _) (sym (map_join xs ys)) (more (card_raised c) (cards_raised d))
