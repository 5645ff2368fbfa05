-- The judgement of one logical line within its card, by REFERENCE, The order of refusals: 5, 40 to 43, 9, 8, 7, 10 and, at END, 11, 12. Assumes nothing.
use Rattle.std.specs.Prelude.{ℕ, ◌+◌, ◌-◌, ◌<◌, ◌≤◌, ◌≡◌, Bool, true, false, not, ◌&&◌, ◌||◌, List, [], ◌++◌, map, ◌⊎◌, eqb, ltb, length, take, drop}
use Rattle.std.proofs.Math.Option.{Option, none, some}
use Rattle.numbers.specs.Limits as limit
use Rattle.numbers.specs.Refusals as refusal
use Rattle.numbers.specs.Properties as property
use Rattle.octets.specs.Pick.{pick}
use Rattle.octets.specs.Classes.{Classes}
use Rattle.utf8.specs.Characters.{allowed, first_bad}
use Rattle.line_parser.specs.Parse.{Parse, got, bad}
use Rattle.line_parser.specs.Grammar.{Line}
use Rattle.line_parser.specs.Rule.{parse_line}
use Rattle.property_table.specs.declared.Edition.{Edition}
use Rattle.property_table.specs.Rows.{once_at, is_group, framing, Lists}
use Rattle.value_kinds.specs.Kinds.{value_in}
use Rattle.value_automaton.specs.States.{Scanner}
use Rattle.value_kinds.specs.declared.Fault.{Fault}
use Rattle.value_kinds.specs.declared.Fault.TheVariants.{Fits, Breaks}
use Rattle.card_state.specs.State.{Card, Step, Refused, Flawed, before_begin, in_order, flag_of, once_flag, is_seen, same_tag, tag_of, noted, closed}
use Rattle.card_state.specs.Kept.{places_of, tag_at, Lies, step_of, Holds, Keeps}
use Rattle.card_state.specs.declared.Card.{Card as Kept}
use Rattle.card_state.specs.Kept.{KeptStep}
use Rattle.card_state.specs.Kept.{next as next_kept}
use Rattle.card_line.specs.Parts.{row_of_line, kind_of_line, altid_of, line_parts_of}
use Rattle.card_line.specs.declared.Parts.{Parts}
use Rattle.card_line.specs.Parts.{line}
use Rattle.line_parameters.specs.First.{First}
use Rattle.line_parameters.specs.First.{Between, Nothing}
use Rattle.card_judge.specs.declared.judge.Judgement.{Judgement}
use Rattle.card_judge.specs.declared.judge.Instance.{Instance as Found}
use Rattle.card_judge.specs.declared.judge.Instance.TheVariants.{Second, Opened, Further}

-- the lent tables are those of classes, properties and transitions
abbrev pub Tables : List ℕ → List ℕ → List ℕ → Type 0
Tables t rows steps = Classes t × Lists rows × Scanner steps

-- x are the parts of the line l in an edition
abbrev pub Parted : Parts → List ℕ → Type 0
Parted x l = (e : Edition) × (line x ≡ line_parts_of e l)

-- 8: a group or a parameter on a line that frames a card
unfoldable pub laden : ℕ → ℕ → ℕ → Bool
laden row group params = framing row && (not (eqb group 0) || not (eqb params 0))

-- a line that fits its place and its kind; altid: its ALTID value, where it has one
unfoldable pub entered : Card → ℕ → ℕ → Option (List ℕ) → List ℕ → Step
entered c at row altid value = pick (eqb row property.end) (closed c at) (noted c at row altid (is_group value))

-- 7: the value, which starts at `start` in the line, breaks its kind at an octet of it, or ends too early
abbrev pub fitting : ℕ → Fault → Step → Step
fitting start Fits next = next
fitting start (Breaks octet) next = Flawed refusal.value (start + octet)

-- group: the group's length; params: how many parameters; start: where the value starts in the line
unfoldable pub judge_parts : Edition → Card → ℕ → ℕ → ℕ → ℕ → ℕ → Option (List ℕ) → ℕ → List ℕ → Step
judge_parts e c at row group params kind altid start value =
    pick (in_order c.phase row)
    (pick (laden row group params) (Refused refusal.laden at) (fitting start (value_in e row kind value) (entered c at row altid value)))
    (Refused refusal.order at)

abbrev pub judge_parsed : Edition → Card → ℕ → Parse Line → Step
judge_parsed e c at (got x k) = judge_parts e c at (row_of_line e x) (length x.group) (length x.params) (kind_of_line e x) (altid_of x) k x.value
judge_parsed e c at (bad n) = Refused n at

-- 5: an octet that is not allowed, or no character; then the fault of the line rule, 40 to 43; then the parts of the line
unfoldable pub judge_line : Edition → Card → ℕ → List ℕ → Step
judge_line e c at l =
    pick (ltb (first_bad (allowed false) l) (length l)) (Flawed refusal.bad_octet (first_bad (allowed false) l)) (judge_parsed e c at (parse_line l))

-- the octets between two places of a line
abbrev pub part : ℕ → ℕ → List ℕ → List ℕ
part from to l = take (to - from) (drop from l)

-- what a judgement of the line l says: its step, with the store and behind it the octets of the line that are to be kept
unfoldable pub read_by : Judgement → List ℕ → List ℕ → Step
read_by j store l = step_of (store ++ part j.from j.to l) j.step

-- the store has the values that the state keeps, and nothing else; with the line they are no more than an input's octets
pub record Stored (c : Kept) (store l : List ℕ) : Type 0 where
  pub lies : Lies c
  pub all : length store ≡ c.used
  pub short : c.used + length l ≤ limit.octets

-- an ALTID value, or no octets where there is none
abbrev pub octets_of : Option (List ℕ) → List ℕ
octets_of none = []
octets_of (some v) = v

-- the octets that a line of the row adds to the values that a card keeps: its ALTID value where it is the first line of a property marked *1
unfoldable pub added_at : ℕ → ℕ → Option (List ℕ) → List ℕ
added_at row seen altid = pick (is_seen (once_flag row) seen) [] (pick (eqb (once_at row) 0) [] (octets_of altid))

abbrev pub added_parsed : Edition → ℕ → Parse Line → List ℕ
added_parsed e seen (got x k) = added_at (row_of_line e x) seen (altid_of x)
added_parsed e seen (bad n) = []

-- the octets that a line adds to the values that a card keeps, by the flags of the properties marked *1 that the card has had
unfoldable pub added_by : Edition → ℕ → List ℕ → List ℕ
added_by e seen l = added_parsed e seen (parse_line l)

-- how many octets of values the state after a line keeps where there were n with the line's: none after END
abbrev pub kept_after : ℕ → Kept → ℕ
kept_after n d = pick (eqb d.phase before_begin) 0 n

-- a state after a line, if that is what the step is, keeps so many octets
abbrev pub KeepsOn : ℕ → KeptStep → Type 0
KeepsOn n s = (d : Kept) → s ≡ next_kept d → d.used ≡ kept_after n d

-- the octets to keep lie in the line and are those that it adds, and the values of the next state in the store with them
pub record Keeping (c : Kept) (l added : List ℕ) (j : Judgement) : Type 0 where
  pub order : j.from ≤ j.to
  pub inside : j.to ≤ length l
  pub holds : Holds (c.used + (j.to - j.from)) j.step
  pub adds : (d : Kept) → j.step ≡ next_kept d → part j.from j.to l ≡ added
  pub counts : KeepsOn (c.used + (j.to - j.from)) j.step

-- what was found in the line l is this value of a parameter, or that it has none
abbrev pub Spans : First → List ℕ → Option (List ℕ) → Type 0
Spans (Between a e) l o = (a ≤ e) × (e ≤ length l) × (o ≡ some (part a e l))
Spans Nothing l o = o ≡ none

-- what a line makes of its property's instance: it starts a second one, its ALTID value is to be kept, and where that stands
pub record Instance : Type 0 where
  pub second : Bool
  pub keeps : Bool
  pub from : ℕ
  pub to : ℕ

-- the same of what the code answers
abbrev pub instance : Found → Instance
instance Second = record { second = true; keeps = false; from = 0; to = 0 }
instance (Opened from to) = record { second = false; keeps = true; from = from; to = to }
instance Further = record { second = false; keeps = false; from = 0; to = 0 }

-- what a line l of the k-th property marked *1, or of any other (0), with this ALTID value makes of its instance
pub record Told (c : Kept) (store l : List ℕ) (k : ℕ) (altid : Option (List ℕ)) (i : Instance) : Type 0 where
  pub order : i.from ≤ i.to
  pub inside : i.to ≤ length l
  pub second : i.second ≡ (is_seen (flag_of k) c.seen && not (same_tag (tag_of (map (tag_at store) (places_of c.tags)) k) altid))
  pub first : i.keeps ≡ true → (is_seen (flag_of k) c.seen ≡ false) × ((0 < k) × (altid ≡ some (part i.from i.to l)))
  pub other : i.keeps ≡ false
      → ((i.from ≡ 0) × (i.to ≡ 0)) × ((is_seen (flag_of k) c.seen ≡ true) ⊎ (pick (eqb k 0) none altid ≡ none))

-- the state r is c with the line's value kept, where it is to be kept
pub record Takes (c : Kept) (k : ℕ) (i : Instance) (r : Kept) : Type 0 where
  pub value : i.keeps ≡ true → Keeps c k (i.to - i.from) r
  pub none : i.keeps ≡ false → r ≡ c
