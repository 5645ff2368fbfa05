-- The worked example, computed. Assumes nothing.
use Prim.Native.Nat.{ℕ}
use mathlib.Core.Path.{◌≡◌, refl}
use mathlib.Core.List.{List}
use Rattle.octets.specs.Ascii as ascii
use Rattle.octets.specs.Cases as letters
use Rattle.octets.specs.Classes as classes
use Rattle.octets.specs.Room.{fill_bounded}
use Rattle.octets.specs.Scan as scans
use Rattle.utf8.specs.Characters as characters
use Rattle.line_breaks.specs.Lone as lone
use Rattle.line_folds.specs.Folds as folds
use Rattle.line_folds.specs.Logical as logical
use Rattle.line_parser.specs.Grammar as grammar
use Rattle.line_parser.specs.Parse as parse
use Rattle.line_parser.specs.Rule as rule
use Rattle.line_parameters.specs.First as parameters
use Rattle.value_kinds.specs.Kinds as kinds
use Rattle.value_kinds.specs.Octets as sets
use Rattle.value_kinds.specs.Shapes as shapes
use Rattle.property_table.specs.Rows as table
use Rattle.card_line.specs.Parts as content
use Rattle.card_state.specs.State as state
use Rattle.card_judge.specs.Judge as judge
use Rattle.reader_walk.specs.Walk as walk
use Rattle.reader.specs.Outcome as reader
use Rattle.folder_line.specs.Pieces as pieces
use Rattle.version3_text.specs.Renewed as renewal
use Rattle.version3_geo.specs.Floats as floats
use Rattle.version3_parameters.specs.Params as params
use Rattle.version3_line.specs.Lines as lines
use Rattle.version3_judge.specs.Judge as judging
use Rattle.version3.specs.Card as card
use Rattle.version3.specs.Outcome as outcomes
use Rattle.version3.specs.Outcome.{take_outcome, give_outcome}
use Rattle.version3_laws.specs.Examples as examples
use Rattle.version3_laws.specs.Examples.{old_card, new_card, back_card}

-- ---- what the example computes by: to unfold a name of this part is to unfold what its own line names

by_octets : Unit {0}
unfolding ascii.octets letters.lower letters.same classes.letter classes.digit classes.hyphen classes.valued classes.quoted classes.bare classes.named classes.run examples.ended
by_octets = tt

by_characters : Unit {0}
unfolding scans.scan scans.gather characters.length_by characters.second characters.tail characters.rest characters.char_length characters.allowed characters.unit characters.first_bad
by_characters = tt

by_folds : Unit {0}
unfolding folds.fold_at folds.line_step folds.line_length folds.passed folds.kept folds.unfolded logical.lines_by logical.raw_lines logical.logical_lines
by_folds = tt

by_lines : Unit {0}
unfolding lone.lone_step lone.first_lone lone.ends_cr_lf grammar.group_text grammar.name_end grammar.led grammar.value_text grammar.param_text grammar.front grammar.render parse.many parameters.first_named parameters.value_octets
by_lines = tt

by_rule : Unit {0}
unfolding rule.word rule.closing rule.value rule.ends rule.more_values rule.values rule.param rule.head rule.is_colon rule.params rule.parse_line
by_rule = tt

by_kinds : Unit {0}
unfolding kinds.text kinds.texts kinds.uri kinds.component kinds.parts kinds.up_to kinds.spread kinds.components kinds.shape_in kinds.kind_in kinds.vcard kinds.version kinds.line_shape kinds.value_in
by_kinds = tt

by_shapes : Unit {0}
unfolding sets.among sets.holds shapes.nullable shapes.dead shapes.chain shapes.is_never shapes.fork shapes.derivative shapes.fault_from
by_shapes = tt

by_table : Unit {0}
unfolding table.rows table.newer table.all_rows table.search table.row_of table.row_at table.kind_at table.takes_value table.rule_at table.kind_named table.says table.value_kind table.date_kind table.zone_kind table.line_kind table.framing table.is_group table.marks table.once_at table.single
by_table = tt

by_cards : Unit {0}
unfolding content.param_value content.altid_of content.row_of_line content.kind_of_line state.in_order state.flag_of state.once_flag state.is_seen state.phase_after state.closed
by_cards = tt

by_tags : Unit {0}
unfolding state.equal state.same_tag state.tag_of state.tagged state.second_instance state.line_card state.noted
by_tags = tt

by_reader : Unit {0}
unfolding judge.laden judge.entered judge.judge_parts judge.judge_line walk.judge_lines reader.verdict_of reader.judge_in
by_reader = tt

by_pieces : Unit {0}
unfolding pieces.over pieces.first pieces.later pieces.pieces pieces.joined pieces.folded pieces.folded_lines
by_pieces = tt

by_text : Unit {0}
unfolding renewal.pair_at renewal.small renewal.passed renewal.bare_at renewal.anew renewal.renewed renewal.semicolon_at renewal.semicolons
by_text = tt

by_floats : Unit {0}
unfolding floats.digits floats.fraction floats.unsigned floats.sign floats.float floats.up_to floats.floats floats.swapped floats.schemed floats.old_geo floats.new_geo floats.made_new floats.made_old
by_floats = tt

by_params : Unit {0}
unfolding params.is_pref params.kept params.any_pref params.changed params.prefers params.changed_all params.any_prefers params.new_params params.one_text params.all_lawful params.prefs params.prefs_fit
by_params = tt

by_judging : Unit {0}
unfolding judging.in_place judging.common judging.of_kind judging.short judging.fills judging.goes_over judging.whole judging.frames judging.goes judging.good judging.noted judging.judge_parts judging.judge_line judging.judge_lines
by_judging = tt

by_card : Unit {0}
unfolding lines.needed lines.parted lines.anew_by lines.lacking lines.filled_by lines.new_value lines.new_line card.turn_of_row card.turn_of card.clear card.form_of card.forms card.arranged card.card_text outcomes.convert_outcome outcomes.give_outcome
by_card = tt

pub taken_example : (room : List ℕ) → take_outcome old_card room ≡ fill_bounded new_card room
unfolding by_octets by_characters by_folds by_lines by_rule by_kinds by_shapes by_table by_cards by_pieces by_text by_floats by_params by_judging by_card by_reader
taken_example room = refl

pub given_example : (room : List ℕ) → give_outcome new_card room ≡ fill_bounded back_card room
unfolding by_octets by_characters by_folds by_lines by_rule by_kinds by_shapes by_table by_cards by_tags by_pieces by_text by_floats by_params by_judging by_card by_reader
given_example room = refl
