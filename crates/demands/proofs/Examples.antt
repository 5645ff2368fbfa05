-- The marked worked examples and those of named octets, each proved as one statement over its table: by computing a test of it. Assumes nothing.
use Prim.Native.Nat.{ℕ}
use mathlib.Core.Path.{◌≡◌, refl, ap}
use mathlib.Core.List.{List}
use native.Mathlib.Omega.{arith}
use lib.ListN.{get_or, replicate}
use mathlib.Core.Bool.{true}
use Rattle.octets.specs.Ascii as ascii
use Rattle.octets.specs.Cases as letters
use Rattle.octets.specs.Classes as classes
use Rattle.octets.specs.Room as room
use Rattle.octets.specs.Scan as scans
use Rattle.utf8.specs.Characters as characters
use Rattle.text_marks.specs.Marks as marks
use Rattle.text_unescaping.specs.Unescaped as unescaped
use Rattle.text.specs.Outcomes as texts
use Rattle.line_breaks.specs.Lone as lone
use Rattle.line_folds.specs.Folds as folds
use Rattle.line_folds.specs.Places as places
use Rattle.line_folds.specs.Logical as logical
use Rattle.line_parser.specs.Grammar as grammar
use Rattle.line_parser.specs.Grammar.{Each}
use Rattle.line_parser.specs.Parse as parse
use Rattle.line_parser.specs.Rule as rule
use Rattle.line_parameters.specs.First as parameters
use Rattle.value_kinds.specs.Dates as dates
use Rattle.value_kinds.specs.Kinds as kinds
use Rattle.value_kinds.specs.Octets as sets
use Rattle.value_kinds.specs.Shapes as shapes
use Rattle.property_table.specs.Rows as table
use Rattle.property_table.specs.declared.Edition.TheVariants.{First, Second}
use Rattle.card_line.specs.Parts as content
use Rattle.card_state.specs.State as card
use Rattle.card_judge.specs.Judge as judge
use Rattle.reader_walk.specs.Walk as walk
use Rattle.reader_records.specs.Records as records
use Rattle.reader.specs.Outcome as reader
use Rattle.reader.specs.Outcome.{judge_in}
use Rattle.reader.specs.Outcome.{Accepted}
use Rattle.desk_ledger.specs.Answers.{refused, verdict}
use Rattle.folder_line.specs.Pieces as pieces
use Rattle.folder_raising.specs.Letters as capitals
use Rattle.folder_raising.specs.Walk as styles
use Rattle.folder.specs.Outcome as folder
use Rattle.program_output.specs.Digits as digits
use Rattle.report_lines.specs.Rows as rows
use Rattle.report_weights.specs.Counts as kinds-of-count
use Rattle.report_weights.specs.Parts as weights
use Rattle.report.specs.Steps as report
use Rattle.report.specs.Text as printed
use Rattle.report_laws.specs.Totals as totals
use Rattle.octets.specs.Counts as tests
use Rattle.desk_pool.specs.Pools as pool
use Rattle.desk_entries.specs.Search as searches
use Rattle.desk_slots.specs.Sound as sound
use Rattle.desk_slots.specs.Slots as slots
use Rattle.desk.specs.Steps as desk
use Rattle.desk_ledger.specs.Ledger as ledger
use Rattle.desk_ledger.specs.Ticks as ticks
use Rattle.demands.specs.Examples.{Holds, marked, named, renewed, card_m, folded_m, records_m, rows_m, Merged, small_name, capital_name, wider_name}
use Rattle.demands.proofs.Tested.{same_numbers, same_answers, all_hold, tested}

-- ---- what the examples compute by: to unfold a name of this part is to unfold what its own line names

unfoldable pub by_octets : Unit {0}
unfolding ascii.octets letters.lower letters.same classes.letter classes.digit classes.hyphen classes.valued classes.quoted classes.bare classes.named classes.run
by_octets = tt

unfoldable pub by_scans : Unit {0}
unfolding scans.scan scans.gather room.fill room.fill_bounded
by_scans = tt

unfoldable pub by_characters : Unit {0}
unfolding characters.length_by characters.second characters.tail characters.rest characters.char_length characters.allowed characters.unit characters.first_bad
by_characters = tt

by_text : Unit {0}
unfolding marks.special texts.checked texts.faultless texts.unescape_outcome
by_text = tt

by_escapes : Unit {0}
unfolding unescaped.code unescaped.meant unescaped.escape_at unescaped.text_step unescaped.first_fault unescaped.passed unescaped.standing unescaped.unescaped
by_escapes = tt

unfoldable pub by_folds : Unit {0}
unfolding folds.fold_at folds.line_step folds.line_length folds.passed folds.kept folds.unfolded places.kept_from places.place_of logical.lines_by logical.raw_lines logical.logical_lines
by_folds = tt

unfoldable pub by_lines : Unit {0}
unfolding lone.lone_step lone.first_lone lone.ends_cr_lf grammar.group_text grammar.name_end parse.many parameters.first_named parameters.value_octets
by_lines = tt

unfoldable pub by_rule : Unit {0}
unfolding rule.word rule.closing rule.value rule.ends rule.more_values rule.values rule.param rule.head rule.is_colon rule.params rule.parse_line
by_rule = tt

unfoldable pub by_kinds : Unit {0}
unfolding kinds.text kinds.texts kinds.uri kinds.component kinds.parts kinds.up_to kinds.spread kinds.components kinds.gender kinds.pidmap kinds.shape_in kinds.vcard kinds.version
by_kinds = tt

unfoldable pub by_dates : Unit {0}
unfolding dates.fours dates.others dates.year dates.months dates.month dates.day28 dates.day29 dates.day30 dates.day31 dates.hour dates.minute dates.second dates.last_minute dates.offset dates.zoned dates.past_minute dates.past_hour dates.clock dates.last_second dates.time dates.timed dates.leap_date dates.common_date dates.no_year dates.date_and_or_time dates.full_time dates.leap_full dates.common_full dates.timestamp
by_dates = tt

unfoldable pub by_shapes : Unit {0}
unfolding kinds.line_shape kinds.value_in sets.among sets.holds shapes.nullable shapes.dead shapes.chain shapes.is_never shapes.fork shapes.derivative shapes.fault_from
by_shapes = tt

unfoldable pub by_table : Unit {0}
unfolding table.rows table.newer table.all_rows table.search table.row_of table.row_at table.kind_at table.takes_value table.rule_at table.kind_named table.says table.value_kind table.date_kind table.zone_kind table.line_kind table.framing table.is_group table.marks table.once_at table.single
by_table = tt

unfoldable pub by_cards : Unit {0}
unfolding content.param_value content.altid_of content.row_of_line content.kind_of_line content.line_parts_of card.in_order card.flag_of card.once_flag card.is_seen card.phase_after card.closed
by_cards = tt

unfoldable pub by_tags : Unit {0}
unfolding card.equal card.same_tag card.tag_of card.tagged card.second_instance card.line_card card.noted
by_tags = tt

unfoldable pub by_judge : Unit {0}
unfolding judge.laden judge.entered judge.judge_parts judge.judge_line walk.judge_lines records.record_by records.record_of records.records_from
by_judge = tt

unfoldable pub by_reader : Unit {0}
unfolding reader.verdict_of reader.judge_in reader.ended reader.copy_of reader.records_in reader.write_outcome reader.outcome_by reader.read_in
by_reader = tt

by_folder : Unit {0}
unfolding pieces.over pieces.first pieces.later pieces.pieces pieces.joined pieces.folded pieces.folded_lines folder.fold_by folder.fold_in
by_folder = tt

by_styles : Unit {0}
unfolding capitals.upper styles.raised_from styles.raised
by_styles = tt

by_report : Unit {0}
unfolding rows.row_of_name rows.lines_with rows.numbers_from rows.line_counts kinds-of-count.counts weights.part weights.weights tests.any report.over report.sums report.take_step
by_report = tt

by_print : Unit {0}
unfolding digits.decimal_in digits.decimal printed.name printed.row printed.has printed.shown printed.rows_of printed.report_text totals.after
by_print = tt

by_desk : Unit {0}
unfolding pool.patch pool.zeros searches.first_at searches.all_at searches.any_at searches.among sound.bounds sound.good_at sound.sound sound.ahead_in sound.sound_at slots.slot_of
by_desk = tt

by_calls : Unit {0}
unfolding desk.new_step desk.open_step desk.release_step ledger.lookup ledger.change ticks.run_ticked ticks.after_ticked
by_calls = tt

by_examples : Unit {0}
unfolding card_m folded_m records_m rows_m same_numbers same_answers all_hold
by_examples = tt

-- ---- the test

all_hold_lem : all_hold marked ≡ true
unfolding by_octets by_scans by_characters by_text by_escapes by_folds by_lines by_rule by_kinds by_dates by_shapes by_table by_cards by_tags by_judge by_reader by_folder by_styles by_report by_print by_desk by_calls by_examples
all_hold_lem = refl

pub examples : Each Holds marked
examples = tested marked all_hold_lem

named_hold : all_hold named ≡ true
unfolding by_octets by_scans by_characters by_text by_escapes by_folds by_lines by_rule by_kinds by_dates by_shapes by_table by_cards by_tags by_judge by_reader by_folder by_styles by_report by_print by_desk by_calls by_examples
named_hold = refl

pub named_examples : Each Holds named
named_examples = tested named named_hold

-- In the raised style equal octets don't tell equal copies.
pub merged : Merged small_name capital_name (replicate 160 0)
unfolding by_octets by_scans by_characters by_text by_escapes by_folds by_lines by_rule by_kinds by_dates by_shapes by_table by_cards by_tags by_judge by_reader by_folder by_styles by_desk by_calls by_examples
merged = record { octets = refl; copies = λ e. let z : ◌≡◌ {A = ℕ} 120 88 = ap (λ (l : List ℕ). get_or l 32 0) e in omega arith }

renewed_hold : all_hold renewed ≡ true
unfolding by_octets by_scans by_characters by_text by_escapes by_folds by_lines by_rule by_kinds by_dates by_shapes by_table by_cards by_tags by_judge by_reader by_folder by_styles by_report by_print by_desk by_calls by_examples
renewed_hold = refl

pub renewed_examples : Each Holds renewed
renewed_examples = tested renewed renewed_hold

-- An N of six components, which edition two accepts and edition one does not.
abbrev pub wider : List ℕ
wider = wider_name

pub wider_two : judge_in Second wider ≡ Accepted 1 5
unfolding by_octets by_scans by_characters by_text by_escapes by_folds by_lines by_rule by_kinds by_dates by_shapes by_table by_cards by_tags by_judge by_reader by_folder by_styles by_report by_print by_desk by_calls by_examples
wider_two = refl

pub wider_one : verdict (judge_in First wider) ≡ refused 7 38
unfolding by_octets by_scans by_characters by_text by_escapes by_folds by_lines by_rule by_kinds by_dates by_shapes by_table by_cards by_tags by_judge by_reader by_folder by_styles by_report by_print by_desk by_calls by_examples
wider_one = refl
