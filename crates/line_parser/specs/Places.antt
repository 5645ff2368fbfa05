-- What the code answers of a reading: places and counts in the line, or the fault. Assumes nothing.
use Rattle.std.specs.Prelude.{ℕ, ◌+◌, List, Result, Ok, Err, eqb, length}
use Rattle.octets.specs.Pick.{pick}
use Rattle.line_parser.specs.Parse.{Parse, got, bad}
use Rattle.line_parser.specs.Grammar.{Line, name_end}
use Rattle.line_parser.specs.Rule.{Head}
use Rattle.numbers.specs.Refusals.{number}
use Rattle.numbers.specs.declared.refusal.Reason.{Reason}
use Rattle.line_parser.specs.declared.rule.Named.{Named as NamedPart}
use Rattle.line_parser.specs.declared.rule.Listed.{Listed as ListedPart}
use Rattle.line_parser.specs.declared.rule.Parsed.{Parsed as ParsedLine}

-- what reading a part of a line answers
pub data Part : Type 0 where
  -- where the part ends
  Upto : ℕ → Part
  -- how long the group is, and where the name ends
  Named : ℕ → ℕ → Part
  -- how many parameters there are, and where they end
  Listed : ℕ → ℕ → Part
  -- how long the group is, where the name ends, how many parameters there are, where the value starts
  Parsed : ℕ → ℕ → ℕ → ℕ → Part
  -- the refusal's number, 40 to 43
  Fault : ℕ → Part

-- the same of the results of the code
abbrev pub upto : Result ℕ Reason → Part
upto (Ok n) = Upto n
upto (Err r) = Fault (number r)

abbrev pub named : Result NamedPart Reason → Part
named (Ok h) = Named h.group_length h.name_end
named (Err r) = Fault (number r)

abbrev pub counted : Result ListedPart Reason → Part
counted (Ok l) = Listed l.param_count l.end
counted (Err r) = Fault (number r)

abbrev pub parsed : Result ParsedLine Reason → Part
parsed (Ok x) = Parsed x.group_length x.name_end x.param_count x.value_start
parsed (Err r) = Fault (number r)

-- of a part that starts at a place: where it ends
abbrev pub place : {A : Type 0} → ℕ → Parse A → Part
place at (got a k) = Upto (at + k)
place at (bad e) = Fault e

-- of further parts, after c that were read before: how many there are then, and where they end
abbrev pub listed : {A : Type 0} → ℕ → ℕ → Parse (List A) → Part
listed c at (got xs k) = Listed (c + length xs) (at + k)
listed c at (bad e) = Fault e

-- of group and name: how long the group is, without its dot, and where the name ends
abbrev pub headed : Parse Head → Part
headed (got h k) = Named (length h.group) k
headed (bad e) = Fault e

-- of a line: group length, end of the name, number of parameters (not of their values), start of the value
abbrev pub outcome : Parse Line → Part
outcome (got x k) = Parsed (length x.group) (name_end x) (length x.params) k
outcome (bad e) = Fault e

-- where the name starts: after the group and its dot, where there is a group
abbrev pub name_start : ℕ → ℕ
name_start g = pick (eqb g 0) 0 (g + 1)
