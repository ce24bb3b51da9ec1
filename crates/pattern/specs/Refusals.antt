-- The numbers of the refusals, as the code names them. To be believed.
use Rattle.std.specs.Prelude.{ℕ, ⊤, Result, Ok, Err}
use Rattle.pattern.specs.Numbers.{LONG, FORM, CODE, NUMBER, RANGE, ATOMS, DEPTH, ROOM, ANSWER, TABLE, LABEL, WORK, PARTS, BUDGET, BATCH, FULL, REGISTER, MISSING}
use Rattle.pattern.specs.declared.refusal.Refusal.{Refusal}
use Rattle.pattern.specs.declared.refusal.Refusal.TheVariants.{Long, Form, Code, Number, Range, Atoms, Depth, Room, Answer, Table, Label, Work, Parts, Budget, Batch, Full, Register, Missing}

abbrev pub number_of : Refusal → ℕ
number_of Long = LONG
number_of Form = FORM
number_of Code = CODE
number_of Number = NUMBER
number_of Range = RANGE
number_of Atoms = ATOMS
number_of Depth = DEPTH
number_of Room = ROOM
number_of Answer = ANSWER
number_of Table = TABLE
number_of Label = LABEL
number_of Work = WORK
number_of Parts = PARTS
number_of Budget = BUDGET
number_of Batch = BATCH
number_of Full = FULL
number_of Register = REGISTER
number_of Missing = MISSING

-- of a call that answers no more than whether it was refused: 0 for none
abbrev pub number_of_result : Result ⊤ Refusal → ℕ
number_of_result (Ok done) = 0
number_of_result (Err refusal) = number_of refusal
