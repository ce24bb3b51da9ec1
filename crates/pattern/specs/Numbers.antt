-- The numbers of the paper: limits, refusals, mark, layout and sizes, each named once. To be believed.
use Rattle.std.specs.Prelude.{List, [], ◌∷◌, ℕ, ◌*◌}

-- "source limit 2,048 bytes"
abbrev pub source_limit : ℕ
source_limit = 2048

-- "Atom limit 256", "groups counted as atoms"
abbrev pub atom_limit : ℕ
atom_limit = 256

-- "groups at most 8 deep"
abbrev pub depth_limit : ℕ
depth_limit = 8

-- "a repeat number at most 9,999"
abbrev pub number_limit : ℕ
number_limit = 9999

-- "label at most 255 bytes"
abbrev pub label_limit : ℕ
label_limit = 255

-- sets of codes are below this; it is the bit of every letter other than the seven, which the grammar allows and CODE refuses
abbrev pub set_limit : ℕ
set_limit = 128

-- the bytes of the notation: " ( ) , . 0
abbrev pub quote_byte : ℕ
quote_byte = 34

abbrev pub opening_byte : ℕ
opening_byte = 40

abbrev pub closing_byte : ℕ
closing_byte = 41

abbrev pub comma_byte : ℕ
comma_byte = 44

abbrev pub point_byte : ℕ
point_byte = 46

abbrev pub zero_byte : ℕ
zero_byte = 48

-- the refusal numbers
abbrev pub LONG : ℕ
LONG = 1

abbrev pub FORM : ℕ
FORM = 2

abbrev pub CODE : ℕ
CODE = 3

abbrev pub NUMBER : ℕ
NUMBER = 4

abbrev pub RANGE : ℕ
RANGE = 5

abbrev pub ATOMS : ℕ
ATOMS = 6

abbrev pub DEPTH : ℕ
DEPTH = 7

abbrev pub ROOM : ℕ
ROOM = 8

abbrev pub ANSWER : ℕ
ANSWER = 9

abbrev pub TABLE : ℕ
TABLE = 11

abbrev pub LABEL : ℕ
LABEL = 12

abbrev pub WORK : ℕ
WORK = 13

abbrev pub PARTS : ℕ
PARTS = 14

abbrev pub BUDGET : ℕ
BUDGET = 15

abbrev pub BATCH : ℕ
BATCH = 16

abbrev pub FULL : ℕ
FULL = 17

abbrev pub REGISTER : ℕ
REGISTER = 18

abbrev pub MISSING : ℕ
MISSING = 19

-- "the mark MPT"
abbrev pub mark : List ℕ
mark = 77 ∷ 80 ∷ 84 ∷ []

-- the kinds of a record
abbrev pub codes_kind : ℕ
codes_kind = 1

abbrev pub literal_kind : ℕ
literal_kind = 2

abbrev pub group_kind : ℕ
group_kind = 3

-- where the header has the version, and the atom count
abbrev pub version_place : ℕ
version_place = 3

abbrev pub atoms_place : ℕ
atoms_place = 5

-- the bytes of a record
abbrev pub record_size : ℕ
record_size = 10

-- "high is 65,535 for no upper end"
abbrev pub open_high : ℕ
open_high = 65535

-- a size that suffices for the parts of every table
abbrev pub parts_room : ℕ
parts_room = 2 * atom_limit
