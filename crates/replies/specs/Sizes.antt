-- The numbers and the bytes of the line tool, each named once. To be believed.
use Rattle.std.specs.Prelude.{ℕ, ◌+◌, ◌*◌}
use Rattle.pattern.specs.Numbers.{parts_room}

-- "lines of at most 1,024 bytes, newline not counted"
abbrev pub line_limit : ℕ
line_limit = 1024

-- of a line no more is held: enough to see that it is too long
abbrev pub held_limit : ℕ
held_limit = line_limit + 1

-- "it lends 65,536 scratch bytes, a budget of 10,000,000"
abbrev pub scratch_size : ℕ
scratch_size = 65536

abbrev pub budget : ℕ
budget = 10_000_000

abbrev pub tab_byte : ℕ
tab_byte = 9

abbrev pub newline_byte : ℕ
newline_byte = 10

abbrev pub space_byte : ℕ
space_byte = 32

-- the letters before a refusal from compiling and before one from matching: R M
abbrev pub refused_letter : ℕ
refused_letter = 82

abbrev pub unmatched_letter : ℕ
unmatched_letter = 77

-- a reply without its newline: the longest is a yes with a byte and the five digits of 16 bits for each part
abbrev pub reply_room : ℕ
reply_room = 1 + 3 * parts_room

-- the output bytes that are lent at least
abbrev pub out_room : ℕ
out_room = reply_room + 1
