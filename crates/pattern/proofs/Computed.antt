-- All that the examples compute with: to unfold `computed` is to unfold every definition of compiling, writing back and matching. Assumes nothing.
use Rattle.pattern.specs.Bytes.{between, equal, little, number_in, overwrite, bytes}
use Rattle.pattern.specs.Codes.{all_codes, in_ranges, in_codes, in_set, bit_among, bit}
use Rattle.pattern.specs.Syntax.{size, top_size, nodes}
use Rattle.pattern.specs.Decision.{any, trial, join, power, max_count, repeated, single, decide}
use Rattle.pattern.specs.Parts.{longest, end, parts, verdict}
use Rattle.pattern.specs.Trials.{tries, sum, column_trials, joins, repeats, atom_trials, total, trials}
use Rattle.pattern.specs.Grammar.{char_class, literal_class}
use Rattle.pattern.specs.Parser.{chain, fork, next, enter, extend, leave, quoted, grow, counted, move, step, finish}
use Rattle.pattern.specs.Scan.{low, high, longest_count, depth, body_begins, begins, begun, large, falls, refuse, atom_rows, rows, fault, scan, outcome}
use Rattle.pattern.specs.Print.{decimal_of, decimal, print_low, print_count, print_set, double, print}
use Rattle.pattern.specs.Table.{pool, branch_count, kind_field, a_field, b_field, records, record_bytes, header, encode_in}
use Rattle.pattern.specs.Decode.{version_of, high_of, pattern_at, tree_of, is_table_in, compiled_to, decode}
use Rattle.pattern.specs.Answers.{put_if, put, compiled, compile_of, written_back, write_of, part_bytes, lent_fault, ended, ending, match_ending, match_of}

unfoldable pub computed : Type 0
unfolding between equal little number_in overwrite bytes all_codes in_ranges in_codes in_set bit_among bit size top_size nodes any trial join power max_count repeated single decide longest end parts verdict tries sum column_trials joins repeats atom_trials total trials char_class literal_class chain fork next enter extend leave quoted grow counted move step finish low high longest_count depth body_begins begins begun large falls refuse atom_rows rows fault scan outcome decimal_of decimal print_low print_count print_set double print pool branch_count kind_field a_field b_field records record_bytes header encode_in version_of high_of pattern_at tree_of is_table_in compiled_to decode put_if put compiled compile_of part_bytes lent_fault ended ending match_ending match_of written_back write_of
computed = Unit {0}
