-- The limits and lengths of documents 01 and 02, each under the sentence that gives it.
use Rattle.std.specs.Prelude.{ℕ}

-- "A task has 0 to 256 records, the other files at most 5,461."
abbrev pub task_records : ℕ
task_records = 256

abbrev pub file_records : ℕ
file_records = 5461

-- the bytes of the longest file, "records of 12 bytes"
abbrev pub file_length : ℕ
file_length = 65532

-- "Nesting reaches 8, in equalised and laid files 16."
abbrev pub task_depth : ℕ
task_depth = 8

abbrev pub file_depth : ℕ
file_depth = 16

-- "Variables are 0 to 15, ports 0 to 7."
abbrev pub variable_count : ℕ
variable_count = 16

abbrev pub port_count : ℕ
port_count = 8

-- "Add 16 to byte 1 when bytes 4 to 7 number a variable instead."
abbrev pub by_variable : ℕ
by_variable = 16

-- "P is at most 1,000,000", W-202: "H may then reach 1,000,000"; "the count of SKIP (1 to 1,000,000)", BEAT's value "(0 to 1,000,000)"
abbrev pub most_ticks : ℕ
most_ticks = 1000000

-- "WHILE and TIMES (1 to 65,535)"
abbrev pub most_rounds : ℕ
most_rounds = 65535

-- W-204: "a multiply time of 0 or above 65,535 is 6"
abbrev pub most_multiply : ℕ
most_multiply = 65535

-- W-202: settings of "a length other than 12 or 24" are turned down
abbrev pub narrow_length : ℕ
narrow_length = 12

abbrev pub wide_length : ℕ
wide_length = 24

-- an "image buffer not 72 bytes" is turned down
abbrev pub image_length : ℕ
image_length = 72

-- W-201: "A table holds at most 32 watched controllers"
abbrev pub table_entries : ℕ
table_entries = 32
