-- The refusal numbers (document 01, "Refusal numbers", and the requests of document 02). 0 is no refusal. 16, a bad record, the bench
-- program writes as a line (`bad_line` in `answer_lines`).
use Rattle.std.specs.Prelude.{ℕ}

-- a route's length
abbrev pub wrong_length : ℕ
wrong_length = 1

-- not route type 4
abbrev pub wrong_type : ℕ
wrong_type = 2

-- an address length that is not 32
abbrev pub wrong_address_length : ℕ
wrong_address_length = 3

-- an identifier that is reserved, or not ten octets
abbrev pub esi_reserved : ℕ
esi_reserved = 4

-- a route of another segment
abbrev pub other_segment : ℕ
other_segment = 5

-- address zero
abbrev pub address_zero : ℕ
address_zero = 6

-- the length of a list of communities
abbrev pub list_length : ℕ
list_length = 7

-- a table that is full
abbrev pub table_full : ℕ
table_full = 8

-- an address that is not present
abbrev pub not_present : ℕ
not_present = 9

-- a reserved tag
abbrev pub tag_reserved : ℕ
tag_reserved = 10

-- a ready list that is too long
abbrev pub ready_too_long : ℕ
ready_too_long = 11

-- no eligible router
abbrev pub none_eligible : ℕ
none_eligible = 12

-- a text that is no identifier (a plate, in document 01)
abbrev pub esi_text : ℕ
esi_text = 13

-- a buffer that is too short
abbrev pub buffer_short : ℕ
buffer_short = 14

-- an algorithm that is not usable here
abbrev pub algorithm_not_usable : ℕ
algorithm_not_usable = 15

-- a record that breaks the rules of bench records (document 02, M-111)
abbrev pub bad_record : ℕ
bad_record = 16

-- a wait that is not 1 to 600 seconds (document 02, M-100)
abbrev pub wait_out_of_range : ℕ
wait_out_of_range = 17

-- an address of a flow, S or G, that is not of 4 or 16 octets, or S and G of two lengths (document 02, M-106)
abbrev pub flow_length : ℕ
flow_length = 18

-- a step outside -65,535 to 65,535 (document 02, M-108)
abbrev pub step_out_of_range : ℕ
step_out_of_range = 19

-- ranges of tags that overlap, run backwards, name a reserved tag, or are too many (document 02, M-109)
abbrev pub ranges_wrong : ℕ
ranges_wrong = 20

-- a list of candidates that is too long, or has an address twice, address zero, or (ours) a family that is neither 4 nor 6 (document 02, M-113)
abbrev pub candidates_wrong : ℕ
candidates_wrong = 22

-- a number that names no event (ours: document 02 gives none)
abbrev pub event_unknown : ℕ
event_unknown = 23
