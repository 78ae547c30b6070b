-- Texts that lie outside of the subset, each with its first fault: of the TOML 1.0 document, and a text for each fault.
use Rattle.std.proofs.Common.{ℕ, zero, suc, List, [], ◌∷◌, ◌++◌, replicate, refl, codes}
use Rattle.toml_subset.proofs.Examples.Shapes.{HasFault, read_inside}
use Rattle.toml_subset.specs.Data.{Toml}
use Rattle.toml_subset.specs.Text.{IsText}
use Rattle.toml_subset.specs.declared.error.SyntaxReason.TheVariants.{UnexpectedEnd, Unexpected, InvalidEscape, ControlCharacter, NumberForm, NumberRange, Unsupported, DuplicateKey, RedefinedTable, TooDeep}

-- the document calls these invalid

key_without_value : HasFault (codes "key = # INVALID\n") Unexpected 6 7
key_without_value = refl

two_pairs_on_a_line : HasFault (codes "first = \"Tom\" last = \"Preston-Werner\" # INVALID\n") Unexpected 14 15
two_pairs_on_a_line = refl

no_key : HasFault (codes "= \"no key name\"  # INVALID\n") Unexpected 0 1
no_key = refl

same_key_twice : HasFault (codes "name = \"Tom\"\nname = \"Pradyun\"\n") DuplicateKey 13 17
same_key_twice = refl

same_key_in_quotes : HasFault (codes "spelling = \"favorite\"\n\"spelling\" = \"favourite\"\n") DuplicateKey 23 31
same_key_in_quotes = refl

key_into_a_value : HasFault (codes "fruit.apple = 1\nfruit.apple.smooth = true\n") RedefinedTable 22 27
key_into_a_value = refl

three_marks_inside : HasFault (codes "str5 = \"\"\"Here are three quotation marks: \"\"\".\"\"\"  # INVALID\n") Unexpected 45 46
three_marks_inside = refl

fifteen_apostrophes : HasFault (codes "apos15 = '''Here are fifteen apostrophes: ''''''''''''''''''  # INVALID\n") Unexpected 47 48
fifteen_apostrophes = refl

point_first : HasFault (codes "invalid_float_1 = .7\n") Unexpected 18 19
point_first = refl

point_last : HasFault (codes "invalid_float_2 = 7.\n") NumberForm 18 20
point_last = refl

point_before_e : HasFault (codes "invalid_float_3 = 3.e+20\n") NumberForm 18 24
point_before_e = refl

table_twice : HasFault (codes "[fruit]\napple = \"red\"\n\n[fruit]\norange = \"orange\"\n") RedefinedTable 24 29
table_twice = refl

table_over_a_value : HasFault (codes "[fruit]\napple = \"red\"\n\n[fruit.apple]\ntexture = \"smooth\"\n") RedefinedTable 30 35
table_over_a_value = refl

table_over_a_dotted_one : HasFault (codes "[fruit]\napple.color = \"red\"\napple.taste.sweet = true\n\n[fruit.apple]  # INVALID\n") RedefinedTable 61 66
table_over_a_dotted_one = refl

table_over_a_dotted_one_below : HasFault (codes "[fruit]\napple.color = \"red\"\napple.taste.sweet = true\n\n[fruit.apple.taste]  # INVALID\n") RedefinedTable 67 72
table_over_a_dotted_one_below = refl

inline_table_extended : HasFault (codes "[product]\ntype = { name = \"Nail\" }\ntype.edible = false  # INVALID\n") RedefinedTable 35 39
inline_table_extended = refl

inline_over_a_dotted_one : HasFault (codes "[product]\ntype.name = \"Nail\"\ntype = { edible = false }  # INVALID\n") DuplicateKey 29 33
inline_over_a_dotted_one = refl

array_over_a_table : HasFault (codes "[fruit.physical]  # subtable, but to which parent element should it belong?\ncolor = \"red\"\n\n[[fruit]]\nname = \"apple\"\n") RedefinedTable 93 98
array_over_a_table = refl

append_to_a_written_array : HasFault (codes "fruits = []\n\n[[fruits]] # Not allowed\n") RedefinedTable 15 21
append_to_a_written_array = refl

table_over_an_array : HasFault (codes "[[fruits]]\nname = \"apple\"\n\n[[fruits.varieties]]\nname = \"red delicious\"\n\n[fruits.varieties]\nname = \"granny smith\"\n") RedefinedTable 80 89
table_over_an_array = refl

array_over_a_sub_table : HasFault (codes "[[fruits]]\n[fruits.physical]\ncolor = \"red\"\n\n[[fruits.physical]]\ncolor = \"green\"\n") RedefinedTable 53 61
array_over_a_sub_table = refl

comma_at_an_inline_end : HasFault (codes "a = { x = 1, }\n") Unexpected 13 14
comma_at_an_inline_end = refl

inline_over_lines : HasFault (codes "a = { x = 1,\ny = 2 }\n") Unexpected 12 13
inline_over_lines = refl

-- the document calls these valid, and the subset has them not

exponent : HasFault (codes "flt4 = 5e+22\n") Unsupported 7 12
exponent = refl

long_fraction : HasFault (codes "flt2 = 3.1415\n") Unsupported 7 13
long_fraction = refl

infinity : HasFault (codes "sf1 = inf\n") Unsupported 6 9
infinity = refl

date_and_time : HasFault (codes "odt1 = 1979-05-27T07:32:00Z\n") Unsupported 7 27
date_and_time = refl

-- one text for each fault, and more

fault_unexpected_end : HasFault (codes "a = [1") UnexpectedEnd 6 6
fault_unexpected_end = refl

fault_unexpected : HasFault (codes "a = 1 b") Unexpected 6 7
fault_unexpected = refl

fault_invalid_escape : HasFault (codes "a = \"\\q\"") InvalidEscape 5 7
fault_invalid_escape = refl

fault_control_character : HasFault (97 ∷ 32 ∷ 61 ∷ 32 ∷ 34 ∷ 1 ∷ 34 ∷ []) ControlCharacter 5 6
fault_control_character = refl

fault_number_form : HasFault (codes "a = 01") NumberForm 4 6
fault_number_form = refl

fault_number_range : HasFault (codes "a = 9223372036854775808") NumberRange 4 23
fault_number_range = refl

fault_unsupported : HasFault (codes "a = 0.801") Unsupported 4 9
fault_unsupported = refl

fault_unsupported_date : HasFault (codes "a = 1979-05-27") Unsupported 4 14
fault_unsupported_date = refl

fault_duplicate_key : HasFault (codes "a=1\na=2") DuplicateKey 4 5
fault_duplicate_key = refl

fault_redefined_table : HasFault (codes "[a]\n[a]") RedefinedTable 5 6
fault_redefined_table = refl

fault_duplicate_key_before_its_value : HasFault (codes "a=1\na=") DuplicateKey 4 5
fault_duplicate_key_before_its_value = refl

fault_word_cut : HasFault (codes "a = tru") UnexpectedEnd 7 7
fault_word_cut = refl

fault_word_other : HasFault (codes "a = trux") Unexpected 7 8
fault_word_other = refl

fault_lone_carriage_return : HasFault (codes "a = 1\rb = 2") Unexpected 5 6
fault_lone_carriage_return = refl

fault_line_end_in_a_string : HasFault (codes "a = \"\n\"") ControlCharacter 5 6
fault_line_end_in_a_string = refl

fault_escape_at_a_line_end : HasFault (codes "a = \"\\\n\"") InvalidEscape 5 7
fault_escape_at_a_line_end = refl

fault_surrogate : HasFault (codes "a = \"\\uD800\"") InvalidEscape 5 11
fault_surrogate = refl

fault_through_an_implicit_table : HasFault (codes "[a.b.c]\n[a]\nb.x = 1\n") RedefinedTable 12 13
fault_through_an_implicit_table = refl

-- nested arrays at a key of the root
nested : ℕ → List ℕ
nested n = codes "a=" ++ (replicate n 91 ++ replicate n 93)

fault_too_deep : HasFault (nested 129) TooDeep 130 131
unfolding nested
fault_too_deep = refl

deep_enough : (value : Toml) × IsText (nested 128) value
unfolding nested
deep_enough = read_inside _ refl

-- keys, headers and lines

-- parts `p` of a header, and its bracket
parts : ℕ → List ℕ
parts zero = codes "]]"
parts (suc zero) = codes "p]]"
parts (suc (suc n)) = codes "p." ++ parts (suc n)

key_before_a_wrong_value : HasFault (codes "k=1\nk=@") DuplicateKey 4 5
key_before_a_wrong_value = refl

key_cut_at_a_dot : HasFault (codes "k=1\nk.") UnexpectedEnd 6 6
key_cut_at_a_dot = refl

key_without_its_equals : HasFault (codes "k=1\n'k'") UnexpectedEnd 7 7
key_without_its_equals = refl

through_an_implicit_table : HasFault (codes "[p.q.r]\n[p]\nq.x=1") RedefinedTable 12 13
through_an_implicit_table = refl

header_over_a_dotted_table : HasFault (codes "p.q=1\n[p]") RedefinedTable 7 8
header_over_a_dotted_table = refl

header_through_an_inline_table : HasFault (codes "p={}\n[p.q]") RedefinedTable 6 7
header_through_an_inline_table = refl

array_header_over_a_written_array : HasFault (codes "p=[{}]\n[[p]]") RedefinedTable 9 10
array_header_over_a_written_array = refl

array_header_over_a_table : HasFault (codes "[p]\n[[p]]") RedefinedTable 6 7
array_header_over_a_table = refl

header_twice_in_an_array : HasFault (codes "[[p]]\n[p.q]\n[p.q]") RedefinedTable 15 16
header_twice_in_an_array = refl

header_twice : HasFault (codes "[p.q]\n[p]\n[p]") RedefinedTable 11 12
header_twice = refl

header_cut : HasFault (codes "[p") UnexpectedEnd 2 2
header_cut = refl

header_closed_twice : HasFault (codes "[p]]") Unexpected 3 4
header_closed_twice = refl

array_header_closed_apart : HasFault (codes "[[p] ]") Unexpected 4 5
array_header_closed_apart = refl

array_header_opened_apart : HasFault (codes "[ [p]]") Unexpected 2 3
array_header_opened_apart = refl

header_without_a_key : HasFault (codes "[]") Unexpected 1 2
header_without_a_key = refl

header_that_ends_at_a_dot : HasFault (codes "[p.]") Unexpected 3 4
header_that_ends_at_a_dot = refl

control_in_a_comment : HasFault (codes "k=1 #" ++ 11 ∷ []) ControlCharacter 5 6
control_in_a_comment = refl

carriage_return_at_the_end : HasFault (codes "k=1\r") Unexpected 3 4
carriage_return_at_the_end = refl

carriage_return_in_a_comment : HasFault (codes "k=1 # x\ry") ControlCharacter 7 8
carriage_return_in_a_comment = refl

too_deep_in_a_table : HasFault (codes "[p]\nk=" ++ replicate 128 91) TooDeep 133 134
too_deep_in_a_table = refl

byte_order_mark : HasFault (239 ∷ 187 ∷ 191 ∷ codes "a=1") Unexpected 0 3
byte_order_mark = refl

header_too_deep : HasFault (91 ∷ parts 129) TooDeep 257 258
unfolding parts
header_too_deep = refl

array_header_too_deep : HasFault (91 ∷ 91 ∷ parts 128) TooDeep 256 257
unfolding parts
array_header_too_deep = refl

three_marks_for_a_key : HasFault (codes "\"\"\"k\"\"\"=1") Unexpected 2 3
three_marks_for_a_key = refl
