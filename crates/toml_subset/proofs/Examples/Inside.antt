-- Texts of the TOML 1.0 document that lie in the subset. The values are those that Python's `tomllib`
-- reads, but that it makes one line end of CR LF.
use lib.Utf8.{encode}
use Rattle.std.proofs.Common.{ℕ, List, [], ◌∷◌, pos, negsuc, true, false, refl, codes}
use Rattle.toml_subset.proofs.Examples.Shapes.{Shape, text, integer, hundredths, boolean, array, table, end, cons, empty, field, LiesInside, inside}

abbrev comments_text : List ℕ
comments_text = (codes "# This is a full-line comment\nkey = \"value\"  # This is a comment at the end of a line\nanother = \"# This is not a comment\"\n")

abbrev comments_shape : Shape
comments_shape = (table (field (codes "key") (text (codes "value")) (field (codes "another") (text (codes "# This is not a comment")) empty)))

comments : LiesInside comments_text comments_shape
comments = inside comments_text comments_shape refl

abbrev bare_keys_text : List ℕ
bare_keys_text = (codes "key = \"value\"\nbare_key = \"value\"\nbare-key = \"value\"\n1234 = \"value\"\n")

abbrev bare_keys_shape : Shape
bare_keys_shape = (table (field (codes "key") (text (codes "value")) (field (codes "bare_key") (text (codes "value")) (field (codes "bare-key") (text (codes "value")) (field (codes "1234") (text (codes "value")) empty)))))

bare_keys : LiesInside bare_keys_text bare_keys_shape
bare_keys = inside bare_keys_text bare_keys_shape refl

abbrev quoted_keys_text : List ℕ
quoted_keys_text = (codes "\"127.0.0.1\" = \"value\"\n\"character encoding\" = \"value\"\n'quoted \"value\"' = \"value\"\n")

abbrev quoted_keys_shape : Shape
quoted_keys_shape = (table (field (codes "127.0.0.1") (text (codes "value")) (field (codes "character encoding") (text (codes "value")) (field (codes "quoted \"value\"") (text (codes "value")) empty))))

quoted_keys : LiesInside quoted_keys_text quoted_keys_shape
quoted_keys = inside quoted_keys_text quoted_keys_shape refl

abbrev blank_key_text : List ℕ
blank_key_text = (codes "\"\" = \"blank\"     # VALID but discouraged\n")

abbrev blank_key_shape : Shape
blank_key_shape = (table (field [] (text (codes "blank")) empty))

blank_key : LiesInside blank_key_text blank_key_shape
blank_key = inside blank_key_text blank_key_shape refl

abbrev blank_literal_key_text : List ℕ
blank_literal_key_text = (codes "'' = 'blank'     # VALID but discouraged\n")

abbrev blank_literal_key_shape : Shape
blank_literal_key_shape = (table (field [] (text (codes "blank")) empty))

blank_literal_key : LiesInside blank_literal_key_text blank_literal_key_shape
blank_literal_key = inside blank_literal_key_text blank_literal_key_shape refl

abbrev dotted_keys_text : List ℕ
dotted_keys_text = (codes "name = \"Orange\"\nphysical.color = \"orange\"\nphysical.shape = \"round\"\nsite.\"google.com\" = true\n")

abbrev dotted_keys_shape : Shape
dotted_keys_shape = (table (field (codes "name") (text (codes "Orange")) (field (codes "physical") (table (field (codes "color") (text (codes "orange")) (field (codes "shape") (text (codes "round")) empty))) (field (codes "site") (table (field (codes "google.com") (boolean true) empty)) empty))))

dotted_keys : LiesInside dotted_keys_text dotted_keys_shape
dotted_keys = inside dotted_keys_text dotted_keys_shape refl

abbrev space_around_dots_text : List ℕ
space_around_dots_text = (codes "fruit.name = \"banana\"     # this is best practice\nfruit. color = \"yellow\"    # same as fruit.color\nfruit . flavor = \"banana\"   # same as fruit.flavor\n")

abbrev space_around_dots_shape : Shape
space_around_dots_shape = (table (field (codes "fruit") (table (field (codes "name") (text (codes "banana")) (field (codes "color") (text (codes "yellow")) (field (codes "flavor") (text (codes "banana")) empty)))) empty))

space_around_dots : LiesInside space_around_dots_text space_around_dots_shape
space_around_dots = inside space_around_dots_text space_around_dots_shape refl

abbrev dotted_keys_add_text : List ℕ
dotted_keys_add_text = (codes "fruit.apple.smooth = true\nfruit.orange = 2\n")

abbrev dotted_keys_add_shape : Shape
dotted_keys_add_shape = (table (field (codes "fruit") (table (field (codes "apple") (table (field (codes "smooth") (boolean true) empty)) (field (codes "orange") (integer (pos 2)) empty))) empty))

dotted_keys_add : LiesInside dotted_keys_add_text dotted_keys_add_shape
dotted_keys_add = inside dotted_keys_add_text dotted_keys_add_shape refl

abbrev dotted_keys_out_of_order_text : List ℕ
dotted_keys_out_of_order_text = (codes "apple.type = \"fruit\"\norange.type = \"fruit\"\n\napple.skin = \"thin\"\norange.skin = \"thick\"\n")

abbrev dotted_keys_out_of_order_shape : Shape
dotted_keys_out_of_order_shape = (table (field (codes "apple") (table (field (codes "type") (text (codes "fruit")) (field (codes "skin") (text (codes "thin")) empty))) (field (codes "orange") (table (field (codes "type") (text (codes "fruit")) (field (codes "skin") (text (codes "thick")) empty))) empty)))

dotted_keys_out_of_order : LiesInside dotted_keys_out_of_order_text dotted_keys_out_of_order_shape
dotted_keys_out_of_order = inside dotted_keys_out_of_order_text dotted_keys_out_of_order_shape refl

abbrev number_like_key_text : List ℕ
number_like_key_text = (codes "3.14159 = \"pi\"\n")

abbrev number_like_key_shape : Shape
number_like_key_shape = (table (field (codes "3") (table (field (codes "14159") (text (codes "pi")) empty)) empty))

number_like_key : LiesInside number_like_key_text number_like_key_shape
number_like_key = inside number_like_key_text number_like_key_shape refl

abbrev basic_string_text : List ℕ
basic_string_text = (codes "str = \"I'm a string. \\\"You can quote me\\\". Name\\tJos\\u00E9\\nLocation\\tSF.\"\n")

abbrev basic_string_shape : Shape
basic_string_shape = (table (field (codes "str") (text (73 ∷ 39 ∷ 109 ∷ 32 ∷ 97 ∷ 32 ∷ 115 ∷ 116 ∷ 114 ∷ 105 ∷ 110 ∷ 103 ∷ 46 ∷ 32 ∷ 34 ∷ 89 ∷ 111 ∷ 117 ∷ 32 ∷ 99 ∷ 97 ∷ 110 ∷ 32 ∷ 113 ∷ 117 ∷ 111 ∷ 116 ∷ 101 ∷ 32 ∷ 109 ∷ 101 ∷ 34 ∷ 46 ∷ 32 ∷ 78 ∷ 97 ∷ 109 ∷ 101 ∷ 9 ∷ 74 ∷ 111 ∷ 115 ∷ 195 ∷ 169 ∷ 10 ∷ 76 ∷ 111 ∷ 99 ∷ 97 ∷ 116 ∷ 105 ∷ 111 ∷ 110 ∷ 9 ∷ 83 ∷ 70 ∷ 46 ∷ [])) empty))

basic_string : LiesInside basic_string_text basic_string_shape
unfolding encode
basic_string = inside basic_string_text basic_string_shape refl

abbrev long_basic_string_text : List ℕ
long_basic_string_text = (codes "str1 = \"\"\"\nRoses are red\nViolets are blue\"\"\"\n")

abbrev long_basic_string_shape : Shape
long_basic_string_shape = (table (field (codes "str1") (text (codes "Roses are red\nViolets are blue")) empty))

long_basic_string : LiesInside long_basic_string_text long_basic_string_shape
long_basic_string = inside long_basic_string_text long_basic_string_shape refl

abbrev trimmed_lines_text : List ℕ
trimmed_lines_text = (codes "str2 = \"\"\"\nThe quick brown \\\n\n\n  fox jumps over \\\n    the lazy dog.\"\"\"\n")

abbrev trimmed_lines_shape : Shape
trimmed_lines_shape = (table (field (codes "str2") (text (codes "The quick brown fox jumps over the lazy dog.")) empty))

trimmed_lines : LiesInside trimmed_lines_text trimmed_lines_shape
trimmed_lines = inside trimmed_lines_text trimmed_lines_shape refl

abbrev trimmed_ends_text : List ℕ
trimmed_ends_text = (codes "str3 = \"\"\"\\\n       The quick brown \\\n       fox jumps over \\\n       the lazy dog.\\\n       \"\"\"\n")

abbrev trimmed_ends_shape : Shape
trimmed_ends_shape = (table (field (codes "str3") (text (codes "The quick brown fox jumps over the lazy dog.")) empty))

trimmed_ends : LiesInside trimmed_ends_text trimmed_ends_shape
trimmed_ends = inside trimmed_ends_text trimmed_ends_shape refl

abbrev two_marks_text : List ℕ
two_marks_text = (codes "str4 = \"\"\"Here are two quotation marks: \"\". Simple enough.\"\"\"\n")

abbrev two_marks_shape : Shape
two_marks_shape = (table (field (codes "str4") (text (codes "Here are two quotation marks: \"\". Simple enough.")) empty))

two_marks : LiesInside two_marks_text two_marks_shape
two_marks = inside two_marks_text two_marks_shape refl

abbrev three_marks_text : List ℕ
three_marks_text = (codes "str5 = \"\"\"Here are three quotation marks: \"\"\\\".\"\"\"\n")

abbrev three_marks_shape : Shape
three_marks_shape = (table (field (codes "str5") (text (codes "Here are three quotation marks: \"\"\".")) empty))

three_marks : LiesInside three_marks_text three_marks_shape
three_marks = inside three_marks_text three_marks_shape refl

abbrev fifteen_marks_text : List ℕ
fifteen_marks_text = (codes "str6 = \"\"\"Here are fifteen quotation marks: \"\"\\\"\"\"\\\"\"\"\\\"\"\"\\\"\"\"\\\".\"\"\"\n")

abbrev fifteen_marks_shape : Shape
fifteen_marks_shape = (table (field (codes "str6") (text (codes "Here are fifteen quotation marks: \"\"\"\"\"\"\"\"\"\"\"\"\"\"\".")) empty))

fifteen_marks : LiesInside fifteen_marks_text fifteen_marks_shape
fifteen_marks = inside fifteen_marks_text fifteen_marks_shape refl

abbrev marks_at_the_ends_text : List ℕ
marks_at_the_ends_text = (codes "str7 = \"\"\"\"This,\" she said, \"is just a pointless statement.\"\"\"\"\n")

abbrev marks_at_the_ends_shape : Shape
marks_at_the_ends_shape = (table (field (codes "str7") (text (codes "\"This,\" she said, \"is just a pointless statement.\"")) empty))

marks_at_the_ends : LiesInside marks_at_the_ends_text marks_at_the_ends_shape
marks_at_the_ends = inside marks_at_the_ends_text marks_at_the_ends_shape refl

abbrev literal_strings_text : List ℕ
literal_strings_text = (codes "winpath  = 'C:\\Users\\nodejs\\templates'\nwinpath2 = '\\\\ServerX\\admin$\\system32\\'\nquoted   = 'Tom \"Dubs\" Preston-Werner'\nregex    = '<\\i\\c*\\s*>'\n")

abbrev literal_strings_shape : Shape
literal_strings_shape = (table (field (codes "winpath") (text (codes "C:\\Users\\nodejs\\templates")) (field (codes "winpath2") (text (codes "\\\\ServerX\\admin$\\system32\\")) (field (codes "quoted") (text (codes "Tom \"Dubs\" Preston-Werner")) (field (codes "regex") (text (codes "<\\i\\c*\\s*>")) empty)))))

literal_strings : LiesInside literal_strings_text literal_strings_shape
literal_strings = inside literal_strings_text literal_strings_shape refl

abbrev long_literal_strings_text : List ℕ
long_literal_strings_text = (codes "regex2 = '''I [dw]on't need \\d{2} apples'''\nlines  = '''\nThe first newline is\ntrimmed in raw strings.\n   All other whitespace\n   is preserved.\n'''\n")

abbrev long_literal_strings_shape : Shape
long_literal_strings_shape = (table (field (codes "regex2") (text (codes "I [dw]on't need \\d{2} apples")) (field (codes "lines") (text (codes "The first newline is\ntrimmed in raw strings.\n   All other whitespace\n   is preserved.\n")) empty)))

long_literal_strings : LiesInside long_literal_strings_text long_literal_strings_shape
long_literal_strings = inside long_literal_strings_text long_literal_strings_shape refl

abbrev marks_in_a_long_literal_text : List ℕ
marks_in_a_long_literal_text = (codes "quot15 = '''Here are fifteen quotation marks: \"\"\"\"\"\"\"\"\"\"\"\"\"\"\"'''\n")

abbrev marks_in_a_long_literal_shape : Shape
marks_in_a_long_literal_shape = (table (field (codes "quot15") (text (codes "Here are fifteen quotation marks: \"\"\"\"\"\"\"\"\"\"\"\"\"\"\"")) empty))

marks_in_a_long_literal : LiesInside marks_in_a_long_literal_text marks_in_a_long_literal_shape
marks_in_a_long_literal = inside marks_in_a_long_literal_text marks_in_a_long_literal_shape refl

abbrev apostrophes_at_the_ends_text : List ℕ
apostrophes_at_the_ends_text = (codes "str = ''''That,' she said, 'is still pointless.''''\n")

abbrev apostrophes_at_the_ends_shape : Shape
apostrophes_at_the_ends_shape = (table (field (codes "str") (text (codes "'That,' she said, 'is still pointless.'")) empty))

apostrophes_at_the_ends : LiesInside apostrophes_at_the_ends_text apostrophes_at_the_ends_shape
apostrophes_at_the_ends = inside apostrophes_at_the_ends_text apostrophes_at_the_ends_shape refl

abbrev integers_text : List ℕ
integers_text = (codes "int1 = +99\nint2 = 42\nint3 = 0\nint4 = -17\n")

abbrev integers_shape : Shape
integers_shape = (table (field (codes "int1") (integer (pos 99)) (field (codes "int2") (integer (pos 42)) (field (codes "int3") (integer (pos 0)) (field (codes "int4") (integer (negsuc 16)) empty)))))

integers : LiesInside integers_text integers_shape
integers = inside integers_text integers_shape refl

abbrev grouped_integers_text : List ℕ
grouped_integers_text = (codes "int5 = 1_000\nint6 = 5_349_221\nint7 = 53_49_221  # Indian number system grouping\nint8 = 1_2_3_4_5  # VALID but discouraged\n")

abbrev grouped_integers_shape : Shape
grouped_integers_shape = (table (field (codes "int5") (integer (pos 1000)) (field (codes "int6") (integer (pos 5349221)) (field (codes "int7") (integer (pos 5349221)) (field (codes "int8") (integer (pos 12345)) empty)))))

grouped_integers : LiesInside grouped_integers_text grouped_integers_shape
grouped_integers = inside grouped_integers_text grouped_integers_shape refl

abbrev hexadecimal_text : List ℕ
hexadecimal_text = (codes "hex1 = 0xDEADBEEF\nhex2 = 0xdeadbeef\nhex3 = 0xdead_beef\n")

abbrev hexadecimal_shape : Shape
hexadecimal_shape = (table (field (codes "hex1") (integer (pos 3735928559)) (field (codes "hex2") (integer (pos 3735928559)) (field (codes "hex3") (integer (pos 3735928559)) empty))))

hexadecimal : LiesInside hexadecimal_text hexadecimal_shape
hexadecimal = inside hexadecimal_text hexadecimal_shape refl

abbrev octal_and_binary_text : List ℕ
octal_and_binary_text = (codes "oct1 = 0o01234567\noct2 = 0o755\nbin1 = 0b11010110\n")

abbrev octal_and_binary_shape : Shape
octal_and_binary_shape = (table (field (codes "oct1") (integer (pos 342391)) (field (codes "oct2") (integer (pos 493)) (field (codes "bin1") (integer (pos 214)) empty))))

octal_and_binary : LiesInside octal_and_binary_text octal_and_binary_shape
octal_and_binary = inside octal_and_binary_text octal_and_binary_shape refl

abbrev decimals_text : List ℕ
decimals_text = (codes "flt1 = +1.0\nflt3 = -0.01\n")

abbrev decimals_shape : Shape
decimals_shape = (table (field (codes "flt1") (hundredths (pos 100)) (field (codes "flt3") (hundredths (negsuc 0)) empty)))

decimals : LiesInside decimals_text decimals_shape
decimals = inside decimals_text decimals_shape refl

abbrev booleans_text : List ℕ
booleans_text = (codes "bool1 = true\nbool2 = false\n")

abbrev booleans_shape : Shape
booleans_shape = (table (field (codes "bool1") (boolean true) (field (codes "bool2") (boolean false) empty)))

booleans : LiesInside booleans_text booleans_shape
booleans = inside booleans_text booleans_shape refl

abbrev arrays_text : List ℕ
arrays_text = (codes "integers = [ 1, 2, 3 ]\ncolors = [ \"red\", \"yellow\", \"green\" ]\nnested_arrays_of_ints = [ [ 1, 2 ], [3, 4, 5] ]\n")

abbrev arrays_shape : Shape
arrays_shape = (table (field (codes "integers") (array (cons (integer (pos 1)) (cons (integer (pos 2)) (cons (integer (pos 3)) end)))) (field (codes "colors") (array (cons (text (codes "red")) (cons (text (codes "yellow")) (cons (text (codes "green")) end)))) (field (codes "nested_arrays_of_ints") (array (cons (array (cons (integer (pos 1)) (cons (integer (pos 2)) end))) (cons (array (cons (integer (pos 3)) (cons (integer (pos 4)) (cons (integer (pos 5)) end)))) end))) empty))))

arrays : LiesInside arrays_text arrays_shape
arrays = inside arrays_text arrays_shape refl

abbrev mixed_arrays_text : List ℕ
mixed_arrays_text = (codes "nested_mixed_array = [ [ 1, 2 ], [\"a\", \"b\", \"c\"] ]\nstring_array = [ \"all\", 'strings', \"\"\"are the same\"\"\", '''type''' ]\nnumbers = [ 0.1, 0.2, 0.5, 1, 2, 5 ]\n")

abbrev mixed_arrays_shape : Shape
mixed_arrays_shape = (table (field (codes "nested_mixed_array") (array (cons (array (cons (integer (pos 1)) (cons (integer (pos 2)) end))) (cons (array (cons (text (codes "a")) (cons (text (codes "b")) (cons (text (codes "c")) end)))) end))) (field (codes "string_array") (array (cons (text (codes "all")) (cons (text (codes "strings")) (cons (text (codes "are the same")) (cons (text (codes "type")) end))))) (field (codes "numbers") (array (cons (hundredths (pos 10)) (cons (hundredths (pos 20)) (cons (hundredths (pos 50)) (cons (integer (pos 1)) (cons (integer (pos 2)) (cons (integer (pos 5)) end))))))) empty))))

mixed_arrays : LiesInside mixed_arrays_text mixed_arrays_shape
mixed_arrays = inside mixed_arrays_text mixed_arrays_shape refl

abbrev tables_in_an_array_text : List ℕ
tables_in_an_array_text = (codes "contributors = [\n  \"Foo Bar <foo@example.com>\",\n  { name = \"Baz Qux\", email = \"bazqux@example.com\", url = \"https://example.com/bazqux\" }\n]\n")

abbrev tables_in_an_array_shape : Shape
tables_in_an_array_shape = (table (field (codes "contributors") (array (cons (text (codes "Foo Bar <foo@example.com>")) (cons (table (field (codes "name") (text (codes "Baz Qux")) (field (codes "email") (text (codes "bazqux@example.com")) (field (codes "url") (text (codes "https://example.com/bazqux")) empty)))) end))) empty))

tables_in_an_array : LiesInside tables_in_an_array_text tables_in_an_array_shape
tables_in_an_array = inside tables_in_an_array_text tables_in_an_array_shape refl

abbrev arrays_over_lines_text : List ℕ
arrays_over_lines_text = (codes "integers2 = [\n  1, 2, 3\n]\n\nintegers3 = [\n  1,\n  2, # this is ok\n]\n")

abbrev arrays_over_lines_shape : Shape
arrays_over_lines_shape = (table (field (codes "integers2") (array (cons (integer (pos 1)) (cons (integer (pos 2)) (cons (integer (pos 3)) end)))) (field (codes "integers3") (array (cons (integer (pos 1)) (cons (integer (pos 2)) end))) empty)))

arrays_over_lines : LiesInside arrays_over_lines_text arrays_over_lines_shape
arrays_over_lines = inside arrays_over_lines_text arrays_over_lines_shape refl

abbrev tables_text : List ℕ
tables_text = (codes "[table-1]\nkey1 = \"some string\"\nkey2 = 123\n\n[table-2]\nkey1 = \"another string\"\nkey2 = 456\n")

abbrev tables_shape : Shape
tables_shape = (table (field (codes "table-1") (table (field (codes "key1") (text (codes "some string")) (field (codes "key2") (integer (pos 123)) empty))) (field (codes "table-2") (table (field (codes "key1") (text (codes "another string")) (field (codes "key2") (integer (pos 456)) empty))) empty)))

tables : LiesInside tables_text tables_shape
tables = inside tables_text tables_shape refl

abbrev dotted_header_text : List ℕ
dotted_header_text = (codes "[dog.\"tater.man\"]\ntype.name = \"pug\"\n")

abbrev dotted_header_shape : Shape
dotted_header_shape = (table (field (codes "dog") (table (field (codes "tater.man") (table (field (codes "type") (table (field (codes "name") (text (codes "pug")) empty)) empty)) empty)) empty))

dotted_header : LiesInside dotted_header_text dotted_header_shape
dotted_header = inside dotted_header_text dotted_header_shape refl

abbrev space_in_headers_text : List ℕ
space_in_headers_text = (codes "[a.b.c]            # this is best practice\n[ d.e.f ]          # same as [d.e.f]\n[ g .  h  . i ]    # same as [g.h.i]\n[ j . \"k\" . 'l' ]  # same as [j.\"k\".'l']\n")

abbrev space_in_headers_shape : Shape
space_in_headers_shape = (table (field (codes "a") (table (field (codes "b") (table (field (codes "c") (table empty) empty)) empty)) (field (codes "d") (table (field (codes "e") (table (field (codes "f") (table empty) empty)) empty)) (field (codes "g") (table (field (codes "h") (table (field (codes "i") (table empty) empty)) empty)) (field (codes "j") (table (field (codes "k") (table (field (codes "l") (table empty) empty)) empty)) empty)))))

space_in_headers : LiesInside space_in_headers_text space_in_headers_shape
space_in_headers = inside space_in_headers_text space_in_headers_shape refl

abbrev super_table_afterward_text : List ℕ
super_table_afterward_text = (codes "[x.y.z.w] # for this to work\n\n[x] # defining a super-table afterward is ok\n")

abbrev super_table_afterward_shape : Shape
super_table_afterward_shape = (table (field (codes "x") (table (field (codes "y") (table (field (codes "z") (table (field (codes "w") (table empty) empty)) empty)) empty)) empty))

super_table_afterward : LiesInside super_table_afterward_text super_table_afterward_shape
super_table_afterward = inside super_table_afterward_text super_table_afterward_shape refl

abbrev headers_out_of_order_text : List ℕ
headers_out_of_order_text = (codes "[fruit.apple]\n[animal]\n[fruit.orange]\n")

abbrev headers_out_of_order_shape : Shape
headers_out_of_order_shape = (table (field (codes "fruit") (table (field (codes "apple") (table empty) (field (codes "orange") (table empty) empty))) (field (codes "animal") (table empty) empty)))

headers_out_of_order : LiesInside headers_out_of_order_text headers_out_of_order_shape
headers_out_of_order = inside headers_out_of_order_text headers_out_of_order_shape refl

abbrev root_keys_text : List ℕ
root_keys_text = (codes "name = \"Fido\"\nbreed = \"pug\"\n\n[owner]\nname = \"Regina Dogman\"\n")

abbrev root_keys_shape : Shape
root_keys_shape = (table (field (codes "name") (text (codes "Fido")) (field (codes "breed") (text (codes "pug")) (field (codes "owner") (table (field (codes "name") (text (codes "Regina Dogman")) empty)) empty))))

root_keys : LiesInside root_keys_text root_keys_shape
root_keys = inside root_keys_text root_keys_shape refl

abbrev sub_table_of_a_dotted_one_text : List ℕ
sub_table_of_a_dotted_one_text = (codes "[fruit]\napple.color = \"red\"\napple.taste.sweet = true\n\n[fruit.apple.texture]  # you can add sub-tables\nsmooth = true\n")

abbrev sub_table_of_a_dotted_one_shape : Shape
sub_table_of_a_dotted_one_shape = (table (field (codes "fruit") (table (field (codes "apple") (table (field (codes "color") (text (codes "red")) (field (codes "taste") (table (field (codes "sweet") (boolean true) empty)) (field (codes "texture") (table (field (codes "smooth") (boolean true) empty)) empty)))) empty)) empty))

sub_table_of_a_dotted_one : LiesInside sub_table_of_a_dotted_one_text sub_table_of_a_dotted_one_shape
sub_table_of_a_dotted_one = inside sub_table_of_a_dotted_one_text sub_table_of_a_dotted_one_shape refl

abbrev inline_tables_text : List ℕ
inline_tables_text = (codes "name = { first = \"Tom\", last = \"Preston-Werner\" }\npoint = { x = 1, y = 2 }\nanimal = { type.name = \"pug\" }\n")

abbrev inline_tables_shape : Shape
inline_tables_shape = (table (field (codes "name") (table (field (codes "first") (text (codes "Tom")) (field (codes "last") (text (codes "Preston-Werner")) empty))) (field (codes "point") (table (field (codes "x") (integer (pos 1)) (field (codes "y") (integer (pos 2)) empty))) (field (codes "animal") (table (field (codes "type") (table (field (codes "name") (text (codes "pug")) empty)) empty)) empty))))

inline_tables : LiesInside inline_tables_text inline_tables_shape
inline_tables = inside inline_tables_text inline_tables_shape refl

abbrev arrays_of_tables_text : List ℕ
arrays_of_tables_text = (codes "[[products]]\nname = \"Hammer\"\nsku = 738594937\n\n[[products]]  # empty table within the array\n\n[[products]]\nname = \"Nail\"\nsku = 284758393\n\ncolor = \"gray\"\n")

abbrev arrays_of_tables_shape : Shape
arrays_of_tables_shape = (table (field (codes "products") (array (cons (table (field (codes "name") (text (codes "Hammer")) (field (codes "sku") (integer (pos 738594937)) empty))) (cons (table empty) (cons (table (field (codes "name") (text (codes "Nail")) (field (codes "sku") (integer (pos 284758393)) (field (codes "color") (text (codes "gray")) empty)))) end)))) empty))

arrays_of_tables : LiesInside arrays_of_tables_text arrays_of_tables_shape
arrays_of_tables = inside arrays_of_tables_text arrays_of_tables_shape refl

abbrev nested_arrays_of_tables_text : List ℕ
nested_arrays_of_tables_text = (codes "[[fruits]]\nname = \"apple\"\n\n[fruits.physical]  # subtable\ncolor = \"red\"\nshape = \"round\"\n\n[[fruits.varieties]]  # nested array of tables\nname = \"red delicious\"\n\n[[fruits.varieties]]\nname = \"granny smith\"\n\n\n[[fruits]]\nname = \"banana\"\n\n[[fruits.varieties]]\nname = \"plantain\"\n")

abbrev nested_arrays_of_tables_shape : Shape
nested_arrays_of_tables_shape = (table (field (codes "fruits") (array (cons (table (field (codes "name") (text (codes "apple")) (field (codes "physical") (table (field (codes "color") (text (codes "red")) (field (codes "shape") (text (codes "round")) empty))) (field (codes "varieties") (array (cons (table (field (codes "name") (text (codes "red delicious")) empty)) (cons (table (field (codes "name") (text (codes "granny smith")) empty)) end))) empty)))) (cons (table (field (codes "name") (text (codes "banana")) (field (codes "varieties") (array (cons (table (field (codes "name") (text (codes "plantain")) empty)) end)) empty))) end))) empty))

nested_arrays_of_tables : LiesInside nested_arrays_of_tables_text nested_arrays_of_tables_shape
nested_arrays_of_tables = inside nested_arrays_of_tables_text nested_arrays_of_tables_shape refl

abbrev array_of_inline_tables_text : List ℕ
array_of_inline_tables_text = (codes "points = [ { x = 1, y = 2, z = 3 },\n           { x = 7, y = 8, z = 9 },\n           { x = 2, y = 4, z = 8 } ]\n")

abbrev array_of_inline_tables_shape : Shape
array_of_inline_tables_shape = (table (field (codes "points") (array (cons (table (field (codes "x") (integer (pos 1)) (field (codes "y") (integer (pos 2)) (field (codes "z") (integer (pos 3)) empty)))) (cons (table (field (codes "x") (integer (pos 7)) (field (codes "y") (integer (pos 8)) (field (codes "z") (integer (pos 9)) empty)))) (cons (table (field (codes "x") (integer (pos 2)) (field (codes "y") (integer (pos 4)) (field (codes "z") (integer (pos 8)) empty)))) end)))) empty))

array_of_inline_tables : LiesInside array_of_inline_tables_text array_of_inline_tables_shape
array_of_inline_tables = inside array_of_inline_tables_text array_of_inline_tables_shape refl

abbrev carriage_returns_text : List ℕ
carriage_returns_text = (codes "a = [1,\r\n2] # c\r\n[b]\r\nc = \"\"\"\r\nx\r\n\"\"\"")

abbrev carriage_returns_shape : Shape
carriage_returns_shape = (table (field (codes "a") (array (cons (integer (pos 1)) (cons (integer (pos 2)) end))) (field (codes "b") (table (field (codes "c") (text (codes "x\r\n")) empty)) empty)))

carriage_returns : LiesInside carriage_returns_text carriage_returns_shape
carriage_returns = inside carriage_returns_text carriage_returns_shape refl

abbrev empty_text_text : List ℕ
empty_text_text = []

abbrev empty_text_shape : Shape
empty_text_shape = (table empty)

empty_text : LiesInside empty_text_text empty_text_shape
empty_text = inside empty_text_text empty_text_shape refl
