-- Entries worked out from outside: the hashes are those of `xxhsum -H0`, of files whose lines end with one LF.
use Rattle.std.proofs.Common.{◌≡◌, [], ◌∷◌, codes, refl}
use Rattle.std.specs.Fmt.{char_count, digits, padded_integral}
use Rattle.deny_text.specs.Hash.{mixed_hash, of_groups, stripe, with_byte, with_word, xxh32_of}
use Rattle.deny_text.specs.Normal.{normal_of}
use Rattle.licence_hash.specs.Entry.{entry_of, string_of}

-- an empty file
empty : entry_of (codes "EMPTY") [] ≡ codes "{ path = \"EMPTY\", hash = 0x02cc5d05 },\n"
unfolding char_count padded_integral digits string_of xxh32_of normal_of mixed_hash with_word with_byte of_groups stripe
empty = refl

-- a line without its end, and the same with the end of Windows
one_line : entry_of (codes "a b") (codes "x") ≡ codes "{ path = \"a b\", hash = 0x9e5f9396 },\n"
unfolding char_count padded_integral digits string_of xxh32_of normal_of mixed_hash with_word with_byte of_groups stripe
one_line = refl

returned : entry_of (codes "a b") (codes "x\r\n") ≡ codes "{ path = \"a b\", hash = 0x9e5f9396 },\n"
unfolding char_count padded_integral digits string_of xxh32_of normal_of mixed_hash with_word with_byte of_groups stripe
returned = refl

-- a quote, a backslash and a tab in the name
quoted : entry_of (34 ∷ 92 ∷ 9 ∷ []) (codes "x") ≡ codes "{ path = \"\\u0022\\u005c\\u0009\", hash = 0x9e5f9396 },\n"
unfolding char_count padded_integral digits string_of xxh32_of normal_of mixed_hash with_word with_byte of_groups stripe
quoted = refl
