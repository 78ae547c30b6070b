-- XXH32 with initial value 0, as the public description of xxHash has it ("XXH32 Algorithm Description", steps 1 to 7).
-- Words are numbers below 2 ^ 32.
use Rattle.std.specs.Prelude.{◌≡◌, ℕ, ◌+◌, ◌-◌, ◌*◌, ◌/◌, ◌%◌, ◌^◌, nat_lt, List, length, take, drop, fold, bit_xor}
use Rattle.std.specs.Prelude.{if◌then◌else◌}
use Rattle.std.specs.Int.{w32, rotate_left, from_le_bytes}
use Rattle.std.specs.Simd.{first_chunks}
use Rattle.deny_text.specs.Normal.{normal_of, with_returns}
use Rattle.deny_text.specs.declared.hash.Lanes.{Lanes}

-- the five primes
abbrev pub prime_1 : ℕ
prime_1 = 2654435761

abbrev pub prime_2 : ℕ
prime_2 = 2246822519

abbrev pub prime_3 : ℕ
prime_3 = 3266489917

abbrev pub prime_4 : ℕ
prime_4 = 668265263

abbrev pub prime_5 : ℕ
prime_5 = 374761393

-- sum and product of two words, modulo 2 ^ 32
abbrev pub add32 : ℕ → ℕ → ℕ
add32 x y = (x + y) % 2 ^ 32

abbrev pub mul32 : ℕ → ℕ → ℕ
mul32 x y = (x * y) % 2 ^ 32

-- the whole groups of n items, in order, and the items after them
abbrev pub whole_groups : ℕ → List ℕ → List (List ℕ)
whole_groups n items = first_chunks n (length items / n) items

abbrev pub after_groups : ℕ → List ℕ → List ℕ
after_groups n items = drop (length items / n * n) items

-- the word of four bytes, low byte first
abbrev pub word_of : List ℕ → ℕ
word_of bytes = from_le_bytes w32 bytes

-- the four words of a group of 16 bytes
abbrev pub lanes_of : List ℕ → Lanes
lanes_of group = record {
  first = word_of (take 4 group);
  second = word_of (take 4 (drop 4 group));
  third = word_of (take 4 (drop 8 group));
  fourth = word_of (take 4 (drop 12 group));
}

-- step 1: the four accumulators
abbrev pub start : Lanes
start = record { first = add32 prime_1 prime_2; second = prime_2; third = 0; fourth = 2 ^ 32 - prime_1 }

-- step 2: an accumulator takes in its lane
abbrev pub round : ℕ → ℕ → ℕ
round accumulator lane = mul32 (rotate_left w32 (add32 accumulator (mul32 lane prime_2)) 13) prime_1

-- each accumulator takes in its lane of the group
unfoldable pub stripe : Lanes → List ℕ → Lanes
stripe sums group = record {
  first = round sums.first (lanes_of group).first;
  second = round sums.second (lanes_of group).second;
  third = round sums.third (lanes_of group).third;
  fourth = round sums.fourth (lanes_of group).fourth;
}

-- step 3: the accumulators as one
abbrev pub merged_lanes : Lanes → ℕ
merged_lanes sums =
    add32 (add32 (add32 (rotate_left w32 sums.first 1) (rotate_left w32 sums.second 7)) (rotate_left w32 sums.third 12))
    (rotate_left w32 sums.fourth 18)

-- the groups of 16 bytes taken in one after another; input without one starts from the fifth prime
unfoldable pub of_groups : List ℕ → ℕ
of_groups bytes = if nat_lt (length bytes) 16 then prime_5 else merged_lanes (fold stripe start (whole_groups 16 bytes))

-- step 4: the length is added
abbrev pub with_length : List ℕ → ℕ
with_length bytes = add32 (of_groups bytes) (length bytes % 2 ^ 32)

-- step 5: what is left is taken in, whole words first, and then bytes
unfoldable pub with_word : ℕ → List ℕ → ℕ
with_word hash group = mul32 (rotate_left w32 (add32 hash (mul32 (word_of group) prime_3)) 17) prime_4

unfoldable pub with_byte : ℕ → ℕ → ℕ
with_byte hash byte = mul32 (rotate_left w32 (add32 hash (mul32 byte prime_5)) 11) prime_1

abbrev pub with_rest : ℕ → List ℕ → ℕ
with_rest hash rest = fold with_byte (fold with_word hash (whole_groups 4 rest)) (after_groups 4 rest)

-- step 6: the bits are mixed
abbrev pub xor_high : ℕ → ℕ → ℕ
xor_high hash bits = bit_xor hash (hash / 2 ^ bits)

unfoldable pub mixed_hash : ℕ → ℕ
mixed_hash hash = xor_high (mul32 (xor_high (mul32 (xor_high hash 15) prime_2) 13) prime_3) 16

-- the hash of the bytes
unfoldable pub xxh32_of : List ℕ → ℕ
xxh32_of bytes = mixed_hash (with_rest (with_length bytes) (after_groups 16 bytes))

-- CR before each LF changes nothing in the hash of the normal form
abbrev pub HashIgnoresReturns : Type 0
HashIgnoresReturns = (text : List ℕ) → xxh32_of (normal_of (with_returns text)) ≡ xxh32_of (normal_of text)
