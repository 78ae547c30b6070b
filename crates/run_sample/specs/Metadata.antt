-- The metadata of the sample: the text, crate by crate.
use Rattle.std.specs.Prelude.{ℕ, ◌+◌, ◌*◌, ◌%◌, ◌==◌, nat_lt, List, [], ◌++◌, codes, decimal, if◌then◌else◌}
use Rattle.std.specs.List.{flat_map, range_with_len}

-- `c` and the number of the crate
abbrev pub sample_name : ℕ → List ℕ
sample_name i = codes "c" ++ decimal i

-- the field `license`: by the number modulo 4
abbrev pub license_text : ℕ → List ℕ
license_text remainder =
    if remainder == 0 then codes "\"MIT\""
    else (if remainder == 1 then codes "\"MIT OR Apache-2.0\""
    else (if remainder == 2 then codes "\"GPL-3.0-only\"" else codes "null"))

-- a comma, but in front of the first
abbrev pub comma_before : ℕ → List ℕ
comma_before i = if i == 0 then [] else codes ","

-- a crate: its name, its version and its id
abbrev pub package_head : ℕ → List ℕ
package_head i =
    comma_before i
    ++ (codes "{\"name\":\"c" ++ (decimal i
    ++ (codes "\",\"version\":\"1.0." ++ (decimal i
    ++ (codes "\",\"id\":\"c" ++ (decimal i ++ codes "\","))))))

-- and its manifest and its field
abbrev pub package_tail : ℕ → List ℕ → List ℕ
package_tail i license =
    codes "\"manifest_path\":\"/s/c" ++ (decimal i
    ++ (codes "/Cargo.toml\",\"license\":" ++ (license ++ codes "}")))

abbrev pub package_text : ℕ → List ℕ
package_text i = package_head i ++ package_tail i (license_text (i % 4))

-- an edge to a crate, where there is such a crate; an edge without kinds is a normal one
abbrev pub edge_text : ℕ → List ℕ → ℕ → List ℕ
edge_text n before j = if nat_lt j n then before ++ (codes "{\"pkg\":\"c" ++ (decimal j ++ codes "\"}")) else []

-- the edges of a crate: to the crates 2i + 1 and 2i + 2
abbrev pub node_text : ℕ → ℕ → List ℕ
node_text n i =
    comma_before i
    ++ (codes "{\"id\":\"c" ++ (decimal i
    ++ (codes "\",\"deps\":[" ++ (edge_text n [] (2 * i + 1) ++ (edge_text n (codes ",") (2 * i + 2) ++ codes "]}")))))

-- the numbers of the crates
abbrev pub numbers : ℕ → List ℕ
numbers n = range_with_len 0 n

-- n crates, of which the first is the only member and the root
abbrev pub sample_metadata : ℕ → List ℕ
sample_metadata n =
    codes "{\"packages\":["
    ++ (flat_map package_text (numbers n)
    ++ (codes "],\"workspace_members\":[\"c0\"],\"workspace_root\":\"/s\",\"resolve\":{\"root\":\"c0\",\"nodes\":["
    ++ (flat_map (node_text n) (numbers n) ++ codes "]}}")))
