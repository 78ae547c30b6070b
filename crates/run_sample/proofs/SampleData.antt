-- The sample's metadata as JSON, and the value that it is.
use Rattle.std.proofs.Common.{ℕ, ◌+◌, ◌*◌, ◌%◌, ◌==◌, List, [], ◌∷◌, ◌++◌, cond, codes, decimal, Option, Some, None}
use Rattle.std.specs.Prelude.{nat_lt}
use Rattle.json.specs.Json as json
use Rattle.serde_json.specs.Data.{Data, null, string, array, object, Items, no_items, item, no_members, member}
use Rattle.run_sample.specs.Metadata.{numbers, sample_name}

-- the field of a crate, by its number modulo 4
abbrev pub license_field : ℕ → Option (List ℕ)
license_field remainder =
    cond (remainder == 0) (Some (codes "MIT"))
    (cond (remainder == 1) (Some (codes "MIT OR Apache-2.0"))
    (cond (remainder == 2) (Some (codes "GPL-3.0-only")) None))

abbrev pub sample_version : ℕ → List ℕ
sample_version i = codes "1.0." ++ decimal i

abbrev pub sample_manifest : ℕ → List ℕ
sample_manifest i = codes "/s/c" ++ (decimal i ++ codes "/Cargo.toml")

-- the crates that the edges of a crate lead to
abbrev pub targets : ℕ → ℕ → List ℕ
targets n i = cond (nat_lt (2 * i + 1) n) ((2 * i + 1) ∷ cond (nat_lt (2 * i + 2) n) ((2 * i + 2) ∷ []) []) []

-- ---- as JSON, in the order of the text

abbrev pub field_json : Option (List ℕ) → json.Json
field_json None = json.null
field_json (Some text) = json.string text

abbrev pub json_items : (ℕ → json.Json) → List ℕ → json.Items
json_items make [] = json.no_items
json_items make (x ∷ xs) = json.item (make x) (json_items make xs)

abbrev pub package_json : ℕ → json.Json
package_json i =
    json.object
    (json.member (codes "name") (json.string (sample_name i))
    (json.member (codes "version") (json.string (sample_version i))
    (json.member (codes "id") (json.string (sample_name i))
    (json.member (codes "manifest_path") (json.string (sample_manifest i))
    (json.member (codes "license") (field_json (license_field (i % 4))) json.no_members)))))

abbrev pub dep_json : ℕ → json.Json
dep_json j = json.object (json.member (codes "pkg") (json.string (sample_name j)) json.no_members)

abbrev pub node_json : ℕ → ℕ → json.Json
node_json n i =
    json.object
    (json.member (codes "id") (json.string (sample_name i))
    (json.member (codes "deps") (json.array (json_items dep_json (targets n i))) json.no_members))

abbrev pub resolve_json : json.Items → json.Json
resolve_json nodes =
    json.object
    (json.member (codes "root") (json.string (codes "c0"))
    (json.member (codes "nodes") (json.array nodes) json.no_members))

abbrev pub root_json : json.Items → json.Items → json.Json
root_json packages nodes =
    json.object
    (json.member (codes "packages") (json.array packages)
    (json.member (codes "workspace_members") (json.array (json.item (json.string (codes "c0")) json.no_items))
    (json.member (codes "workspace_root") (json.string (codes "/s"))
    (json.member (codes "resolve") (resolve_json nodes) json.no_members))))

abbrev pub sample_json : ℕ → json.Json
sample_json n = root_json (json_items package_json (numbers n)) (json_items (node_json n) (numbers n))

-- ---- as a value, in the order of the keys

abbrev pub field_data : Option (List ℕ) → Data
field_data None = null
field_data (Some text) = string text

abbrev pub data_items : (ℕ → Data) → List ℕ → Items
data_items make [] = no_items
data_items make (x ∷ xs) = item (make x) (data_items make xs)

abbrev pub package_data : ℕ → Data
package_data i =
    object
    (member (codes "id") (string (sample_name i))
    (member (codes "license") (field_data (license_field (i % 4)))
    (member (codes "manifest_path") (string (sample_manifest i))
    (member (codes "name") (string (sample_name i))
    (member (codes "version") (string (sample_version i)) no_members)))))

abbrev pub dep_data : ℕ → Data
dep_data j = object (member (codes "pkg") (string (sample_name j)) no_members)

abbrev pub node_data : ℕ → ℕ → Data
node_data n i =
    object
    (member (codes "deps") (array (data_items dep_data (targets n i)))
    (member (codes "id") (string (sample_name i)) no_members))

abbrev pub resolve_data : Items → Data
resolve_data nodes =
    object
    (member (codes "nodes") (array nodes)
    (member (codes "root") (string (codes "c0")) no_members))

abbrev pub root_data : Items → Items → Data
root_data packages nodes =
    object
    (member (codes "packages") (array packages)
    (member (codes "resolve") (resolve_data nodes)
    (member (codes "workspace_members") (array (item (string (codes "c0")) no_items))
    (member (codes "workspace_root") (string (codes "/s")) no_members))))

abbrev pub sample_data : ℕ → Data
sample_data n = root_data (data_items package_data (numbers n)) (data_items (node_data n) (numbers n))
