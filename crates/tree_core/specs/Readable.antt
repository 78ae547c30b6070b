-- What of the system's files is read.
use Rattle.std.specs.Prelude.{◌≡◌, ℕ, ◌≤◌, ◌⊎◌, Bool, true, List}
use Rattle.std.specs.List.{list_any}
use Rattle.std.specs.Str.{bytes_eq}
use Rattle.std.specs.Fs.{IsFile, file_type, metadata_len}
use Rattle.std.specs.declared.fs.attrs.Metadata.{Metadata}

-- the most bytes that a file may have
abbrev pub byte_limit : ℕ
byte_limit = 67_108_864

-- A file within the limit is read; what is no file, as a pipe or a device, only where its path was named. A device's
-- length says nothing.
abbrev pub IsReadable : Metadata → Bool → Type 0
IsReadable there is_named =
    (IsFile (file_type there) × (metadata_len there ≤ byte_limit))
    ⊎ ((¬ (IsFile (file_type there))) × (is_named ≡ true))

-- a path is one of these, byte for byte
abbrev pub is_among : List (List ℕ) → List ℕ → Bool
is_among named path = list_any (λ one. bytes_eq one path) named
