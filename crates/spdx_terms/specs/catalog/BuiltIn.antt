-- The texts that the identifier has built in.
use Rattle.std.specs.Prelude.{ℕ, List, [], ◌∷◌, ◌++◌, codes}
use Rattle.spdx_terms.specs.declared.catalog.store.StoreText.{StoreText}

-- the body of the MIT licence
unfoldable pub mit_body : List ℕ
mit_body =
    codes "Permission is hereby granted, free of charge, to any person obtaining a copy of this software and "
    ++ codes "associated documentation files (the \"Software\"), to deal in the Software without restriction, "
    ++ codes "including without limitation the rights to use, copy, modify, merge, publish, distribute, "
    ++ codes "sublicense, and/or sell copies of the Software, and to permit persons to whom the Software is "
    ++ codes "furnished to do so, subject to the following conditions:\n"
    ++ codes "The above copyright notice and this permission notice shall be included in all copies or "
    ++ codes "substantial portions of the Software.\n"
    ++ codes "THE SOFTWARE IS PROVIDED \"AS IS\", WITHOUT WARRANTY OF ANY KIND, EXPRESS OR IMPLIED, INCLUDING BUT "
    ++ codes "NOT LIMITED TO THE WARRANTIES OF MERCHANTABILITY, FITNESS FOR A PARTICULAR PURPOSE AND "
    ++ codes "NONINFRINGEMENT. IN NO EVENT SHALL THE AUTHORS OR COPYRIGHT HOLDERS BE LIABLE FOR ANY CLAIM, "
    ++ codes "DAMAGES OR OTHER LIABILITY, WHETHER IN AN ACTION OF CONTRACT, TORT OR OTHERWISE, ARISING FROM, OUT "
    ++ codes "OF OR IN CONNECTION WITH THE SOFTWARE OR THE USE OR OTHER DEALINGS IN THE SOFTWARE.\n"

-- the body of the ISC licence
unfoldable pub isc_body : List ℕ
isc_body =
    codes "Permission to use, copy, modify, and/or distribute this software for any purpose with or without "
    ++ codes "fee is hereby granted, provided that the above copyright notice and this permission notice appear "
    ++ codes "in all copies.\n"
    ++ codes "THE SOFTWARE IS PROVIDED \"AS IS\" AND THE AUTHOR DISCLAIMS ALL WARRANTIES WITH REGARD TO THIS "
    ++ codes "SOFTWARE INCLUDING ALL IMPLIED WARRANTIES OF MERCHANTABILITY AND FITNESS. IN NO EVENT SHALL THE "
    ++ codes "AUTHOR BE LIABLE FOR ANY SPECIAL, DIRECT, INDIRECT, OR CONSEQUENTIAL DAMAGES OR ANY DAMAGES "
    ++ codes "WHATSOEVER RESULTING FROM LOSS OF USE, DATA OR PROFITS, WHETHER IN AN ACTION OF CONTRACT, "
    ++ codes "NEGLIGENCE OR OTHER TORTIOUS ACTION, ARISING OUT OF OR IN CONNECTION WITH THE USE OR PERFORMANCE OF "
    ++ codes "THIS SOFTWARE.\n"

-- a licence's body after a first line, or alone
abbrev pub license_text : List ℕ → List ℕ → List ℕ → StoreText
license_text name heading body = record { name = name; body = heading ++ body }

abbrev pub built_in : List StoreText
built_in =
    license_text (codes "MIT") [] mit_body
    ∷ license_text (codes "MIT") (codes "MIT License\n") mit_body
    ∷ license_text (codes "MIT") (codes "The MIT License\n") mit_body
    ∷ license_text (codes "MIT") (codes "The MIT License (MIT)\n") mit_body
    ∷ license_text (codes "ISC") [] isc_body
    ∷ license_text (codes "ISC") (codes "ISC License\n") isc_body
    ∷ []
