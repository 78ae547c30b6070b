-- The reads by which licences were settled.
use Rattle.std.specs.Prelude.{List, map}
use Rattle.gather_core.specs.Gathered.{krate_of}
use Rattle.gather_core.specs.declared.summary.KrateLicense.{KrateLicense}
use Rattle.run_found.specs.declared.reads.CrateRead.{CrateRead}

-- a crate's id, and the reads of its files
abbrev pub read_gathered : KrateLicense → CrateRead
read_gathered license = record { id = (krate_of license).id; reads = license.reads }

abbrev pub reads_gathered : List KrateLicense → List CrateRead
reads_gathered licenses = map read_gathered licenses
