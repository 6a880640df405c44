-- What a tag hashes of each file.
use Rattle.std.specs.Prelude.{◌≡◌, ◌≢◌, ◌⊎◌, ℕ, List, [], ◌∷◌, ◌++◌, length, codes}
use Rattle.std.specs.Int.{w32, w64, to_be_bytes}
use Rattle.std.specs.Prelude.{replicate}
use Rattle.sha2.specs.Sha256.{sha256}
use Rattle.cm_jar.specs.declared.entry.Entry.{Entry}
use Rattle.cm_jar.specs.declared.fault.JarFault.{JarFault}
use Rattle.cm_jar.specs.declared.fault.JarFault.TheVariants.{NoMemory}
use Rattle.cm_jar.specs.Entries.{declared_size, declared_check}
use Rattle.cm_jar.specs.Jars.{IsJar, IsJarFault}

-- the digest of no file
abbrev pub of_nothing : List ℕ
of_nothing = replicate 32 0

-- of a class file: a C, and its bytes
abbrev pub class_text : List ℕ → List ℕ
class_text bytes = codes "C" ++ bytes

-- Of an entry of a jar: how many bytes its name has, as eight bytes, and its name; the CRC-32 and
-- the size that the directory declares, as four bytes each. The highest byte comes first.
abbrev pub entry_text : Entry → List ℕ
entry_text entry =
    to_be_bytes w64 (length entry.name.now) ++ entry.name.now
    ++ to_be_bytes w32 (declared_check entry) ++ to_be_bytes w32 (declared_size entry)

unfoldable pub entries_text : List Entry → List ℕ
entries_text [] = []
entries_text (entry ∷ entries) = entry_text entry ++ entries_text entries

-- of a jar: a J, and its entries in the order of its directory
abbrev pub jar_text : List Entry → List ℕ
jar_text entries = codes "J" ++ entries_text entries

-- of a file that is no jar: an X, and its bytes
abbrev pub other_text : List ℕ → List ℕ
other_text bytes = codes "X" ++ bytes

-- the digest once a file with this text was added to those that have the digest
abbrev pub IsWith : List ℕ → List ℕ → List ℕ → Type 0
IsWith digest text new = new ≡ sha256 (digest ++ text)

-- a file that is a jar was added
pub record IsWithEntries (digest file new : List ℕ) : Type 0 where
  pub entries : List Entry
  pub jar : IsJar file entries
  pub added : IsWith digest (jar_text entries) new

-- a file that is no jar was added
pub record IsWithOther (digest file new : List ℕ) : Type 0 where
  pub fault : JarFault
  pub no_jar : IsJarFault file fault
  pub told : fault ≢ NoMemory
  pub added : IsWith digest (other_text file) new

-- a file was added as a jar, if it is one
abbrev pub IsWithJar : List ℕ → List ℕ → List ℕ → Type 0
IsWithJar digest file new = IsWithEntries digest file new ⊎ IsWithOther digest file new
