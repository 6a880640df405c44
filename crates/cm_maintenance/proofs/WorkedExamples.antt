-- The definitions computed on what is reported.
use Rattle.std.proofs.Common.{◌≡◌, [], ◌∷◌, ◌++◌, refl}
use Rattle.std.specs.Prelude.{codes}
use Rattle.std.specs.Fmt.{digits}
use Rattle.cm_pool.specs.declared.place.Place.{Place}
use Rattle.cm_verdict.specs.declared.fault.Damage.TheVariants as damage
use Rattle.cm_verdict.specs.declared.fault.FileFault.TheVariants.{NotACache, Damaged}
use Rattle.cm_verdict.specs.declared.fault.OpenFault.TheVariants as open_fault
use Rattle.cm_maintenance.specs.Texts.{report_line, loader_line, class_line, list_lines, fault_line}

-- ---- of files that are checked

empty_cache : report_line (record { loaders = 0; classes = 0; chunks = 0; number = 0 })
    ≡ codes "ok loaders 0 classes 0 chunks 0 number 0" ++ 10 ∷ []
unfolding digits
empty_cache = refl

some_classes : report_line (record { loaders = 2; classes = 13; chunks = 4; number = 20 })
    ≡ codes "ok loaders 2 classes 13 chunks 4 number 20" ++ 10 ∷ []
unfolding digits
some_classes = refl

-- ---- of caches that are listed

nothing_listed : list_lines [] ≡ []
nothing_listed = refl

loader_alone : list_lines ((codes "app", []) ∷ []) ≡ codes "loader app" ++ 10 ∷ []
loader_alone = refl

never_escaped : loader_line (codes "a%41") ≡ codes "loader a%41" ++ 10 ∷ []
never_escaped = refl

-- the second record of the chunk at word 128 of root 3
abbrev behind_another : Place
behind_another = record {
  chunk = record { root = 3; order = 0; at = 128 };
  offset = 16;
  words = 20;
}

second_in_its_chunk : class_line (codes "A") 20 behind_another
    ≡ codes "class A words 20 root 3 at 144" ++ 10 ∷ []
unfolding digits
second_in_its_chunk = refl

escaped_name : class_line (0xC3 ∷ 0xA9 ∷ 0x25 ∷ []) 20 behind_another
    ≡ codes "class %C3%A9%25 words 20 root 3 at 144" ++ 10 ∷ []
unfolding digits
escaped_name = refl

-- ---- of files that aren't opened

no_cache : fault_line (open_fault.File NotACache) ≡ codes "not a cache" ++ 10 ∷ []
no_cache = refl

bad_superblock : fault_line (open_fault.File (Damaged damage.Superblock 0))
    ≡ codes "damaged 1 0" ++ 10 ∷ []
unfolding digits
bad_superblock = refl

class_twice : fault_line (open_fault.File (Damaged damage.ClassTwice 261))
    ≡ codes "damaged 9 261" ++ 10 ∷ []
unfolding digits
class_twice = refl

device_failed : fault_line open_fault.Device ≡ codes "device" ++ 10 ∷ []
device_failed = refl

no_memory : fault_line open_fault.NoMemory ≡ codes "memory" ++ 10 ∷ []
no_memory = refl
