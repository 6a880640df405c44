-- Contents whose superblock is shut are no cache.
-- For `new_file_is_empty`.
use Rattle.std.proofs.Common.{◌≡◌, ◌≢◌, ℕ, Bool, true, false, List, length, take, get_or, refl}
use Rattle.std.proofs.Common.{sym, ◌∙◌, arith}
use Rattle.std.specs.Prelude.{◌&&◌, ◌==◌, nat_le}
use Rattle.std.specs.Str.{bytes_eq}
use Rattle.std.proofs.lemmas.Bool.{ne_eqb}
use Rattle.std.proofs.lemmas.List.{get_or-take}
use Rattle.cm_layout.specs.Superblock.{magic}
use Rattle.cm_verdict.specs.Found.{is_cache, sizes_found, found_in}
use Rattle.cm_verdict.specs.Verdict.{verdict}
use Rattle.cm_recover.specs.Laws.{ShutIsNoCache}

last_false : (a b c : Bool) → c ≡ false → ((a && b) && c) ≡ false
last_false true true c e = e
last_false true false c e = refl
last_false false b c e = refl

shut_block : (contents : List ℕ) → get_or contents 4095 0 ≢ 165
    → is_cache (length contents) (take 4096 contents) ≡ false
shut_block contents shut =
    last_false (nat_le 4096 (length contents)) (bytes_eq (take 8 (take 4096 contents)) magic)
    (get_or (take 4096 contents) 4095 0 == 165)
    (ne_eqb (get_or (take 4096 contents) 4095 0) 165
    (λ gate. shut (sym (get_or-take 4096 contents 4095 0 (omega arith)) ∙ gate)))

pub shut_is_no_cache : ShutIsNoCache
unfolding verdict found_in sizes_found
shut_is_no_cache contents shut = rw (shut_block contents shut) refl
