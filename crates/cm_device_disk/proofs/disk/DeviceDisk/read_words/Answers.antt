use Rattle.std.proofs.Common.{◌≡◌, ◌≤◌, ℕ, List, length, take, sym, ap, subst, ◌∙◌}
use Rattle.std.proofs.lemmas.Bool.{leb-true}
use Rattle.std.proofs.lemmas.List.{take-take}
use Rattle.cm_device_disk.specs.DeviceDisk.{disk_contents}
use Rattle.cm_device_disk.proofs.disk.DeviceDisk.read_words.Goals as goal

pub returns-in_ok-read_words-in-Ok-clause-begins :
    goal.returns-in_ok-read_words-in-Ok-clause-begins
returns-in_ok-read_words-in-Ok-clause-begins g c n held =
    let old = disk_contents c.args.self in
    let new = disk_contents c.of_opened.result in
    let bytes = c.in-Ok.opened.beginning.items in
    let within : n ≤ length bytes =
    leb-true n (length bytes) (sym (c.in-Ok.ensures.held n) ∙ held) in
    let begins : take (length bytes) new ≡ bytes =
    subst (λ (b : List ℕ). take (length b) new ≡ b)
    (c.in_ok-read_words-in-Ok.ensures {u = tt}).beginning
    c.of_opened.ensures.begins in
    sym (take-take n (length bytes) new within)
    ∙ (ap (λ (l : List ℕ). take n l) (begins ∙ sym c.in-Ok.ensures.begins)
    ∙ take-take n (length bytes) old within)
