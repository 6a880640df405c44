use Rattle.std.proofs.Common.{◌≡◌, ◌∙◌, Some, ap, length, take, drop, subst, arith}
use Rattle.std.proofs.lemmas.List.{take_all}
use Rattle.byteorder.specs.Endian.{little_number, IsRead}
use Rattle.cm_layout.specs.Slots.{unload_all_slot}
use Rattle.cm_layout.proofs.Numbers.{numbers-back, padded-count}
use Rattle.cm_layout.proofs.unload_all.UnloadAll.at_its_places.Goals as goal

pub returns : goal.returns
returns c entry fits e =
    let numbers = c.read_u64_into.new.dst in
    let bytes = drop 8 (unload_all_slot entry) in
    let whole : take 56 bytes ≡ bytes =
    take_all 56 bytes (omega (arith, padded-count entry.loaders 7 fits.few)) in
    let was : IsRead little_number 8 (take 56 (drop 8 c.args.slot.now)) numbers =
    c.read_u64_into.ensures in
    let read : IsRead little_number 8 bytes numbers =
    subst (λ b. IsRead little_number 8 b numbers) whole
    (subst (λ s. IsRead little_number 8 (take 56 (drop 8 s)) numbers) e was) in
    let count : c.from-len.result ≡ length entry.loaders = rw e at c.from-len.ensures in
    let back : take (length entry.loaders) numbers ≡ entry.loaders =
    numbers-back entry.loaders numbers 7 fits.loaders fits.few (omega arith) read in
    let loaders : c.in_ok-loaders.loaders ≡ entry.loaders =
    c.in_ok-loaders.ensures.value ∙ ap (λ n. take n numbers) count ∙ back in
    (λ i. Some (record { loaders = loaders i }))
