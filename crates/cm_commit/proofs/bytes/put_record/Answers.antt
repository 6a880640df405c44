use Rattle.std.proofs.Common.{◌≡◌, ◌*◌, length, ap, ◌∙◌, arith, is_ok}
use Rattle.std.specs.Bool.{if◌then◌else◌}
use Rattle.std.specs.Vec.{vec_len}
use Rattle.cm_commit.proofs.bytes.put_record.Goals as goal

pub bytes_into-requires : goal.bytes_into-requires
bytes_into-requires c =
    let filled : vec_len c.resize.new.self ≡ 8 * c.words.result = c.resize.ensures.len
    ∙ ap (λ r. if is_ok r then 8 * c.words.result else vec_len c.args.buffer.now)
    c.unwrap.ensures in
    omega (
      arith,
      ap length c.deref_mut.ensures.value,
      c.resize.new.self.ok.0,
      filled,
      c.words.ensures.words,
    )
