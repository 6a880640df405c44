use Rattle.std.proofs.Common.{ap, length, arith, length-append}
use Rattle.cm_words.specs.Words.{Words}
use Rattle.cm_record_layout.specs.Layout.{lay, head, runs_at, attributes_at, attribute_runs_at}
use Rattle.cm_record_layout.proofs.{directory_len, all_members_len, all_attributes_len}
use Rattle.cm_record_layout.proofs.{all_runs_len}
use Rattle.cm_record_writing.proofs.Room.{pool_and_members_len, pool_behind_len}
use Rattle.cm_record_writing.proofs.Room.{attributes_and_runs_len}
use Rattle.cm_record_writing.proofs.writing.words_of_class.Goals as goal

pub push_pool_and_members-requires-clause-room : goal.push_pool_and_members-requires-clause-room
push_pool_and_members-requires-clause-room c =
    let k = c.args.class.now in
    omega (
      arith,
      c.requires.places.len,
      ap (λ (w : Words). length w.words) c.in_ok-words.ensures,
      ap (λ (w : Words). w.capacity) c.in_ok-words.ensures,
      ap length c.push_head.ensures.words,
      length-append c.in_ok-words.words.words (head k),
      c.push_head.ensures.capacity,
      pool_and_members_len k (runs_at k) (attributes_at k),
      directory_len (runs_at k) k.slots c.requires.spelled.slots,
      all_members_len k,
    )

pub push_attributes_and_runs-requires-clause-room :
    goal.push_attributes_and_runs-requires-clause-room
push_attributes_and_runs-requires-clause-room c =
    let k = c.args.class.now in
    let those = c.push_pool_and_members.ensures.words in
    let front = c.push_head.new.words.words in
    omega (
      arith,
      c.requires.places.len,
      ap (λ (w : Words). length w.words) c.in_ok-words.ensures,
      ap (λ (w : Words). w.capacity) c.in_ok-words.ensures,
      ap length c.push_head.ensures.words,
      length-append c.in_ok-words.words.words (head k),
      c.push_head.ensures.capacity,
      ap length those,
      pool_behind_len k front,
      c.push_pool_and_members.ensures.capacity,
      attributes_and_runs_len k (attribute_runs_at k),
      directory_len (runs_at k) k.slots c.requires.spelled.slots,
      all_members_len k,
      all_attributes_len k,
      all_runs_len k,
    )

pub returns : goal.returns
unfolding lay
returns c =
    rw (
      c.push_attributes_and_runs.ensures.words,
      c.push_pool_and_members.ensures.words,
      c.push_head.ensures.words,
      ap (λ (w : Words). w.words) c.in_ok-words.ensures,
    )
