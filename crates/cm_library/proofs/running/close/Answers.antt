use Rattle.cm_library.proofs.running.close.Goals as goal

pub returns : goal.returns
returns g c =
    let closing = c.close-handed.ensures in
    record {
      shares = closing.shares;
      counted = closing.counted;
      missing = closing.missing;
      all_back = closing.passes;
      receipts = closing.receipts;
      images = closing.images;
      changes = closing.changes;
      whole = λ same. (closing.whole same).0;
      sure = λ same. (closing.whole same).1;
    }
