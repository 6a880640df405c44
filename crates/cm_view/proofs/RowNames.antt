-- A row whose class keeps the rules shows its name.
-- For `rows_show_names`.
use Rattle.std.proofs.Common.{◌≡◌, ◌<◌, ◌+◌, ◌*◌, ℕ, List, length, get_or, drop, None, arith}
use Rattle.std.proofs.Common.{length-take, length-drop, get_or-take, get_or-drop, ◌∙◌}
use Rattle.cm_class.specs.declared.class_file.ClassFile.{ClassFile}
use Rattle.cm_class.specs.Names.{class_name_of}
use Rattle.cm_class.specs.Spelling.{AreBytes}
use Rattle.cm_record_layout.proofs.{bytes_from, length-packed_into}
use Rattle.cm_rules.specs.Fault.{fault}
use Rattle.cm_shown_names.specs.Itself.{NamesItself}
use Rattle.cm_shown_names.proofs.{shows}
use Rattle.cm_view_index.specs.declared.row.ViewRow.{ViewRow}
use Rattle.cm_view_index.specs.Rows.{ShowsName, row_bytes}
use Rattle.cm_view.specs.Taking.{HasClass, IsThere, row_words}
use Rattle.cm_view.proofs.Kept.{is_kept}

-- the bytes of a row are bytes, as many as its words have
pub row_long : (bytes : List ℕ) (row : ViewRow) → IsThere bytes row
    → length (row_bytes bytes row) ≡ 8 * row.words
row_long bytes row there =
    omega (
      arith,
      length-take (8 * row.words) (drop row.at bytes),
      length-drop row.at bytes,
      there.within,
    )

row_fits : (bytes : List ℕ) (row : ViewRow) → IsThere bytes row
    → ((i : ℕ) → get_or bytes i 0 < 256) → AreBytes (row_bytes bytes row)
row_fits bytes row there small =
    bytes_from (row_bytes bytes row)
    (λ i lt.
    let long = row_long bytes row there in
    let read : get_or (row_bytes bytes row) i 0 ≡ get_or bytes (row.at + i) 0 =
    get_or-take (8 * row.words) (drop row.at bytes) i 0 (omega arith)
    ∙ get_or-drop row.at bytes i 0 in
    let fits = small (row.at + i) in omega arith)

pub shows_name : (bytes : List ℕ) → ((i : ℕ) → get_or bytes i 0 < 256)
    → ((c : ClassFile) → fault c ≡ None → NamesItself c) → (row : ViewRow) (c : ClassFile)
    → HasClass bytes row c → ShowsName bytes row (class_name_of c)
shows_name bytes small itself row c has =
    let k = is_kept (row_words bytes row) c has.kept in
    let short = has.there.short in
    shows row.words (row_bytes bytes row) c (row_fits bytes row has.there small)
    (row_long bytes row has.there) (record {
      spelled = k.keeps.spelled;
      laid = k.laid;
      short = omega (arith, length-packed_into row.words (row_bytes bytes row));
    }) (itself c k.keeps.kept)
