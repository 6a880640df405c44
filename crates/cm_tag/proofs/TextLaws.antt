-- The text of a jar, entry by entry.
-- For `with_entries`.
use Rattle.std.proofs.Common.{◌≡◌, ℕ, ◌+◌, ◌<◌, ◌≤◌, List, [], ◌∷◌, ◌++◌, length, get_or, drop}
use Rattle.std.proofs.Common.{refl, ap, ◌∙◌, add-one, drop-cons}
use Rattle.std.proofs.lemmas.List.{drop_all}
use Rattle.cm_jar.specs.declared.entry.Entry.{Entry}
use Rattle.cm_tag.specs.Texts.{entry_text, entries_text}

pub texts_drop : (es : List Entry) (i : ℕ) (d : Entry) → i < length es
    → entries_text (drop i es) ≡ entry_text (get_or es i d) ++ entries_text (drop (i + 1) es)
unfolding entries_text
texts_drop es i d inside = rw (add-one, drop-cons es i d inside) refl

pub texts_end : (es : List Entry) (i : ℕ) → length es ≤ i → entries_text (drop i es) ≡ []
unfolding entries_text
texts_end es i past = ap entries_text (drop_all i es past)
