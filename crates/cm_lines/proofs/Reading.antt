-- A line that is read in pieces.
-- For `push_shown`, `read_line` and others.
use Rattle.std.proofs.Common.{◌≡◌, ◌≢◌, ◌<◌, ◌+◌, ℕ, Bool, true, false, cond, List, [], ◌∷◌, ◌++◌}
use Rattle.std.proofs.Common.{length, take, All, Option, Some, None, refl, sym, ap, subst, ◌∙◌}
use Rattle.std.proofs.Common.{append_assoc, append-nil, length-append, ltb, arith}
use lib.Seq.{take-append_seam}
use Rattle.std.proofs.lemmas.Bool.{lt-ltb}
use Rattle.std.proofs.lemmas.List.Elements.{All-nil, All-append}
use Rattle.std.proofs.KnownBytes.{Consumes-nil, Consumes-trans}
use Rattle.std.specs.Io.KnownBytes.{Consumes, IsAtEnd}
use Rattle.std.specs.Option.{OnSome}
use Rattle.cm_lines.specs.declared.line_buffer.LineBuffer.{LineBuffer}
use Rattle.cm_lines.specs.declared.input.Piece.TheVariants as piece
use Rattle.cm_lines.specs.Lines.{without_empty_rest, lines_of}
use Rattle.cm_lines.specs.Streams.{TakesLines, HasNoLine, HoldsLine, Grows, TakesPiece, ReadsLine}
use Rattle.cm_lines.proofs.Cuts.{pieces_cut, pieces_none, pieces_some}

pub take_through_cut : (shown front back : List ℕ) → shown ≡ front ++ 10 ∷ back
    → take (length front + 1) shown ≡ front ++ 10 ∷ []
take_through_cut shown front back e =
    let line : List ℕ = front ++ 10 ∷ [] in
    let long : length front + 1 ≡ length line = sym (length-append front (10 ∷ [])) in
    ap (take (length front + 1)) (e ∙ sym (append_assoc front (10 ∷ []) back)) ∙ ap
    (λ n. take n (line ++ back)) long ∙ take-append_seam line back

-- ---- lines of a script

pub lines_cut : (script line rest : List ℕ) → script ≡ line ++ 10 ∷ rest → All (λ b. b ≢ 10) line
    → lines_of script ≡ line ∷ lines_of rest
lines_cut script line rest e h =
    let some = pieces_some 10 rest in
    ap without_empty_rest (pieces_cut 10 script line rest e h ∙ ap (λ l. line ∷ l) some.2) ∙ ap
    (λ l. line ∷ without_empty_rest l) (sym some.2)

pub lines_last : (line : List ℕ) → 0 < length line → All (λ b. b ≢ 10) line
    → lines_of line ≡ line ∷ []
lines_last line some h =
    ap without_empty_rest (pieces_none 10 line h) ∙ ap (λ t. cond t (line ∷ []) [])
    (lt-ltb 0 (length line) some)

-- ---- a line so far

-- these bytes of a line were consumed, and the buffer holds them
pub record LineSoFar (script now : Option (List ℕ)) (buffer : LineBuffer) : Type 0 where
  pub line : List ℕ
  pub taken : Consumes script now line
  pub inside : All (λ b. b ≢ 10) line
  pub held : HoldsLine line buffer

pub line_start : (a : Option (List ℕ)) (buffer : LineBuffer) → HoldsLine [] buffer
    → LineSoFar a a buffer
line_start a buffer held =
    record { line = []; taken = Consumes-nil a; inside = All-nil (λ b. b ≢ 10); held = held }

pub line_more : (a b c : Option (List ℕ)) (old new : LineBuffer) (bytes : List ℕ)
    → LineSoFar a b old → TakesPiece b c piece.More bytes → Grows old new bytes → LineSoFar a c new
line_more a b c old new bytes so p grows =
    record {
      line = so.line ++ bytes;
      taken = Consumes-trans a b c so.line bytes so.taken p.taken;
      inside = All-append (λ b. b ≢ 10) so.line bytes so.inside p.inside;
      held = grows so.line so.held;
    }

takes_line : (a c : Option (List ℕ)) (line : List ℕ) → Consumes a c (line ++ 10 ∷ [])
    → All (λ b. b ≢ 10) line → TakesLines a c (line ∷ [])
takes_line None c line taken inside = tt
takes_line (Some script) None line taken inside = absurd taken
takes_line (Some script) (Some rest) line taken inside =
    lines_cut script line rest (taken ∙ append_assoc line (10 ∷ []) rest) inside

pub line_whole : (a b c : Option (List ℕ)) (old new : LineBuffer) (bytes : List ℕ)
    → LineSoFar a b old → TakesPiece b c piece.Newline bytes → Grows old new bytes
    → ReadsLine a c new true
line_whole a b c old new bytes so p grows =
    let line : List ℕ = so.line ++ bytes in
    let taken = subst (Consumes a c) (sym (append_assoc so.line bytes (10 ∷ [])))
    (Consumes-trans a b c so.line (bytes ++ 10 ∷ []) so.taken p.taken) in (
      line,
      takes_line a c line taken (All-append (λ b. b ≢ 10) so.line bytes so.inside p.inside),
      grows so.line so.held,
    )

none_left : (a c : Option (List ℕ)) → Consumes a c [] → OnSome a (IsAtEnd c) → HasNoLine a
none_left None c taken end = tt
none_left (Some script) None taken end = absurd taken
none_left (Some script) (Some rest) taken end = ap lines_of (taken ∙ end)

last_taken : (a c : Option (List ℕ)) (line : List ℕ) → 0 < length line → Consumes a c line
    → OnSome a (IsAtEnd c) → All (λ b. b ≢ 10) line → TakesLines a c (line ∷ [])
last_taken None c line some taken end inside = tt
last_taken (Some script) None line some taken end inside = absurd taken
last_taken (Some script) (Some rest) line some taken end inside =
    ap lines_of (taken ∙ ap (λ l. line ++ l) end ∙ append-nil line) ∙ lines_last line some inside ∙
    ap (λ l. line ∷ lines_of l) (sym end)

-- a reader whose bytes are known at the beginning still has known bytes
still : (a b : Option (List ℕ)) (line : List ℕ) (P : Type 0) → Consumes a b line → OnSome b P
    → OnSome a P
still None b line P taken h = tt
still (Some script) None line P taken h = absurd taken
still (Some script) (Some rest) line P taken h = h

pub line_end : (a b c : Option (List ℕ)) (old new : LineBuffer) (bytes : List ℕ) (some : Bool)
    → LineSoFar a b old → TakesPiece b c piece.End bytes → Grows old new bytes
    → ((line : List ℕ) → HoldsLine line new → some ≡ ltb 0 (length line)) → ReadsLine a c new some
line_end a b c old new bytes some so p grows tells =
    let line : List ℕ = so.line ++ bytes in
    let taken = Consumes-trans a b c so.line bytes so.taken p.taken in
    let inside = All-append (λ b. b ≢ 10) so.line bytes so.inside p.inside in
    let held = grows so.line so.held in
    ends line taken inside held (still a b so.line (IsAtEnd c) so.taken (p.end refl).1)
  where
    empty : Consumes a c [] → OnSome a (IsAtEnd c) → (t : Bool) → t ≡ false → ReadsLine a c new t
    empty taken end true e = absurd (cc)
    empty taken end false e = none_left a c taken end

    filled : (line : List ℕ) → 0 < length line → Consumes a c line → All (λ b. b ≢ 10) line
        → HoldsLine line new → OnSome a (IsAtEnd c) → (t : Bool) → t ≡ true → ReadsLine a c new t
    filled line long taken inside held end true e =
        (line, last_taken a c line long taken end inside, held)
    filled line long taken inside held end false e = absurd (cc)

    ends : (line : List ℕ) → Consumes a c line → All (λ b. b ≢ 10) line → HoldsLine line new
        → OnSome a (IsAtEnd c) → ReadsLine a c new some
    ends [] taken inside held end = empty taken end some (tells [] held)
    ends (b ∷ line) taken inside held end =
        let long : 0 < length (b ∷ line) = omega arith in
        filled (b ∷ line) long taken inside held end some
        (tells (b ∷ line) held ∙ lt-ltb 0 (length (b ∷ line)) long)
