-- A script that is run line by line.
-- For `apply_script`, `run_script`, `take_line`.
use Rattle.std.proofs.Common.{◌≡◌, ◌||◌, ℕ, Bool, true, false, List, [], ◌∷◌, ◌++◌, Option}
use Rattle.std.proofs.Common.{Some, None, Result, Ok, Err, inl, inr, refl, sym, ap, subst, ◌∙◌}
use Rattle.std.proofs.Common.{append_assoc, append-nil, arith}
use Rattle.std.specs.List.{list_any}
use Rattle.std.specs.Option.{IfSome}
use Rattle.std.proofs.lemmas.List.Folds.{list_any-append}
use Rattle.std.proofs.lemmas.Grind.{flat_map-append}
use Rattle.std.proofs.KnownBytes.{Appends-nil, Appends-trans, Appends-kept, Keeps-refl}
use Rattle.std.specs.Io.KnownBytes.{Appends, Keeps}
use Rattle.cm_disk.specs.Disk.{View}
use Rattle.cm_pool.specs.Geometry.{Sizes}
use Rattle.cm_guards.specs.Calls.{LeavesOnly}
use Rattle.cm_commands.specs.Machine.{Base, Machine, machine_from}
use Rattle.cm_session.specs.declared.session.Session.{Session}
use Rattle.cm_session.specs.Moves.{SessionMatches}
use Rattle.cm_lines.specs.declared.fault.LineFault.{LineFault}
use Rattle.cm_lines.specs.declared.fault.LineFault.TheVariants as fault
use Rattle.cm_lines.specs.declared.line_buffer.LineBuffer.{LineBuffer}
use Rattle.cm_lines.specs.Lines.{lines_of, asked_by}
use Rattle.cm_lines.specs.Streams.{io, TakesLines, HasNoLine, ScriptBegins, ReadsLine}
use Rattle.cm_lines.specs.Streams.{WritesPart}
use Rattle.cm_tool.specs.declared.reply.ReplyKind.{ReplyKind}
use Rattle.cm_tool.specs.declared.reply.Reply.{Reply}
use Rattle.cm_tool.specs.Texts.{ReplyText}
use Rattle.cm_tool.specs.Replies.{is_refused, is_unsure, reply_line, reply_lines}
use Rattle.cm_tool.specs.declared.script.Outcome.{Outcome}
use Rattle.cm_tool.specs.Answers.{Served, served, Pause, pause}
use Rattle.cm_tool.specs.Answers.{StandsBetween, RunsLine, AnswersEach, EndsUnsure}
use Rattle.cm_tool.specs.Serving.{IsReady, ReachesServed, Progresses, Replies}
use Rattle.cm_tool.specs.Runs.{Turned, HasEnded, BreaksIn, BreaksBefore}
use Rattle.cm_tool.specs.Runs.{RunBreaks, TakesTurn, IsAnswered, EndsEarly, EndsBefore, EndsIn}
use Rattle.cm_tool.specs.Runs.{Ends, IsRun}

-- ---- lines

takes_none : (a : Option (List ℕ)) → TakesLines a a []
takes_none None = tt
takes_none (Some script) = refl

takes_more : (a b c : Option (List ℕ)) (lines more : List (List ℕ)) → TakesLines a b lines
    → TakesLines b c more → TakesLines a c (lines ++ more)
takes_more None b c lines more p q = tt
takes_more (Some x) None c lines more p q = absurd p
takes_more (Some x) (Some y) None lines more p q = absurd q
takes_more (Some x) (Some y) (Some z) lines more p q =
    p ∙ ap (λ l. lines ++ l) q ∙ sym (append_assoc lines more (lines_of z))

takes_all : (a b : Option (List ℕ)) (lines : List (List ℕ)) → TakesLines a b lines → HasNoLine b
    → IfSome a (λ text. lines ≡ lines_of text)
takes_all None b lines p none = tt
takes_all (Some x) None lines p none = absurd p
takes_all (Some x) (Some y) lines p none = sym (p ∙ ap (λ l. lines ++ l) none ∙ append-nil lines)

begins_with : (a b : Option (List ℕ)) (lines : List (List ℕ)) → TakesLines a b lines
    → ScriptBegins a lines
begins_with None b lines p = tt
begins_with (Some x) None lines p = absurd p
begins_with (Some x) (Some y) lines p = (lines_of y, p)

begins_more : (a b : Option (List ℕ)) (lines more : List (List ℕ)) → TakesLines a b lines
    → ScriptBegins b more → ScriptBegins a (lines ++ more)
begins_more None b lines more p q = tt
begins_more (Some x) None lines more p q = absurd p
begins_more (Some x) (Some y) lines more p q =
    (q.0, p ∙ ap (λ l. lines ++ l) q.1 ∙ sym (append_assoc lines more q.0))

-- the lines after those that were taken
behind : Option (List ℕ) → List (List ℕ)
behind None = []
behind (Some script) = lines_of script

all_lines : (a b : Option (List ℕ)) (lines : List (List ℕ)) → TakesLines a b lines
    → IfSome a (λ text. lines ++ behind b ≡ lines_of text)
unfolding behind
all_lines None b lines p = tt
all_lines (Some x) None lines p = absurd p
all_lines (Some x) (Some y) lines p = sym p

-- ---- replies

module _ {D : Type 0} (Leaves : D → D → (List ℕ → Type 0) → Type 0) (sizes : Sizes) where
  answered_more : (lines : List (List ℕ)) (replies : List ReplyText) (a b c : Pause D)
      (line : List ℕ) (given : ReplyText)
      → AnswersEach Leaves sizes lines a replies b → RunsLine Leaves sizes line b given c
      → is_unsure given.kind ≡ false
      → AnswersEach Leaves sizes (lines ++ line ∷ []) a (replies ++ given ∷ []) c
  answered_more [] [] a b c line given each runs sure =
      (c, subst (λ s. RunsLine Leaves sizes line s given c) each runs, sure, refl)
  answered_more [] (first ∷ replies) a b c line given each runs sure = absurd each
  answered_more (next ∷ lines) [] a b c line given each runs sure = absurd each
  answered_more (next ∷ lines) (first ∷ replies) a b c line given each runs sure = (
    each.0,
    each.1,
    each.2,
    answered_more lines replies each.0 b c line given each.3 runs sure,
  )

  none_unsure : (lines : List (List ℕ)) (replies : List ReplyText) (a b : Pause D)
      → AnswersEach Leaves sizes lines a replies b
      → list_any (λ given. is_unsure given.kind) replies ≡ false
  none_unsure [] [] a b each = refl
  none_unsure [] (first ∷ replies) a b each = absurd each
  none_unsure (next ∷ lines) [] a b each = absurd each
  none_unsure (next ∷ lines) (first ∷ replies) a b each =
      ap (λ t. t || list_any (λ given. is_unsure given.kind) replies) each.2
      ∙ none_unsure lines replies each.0 b each.3

written_lines : (replies : List ReplyText) (given : ReplyText)
    → reply_lines (replies ++ given ∷ []) ≡ reply_lines replies ++ reply_line given
written_lines replies given =
    flat_map-append reply_line replies (given ∷ []) ∙ ap (λ l. reply_lines replies ++ l)
    (append-nil (reply_line given))

-- one more reply passes the test or not
any_more : (test : ReplyText → Bool) (replies : List ReplyText) (given : ReplyText)
    (so now one : Bool) → so ≡ list_any test replies → one ≡ test given → now ≡ (so || one)
    → now ≡ list_any test (replies ++ given ∷ [])
any_more test replies given so now one p q r =
    r ∙ ap (λ t. t || one) p ∙ ap (λ t. list_any test replies || t)
    (q ∙ sym (or_false (test given))) ∙ sym (list_any-append test replies (given ∷ []))
  where
    or_false : (t : Bool) → (t || false) ≡ t
    or_false true = refl
    or_false false = refl

-- ---- a run so far

pub record SoFar {D : Type 0} (Leaves : D → D → (List ℕ → Type 0) → Type 0) (sizes : Sizes)
    (script now held holds : Option (List ℕ)) (outcome : Outcome) (first between : Pause D)
    : Type 0 where
  pub lines : List (List ℕ)
  pub replies : List ReplyText
  pub taken : TakesLines script now lines
  pub answered : AnswersEach Leaves sizes lines first replies between
  pub written : Appends held holds (reply_lines replies)
  pub refused : outcome.refused ≡ list_any (λ given. is_refused given.kind) replies
  pub unsure : outcome.unsure ≡ list_any (λ given. is_unsure given.kind) replies
  pub ready : IsReady between.served.machine

-- the outcome with one more reply
pub record IsAfter (old : Outcome) (k : ReplyKind) (new : Outcome) : Type 0 where
  pub refused : new.refused ≡ (old.refused || is_refused k)
  pub unsure : new.unsure ≡ (old.unsure || is_unsure k)

is_sure : (so one now : Bool) → now ≡ (so || one) → now ≡ false → one ≡ false
is_sure true one now p q = absurd (cc)
is_sure false one now p q = sym p ∙ q

is_lost : (so one now : Bool) → so ≡ false → now ≡ (so || one) → now ≡ true → one ≡ true
is_lost true one now e p q = absurd (cc)
is_lost false one now e p q = sym p ∙ q

written_more : (h k m : Option (List ℕ)) (replies : List ReplyText) (given : ReplyText)
    → Appends h k (reply_lines replies) → Appends k m (reply_line given)
    → Appends h m (reply_lines (replies ++ given ∷ []))
written_more h k m replies given p q =
    subst (Appends h m) (sym (written_lines replies given))
    (Appends-trans h k m (reply_lines replies) (reply_line given) p q)

module _ {D : Type 0} (Leaves : D → D → (List ℕ → Type 0) → Type 0) (sizes : Sizes) where
  run_start : (a h : Option (List ℕ)) (s : Pause D) (o : Outcome)
      → o.refused ≡ false → o.unsure ≡ false → IsReady s.served.machine
      → SoFar Leaves sizes a a h h o s s
  run_start a h s o p q ready =
      record {
        lines =
            [];
        replies =
            [];
        taken = takes_none a;
        answered =
            refl;
        written = Appends-nil h;
        refused = p;
        unsure = q;
        ready = ready;
      }

module _ {D : Type 0} (Leaves : D → D → (List ℕ → Type 0) → Type 0) (sizes : Sizes)
    (a b c h k m : Option (List ℕ)) (s t u : Pause D) (o n : Outcome) (kind : ReplyKind)
    (so : SoFar Leaves sizes a b h k o s t)
    (turned : Turned sizes c (io b k m) kind t.served u.served)
    (moments : Leaves t.disk u.disk (StandsBetween sizes t.served.machine u.served.machine))
    (after : IsAfter o kind n) where
  abbrev given : ReplyText
  given = turned.given

  abbrev runs : RunsLine Leaves sizes turned.line t given u
  runs = record { answer = turned.answer; moments = moments }

  refused_now : n.refused ≡ list_any (λ r. is_refused r.kind) (so.replies ++ given ∷ [])
  refused_now =
      any_more (λ (r : ReplyText). is_refused r.kind) so.replies given o.refused n.refused
      (is_refused kind) so.refused (ap is_refused turned.kind) after.refused

  unsure_now : n.unsure ≡ list_any (λ r. is_unsure r.kind) (so.replies ++ given ∷ [])
  unsure_now =
      any_more (λ (r : ReplyText). is_unsure r.kind) so.replies given o.unsure n.unsure
      (is_unsure kind) so.unsure (ap is_unsure turned.kind) after.unsure

  taken_now : TakesLines a c (so.lines ++ turned.line ∷ [])
  taken_now = takes_more a b c so.lines (turned.line ∷ []) so.taken turned.taken

  run_more : n.unsure ≡ false → SoFar Leaves sizes a c h m n s u
  run_more sure =
      let fine = sym (ap is_unsure turned.kind)
      ∙ is_sure o.unsure (is_unsure kind) n.unsure after.unsure sure in
      record {
        lines = so.lines ++ turned.line ∷ [];
        replies = so.replies ++ given ∷ [];
        taken = taken_now;
        answered =
            answered_more Leaves sizes so.lines so.replies s t u turned.line given so.answered
            runs fine;
        written = written_more h k m so.replies given so.written turned.written;
        refused = refused_now;
        unsure = unsure_now;
        ready = record { rest = turned.rest_is; works = turned.works fine };
      }

  ends_unsure : n.unsure ≡ true
      → EndsUnsure Leaves sizes (so.lines ++ turned.line ∷ behind c) s (so.replies ++ given ∷ []) u
  ends_unsure lost =
      let working = so.unsure ∙ none_unsure Leaves sizes so.lines so.replies s t so.answered in
      record {
        before = so.lines;
        line = turned.line;
        behind = behind c;
        lines_are = refl;
        earlier = so.replies;
        last = given;
        replies_are = refl;
        between = t;
        answered = so.answered;
        runs = runs;
        unsure = sym (ap is_unsure turned.kind)
            ∙ is_lost o.unsure (is_unsure kind) n.unsure working after.unsure lost;
      }

  run_lost : n.unsure ≡ true → IsAnswered Leaves sizes (io a h m) n s u
  run_lost lost =
      record {
        lines = so.lines ++ turned.line ∷ behind c;
        lines_are = subst (λ l. IfSome a (λ text. l ≡ lines_of text))
            (append_assoc so.lines (turned.line ∷ []) (behind c))
            (all_lines a c (so.lines ++ turned.line ∷ []) taken_now);
        replies = so.replies ++ given ∷ [];
        answers = inr (ends_unsure lost);
        written = written_more h k m so.replies given so.written turned.written;
        refused = refused_now;
        unsure = unsure_now;
        rest = turned.rest_is;
      }

module _ {D : Type 0} (Leaves : D → D → (List ℕ → Type 0) → Type 0) (sizes : Sizes)
    (a b h k m : Option (List ℕ)) (s t u : Pause D) (o : Outcome)
    (so : SoFar Leaves sizes a b h k o s t) where
  run_end : HasEnded (io b k m) t u → IsAnswered Leaves sizes (io a h m) o s u
  run_end ended =
      record {
        lines = so.lines;
        lines_are = takes_all a b so.lines so.taken ended.none;
        replies = so.replies;
        answers = inl (subst (AnswersEach Leaves sizes so.lines s so.replies) (sym ended.same)
            so.answered);
        written = Appends-kept h k m (reply_lines so.replies) so.written ended.nothing;
        refused = so.refused;
        unsure = so.unsure;
        rest = (subst (λ (v : Pause D). IsReady v.served.machine) (sym ended.same) so.ready).rest;
      }

  early : BreaksBefore (io b k m) t.served u.served
      → EndsBefore (io a h m) so.replies t.served u.served
  early breaks =
      record {
        same =
            breaks.same;
        written = Appends-kept h k m (reply_lines so.replies) so.written breaks.nothing;
      }

  late : BreaksIn sizes (io b k m) t.served u.served
      → EndsIn sizes (io a h m) so.lines so.replies t.served u.served
  late breaks =
      let w = breaks.written in
      record {
        line = breaks.line;
        begins = begins_more a b so.lines (breaks.line ∷ []) so.taken breaks.next;
        given = breaks.given;
        answer = breaks.answer;
        part = w.part;
        rest = w.rest;
        whole = w.whole;
        written = Appends-trans h k m (reply_lines so.replies) w.part so.written w.written;
      }

  broken : (e : LineFault) → RunBreaks sizes e (io b k m) t.served u.served
      → Ends sizes e (io a h m) so.lines so.replies t.served u.served
  unfolding late
  broken fault.Input breaks = early breaks
  broken fault.Output breaks = late breaks
  broken fault.NoMemory (inl breaks) = inl (early breaks)
  broken fault.NoMemory (inr breaks) = inr (late breaks.0, breaks.1)

  run_broken : (e : LineFault) → RunBreaks sizes e (io b k m) t.served u.served
      → Leaves t.disk u.disk (StandsBetween sizes t.served.machine u.served.machine)
      → EndsEarly Leaves sizes (io a h m) e s u
  run_broken e breaks moments =
      record {
        lines = so.lines;
        begins = begins_with a b so.lines so.taken;
        replies = so.replies;
        between = t;
        answered = so.answered;
        ends = broken e breaks;
        moments = moments;
      }

-- a cache that was just opened
pub ready_from : (base : Base) → IsReady (machine_from base)
ready_from base = record {
  rest = record {
    noticed = refl;
    sealed = λ works. omega (arith);
    stored = λ works. omega (arith);
  };
  works = refl;
}

-- ---- the session that a run leads from machine to machine

-- a line leads from one machine to the next, and at each moment of it a crash left what it may
pub record Went {D : Type 0} (Leaves : D → D → (List ℕ → Type 0) → Type 0) (sizes : Sizes)
    (d e : D) (Next : Machine → Type 0) (j next : Machine) : Type 0 where
  pub matches : Next next
  pub moments : Leaves d e (StandsBetween sizes j next)

pub went : {D : Type 0} {Does : Served → Type 0} (view : View D) (now : ℕ) (k : Machine)
    (old new : Session D)
    → ReachesServed Does now (Progresses view k old new)
    → ReachesServed Does now (Went (LeavesOnly view) old.committer.sizes old.committer.disk
    new.committer.disk (λ next. SessionMatches next new) k)
went view now k old new led = record {
  next = led.next;
  does = led.does;
  matches = record { matches = led.matches.matches; moments = led.matches.moments };
}

module _ {D : Type 0} (Leaves : D → D → (List ℕ → Type 0) → Type 0) (sizes : Sizes)
    (a b c h k m : Option (List ℕ)) (first : Pause D) (o : Outcome) (f now : ℕ) (d e : D)
    (Matching Next : Machine → Type 0)
    (so : ReachesServed (λ s. SoFar Leaves sizes a b h k o first (pause s d)) f Matching) where
  -- the result of a line, from whichever machine
  abbrev LedBy : Result (Option ReplyKind) LineFault → Type 0
  LedBy result =
      (j : Machine) → Matching j → IsReady j
      → ReachesServed (λ s. TakesTurn sizes c (io b k m) result (pause (served j f) d) (pause s e))
      now
      (Went Leaves sizes d e Next j)

  pub lines_more : (n : Outcome) (kind : ReplyKind) → LedBy (Ok (Some kind)) → IsAfter o kind n
      → n.unsure ≡ false
      → ReachesServed (λ s. SoFar Leaves sizes a c h m n first (pause s e)) now Next
  lines_more n kind turn after sure =
      let t = turn so.next so.matches so.does.ready in
      record {
        next = t.next;
        does = run_more Leaves sizes a b c h k m first (pause (served so.next f) d)
            (pause (served t.next now) e) o n kind so.does t.does t.matches.moments after sure;
        matches = t.matches.matches;
      }

  pub lines_lost : (n : Outcome) (kind : ReplyKind) → LedBy (Ok (Some kind)) → IsAfter o kind n
      → n.unsure ≡ true
      → ReachesServed (λ s. IsRun Leaves sizes (io a h m) (Ok n) first (pause s e)) now Next
  lines_lost n kind turn after lost =
      let t = turn so.next so.matches so.does.ready in
      record {
        next = t.next;
        does = run_lost Leaves sizes a b c h k m first (pause (served so.next f) d)
            (pause (served t.next now) e) o n kind so.does t.does t.matches.moments after lost;
        matches = t.matches.matches;
      }

  pub lines_end : LedBy (Ok None)
      → ReachesServed (λ s. IsRun Leaves sizes (io a h m) (Ok o) first (pause s e)) now Next
  lines_end turn =
      let t = turn so.next so.matches so.does.ready in
      record {
        next = t.next;
        does = run_end Leaves sizes a b h k m first (pause (served so.next f) d)
            (pause (served t.next now) e) o so.does t.does;
        matches = t.matches.matches;
      }

  pub lines_broken : (x : LineFault) → LedBy (Err x)
      → ReachesServed (λ s. IsRun Leaves sizes (io a h m) (Err x) first (pause s e)) now Next
  lines_broken x turn =
      let t = turn so.next so.matches so.does.ready in
      record {
        next = t.next;
        does = run_broken Leaves sizes a b h k m first (pause (served so.next f) d)
            (pause (served t.next now) e) o so.does x t.does t.matches.moments;
        matches = t.matches.matches;
      }

module _ {D : Type 0} (Leaves : D → D → (List ℕ → Type 0) → Type 0) (sizes : Sizes) where
  pub lines_start : (a h : Option (List ℕ)) (k : Machine) (f : ℕ) (d : D) (o : Outcome)
      (Matching : Machine → Type 0) → o.refused ≡ false → o.unsure ≡ false → IsReady k → Matching k
      → ReachesServed (λ s. SoFar Leaves sizes a a h h o (pause (served k f) d) (pause s d)) f
      Matching
  lines_start a h k f d o Matching p q ready matches = record {
    next = k;
    does = run_start Leaves sizes a h (pause (served k f) d) o p q ready;
    matches = matches;
  }

  -- the run ended early
  pub lines_given_up : (a b h k : Option (List ℕ)) (first : Pause D) (o : Outcome) (f : ℕ) (d : D)
      (Matching : Machine → Type 0)
      → ((j : Machine) → Matching j → Leaves d d (StandsBetween sizes j j))
      → ReachesServed (λ s. SoFar Leaves sizes a b h k o first (pause s d)) f Matching
      → ReachesServed (λ s. IsRun Leaves sizes (io a h k) (Err fault.Input) first (pause s d)) f
      Matching
  lines_given_up a b h k first o f d Matching still so = record {
    next = so.next;
    does = run_broken Leaves sizes a b h k k first (pause (served so.next f) d)
        (pause (served so.next f) d) o so.does fault.Input
        (record { same = refl; nothing = Keeps-refl k }) (still so.next so.matches);
    matches = so.matches;
  }

-- ---- one line

-- the reader failed, or an allocation did
pub unread : (sizes : Sizes) (a h : Option (List ℕ)) (s : Served) (e : LineFault)
    → (e ≡ fault.Output → ⊥) → RunBreaks sizes e (io a h h) s s
unread sizes a h s fault.Input never = record { same = refl; nothing = Keeps-refl h }
unread sizes a h s fault.Output never = absurd (never refl)
unread sizes a h s fault.NoMemory never = inl (record { same = refl; nothing = Keeps-refl h })

-- the allocation for the reply failed
unmade : {E : Type 0} (sizes : Sizes) (a b h : Option (List ℕ)) (s u : Served) (line : List ℕ)
    (e : E) → TakesLines a b (line ∷ []) → Replies sizes (asked_by line) (Err e) s u
    → RunBreaks sizes fault.NoMemory (io a h h) s u
unmade sizes a b h s u line e taken (inl same) =
    inl (record { same = same; nothing = Keeps-refl h })
unmade sizes a b h s u line e taken (inr answered) =
    let cut : BreaksIn sizes (io a h h) s u = record {
      line = line;
      given = answered.0;
      next = begins_with a b (line ∷ []) taken;
      answer = answered.1;
      written = record {
        part =
            [];
        rest = reply_line answered.0;
        whole = refl;
        written = Appends-nil h;
      };
    } in
    inr (cut, refl)

-- what is read once the reader was looked at is what it had left before
pub looked_first : (a b c : Option (List ℕ)) (buffer : LineBuffer) (some : Bool) → Keeps a b
    → ReadsLine b c buffer some → ReadsLine a c buffer some
looked_first None b c buffer true keeps read = (read.0, tt, read.2)
looked_first None b c buffer false keeps read = tt
looked_first (Some x) None c buffer some keeps read = absurd keeps
looked_first (Some x) (Some y) c buffer some keeps read =
    subst (λ (z : List ℕ). ReadsLine (Some z) c buffer some) keeps read

module _ {D : Type 0} (sizes : Sizes) (a b h : Option (List ℕ)) (old : Served) (now : ℕ)
    (d e : D) (Matching : Machine → Type 0) (line : List ℕ) (taken : TakesLines a b (line ∷ []))
  where
    -- what is replied to the line
    abbrev pub LineReplies : {E : Type 0} → Result Reply E → Type 0
    LineReplies result =
        ReachesServed (Replies sizes (asked_by line) result old) now Matching

    pub line_unmade : {E : Type 0} (x : E) → LineReplies {E = E} (Err x)
        → ReachesServed (λ s. TakesTurn sizes b (io a h h) (Err fault.NoMemory) (pause old d)
        (pause s e)) now
        Matching
    line_unmade x led = record {
      next = led.next;
      does = unmade sizes a b h old (served led.next now) line x taken led.does;
      matches = led.matches;
    }

    pub line_answered : (E : Type 0) (m : Option (List ℕ)) (reply : Reply)
        → LineReplies {E = E} (Ok reply)
        → Appends h m reply.line.items
        → ReachesServed (λ s. TakesTurn sizes b (io a h m) (Ok (Some reply.kind)) (pause old d)
        (pause s e)) now
        Matching
    line_answered E m reply led written =
        let r = led.does in
        record {
          next = led.next;
          does = record {
            line = line;
            given = r.0;
            taken = taken;
            answer = r.2;
            kind = r.1.kind;
            written = subst (Appends h m) r.1.line written;
            rest_is = r.3.rest;
            works = r.3.works;
          };
          matches = led.matches;
        }

    pub line_unwritten : (E : Type 0) (m : Option (List ℕ)) (reply : Reply)
        → LineReplies {E = E} (Ok reply)
        → WritesPart h m reply.line.items
        → ReachesServed (λ s. TakesTurn sizes b (io a h m) (Err fault.Output) (pause old d)
        (pause s e)) now Matching
    line_unwritten E m reply led written =
        let r = led.does in
        record {
          next = led.next;
          does = record {
            line = line;
            given = r.0;
            next = begins_with a b (line ∷ []) taken;
            answer = r.2;
            written = subst (WritesPart h m) r.1.line written;
          };
          matches = led.matches;
        }
