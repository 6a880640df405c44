-- From a session's result for a command to the reply.
-- For `change`, `answer`, `define` and others.
use Rattle.std.proofs.Common.{◌≡◌, ◌≤◌, ◌⊎◌, ℕ, true, false, List, length, Option, Some, None}
use Rattle.std.proofs.Common.{Result, Ok, Err, IfOk, OnOk, inl, inr, refl, sym, ap, subst, ◌∙◌}
use Rattle.std.proofs.Common.{take}
use Rattle.hex.specs.Hex.{decode_of}
use Rattle.hex.specs.declared.error.FromHexError.{FromHexError}
use Rattle.cm_disk.specs.Disk.{View}
use Rattle.cm_class.specs.declared.class_file.ClassFile.{ClassFile}
use Rattle.cm_class.specs.Spelling.{HasSpelling}
use Rattle.cm_pool.specs.Geometry.{Sizes}
use Rattle.cm_guards.specs.Calls.{LeavesOnly}
use Rattle.cm_record.specs.Layout.{lay, limit, IsRecord, IsRecordOf}
use Rattle.cm_record.specs.Names.{class_name_of, class_name_in}
use Rattle.cm_rules.specs.Answer.{SpellsRightClass}
use Rattle.cm_state.specs.Step.{Change, AddLoader, Define, Unload, Tighten, UnloadAll}
use Rattle.cm_commands.specs.declared.refusal.Refusal.{Refusal}
use Rattle.cm_commands.specs.declared.refusal.Refusal.TheVariants as refusal
use Rattle.cm_commands.specs.Prepare.{IsRefusedBytes}
use Rattle.cm_commands.specs.Names.{names_kept}
use Rattle.cm_commands.specs.Machine.{Machine, Asks, Refuses}
use Rattle.cm_handover.specs.Laws.{Finds}
use Rattle.cm_session.specs.declared.session.Session.{Session}
use Rattle.cm_session.specs.declared.storing.NotStored.{NotStored}
use Rattle.cm_session.specs.declared.storing.NotStored.TheVariants.{Refused, Unsure}
use Rattle.cm_session.specs.Moves.{SessionMatches}
use Rattle.cm_session.specs.Storing.{Storing, Stores, FailsOnly, MakesNoCall}
use Rattle.cm_lines.specs.Escapes.{unescaped}
use Rattle.cm_lines.specs.Lines.{Asked, AsksLoader, AsksUnload, AsksTighten, AsksDefine, AsksFind}
use Rattle.cm_lines.specs.Lines.{AsksUnloadAll}
use Rattle.cm_tool.specs.declared.ahead.LineClass.TheVariants as line_class
use Rattle.cm_tool.specs.declared.reply.Reply.{Reply}
use Rattle.cm_tool.specs.Texts.{ReplyText, number_reply, defined_reply, none_reply, class_reply}
use Rattle.cm_tool.specs.Texts.{refusal_reply, unsure_reply, bad_line_reply}
use Rattle.cm_tool.specs.Replies.{IsReply}
use Rattle.cm_tool.specs.Answers.{Served, served, AnswersCommand, AnswersAsked, AnswersDefine}
use Rattle.cm_tool.specs.Answers.{AnswersFind}
use Rattle.cm_tool.specs.Ahead.{IsClassOf}
use Rattle.cm_tool.specs.Serving.{IsReady, ReachesServed, MayProgress, RestsAfter, IsAskedBy}
use Rattle.cm_tool.specs.Serving.{Replies, ReportsStored}
use Rattle.cm_tool.proofs.Moments.{stored_goes_on}

-- ---- lines that change nothing

-- a reply that changes nothing
pub replies_same : {E : Type 0} (sizes : Sizes) (request : Option Asked) (k : Machine)
    (failures : ℕ) (given : ReplyText) (result : Result Reply E)
    → IsReady k → IfOk result (IsReply given)
    → AnswersAsked sizes request (served k failures) given (served k failures)
    → Replies sizes request result (served k failures) (served k failures)
replies_same sizes request k failures given (Ok reply) ready says answers =
    (given, says, answers, record { rest = ready.rest; works = λ sure. ready.works })
replies_same sizes request k failures given (Err e) ready says answers = inl refl

-- the session stays with its machine
pub stays : {Does : Served → Type 0} {Matching : Machine → Type 0} (k : Machine) (failures : ℕ)
    → Does (served k failures) → Matching k → ReachesServed Does failures Matching
stays k failures does matches = record { next = k; does = does; matches = matches }

-- ---- commands

-- a request requests the changes that a command requests, and has their replies
abbrev pub Fits : Sizes → Option Asked → (ℕ → ReplyText) → Change (List ℕ) → Type 0
Fits sizes request told asked =
    (change : Change ClassFile) → Asks asked change → (old : Served) (given : ReplyText)
    (new : Served) → AnswersCommand sizes change told old given new
    → AnswersAsked sizes request old given new

-- the one change that a command requests, if the reply is its number
of_one : (sizes : Sizes) (request : Asked) (asked : Change (List ℕ)) (one : Change ClassFile)
    → ((change : Change ClassFile) → Asks asked change → change ≡ one)
    → ((old : Served) (given : ReplyText) (new : Served)
    → AnswersCommand sizes one number_reply old given new
    → AnswersAsked sizes (Some request) old given new)
    → Fits sizes (Some request) number_reply asked
of_one sizes request asked one only answers change asks old given new h =
    answers old given new
    (subst (λ (d : Change ClassFile). AnswersCommand sizes d number_reply old given new)
    (only change asks) h)

-- a request for a command has the command's number as its reply
pub number_fits : (sizes : Sizes) (request : Asked) (asked : Change (List ℕ))
    → IsAskedBy request asked → Fits sizes (Some request) number_reply asked
number_fits sizes (AsksLoader name) asked is =
    subst (Fits sizes (Some (AsksLoader name)) number_reply) (sym is)
    (of_one sizes (AsksLoader name) (AddLoader name) (AddLoader name) (λ change asks. asks)
    (λ old given new h. h))
number_fits sizes (AsksUnload name) asked is =
    subst (Fits sizes (Some (AsksUnload name)) number_reply) (sym is)
    (of_one sizes (AsksUnload name) (Unload name) (Unload name) (λ change asks. asks)
    (λ old given new h. h))
number_fits sizes (AsksTighten name) asked is =
    subst (Fits sizes (Some (AsksTighten name)) number_reply) (sym is)
    (of_one sizes (AsksTighten name) (Tighten name) (Tighten name) (λ change asks. asks)
    (λ old given new h. h))
number_fits sizes (AsksUnloadAll names) asked is =
    let kept = take names_kept names in
    subst (Fits sizes (Some (AsksUnloadAll names)) number_reply) (sym is)
    (of_one sizes (AsksUnloadAll names) (UnloadAll kept) (UnloadAll kept) (λ change asks. asks)
    (λ old given new h. h))
number_fits sizes (AsksDefine loader digits) asked is = absurd is
number_fits sizes (AsksFind loader class) asked is = absurd is

-- no two classes have one layout
abbrev pub LayIsOne : Type 0
LayIsOne = (c d : ClassFile) → HasSpelling c → HasSpelling d → lay c ≡ lay d → c ≡ d

module _ (one : LayIsOne) (sizes : Sizes) (loader digits bytes words name : List ℕ) (c : ClassFile)
    (decoded : decode_of digits ≡ Ok bytes) (right : SpellsRightClass bytes c) (words_are : words
    ≡ lay c)
    (name_is : length (lay c) ≤ limit → name ≡ class_name_of c) where
  -- the requested class is that of the bytes
  its_class : (d : ClassFile) → HasSpelling d → lay d ≡ words → d ≡ c
  its_class d spelled laid = one d c spelled right.spelled.fits (laid ∙ words_are)

  its_change : (change : Change ClassFile) → Asks (Define loader words) change
      → change ≡ Define loader c
  its_change change asks =
      asks.3 ∙ ap (λ (d : ClassFile). Define loader d)
      (its_class asks.0 asks.1.kept.spelled asks.2)

  its_length : (change : Change ClassFile) → Asks (Define loader words) change
      → length (lay c) ≤ limit
  its_length change asks =
      subst (λ (d : ClassFile). length (lay d) ≤ limit)
      (its_class asks.0 asks.1.kept.spelled asks.2) asks.1.short

  pub define_fits : Fits sizes (Some (AsksDefine loader digits)) (λ n. defined_reply n name)
      (Define loader words)
  define_fits change asks old given new h =
      subst (λ r. AnswersDefine sizes loader r old given new) (sym decoded)
      (inr (record {
        c = c;
        right = right;
        short = its_length change asks;
        answer = subst
            (λ (x : List ℕ). AnswersCommand sizes (Define loader c) (λ n. defined_reply n x) old
            given new) (name_is (its_length change asks))
            (subst (λ (d : Change ClassFile).
            AnswersCommand sizes d (λ n. defined_reply n name) old given new)
            (its_change change asks) h);
      }))

-- a record's words give the name of its class
abbrev pub TellName : Type 0
TellName =
    (c : ClassFile) (words : List ℕ) → IsRecordOf c words → class_name_in words ≡ class_name_of c

pub class_named : (bytes words : List ℕ) (c : ClassFile) → TellName → SpellsRightClass bytes c
    → words ≡ lay c
    → length (lay c) ≤ limit → class_name_in words ≡ class_name_of c
class_named bytes words c tell right laid short =
    tell c words (record {
      spelled = right.spelled.fits;
      laid = laid;
      short = subst (λ (w : List ℕ). length w ≤ limit) (sym laid) short;
    })

-- bytes that are no class
pub answers_fault : (sizes : Sizes) (loader digits bytes : List ℕ) (refusal : Refusal)
    (old : Served)
    → decode_of digits ≡ Ok bytes → IsRefusedBytes bytes refusal
    → AnswersAsked sizes (Some (AsksDefine loader digits)) old (refusal_reply refusal) old
answers_fault sizes loader digits bytes refusal old decoded refused =
    subst (λ r. AnswersDefine sizes loader r old (refusal_reply refusal) old) (sym decoded)
    (inl (record { refusal = refusal; refused = refused; reply = refl; same = refl }))

-- digits that stand for no bytes
pub answers_bad_digits : (sizes : Sizes) (loader digits : List ℕ) (e : FromHexError) (old : Served)
    → decode_of digits ≡ Err e
    → AnswersAsked sizes (Some (AsksDefine loader digits)) old bad_line_reply old
answers_bad_digits sizes loader digits e old decoded =
    subst (λ r. AnswersDefine sizes loader r old bad_line_reply old) (sym decoded) (refl, refl)

-- digits that stand for no class which can be defined
pub answers_refused : (sizes : Sizes) (loader digits : List ℕ) (refusal : Refusal) (old : Served)
    → IsClassOf (decode_of digits) (line_class.Refused refusal)
    → AnswersAsked sizes (Some (AsksDefine loader digits)) old (refusal_reply refusal) old
answers_refused sizes loader digits refusal old (inl p) =
    answers_fault sizes loader digits p.0 refusal old p.1 p.2
answers_refused sizes loader digits refusal old (inr p) =
    subst (λ (r : Refusal). AnswersAsked sizes (Some (AsksDefine loader digits)) old
    (refusal_reply r) old) (sym p.2) (answers_bad_digits sizes loader digits p.0 old p.1)

-- ---- a command that is stored

module _ (sizes : Sizes) (request : Option Asked) (told : ℕ → ReplyText) (k : Machine)
    (asked : Change (List ℕ)) (Moments : (List ℕ → Type 0) → Type 0) (before now : ℕ)
    (ready : IsReady k) (fits : Fits sizes request told asked) (change : Change ClassFile)
    (asks : Asks asked change) (next : Machine) where
  abbrev old : Served
  old = served k before

  abbrev new : Served
  new = served next now

  -- the reply, unless an allocation for it failed
  replied : {E : Type 0} (given : ReplyText) (result : Result Reply E) → IfOk result (IsReply given)
      → AnswersCommand sizes change told old given new → RestsAfter given next
      → Replies sizes request result old new
  replied given (Ok reply) says h left =
      (given, says, fits change asks old given new h, left)
  replied given (Err e) says h left = inr (given, fits change asks old given new h)

  was_stored : {E : Type 0} (number : ℕ) (result : Result Reply E)
      → Stores sizes k change Moments (Ok number) next
      → FailsOnly before now (Ok number) → ReportsStored told (Ok number) result
      → Replies sizes request result old new
  was_stored number result s fails says =
      let hands = s.1 in
      let machine_is = s.2 ∙ ap (λ (m : Machine). record m { acknowledged = number })
      hands.handed_is in
      let works = ap (λ (m : Machine). m.failed) machine_is
      ∙ ap (λ (m : Machine). m.failed) hands.answers.1.next_is ∙ ready.works in
      replied (told number) result says
      (inl (record {
        number = number;
        accepted = hands.accepted;
        accepts = hands.answers.1;
        reply = refl;
        machine_is = machine_is;
        failures = fails.later;
      }))
      (record { rest = s.3; works = λ sure. works })

  was_refused : {E : Type 0} (r : Refusal) (result : Result Reply E)
      → Stores sizes k change Moments (Err (Refused r)) next
      → now ≡ before → ReportsStored told (Err (Refused r)) result
      → Replies sizes request result old new
  was_refused r result s same says = by s.0.1
    where
      by : ((k.noticed ≡ true) × (r ≡ refusal.Broken))
          ⊎ ((k.noticed ≡ false) × Refuses sizes k change r)
          → Replies sizes request result old new
      by (inl noticed) =
          let no = sym noticed.0 ∙ ready.rest.noticed ∙ ready.works in absurd (cc)
      by (inr refuses) =
          replied (refusal_reply r) result says
          (inr (inl (record {
            refusal = r;
            refuses = refuses.1;
            reply = refl;
            same = ap (λ (m : Machine). served m now) s.0.0 ∙ ap (λ (f : ℕ). served k f) same;
          })))
          (record {
            rest = s.1;
            works = λ sure. ap (λ (m : Machine). m.failed) s.0.0 ∙ ready.works;
          })

  was_lost : {E : Type 0} (number : ℕ) (result : Result Reply E)
      → Stores sizes k change Moments (Err (Unsure number)) next
      → FailsOnly before now (Err (Unsure number)) → ReportsStored told (Err (Unsure number)) result
      → Replies sizes request result old new
  was_lost number result s fails says =
      let hands = s.1 in
      replied (unsure_reply number) result says
      (inr (inr (record {
        number = number;
        accepted = hands.accepted;
        accepts = hands.answers.1;
        reply = refl;
        machine_is = s.2 ∙ ap (λ (m : Machine). record m { failed = true; noticed = true })
            hands.handed_is;
        failed = fails.unsure tt;
      })))
      (record { rest = s.3; works = λ sure. absurd (cc) })

  pub store_replies : {E : Type 0} (stored : Result ℕ NotStored) (result : Result Reply E)
      → Stores sizes k change Moments stored next → FailsOnly before now stored
      → (MakesNoCall stored → now ≡ before) → ReportsStored told stored result
      → Replies sizes request result old new
  store_replies (Ok number) result s fails same says = was_stored number result s fails says
  store_replies (Err (Refused r)) result s fails same says = was_refused r result s (same tt) says
  store_replies (Err (Unsure n)) result s fails same says = was_lost n result s fails says

module _ {D : Type 0} (view : View D) where
  pub command_replies : {E : Type 0} (request : Option Asked) (told : ℕ → ReplyText) (k : Machine)
      (asked : Change (List ℕ)) (before now : ℕ) (old new : Session D)
      (stored : Result ℕ NotStored) (result : Result Reply E)
      → IsReady k → Fits old.committer.sizes request told asked
      → Storing old.committer.sizes k asked
      (LeavesOnly view old.committer.disk new.committer.disk) stored
      (λ next. SessionMatches next new)
      → FailsOnly before now stored → (MakesNoCall stored → now ≡ before)
      → (MakesNoCall stored → new.committer ≡ old.committer) → ReportsStored told stored result
      → ReachesServed (Replies old.committer.sizes request result (served k before)) now
      (MayProgress view k old new)
  command_replies request told k asked before now old new stored result ready fits s
      fails same none
      says =
      record {
        next = s.reaches.next;
        does = store_replies old.committer.sizes request told k asked
            (LeavesOnly view old.committer.disk new.committer.disk) before now ready
            fits s.change s.asks s.reaches.next stored result s.reaches.does fails same says;
        matches = stored_goes_on view k s.reaches.next old new s.change ready s.reaches.matches
            stored s.reaches.does none;
      }

-- ---- lookup

pub finds_none : (sizes : Sizes) (loader word name : List ℕ) (k : Machine) (failures : ℕ)
    → unescaped word ≡ Some name → Finds sizes k loader name None
    → AnswersAsked sizes (Some (AsksFind loader word)) (served k failures) none_reply
    (served k failures)
finds_none sizes loader word name k failures spelled finds =
    subst (λ o. AnswersFind sizes loader o (served k failures) none_reply (served k failures))
    (sym spelled) (record { found = None; finds = finds; tells = refl; same = refl })

pub finds_class : (sizes : Sizes) (loader word name words : List ℕ) (c : ClassFile) (k : Machine)
    (failures : ℕ)
    → unescaped word ≡ Some name → Finds sizes k loader name (Some words) → IsRecordOf c words
    → AnswersAsked sizes (Some (AsksFind loader word)) (served k failures)
    (class_reply name c (length words)) (served k failures)
finds_class sizes loader word name words c k failures spelled finds laid =
    subst (λ o. AnswersFind sizes loader o (served k failures) (class_reply name c (length words))
    (served k failures))
    (sym spelled)
    (record { found = Some words; finds = finds; tells = (c, laid, refl); same = refl })

-- a class that is found
pub replies_found : {E : Type 0} (sizes : Sizes) (loader word name words : List ℕ) (k : Machine)
    (failures : ℕ) (result : Result Reply E)
    → IsReady k → unescaped word ≡ Some name → Finds sizes k loader name (Some words)
    → ((c : ClassFile) → IsRecordOf c words
    → IfOk result (IsReply (class_reply name c (length words)))) → OnOk result (IsRecord words)
    → Replies sizes (Some (AsksFind loader word)) result (served k failures) (served k failures)
replies_found sizes loader word name words k failures (Ok reply) ready spelled finds says laid =
    let c = laid.0 in (
      class_reply name c (length words),
      says c laid.1,
      finds_class sizes loader word name words c k failures spelled finds laid.1,
      record { rest = ready.rest; works = λ sure. ready.works },
    )
replies_found sizes loader word name words k failures (Err e) ready spelled finds says laid =
    inl refl

pub answers_bad_name : (sizes : Sizes) (loader word : List ℕ) (old : Served)
    → unescaped word ≡ None
    → AnswersAsked sizes (Some (AsksFind loader word)) old bad_line_reply old
answers_bad_name sizes loader word old spelled =
    subst (λ o. AnswersFind sizes loader o old bad_line_reply old) (sym spelled) (refl, refl)
