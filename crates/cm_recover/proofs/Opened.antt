-- What a file stands for has all that the accepted cache and its committer are made from.
-- For `open` and others.
use Rattle.std.proofs.Common.{◌≡◌, ℕ, ◌+◌, ◌^◌, ◌<◌, ◌≤◌, Bool, true, false, cond, List, [], ◌∷◌}
use Rattle.std.proofs.Common.{◌++◌, length, drop, Some, None, Ok, refl, sym, ap, subst, ◌∙◌}
use Rattle.std.proofs.Common.{arith, eqb, is_some}
use Rattle.std.specs.Prelude.{◌&&◌, nat_lt}
use Rattle.std.proofs.lemmas.Bool.{lt-ltb, ltb-true, le-ltb}
use Rattle.std.specs.FinMap as map
use Rattle.std.specs.List.{AllByRecursion}
use Rattle.std.specs.Str.{bytes_eq}
use Rattle.std.proofs.lemmas.List.{map-append}
use Rattle.cm_class.specs.declared.class_file.ClassFile.{ClassFile}
use Rattle.cm_class.specs.Names.{class_name_of}
use Rattle.cm_record.specs.Layout.{lay}
use Rattle.cm_record.specs.Names.{WordsTellName}
use Rattle.cm_pool.specs.Geometry.{Sizes, IsGeometry}
use Rattle.cm_layout.specs.declared.half.Half.{Half}
use Rattle.cm_layout.specs.declared.heads.HalfHead.{HalfHead}
use Rattle.cm_layout.specs.declared.row.Row.{Row}
use Rattle.cm_layout.specs.Offsets.{roots_at}
use Rattle.cm_layout.specs.declared.row.Row.TheVariants.{Loader, Class}
use Rattle.cm_layout.specs.declared.class_row.ClassRow.{ClassRow}
use Rattle.cm_layout.specs.Rows.{rows_with, row_with, bare, classes_in}
use Rattle.cm_layout.specs.Frames.{BareRow, LiveRowsKeep, HoldsRow, IsGoodHead, entry_version}
use Rattle.cm_layout.specs.Laws.{IsFramed as FramesRows}
use Rattle.cm_layout.specs.Framing.{IsRightFraming, Matches}
use Rattle.cm_commit.proofs.{end_is as ends_with_slots, shows_cache}
use Rattle.cm_state.specs.State.{NamesDiffer, class_shows, words_show, class_among}
use Rattle.cm_state.specs.Stands.{EachKeepsRules, arenas_among, chunks_of as chunks_begun}
use Rattle.cm_state.specs.Entries.{AreCacheRows}
use Rattle.cm_group.specs.Groups.{AreRight}
use Rattle.cm_verdict.specs.Found.{Found}
use Rattle.cm_verdict.specs.Verdict.{Standing, verdict}
use Rattle.cm_verdict.specs.Laws.{FoundIsLive, FoundIsFramed, VerdictStands, Proves, IsFramed}
use Rattle.cm_verdict.specs.Laws.{IsLive}
use Rattle.cm_verdict.proofs.{bare_words, place_of, short_enough, more_named}
use Rattle.std.specs.Arc.{arc_value}
use Rattle.cm_disk.specs.Disk.{Unsynced, IsDurable}
use Rattle.cm_rows.specs.Rows.{LiveRows}
use Rattle.cm_commit.specs.declared.journal_end.JournalEnd.{JournalEnd}
use Rattle.cm_commit.specs.GroupPlans.{whole_roots}
use Rattle.cm_commit.specs.Committed.{journal_of}
use Rattle.cm_commit.specs.Checkpoints.{renewed_journal}
use Rattle.cm_commit.specs.Renewals.{MayRenew}
use Rattle.cm_commit.specs.Laws.{OthersAreTold}
use Rattle.cm_verdict.specs.Opening.{other_is_open}
use Rattle.cm_commit.specs.Keeps.{IsHeld}
use Rattle.cm_guards.specs.Stages.{Stage, leaves}
use Rattle.cm_commit.specs.States.{CommitterState, MayLeave, ShowsCache, ShowsCommitted}
use Rattle.cm_commit.specs.States.{ShowsWith}
use Rattle.cm_front.specs.Front.{FrontState, IsFront}
use Rattle.cm_front.specs.Arenas.{ArenasAreOfRows, chunks_owned}
use Rattle.cm_front.specs.Restoring.{Restores}
use Rattle.cm_recover.specs.declared.standing.StandingFile.{StandingFile}
use Rattle.cm_verdict.specs.Standing.{TellNames, ReportsOk}
use Rattle.cm_recover.specs.Standing.{IsStanding}
use Rattle.cm_recover.specs.Opened.{Opens, arenas_by_name, AreShort, OpensStanding, found_journal}
use Rattle.cm_recover.specs.Opened.{is_older, opened_journal, IsOlderFile, StandsForSame}

-- ---- records

pub are_short : (sizes : Sizes) → IsGeometry sizes → (n : ℕ) (roots : List ℕ) (pre : List BareRow)
    (rows : List (Row (List ℕ))) → LiveRowsKeep sizes n pre (bare rows)
    → AllByRecursion (HoldsRow sizes roots) rows → AreShort rows
are_short sizes g n roots pre [] live held = tt
are_short sizes g n roots pre (Loader r ∷ rows) live held =
    are_short sizes g n roots (pre ++ Loader r ∷ []) rows live.2 held.1
are_short sizes g n roots pre (Class r words ∷ rows) live held = (
  let short = short_enough sizes r.place (place_of sizes g n pre r live.1) in
      let count = held.0.count in
      omega (arith, short, count),
  are_short sizes g n roots (pre ++ Class r (tt {0}) ∷ []) rows live.2 held.1,
)

tell_names : WordsTellName → (classes : List (Row ClassFile)) → EachKeepsRules classes
    → AreShort (rows_with lay classes) → TellNames classes
tell_names tells [] kept short = tt
tell_names tells (Loader r ∷ rows) kept short = tell_names tells rows kept short
tell_names tells (Class r c ∷ rows) kept short = (
  tells c (lay c) (record { spelled = kept.0.spelled; laid = refl; short = short.0 }),
  tell_names tells rows kept.1 short.1,
)

pub are_right : (classes : List (Row ClassFile)) → EachKeepsRules classes
    → AreRight (rows_with lay classes)
are_right [] kept = tt
are_right (Loader r ∷ rows) kept = are_right rows kept
are_right (Class r c ∷ rows) kept = ((c, kept.0, refl), are_right rows kept.1)

-- ---- arenas

-- the places of classes don't depend on what is kept of them
same_places : (rows : List (Row ClassFile)) → classes_in (rows_with lay rows) ≡ classes_in rows
same_places [] = refl
same_places (Loader r ∷ rows) = same_places rows
same_places (Class r c ∷ rows) = ap (λ l. r ∷ l) (same_places rows)

-- arenas by their loaders' names, given that they are those of the loaders' numbers
arenas_told : (front : FrontState) (classes : List ClassRow)
    → ((u : ℕ) → chunks_owned front u ≡ chunks_begun u classes) → (rows : List (Row ClassFile))
    → arenas_by_name rows front ≡ arenas_among classes rows
arenas_told front classes each [] = refl
arenas_told front classes each (Loader r ∷ rows) =
    (λ i. map.insert (arenas_told front classes each rows i) r.name (each r.number i))
arenas_told front classes each (Class r c ∷ rows) = arenas_told front classes each rows

-- ---- names

no_class : (u : ℕ) (x : List ℕ) (rows : List (Row ClassFile)) → TellNames rows
    → class_among class_shows u x rows ≡ None
    → class_among words_show u x (rows_with lay rows) ≡ None
no_class u x [] named none = refl
no_class u x (Loader r ∷ rows) named none = no_class u x rows named none
no_class u x (Class r c ∷ rows) named none =
    ap (λ (name : List ℕ). cond (eqb r.loader u && bytes_eq name x) (Some (lay c))
    (class_among words_show u x (rows_with lay rows))) named.0
    ∙ by_test (eqb r.loader u && bytes_eq (class_name_of c) x) (no_class u x rows named.1) none
  where
    by_test : (t : Bool)
        → (class_among class_shows u x rows ≡ None
        → class_among words_show u x (rows_with lay rows) ≡ None)
        → cond t (Some c) (class_among class_shows u x rows) ≡ None
        → cond t (Some (lay c)) (class_among words_show u x (rows_with lay rows)) ≡ None
    by_test true rest e = absurd (cc)
    by_test false rest e = rest e

names_before : (before : List (Row ClassFile)) (row : Row ClassFile)
    (rows : List (Row (List ℕ)))
    → NamesDiffer words_show (rows_with lay (before ++ row ∷ [])) rows
    → NamesDiffer words_show (rows_with lay before ++ row_with lay row ∷ []) rows
names_before before row rows =
    subst (λ (l : List (Row (List ℕ))). NamesDiffer words_show l rows)
    (map-append (row_with lay) before (row ∷ []))

names_differ : (before rows : List (Row ClassFile)) → TellNames before → TellNames rows
    → NamesDiffer class_shows before rows
    → NamesDiffer words_show (rows_with lay before) (rows_with lay rows)
names_differ before [] told named differ = tt
names_differ before (Loader r ∷ rows) told named differ =
    names_before before (Loader r) (rows_with lay rows)
    (names_differ (before ++ Loader r ∷ []) rows (more_named before (Loader r) told tt)
    named differ)
names_differ before (Class r c ∷ rows) told named differ = (
  ap (λ (x : List ℕ). class_among words_show r.loader x (rows_with lay before)) named.0
      ∙ no_class r.loader (class_name_of c) before told differ.0,
  names_before before (Class r c) (rows_with lay rows)
      (names_differ (before ++ Class r c ∷ []) rows
      (more_named before (Class r c) told (named.0, tt))
      named.1 differ.1),
)

-- ---- the file

module _ (live : FoundIsLive) (framed : FoundIsFramed) (stands : VerdictStands)
    (tells : WordsTellName)
    (contents : List ℕ) (s : Standing) (e : verdict contents ≡ Ok s) where
  abbrev found : Found
  found = s.found

  abbrev p : Proves contents s
  p = stands contents s e

  abbrev b : IsFramed contents found
  b = framed contents found p.found p.whole

  abbrev l : IsLive contents found
  l = live contents found p.found

  right_here : IsRightFraming found.sizes b.framing (rows_with lay s.rows) found.number
  right_here =
      subst (λ (rows : List (Row (List ℕ))). IsRightFraming found.sizes b.framing rows found.number)
      (sym p.words) b.right

  match_here : Matches found.sizes b.framing (rows_with lay s.rows) contents
  match_here =
      subst (λ (rows : List (Row (List ℕ))). Matches found.sizes b.framing rows contents)
      (sym p.words) b.matches

  live_here : LiveRowsKeep found.sizes found.number [] (bare (rows_with lay s.rows))
  live_here =
      subst (LiveRowsKeep found.sizes found.number [])
      (sym (ap (λ (rows : List (Row (List ℕ))). bare rows) p.words
      ∙ bare_words found.sizes contents found.rows)) l.live

  named : TellNames s.rows
  named =
      tell_names tells s.rows p.kept
      (are_short found.sizes l.lawful found.number (drop (roots_at found.sizes) contents) []
      (rows_with lay s.rows) live_here
      match_here.records)

  pub opened : OpensStanding contents s (rows_with lay s.rows)
  opened = record {
    framing = b.framing;
    counting_is = b.counting_is;
    head_is = b.head_is;
    end_is =
        let used = ends_with_slots found.sizes b.framing right_here.good in
        let end = b.end_is in
        omega (arith, used, end);
    right = right_here;
    matches = match_here;
    cache = record {
      live = live_here;
      apart = right_here.apart;
      differ = names_differ [] s.rows tt named p.differ;
    };
    records = are_right s.rows p.kept;
    number_is = l.number;
    lawful = l.lawful;
  }

-- ---- in memory

module _ (live : FoundIsLive) (framed : FoundIsFramed) (stands : VerdictStands)
    (tells : WordsTellName) (others : OthersAreTold)
    (contents : List ℕ) (file : StandingFile)
    (t : ReportsOk (IsStanding contents) (verdict contents) file) where
  abbrev told : Standing
  told = t.told

  o : OpensStanding contents told (rows_with lay told.rows)
  o = opened live framed stands tells contents told t.verdict_is

  pub front_rows : AreCacheRows words_show file.rows.sizes file.journal.number file.rows.rows
  front_rows =
      subst (λ (n : ℕ). AreCacheRows words_show file.rows.sizes n file.rows.rows)
      (sym t.alike.number)
      (subst (λ (l : LiveRows (List ℕ)). AreCacheRows words_show l.sizes told.found.number l.rows)
      (sym t.alike.rows) o.cache)

  pub front_right : AreRight file.rows.rows
  front_right = subst (λ (l : LiveRows (List ℕ)). AreRight l.rows) (sym t.alike.rows) o.records

  pub front_last : file.journal.number ≤ 2 ^ 63
  front_last = let n = t.alike.number in omega (arith, n, o.number_is)

  abbrev journal_told : JournalEnd
  journal_told = found_journal contents told

  pub journal_is : file.journal ≡ journal_told
  journal_is = λ i. record {
    geometry = t.alike.geometry i;
    half = t.alike.half i;
    end = t.alike.end i;
    epoch = t.alike.epoch i;
    other_open = t.alike.other i;
    number = t.alike.number i;
  }

  -- the byte at the other half's gate says whether it is open
  goes_on : journal_told ≡ journal_of (record {
    sizes = told.found.sizes;
    rows = rows_with lay told.rows;
    number = told.found.number;
    framing = o.framing;
  })
  goes_on =
      let other : other_is_open told.found.sizes told.found.half contents
      ≡ is_some o.framing.older =
      ap (λ (h : Half). other_is_open told.found.sizes h contents) (sym o.counting_is)
      ∙ sym (others (record {
        sizes = told.found.sizes;
        rows = rows_with lay told.rows;
        number = told.found.number;
        framing = o.framing;
      }) contents o.matches) in
      λ i. record {
        geometry = told.found.sizes;
        half = sym o.counting_is i;
        end = sym o.end_is i;
        epoch = sym (ap (λ (h : HalfHead). h.epoch) o.head_is) i;
        other_open = other i;
        number = told.found.number;
      }

  pub held : (version : ℕ) → told.found.head.version ≡ version → (now : List ℕ)
      (unsynced : Unsynced) → IsDurable now unsynced → now ≡ contents
      → IsHeld now unsynced file.journal (rows_with arc_value file.committed.rows) file.roots
      version
  held version version_is now unsynced durable same =
      rw (t.alike.committed, t.alike.roots)
      (subst (λ (j : JournalEnd). IsHeld now unsynced j (rows_with lay told.rows)
      (whole_roots told.found.sizes (length contents)) version) (sym journal_is)
      (record {
        durable = durable;
        framing = o.framing;
        version_is = ap (λ (h : HalfHead). h.version) o.head_is ∙ version_is;
        journal_is = goes_on;
        right = o.right;
        matches = subst (Matches told.found.sizes o.framing (rows_with lay told.rows)) (sym same)
            o.matches;
        cache = o.cache;
        records = o.records;
        number_is = o.number_is;
        roots_are = ap (λ (l : List ℕ). whole_roots told.found.sizes (length l)) (sym same);
      }))

  -- ---- its version

  head_good : IsGoodHead told.found.sizes told.found.head
  head_good = subst (IsGoodHead told.found.sizes) o.head_is o.right.good.head

  -- if the version is the one written now, the journal continues as it was found
  pub version_now : 2 ≤ file.version
      → (told.found.head.version ≡ entry_version) × (file.journal ≡ opened_journal contents told)
  version_now least =
      let is = t.alike.version in
      let most : told.found.head.version ≤ 2 = head_good.version_to in
      let no_less : nat_lt told.found.head.version 2 ≡ false =
      le-ltb told.found.head.version 2 (omega (arith, least, is)) in (
        omega (arith, least, is, most),
        journal_is
            ∙ ap (λ (b : Bool). cond b
            (renewed_journal journal_told (bare (rows_with lay told.rows))) journal_told)
            (sym no_less),
      )

  module _ (before : file.version < 2) where
    older : is_older told ≡ true
    older =
        let is = t.alike.version in
        lt-ltb told.found.head.version 2 (omega (arith, before, is))

    pub older_file : IsOlderFile contents
    older_file = record { standing = told; verdict_is = t.verdict_is; older = older }

    pub may_renew : (unsynced : Unsynced) → IsDurable contents unsynced
        → MayRenew contents unsynced file.journal (rows_with arc_value file.committed.rows)
    may_renew unsynced durable = record {
      version = told.found.head.version;
      held = subst (λ (roots : ℕ). IsHeld contents unsynced file.journal
          (rows_with arc_value file.committed.rows) roots told.found.head.version)
          (t.alike.roots
          ∙ ap (λ (z : Sizes). whole_roots z (length contents)) (sym t.alike.geometry))
          (held told.found.head.version refl contents unsynced durable refl);
      epoch =
          let less = ltb-true told.found.head.version 2 older in
          let epoch = t.alike.epoch in
          let number = t.alike.number in
          let base = ap (λ (h : HalfHead). h.base) o.head_is in
          let last = o.right.number_is in
          let most : told.found.head.epoch ≤ told.found.head.base + told.found.head.version =
          head_good.epoch_to in
          omega (arith, less, epoch, number, base, last, most);
    }

    pub renewed_told : (j : JournalEnd)
        → j ≡ renewed_journal file.journal (bare (rows_with arc_value file.committed.rows))
        → j ≡ opened_journal contents told
    renewed_told j is =
        is
        ∙ ((λ i. renewed_journal (journal_is i) (bare (t.alike.committed i)))
        ∙ ap (λ (b : Bool). cond b (renewed_journal journal_told (bare (rows_with lay told.rows)))
        journal_told) (sym older))

    pub roots_told : (now : List ℕ) (unsynced : Unsynced) (j : JournalEnd)
        → IsHeld now unsynced j (rows_with arc_value file.committed.rows)
        (whole_roots file.journal.geometry (length contents)) entry_version
        → IsHeld now unsynced j (rows_with arc_value file.committed.rows) file.roots entry_version
    roots_told now unsynced j =
        subst (λ (roots : ℕ). IsHeld now unsynced j (rows_with arc_value file.committed.rows) roots
        entry_version)
        (ap (λ (z : Sizes). whole_roots z (length contents)) t.alike.geometry ∙ sym t.alike.roots)

  -- what frames these rows and this number stands for the same cache
  pub same_framed : (image : List ℕ)
      → FramesRows file.journal.geometry image (rows_with arc_value file.committed.rows)
      file.journal.number
      → StandsForSame contents image
  same_framed image framed =
      let here : FramesRows told.found.sizes image (rows_with lay told.rows) told.found.number =
      subst (λ (x : Sizes × (List (Row (List ℕ)) × ℕ)). FramesRows x.0 image x.1.0 x.1.1)
      (λ i. (t.alike.geometry i, (t.alike.committed i, t.alike.number i))) framed in
      record {
        standing = told;
        verdict_is = t.verdict_is;
        shows = shows_cache (record {
          sizes = told.found.sizes;
          rows = rows_with lay told.rows;
          number = told.found.number;
          framing = here.framing;
        }) image here.right o.records o.cache.differ
            here.matches;
      }

  -- the contents themselves stand for the same cache
  pub framed_here : StandsForSame contents contents
  framed_here =
      let here : FramesRows told.found.sizes contents (rows_with lay told.rows)
      told.found.number = record { framing = o.framing; right = o.right; matches = o.matches } in
      same_framed contents
      (subst (λ (x : Sizes × (List (Row (List ℕ)) × ℕ)). FramesRows x.0 contents x.1.0 x.1.1)
      (λ i. (sym t.alike.geometry i, (sym t.alike.committed i, sym t.alike.number i))) here)

  -- ---- once it is opened

  pub opens : {D : Type 0} (arenas : ArenasAreOfRows) (disk : D) (front : FrontState)
      (committer : CommitterState D) (journal : JournalEnd) → IsFront front
      → Restores file.rows file.journal.number front
      → journal ≡ opened_journal contents told
      → committer ≡ record {
        disk = disk;
        sizes = journal.geometry;
        rows = rows_with arc_value file.committed.rows;
        number = journal.number;
        half = journal.half;
        end = journal.end;
        epoch = journal.epoch;
        other_open = journal.other_open;
        underway = None;
        left = [];
        broken = false;
      }
      → Opens contents front committer
  opens {D = D} arenas disk front committer journal is restored goes made = record {
    standing = told;
    verdict_is = t.verdict_is;
    stands = (stands contents told t.verdict_is).stands;
    front_is = subst (λ (n : ℕ). Restores (record {
      sizes = told.found.sizes;
      rows = rows_with lay told.rows;
    }) n front) t.alike.number
        (subst (λ (l : LiveRows (List ℕ)). Restores l file.journal.number front) t.alike.rows
        restored);
    arenas_are = arenas_told front (classes_in told.rows)
        (λ u. arenas front is u ∙ (ap (λ (f : FrontState). chunks_begun u (classes_in f.rows))
        restored.front_is
        ∙ (ap (λ (l : LiveRows (List ℕ)). chunks_begun u (classes_in l.rows)) t.alike.rows
        ∙ ap (chunks_begun u) (same_places told.rows)))) told.rows;
    committer_is = made ∙ (λ i. record {
      disk = sym (ap (λ (c : CommitterState D). c.disk) made) i;
      sizes = (ap (λ (j : JournalEnd). j.geometry) goes ∙ same_region) i;
      rows = t.alike.committed i;
      number = (ap (λ (j : JournalEnd). j.number) goes ∙ same_number) i;
      half = (goes i).half;
      end = (goes i).end;
      epoch = (goes i).epoch;
      other_open = (goes i).other_open;
      underway = None;
      left = [];
      broken = false;
    });
  }
    where
      by_test : (b : Bool) → ((cond b (renewed_journal journal_told
          (bare (rows_with lay told.rows))) journal_told).geometry ≡ told.found.sizes)
          × ((cond b (renewed_journal journal_told (bare (rows_with lay told.rows)))
          journal_told).number ≡ told.found.number)
      by_test true = (refl, refl)
      by_test false = (refl, refl)

      same_region : (opened_journal contents told).geometry ≡ told.found.sizes
      same_region = (by_test (is_older told)).0

      same_number : (opened_journal contents told).number ≡ told.found.number
      same_number = (by_test (is_older told)).1

  pub sizes_told : (journal : JournalEnd) → journal ≡ opened_journal contents told
      → file.committed.sizes ≡ journal.geometry
  sizes_told journal goes =
      t.alike.committed_sizes
      ∙ sym (ap (λ (j : JournalEnd). j.geometry) goes ∙ by_test (is_older told))
    where
      by_test : (b : Bool) → (cond b (renewed_journal journal_told
          (bare (rows_with lay told.rows))) journal_told).geometry ≡ told.found.sizes
      by_test true = refl
      by_test false = refl

-- where the journal continues, for contents that are the same
pub journal_same : (mid contents : List ℕ) → mid ≡ contents → (file : StandingFile)
    (t : ReportsOk (IsStanding contents) (verdict contents) file) (journal : JournalEnd)
    → ((u : ReportsOk (IsStanding mid) (verdict mid) file) → journal ≡ opened_journal mid u.told)
    → journal ≡ opened_journal contents t.told
journal_same mid contents same file t journal goes =
    subst (λ (l : List ℕ). (u : ReportsOk (IsStanding l) (verdict l) file)
    → journal ≡ opened_journal l u.told) same goes t

-- what a crash leaves of a committer that was just opened
pub same_shown : {D : Type 0} (contents : List ℕ) (front : FrontState)
    (committer : CommitterState D) → (o : Opens contents front committer) → (image : List ℕ)
    → MayLeave committer image → StandsForSame contents image
same_shown {D = D} contents front committer o image left =
    let shown : ShowsCommitted committer image =
    subst (λ (l : List Stage). leaves l (ShowsCommitted committer)
    (ShowsWith committer committer.underway) image)
    (ap (λ (c : CommitterState D). c.left) o.committer_is) left in
    record {
      standing = o.standing;
      verdict_is = o.verdict_is;
      shows = subst (λ (x : Sizes × (List (Row (List ℕ)) × ℕ)). ShowsCache x.0 x.1.0 x.1.1 image)
          (λ k. (
            (o.committer_is k).sizes,
            ((o.committer_is k).rows, (o.committer_is k).number),
          )) shown;
    }
