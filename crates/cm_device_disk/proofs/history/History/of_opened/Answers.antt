use Rattle.std.proofs.Common.{◌≡◌, ◌∙◌, ◌∷◌, ◌<◌, List, ℕ, length, drop, map, ap, sym}
use Rattle.std.proofs.Common.{subst, arith, true, suc, get_or, ◌+◌}
use Rattle.std.proofs.Math.Seq.{drop-cons}
use Rattle.std.specs.List.{All}
use Rattle.std.proofs.lemmas.List.{take_all, drop_all}
use Rattle.std.proofs.lemmas.List.Elements.{All-from_recursion, recursion_from_All, All-more}
use Rattle.cm_device_disk.specs.declared.word_run.WordRun.{WordRun}
use Rattle.cm_device_disk.specs.State.{DiskState, opened_state}
use Rattle.cm_device_disk.specs.Runs.{are_ranges, range_of, IsOf, TellsWords, with_words, with_runs}
use Rattle.cm_device_disk.proofs.RunBytes.{ArePut, runs_put, ranges_end}
use Rattle.cm_device_disk.proofs.history.History.of_opened.Goals as goal

-- one run more
on : (runs : List WordRun) (i : ℕ) (run : WordRun) (now next start : List ℕ) → i < length runs
    → run ≡ get_or runs i run → next ≡ with_words run.at run.words now
    → with_runs (drop i runs) now ≡ start → with_runs (drop (i + 1) runs) next ≡ start
on runs i run now next start lt is next_is so_far =
    ap (with_runs (drop (i + 1) runs)) next_is
    ∙ (sym (ap (λ (l : List WordRun). with_runs l now)
    (drop-cons runs i run lt
    ∙ (λ k. sym is k ∷ drop (suc_is i k) runs))) ∙ so_far)
  where
    suc_is : (i : ℕ) → suc i ≡ i + 1
    suc_is i = omega arith

pub loop-run-preserved : goal.loop-run-preserved
loop-run-preserved c =
    let l = c.loop-run in
    let runs = c.args.runs.now in
    let i = l.run-index in
    let run = c.run-item.result in
    let state = c.note_run.ensures.state in
    let next = ap (λ (s : DiskState). s.now.bytes) state in
    record {
      opened = state ∙ ap opened_state (sym next);
      bytes = on runs i run l.history.state.now.bytes c.note_run.new.self.state.now.bytes
          (with_runs runs c.note.new.self.state.now.bytes) c.loop-run-test.true c.run-item.is next
          l.invariant.bytes;
      told = All-more TellsWords runs i run c.loop-run-test.true l.invariant.told
          (subst TellsWords c.run-item.is c.note_run.ensures.told);
    }

-- what stands after the last one
are_put : (c : goal.After-loop-run)
    → ArePut (length c.args.beginning.now) c.args.runs.now c.note.new.self.state.now.bytes
    c.loop-run.history.state.now.bytes
are_put c =
    let l = c.loop-run in
    let runs = c.args.runs.now in
    let start = c.note.new.self.state.now.bytes in
    let front = length c.args.beginning.now in
    let left = c.note.ensures.left in
    let ends = ranges_end front c.args.len (map range_of runs) c.requires.runs in
    let opened = left.0 ends in
    let told = subst (All TellsWords) (take_all l.run-index runs c.loop-run-test.false)
    l.invariant.told in
    let done : l.history.state.now.bytes ≡ with_runs runs start =
    ap (λ (rest : List WordRun). with_runs rest l.history.state.now.bytes)
    (sym (drop_all l.run-index runs c.loop-run-test.false)) ∙ l.invariant.bytes in
    subst (ArePut front runs start) (sym done)
    (runs_put c.write_is_read_back.ensures front runs start
    (subst (λ (n : ℕ). are_ranges front n (map range_of runs) ≡ true) (sym opened.length_is)
    c.requires.runs)
    (left.1 (λ i lt. omega (arith, c.type_inv.beginning i)))
    (recursion_from_All _ runs c.requires.full) (recursion_from_All TellsWords runs told))

pub returns-clause-contents : goal.returns-clause-contents
returns-clause-contents c =
    let p = are_put c in
    let ends = ranges_end (length c.args.beginning.now) c.args.len (map range_of c.args.runs.now)
    c.requires.runs in
    let opened = c.note.ensures.left.0 ends in
    record { begins = p.front ∙ opened.begins; length_is = p.size ∙ opened.length_is }

pub returns-clause-words : goal.returns-clause-words
returns-clause-words c =
    All-from_recursion (IsOf c.loop-run.history.state.now.bytes) c.args.runs.now (are_put c).words

pub returns-clause-sound : goal.returns-clause-sound
returns-clause-sound c =
    let p = are_put c in
    let now = c.loop-run.history.state.now.bytes in
    let ends = ranges_end (length c.args.beginning.now) c.args.len (map range_of c.args.runs.now)
    c.requires.runs in
    let opened = c.note.ensures.left.0 ends in
    let long = p.size ∙ opened.length_is in
    rw c.loop-run.invariant.opened
    (record {
      least = omega arith;
      greatest = omega (arith, long, c.requires.within_limit);
      limit = omega arith;
      bytes = p.bytes;
    })
