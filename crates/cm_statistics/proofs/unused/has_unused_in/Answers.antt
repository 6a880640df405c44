use Rattle.std.proofs.Common.{◌≡◌, ℕ, ◌*◌, ◌<◌, ◌/◌, ◌≤◌, false, sym, ap, ◌∙◌, subst}
use Rattle.cm_pool.specs.Geometry.{Sizes}
use Rattle.cm_pool.specs.Chunks.{chunk_size}
use Rattle.cm_statistics.specs.Unused.{is_free, chunk_from}
use Rattle.cm_statistics.proofs.Aligned.{none_left}
use Rattle.cm_statistics.proofs.unused.has_unused_in.Goals as goal

pub returns-clause-has : goal.returns-clause-has
returns-clause-has c =
    let root : c.root_words.result ≡ chunk_size c.args.rows.now.sizes.top =
    c.root_words.ensures ∙ ap (λ (s : Sizes). chunk_size s.top) (sym c.requires.sizes) in
    let all : chunk_size c.args.rows.now.sizes.top / chunk_size c.args.order
    ≤ c.loop-index.index =
    subst (λ (n : ℕ). n / chunk_size c.args.order ≤ c.loop-index.index) root
    (subst (λ (n : ℕ). c.root_words.result / n ≤ c.loop-index.index)
    c.chunk_words-size.ensures c.loop-index-test.false) in (
      λ no. absurd (cc),
      λ h. absurd (none_left c.args.rows.now c.args.order c.args.root
          c.loop-index.index (subst (λ (size : ℕ). (j : ℕ) → j < c.loop-index.index
          → is_free c.args.rows.now (chunk_from c.args.order c.args.root (j * size)) ≡ false)
          c.chunk_words-size.ensures c.loop-index.invariant.none) all h),
    )
