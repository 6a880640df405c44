-- Which groups may come next, by tests.
-- For `take_group`.
use Rattle.std.proofs.Common.{◌≡◌, ℕ, ◌+◌, ◌^◌, ◌≤◌, Bool, true, false, List, [], length, sym, ◌∙◌}
use Rattle.std.proofs.Common.{arith}
use Rattle.std.specs.Prelude.{◌==◌, ◌&&◌, ◌↔◌, IsTrue}
use Rattle.std.proofs.lemmas.Bool.{eqb-true, eq-eqb, and_parts, and_from}
use Rattle.cm_pool.specs.Geometry.{Sizes, IsGeometry}
use Rattle.cm_layout.specs.declared.row.Row.{Row}
use Rattle.cm_state.specs.State.{words_show}
use Rattle.cm_state.specs.Entries.{AreCacheRows}
use Rattle.cm_group.specs.Groups.{Handed, IsGroup}
use Rattle.cm_commit.specs.Offers.{MayCome}
use Rattle.cm_commit.specs.Joining.{may_join, AllMoveThem}
use Rattle.cm_commit.proofs.Joins.{joins_where, may_where, moves_where}

-- it begins one past the last command
abbrev pub goes_on : ℕ → Handed → Bool
goes_on number group = group.first == number + 1

module _ (sizes : Sizes) (number : ℕ) (rows : List (Row (List ℕ))) (group : Handed) where
  begins : goes_on number group ≡ true → group.first ≡ number + 1
  begins on = eqb-true group.first (number + 1) on

  pub ends : IsGroup group → goes_on number group ≡ true → number + length group.entries ≤ 2 ^ 63
  ends is on = omega (arith, is.numbers, begins on)

  -- if it doesn't, it may not come
  pub stays_out : goes_on number group ≡ false
      → IsTrue false ↔ MayCome sizes rows number group
  stays_out on = (
    λ t. absurd (cc),
    λ come. sym on ∙ eq-eqb group.first (number + 1) come.begins,
  )

  -- if it does, it may come exactly if its entries may join, and carry the records that move
  pub comes : IsGeometry sizes → AreCacheRows words_show sizes number rows → IsGroup group
      → goes_on number group ≡ true → (joins moves : Bool)
      → joins ≡ may_join sizes rows number group.entries
      → IsTrue moves ↔ AllMoveThem rows [] group.entries
      → IsTrue (joins && moves) ↔ MayCome sizes rows number group
  comes g cache is on joins moves same them = (
    λ t.
        let both = and_parts joins moves t in
        record {
          begins = begins on;
          ends = ends is on;
          entries = joins_where sizes number rows group.entries g (ends is on) cache
              (sym same ∙ both.0) (them.0 both.1);
        },
    λ come. and_from joins moves
        (same ∙ may_where sizes number rows group.entries cache come.entries)
        (them.1 (moves_where sizes number rows group.entries cache come.entries)),
  )

  -- if they may not join, it may not come
  pub comes_not : AreCacheRows words_show sizes number rows → (joins : Bool)
      → joins ≡ may_join sizes rows number group.entries → joins ≡ false
      → IsTrue joins ↔ MayCome sizes rows number group
  comes_not cache joins same off = (
    λ t. absurd (let no : true ≡ false = sym t ∙ off in cc),
    λ come. same ∙ may_where sizes number rows group.entries cache come.entries,
  )
