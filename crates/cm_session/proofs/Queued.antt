-- Groups that wait.
-- For `join_next`.
use Rattle.std.proofs.Common.{◌≡◌, ℕ, ◌+◌, List, [], ◌∷◌, ◌++◌, length, ap, subst, ◌∙◌, arith}
use Rattle.std.proofs.Common.{append-nil, append_assoc}
use Rattle.std.proofs.lemmas.Grind.{flat_map-append}
use Rattle.std.proofs.lemmas.List.{length-append}
use Rattle.cm_group.specs.Groups.{Handed, IsGroup, joined_group}
use Rattle.cm_session.specs.Session.{commands_of, AreConsecutive}

pub commands_more : (groups : List Handed) (group : Handed)
    → commands_of (groups ++ group ∷ []) ≡ commands_of groups ++ group.entries
commands_more groups group =
    flat_map-append (λ (g : Handed). g.entries) groups (group ∷ [])
    ∙ ap (λ l. commands_of groups ++ l) (append-nil group.entries)

pub behind_more : (n : ℕ) (groups : List Handed) (group : Handed) → AreConsecutive n groups
    → group.first ≡ n + length (commands_of groups) + 1 → IsGroup group
    → AreConsecutive n (groups ++ group ∷ [])
behind_more n [] group behind first is = (omega (arith, first), is, tt)
behind_more n (g ∷ groups) group behind first is = (
  behind.0,
  behind.1,
  behind_more (n + length g.entries) groups group behind.2
      (let long = length-append g.entries (commands_of groups) in omega (arith, first, long)) is,
)

-- ---- two groups in one

pub commands_joined : (one two : Handed) (rest : List Handed)
    → commands_of (joined_group one two ∷ rest) ≡ commands_of (one ∷ two ∷ rest)
commands_joined one two rest = append_assoc one.entries two.entries (commands_of rest)

pub behind_joined : (n : ℕ) (one two : Handed) (rest : List Handed) → IsGroup (joined_group one two)
    → AreConsecutive n (one ∷ two ∷ rest) → AreConsecutive n (joined_group one two ∷ rest)
behind_joined n one two rest is behind = (
  behind.0,
  is,
  subst (λ (m : ℕ). AreConsecutive m rest)
      (let long = length-append one.entries two.entries in omega (arith, long)) behind.2.2,
)
