use Rattle.std.proofs.Common.{◌≡◌, ℕ, List, rules}
use Rattle.std.specs.List.Sorted.{IsNonDecreasing, IsPermutation}
use Rattle.std.proofs.lemmas.List.Sorted.{IsNonDecreasingBy-from_sort}
use Rattle.std.proofs.lemmas.List.Elements.{same_from_all_zip}
use Rattle.std.proofs.lemmas.Result.{IfOk-weaker}
use Rattle.cm_duplicates.specs.Fingerprints.{HasRepeated}
use Rattle.cm_duplicates.proofs.Repeating.{has_repeated}
use Rattle.cm_duplicates.proofs.repeated.find_repeats.Goals as goal

pub repeats_in-requires : goal.repeats_in-requires
repeats_in-requires c =
    rw c.deref.ensures.value
    (IsNonDecreasingBy-from_sort (λ n. n) c.sort_unstable.new.self.items
    c.sort_unstable.ensures.sorted)

pub returns-clause-all : goal.returns-clause-all
returns-clause-all c =
    let numbers : List ℕ = c.args.numbers.now in
    let sorted : List ℕ = c.sort_unstable.new.self.items in
    let same : c.in_ok-sorted.sorted.items ≡ numbers = search (rules, same_from_all_zip) in
    let permuted : IsPermutation numbers sorted = rw same at c.sort_unstable.ensures.permutation in
    let up : IsNonDecreasing sorted =
    IsNonDecreasingBy-from_sort (λ n. n) sorted c.sort_unstable.ensures.sorted in
    IfOk-weaker c.repeats_in.result _ (λ r. HasRepeated numbers r.items)
    (λ r h. has_repeated sorted r.items up (rw c.deref.ensures.value at h) numbers permuted)
    c.repeats_in.ensures.all
