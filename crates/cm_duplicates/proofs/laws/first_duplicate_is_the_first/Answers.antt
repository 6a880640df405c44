use Rattle.cm_duplicates.proofs.FirstDuplicate.{found_is_first, first_from, none_found, none_from}
use Rattle.cm_duplicates.proofs.laws.first_duplicate_is_the_first.Goals as goal

pub returns-clause-some : goal.returns-clause-some
returns-clause-some c =
    λ class members place. (found_is_first class members place, first_from class members place)

pub returns-clause-none : goal.returns-clause-none
returns-clause-none c = λ class members. (none_found class members, none_from class members)
