use Rattle.std.proofs.Common.{◌≡◌, Bor, List, ℕ, map, drop, take, length}
use Rattle.cm_layout.specs.Names.{unload_limit}
use Rattle.cm_front.specs.Refusing.{numbers_of}
use Rattle.cm_front.proofs.NameNumbers.{with_front}
use Rattle.cm_front.proofs.front.Front.numbers_of.Given as goal

abbrev pub invariant-loop-at : goal.invariant-loop-at
invariant-loop-at l =
    record {
      room : length l.numbers ≡ unload_limit;
      sofar : with_front (take l.at l.numbers)
          (numbers_of (map (λ (name : Bor (List ℕ)). name.now) (drop l.at l.names)) l.self.rows)
          ≡ numbers_of (map (λ (name : Bor (List ℕ)). name.now) l.names) l.self.rows;
    }
