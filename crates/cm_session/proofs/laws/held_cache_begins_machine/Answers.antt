use Rattle.std.proofs.Common.{◌≡◌, ℕ, ◌-◌, [], take, Some, sym, ap, subst, arith}
use Rattle.cm_commands.specs.Machine.{Base, Holds}
use Rattle.cm_session.proofs.laws.held_cache_begins_machine.Goals as goal

pub returns : goal.returns
returns c = λ sizes contents state arenas number stands.
    let base : Base = record { state = state; number = number } in
    let zero : number - number ≡ 0 = omega arith in
    let begun : Holds sizes base [] state = ap (λ (n : ℕ). Some (state, n)) (omega arith) in
    record {
      number = number;
      least = omega arith;
      most = omega arith;
      stands = record {
        from = omega arith;
        known = omega arith;
        state = state;
        arenas = arenas;
        stands = stands;
        holds = subst (λ (n : ℕ). Holds sizes base (take n []) state) (sym zero) begun;
      };
    }
